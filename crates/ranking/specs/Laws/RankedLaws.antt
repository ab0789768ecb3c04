-- A ranked table is pinned: each byte of it, and the last separating round. And what is ranked by moves is ranked by
-- other moves that separate the same. Document 01, "Rank" and operation 3. Assumes nothing.
use Rattle.std.specs.Prelude.{List, ◌⊎◌, ◌↔◌, ◌≡◌, ℕ, ◌/◌, ◌%◌, ◌≤◌, ◌<◌, get_or}
use Rattle.std.proofs.Common.{inl, inr, ⊎_elim, sym, ◌∙◌, subst, arith, ext_get_or}
use Rattle.lts.specs.Alike.{Moves, Separated, Rank}
use Rattle.lts.proofs.AlikeLaws.{rank_unique}
use Rattle.lts.proofs.TestsLaws.{lt_or_le}
use Rattle.text.specs.Limits.{state_limit, table_length, pair_place}
use Rattle.text.specs.Lists.{Past}
use Rattle.text.specs.Laws.ListsLaws.{past_get_or}
use Rattle.ranking.specs.Table.{Below, SomePair, Ranks, LastRound, Greatest, Ranked}

-- ---- one table, one answer

-- each place of the table is the place of a pair
place_pair : (i : ℕ) → i < table_length → (p : ℕ) × (q : ℕ) × (p < state_limit) × (q < state_limit) ×
    (i ≡ pair_place p q)
place_pair i l = (i / state_limit, i % state_limit, omega arith, omega arith, omega arith)

pub greatest_unique : (Move : Moves) (Among : ℕ → Type 0) (top top' : ℕ) → Greatest Move Among top
    → Greatest Move Among top' → top ≡ top'
greatest_unique Move Among top top' g h =
    let a = g.attained in
    let b = h.attained in
    let l = h.bound a.one a.other top a.one_among a.other_among a.holds in
    let k = g.bound b.one b.other top' b.one_among b.other_among b.holds in
    omega arith

module _ (Move : Moves) (n : ℕ) where
  last_round_le : (last last' : ℕ) → LastRound Move n last → LastRound Move n last' → last ≤ last'
  last_round_le last last' r s =
      ⊎_elim
      (λ e. omega arith)
      (λ x. s.none_later x.one x.other last x.one_among x.other_among x.holds)
      r.separates

  pub last_round_unique : (last last' : ℕ) → LastRound Move n last → LastRound Move n last' → last ≡ last'
  last_round_unique last last' r s = omega (arith, last_round_le last last' r s, last_round_le last' last s r)

  ranks_entry : (t u : List ℕ) → Ranks Move n t → Ranks Move n u → (p q : ℕ) → p < state_limit → q < state_limit
      → get_or t (pair_place p q) 0 ≡ get_or u (pair_place p q) 0
  ranks_entry t u r s p q lp lq = go (lt_or_le p n) (lt_or_le q n)
    where
      go : (p < n) ⊎ (n ≤ p) → (q < n) ⊎ (n ≤ q) → get_or t (pair_place p q) 0 ≡ get_or u (pair_place p q) 0
      go (inl kp) (inl kq) = rank_unique Move p q _ _ (r.ranks p q kp kq) (s.ranks p q kp kq)
      go (inl kp) (inr kq) = r.outside p q lp lq (inr kq) ∙ sym (s.outside p q lp lq (inr kq))
      go (inr kp) kq = r.outside p q lp lq (inl kp) ∙ sym (s.outside p q lp lq (inl kp))

  -- the whole list after a ranking
  pub ranks_unique : (entry t u : List ℕ) → Ranks Move n t → Past table_length entry t → Ranks Move n u
      → Past table_length entry u → t ≡ u
  ranks_unique entry t u r x s y =
      ext_get_or 0 t u (x.same_length ∙ sym y.same_length) (λ i l.
      ⊎_elim
      (λ k.
      let c = place_pair i k in
      subst (λ (j : ℕ). get_or t j 0 ≡ get_or u j 0) (sym c.4) (ranks_entry t u r s c.0 c.1 c.2 c.3))
      (λ k. past_get_or x i k ∙ sym (past_get_or y i k))
      (lt_or_le i table_length))

  pub ranked_unique : (entry t u : List ℕ) (last last' : ℕ) → Ranked Move n entry t last → Ranked Move n entry u last'
      → (last ≡ last') × (t ≡ u)
  ranked_unique entry t u last last' r s = (
    greatest_unique Move (Below n) last last' r.greatest s.greatest,
    ranks_unique entry t u r.table r.past s.table s.past,
  )

-- No entry of the table exceeds the answer of Rank.
pub ranked_entry_le : {Move : Moves} {n : ℕ} {entry exit : List ℕ} {last : ℕ} → Ranked Move n entry exit last
    → (p q : ℕ) → p < n → q < n → get_or exit (pair_place p q) 0 ≤ last
ranked_entry_le r p q lp lq = r.greatest.bound p q _ lp lq (r.table.ranks p q lp lq)

-- ---- other moves with the same ranks

some_pair-map : {n : ℕ} {P Q : ℕ → ℕ → Type 0} → ((p q : ℕ) → p < n → q < n → P p q → Q p q)
    → SomePair (Below n) P → SomePair (Below n) Q
some_pair-map f x = record {
  one = x.one;
  other = x.other;
  one_among = x.one_among;
  other_among = x.other_among;
  holds = f x.one x.other x.one_among x.other_among x.holds;
}

pub ranked-map : {M N : Moves} {n : ℕ} → ((p q k : ℕ) → p < n → q < n → Rank M p q k ↔ Rank N p q k)
    → ((p q k : ℕ) → p < n → q < n → Separated M p q k ↔ Separated N p q k) → {entry exit : List ℕ} {last : ℕ}
    → Ranked M n entry exit last → Ranked N n entry exit last
ranked-map f g {last = last} r = record {
  table = record {
    ranks = λ p q lp lq. (f p q _ lp lq).0 (r.table.ranks p q lp lq);
    outside = r.table.outside;
  };
  past = r.past;
  last_round = record {
    separates =
        ⊎_elim inl (λ x. inr (some_pair-map (λ p q lp lq. (g p q last lp lq).0) x)) r.last_round.separates;
    none_later = λ p q k lp lq x. r.last_round.none_later p q k lp lq ((g p q k lp lq).1 x);
  };
  greatest = record {
    attained = some_pair-map (λ p q lp lq. (f p q last lp lq).0) r.greatest.attained;
    bound = λ p q k lp lq x. r.greatest.bound p q k lp lq ((f p q k lp lq).1 x);
  };
}
