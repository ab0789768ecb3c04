-- Entries start right for round 0, and after the last round the table keeps Rank's promise: what no round separated is
-- bisimilar, and the last separating round is the greatest rank. Document 01, operation 3. Assumes nothing.
use Rattle.std.specs.Prelude.{◌≡◌, ◌⊎◌, Bool, List, length, get_or, drop}
use Rattle.std.proofs.Math.Path.{refl, subst}
use Rattle.std.proofs.Common.{sym, ◌∙◌, add-one, arith, length-drop, get_or-drop, ext_get_or}
use Rattle.std.proofs.Math.Logic.{inl, inr}
use Prim.Native.Nat.{ℕ, zero, suc, ◌+◌, ◌/◌, ◌%◌, ◌≤◌, ◌<◌}
use Rattle.lts.specs.Alike.{Moves, Alike, Separated, Rank, bisimilar}
use Rattle.lts.proofs.AlikeLaws.{alike_suc, bisimilar_refl, rank_of_separated}
use Rattle.lts.specs.Game.{Game}
use Rattle.lts.proofs.GameLaws.{separated_of_separates, bisimilar_of_settled, rank_le_settled}
use Rattle.text.specs.Limits.{state_limit}
use Rattle.text.specs.Limits.{table_length, pair_place}
use Rattle.text.specs.Lists.{Past}
use Rattle.text.specs.Inner.Clearing.{Cleared}
use Rattle.text.specs.Laws.ListsLaws.{past_get_or}
use Rattle.ranking.specs.Table.{Below, SomePair, Ranked}
use Rattle.ranking.specs.Inner.ClassList.{Classes, Refined}
use Rattle.ranking.specs.Laws.ClassListLaws.{classes_suc}
use Rattle.ranking.specs.Inner.TableWrites.{entry_of, RoundWritten, RankUpTo, RanksUpTo, Finished}
use Rattle.ranking.specs.Laws.TableWritesLaws.{ranks_up_to-suc}

-- ---- before any round

pub ranks_up_to-zero : (Move : Moves) {n : ℕ} {entry : ℕ → ℕ → ℕ} → ((p q : ℕ) → p < n → q < n → entry p q ≡ 0)
    → RanksUpTo Move n 0 entry
unfolding Alike
ranks_up_to-zero Move z = record { found = λ p q lp lq. inl (z p q lp lq, tt) }

-- ---- one round

pub ranks_up_to_same : {Move : Moves} {n k : ℕ} {t u : ℕ → ℕ → ℕ} → ((p q : ℕ) → p < n → q < n → u p q ≡ t p q)
    → RanksUpTo Move n k t → RanksUpTo Move n k u
ranks_up_to_same {Move} {k = k} e U = record {
  found = λ p q lp lq. subst (RankUpTo Move k p q) (sym (e p q lp lq)) (U.found p q lp lq);
}

module _ {Move : Moves} {n : ℕ} (target_lt : (p a q : ℕ) → p < n → Move p a q → q < n) {class next : List ℕ} {k : ℕ}
    (C : Classes Move n k class) (R : Refined Move n class next) where
  D : Classes Move n (suc k) next
  D = classes_suc target_lt C R

  pub round_classes : Classes Move n (k + 1) next
  round_classes = subst (λ (j : ℕ). Classes Move n j next) (sym (add-one k)) D

  pub round_ranks : {t u : ℕ → ℕ → ℕ} → RoundWritten n class next (k + 1) t u → RanksUpTo Move n k t
      → RanksUpTo Move n (k + 1) u
  round_ranks {t} {u} W U = subst (λ (j : ℕ). RanksUpTo Move n j u) (sym (add-one k))
      (ranks_up_to-suc C D (subst (λ (j : ℕ). RoundWritten n class next j t u) (add-one k) W) U)

-- ---- after the last round

module _ {Move : Moves} {n : ℕ} {round : (ℕ → ℕ → Bool) → ℕ → ℕ → Bool} (G : Game Move n round) (some : 0 < n)
    {last : ℕ} {t u w : List ℕ} (limit : n ≤ state_limit) (C : Cleared 0 table_length t u)
    (F : Finished Move n last u w)
    (same_length : length w ≡ length t) where
  -- A pair that round `last` separated, if there is such a round.
  LastPair : ℕ → Type 0
  LastPair k = (k ≡ 0) ⊎ SomePair (Below n) (λ p q. Separated Move p q k)

  last_pair : LastPair last
  unfolding LastPair
  last_pair = go last refl
    where
      go : (k : ℕ) → last ≡ k → LastPair k
      go zero e = inl refl
      go (suc k) e =
          let s = F.separates k (omega arith) in
          inr (record {
            one = s.one;
            other = s.other;
            one_among = s.one_lt;
            other_among = s.other_lt;
            holds = separated_of_separates Move n k s;
          })

  rank_le_last : (p q r : ℕ) → p < n → q < n → Rank Move p q r → r ≤ last
  rank_le_last p q r lp lq x = rank_le_settled Move n round G last p q r F.settled lp lq x

  rank_of_found : (p q v : ℕ) → p < n → q < n → RankUpTo Move (last + 1) p q v → Rank Move p q v
  rank_of_found p q v lp lq (inl (z, h)) =
      let g : Alike Move last p q = alike_suc Move last p q (subst (λ (k : ℕ). Alike Move k p q) (add-one last) h) in
      let b = bisimilar_of_settled Move n round G last p q F.settled lp lq g in
      subst (Rank Move p q) (sym z) (bisimilar b)
  rank_of_found p q v lp lq (inr (l, x)) = rank_of_separated Move p q v x

  attained : LastPair last → SomePair (Below n) (λ p q. Rank Move p q last)
  unfolding LastPair
  attained (inl e) = record {
    one = 0;
    other = 0;
    one_among = some;
    other_among = some;
    holds = subst (Rank Move 0 0) (sym e) (bisimilar (bisimilar_refl Move 0));
  }
  attained (inr s) = record {
    one = s.one;
    other = s.other;
    one_among = s.one_among;
    other_among = s.other_among;
    holds = rank_of_separated Move s.one s.other last s.holds;
  }

  -- A place past the least length is that of a row past the states.
  past_kept : (i : ℕ) → get_or w (table_length + i) 0 ≡ get_or t (table_length + i) 0
  past_kept i =
      let p = (table_length + i) / state_limit in
      let q = (table_length + i) % state_limit in
      let e : pair_place p q ≡ table_length + i = omega arith in
      let k : entry_of w p q ≡ entry_of u p q = F.outside.kept p q (omega arith) (inl (omega arith)) in
      subst (λ (x : ℕ). get_or w x 0 ≡ get_or u x 0) e k ∙ past_get_or C.past (table_length + i) (omega arith)

  past : Past table_length t w
  past = record {
    same_length = same_length;
    kept = ext_get_or 0 (drop table_length w) (drop table_length t) (simp length-drop (omega arith))
        (λ i l. get_or-drop table_length w i 0 ∙ past_kept i ∙ sym (get_or-drop table_length t i 0));
  }

  pub ranked_of_finished : Ranked Move n t w last
  unfolding LastPair
  ranked_of_finished = record {
    table = record {
      ranks = λ p q lp lq. rank_of_found p q (entry_of w p q) lp lq (F.ranks.found p q lp lq);
      outside = λ p q lp lq d. F.outside.kept p q lq d ∙ C.given (pair_place p q) (omega arith);
    };
    past = past;
    last_round = record {
      separates = last_pair;
      none_later = λ p q k lp lq x. rank_le_last p q k lp lq (rank_of_separated Move p q k x);
    };
    greatest = record { attained = attained last_pair; bound = rank_le_last };
  }
