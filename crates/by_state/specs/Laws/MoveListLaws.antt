-- The steps of a move list are decided by a test, so they make a game and all that is shown of ranks holds of them.
-- Assumes nothing.
use Rattle.std.specs.Prelude.{◌≡◌, Bool, ◌&&◌, List, ℕ, ◌+◌, ◌≤◌, ◌<◌, T, leb, ltb, eqb, get_or}
use Rattle.std.proofs.Common.{sym, ap, subst, add-one, arith, leb→le, le→leb, ltb→lt, lt→ltb, eqb→eq}
use Rattle.std.proofs.Math.Decide.{le_ind}
use Rattle.lts.specs.Alike.{Moves}
use Rattle.lts.specs.Tests.{any}
use Rattle.lts.proofs.TestsLaws.{T-eqb, and_intro, and_left, and_right}
use Rattle.lts.proofs.TestsLaws.{any→Some, Some→any}
use Rattle.lts.specs.Game.{Game}
use Rattle.lts.specs.Decided.{Decided, answers?}
use Rattle.lts.proofs.DecidedLaws.{decided_game}
use Rattle.text.specs.Limits.{action_limit}
use Rattle.by_state.specs.MoveList.{Listed, MoveList, Lists}

-- Place i holds a step from p with the action a to q.
abbrev pub listed_at? : ℕ → List ℕ → List ℕ → List ℕ → ℕ → ℕ → ℕ → ℕ → Bool
listed_at? n first actions targets p a q i =
    ltb p n && (leb (get_or first p 0) i && (eqb (get_or actions i 0) a && eqb (get_or targets i 0) q))

-- The test of `Listed`.
abbrev pub listed? : ℕ → List ℕ → List ℕ → List ℕ → ℕ → ℕ → ℕ → Bool
listed? n first actions targets p a q = any (get_or first (p + 1) 0) (listed_at? n first actions targets p a q)

module _ {n : ℕ} {first actions targets : List ℕ} (L : MoveList n first actions targets) where
  -- The steps of a lower state begin no later.
  pub rising_le : (q : ℕ) → q ≤ n → (p : ℕ) → p ≤ q → get_or first p 0 ≤ get_or first q 0
  rising_le q lq p lp = le_ind (λ (m : ℕ). m ≤ n → get_or first p 0 ≤ get_or first m 0) (λ _. omega arith)
      (λ m _ f l. omega (arith, f (omega arith), L.rising m l, ap (λ (x : ℕ). get_or first x 0) (add-one m))) q lp lq

  -- The steps of a state are among all.
  pub place_lt_last : {p i : ℕ} → p < n → i < get_or first (p + 1) 0 → i < get_or first n 0
  place_lt_last {p} {i} lp li = omega (arith, rising_le n (omega arith) (p + 1) (omega arith))

  pub listed_target_lt : (p a q : ℕ) → Listed n first actions targets p a q → q < n
  listed_target_lt p a q m =
      subst (λ (x : ℕ). x < n) m.target_is (L.target_lt m.place (place_lt_last m.source_lt m.place_lt))

  pub listed_action_lt : (p a q : ℕ) → Listed n first actions targets p a q → a < action_limit
  listed_action_lt p a q m =
      subst (λ (x : ℕ). x < action_limit) m.action_is
      (L.action_lt m.place (place_lt_last m.source_lt m.place_lt))

  listed?→Listed : (p a q : ℕ) → T (listed? n first actions targets p a q) → Listed n first actions targets p a q
  listed?→Listed p a q t =
      let s = any→Some (get_or first (p + 1) 0) (listed_at? n first actions targets p a q) t in
      let i = s.0 in
      let act = eqb (get_or actions i 0) a in
      let tgt = eqb (get_or targets i 0) q in
      let u = and_right (ltb p n) (leb (get_or first p 0) i && (act && tgt)) s.2 in
      let v = and_right (leb (get_or first p 0) i) (act && tgt) u in
      record {
        place = i;
        source_lt = ltb→lt p n (and_left (ltb p n) (leb (get_or first p 0) i && (act && tgt)) s.2);
        first_le = leb→le (get_or first p 0) i (and_left (leb (get_or first p 0) i) (act && tgt) u);
        place_lt = s.1;
        action_is = eqb→eq (get_or actions i 0) a (and_left act tgt v);
        target_is = eqb→eq (get_or targets i 0) q (and_right act tgt v);
      }

  Listed→listed? : (p a q : ℕ) → Listed n first actions targets p a q → T (listed? n first actions targets p a q)
  Listed→listed? p a q m =
      let i = m.place in
      let act = eqb (get_or actions i 0) a in
      let tgt = eqb (get_or targets i 0) q in
      Some→any (get_or first (p + 1) 0) (listed_at? n first actions targets p a q) i m.place_lt
      (and_intro (ltb p n) (leb (get_or first p 0) i && (act && tgt)) (lt→ltb p n m.source_lt)
      (and_intro (leb (get_or first p 0) i) (act && tgt) (le→leb (get_or first p 0) i m.first_le)
      (and_intro act tgt (T-eqb m.action_is) (T-eqb m.target_is))))

  pub listed_decided : Decided (Listed n first actions targets) n action_limit (listed? n first actions targets)
  listed_decided = record {
    move?→Move = listed?→Listed;
    Move→move? = Listed→listed?;
    source_lt = λ p a q m. m.source_lt;
    label_lt = listed_action_lt;
    target_lt = listed_target_lt;
  }

  pub listed_game : Game (Listed n first actions targets) n (answers? n action_limit (listed? n first actions targets))
  listed_game =
      decided_game (Listed n first actions targets) n action_limit (listed? n first actions targets) listed_decided

-- The lists of a relation, for a number that is n.
pub move_list_of_lists : {Move : Moves} {n x : ℕ} {first actions targets : List ℕ} → Lists Move n first actions targets
    → x ≡ n → MoveList x first actions targets
move_list_of_lists {first = first} {actions} {targets} l e =
    subst (λ (y : ℕ). MoveList y first actions targets) (sym e) l.moves
