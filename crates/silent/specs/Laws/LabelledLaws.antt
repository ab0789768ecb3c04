-- Steps by label and the moves made of them stay among n states, and tests decide the steps, so that the moves make a
-- game. Document 02, (vii). Assumes nothing.
use Rattle.std.specs.Prelude.{◌⊎◌, List, ◌≡◌, ◌&&◌, ℕ, suc, ◌+◌, ◌≤◌, ◌<◌, T, leb, ltb, eqb, get_or}
use Rattle.std.proofs.Common.{inl, inr, ⊎_elim, ap, arith, leb→le, le→leb, ltb→lt, lt→ltb, eqb→eq}
use Rattle.std.proofs.Math.Decide.{le_ind}
use Rattle.lts.proofs.TestsLaws.{T-eqb, and_intro, and_left, and_right, any→Some, Some→any}
use Rattle.lts.specs.Game.{Game}
use Rattle.lts.specs.Decided.{Decided}
use Rattle.lts.specs.Weak.{silent_label, low, silent}
use Rattle.lts.proofs.WeakLaws.{silent_source_lt, weak_target_lt}
use Rattle.lts.specs.WeakTests.{DecidedTick}
use Rattle.lts.proofs.WeakTestsLaws.{weak_game}
use Rattle.text.specs.Limits.{action_limit}
use Rattle.silent.specs.Labelled.{LabelStep, LabelList, LowLabel, TickLabel, LabelMove}
use Rattle.silent.specs.LabelledTests.{step_at?, label_step?, low_label?, tick_label?, label_round}

-- ---- tests of steps

module _ (from sources targets : List ℕ) where
  pub label_step?→LabelStep : (a p q : ℕ) → T (label_step? from sources targets a p q)
      → LabelStep from sources targets a p q
  label_step?→LabelStep a p q t =
      let x = any→Some (get_or from (a + 1) 0) (step_at? from sources targets a p q) t in
      let i = x.0 in
      let is-source = eqb (get_or sources i 0) p in
      let is-target = eqb (get_or targets i 0) q in
      let u = and_right (leb (get_or from a 0) i) (is-source && is-target) x.2 in
      record {
        place = i;
        from_le = leb→le (get_or from a 0) i (and_left (leb (get_or from a 0) i) (is-source && is-target) x.2);
        place_lt = x.1;
        source_is = eqb→eq (get_or sources i 0) p (and_left is-source is-target u);
        target_is = eqb→eq (get_or targets i 0) q (and_right is-source is-target u);
      }

  pub LabelStep→label_step? : (a p q : ℕ) → LabelStep from sources targets a p q
      → T (label_step? from sources targets a p q)
  LabelStep→label_step? a p q s =
      let i = s.place in
      let is-source = eqb (get_or sources i 0) p in
      let is-target = eqb (get_or targets i 0) q in
      let u = and_intro is-source is-target (T-eqb s.source_is) (T-eqb s.target_is) in
      Some→any (get_or from (a + 1) 0) (step_at? from sources targets a p q) i s.place_lt
      (and_intro (leb (get_or from a 0) i) (is-source && is-target) (le→leb (get_or from a 0) i s.from_le) u)

-- An action without steps has no moves.
pub label_move_none : {n : ℕ} {from sources targets : List ℕ} {a : ℕ} → a < action_limit
    → get_or from (a + 1) 0 ≤ get_or from a 0 → (p q : ℕ) → ¬ (LabelMove n from sources targets p a q)
label_move_none l e p q (low m) =
    let s = m.step.1 in
    absurd (omega (arith, s.from_le, s.place_lt))
label_move_none l e p q (silent i s) = absurd (omega arith)

module _ {n : ℕ} {from sources targets : List ℕ} (L : LabelList n from sources targets) where
  -- ---- steps

  -- No label's steps end behind the last.
  pub label_end_le : (a : ℕ) → a ≤ action_limit → get_or from (a + 1) 0 ≤ get_or from (action_limit + 1) 0
  label_end_le a l = le_ind {n = a + 1} (λ (m : ℕ). m ≤ action_limit + 1 → get_or from (a + 1) 0 ≤ get_or from m 0)
      (λ _. omega arith)
      (λ m _ f k.
      let e : m + 1 ≡ suc m = omega arith in
      omega (arith, f (omega arith), L.rising m (omega arith), ap (λ (x : ℕ). get_or from x 0) e)) (action_limit + 1)
      (omega arith) (omega arith)

  pub label_step_source_lt : {a p q : ℕ} → a ≤ action_limit → LabelStep from sources targets a p q → p < n
  label_step_source_lt {a} l s =
      let k = L.source_lt s.place (omega (arith, s.place_lt, label_end_le a l)) in
      omega (arith, k, s.source_is)

  pub label_step_target_lt : {a p q : ℕ} → a ≤ action_limit → LabelStep from sources targets a p q → q < n
  label_step_target_lt {a} l s =
      let k = L.target_lt s.place (omega (arith, s.place_lt, label_end_le a l)) in
      omega (arith, k, s.target_is)

  -- ---- moves

  pub label_move_source_lt : {p a q : ℕ} → LabelMove n from sources targets p a q → p < n
  label_move_source_lt (low m) = silent_source_lt (λ p q s. label_step_source_lt (omega arith) s) m.before
  label_move_source_lt (silent e s) = silent_source_lt (λ p q s. label_step_source_lt (omega arith) s) s

  pub label_move_target_lt : {p a q : ℕ} → LabelMove n from sources targets p a q → q < n
  label_move_target_lt m = weak_target_lt m

  pub label_move_label : {p a q : ℕ} → LabelMove n from sources targets p a q → (a < action_limit) ⊎ (a ≡ silent_label)
  label_move_label (low m) = inl m.step.0
  label_move_label (silent e s) = inr e

  -- Between the actions and the silent label there is no label.
  pub label_move_between : (p b t : ℕ) → action_limit ≤ b → b < silent_label → ¬
      (LabelMove n from sources targets p b t)
  label_move_between p b t l k m = ⊎_elim (λ h. omega (arith, h, l)) (λ h. omega (arith, h, k)) (label_move_label m)

  -- ---- the game

  pub decided_tick_label : DecidedTick (TickLabel from sources targets) n (tick_label? from sources targets)
  decided_tick_label = record {
    tick?→Tick = label_step?→LabelStep from sources targets action_limit;
    Tick→tick? = LabelStep→label_step? from sources targets action_limit;
    source_lt = λ p q s. label_step_source_lt (omega arith) s;
    target_lt = λ p q s. label_step_target_lt (omega arith) s;
  }

  pub decided_low_label : Decided (LowLabel from sources targets) n action_limit (low_label? from sources targets)
  decided_low_label = record {
    move?→Move = λ p a q t. (
      ltb→lt a action_limit (and_left (ltb a action_limit) (label_step? from sources targets a p q) t),
      label_step?→LabelStep from sources targets a p q
          (and_right (ltb a action_limit) (label_step? from sources targets a p q) t),
    );
    Move→move? = λ p a q m. and_intro (ltb a action_limit) (label_step? from sources targets a p q)
        (lt→ltb a action_limit m.0) (LabelStep→label_step? from sources targets a p q m.1);
    source_lt = λ p a q m. label_step_source_lt (omega arith) m.1;
    label_lt = λ p a q m. m.0;
    target_lt = λ p a q m. label_step_target_lt (omega arith) m.1;
  }

  pub label_move_game : Game (LabelMove n from sources targets) n (label_round n from sources targets)
  label_move_game =
      weak_game (LowLabel from sources targets) (TickLabel from sources targets) n action_limit
      (low_label? from sources targets) (tick_label? from sources targets) decided_low_label decided_tick_label
      (omega arith)
