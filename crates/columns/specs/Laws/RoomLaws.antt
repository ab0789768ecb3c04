-- The room of the receipt roll. Each line but the last of a state has two names, each name a low step of its own, and
-- where a word is shown the depth is at most the number of states with a name: so no roll needs more lines than its
-- list has. Document 02, (ii): "out with at least 35,840 bytes"; (vii). Assumes nothing.
use Rattle.std.specs.Prelude.{Bool, not, ◌&&◌, ◌||◌, List, ◌⊎◌, ◌≡◌, ltb, length}
use Rattle.std.proofs.Math.Bool.{true, false}
use Rattle.std.proofs.Math.Logic.{inl, inr}
use Rattle.std.proofs.Common.{⊎_elim, ltb→lt, lt→ltb, nltb→le}
use Rattle.std.proofs.Math.Path.{sym}
use Prim.Native.Nat.{ℕ, zero, suc, ◌+◌, ◌*◌, ◌-◌, ◌≤◌, ◌<◌}
use native.Mathlib.Omega.{arith}
use Rattle.std.proofs.Math.Dec.{T, not_T}
use Rattle.std.proofs.lemmas.List.{length-map}
use Rattle.lts.proofs.CountLaws.{count_not, count_lt, count_pairs_none, count_pairs_le, count_pairs_le_suc}
use Rattle.lts.specs.Decided.{within?}
use Rattle.lts.proofs.MovingLaws.{weak_rank_le_moving}
use Rattle.lts.specs.Weak.{LowStep}
use Rattle.lts.specs.Run.{onward}
use Rattle.lts.specs.Tests.{any, bit, count, count_pairs}
use Rattle.lts.proofs.TestsLaws.{and_intro, and_left, and_right, or_cases, Some→any}
use Rattle.lts.proofs.TestsLaws.{count_le, count_le-count, count_pos}
use Rattle.text.specs.Model.{Model}
use Rattle.model.specs.Inner.StepTest.{tests}
use Rattle.model.specs.Inner.Stored.{Stored}
use Rattle.model.specs.Laws.Store.SystemLaws.{own_step, low_lt}
use Rattle.model.proofs.Laws.System.RankBoundLaws.{actions_le_silent_label}
use Rattle.model.proofs.Laws.System.SilentStepLaws.{no_tick_of_no_silent_step}
use Rattle.model.specs.Laws.System.StepTestLaws.{decided_view}
use Rattle.model.specs.System.{source, action, target, view, ReachableIn, NoSilentStep, name_of}
use Rattle.verdicts.specs.Verdicts.{RefusedAt}
use Rattle.verdicts.proofs.Laws.VerdictsLaws.{depth_lt}
use Rattle.letters.specs.Laws.FirstSilentLaws.{silent_cases}
use Rattle.columns.specs.Inner.LineCount.{line_count, lines_below, letter_count, NamesFit, passed_rows, refused_rows}
use Rattle.columns.specs.LowNames.{leaves?, low_from?, low_actions, low_names}
use Rattle.columns.specs.Laws.FirstLowLaws.{leaves?_intro, leaves?_source, leaves?_action}
use Rattle.columns.specs.Laws.LetterCountLaws.{letter_count_silent, letter_count_still}
use Rattle.columns.specs.Laws.PassingLaws.{passing-length}
use Rattle.columns.specs.Laws.RowsLaws.{line_count_le, line_count_unnamed}

module _ (m : Model) where
  -- The number of actions and of steps, and the tests of low actions and steps, for short.
  abbrev l : ℕ
  l = length m.actions

  abbrev k : ℕ
  k = length m.steps

  abbrev low? : ℕ → Bool
  low? = (view m).levels.low?

  abbrev low_step? : ℕ → Bool
  low_step? j = low? (action m j)

  -- State p has a name on the roll.
  abbrev named? : ℕ → Bool
  named? p = ltb 0 (length (low_actions m p))

  low_names_length : (p : ℕ) → length (low_names m p) ≡ length (low_actions m p)
  low_names_length p = length-map (low_actions m p) (name_of m)

  low_actions_length : (p : ℕ) → length (low_actions m p) ≡ count l (low_from? m p k)
  low_actions_length p = passing-length l (low_from? m p k)

  -- ---- each name has a low step of its own

  -- A low action leaves p with one of the first n + 1 steps: with one of the first n, or with step n.
  low_from_cases : (p n a : ℕ) → T (low_from? m p (suc n) a)
      → T (low_from? m p n a) ⊎ (T (low_step? n) × (p ≡ source m n) × (a ≡ action m n))
  unfolding any
  low_from_cases p n a t =
      go (and_left (low? a) (any n (leaves? m p a) || leaves? m p a n) t)
      (or_cases (any n (leaves? m p a)) (leaves? m p a n)
      (and_right (low? a) (any n (leaves? m p a) || leaves? m p a n) t))
    where
      go : T (low? a) → T (any n (leaves? m p a)) ⊎ T (leaves? m p a n)
          → T (low_from? m p n a) ⊎ (T (low_step? n) × (p ≡ source m n) × (a ≡ action m n))
      go u (inl x) = inl (and_intro (low? a) (any n (leaves? m p a)) u x)
      go u (inr x) =
          let e = leaves?_action m p a n x in
          inr (rw e u, sym (leaves?_source m p a n x), sym e)

  names_le : (states n : ℕ) → count_pairs states l (λ p. low_from? m p n) ≤ count n low_step?
  unfolding any count
  names_le states zero =
      let e = count_pairs_none states l (λ p. low_from? m p 0)
      (λ p a _ _. not_T (low_from? m p 0 a) (and_right (low? a) false)) in
      omega arith
  names_le states (suc n) = go (low_step? n) (λ u. u) (names_le states n)
    where
      go : (b : Bool) → (T (low_step? n) → T b) → count_pairs states l (λ p. low_from? m p n) ≤ count n low_step?
          → count_pairs states l (λ p. low_from? m p (suc n)) ≤ count n low_step? + bit b
      go true u ih =
          let h = count_pairs_le_suc l (λ p. low_from? m p (suc n)) (λ p. low_from? m p n) states (source m n)
          (action m n)
          (λ p a _ _ t. one p a (low_from_cases p n a t)) in
          omega arith
        where
          one : (p a : ℕ) → T (low_from? m p n a) ⊎ (T (low_step? n) × (p ≡ source m n) × (a ≡ action m n))
              → T (low_from? m p n a) ⊎ ((p ≡ source m n) × (a ≡ action m n))
          one p a (inl x) = inl x
          one p a (inr x) = inr (x.1, x.2)
      go false u ih =
          let h = count_pairs_le l (λ p. low_from? m p (suc n)) (λ p. low_from? m p n) states
          (λ p a _ _ t. none p a (low_from_cases p n a t)) in
          omega arith
        where
          none : (p a : ℕ) → T (low_from? m p n a) ⊎ (T (low_step? n) × (p ≡ source m n) × (a ≡ action m n))
              → T (low_from? m p n a)
          none p a (inl x) = x
          none p a (inr x) = absurd (u x.0)

  -- ---- lines by names

  line_count_bound : NamesFit m → (p : ℕ) → 2 * line_count m p ≤ count l (low_from? m p k) + 1 + bit (not (named? p))
  line_count_bound short p = go (named? p) (λ t. ltb→lt 0 (length (low_actions m p)) t) (λ t. nltb→le 0 _ t)
    where
      go : (b : Bool) → (T b → 0 < length (low_actions m p)) → (T (not b) → length (low_actions m p) ≤ 0)
          → 2 * line_count m p ≤ count l (low_from? m p k) + 1 + bit (not b)
      go true some none =
          let e = low_names_length p in
          let r = line_count_le m short p (omega (arith, some tt)) in
          omega (arith, low_actions_length p)
      go false some none =
          let e = low_names_length p in
          let r = line_count_unnamed m p (omega (arith, none tt)) in
          omega (arith, r)

  lines_below_bound : NamesFit m → (n : ℕ)
      → 2 * lines_below m n ≤ count_pairs n l (λ p. low_from? m p k) + n + count n (λ p. not (named? p))
  unfolding lines_below count_pairs count
  lines_below_bound short zero = omega arith
  lines_below_bound short (suc n) = omega (arith, lines_below_bound short n, line_count_bound short n)

  -- ---- states with a name

  named : (p a q : ℕ) → LowStep (view m) p a q → T (named? p)
  named p a q (t, x) =
      let j = x.number in
      let u = Some→any k (leaves? m p a) j x.number_lt (leaves?_intro m p a j x.source_is x.action_is) in
      let c = count_pos l (low_from? m p k) a (low_lt m a t) (and_intro (low? a) (any k (leaves? m p a)) t u) in
      lt→ltb 0 (length (low_actions m p)) (omega (arith, low_actions_length p))

-- ---- the room

module _ {s : List ℕ} {m : Model} (st : Stored s m) (short : NamesFit m) where
  abbrev states : ℕ
  states = m.head.states

  -- the lines of the states
  pub rows_passed : lines_below m m.head.states ≤ passed_rows
  rows_passed =
      omega (
        arith,
        lines_below_bound m short states,
        names_le m states (k m),
        count_le (k m) (low_step? m),
        count_le states (λ p. not (named? m p)),
        st.steps_le,
        st.states_le,
      )

  module _ {j depth : ℕ} (r : RefusedAt m j depth) where
    -- the step of the leak is high
    low_steps_lt : count (k m) (low_step? m) < k m
    low_steps_lt =
        let h = r.leak.high_step in
        let t : T (not (low_step? m j)) = rw h.is_high tt in
        count_lt (k m) (low_step? m) j h.number_lt t

    -- where no silent step can be reached, the depth is a rank of reachable states under low steps, and each that has a
    -- low step has a name
    depth_le_named : NoSilentStep m → depth ≤ count states (named? m)
    depth_le_named still =
        let h = r.leak.high_step in
        let t : ReachableIn m (target m j) = onward h.reachable (own_step m j h.number_lt) in
        let c = weak_rank_le_moving (view m) (tests m) (decided_view st) (actions_le_silent_label st)
        ((no_tick_of_no_silent_step m).0 still) (named? m) (λ p a q _. named m p a q)
        (source m j) (target m j) depth h.reachable t r.leak.rank in
        let d = count_le-count states (λ p. within? (view m) (tests m) (states - 1) p && named? m p) (named? m)
        (λ p _. and_right (within? (view m) (tests m) (states - 1) p) (named? m p)) in
        omega arith

    -- the lines of the states, with a line for each letter of a word
    rows_still : NoSilentStep m → lines_below m m.head.states + depth ≤ refused_rows
    rows_still still = omega (
      arith,
      lines_below_bound m short states,
      names_le m states (k m),
      low_steps_lt,
      depth_lt st r,
      depth_le_named still,
      count_not states (named? m),
      st.steps_le,
      st.states_le,
    )

    -- the same with the letters that are shown: none where a silent step can be reached
    pub rows_refused : lines_below m m.head.states + letter_count m depth ≤ refused_rows
    rows_refused = ⊎_elim
        (λ x. omega (arith, rows_passed, letter_count_silent st x.0 x.1.holds depth))
        (λ still. omega (arith, rows_still still, letter_count_still st still depth)) (silent_cases st)
