-- The tests of bounds decide them.
-- Document 01, "The text"; document 02, (iii). Assumes nothing.
use Rattle.std.specs.Prelude.{Bool, true, false, ◌&&◌, not, List, [], ◌∷◌, ◌≡◌, refl, T, leb, ltb}
use Rattle.std.proofs.Common.{sym, ◌∙◌, arith, le→leb}
use Prim.Native.Nat.{ℕ, suc, ◌≤◌, ◌<◌}
use Rattle.std.proofs.Math.Dec.{leb→le, ltb→lt, lt→ltb}
use borrow.Author.Tests.{not-true, not-false}
use Rattle.lts.proofs.TestsLaws.{T→true, and_left, and_right, and_intro}
use Rattle.text.specs.declared.Head.{Head}
use Rattle.text.specs.declared.StepLine.{StepLine}
use Rattle.text.specs.declared.number.Bounds.{Bounds}
use Rattle.text.specs.Limits.{state_limit, action_limit, step_limit}
use Rattle.text.specs.Numbers.{from_to, below, in_bounds?}
use Rattle.text.specs.Model.{last_start}
use Rattle.text.specs.Lines.{fits?, head_bounds, start_bounds, step_bounds}
use Rattle.text.specs.Lines.{head_fits?, start_fits?, above_starts?, step_fits?}
use Rattle.text.specs.Inner.Ranges.{HeadRanges, StepRanges}

-- ---- one number

module _ (b : Bounds) (n : ℕ) where
  pub in_bounds?→lt : T (in_bounds? b n) → (b.least ≤ n) × (n < b.limit)
  unfolding in_bounds?
  in_bounds?→lt t = (
    leb→le b.least n (and_left (leb b.least n) (ltb n b.limit) t),
    ltb→lt n b.limit (and_right (leb b.least n) (ltb n b.limit) t),
  )

  pub lt→in_bounds? : b.least ≤ n → n < b.limit → T (in_bounds? b n)
  unfolding in_bounds?
  lt→in_bounds? l h =
      and_intro (leb b.least n) (ltb n b.limit) (le→leb b.least n l) (lt→ltb n b.limit h)

-- ---- several

module _ (b : Bounds) (bs : List Bounds) (n : ℕ) (ns : List ℕ) where
  pub fits_first : T (fits? (b ∷ bs) (n ∷ ns)) → (b.least ≤ n) × (n < b.limit)
  unfolding fits?
  fits_first t = in_bounds?→lt b n (and_left (in_bounds? b n) (fits? bs ns) t)

  pub fits_rest : T (fits? (b ∷ bs) (n ∷ ns)) → T (fits? bs ns)
  unfolding fits?
  fits_rest t = and_right (in_bounds? b n) (fits? bs ns) t

  pub fits_cons : b.least ≤ n → n < b.limit → T (fits? bs ns) → T (fits? (b ∷ bs) (n ∷ ns))
  unfolding fits?
  fits_cons l h t = and_intro (in_bounds? b n) (fits? bs ns) (lt→in_bounds? b n l h) t

pub fits-nil : T (fits? [] [])
unfolding fits?
fits-nil = tt

-- the first number is tested, within bounds that are given as c
module _ (bs : List Bounds) (n : ℕ) (ns : List ℕ) {b c : Bounds} {t : Bool} (e : c ≡ b) (f : t ≡ in_bounds? c n) where
  first_test : in_bounds? b n ≡ t
  first_test = rw (← e) (sym f)

  pub fits_refused : not t ≡ true → fits? (b ∷ bs) (n ∷ ns) ≡ false
  unfolding fits?
  fits_refused h = rw (first_test ∙ not-true t h)

  pub fits_passed : not t ≡ false → fits? (b ∷ bs) (n ∷ ns) ≡ fits? bs ns
  unfolding fits?
  fits_passed h = rw (first_test ∙ not-false t h)

-- a test of a number within bounds, both given by equal ones
pub tested : {b c : Bounds} {m n : ℕ} {t : Bool} → c ≡ b → m ≡ n → t ≡ in_bounds? c m → t ≡ in_bounds? b n
tested e f g = rw (← e, ← f) g

-- a test behind `&&`, made where those before it passed
pub and_tested : {a t v : Bool} → a ≡ true → v ≡ t → v ≡ (a && t)
and_tested e f = rw e f

pub and_failed : {a v : Bool} (t : Bool) → a ≡ false → v ≡ a → v ≡ (a && t)
and_failed t e f = rw e (f ∙ e)

-- the last number is tested
pub fits_last : (n : ℕ) {b c : Bounds} {t : Bool} → c ≡ b → t ≡ in_bounds? c n → fits? (b ∷ []) (n ∷ []) ≡ t
fits_last n {b} {c} {t} e f = by_test t f
  where
    by_test : (u : Bool) → u ≡ in_bounds? c n → fits? (b ∷ []) (n ∷ []) ≡ u
    by_test true h = fits_passed [] n [] e h refl ∙ T→true (fits? [] []) fits-nil
    by_test false h = fits_refused [] n [] e h refl

-- ---- line 1, an extra start and a step

zero_le : (n : ℕ) → 0 ≤ n
zero_le n = omega arith

-- as `&&` groups the tests
fits_three : (a b c : Bool) → (a && b && c) ≡ (a && (b && (c && true)))
fits_three true b true = refl
fits_three true true false = refl
fits_three true false false = refl
fits_three false b c = refl

fits_four : (a b c d : Bool) → (a && b && c && d) ≡ (a && (b && (c && (d && true))))
fits_four true b c d = fits_three b c d
fits_four false b c d = refl

module _ (h : Head) where
  pub head_fits?-tests : (in_bounds? (from_to 1 state_limit) h.states && in_bounds? (from_to 1 action_limit) h.actions
      && in_bounds? (from_to 0 step_limit) h.steps && in_bounds? (below h.states) h.start.0) ≡ head_fits? h
  unfolding head_fits? fits? head_bounds
  head_fits?-tests = fits_four (in_bounds? (from_to 1 state_limit) h.states)
      (in_bounds? (from_to 1 action_limit) h.actions) (in_bounds? (from_to 0 step_limit) h.steps)
      (in_bounds? (below h.states) h.start.0)

  pub step_fits?-tests : (s : StepLine) → (in_bounds? (below h.states) s.source.0
      && in_bounds? (below h.actions) s.action.0 && in_bounds? (below h.states) s.target.0) ≡ step_fits? h s
  unfolding step_fits? fits? step_bounds
  step_fits?-tests s = fits_three (in_bounds? (below h.states) s.source.0)
      (in_bounds? (below h.actions) s.action.0) (in_bounds? (below h.states) s.target.0)

  pub head_fits?→HeadRanges : T (head_fits? h) → HeadRanges h
  unfolding head_fits? head_bounds
  head_fits?→HeadRanges t =
      let states = fits_first _ _ _ _ t in
      let u = fits_rest _ _ _ _ t in
      let actions = fits_first _ _ _ _ u in
      let v = fits_rest _ _ _ _ u in
      let steps = fits_first _ _ _ _ v in
      let start = fits_first _ _ _ _ (fits_rest _ _ _ _ v) in
      record {
        states_pos = states.0;
        states = omega arith;
        actions_pos = actions.0;
        actions = omega arith;
        steps = omega arith;
        start = start.1;
      }

  pub HeadRanges→head_fits? : HeadRanges h → T (head_fits? h)
  unfolding head_fits? head_bounds
  HeadRanges→head_fits? r =
      let states : h.states < suc state_limit = omega (arith, r.states) in
      let actions : h.actions < suc action_limit = omega (arith, r.actions) in
      let steps : h.steps < suc step_limit = omega (arith, r.steps) in
      fits_cons _ _ _ _ r.states_pos states
      (fits_cons _ _ _ _ r.actions_pos actions
      (fits_cons _ _ _ _ (zero_le h.steps) steps
      (fits_cons _ _ _ _ (zero_le h.start.0) r.start fits-nil)))

  module _ (p : ℕ) where
    pub start_fits?→lt : T (start_fits? h p) → p < h.states
    unfolding start_fits? start_bounds
    start_fits?→lt t = (fits_first _ _ _ _ t).1

    pub lt→start_fits? : p < h.states → T (start_fits? h p)
    unfolding start_fits? start_bounds
    lt→start_fits? l = fits_cons _ _ _ _ (zero_le p) l fits-nil

  module _ (before : List ℕ) (p : ℕ) where
    pub above_starts?→lt : T (above_starts? h before p) → last_start h.start.0 before < p
    unfolding above_starts?
    above_starts?→lt t = ltb→lt (last_start h.start.0 before) p t

    pub lt→above_starts? : last_start h.start.0 before < p → T (above_starts? h before p)
    unfolding above_starts?
    lt→above_starts? l = lt→ltb (last_start h.start.0 before) p l

  module _ (s : StepLine) where
    pub step_fits?→StepRanges : T (step_fits? h s) → StepRanges h s
    unfolding step_fits? step_bounds
    step_fits?→StepRanges t =
        let u = fits_rest _ _ _ _ t in
        record {
          source = (fits_first _ _ _ _ t).1;
          action = (fits_first _ _ _ _ u).1;
          target = (fits_first _ _ _ _ (fits_rest _ _ _ _ u)).1;
        }

    pub StepRanges→step_fits? : StepRanges h s → T (step_fits? h s)
    unfolding step_fits? step_bounds
    StepRanges→step_fits? r =
        fits_cons _ _ _ _ (zero_le s.source.0) r.source
        (fits_cons _ _ _ _ (zero_le s.action.0) r.action
        (fits_cons _ _ _ _ (zero_le s.target.0) r.target fits-nil))
