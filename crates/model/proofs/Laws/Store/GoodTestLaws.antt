-- The tests of well-formed models and of good stores decide them.
-- Document 01, "The text" and "The model store"; document 02, (iii) and (vi). Assumes nothing.
use Rattle.std.proofs.Common.{Bool, not, ◌&&◌, ◌⊎◌, ◌≡◌, ℕ, T, leb, eqb, length, take, List, [], ◌∷◌, ◌++◌, inl, inr}
use Rattle.std.proofs.Common.{subst, arith, T_not, leb→le, le→leb}
use Rattle.std.proofs.Math.Dec.{eqb→eq, eqb_refl}
use Rattle.lts.proofs.TestsLaws.{T_cases, and_left, and_right, and_intro}
use Rattle.text.specs.declared.Head.{Head}
use Rattle.text.specs.declared.StepLine.{StepLine}
use Rattle.text.specs.Limits.{extra_limit, store_length}
use Rattle.text.specs.Split.{same?}
use Rattle.text.specs.Laws.SameLaws.{same?→eq, eq→same?}
use Rattle.text.specs.Model.{last_level, ActionLine, Model, some_high?, above_last?}
use Rattle.text.specs.Lines.{head_fits?, name?, used?, start_fits?, above_starts?, step_fits?}
use Rattle.model.specs.Store.{store_of, Good}
use Rattle.model.specs.WellFormed.{EachAfter, ActionFits, StartFits, StepFits, WellFormed}
use Rattle.model.specs.StoredModel.{head_at, extra_count_at, extra_start_at, model_at, Holds}
use Rattle.model.specs.Laws.Store.StartsLaws.{extra_count_le}
use Rattle.model.proofs.Laws.Store.StoredModelLaws.{listed-length, Good→Holds, Holds→Good}
use Rattle.model.specs.GoodTest.{each_after?, action_fits?, start_rises?, step_rises?, well_formed?, holds?, good?}

-- ---- each

module _ {A : Type 0} (test : List A → A → Bool) (P : List A → A → Type 0) where
  pub each_after?→EachAfter : ((before : List A) (x : A) → T (test before x) → P before x) → (before xs : List A)
      → T (each_after? test before xs) → EachAfter P before xs
  unfolding each_after? EachAfter
  each_after?→EachAfter f before [] t = tt
  each_after?→EachAfter f before (x ∷ xs) t =
      let rest = each_after? test (before ++ (x ∷ [])) xs in (
        f before x (and_left (test before x) rest t),
        each_after?→EachAfter f (before ++ (x ∷ [])) xs (and_right (test before x) rest t),
      )

  pub EachAfter→each_after? : ((before : List A) (x : A) → P before x → T (test before x)) → (before xs : List A)
      → EachAfter P before xs → T (each_after? test before xs)
  unfolding each_after? EachAfter
  EachAfter→each_after? f before [] e = tt
  EachAfter→each_after? f before (x ∷ xs) e =
      and_intro (test before x) (each_after? test (before ++ (x ∷ [])) xs)
      (f before x e.0) (EachAfter→each_after? f (before ++ (x ∷ [])) xs e.1)

-- ---- actions, extra starts and steps

pub action_fits?→ActionFits : (before : List ActionLine) (a : ActionLine) → T (action_fits? before a)
    → ActionFits before a
unfolding action_fits?
action_fits?→ActionFits before a t =
    let l = leb a.level last_level in
    let n = name? a.name in
    let f = not (used? a.name before) in
    let both = and_left (l && n) f t in
    record {
      level = leb→le a.level last_level (and_left l n both);
      name = and_right l n both;
      fresh = and_right (l && n) f t;
    }

pub ActionFits→action_fits? : (before : List ActionLine) (a : ActionLine) → ActionFits before a
    → T (action_fits? before a)
unfolding action_fits?
ActionFits→action_fits? before a f =
    let l = leb a.level last_level in
    let n = name? a.name in
    and_intro (l && n) (not (used? a.name before))
    (and_intro l n (le→leb a.level last_level f.level) f.name) f.fresh

module _ (h : Head) (before : List ℕ) (p : ℕ) where
  pub start_rises?→StartFits : T (start_rises? h before p) → StartFits h before p
  unfolding start_rises?
  start_rises?→StartFits t =
      record {
        in_range = and_left (start_fits? h p) (above_starts? h before p) t;
        rising = and_right (start_fits? h p) (above_starts? h before p) t;
      }

  pub StartFits→start_rises? : StartFits h before p → T (start_rises? h before p)
  unfolding start_rises?
  StartFits→start_rises? f = and_intro (start_fits? h p) (above_starts? h before p) f.in_range f.rising

module _ (h : Head) (before : List StepLine) (s : StepLine) where
  pub step_rises?→StepFits : T (step_rises? h before s) → StepFits h before s
  unfolding step_rises?
  step_rises?→StepFits t =
      record {
        in_range = and_left (step_fits? h s) (above_last? before s) t;
        rising = and_right (step_fits? h s) (above_last? before s) t;
      }

  pub StepFits→step_rises? : StepFits h before s → T (step_rises? h before s)
  unfolding step_rises?
  StepFits→step_rises? f = and_intro (step_fits? h s) (above_last? before s) f.in_range f.rising

-- ---- models

eq→eqb : (x y : ℕ) → x ≡ y → T (eqb x y)
eq→eqb x y e = subst (λ (z : ℕ). T (eqb x z)) e (eqb_refl x)

module _ (m : Model) where
  abbrev head? : Bool
  head? = head_fits? m.head

  abbrev action_count? : Bool
  action_count? = eqb (length m.actions) m.head.actions

  abbrev step_count? : Bool
  step_count? = eqb (length m.steps) m.head.steps

  abbrev actions? : Bool
  actions? = each_after? action_fits? [] m.actions

  abbrev high? : Bool
  high? = some_high? m.actions

  abbrev starts? : Bool
  starts? = each_after? (start_rises? m.head) [] m.extra_starts

  abbrev steps? : Bool
  steps? = each_after? (step_rises? m.head) [] m.steps

  pub well_formed?→WellFormed : T (well_formed? m) → WellFormed m
  unfolding well_formed?
  well_formed?→WellFormed t =
      let six = and_left (head? && action_count? && step_count? && actions? && high? && starts?) steps? t in
      let five = and_left (head? && action_count? && step_count? && actions? && high?) starts? six in
      let four = and_left (head? && action_count? && step_count? && actions?) high? five in
      let three = and_left (head? && action_count? && step_count?) actions? four in
      let two = and_left (head? && action_count?) step_count? three in
      record {
        head = and_left head? action_count? two;
        action_count = eqb→eq (length m.actions) m.head.actions (and_right head? action_count? two);
        step_count = eqb→eq (length m.steps) m.head.steps (and_right (head? && action_count?) step_count? three);
        actions =
            each_after?→EachAfter action_fits? ActionFits action_fits?→ActionFits [] m.actions
            (and_right (head? && action_count? && step_count?) actions? four);
        some_high = and_right (head? && action_count? && step_count? && actions?) high? five;
        extra_starts_is =
            each_after?→EachAfter (start_rises? m.head) (StartFits m.head) (start_rises?→StartFits m.head) []
            m.extra_starts
            (and_right (head? && action_count? && step_count? && actions? && high?) starts? six);
        steps =
            each_after?→EachAfter (step_rises? m.head) (StepFits m.head) (step_rises?→StepFits m.head) []
            m.steps
            (and_right (head? && action_count? && step_count? && actions? && high? && starts?) steps? t);
      }

  pub WellFormed→well_formed? : WellFormed m → T (well_formed? m)
  unfolding well_formed?
  WellFormed→well_formed? w =
      let ac = eq→eqb (length m.actions) m.head.actions w.action_count in
      let sc = eq→eqb (length m.steps) m.head.steps w.step_count in
      let a = EachAfter→each_after? action_fits? ActionFits ActionFits→action_fits? [] m.actions w.actions in
      let p =
      EachAfter→each_after? (start_rises? m.head) (StartFits m.head) (StartFits→start_rises? m.head) []
      m.extra_starts w.extra_starts_is in
      let s =
      EachAfter→each_after? (step_rises? m.head) (StepFits m.head) (StepFits→step_rises? m.head) [] m.steps
      w.steps in
      and_intro (head? && action_count? && step_count? && actions? && high? && starts?) steps?
      (and_intro (head? && action_count? && step_count? && actions? && high?) starts?
      (and_intro (head? && action_count? && step_count? && actions?) high?
      (and_intro (head? && action_count? && step_count?) actions?
      (and_intro (head? && action_count?) step_count?
      (and_intro head? action_count? w.head ac) sc) a) w.some_high) p) s

-- ---- stores

module _ (s : List ℕ) where
  pub holds?→Holds : T (holds? s) → Holds s (model_at s)
  unfolding holds?
  holds?→Holds t =
      let w = well_formed? (model_at s) in
      let e = same? (store_of (model_at s)) (take store_length s) in
      record {
        well_formed = well_formed?→WellFormed (model_at s) (and_left w e t);
        stored = same?→eq (store_of (model_at s)) (take store_length s) (and_right w e t);
      }

  pub Holds→holds? : Holds s (model_at s) → T (holds? s)
  unfolding holds?
  Holds→holds? h =
      and_intro (well_formed? (model_at s)) (same? (store_of (model_at s)) (take store_length s))
      (WellFormed→well_formed? (model_at s) h.well_formed)
      (eq→same? (store_of (model_at s)) (take store_length s) h.stored)

  abbrev counts? : Bool
  counts? = head_fits? (head_at s) && leb (extra_count_at s) extra_limit

  pub good?→Good : T (good? s) → Good s
  unfolding good?
  good?→Good t = Holds→Good s (holds?→Holds (and_right counts? (holds? s) t))

  pub Good→good? : Good s → T (good? s)
  unfolding good? model_at
  Good→good? g =
      let h = Good→Holds s g in
      let c = extra_count_le (model_at s) h.well_formed in
      let n = listed-length (extra_count_at s) (extra_start_at s) in
      and_intro counts? (holds? s)
      (and_intro (head_fits? (head_at s)) (leb (extra_count_at s) extra_limit) h.well_formed.head
      (le→leb (extra_count_at s) extra_limit (omega arith)))
      (Holds→holds? h)

  -- a store is good or it is not
  pub good_cases : Good s ⊎ (¬ (Good s))
  good_cases = by_test (T_cases (good? s))
    where
      by_test : T (good? s) ⊎ T (not (good? s)) → Good s ⊎ (¬ (Good s))
      by_test (inl t) = inl (good?→Good t)
      by_test (inr t) = inr (λ g. T_not (good? s) t (Good→good? g))
