-- The order of steps is transitive, so a well-formed model stays so when a step is taken out.
-- Document 01, "The text": "strictly rising by source, then action, then target"; document 02, (iii). Assumes nothing.
use Rattle.std.proofs.Common.{Bool, ◌&&◌, ◌||◌, List, [], ◌∷◌, ◌++◌, ◌⊎◌, ◌≡◌, refl, ℕ, suc, ◌≤◌, ◌<◌, ltb, eqb, length}
use Rattle.std.proofs.Common.{get_or, take, drop, append-nil, inl, inr, sym, ◌∙◌, arith, lt→ltb, length-append}
use Rattle.std.proofs.Common.{length-take, length-drop}
use Rattle.std.proofs.Math.Path.{subst}
use Rattle.std.proofs.Math.Dec.{T, ltb→lt, eqb→eq, eqb_refl}
use Rattle.std.proofs.Math.Seq.{split_at}
use Rattle.lts.proofs.TestsLaws.{and_left, and_right, and_intro, or_left, or_right, or_cases, lt_or_le}
use Rattle.text.specs.declared.Head.{Head}
use Rattle.text.specs.declared.StepLine.{StepLine}
use Rattle.text.specs.Model.{Model, above?, above_last?}
use Rattle.text.specs.Lines.{start_bounds, step_bounds, start_fits?, above_starts?, step_fits?}
use Rattle.model.specs.Above.{Above, without_step}
use Rattle.text.specs.Laws.RangesLaws.{head_fits?→HeadRanges, HeadRanges→head_fits?}
use Rattle.model.specs.WellFormed.{EachAfter, StartFits, StepFits, WellFormed}
use Rattle.model.specs.Laws.Store.EachLaws.{each_append, append_each, cons_each, each_of_each, each_without}

-- ---- the order

module _ (s t : StepLine) where
  abbrev source< : Bool
  source< = ltb s.source.0 t.source.0

  abbrev source= : Bool
  source= = eqb s.source.0 t.source.0

  abbrev action< : Bool
  action< = ltb s.action.0 t.action.0

  abbrev action= : Bool
  action= = eqb s.action.0 t.action.0

  abbrev target< : Bool
  target< = ltb s.target.0 t.target.0

  pub above?→Above : T (above? s t) → Above s t
  unfolding above?
  above?→Above h = by_source (or_cases source< (source= && (action< || (action= && target<))) h)
    where
      by_action : s.source.0 ≡ t.source.0 → T action< ⊎ T (action= && target<) → Above s t
      by_action e (inl l) =
          let a = ltb→lt s.action.0 t.action.0 l in
          record { source = omega arith; action = λ q. omega arith; target = λ q r. absurd (omega arith) }
      by_action e (inr l) =
          let a = eqb→eq s.action.0 t.action.0 (and_left action= target< l) in
          let b = ltb→lt s.target.0 t.target.0 (and_right action= target< l) in
          record { source = omega arith; action = λ q. omega arith; target = λ q r. b }

      by_source : T source< ⊎ T (source= && (action< || (action= && target<))) → Above s t
      by_source (inl l) =
          let a = ltb→lt s.source.0 t.source.0 l in
          record { source = omega arith; action = λ q. absurd (omega arith); target = λ q r. absurd (omega arith) }
      by_source (inr l) =
          let e = eqb→eq s.source.0 t.source.0 (and_left source= (action< || (action= && target<)) l) in
          by_action e (or_cases action< (action= && target<) (and_right source= (action< || (action= && target<)) l))

  pub Above→above? : Above s t → T (above? s t)
  unfolding above?
  Above→above? h = by_source (lt_or_le s.source.0 t.source.0)
    where
      eq : (x y : ℕ) → x ≡ y → T (eqb x y)
      eq x y e = subst (λ (z : ℕ). T (eqb x z)) e (eqb_refl x)

      by_action : s.source.0 ≡ t.source.0 → (s.action.0 < t.action.0) ⊎ (t.action.0 ≤ s.action.0)
          → T (action< || (action= && target<))
      by_action e (inl l) = or_left action< (action= && target<) (lt→ltb s.action.0 t.action.0 l)
      by_action e (inr l) =
          let a = h.action e in
          let f : s.action.0 ≡ t.action.0 = omega arith in
          or_right action< (action= && target<)
          (and_intro action= target<
          (eq s.action.0 t.action.0 f) (lt→ltb s.target.0 t.target.0 (h.target e f)))

      by_source : (s.source.0 < t.source.0) ⊎ (t.source.0 ≤ s.source.0)
          → T (source< || (source= && (action< || (action= && target<))))
      by_source (inl l) =
          or_left source< (source= && (action< || (action= && target<))) (lt→ltb s.source.0 t.source.0 l)
      by_source (inr l) =
          let a = h.source in
          let e : s.source.0 ≡ t.source.0 = omega arith in
          or_right source< (source= && (action< || (action= && target<)))
          (and_intro source= (action< || (action= && target<)) (eq s.source.0 t.source.0 e)
          (by_action e (lt_or_le s.action.0 t.action.0)))

pub above_trans : (s t u : StepLine) → Above s t → Above t u → Above s u
above_trans s t u a b =
    let p = a.source in
    let q = b.source in
    record {
      source = omega arith;
      action = λ e.
          let x = a.action (omega arith) in
          let y = b.action (omega arith) in
          omega arith;
      target = λ e f.
          let x = a.action (omega arith) in
          let y = b.action (omega arith) in
          let z = a.target (omega arith) (omega arith) in
          let w = b.target (omega arith) (omega arith) in
          omega arith;
    }

-- ---- the last of the steps before

pub above_last?_trans : (before : List StepLine) (s t : StepLine) → T (above_last? before s) → T (above? s t)
    → T (above_last? before t)
unfolding above_last?
above_last?_trans [] s t h k = tt
above_last?_trans (r ∷ []) s t h k = Above→above? r t (above_trans r s t (above?→Above r s h) (above?→Above s t k))
above_last?_trans (r ∷ q ∷ rest) s t h k = above_last?_trans (q ∷ rest) s t h k

-- only the last one counts
pub above_last?-append : (before : List StepLine) (s : StepLine) (rest : List StepLine) (t : StepLine)
    → above_last? (before ++ (s ∷ rest)) t ≡ above_last? (s ∷ rest) t
unfolding above_last?
above_last?-append [] s rest t = refl
above_last?-append (r ∷ []) s rest t = refl
above_last?-append (r ∷ q ∷ before) s rest t = above_last?-append (q ∷ before) s rest t

-- ---- a step taken out

-- what rises above steps rises above them without the step s, which rose itself
above_last?_without : (before : List StepLine) (s : StepLine) (rest : List StepLine) (t : StepLine)
    → T (above_last? before s)
    → T (above_last? (before ++ (s ∷ rest)) t) → T (above_last? (before ++ rest) t)
unfolding above_last?
above_last?_without before s [] t h k =
    rw append-nil (above_last?_trans before s t h (subst T (above_last?-append before s [] t) k))
above_last?_without before s (r ∷ rest) t h k =
    subst T (above_last?-append before s (r ∷ rest) t ∙ sym (above_last?-append before r rest t)) k

pub steps_without : (h : Head) (before : List StepLine) (s : StepLine) (after : List StepLine)
    → EachAfter (StepFits h) [] (before ++ (s ∷ after)) → EachAfter (StepFits h) [] (before ++ after)
steps_without h before s after e =
    let a = append_each (StepFits h) [] before (s ∷ after) e in
    let c = cons_each (StepFits h) before s after a.1 in
    let w = each_without (StepFits h) before s (without c.0.rising) [] after c.1 in
    each_append (StepFits h) [] before after a.0 (rw append-nil at w)
  where
    without : T (above_last? before s) → (ws : List StepLine) (t : StepLine) → StepFits h (before ++ (s ∷ ws)) t
        → StepFits h (before ++ ws) t
    without r ws t f = record { in_range = f.in_range; rising = above_last?_without before s ws t r f.rising }

pub without_step_well_formed : (m : Model) (j : ℕ) → WellFormed m → j < m.head.steps → WellFormed (without_step m j)
unfolding start_fits? start_bounds above_starts? step_fits? step_bounds
without_step_well_formed m j w l =
    let r = head_fits?→HeadRanges m.head w.head in
    let h = (without_step m j).head in
    let c = w.step_count in
    let d : StepLine = record { source = record { 0 = 0 }; action = record { 0 = 0 }; target = record { 0 = 0 } } in
    let k : j < length m.steps = omega arith in
    let e = subst (EachAfter (StepFits m.head) []) (split_at m.steps j d k) w.steps in
    record {
      head = HeadRanges→head_fits? h (record {
        states_pos = r.states_pos;
        states = r.states;
        actions_pos = r.actions_pos;
        actions = r.actions;
        steps = omega arith;
        start = r.start;
      });
      action_count = w.action_count;
      step_count = simp (length-append, length-take, length-drop) (omega arith);
      actions = w.actions;
      some_high = w.some_high;
      extra_starts_is =
          each_of_each (StartFits m.head) (StartFits h)
          (λ b p f. record { in_range = f.in_range; rising = f.rising }) [] m.extra_starts w.extra_starts_is;
      steps =
          each_of_each (StepFits m.head) (StepFits h)
          (λ b s f. record { in_range = f.in_range; rising = f.rising }) [] (without_step m j).steps
          (steps_without m.head (take j m.steps) (get_or m.steps j d) (drop (suc j) m.steps) e);
    }
