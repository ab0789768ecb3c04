-- The lengths of a model's lines, and of its text: at most the 15,182 bytes that Write's list has.
-- Document 01, "The operations, in the order of the work", 8; document 02, (iii). Assumes nothing.
use Rattle.std.proofs.Common.{List, [], refl, ℕ, ◌*◌, ◌≤◌, ◌<◌, T, length, arith, length-append}
use Rattle.text.specs.declared.Head.{Head}
use Rattle.text.specs.declared.StepLine.{StepLine}
use Rattle.text.specs.Limits.{out_length}
use Rattle.text.specs.Laws.DigitsLaws.{digits-length_le}
use Rattle.text.specs.Model.{ActionLine, Model}
use Rattle.text.specs.Lines.{name?}
use Rattle.model.specs.Text.{head_text, action_text, start_text, step_text, actions_text, starts_text, steps_text}
use Rattle.model.specs.Text.{model_text}
use Rattle.text.specs.Inner.Ranges.{HeadRanges, StepRanges}
use Rattle.text.specs.Laws.RangesLaws.{head_fits?→HeadRanges, start_fits?→lt, step_fits?→StepRanges}
use Rattle.model.specs.WellFormed.{EachAfter, ActionFits, StartFits, StepFits, WellFormed}
use Rattle.model.specs.Laws.Store.BlocksLaws.{blocks_length_le}
use Rattle.model.specs.Laws.Store.EachLaws.{all_of_each}
use Rattle.model.specs.Laws.Store.StartsLaws.{extra_count_le}
use Rattle.model.specs.Laws.Text.ActionLineLaws.{name-length}

-- `M,128,64,1024,127` and its end
pub head_text-length_le : (h : Head) → HeadRanges h → length (head_text h) ≤ 18
unfolding head_text
head_text-length_le h r =
    let a = digits-length_le 3 h.states (omega arith) (omega arith) (omega arith) in
    let b = digits-length_le 2 h.actions (omega arith) (omega arith) (omega arith) in
    let c = digits-length_le 4 h.steps (omega arith) (omega arith) (omega arith) in
    let d = digits-length_le 3 h.start.0 (omega arith) (omega arith) (omega arith) in
    simp length-append (omega arith)

-- `A,L,` with twelve bytes and the end
pub action_text-length_le : (a : ActionLine) → T (name? a.name) → length (action_text a) ≤ 17
unfolding action_text
action_text-length_le a t = let n = name-length a.name t in simp length-append (omega arith)

-- `I,127` and its end
pub start_text-length_le : (h : Head) (p : ℕ) → HeadRanges h → p < h.states → length (start_text p) ≤ 6
unfolding start_text
start_text-length_le h p r l =
    let a = digits-length_le 3 p (omega arith) (omega arith) (omega arith) in simp length-append (omega arith)

-- `S,127,63,127` and its end
pub step_text-length_le : (h : Head) (s : StepLine) → HeadRanges h → StepRanges h s → length (step_text s) ≤ 13
unfolding step_text
step_text-length_le h s r u =
    let a = digits-length_le 3 s.source.0 (omega arith) (omega arith) (omega arith) in
    let b = digits-length_le 2 s.action.0 (omega arith) (omega arith) (omega arith) in
    let c = digits-length_le 3 s.target.0 (omega arith) (omega arith) (omega arith) in
    simp length-append (omega arith)

pub actions_text-length_le : (before rest : List ActionLine) → EachAfter ActionFits before rest
    → length (actions_text rest) ≤ 17 * length rest
unfolding actions_text
actions_text-length_le before rest e =
    blocks_length_le action_text actions_text 17 refl (λ a acts. refl) rest
    (all_of_each ActionFits _ (λ b a f. action_text-length_le a f.name) before rest e)

pub starts_text-length_le : (h : Head) (before rest : List ℕ) → HeadRanges h → EachAfter (StartFits h) before rest
    → length (starts_text rest) ≤ 6 * length rest
unfolding starts_text
starts_text-length_le h before rest r e =
    blocks_length_le start_text starts_text 6 refl (λ p ps. refl) rest
    (all_of_each (StartFits h) _ (λ b p f. start_text-length_le h p r (start_fits?→lt h p f.in_range)) before rest e)

pub steps_text-length_le : (h : Head) (before rest : List StepLine) → HeadRanges h → EachAfter (StepFits h) before rest
    → length (steps_text rest) ≤ 13 * length rest
unfolding steps_text
steps_text-length_le h before rest r e =
    let fits = StepFits h in
    blocks_length_le step_text steps_text 13 refl (λ s ss. refl) rest
    (all_of_each fits _ (λ b s f. step_text-length_le h s r (step_fits?→StepRanges h s f.in_range)) before rest e)

pub model_text-length_le : (m : Model) → WellFormed m → length (model_text m) ≤ out_length
unfolding model_text
model_text-length_le m w =
    let r = head_fits?→HeadRanges m.head w.head in
    let h = head_text-length_le m.head r in
    let a = actions_text-length_le [] m.actions w.actions in
    let i = starts_text-length_le m.head [] m.extra_starts r w.extra_starts_is in
    let s = steps_text-length_le m.head [] m.steps r w.steps in
    let ca = w.action_count in
    let ci = extra_count_le m w in
    let cs = w.step_count in
    simp length-append (omega arith)
