-- The parts of a model's text are read to the model, and only the parts of its text are.
-- Document 01, "The text"; document 02, (iii) and (vi). Assumes nothing.
use Rattle.std.proofs.Common.{true, false, not, ◌≡◌, refl, ℕ, ◌+◌, ◌-◌, ◌<◌, T, List, [], ◌∷◌, ◌++◌, map, sym, ◌∙◌}
use Rattle.std.proofs.Common.{subst, arith}
use Rattle.std.proofs.Math.Path.{ap}
use Rattle.std.proofs.Math.ListN.{length, length-append}
use Rattle.lts.proofs.TestsLaws.{T→true, not-T→false}
use Rattle.text.specs.Bytes.{byte_e}
use Rattle.text.specs.declared.Fault.TheVariants.{NoHigh}
use Rattle.text.specs.declared.Head.{Head}
use Rattle.text.specs.declared.StepLine.{StepLine}
use Rattle.text.specs.Join.{join}
use Rattle.text.specs.Model.{ActionLine, Model, some_high?}
use Rattle.text.specs.Lines.{good, head_fits?, head_of, action_of, start_of, step_of}
use Rattle.model.specs.Reading.{Reading, done, faulty, or_fault, read_steps}
use Rattle.model.specs.Reading.{read_starts, start_line?, start_lines, behind_actions, read_actions, head_model}
use Rattle.model.specs.Reading.{read_model}
use Rattle.model.specs.WellFormed.{EachAfter, ActionFits, StartFits, StepFits, WellFormed}
use Rattle.text.specs.Inner.Ranges.{HeadRanges}
use Rattle.text.specs.Laws.RangesLaws.{head_fits?→HeadRanges}
use Rattle.model.specs.Inner.LineText.{line_of_head, line_of_action, line_of_start, line_of_step, parts_of}
use Rattle.model.specs.Inner.StatedLines.{Stated}
use Rattle.model.specs.Laws.Text.LinesReadLaws.{on_line-cons, on_line-done, or_fault-done, lines_read}
use Rattle.model.specs.Laws.Text.LinesReadLaws.{cond-done, lines_of_done, stated_after}
use Rattle.model.specs.Laws.Text.EndLaws.{read_end_last, read_end-done}
use Rattle.model.specs.Laws.Text.LineTextLaws.{head_of_line, line_of_head_of, start_of_line, line_of_start_of}
use Rattle.model.specs.Laws.Text.LineTextLaws.{step_of_line, line_of_step_of}
use Rattle.model.specs.Laws.Text.ActionLineLaws.{action_of_line, line_of_action_of}

-- ---- the parts of a text

abbrev last : List (List ℕ)
last = (byte_e ∷ []) ∷ [] ∷ []

abbrev model : Head → List ActionLine → List ℕ → List StepLine → Model
model h actions starts steps = record { head = h; actions = actions; extra_starts = starts; steps = steps }

module _ (h : Head) (actions : List ActionLine) (starts : List ℕ) where
  abbrev steps_read : ℕ → ℕ → List StepLine → List (List ℕ) → Reading
  steps_read n k before parts = read_steps n k (model h actions starts before) parts

  read_steps_lines : (k : ℕ) (steps : List StepLine) → HeadRanges h → EachAfter (StepFits h) [] steps
      → read_steps (length steps) k (model h actions starts []) (map line_of_step steps ++ last)
      ≡ done (model h actions starts steps)
  unfolding read_steps
  read_steps_lines k steps r e =
      let s =
      lines_read line_of_step (StepFits h) (step_of h) steps_read (λ n j b p. refl)
      (λ b s. step_of_line h b s r) steps k [] last (omega arith) e in
      s ∙ read_end_last (k + length steps) (model h actions starts steps)

  read_steps_done : (n k : ℕ) (parts : List (List ℕ)) (m : Model)
      → read_steps n k (model h actions starts []) parts ≡ done m
      → Stated line_of_step (StepFits h) n [] parts (λ steps rest. (rest ≡ last) × (model h actions starts steps ≡ m))
  unfolding read_steps
  read_steps_done n k parts m q =
      stated_after
      (lines_of_done line_of_step (StepFits h) (step_of h) steps_read (λ n j b p. refl) (line_of_step_of h)
      n k [] parts m q)
      (λ steps rest a. read_end-done a.0 (model h actions starts steps) m rest a.1)

-- ---- the extra starts

start_line?-start : (p : ℕ) → start_line? (line_of_start p) ≡ true
unfolding start_line? join
start_line?-start p = refl

start_line?_step : (s : StepLine) → start_line? (line_of_step s) ≡ false
unfolding start_line? join
start_line?_step s = refl

-- behind the `I` lines stands no other: what follows begins with `S` or `E`
start_lines_steps : (steps : List StepLine) → start_lines (map line_of_step steps ++ last) ≡ 0
unfolding start_lines start_line?
start_lines_steps [] = refl
start_lines_steps (s ∷ ss) = rw (start_line?_step s)

start_lines_all : (ps : List ℕ) (steps : List StepLine)
    → start_lines (map line_of_start ps ++ (map line_of_step steps ++ last)) ≡ length ps
unfolding start_lines
start_lines_all [] steps = start_lines_steps steps
start_lines_all (p ∷ ps) steps = rw (start_line?-start p, start_lines_all ps steps)

module _ (h : Head) (actions : List ActionLine) where
  abbrev starts_read : ℕ → ℕ → List ℕ → List (List ℕ) → Reading
  starts_read n k before parts = read_starts n k (model h actions before []) parts

  read_starts_lines : (k : ℕ) (starts : List ℕ) (steps : List StepLine) → HeadRanges h → length steps ≡ h.steps
      → EachAfter (StartFits h) [] starts → EachAfter (StepFits h) [] steps
      → let parts = map line_of_start starts ++ (map line_of_step steps ++ last) in
      read_starts (start_lines parts) k (model h actions [] []) parts ≡ done (model h actions starts steps)
  unfolding read_starts
  read_starts_lines k starts steps r c e f =
      let from-steps : List (List ℕ) = map line_of_step steps ++ last in
      let l : 0 < length from-steps = simp length-append (omega arith) in
      let s =
      lines_read line_of_start (StartFits h) (start_of h) starts_read (λ n j b p. refl)
      (λ b p. start_of_line h b p r) starts k [] from-steps l e in
      ap (λ (n : ℕ). starts_read n k [] (map line_of_start starts ++ from-steps)) (start_lines_all starts steps)
      ∙ s
      ∙ ap (λ (n : ℕ). read_steps n (k + length starts) (model h actions starts []) from-steps) (sym c)
      ∙ read_steps_lines h actions starts (k + length starts) steps r f

  read_starts_done : (n k : ℕ) (parts : List (List ℕ)) (m : Model)
      → read_starts n k (model h actions [] []) parts ≡ done m
      → Stated line_of_start (StartFits h) n [] parts
      (λ starts rest. (next : ℕ) × (read_steps h.steps next (model h actions starts []) rest ≡ done m))
  unfolding read_starts
  read_starts_done n k parts m q =
      lines_of_done line_of_start (StartFits h) (start_of h) starts_read (λ n j b p. refl) (line_of_start_of h)
      n k [] parts m q

-- ---- behind the actions

module _ (k : ℕ) (m : Model) (parts : List (List ℕ)) where
  pub behind_actions_high : T (some_high? m.actions)
      → behind_actions k m parts ≡ read_starts (start_lines parts) k m parts
  unfolding behind_actions
  behind_actions_high t = rw (T→true (some_high? m.actions) t)

  pub behind_actions_no_high : T (not (some_high? m.actions)) → behind_actions k m parts ≡ faulty NoHigh (k - 1)
  unfolding behind_actions
  behind_actions_no_high t = rw (not-T→false (some_high? m.actions) t)

  behind_actions_done : (n : Model) → behind_actions k m parts ≡ done n
      → T (some_high? m.actions) × (read_starts (start_lines parts) k m parts ≡ done n)
  unfolding behind_actions
  behind_actions_done n q = cond-done (some_high? m.actions) _ NoHigh (k - 1) n q

  -- where no `I` line follows the `A` lines the steps are read next, as of a text that has none
  pub behind_actions_no_starts : T (some_high? m.actions) → start_lines parts ≡ 0
      → behind_actions k m parts ≡ read_steps m.head.steps k m parts
  unfolding read_starts
  behind_actions_no_starts t e = behind_actions_high t ∙ ap (λ (n : ℕ). read_starts n k m parts) e

-- ---- the whole

abbrev actions_read : Head → ℕ → ℕ → List ActionLine → List (List ℕ) → Reading
actions_read h n k before parts = read_actions n k (model h before [] []) parts

-- a first line and actions without a fault
module _ (h : Head) (actions : List ActionLine) (fits : T (head_fits? h)) (count : length actions ≡ h.actions)
    (each : EachAfter ActionFits [] actions) (parts : List (List ℕ)) (some : 0 < length parts) where
  read_model_actions : read_model (line_of_head h ∷ (map line_of_action actions ++ parts))
      ≡ behind_actions (2 + length actions) (model h actions [] []) parts
  unfolding read_model read_actions or_fault
  read_model_actions =
      let l : 0 < length (map line_of_action actions ++ parts) = simp length-append (omega arith) in
      on_line-cons 1 (line_of_head h) (map line_of_action actions ++ parts) _ l
      ∙ rw (head_of_line h fits, or_fault)
      (ap (λ (n : ℕ). actions_read h n 2 [] (map line_of_action actions ++ parts)) (sym count)
      ∙ lines_read line_of_action ActionFits action_of (actions_read h) (λ n j b p. refl) action_of_line
      actions 2 [] parts some each)

  -- Without a high action they are refused at the last `A` line, whatever follows it.
  pub read_model_no_high : T (not (some_high? actions))
      → read_model (line_of_head h ∷ (map line_of_action actions ++ parts)) ≡ faulty NoHigh (1 + length actions)
  read_model_no_high t =
      let z : 2 + length actions - 1 ≡ 1 + length actions = omega arith in
      read_model_actions
      ∙ behind_actions_no_high (2 + length actions) (model h actions [] []) parts t
      ∙ ap (faulty NoHigh) z

pub read_model-parts : (m : Model) → WellFormed m → read_model (parts_of m) ≡ done m
read_model-parts m w =
    let from-starts : List (List ℕ) = map line_of_start m.extra_starts ++ (map line_of_step m.steps ++ last) in
    let k : 0 < length from-starts = simp length-append (omega arith) in
    read_model_actions m.head m.actions w.head w.action_count w.actions from-starts k
    ∙ behind_actions_high (2 + length m.actions) (model m.head m.actions [] []) from-starts w.some_high
    ∙ read_starts_lines m.head m.actions (2 + length m.actions) m.extra_starts m.steps
    (head_fits?→HeadRanges m.head w.head) w.step_count w.extra_starts_is w.steps

joined : (parts : List (List ℕ)) (m : Model) (line : List ℕ) (from-actions from-starts from-steps end : List (List ℕ))
    → parts ≡ line ∷ from-actions → line ≡ line_of_head m.head
    → from-actions ≡ map line_of_action m.actions ++ from-starts
    → from-starts ≡ map line_of_start m.extra_starts ++ from-steps → from-steps ≡ map line_of_step m.steps ++ end
    → end ≡ last → parts ≡ parts_of m
joined parts m line from-actions from-starts from-steps end p l a i s e = rw (p, l, a, i, s, e)

pub parts_of_of-read_model : (parts : List (List ℕ)) (m : Model) → read_model parts ≡ done m
    → WellFormed m × (parts ≡ parts_of m)
unfolding read_model read_actions
parts_of_of-read_model parts m q = first (on_line-done 1 parts _ m q)
  where
    whole : (line : List ℕ) (rest : List (List ℕ)) (h : Head) → parts ≡ line ∷ rest
        → (line ≡ line_of_head h) × T (head_fits? h)
        → Stated line_of_action ActionFits h.actions [] rest
        (λ actions after. (next : ℕ) × (behind_actions next (model h actions [] []) after ≡ done m))
        → WellFormed m × (parts ≡ parts_of m)
    whole line rest h p l a =
        let b = behind_actions_done a.after.0 (model h a.stated [] []) a.rest m a.after.1 in
        let i = read_starts_done h a.stated (start_lines a.rest) a.after.0 a.rest m b.1 in
        let s = read_steps_done h a.stated i.stated h.steps i.after.0 i.rest m i.after.1 in
        subst (λ (n : Model). WellFormed n × (parts ≡ parts_of n)) s.after.1 (
          record {
            head = l.1;
            action_count = a.count;
            step_count = s.count;
            actions = a.fit;
            some_high = b.0;
            extra_starts_is = i.fit;
            steps = s.fit;
          },
          joined parts (model h a.stated i.stated s.stated) line rest a.rest i.rest s.rest p l.0
              a.lines i.lines s.lines
              s.after.0,
        )

    second : (line : List ℕ) (rest : List (List ℕ)) → parts ≡ line ∷ rest
        → (h : Head) × (head_of line ≡ good h) × (read_actions h.actions 2 (model h [] [] []) rest ≡ done m)
        → WellFormed m × (parts ≡ parts_of m)
    second line rest p f =
        whole line rest f.0 p (line_of_head_of line f.0 f.1)
        (lines_of_done line_of_action ActionFits action_of (actions_read f.0) (λ n j b p. refl) line_of_action_of
        f.0.actions 2 [] rest m f.2)

    first : (line : List ℕ) × (rest : List (List ℕ)) × (parts ≡ line ∷ rest) × (0 < length rest)
        × (or_fault 1 (head_of line) (λ h. read_actions h.actions 2 (head_model h) rest) ≡ done m)
        → WellFormed m × (parts ≡ parts_of m)
    first o = second o.0 o.1 o.2 (or_fault-done 1 (head_of o.0) _ m o.4)
