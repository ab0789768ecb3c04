-- The reading of a text goes on through its steps to its end, and what it then comes to.
-- Document 01, "The text" and "Refused because of the input". Assumes nothing.
use Rattle.std.specs.Prelude.{Bool, true, false, cond, List, [], ◌∷◌, ◌++◌, ◌≡◌, refl, length, take, drop, get_or, Option, Some}
use Rattle.std.proofs.Common.{◌∙◌, length-append, length-drop, length-take-le, get_or-drop}
use Prim.Native.Nat.{ℕ, suc, ◌+◌, ◌-◌, ◌≤◌, ◌<◌}
use native.Mathlib.Omega.{arith}
use Rattle.std.proofs.lemmas.List.Edits.{sets}
use Rattle.text.specs.declared.Fault.{Fault}
use Rattle.text.specs.declared.Fault.TheVariants.{Absent, Shape}
use Rattle.text.specs.declared.Head.{Head}
use Rattle.text.specs.declared.StepLine.{StepLine}
use Rattle.text.specs.Limits.{store_length, step_place}
use Rattle.text.specs.Bytes.{byte_e, line_end, kind_of}
use Rattle.text.specs.Split.{cons_first, split, index_of, same?}
use Rattle.text.specs.Laws.SplitLaws.{Is, same, other, is, split-nil, split-end, split-cons, split_first, found_le}
use Rattle.text.specs.Laws.SameLaws.{same?-length}
use Rattle.text.specs.Laws.FieldsLaws.{same?_byte, same?_other, take_one}
use Rattle.text.specs.Model.{Model, with_step, above?, above_last?}
use Rattle.text.specs.Lines.{step_of}
use Rattle.text.specs.Inner.LineAnswers.{after?, Last}
use Rattle.model.specs.Reading.{Reading, done, faulty, on_line, or_fault, read_nothing, read_end, read_steps}
use Rattle.text.specs.Inner.Row.{LineTaken, LineRefused}
use Rattle.reader.specs.declared.answers.LineStart.{LineStart}
use Rattle.reader.specs.Inner.ReadSoFar.{whole, parts_from, AfterStep, AfterSteps, AfterEnd}
use Rattle.model.specs.Store.{step_row}
use Rattle.model.specs.Laws.Store.StoreLaws.{store_of-length_of_places}
use Rattle.model.specs.Laws.Store.PutLaws.{store_of-with_step}
use Rattle.reader.specs.Laws.ReadLaws.{on_line_absent, on_line_line, line_refused, line_taken, in_text_next}

-- ---- the steps

above_last?-snoc : (steps : List StepLine) (s t : StepLine) → above_last? (steps ++ (s ∷ [])) t ≡ above? s t
unfolding above_last?
above_last?-snoc [] s t = refl
above_last?-snoc (r ∷ []) s t = refl
above_last?-snoc (r ∷ q ∷ rest) s t = above_last?-snoc (q ∷ rest) s t

last_snoc : (steps : List StepLine) (s : StepLine) → Last (steps ++ (s ∷ [])) (Some s)
unfolding after?
last_snoc steps s = record { above = λ t. above_last?-snoc steps s t }

module _ (h : Head) (text : List ℕ) (start : LineStart) (j : ℕ) (last : Option StepLine) (store : List ℕ)
    (b : AfterStep h text start j last store) (lt : j < h.steps) where
  abbrev read_on : ℕ → StepLine → List (List ℕ) → Reading
  read_on k s parts =
      read_steps (h.steps - (j + 1)) k
      (with_step (record { head = h; actions = b.actions; extra_starts = b.extra_starts; steps = b.steps }) s) parts

  ahead : whole text ≡ on_line start.line (parts_from text start) (λ line parts.
      or_fault start.line (step_of h b.steps line) (λ s. read_on (suc start.line) s parts))
  unfolding read_steps
  ahead = let c : h.steps - j ≡ suc (h.steps - (j + 1)) = omega arith in b.rest ∙ rw c

  pub step_refused : (fault : Fault) → LineRefused (step_of h b.steps) text start.at fault
      → whole text ≡ faulty fault start.line
  step_refused = line_refused text start b.inside.place (step_of h b.steps) read_on ahead

  pub step_taken : (s : StepLine) (next : ℕ) → LineTaken (step_of h b.steps) text start.at s next
      → AfterStep h text (record { at = next; line = start.line + 1 }) (j + 1) (Some s)
      (sets store (step_place j) (step_row s))
  step_taken s next (e, n, l) =
      let m = b.ranges.steps in
      rw n (record {
        ranges = b.ranges;
        inside = in_text_next text start e b.inside l.found l.inside;
        actions = b.actions;
        action_places = b.action_places;
        extra_starts = b.extra_starts;
        extra_count_le = b.extra_count_le;
        steps = b.steps ++ (s ∷ []);
        count = length-append b.steps (s ∷ []) ∙ omega arith;
        last_step = last_snoc b.steps s;
        stored = rw b.stored
            (store_of-with_step h b.actions b.extra_starts b.steps s j b.action_places b.count
            (omega arith));
        rest = line_taken text start b.inside.place (step_of h b.steps) read_on ahead s e l;
      })

pub after_step-length : (h : Head) (text : List ℕ) (start : LineStart) (j : ℕ) (last : Option StepLine) (store : List ℕ)
    → AfterStep h text start j last store → j ≤ h.steps → length store ≡ store_length
after_step-length h text start j last store b l =
    let n = b.ranges.steps in
    let c = b.count in
    let model : Model = record {
      head = h;
      actions = b.actions;
      extra_starts = b.extra_starts;
      steps = b.steps;
    } in
    rw b.stored (store_of-length_of_places model b.action_places b.extra_count_le (omega arith))

pub after_steps : (h : Head) (text : List ℕ) (start : LineStart) (j : ℕ) (last : Option StepLine) (store : List ℕ)
    → AfterStep h text start j last store → j ≡ h.steps → AfterSteps text start store
unfolding read_steps
after_steps h text start j last store b c =
    let z : h.steps - j ≡ 0 = omega arith in
    record {
      inside = b.inside;
      model = record { head = h; actions = b.actions; extra_starts = b.extra_starts; steps = b.steps };
      stored = b.stored;
      rest = b.rest ∙ rw z;
    }

-- ---- the end

-- bytes after the end
read_nothing_more : (k : ℕ) (m : Model) (s : List ℕ) → 0 < length s → read_nothing k m (split line_end s) ≡ faulty
    Absent k
unfolding read_nothing cons_first
read_nothing_more k m [] h = absurd (omega arith)
read_nothing_more k m (b ∷ bs) h = go (is (kind_of b) line_end) (split_first line_end bs)
  where
    go : Is (kind_of b) line_end → (part : List ℕ) × (parts : List (List ℕ)) × (split line_end bs ≡ part ∷ parts)
        → read_nothing k m (split line_end (b ∷ bs)) ≡ faulty Absent k
    go (same e) w = rw (split-end line_end b bs e, w.2)
    go (other e) w = rw (split-cons line_end b bs e, w.2)

read_nothing-nil : (k : ℕ) (m : Model) (s : List ℕ) → length s ≡ 0 → read_nothing k m (split line_end s) ≡ done m
unfolding read_nothing
read_nothing-nil k m [] h = rw (split-nil line_end)
read_nothing-nil k m (b ∷ bs) h = absurd (omega arith)

module _ (text : List ℕ) (start : LineStart) (store : List ℕ) (b : AfterSteps text start store) (e : ℕ)
    (found : e ≡ start.at + index_of line_end (drop start.at text)) where
  pub end_absent : length text ≤ e → whole text ≡ faulty Absent start.line
  unfolding read_end
  end_absent l = b.rest ∙ on_line_absent text start.at e b.inside.place found start.line _ l

  module _ (l : e < length text) where
    end_line : (t : Bool) → same? (take (e - start.at) (drop start.at text)) (byte_e ∷ []) ≡ t
        → whole text ≡ cond t
        (read_nothing (suc start.line) b.model (split line_end (drop (e + 1) text)))
        (faulty Shape start.line)
    unfolding read_end
    end_line t s = b.rest ∙ on_line_line text start.at e b.inside.place found start.line _ l ∙ rw s

    line_length : length (take (e - start.at) (drop start.at text)) ≡ e - start.at
    line_length =
        let d = length-drop start.at text in length-take-le (e - start.at) (drop start.at text) (omega arith)

    pub end_long : (e ≡ start.at + 1 → ⊥) → whole text ≡ faulty Shape start.line
    end_long n =
        let f = found_le line_end text start.at e b.inside.place found in
        let m = line_length in
        let long : length (take (e - start.at) (drop start.at text)) ≡ 1 → ⊥ = λ y. n (omega (arith, y)) in
        end_line false (same?-length (take (e - start.at) (drop start.at text)) (byte_e ∷ []) long)

    module _ (one : e ≡ start.at + 1) where
      line_byte : take (e - start.at) (drop start.at text) ≡ get_or text start.at 0 ∷ []
      line_byte =
          let d = length-drop start.at text in
          let k : e - start.at ≡ 1 = omega arith in
          let n : 0 < length (drop start.at text) = omega arith in
          let z : start.at + 0 ≡ start.at = omega arith in
          rw (k, take_one (drop start.at text) n, get_or-drop, z)

      pub end_other : (get_or text start.at 0 ≡ byte_e → ⊥) → whole text ≡ faulty Shape start.line
      end_other n = end_line false (rw line_byte (same?_other (get_or text start.at 0) byte_e n))

      module _ (letter : get_or text start.at 0 ≡ byte_e) where
        end_letter : whole text ≡ read_nothing (suc start.line) b.model (split line_end (drop (e + 1) text))
        end_letter = end_line true (rw line_byte (same?_byte (get_or text start.at 0) byte_e letter))

        pub end_more : (e + 1 ≡ length text → ⊥) → whole text ≡ faulty Absent (start.line + 1)
        end_more n =
            let c : suc start.line ≡ start.line + 1 = omega arith in
            end_letter ∙ rw c (read_nothing_more (start.line + 1) b.model (drop (e + 1) text) (lt_more n))
          where
            lt_more : (e + 1 ≡ length text → ⊥) → 0 < length (drop (e + 1) text)
            lt_more n = rw length-drop (omega arith)

        pub end_done : e + 1 ≡ length text → AfterEnd text store
        end_done c =
            let d = length-drop (e + 1) text in
            record {
              model = b.model;
              stored = b.stored;
              reads = end_letter ∙ read_nothing-nil (suc start.line) b.model (drop (e + 1) text) (omega arith);
            }
