-- The reading of a text goes on line by line: what a line that is absent, bad or good makes of what has been read
-- so far. First of any kind of line, then of the actions.
-- Document 01, "The text" and "Refused because of the input". Assumes nothing.
use Rattle.std.specs.Prelude.{true, false, List, [], ◌∷◌, ◌++◌, ◌≡◌, refl, length, take, drop, get_or, Result, Ok, Err}
use Rattle.std.proofs.Common.{inl, inr, sym, ap, ◌∙◌, length-append}
use Prim.Native.Nat.{ℕ, suc, ◌+◌, ◌-◌, ◌≤◌, ◌<◌}
use native.Mathlib.Omega.{arith}
use Rattle.std.proofs.lemmas.List.Edits.{sets}
use Rattle.text.specs.declared.Fault.{Fault}
use Rattle.text.specs.declared.Fault.TheVariants.{Absent, Repeated}
use Rattle.text.specs.declared.Head.{Head}
use Rattle.reader.specs.declared.answers.LineStart.{LineStart}
use Rattle.reader.specs.declared.answers.LineFault.{LineFault}
use Rattle.text.specs.Limits.{name_limit, store_length, action_place}
use Rattle.text.specs.Bytes.{byte_a, line_end}
use Rattle.text.specs.Split.{split, index_of}
use Rattle.text.specs.Laws.SplitLaws.{split_first, split_part, split_last}
use Rattle.text.specs.Model.{ActionLine, Model, with_action}
use Rattle.text.specs.Lines.{Line, good, bad, head_of, level_of}
use Rattle.text.specs.Lines.{action_fields, fields_of, used?, action_from, action_of}
use Rattle.text.specs.Inner.Ranges.{HeadRanges}
use Rattle.text.specs.Inner.Row.{LineAt, LineRefused}
use Rattle.text.specs.Laws.RangesLaws.{head_fits?→HeadRanges}
use Rattle.model.specs.Laws.Text.ActionLineLaws.{good-name_from, name-length}
use Rattle.model.specs.Laws.Text.LineTextLaws.{line_of_head_of}
use Rattle.model.specs.Reading.{Reading, faulty, on_line, or_fault, read_actions, head_model}
use Rattle.model.specs.Store.{store_of}
use Rattle.reader.specs.Inner.ReadSoFar.{whole, InText, parts_from, AfterHead, AfterActions, Further}
use Rattle.model.specs.Inner.StoredActions.{Short}
use Rattle.model.specs.Laws.Store.StoreLaws.{store_of-length_of_places}
use Rattle.model.specs.Laws.Store.PutLaws.{actions_numbers-length_of_short, short-snoc, store_of-with_action}

-- ---- a line, found by its end

module _ (text : List ℕ) (at e : ℕ) (le : at ≤ length text) (found : e ≡ at + index_of line_end (drop at text))
    (k : ℕ) (read : List ℕ → List (List ℕ) → Reading) where
  pub on_line_absent : length text ≤ e → on_line k (split line_end (drop at text)) read ≡ faulty Absent k
  unfolding on_line
  on_line_absent l = rw (split_last line_end text at e le found l)

  pub on_line_line : e < length text
      → on_line k (split line_end (drop at text)) read
      ≡ read (take (e - at) (drop at text)) (split line_end (drop (e + 1) text))
  unfolding on_line
  on_line_line l =
      let w = split_first line_end (drop (e + 1) text) in rw (split_part line_end text at e le found l, w.2)

or_fault_bad : {A : Type 0} (k : ℕ) (l : Line A) (read : A → Reading) (fault : Fault) → l ≡ bad fault
    → or_fault k l read ≡ faulty fault k
unfolding or_fault
or_fault_bad k l read fault e = rw e

or_fault_good : {A : Type 0} (k : ℕ) (l : Line A) (read : A → Reading) (a : A) → l ≡ good a
    → or_fault k l read ≡ read a
unfolding or_fault
or_fault_good k l read a e = rw e

-- The line ahead is read by `read`, and by `read_on` what follows it, where it is good: shared by all kinds of lines.
module _ {A : Type 0} (text : List ℕ) (start : LineStart) (le : start.at ≤ length text) (read : List ℕ → Line A)
    (read_on : ℕ → A → List (List ℕ) → Reading)
    (rest : whole text ≡ on_line start.line (parts_from text start) (λ line parts.
    or_fault start.line (read line) (λ a. read_on (suc start.line) a parts))) where
  pub line_refused : (fault : Fault) → LineRefused read text start.at fault
      → whole text ≡ faulty fault start.line
  line_refused fault (e, inl n) =
      rest ∙ on_line_absent text start.at e le n.found start.line _ n.outside
      ∙ ap (λ (f : Fault). faulty f start.line) (sym n.absent)
  line_refused fault (e, inr l) =
      rest ∙ on_line_line text start.at e le l.found start.line _ l.inside
      ∙ or_fault_bad start.line _ _ fault l.reads

  pub line_taken : (a : A) (e : ℕ) → LineAt read text start.at (good a) e
      → whole text ≡ read_on (start.line + 1) a (split line_end (drop (e + 1) text))
  line_taken a e l =
      let c : suc start.line ≡ start.line + 1 = omega arith in
      rest ∙ on_line_line text start.at e le l.found start.line _ l.inside
      ∙ or_fault_good start.line _ _ a l.reads ∙ rw c

-- ---- what some lines came to

pub further_faulty : (P Q : LineStart → Type 0) (text : List ℕ) (r : Result LineStart LineFault) (b : LineFault)
    → r ≡ Err b → Further P text r → Further Q text r
unfolding Further
further_faulty P Q text (Ok start) b e h = let z : ◌≡◌ {A = ℕ} 0 1 = cc in absurd (omega arith)
further_faulty P Q text (Err a) b e h = h

pub further-refused : (P : LineStart → Type 0) (text : List ℕ) (r : Result LineStart LineFault)
    (b : LineFault) → r ≡ Err b → Further P text r → whole text ≡ faulty b.fault b.line
unfolding Further
further-refused P text r b e h = rw e at h

pub further_next : (P : LineStart → Type 0) (text : List ℕ) (r : Result LineStart LineFault) (start : LineStart)
    → r ≡ Ok start → Further P text r → P start
unfolding Further
further_next P text r start e h = rw e at h

-- ---- what a good line keeps

pub head_of-ranges : (line : List ℕ) (h : Head) → head_of line ≡ good h → HeadRanges h
head_of-ranges line h e = head_fits?→HeadRanges h (line_of_head_of line h e).1

-- a name that was read has 1 to 12 bytes
pub action_fields-length : (l : Line (List (List ℕ))) (a : ActionLine) → action_fields l ≡ good a
    → (1 ≤ length a.name) × (length a.name ≤ name_limit)
unfolding action_fields
action_fields-length (good fs) a e =
    let n = good-name_from (level_of (get_or fs 0 [])) (get_or fs 1 []) a e in name-length a.name n.2
action_fields-length (bad fault) a e = let z : ◌≡◌ {A = ℕ} 0 1 = cc in absurd (omega arith)

-- ---- the actions

pub after-head : (h : Head) (text : List ℕ) (start : LineStart) → AfterHead h text start
    → AfterActions h text start 0 (store_of (head_model h))
unfolding Short
after-head h text start b =
    let z : h.actions - 0 ≡ h.actions = omega arith in
    record {
      ranges = b.ranges;
      inside = b.inside;
      actions = [];
      count = refl;
      short = tt;
      stored = refl;
      rest = b.rest ∙ rw z;
    }

pub after_actions-count : (h : Head) (text : List ℕ) (start : LineStart) (i k : ℕ) (store : List ℕ) → i ≡ k
    → AfterActions h text start i store → AfterActions h text start k store
after_actions-count h text start i k store e b = rw e at b

pub after_actions-length : (h : Head) (text : List ℕ) (start : LineStart) (i : ℕ) (store : List ℕ)
    → AfterActions h text start i store → i ≤ h.actions → length store ≡ store_length
after_actions-length h text start i store b l =
    let n = b.ranges.actions in
    let c = b.count in
    let m = actions_numbers-length_of_short b.actions b.short in
    let model : Model = record { head = h; actions = b.actions; extra_starts = []; steps = [] } in
    rw b.stored (store_of-length_of_places model (omega arith) (omega arith) (omega arith))

-- past a line that ends at place e
pub in_text_next : (text : List ℕ) (start : LineStart) (e : ℕ) → InText text start
    → e ≡ start.at + index_of line_end (drop start.at text) → e < length text
    → InText text (record { at = e + 1; line = start.line + 1 })
in_text_next text start e b found l =
    let n = b.line_le in record { place = omega arith; line_pos = omega arith; line_le = omega arith }

module _ (h : Head) (text : List ℕ) (start : LineStart) (i : ℕ) (store : List ℕ) (b : AfterActions h text start i store)
    (lt : i < h.actions) where
  abbrev read_on : ℕ → ActionLine → List (List ℕ) → Reading
  read_on k a parts =
      read_actions (h.actions - (i + 1)) k
      (with_action (record { head = h; actions = b.actions; extra_starts = []; steps = [] }) a) parts

  ahead : whole text ≡ on_line start.line (parts_from text start) (λ line parts.
      or_fault start.line (action_of b.actions line) (λ a. read_on (suc start.line) a parts))
  unfolding read_actions
  ahead = let c : h.actions - i ≡ suc (h.actions - (i + 1)) = omega arith in b.rest ∙ rw c

  module _ (e : ℕ) (found : e ≡ start.at + index_of line_end (drop start.at text)) where
    pub action_absent : length text ≤ e → whole text ≡ faulty Absent start.line
    action_absent l =
        line_refused text start b.inside.place (action_of b.actions) read_on ahead Absent
        (e, inl (record { found = found; outside = l; absent = refl }))

    module _ (l : e < length text) where
      pub action_bad : (fault : Fault)
          → action_of b.actions (take (e - start.at) (drop start.at text)) ≡ bad fault
          → whole text ≡ faulty fault start.line
      action_bad fault r =
          line_refused text start b.inside.place (action_of b.actions) read_on ahead fault
          (e, inr (record { found = found; inside = l; reads = r }))

      pub action_next : (a : ActionLine)
          → action_of b.actions (take (e - start.at) (drop start.at text)) ≡ good a
          → length a.name ≤ name_limit
          → AfterActions h text (record { at = e + 1; line = start.line + 1 }) (i + 1)
          (sets store (action_place i) (a.level ∷ length a.name ∷ a.name))
      action_next a r n =
          let m = b.ranges.actions in
          record {
            ranges = b.ranges;
            inside = in_text_next text start e b.inside found l;
            actions = b.actions ++ (a ∷ []);
            count = length-append b.actions (a ∷ []) ∙ omega arith;
            short = short-snoc b.actions a b.short n;
            stored = rw b.stored (store_of-with_action h b.actions [] [] a i b.count (omega arith) b.short n);
            rest = line_taken text start b.inside.place (action_of b.actions) read_on ahead a e
                (record { found = found; inside = l; reads = r });
          }

-- an action's line by its fields and the names used before
pub action_of_bad : (before : List ActionLine) (line : List ℕ) (fault : Fault)
    → action_fields (fields_of byte_a 2 line) ≡ bad fault
    → action_of before line ≡ bad fault
unfolding action_of action_from
action_of_bad before line fault e = rw (e, action_from)

pub action_of_used : (before : List ActionLine) (line : List ℕ) (a : ActionLine)
    → action_fields (fields_of byte_a 2 line) ≡ good a
    → used? a.name before ≡ true → action_of before line ≡ bad Repeated
unfolding action_of action_from
action_of_used before line a e u = rw (e, action_from, u)

pub action_of_good : (before : List ActionLine) (line : List ℕ) (a : ActionLine)
    → action_fields (fields_of byte_a 2 line) ≡ good a
    → used? a.name before ≡ false → action_of before line ≡ good a
unfolding action_of action_from
action_of_good before line a e u = rw (e, action_from, u)
