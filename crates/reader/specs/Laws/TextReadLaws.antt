-- What the lines of a text answer and leave, by what the first line and the lines behind it came to.
-- Document 01, operation 1, and "Refused because of the input". Assumes nothing.
use Rattle.std.specs.Prelude.{List, [], ◌∷◌, ◌++◌, ◌≡◌, refl, ℕ, ◌+◌, ◌-◌, ◌≤◌, ◌<◌, length, take, drop, Result, Ok, Err}
use Rattle.std.proofs.Common.{inl, inr, sym, ap, ◌∙◌, arith, drop_of_length-le}
use Rattle.text.specs.declared.Fault.{Fault}
use Rattle.text.specs.declared.Fault.TheVariants.{Absent}
use Rattle.text.specs.declared.Head.{Head}
use Rattle.reader.specs.declared.answers.LineFault.{LineFault}
use Rattle.text.specs.Limits.{store_length}
use Rattle.text.specs.Bytes.{line_end}
use Rattle.text.specs.Split.{split, index_of}
use Rattle.text.specs.Laws.SplitLaws.{split-nil, split_first, split_part, split_last, found_le}
use Rattle.text.specs.Lines.{bad, head_of}
use Rattle.text.specs.Inner.LineAnswers.{head_read}
use Rattle.text.specs.Inner.Scan.{HeadAt}
use Rattle.model.specs.Reading.{faulty, on_line, or_fault, read_model}
use Rattle.reader.specs.Answers.{reading_store, ReadAs}
use Rattle.reader.specs.Inner.ReadSoFar.{whole, AfterHead, AfterEnd, Through, ReadOut}
use Rattle.reader.specs.Inner.FirstLine.{AfterLine, AfterFirst, first_line}
use Rattle.reader.specs.Laws.ReadLaws.{head_of-ranges}

-- ---- the first line

-- past the text there is no line
past : (text : List ℕ) (at : ℕ) → length text < at → split line_end (drop at text) ≡ [] ∷ []
past text at h = let l : length text ≤ at = omega arith in rw (drop_of_length-le text l) (split-nil line_end)

one_part : {line part p : List ℕ} {parts : List (List ℕ)} → p ∷ [] ≡ line ∷ part ∷ parts → ⊥
one_part h = let z : ◌≡◌ {A = ℕ} 0 1 = cc in absurd (omega arith)

pub first_line_past : (text : List ℕ) (at : ℕ) → length text < at → bad Absent ≡ first_line
    (split line_end (drop at text))
unfolding first_line
first_line_past text at h = rw (past text at h)

pub after_line_past : (text : List ℕ) (at : ℕ) → length text < at → AfterLine text at (length text)
after_line_past text at h =
    record { place = omega arith; rest = λ line part parts s. absurd (one_part (sym (past text at h) ∙ s)) }

module _ (text : List ℕ) (at e : ℕ) (le : at ≤ length text) (found : e ≡ at + index_of line_end (drop at text)) where
  first_line_absent : length text ≤ e → bad Absent ≡ first_line (split line_end (drop at text))
  unfolding first_line
  first_line_absent l = rw (split_last line_end text at e le found l)

  first_line_line : e < length text → head_of (take (e - at) (drop at text)) ≡ first_line
      (split line_end (drop at text))
  unfolding first_line
  first_line_line l =
      let w = split_first line_end (drop (e + 1) text) in rw (split_part line_end text at e le found l, w.2)

  pub after_line_absent : length text ≤ e → AfterLine text at e
  after_line_absent l =
      let f = found_le line_end text at e le found in
      record {
        place = f.1;
        rest = λ line part parts s. absurd (one_part (sym (split_last line_end text at e le found l) ∙ s));
      }

  pub after_line_line : e < length text → AfterLine text at (e + 1)
  after_line_line l =
      record {
        place = omega arith;
        rest = λ line part parts s. tail (sym (split_part line_end text at e le found l) ∙ s);
      }
    where
      tail : {p q : List ℕ} {ps qs : List (List ℕ)} → p ∷ ps ≡ q ∷ qs → ps ≡ qs
      tail h = cc

-- what was read of the line at a place is what it states as the first one
pub first_line-head : (text : List ℕ) (at : ℕ) → at ≤ length text → (r : Result Head Fault) → HeadAt text at r
    → head_read r ≡ first_line (split line_end (drop at text))
unfolding HeadAt head_read
first_line-head text at le (Ok h) (e, l) =
    sym l.reads ∙ first_line_line text at e le l.found l.inside
first_line-head text at le (Err fault) (e, inl n) =
    ap bad n.absent ∙ first_line_absent text at e le n.found n.outside
first_line-head text at le (Err fault) (e, inr l) =
    sym l.reads ∙ first_line_line text at e le l.found l.inside

head_read_bad : (r : Result Head Fault) (fault : Fault) → head_read r ≡ bad fault → r ≡ Err fault
unfolding head_read
head_read_bad (Ok h) fault e = let z : ◌≡◌ {A = ℕ} 0 1 = cc in absurd (omega arith)
head_read_bad (Err f) fault e = let d : f ≡ fault = cc in ap Err d

-- the first line of the text, and the place after it
pub after_first : (r : Result Head Fault) (text : List ℕ) (at : ℕ) → head_read r ≡ first_line (split line_end text)
    → AfterLine text 0 at → AfterFirst r text at
unfolding first_line AfterFirst read_model on_line or_fault head_read
after_first r text at e b = go (split line_end text) refl r e
  where
    go : (parts : List (List ℕ)) → split line_end text ≡ parts → (r : Result Head Fault) → head_read r ≡ first_line parts
        → AfterFirst r text at
    go [] s (Ok h) d = let z : ◌≡◌ {A = ℕ} 0 1 = cc in absurd (omega arith)
    go [] s (Err f) d = let f' : f ≡ Absent = cc in rw (s, f')
    go (line ∷ []) s (Ok h) d = let z : ◌≡◌ {A = ℕ} 0 1 = cc in absurd (omega arith)
    go (line ∷ []) s (Err f) d = let f' : f ≡ Absent = cc in rw (s, f')
    go (line ∷ part ∷ parts) s (Ok h) d =
        record {
          ranges = head_of-ranges line h (sym d);
          inside = record { place = b.place; line_pos = omega arith; line_le = omega arith };
          rest = rw (s, ← d, b.rest line part parts s);
        }
    go (line ∷ part ∷ parts) s (Err f) d = rw (s, ← d)

pub after_first_bad : (r : Result Head Fault) (text : List ℕ) (at : ℕ) (fault : Fault) → r ≡ Err fault
    → AfterFirst r text at → whole text ≡ faulty fault 1
unfolding AfterFirst
after_first_bad r text at fault e b = rw e at b

pub after_first_good : (r : Result Head Fault) (text : List ℕ) (at : ℕ) (h : Head) → r ≡ Ok h → AfterFirst r text
    at
    → AfterHead h text (record { at = at; line = 2 })
unfolding AfterFirst
after_first_good r text at h e b = rw e at b

-- ---- the answer

pub read_out_faulty : (text store : List ℕ) (b : LineFault) → whole text ≡ faulty b.fault b.line
    → ReadOut text store (Err b) store
unfolding ReadAs reading_store
read_out_faulty text store b e = record { answer = e; filled = rw e }

pub read_out-done : (text store local exit : List ℕ) → AfterEnd text local → length local ≡ store_length
    → exit ≡ local ++ drop (length local) store → ReadOut text store (Ok tt) exit
unfolding ReadAs reading_store
read_out-done text store local exit b n c =
    record { answer = (b.model, b.reads); filled = c ∙ rw (b.reads, n, b.stored) }

-- by what the lines behind the first came to
pub through-done : (text local : List ℕ) (r : Result (Unit {0}) LineFault) → r ≡ Ok tt → Through text local r → AfterEnd text local
unfolding Through
through-done text local r e h = rw e at h

pub through_faulty : (text store local : List ℕ) (r : Result (Unit {0}) LineFault) (b : LineFault) → r ≡ Err b
    → Through text local r → ReadOut text store r store
unfolding Through
through_faulty text store local (Ok _) b e h = let z : ◌≡◌ {A = ℕ} 0 1 = cc in absurd (omega arith)
through_faulty text store local (Err a) b e h = read_out_faulty text store a h
