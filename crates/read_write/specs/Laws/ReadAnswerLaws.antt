-- What Read answers and leaves, by the lengths of its lists and what the lines came to.
-- Document 01, operation 1, and both sections on refusals. Assumes nothing.
use Rattle.std.specs.Prelude.{List, ◌≡◌, refl, ℕ, ◌≤◌, ◌<◌, length, Result, Ok, Err}
use Rattle.std.proofs.Math.Option.{some}
use Rattle.std.proofs.Common.{ap, ◌∙◌, arith}
use Rattle.std.proofs.Math.Path.{subst}
use borrow.Author.Tests.{lt-ltb, le-ltb}
use Rattle.reader.specs.declared.answers.LineFault.{LineFault}
use Rattle.read_write.specs.declared.read.ReadRefusal.{ReadRefusal}
use Rattle.read_write.specs.declared.read.ReadRefusal.TheVariants as read
use Rattle.text.specs.Limits.{store_length, text_limit}
use Rattle.text.specs.Faults.{first_short}
use Rattle.model.specs.Reading.{Reading, done, too_long, faulty, read_text}
use Rattle.read_write.specs.Laws.ReadPromiseLaws.{read_lists_none}
use Rattle.read_write.specs.ReadPromise.{read_outcome, reading_outcome, read_answer, read_lists}
use Rattle.read_write.specs.ReadPromise.{ReadPromise, ReadCause}
use Rattle.reader.specs.Answers.{reading_store, ReadAs}
use Rattle.reader.specs.Inner.ReadSoFar.{whole, ReadOut}

read_lists_short : (text store : List ℕ) → length store < store_length → read_lists text store ≡ some 2
unfolding first_short
read_lists_short text store h = rw (le-ltb (length text) 0 (omega arith), lt-ltb (length store) store_length h)

-- what a reading's answer tells
read_outcome-read_answer : (x : Reading) → read_outcome (read_answer x) ≡ reading_outcome x
unfolding read_outcome reading_outcome read_answer
read_outcome-read_answer (done m) = refl
read_outcome-read_answer too_long = refl
read_outcome-read_answer (faulty fault line) = refl

-- the answer by what the lines came to
module _ {text store exit : List ℕ} {r : Result (Unit {0}) LineFault} (b : ReadOut text store r exit) where
  pub read_answer_done : r ≡ Ok tt → ◌≡◌ {A = Result (Unit {0}) ReadRefusal} (Ok tt) (read_answer (whole text))
  unfolding ReadAs read_answer
  read_answer_done e = let d = subst (λ (x : Result (Unit {0}) LineFault). ReadAs x (whole text)) e b.answer in rw d.1

  pub read_answer_faulty : {bad : LineFault} → r ≡ Err bad
      → Err (read.Faulty bad) ≡ read_answer (whole text)
  unfolding ReadAs read_answer
  read_answer_faulty e = let d = subst (λ (x : Result (Unit {0}) LineFault). ReadAs x (whole text)) e b.answer in rw d

pub read_promise_short : (text store : List ℕ) → length store < store_length
    → ReadPromise text store (read_outcome (Err (read.ShortList 2))) store
unfolding read_outcome
read_promise_short text store h =
    let s = read_lists_short text store h in
    record {
      short = λ k e. let d : 2 ≡ k = (cc) in (rw d, refl);
      answer = λ e. let z : ◌≡◌ {A = ℕ} 0 1 = cc in absurd (omega arith);
      filled = λ e. let z : ◌≡◌ {A = ℕ} 0 1 = cc in absurd (omega arith);
    }

module _ (text store : List ℕ) (h : store_length ≤ length store) where
  not_short : (k : ℕ) → read_lists text store ≡ some k → ⊥
  not_short k e = let n = read_lists_none text store h in let z : ◌≡◌ {A = ℕ} 0 1 = cc in absurd (omega arith)

  pub read_promise_long : text_limit < length text → ReadPromise text store (read_outcome (Err read.TooLong)) store
  unfolding read_text read_outcome reading_outcome reading_store
  read_promise_long l =
      let t = lt-ltb text_limit (length text) l in
      record { short = λ k e. absurd (not_short k e); answer = λ e. rw t; filled = λ e. rw t }

  module _ (r : Result (Unit {0}) ReadRefusal) (l : length text ≤ text_limit) (told : r ≡ read_answer (whole text)) where
    pub read_promise_lines : (exit : List ℕ) → exit ≡ reading_store (whole text) store
        → ReadPromise text store (read_outcome r) exit
    unfolding read_text
    read_promise_lines exit filled =
        let t = le-ltb text_limit (length text) l in
        record {
          short = λ k e. absurd (not_short k e);
          answer = λ e. rw t (ap read_outcome told ∙ read_outcome-read_answer (whole text));
          filled = λ e. rw t filled;
        }

    pub read_cause_lines : ReadCause text store r
    unfolding read_text
    read_cause_lines = let t = le-ltb text_limit (length text) l in record { cause = λ e. rw t told }

  pub read_cause_long : text_limit < length text → ReadCause text store (Err read.TooLong)
  unfolding read_text read_answer
  read_cause_long l = let t = lt-ltb text_limit (length text) l in record { cause = λ e. rw t }

pub read_cause_short : (text store : List ℕ) (r : Result (Unit {0}) ReadRefusal) → length store < store_length → ReadCause text store r
read_cause_short text store r h =
    let s = read_lists_short text store h in
    record { cause = λ e. let z : ◌≡◌ {A = ℕ} 0 1 = cc in absurd (omega arith) }
