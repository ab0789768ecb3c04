-- The promise of Read, which is stated of the outcome, pins the answer too, with its cause.
-- Document 01, operation 1. Assumes nothing.
use Rattle.std.specs.Prelude.{List, ◌⊎◌, ◌≡◌, ℕ, Result, Ok, Err}
use Rattle.std.proofs.Common.{inl, inr, sym, ap, ◌∙◌, arith}
use Rattle.std.proofs.Math.Option.{none, some}
use Rattle.text.specs.declared.Fault.{Fault}
use Rattle.text.specs.declared.Fault.TheVariants.{Absent, Shape, Digits, Range, Repeated, Order, StartOrder}
use Rattle.text.specs.declared.Fault.TheVariants.{NoHigh}
use Rattle.text.specs.Faults.{refuses, fault_number}
use Rattle.read_write.specs.declared.read.ReadRefusal.{ReadRefusal}
use Rattle.read_write.specs.declared.read.ReadRefusal.TheVariants as read
use Rattle.read_write.specs.ReadPromise.{read_outcome, read_lists, ReadPromise, ReadCause}
use Rattle.model.proofs.Laws.OnStoreLaws.{option_cases}

-- A refusal 21 of Read is told in one way.
short-read : (r : Result (Unit {0}) ReadRefusal) (k : ℕ) → read_outcome r ≡ refuses 21 k
    → r ≡ Err (read.ShortList k)
unfolding read_outcome
short-read (Ok _) k e = let z : ◌≡◌ {A = ℕ} 0 1 = cc in absurd (omega arith)
short-read (Err (read.ShortList place)) k e = let same : place ≡ k = cc in ap (λ n. Err (read.ShortList n)) same
short-read (Err read.TooLong) k e = let z : ◌≡◌ {A = ℕ} 1 21 = cc in absurd (omega arith)
short-read (Err (read.Faulty bad)) k e = absurd (not_short bad.fault e)
  where
    not_short : (f : Fault) → ¬ (refuses (fault_number f) bad.line ≡ refuses 21 k)
    not_short Absent h = let z : ◌≡◌ {A = ℕ} 32 21 = cc in absurd (omega arith)
    not_short Shape h = let z : ◌≡◌ {A = ℕ} 2 21 = cc in absurd (omega arith)
    not_short Digits h = let z : ◌≡◌ {A = ℕ} 31 21 = cc in absurd (omega arith)
    not_short Range h = let z : ◌≡◌ {A = ℕ} 3 21 = cc in absurd (omega arith)
    not_short Repeated h = let z : ◌≡◌ {A = ℕ} 4 21 = cc in absurd (omega arith)
    not_short Order h = let z : ◌≡◌ {A = ℕ} 5 21 = cc in absurd (omega arith)
    not_short StartOrder h = let z : ◌≡◌ {A = ℕ} 33 21 = cc in absurd (omega arith)
    not_short NoHigh h = let z : ◌≡◌ {A = ℕ} 35 21 = cc in absurd (omega arith)

-- Read's promise with its cause pins Read's answer.
pub read_answer_unique : {text store exit exit' : List ℕ} (r q : Result (Unit {0}) ReadRefusal)
    → ReadPromise text store (read_outcome r) exit → ReadCause text store r
    → ReadPromise text store (read_outcome q) exit' → ReadCause text store q → r ≡ q
read_answer_unique {text} {store} r q p c o d = go (option_cases (read_lists text store))
  where
    go : ((k : ℕ) × (read_lists text store ≡ some k)) ⊎ (read_lists text store ≡ none) → r ≡ q
    go (inl (k, e)) = short-read r k (p.short k e).0 ∙ sym (short-read q k (o.short k e).0)
    go (inr e) = c.cause e ∙ sym (d.cause e)
