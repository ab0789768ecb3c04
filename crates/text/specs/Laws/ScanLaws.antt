-- What a line at a place comes to by another reading of it, and what the lines of extra starts and of steps come to by
-- the answer.
-- Document 01, "The text"; document 02, (iii). Assumes nothing.
use Rattle.std.specs.Prelude.{List, ◌≡◌, ℕ, Result, Ok, Err}
use Rattle.std.proofs.Common.{inl, inr}
use Rattle.std.proofs.Math.Path.{subst}
use Rattle.text.specs.declared.Fault.{Fault}
use Rattle.text.specs.declared.State.{State}
use Rattle.text.specs.declared.StepLine.{StepLine}
use Rattle.text.specs.declared.scan.Taken.{Taken}
use Rattle.text.specs.Lines.{Line, bad}
use Rattle.text.specs.Inner.Row.{LineAt, LineTaken, LineRefused}
use Rattle.text.specs.Inner.Scan.{StartAtRead, StepAtRead}

-- ---- a line by another reading

module _ {A B : Type 0} {read : List ℕ → Line A} {other : List ℕ → Line B} {text : List ℕ} {at : ℕ} where
  pub line_at_map : {s : Line A} {t : Line B} {e : ℕ} → ((line : List ℕ) → read line ≡ s → other line ≡ t)
      → LineAt read text at s e → LineAt other text at t e
  line_at_map f l = record { found = l.found; inside = l.inside; reads = f _ l.reads }

  pub refused_map : {fault : Fault} → ((line : List ℕ) → read line ≡ bad fault → other line ≡ bad fault)
      → LineRefused read text at fault → LineRefused other text at fault
  refused_map f (e, inl n) = (e, inl n)
  refused_map f (e, inr l) = (e, inr (line_at_map f l))

-- ---- by the answer

module _ (read : List ℕ → Line ℕ) (text : List ℕ) (at : ℕ) (r : Result (Taken State) Fault)
    (a : StartAtRead read text at r) where
  pub start_at_good : {start : Taken State} → r ≡ Ok start → LineTaken read text at start.stated.0 start.next
  unfolding StartAtRead
  start_at_good h = subst (StartAtRead read text at) h a

  pub start_at_bad : {fault : Fault} → r ≡ Err fault → LineRefused read text at fault
  unfolding StartAtRead
  start_at_bad h = subst (StartAtRead read text at) h a

module _ (read : List ℕ → Line StepLine) (text : List ℕ) (at : ℕ) (r : Result (Taken StepLine) Fault)
    (a : StepAtRead read text at r) where
  pub step_at_good : {step : Taken StepLine} → r ≡ Ok step → LineTaken read text at step.stated step.next
  unfolding StepAtRead
  step_at_good h = subst (StepAtRead read text at) h a

  pub step_at_bad : {fault : Fault} → r ≡ Err fault → LineRefused read text at fault
  unfolding StepAtRead
  step_at_bad h = subst (StepAtRead read text at) h a
