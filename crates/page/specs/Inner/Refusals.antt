-- A refusal of Read as two numbers of 16 bits, and its line. Only the contracts of inner functions cite it.
use Rattle.std.specs.Prelude.{List, ◌≡◌, ℕ, ◌<◌, Result, Ok, Err, ⊤}
use Rattle.read_write.specs.declared.read.ReadRefusal.{ReadRefusal}
use Rattle.text.specs.Faults.{Outcome, refuses}
use Rattle.read_write.specs.ReadPromise.{read_outcome}
use Rattle.writer.specs.Wrote.{Wrote}
use Rattle.lines.specs.PageLines.{fault_bytes}

-- Read refused, and the place has 16 bits.
pub record Refuses (read : Result ⊤ ReadRefusal) : Type 0 where
  pub not_done : ¬ (read ≡ Ok tt)
  pub place_lt : (number place : ℕ) → read_outcome read ≡ refuses number place → place < 65536

-- The place of a refusal of Read has 16 bits.
pub record PlaceFits (read : ReadRefusal) : Type 0 where
  pub place_lt : (number place : ℕ) → read_outcome (Err read) ≡ refuses number place → place < 65536

-- The line of a refusal was written.
pub record FaultWritten (outcome : Outcome) (entry exit : List ℕ) (next : ℕ) : Type 0 where
  pub number : ℕ
  pub place : ℕ
  pub outcome_is : outcome ≡ refuses number place
  pub wrote : Wrote entry 0 (fault_bytes number place) exit next
