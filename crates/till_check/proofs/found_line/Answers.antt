-- Nothing of a sound book; the number of a bad entry has 16 bits, and stands in the line. Assumes nothing.
use mathlib.Core.Path.{refl, sym, ap, ◌∙◌}
use native.Mathlib.Omega.{arith}
use Rattle.std.specs.Prelude.{Result, ⊤}
use Rattle.books.specs.declared.check.BadEntry.{BadEntry}
use Rattle.books.specs.Checks.{checked_outcome}
use Rattle.page.proofs.PrintsTextAnswers.{line_counts, line_taken}
use Rattle.till_check.specs.PrintsCheck.{outcome_bytes}
use Rattle.till_check.proofs.found_line.Goals as goal

pub overflow_cast-bad : goal.overflow_cast-bad
unfolding checked_outcome
overflow_cast-bad c =
    omega (arith, c.requires.0.place_lt 34 _ (ap checked_outcome c.in-Err.is))

pub refusal_line-requires : goal.refusal_line-requires
refusal_line-requires c = c.requires.1

pub returns-in-Ok : goal.returns-in-Ok
unfolding checked_outcome outcome_bytes
returns-in-Ok c = record {
  counts = (omega arith, refl);
  bytes_are = ap (λ (x : Result ⊤ BadEntry). outcome_bytes (checked_outcome x)) (sym c.in-Ok.is);
}

pub returns-in-Err : goal.returns-in-Err
unfolding checked_outcome outcome_bytes
returns-in-Err c =
    let room = c.requires.1 in
    let told = ap (λ (x : Result ⊤ BadEntry). outcome_bytes (checked_outcome x)) (sym c.in-Err.is) in
    record {
      counts = line_counts 34 c.in-Err.bad.0 room c.refusal_line.ensures;
      bytes_are = line_taken 34 c.in-Err.bad.0 room c.refusal_line.ensures ∙ told;
    }
