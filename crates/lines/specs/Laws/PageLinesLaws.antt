-- The lengths of lines.
-- Document 01, "The page". Assumes nothing.
use Rattle.std.specs.Prelude.{List, [], ◌∷◌, ◌≡◌, refl, ℕ, ◌+◌, ◌≤◌, length}
use Rattle.std.proofs.Math.Option.{Option}
use Rattle.std.proofs.Common.{arith, length-append}
use Rattle.text.specs.Bytes.{byte_line_end}
use Rattle.text.specs.Limits.{name_limit}
use Rattle.text.specs.Numbers.{digits}
use Rattle.text.specs.Laws.DigitsLaws.{digits_up_to-length_le}
use Rattle.verdicts.specs.declared.judging.Verdict.{Verdict}
use Rattle.verdicts.specs.declared.judging.Verdict.TheVariants.{Passed, Refused}
use Rattle.text.specs.declared.Step.{Step}
use Rattle.lines.specs.PageLines.{PageLine, verdict_line, state_line, run_line, word_line, allows_line}
use Rattle.lines.specs.PageLines.{no_word_line, last_line, distance_text, end_text, line_text, line_bytes}
use Rattle.letters.specs.declared.word.End.{End}
use Rattle.letters.specs.declared.word.End.TheVariants.{Source, Target}
use Rattle.lines.specs.PageLines.{fault_text, fault_bytes}
use Rattle.lines.specs.Roll.{roll_rows}
use Rattle.lines.specs.Inner.FormLines.{TextFits}
use Rattle.lines.specs.Inner.Room.{verdict_width, run_width, name_width, allows_width, letter_width, fault_room}

-- ---- lengths of texts

pub passed_length : (rank : ℕ) → length (line_text (verdict_line (Passed rank))) ≡ length (digits rank) + 7
unfolding line_text
passed_length rank = simp length-append (omega arith)

pub refused-length : (j : Step) (depth : ℕ)
    → length (line_text (verdict_line (Refused j depth))) ≡ length (digits j.0) + length (digits depth) + 10
unfolding line_text
refused-length j depth = simp length-append (omega arith)

pub state-length : (p : ℕ) (distance : Option ℕ) (class : ℕ)
    → length (line_text (state_line p distance class))
    ≡ length (digits p) + length (distance_text distance) + length (digits class) + 4
unfolding line_text
state-length p distance class = simp length-append (omega arith)

pub run_length_is : (j : ℕ) → length (line_text (run_line j)) ≡ length (digits j) + 2
unfolding line_text
run_length_is j = simp length-append (omega arith)

pub word-length : (name : List ℕ) → length (line_text (word_line name)) ≡ length name + 2
unfolding line_text
word-length name = simp length-append (omega arith)

pub fault-length : (number place : ℕ)
    → length (fault_text number place) ≡ length (digits number) + length (digits place) + 3
unfolding fault_text
fault-length number place = simp length-append (omega arith)

-- ---- lengths of lines

-- the text of a line, and its end
pub line_bytes-length : (l : PageLine) → length (line_bytes l) ≡ length (line_text l) + 1
line_bytes-length l = length-append (line_text l) (byte_line_end ∷ [])

pub fault_bytes-length : (number place : ℕ) → length (fault_bytes number place) ≡ length (fault_text number place) + 1
fault_bytes-length number place = length-append (fault_text number place) (byte_line_end ∷ [])

-- numbers have at most 5 digits
pub verdict_fits : (v : Verdict) → TextFits (verdict_line v) verdict_width
unfolding digits roll_rows
verdict_fits (Passed rank) = record {
  one_row = λ m. refl;
  text_le = omega (arith, passed_length rank, digits_up_to-length_le 5 rank);
  width_le = omega arith;
}
verdict_fits (Refused j depth) = record {
  one_row = λ m. refl;
  text_le = omega (
    arith,
    refused-length j depth,
    digits_up_to-length_le 5 j.0,
    digits_up_to-length_le 5 depth,
  );
  width_le = omega arith;
}

pub run_fits : (j : ℕ) → TextFits (run_line j) run_width
unfolding digits roll_rows
run_fits j = record {
  one_row = λ m. refl;
  text_le = omega (arith, run_length_is j, digits_up_to-length_le 5 j);
  width_le = omega arith;
}

pub word_fits : (name : List ℕ) → length name ≤ name_limit → TextFits (word_line name) name_width
unfolding roll_rows
word_fits name l = record {
  one_row = λ m. refl;
  text_le = omega (arith, l, word-length name);
  width_le = omega arith;
}

allows-length : (end : End) → length (line_text (allows_line end)) ≤ allows_width
unfolding line_text end_text
allows-length Source = omega arith
allows-length Target = omega arith

pub allows_fits : (end : End) → TextFits (allows_line end) allows_width
unfolding roll_rows
allows_fits end = record { one_row = λ m. refl; text_le = allows-length end; width_le = omega arith }

pub no_word_fits : TextFits no_word_line letter_width
unfolding line_text roll_rows
no_word_fits = record { one_row = λ m. refl; text_le = omega arith; width_le = omega arith }

pub last_fits : TextFits last_line letter_width
unfolding line_text roll_rows
last_fits = record { one_row = λ m. refl; text_le = omega arith; width_le = omega arith }

pub fault-length_le : (number place : ℕ) → length (fault_bytes number place) ≤ fault_room
unfolding digits
fault-length_le number place = omega (
  arith,
  fault_bytes-length number place,
  fault-length number place,
  digits_up_to-length_le 5 number,
  digits_up_to-length_le 5 place,
)
