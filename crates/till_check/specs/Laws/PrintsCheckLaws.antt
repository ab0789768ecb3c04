-- A book and a text have one print by `till_check`, and what Check finds of a book has a line.
-- Document 02, (v). Assumes nothing.
use Rattle.std.specs.Prelude.{List, ◌≡◌, ℕ, ◌<◌}
use Rattle.std.proofs.Common.{sym, ap, ◌∙◌, arith}
use Rattle.lts.specs.Alike.{Moves}
use Rattle.text.specs.Faults.{Outcome, refuses}
use Rattle.text.specs.Laws.OutcomeLaws.{answers_not_refuses}
use Rattle.text.specs.Limits.{pair_place}
use Rattle.text.specs.Model.{Model}
use Rattle.books.specs.Checks.{CheckDone, accepted, refused}
use Rattle.books.specs.Laws.ChecksLaws.{check_done_unique}
use Rattle.page.specs.Laws.PrintsTextLaws.{prints_text_unique}
use Rattle.till_check.specs.PrintsCheck.{outcome_bytes, CheckBytesOf, PrintsCheck}
use Rattle.till_check.specs.Inner.Found.{PlaceFits}

check_bytes_of_unique : {book : List ℕ} {m : Model} {a b : List ℕ} → CheckBytesOf book m a → CheckBytesOf book m b → a
    ≡ b
check_bytes_of_unique x y =
    x.bytes_are ∙ ap outcome_bytes (check_done_unique x.checked y.checked) ∙ sym y.bytes_are

pub prints_check_unique : {book text a b : List ℕ} → PrintsCheck book text a → PrintsCheck book text b → a ≡ b
prints_check_unique {book} = prints_text_unique (CheckBytesOf book) (λ m w x y. check_bytes_of_unique x y)

-- An entry's number has 16 bits.
pub place_fits-checked : {Move : Moves} {book : List ℕ} {outcome : Outcome} → CheckDone Move book outcome
    → PlaceFits outcome
place_fits-checked {Move} {book} {outcome} d = record { place_lt = λ number place e. go d number place e }
  where
    go : CheckDone Move book outcome → (number place : ℕ) → outcome ≡ refuses number place → place < 65536
    go (accepted s f) number place e = absurd (answers_not_refuses (sym f ∙ e))
    go (refused p q b f) number place e =
        let same : refuses 34 (pair_place p q) ≡ refuses number place = sym f ∙ e in
        let at : pair_place p q ≡ place = cc in
        omega (arith, at, b.first_lt, b.second_lt)
