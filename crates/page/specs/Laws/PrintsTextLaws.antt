-- A text has one print if each model has. Document 01, "nothing is left to the program's choice". Assumes nothing.
use Rattle.std.specs.Prelude.{List, ◌≡◌, refl, ℕ}
use Rattle.std.proofs.Common.{sym, ap, ◌∙◌}
use Rattle.text.specs.Faults.{refuses, fault_number}
use Rattle.text.specs.Model.{Model}
use Rattle.read_write.specs.ReadPromise.{reading_outcome}
use Rattle.model.specs.Reading.{Reading, done, too_long, faulty, read_text}
use Rattle.model.specs.WellFormed.{WellFormed}
use Rattle.model.proofs.Laws.Text.ReadingLaws.{read_text_well_formed}
use Rattle.page.specs.PrintsText.{PrintsText}

pub prints_text_unique : (Of : Model → List ℕ → Type 0) {text a b : List ℕ}
    → ((m : Model) → WellFormed m → Of m a → Of m b → a ≡ b) → PrintsText Of text a → PrintsText Of text b → a ≡ b
unfolding reading_outcome
prints_text_unique Of {text} {a} {b} one x y = go (read_text text) refl
  where
    unread : (number place : ℕ) → reading_outcome (read_text text) ≡ refuses number place → a ≡ b
    unread number place e = x.unread number place e ∙ sym (y.unread number place e)

    go : (r : Reading) → read_text text ≡ r → a ≡ b
    go (done m) e = one m (read_text_well_formed text m e) (x.read m e) (y.read m e)
    go too_long e = unread 1 0 (ap reading_outcome e)
    go (faulty fault line) e = unread (fault_number fault) line (ap reading_outcome e)
