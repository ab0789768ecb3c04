-- A text has one print in each form: a page or a roll does not depend on what the lists held.
-- Document 01, "nothing is left to the program's choice"; document 02, (ii). Assumes nothing.
use Rattle.std.specs.Prelude.{List, ◌++◌, ◌≡◌, refl, ℕ, length, drop}
use Rattle.std.proofs.Common.{sym, ap, ◌∙◌}
use Rattle.text.specs.Faults.{refuses, fault_number}
use Rattle.text.specs.Model.{Model}
use Rattle.read_write.specs.ReadPromise.{reading_outcome}
use Rattle.model.specs.Reading.{Reading, done, too_long, faulty, read_text}
use Rattle.verdicts.specs.declared.judging.Verdict.{Verdict}
use Rattle.verdicts.specs.declared.judging.Verdict.TheVariants.{Passed, Refused}
use Rattle.page.specs.Laws.PagePromiseLaws.{page_of_unique}
use Rattle.lines.specs.Page.{LeakShown, by_word, by_branch, by_silent, AfterStates, PageOf}
use Rattle.lines.specs.PageLines.{PageLine}
use Rattle.lines.specs.declared.lines.Form.{Form}
use Rattle.lines.specs.Roll.{form_bytes}
use Rattle.page.specs.Prints.{PageBytesOf, Prints}

-- ---- the same lines, on other lists

module _ (m : Model) (run word : List ℕ) where
  leak_shown_any : {j depth : ℕ} {word₀ word₁ : List ℕ} {lines : List PageLine} → LeakShown m j depth word₀ word₁ lines
      → (word' : List ℕ) × LeakShown m j depth word word' lines
  leak_shown_any (by_word {w = w} det still x l e) = (w ++ drop (length w) word, by_word det still x l refl)
  leak_shown_any (by_branch n e) = (word, by_branch n refl)
  leak_shown_any (by_silent i s e) = (word, by_silent i s refl)

  after_states_any : (v : Verdict) (run₀ word₀ run₁ word₁ : List ℕ) (lines : List PageLine)
      → AfterStates m v run₀ word₀ run₁ word₁ lines
      → (run' : List ℕ) × (word' : List ℕ) × AfterStates m v run word run' word' lines
  after_states_any (Passed rank) run₀ word₀ run₁ word₁ lines x =
      (run, word, record { run_kept = refl; word_kept = refl; lines_are = x.lines_are })
  after_states_any (Refused j depth) run₀ word₀ run₁ word₁ lines x =
      let shown = leak_shown_any x.shown in (
        x.steps ++ drop (length x.steps) run,
        shown.0,
        record {
          steps = x.steps;
          run_to = x.run_to;
          run_list = refl;
          rest = x.rest;
          shown = shown.1;
          lines_are = x.lines_are;
        },
      )

  page_of_any : {run₀ word₀ run₁ word₁ : List ℕ} {lines : List PageLine} → PageOf m run₀ word₀ run₁ word₁ lines
      → (run' : List ℕ) × (word' : List ℕ) × PageOf m run word run' word' lines
  page_of_any {run₀} {word₀} {run₁} {word₁} x =
      let after = after_states_any x.verdict run₀ word₀ run₁ word₁ x.after x.after_states in (
        after.0,
        after.1,
        record {
          verdict = x.verdict;
          judged = x.judged;
          states = x.states;
          state_lines = x.state_lines;
          after = x.after;
          after_states = after.2;
          lines_are = x.lines_are;
        },
      )

-- ---- one page

-- a model's page has the same lines, whatever the lists held
pub page_lines_unique : {m : Model} {run word run' word' run₀ word₀ run₁ word₁ : List ℕ} {xs ys : List PageLine}
    → PageOf m run word run' word' xs → PageOf m run₀ word₀ run₁ word₁ ys → xs ≡ ys
page_lines_unique {m} {run} {word} x y = (page_of_unique x (page_of_any m run word y).2).0

pub page_bytes_of_unique : {form : Form} {m : Model} {a b : List ℕ} → PageBytesOf form m a → PageBytesOf form m b → a
    ≡ b
page_bytes_of_unique {form} {m} x y =
    x.bytes_are ∙ ap (form_bytes form m) (page_lines_unique x.page y.page) ∙ sym y.bytes_are

-- ---- one print

pub prints_unique : {form : Form} {text a b : List ℕ} → Prints form text a → Prints form text b → a ≡ b
unfolding reading_outcome
prints_unique {text = text} {a} {b} x y = go (read_text text) refl
  where
    unread : (number place : ℕ) → reading_outcome (read_text text) ≡ refuses number place → a ≡ b
    unread number place e = x.unread number place e ∙ sym (y.unread number place e)

    go : (r : Reading) → read_text text ≡ r → a ≡ b
    go (done m) e = page_bytes_of_unique (x.read m e) (y.read m e)
    go too_long e = unread 1 0 (ap reading_outcome e)
    go (faulty fault line) e = unread (fault_number fault) line (ap reading_outcome e)
