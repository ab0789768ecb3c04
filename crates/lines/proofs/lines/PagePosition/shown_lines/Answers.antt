-- A word's letters and the end that allows it, or `N` where none is shown. Assumes nothing.
use Rattle.std.proofs.Common.{List, [], ◌∷◌, ◌≡◌, refl, subst, ℕ, ◌+◌, ◌≤◌}
use Rattle.text.specs.Model.{Model}
use Rattle.model.specs.StoredModel.{model_at}
use Rattle.letters.specs.declared.word.End.{End}
use Rattle.letters.specs.declared.word.Shown.{Shown}
use Rattle.letters.specs.declared.word.Shown.TheVariants.{Word, NotDeterministic, Silent, NoLeak}
use Rattle.lines.specs.declared.lines.Form.{Form}
use Rattle.lines.specs.PageLines.{no_word_line}
use Rattle.lines.specs.Inner.Leak.{Letters, Spelled, shown_lines}
use Rattle.lines.specs.Inner.Room.{allows_width, letter_width, line_room, word_room, shown_room}
use Rattle.lines.specs.Laws.FormLaws.{text_room, end_room}
use Rattle.lines.specs.Laws.LinesWrittenLaws.{written_line, written_both, written_rest}
use Rattle.lines.specs.Laws.PageLinesLaws.{allows_fits, no_word_fits}
use Rattle.lines.proofs.lines.PagePosition.shown_lines.Goals as goal

-- where no word is shown
no_word : (form : Form) (m : Model) (shown : Shown) (word : List ℕ) → ((n : ℕ) (end : End) → ¬ (shown ≡ Word n end))
    → (shown_lines m shown word ≡ no_word_line ∷ []) × (shown_room form shown ≡ line_room form letter_width)
no_word form m (Word n end) word k = absurd (k n end refl)
no_word form m (NotDeterministic j) word k = (refl, refl)
no_word form m (Silent j) word k = (refl, refl)
no_word form m NoLeak word k = (refl, refl)

-- where one is
module _ {shown : Shown} {n : ℕ} {end : End} (e : shown ≡ Word n end) where
  letters_of : {m : Model} {word : List ℕ} → Spelled m shown word → Letters m n word
  letters_of {m} {word} x = subst (λ (a : Shown). Spelled m a word) e x

  room_of : (form : Form) (at : ℕ) {long : ℕ} → at + shown_room form shown ≤ long → at + word_room form n ≤ long
  room_of form at {long} h = subst (λ (a : Shown). at + shown_room form a ≤ long) e h

pub allows_text-requires : goal.allows_text-requires
allows_text-requires c =
    let form = c.args.form in
    let fits = room_of c.in-Word.is form c.args.self.at.at c.requires.shown_in_bounds in
    text_room (allows_fits c.in-Word.end) form c.word_lines-page.result.at.at
    (written_rest (line_room form allows_width) fits c.word_lines-page.ensures)

pub line_end-requires : goal.line_end-requires
line_end-requires c =
    let form = c.args.form in
    let fits = room_of c.in-Word.is form c.args.self.at.at c.requires.shown_in_bounds in
    end_room (allows_fits c.in-Word.end) form
    (written_rest (line_room form allows_width) fits c.word_lines-page.ensures)
    c.allows_text.ensures

pub returns-in-Word : goal.returns-in-Word
returns-in-Word c =
    rw c.in-Word.is
    (written_both c.word_lines-page.ensures
    (written_line (allows_fits c.in-Word.end) refl c.allows_text.ensures
    c.line_end.ensures))

pub no_word_text-requires : goal.no_word_text-requires
no_word_text-requires c =
    let e = (no_word c.args.form (model_at []) c.args.shown [] (λ n end. c.in_default.not-Word n end)).1 in
    text_room no_word_fits c.args.form c.args.self.at.at (rw e at c.requires.shown_in_bounds)

pub line_end-requires-2 : goal.line_end-requires-2
line_end-requires-2 c =
    let e = (no_word c.args.form (model_at []) c.args.shown [] (λ n end. c.in_default.not-Word n end)).1 in
    end_room no_word_fits c.args.form (rw e at c.requires.shown_in_bounds) c.no_word_text.ensures

pub returns : goal.returns
returns c =
    let e = no_word c.args.form (model_at c.args.store.now) c.args.shown c.args.word.now
    (λ n end. c.in_default.not-Word n end) in
    rw (e.0, e.1) (written_line no_word_fits refl c.no_word_text.ensures c.line_end-2.ensures)
