-- The word in its list, and the lines that are taken from it. Only the contracts of inner functions cite it.
use Rattle.std.specs.Prelude.{List, [], ◌∷◌, ◌++◌, map, ℕ, ◌≤◌, ◌<◌, length, get_or, take}
use Rattle.text.specs.Limits.{run_length, word_length}
use Rattle.text.specs.Model.{Model}
use Rattle.model.specs.Store.{Good}
use Rattle.verdicts.specs.declared.judging.Verdict.{Verdict}
use Rattle.letters.specs.declared.word.Shown.{Shown}
use Rattle.letters.specs.declared.word.Shown.TheVariants.{Word, NotDeterministic, Silent, NoLeak}
use Rattle.letters.specs.Inner.Letters.{Showable}
use Rattle.lines.specs.PageLines.{PageLine, allows_line, no_word_line}
use Rattle.lines.specs.Page.{name_line}

-- The first n places of a list are actions of the model.
pub record Letters (m : Model) (n : ℕ) (word : List ℕ) : Type 0 where
  pub word_le : n ≤ word_length
  pub list_le : n ≤ length word
  pub actions : (i : ℕ) → i < n → get_or word i 0 < length m.actions

-- A word that is shown stands in its list.
abbrev pub Spelled : Model → Shown → List ℕ → Type 0
Spelled m (Word n end) word = Letters m n word
Spelled m (NotDeterministic j) word = Unit {0}
Spelled m (Silent j) word = Unit {0}
Spelled m NoLeak word = Unit {0}

-- The lines for what is shown.
abbrev pub shown_lines : Model → Shown → List ℕ → List PageLine
shown_lines m (Word n end) word = map (name_line m) (take n word) ++ (allows_line end ∷ [])
shown_lines m (NotDeterministic j) word = no_word_line ∷ []
shown_lines m (Silent j) word = no_word_line ∷ []
shown_lines m NoLeak word = no_word_line ∷ []

-- A good store, judged, with the lists made from it and room for a run and a word.
pub record JudgedLists (m : Model) (v : Verdict) (store begins roles distances table run word : List ℕ) : Type 0 where
  pub good : Good store
  pub showable : Showable m v store begins roles distances table word
  pub run_length_is : run_length ≤ length run
