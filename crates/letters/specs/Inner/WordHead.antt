-- A word that is written letter by letter. Only the contracts of inner functions cite it.
-- Document 01, operation 6.
use Rattle.std.specs.Prelude.{List, ◌++◌, ◌≡◌, ℕ, length, drop}
use Rattle.lts.specs.Word.{OnlyFrom, FirstWord}
use Rattle.text.specs.Model.{Model}
use Rattle.letters.specs.declared.word.End.{End}
use Rattle.letters.specs.declared.word.End.TheVariants.{Source, Target}
use Rattle.model.specs.System.{view}

-- Of two states p and q, as source and target, the end alone allows w.
abbrev pub OnlyFromEnd : Model → ℕ → ℕ → End → List ℕ → Type 0
OnlyFromEnd m p q Source w = OnlyFrom (view m).Step p q w
OnlyFromEnd m p q Target w = OnlyFrom (view m).Step q p w

-- The word of two states, with the end that allows it.
pub record WordFrom (m : Model) (p q : ℕ) (w : List ℕ) (end : End) : Type 0 where
  pub first_word : FirstWord (view m) p q w
  pub only_from : OnlyFromEnd m p q end w

-- It stands in the first places of a list, and the others are as they were.
pub record WordWritten (m : Model) (p q depth : ℕ) (end : End) (entry exit : List ℕ) : Type 0 where
  pub word : List ℕ
  pub word_from : WordFrom m p q word end
  pub length_is : length word ≡ depth
  pub list : exit ≡ word ++ drop (length word) entry

-- Its letters before place `at` stand there: whatever word `from` and `to` have goes on from them.
pub record WordHead (m : Model) (p q at from to : ℕ) (entry exit : List ℕ) : Type 0 where
  pub head : List ℕ
  pub leads : (w : List ℕ) (end : End) → WordFrom m from to w end → WordFrom m p q (head ++ w) end
  pub length_is : length head ≡ at
  pub list : exit ≡ head ++ drop at entry
