-- Labels with which some state has many moves. Only the contracts of inner functions cite it.
use Rattle.std.specs.Prelude.{List, ℕ, ◌+◌, ◌^◌, ◌<◌, get_or}
use Rattle.std.specs.Int.Count.{ones}
use Rattle.text.specs.Limits.{state_limit}
use Rattle.sets.specs.Inner.Sets.{word_bits}
use Rattle.sets.specs.Inner.SetValues.{SetOf}
use Rattle.sets.specs.declared.set.Set.{Set}
use Rattle.held.specs.Held.{target_row, HeldAt}

-- More than so many are many.
abbrev pub few_answers : ℕ
few_answers = 3

-- P holds of many numbers: their set, two words of 64 bits, has so many ones.
pub record Many (P : ℕ → Type 0) : Type 0 where
  pub numbers : Set
  pub set_of : SetOf P numbers
  pub first_lt : numbers.0 < 2 ^ word_bits
  pub second_lt : numbers.1 < 2 ^ word_bits
  pub more : few_answers < ones numbers.0 + ones numbers.1

-- Some state has many moves with the label a.
pub record ManyMoves (slots pool : List ℕ) (a : ℕ) : Type 0 where
  pub state : ℕ
  pub state_lt : state < state_limit
  pub many : Many (HeldAt slots pool (target_row a) state)

-- Some label of the list is such.
pub record SomeManyMoves (labels : List ℕ) (count : ℕ) (slots pool : List ℕ) : Type 0 where
  pub number : ℕ
  pub number_lt : number < count
  pub many : ManyMoves slots pool (get_or labels number 0)
