-- What the functions that read parts of a line answer, in the terms of `Lines`. Only the contracts of inner functions
-- cite it.
use Rattle.std.specs.Prelude.{Bool, true, false, List, ◌≡◌, ℕ, ◌≤◌, length, drop, Option, Some, None}
use Rattle.text.specs.declared.Fault.TheVariants.{Shape}
use Rattle.text.specs.Bytes.{comma}
use Rattle.text.specs.Split.{split}
use Rattle.text.specs.Lines.{Line, good, bad, fields_of}

-- the fields after the letter stand from place 2 on
pub record Fields (letter n : ℕ) (line : List ℕ) (r : Bool) : Type 0 where
  pub yes_length : r ≡ true → 2 ≤ length line
  pub yes_fields : r ≡ true → fields_of letter n line ≡ good (split comma (drop 2 line))
  pub yes_count : r ≡ true → length (split comma (drop 2 line)) ≡ n
  pub no_fields : r ≡ false → fields_of letter n line ≡ bad Shape

unfoldable pub level_read : Option ℕ → Line ℕ
level_read (Some n) = good n
level_read None = bad Shape
