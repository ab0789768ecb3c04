-- How many values a byte has. Only the contracts of inner functions cite it.
use Rattle.std.specs.Prelude.{ℕ}

-- One place for each value of a byte: an entry's action, or its depth.
abbrev pub byte_values : ℕ
byte_values = 256
