-- What a function that answers yes or no has decided.
use Rattle.std.specs.Prelude.{Bool, true, false}

-- true: P holds; false: P does not hold
abbrev pub Decides : Bool → Type 0 → Type 0
Decides true P = P
Decides false P = ¬ P
