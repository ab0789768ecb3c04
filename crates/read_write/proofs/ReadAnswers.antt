-- An answer of Read with any variant but the first is a refusal. Assumes nothing.
use Rattle.std.specs.Prelude.{true, false, Result, Ok, IsErr, ◌≡◌}
use Rattle.std.proofs.Common.{subst}
use Rattle.read_write.specs.declared.read.ReadRefusal.{ReadRefusal}

pub not_done : (r : Result (Unit {0}) ReadRefusal) → IsErr r → ¬ (r ≡ Ok tt)
not_done r k e = let f : false ≡ true = subst IsErr e k in cc
