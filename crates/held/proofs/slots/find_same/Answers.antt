-- A set that is equal to s has its members.
use Rattle.std.proofs.Common.{◌≡◌, arith}
use Rattle.std.proofs.lemmas.Bool.Decides.{nat_tests}
use Rattle.sets.specs.Laws.SetValuesLaws.{set_of_same-words}
use Rattle.held.proofs.slots.find_same.Goals as goal

pub returns : goal.returns
returns c =
    let low : c.set_at-there.result.0 ≡ c.args.s.0 = grind (arith, nat_tests) in
    let high : c.set_at-there.result.1 ≡ c.args.s.1 = grind (arith, nat_tests) in
    (c.if-used-number.false, set_of_same-words low high c.set_at-there.ensures)
