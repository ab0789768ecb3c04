-- The groups up to those of the states below p are there; all that are left begin where the moves end.
use Rattle.std.proofs.Common.{◌≡◌, refl, ap, ◌∙◌, subst, ℕ, ◌-◌, ◌+◌, get_or, arith}
use Rattle.books.specs.Inner.Groups.{IndexedTo}
use Rattle.books.specs.Laws.GroupsLaws.{indexed_to_zero, groups_at_of_indexed_to}
use Rattle.books.proofs.groups.index_moves.Goals as goal

pub loop-p-init : goal.loop-p-init
loop-p-init c = (indexed_to_zero c.args.listed.now.listed, refl)

pub returns : goal.returns
returns c =
    let moves = c.args.listed.now in
    let some = moves.listed.some_state in
    let place : ℕ → ℕ = λ p. get_or moves.first p 0 in
    let ended : c.loop-p.p ≡ moves.n = omega arith in
    let last : moves.n - 1 + 1 ≡ moves.n = omega arith in
    groups_at_of_indexed_to moves.listed (c.moves_to-last.ensures ∙ ap place last)
    (subst (IndexedTo _ _ _ _ _) (ap place ended) c.loop-p.invariant.0) c.give.ensures
