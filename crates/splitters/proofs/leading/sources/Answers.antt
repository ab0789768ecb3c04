-- Only targets are led to: of all of them, those that lead there are the states with any move.
use Prim.Native.Nat.{◌+◌}
use Rattle.text.specs.Laws.DecidesLaws.{decides_true}
use Rattle.splitters.specs.Laws.LeadingLaws.{led_from_both, led_from_all}
use Rattle.splitters.proofs.leading.sources.Goals as goal

pub returns-then-is_empty : goal.returns-then-is_empty
returns-then-is_empty c =
    let pooled = c.requires.row_bound.1 in
    let none = decides_true _ _ c.is_empty.ensures c.if-is_empty.true in
    led_from_all pooled.occupied pooled.none c.requires.turned c.occupied-targets.ensures c.without.ensures none
    c.occupied.ensures

pub returns : goal.returns
returns c =
    let pooled = c.requires.row_bound.1 in
    led_from_both pooled.occupied pooled.none (c.args.row + 1) c.occupied-targets.ensures
    c.both.ensures c.joint.ensures
