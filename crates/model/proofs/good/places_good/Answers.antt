-- The head that was tested bounds the sections.
use Rattle.std.proofs.Common.{◌≡◌, Bool, true, arith, sym, ◌∙◌}
use Rattle.text.specs.declared.Head.{Head}
use Rattle.text.specs.Inner.Ranges.{HeadRanges}
use Rattle.text.specs.Laws.DecidesLaws.{T_of_true}
use Rattle.text.specs.Laws.RangesLaws.{head_fits?→HeadRanges}
use Rattle.text.specs.Lines.{head_fits?}
use Rattle.model.proofs.good.places_good.Goals as goal

ranges : {h : Head} {r : Bool} → r ≡ head_fits? h → r ≡ true → HeadRanges h
ranges e t = head_fits?→HeadRanges _ (T_of_true _ (sym e ∙ t))

pub actions_good-requires : goal.actions_good-requires
actions_good-requires c =
    let r = ranges c.head_fits.ensures c.if-not-head_fits.false in (omega arith, r.actions)

pub some_high-requires : goal.some_high-requires
some_high-requires c = let r = ranges c.head_fits.ensures c.if-not-head_fits.false in (omega arith, r.actions)

pub steps_good-requires : goal.steps_good-requires
steps_good-requires c = let r = ranges c.head_fits.ensures c.if-not-head_fits.false in (omega arith, r.steps)

pub zeros-requires : goal.zeros-requires
zeros-requires c =
    let r = ranges c.head_fits.ensures c.if-not-head_fits.false in
    let k = r.actions in (omega (arith, c.action_place.ensures), omega arith)

pub zeros-requires-then-zeros : goal.zeros-requires-then-zeros
zeros-requires-then-zeros c =
    let r = ranges c.head_fits.ensures c.if-not-head_fits.false in
    let k = r.steps in (omega (arith, c.step_place.ensures), omega arith)
