-- Whatever the rest of the chain adds, the whole chain has added.
use Rattle.std.proofs.Common.{◌≡◌, refl, ◌+◌, ◌-◌, arith}
use Rattle.weak_books.specs.Laws.LowerLaws.{lower_added_at, lower_added-nil, lower_added_one, lower_added-cons}
use Rattle.weak_books.proofs.depths.add_chain.Goals as goal

pub loop-next-init : goal.loop-next-init
loop-next-init c = (omega (arith, c.from-next.ensures), λ there back a. lower_added_at c.from-next.ensures a)

pub loop-next-smaller : goal.loop-next-smaller
loop-next-smaller c =
    let falls = c.requires.1 (c.loop-next.next - 1) in
    omega (arith, c.from-next-in-loop-next.ensures, falls, c.loop-next-test.true)

pub loop-next-preserved : goal.loop-next-preserved
loop-next-preserved c =
    let k = c.loop-next.next - 1 in
    let falls = c.requires.1 k in
    let e : c.loop-next.next ≡ k + 1 = omega (arith, c.loop-next-test.true) in
    let one = lower_added_one refl refl c.add_member.ensures
    c.add_member-in-loop-next.ensures in (
      omega (arith, c.from-next-in-loop-next.ensures, falls, c.loop-next.invariant.0),
      λ there back a. c.loop-next.invariant.1 there back (lower_added-cons k e c.from-next-in-loop-next.ensures one a),
    )

pub returns : goal.returns
returns c =
    c.loop-next.invariant.1 _ _ (lower_added-nil (omega (arith, c.loop-next-test.false)))
