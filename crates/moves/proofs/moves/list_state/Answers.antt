-- The low steps of p up to j stand in the lists; place `at` does not overtake j.
use Rattle.std.proofs.Common.{◌+◌, arith}
use Rattle.model.specs.Laws.System.IndexLaws.{begins_le}
use Rattle.moves.specs.Laws.ListingLaws.{appended_steps, appended_state}
use Rattle.moves.specs.Laws.RisingLaws.{rising_suc}
use Rattle.moves.proofs.moves.list_state.Goals as goal

pub loop-j-preserved : goal.loop-j-preserved
loop-j-preserved c =
    let inv = c.loop-j.invariant in
    let index = c.requires.index_length_in_bounds.1 in
    let p = c.args.p.0 in
    let of = c.from-of.ensures in
    let b = index.at p (omega arith) in
    let e = index.at (p + 1) (omega arith) in
    let begun = rw of at c.loop-j.auto.j in
    record {
      at_le = omega (arith, c.list_step-at.ensures.upper_bound);
      appended = appended_steps c.loop-j.auto.j (omega arith) inv.appended c.list_step-at.ensures.appended;
      rising = rising_suc c.args.store.store.stored b e begun (rw of at c.loop-j-test.true)
          c.list_step-at.ensures.upper_bound (rw of at inv.appended) c.list_step-at.ensures.appended inv.rising;
    }

pub returns-clause-appended : goal.returns-clause-appended
returns-clause-appended c =
    let index = c.requires.index_length_in_bounds.1 in
    let p = c.args.p.0 in
    let of = c.from-of.ensures in
    let b = index.at p (omega arith) in
    let e = index.at (p + 1) (omega arith) in
    let le = begins_le b e in
    let inside = rw of at c.loop-j.auto.j-end in
    let past = rw of at c.loop-j-test.false in
    appended_state b e (omega (arith, inside le)) (rw of at c.loop-j.invariant.appended)

pub returns-clause-upper_bound : goal.returns-clause-upper_bound
returns-clause-upper_bound c =
    let index = c.requires.index_length_in_bounds.1 in
    let p = c.args.p.0 in
    let le = begins_le (index.at p (omega arith)) (index.at (p + 1) (omega arith)) in
    let inside = rw c.from-of.ensures at c.loop-j.auto.j-end in
    omega (arith, inside le)
