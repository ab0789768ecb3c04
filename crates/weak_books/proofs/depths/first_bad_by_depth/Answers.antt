-- The sets have the entries below depth d, and these are tested.
use Rattle.std.proofs.Common.{arith}
use Rattle.sets.specs.Inner.Sets.{sets_length}
use Rattle.sets.specs.Laws.SetsLaws.{empty-zeros}
use Rattle.weak_books.specs.Laws.LowerLaws.{lower_by-zero, lower_by_next}
use Rattle.weak_books.specs.Laws.DepthsLaws.{first_lower_zero, first_lower_next, first_lower_all}
use Rattle.weak_books.proofs.depths.first_bad_by_depth.Goals as goal

pub loop-d-init : goal.loop-d-init
loop-d-init c = (omega arith, lower_by-zero (empty-zeros sets_length) (empty-zeros sets_length), first_lower_zero)

pub first_bad_on-bad-requires : goal.first_bad_on-bad-requires
first_bad_on-bad-requires c =
    let inv = c.loop-d.invariant in
    let C = c.requires.chained in
    let d = c.loop-d.d in
    let l = c.loop-d-test.true in record {
      from_le_table_length = (C.head_le d l, c.requires.book_length_in_bounds);
      flagged = c.requires.flagged;
      lower_by = inv.1;
      by_index = C.falls;
      by_index_2 = λ k h. (C.only d k l h).1;
    }

pub add_chain-requires : goal.add_chain-requires
add_chain-requires c =
    let C = c.requires.chained in
    (C.head_le c.loop-d.d c.loop-d-test.true, C.falls)

pub loop-d-preserved : goal.loop-d-preserved
loop-d-preserved c =
    let inv = c.loop-d.invariant in
    let C = c.requires.chained in
    let l = c.loop-d-test.true in (
      omega (arith, l),
      lower_by_next l C inv.1 c.add_chain.ensures,
      first_lower_next l C inv.2 c.first_bad_on-bad.ensures,
    )

pub returns : goal.returns
returns c =
    let inv = c.loop-d.invariant in
    let bytes = c.shared_slice_known-1.given in
    first_lower_all (omega (arith, inv.0, c.loop-d-test.false)) (λ i. omega (arith, bytes i)) inv.2
