-- A slot without a set gets a free one, of the new member alone; another gets it into its own set.
use Rattle.std.proofs.Common.{ℕ, ◌<◌, length, get_or, refl, sym, ap, ◌∙◌, arith}
use Rattle.held.specs.Laws.PoolLaws.{put_of-set, joined_number}
use Rattle.held.specs.Laws.AddingLaws.{member_added_new, separate_new, member_added_more, separate_more}
use Rattle.held.proofs.slots.add_held.Goals as goal

pub returns-then-slot-eq0 : goal.returns-then-slot-eq0
returns-then-slot-eq0 c =
    let D = c.requires.separate in
    let l = c.requires.row_lt_slot_rows.3 in
    let fits : c.slot_place-at.result < length c.args.slots.now = omega arith in
    let S = put_of-set c.slot_place-at.ensures fits refl in
    let M = joined_number c.row_set.ensures c.insert-then-slot-eq0.ensures in
    record {
      member_added = member_added_new c.args.row D l S c.insert.ensures M
          (ap (λ (i : ℕ). get_or c.args.slots.now i 0) (sym c.slot_place-at.ensures) ∙ c.if-slot-eq0.true);
      lower_bound = (
        omega arith,
        omega arith,
        separate_new c.args.row D l S c.insert.ensures M
            c.requires.row_lt_slot_rows.1,
      );
    }

pub insert-requires-2 : goal.insert-requires-2
insert-requires-2 c =
    let P = c.requires.separate.pooled in
    (omega (arith, P.slot_lt c.slot_place-at.result, P.used_le), c.requires.row_lt_slot_rows.2)

pub returns : goal.returns
returns c =
    let D = c.requires.separate in
    let some : 0 < get_or c.args.slots.now c.slot_place-at.result 0 = omega (arith, c.if-slot-eq0.false) in
    let lower = D.pooled.slot_lt c.slot_place-at.result in record {
      member_added = member_added_more D some c.insert-2.ensures
          (ap (λ (i : ℕ). get_or c.args.slots.now i 0) c.slot_place-at.ensures);
      lower_bound = (
        omega arith,
        omega arith,
        separate_more D some c.insert-2.ensures
            (omega (arith, lower)),
      );
    }
