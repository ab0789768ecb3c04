-- No members: the slot stays without a set. Members: it gets a set that is s, and p comes into the set of the row.
use Rattle.std.proofs.Common.{List, ℕ, ◌+◌, ◌≤◌, ◌<◌, length, set, refl, arith}
use Rattle.text.specs.Laws.DecidesLaws.{decides_true, decides_false}
use Rattle.sets.specs.Laws.SearchLaws.{some_of_not_none}
use Rattle.held.specs.Held.{slot_place}
use Rattle.held.specs.Inner.Slots.{Pooled, FreeFrom, SetHeld}
use Rattle.held.specs.Laws.PoolLaws.{put_of-set, free_from_le, free_from_put, joined_number, kept_of-joined}
use Rattle.held.specs.Laws.SlotsLaws.{set_held_none, set_held_put, pooled_put}
use Rattle.held.proofs.slots.hold_set.Goals as goal
use Rattle.held.proofs.slots.hold_set.Goals.{After-insert}

-- The slots and the pool at the end.
abbrev slots : After-insert → List ℕ
slots c = set c.args.slots.now c.slot_place.result c.share-number.result

abbrev pool : After-insert → List ℕ
pool c = c.insert.new.sets

-- The slot has a set that is s, and the free sets come behind it.
given : (c : After-insert) {next : ℕ} → c.args.used ≤ next → next ≤ c.args.used + 1
    → c.share-number.result < next
    → SetHeld c.args.row c.args.p.0 c.args.s c.args.slots.now
    c.args.pool.now (slots c) (pool c)
    × ((c.args.used ≤ next) × (next ≤ c.args.used + 1) × Pooled next (slots c) (pool c)
    × FreeFrom (slot_place c.args.row c.args.p.0 + 1) (slots c))
given c from to lt =
    let a = c.args in
    let fits : c.slot_place.result < length a.slots.now = omega arith in
    let S = put_of-set c.slot_place.ensures fits refl in
    let J = joined_number c.row_set.ensures c.insert.ensures in
    let some = some_of_not_none a.s
    (decides_false c.is_empty.result _ c.is_empty.ensures c.if-is_empty.false) in
    let own = c.share-number.ensures.members.only some.0 some.1 in (
      set_held_put c.requires.pooled.0 c.requires.row_lt_slot_rows.2 S c.share-number.ensures (kept_of-joined J),
      (
        from,
        to,
        pooled_put a.row c.requires.pooled.0 c.requires.row_lt_slot_rows.2 from to lt c.requires.row_lt_slot_rows.1 S
            c.share-number.ensures.kept own J,
        free_from_put S c.requires.pooled.1,
      ),
    )

pub returns-then-is_empty : goal.returns-then-is_empty
returns-then-is_empty c =
    let P = c.requires.pooled in
    let none = decides_true c.is_empty.result _ c.is_empty.ensures c.if-is_empty.true in
    record {
      set_held = set_held_none P.0 none P.1;
      lower_bound = (omega arith, omega arith, P.0, free_from_le (omega arith) P.1);
    }

pub returns-then-number-used : goal.returns-then-number-used
returns-then-number-used c =
    let got = given (goal.at.returns-then-number-used c).After-insert {next = c.args.used} (omega arith) (omega arith)
    c.if-number-used.true in
    record { set_held = got.0; lower_bound = got.1 }

pub returns : goal.returns
returns c =
    let le = c.share-number.ensures.number_le in
    let got = given (goal.at.returns c).After-insert {next = c.args.used + 1} (omega arith) (omega arith)
    (omega (arith, le)) in
    record { set_held = got.0; lower_bound = got.1 }
