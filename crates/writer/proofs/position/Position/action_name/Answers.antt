-- The part of the store that is handed on is the action's name, and its numbers are bytes. Assumes nothing.
use Rattle.std.proofs.Common.{sym, ap, subst, ℕ, ◌<◌, arith, length}
use Rattle.text.specs.All.{All}
use Rattle.writer.specs.Laws.NameLaws.{action_limit_lt, name_part, name_part_le, name_bytes_lt}
use Rattle.writer.proofs.position.Position.action_name.Goals as goal

pub name_length-requires : goal.name_length-requires
name_length-requires c =
    (c.requires.writable.long, action_limit_lt c.requires.writable c.args.a.0 c.requires.a_in_bounds)

pub slice_bounds-name-end : goal.slice_bounds-name-end
slice_bounds-name-end c =
    let n = name_part_le c.requires.writable c.args.a.0 c.requires.a_in_bounds in
    omega (arith, n, c.name_place-from.ensures, c.name_length.ensures)

pub name-requires : goal.name-requires
name-requires c =
    let name = name_part c.requires.writable c.args.a.0 c.requires.a_in_bounds _ _ c.name_place-from.ensures
    c.name_length.ensures in record {
      name_in_bounds = omega (arith, ap length name, c.requires.a_in_bounds_2);
      all = subst (All (λ (b : ℕ). b < 256)) (sym name) (name_bytes_lt c.requires.writable c.args.a.0
          c.requires.a_in_bounds);
    }

pub returns : goal.returns
returns c =
    let name = name_part c.requires.writable c.args.a.0 c.requires.a_in_bounds _ _ c.name_place-from.ensures
    c.name_length.ensures in
    rw name at c.name.ensures
