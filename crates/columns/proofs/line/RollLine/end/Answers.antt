-- The blanks end at the last column, and the line end follows. Assumes nothing.
use Rattle.std.proofs.Common.{◌-◌, arith}
use lib.ListN.{length-replicate}
use Rattle.text.specs.Bytes.{byte_blank}
use Rattle.writer.specs.Laws.WroteLaws.{wrote-append, wrote-length}
use Rattle.columns.specs.Rows.{roll_width}
use Rattle.columns.proofs.line.RollLine.end.Goals as goal

pub byte-requires : goal.byte-requires
byte-requires c =
    let w = c.blanks.ensures.0 in
    let l = length-replicate (roll_width - (c.args.self.at.at - c.args.self.begin)) byte_blank in
    omega (
      arith,
      c.requires.begin_le_at.0,
      c.requires.begin_le_at.1,
      c.requires.roll_width_in_bounds,
      w.place,
      wrote-length w,
      l,
    )

pub returns : goal.returns
returns c =
    wrote-append c.blanks.ensures.0 c.byte.ensures
