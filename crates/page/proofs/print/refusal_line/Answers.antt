-- The text of the line, then its end. Assumes nothing.
use Rattle.std.proofs.Common.{arith}
use Rattle.writer.specs.Laws.WroteLaws.{wrote-append, wrote-length}
use Rattle.lines.specs.Laws.PageLinesLaws.{fault_bytes-length, fault-length_le}
use Rattle.page.proofs.print.refusal_line.Goals as goal

pub fault_text-requires : goal.fault_text-requires
fault_text-requires c =
    omega (
      arith,
      c.start-start.ensures,
      c.requires,
      fault_bytes-length c.args.number c.args.place,
      fault-length_le c.args.number c.args.place,
    )

pub line_end-requires : goal.line_end-requires
line_end-requires c =
    omega (
      arith,
      c.start-start.ensures,
      c.requires,
      fault_bytes-length c.args.number c.args.place,
      fault-length_le c.args.number c.args.place,
      c.fault_text.ensures.place,
      wrote-length c.fault_text.ensures,
    )

pub returns : goal.returns
returns c =
    let line = wrote-append c.fault_text.ensures c.line_end.ensures in
    rw c.start-start.ensures at line
