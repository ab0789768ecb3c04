-- Each field goes on from where the last one ended; the text's length is what its fields ask for. Assumes nothing.
use Rattle.std.proofs.Common.{arith}
use Rattle.writer.specs.Laws.WroteLaws.{wrote-append}
use Rattle.lines.specs.PageLines.{fault_text}
use Rattle.lines.specs.Laws.PageLinesLaws.{fault-length}
use Rattle.lines.proofs.lines.PagePosition.fault_text.Goals as goal

pub byte-requires : goal.byte-requires
byte-requires c =
    omega (arith, c.requires, fault-length c.args.number c.args.place)

pub field-requires : goal.field-requires
field-requires c =
    omega (arith, c.requires, fault-length c.args.number c.args.place)

pub field-at-requires : goal.field-at-requires
field-at-requires c =
    omega (arith, c.requires, fault-length c.args.number c.args.place)

pub returns : goal.returns
unfolding fault_text
returns c =
    wrote-append (wrote-append c.byte.ensures c.field.ensures) c.field-at.ensures
