-- Each field goes on from where the last one ended; the line's length is what its fields ask for. Assumes nothing.
use Rattle.std.proofs.Common.{arith}
use Rattle.model.specs.Text.{step_text}
use Rattle.writer.specs.Laws.WroteLaws.{wrote-append}
use Rattle.writer.specs.Laws.WritingLaws.{step_text-length}
use Rattle.writer.proofs.position.Position.step_line.Goals as goal

pub byte-requires : goal.byte-requires
byte-requires c = omega (arith, step_text-length c.args.s)

pub field-requires : goal.field-requires
field-requires c =
    omega (arith, step_text-length c.args.s)

pub field-requires-2 : goal.field-requires-2
field-requires-2 c =
    omega (arith, step_text-length c.args.s)

pub field-requires-3 : goal.field-requires-3
field-requires-3 c =
    omega (arith, step_text-length c.args.s)

pub byte-requires-2 : goal.byte-requires-2
byte-requires-2 c =
    omega (arith, step_text-length c.args.s)

pub returns : goal.returns
unfolding step_text
returns c =
    wrote-append
    (wrote-append
    (wrote-append (wrote-append c.byte.ensures c.field.ensures) c.field-2.ensures)
    c.field-3.ensures)
    c.byte-2.ensures
