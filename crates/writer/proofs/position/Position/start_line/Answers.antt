-- The field goes on from the letter, and the line end from the field; the line's length is what they ask for. Assumes
-- nothing.
use Rattle.std.proofs.Common.{arith}
use Rattle.model.specs.Text.{start_text}
use Rattle.writer.specs.Laws.WroteLaws.{wrote-append}
use Rattle.writer.specs.Laws.WritingLaws.{start_text-length}
use Rattle.writer.proofs.position.Position.start_line.Goals as goal

pub byte-requires : goal.byte-requires
byte-requires c = omega (arith, start_text-length c.args.p.0)

pub field-requires : goal.field-requires
field-requires c =
    omega (arith, start_text-length c.args.p.0)

pub byte-requires-2 : goal.byte-requires-2
byte-requires-2 c =
    omega (arith, start_text-length c.args.p.0)

pub returns : goal.returns
unfolding start_text
returns c =
    wrote-append (wrote-append c.byte.ensures c.field.ensures) c.byte-2.ensures
