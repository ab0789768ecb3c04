-- Each field goes on from where the last one ended; the line's length is what its fields ask for. Assumes nothing.
use Rattle.std.proofs.Common.{arith, length-append}
use Rattle.model.specs.Text.{head_text}
use Rattle.writer.specs.Laws.WroteLaws.{wrote-append, wrote-length}
use Rattle.writer.specs.Laws.WritingLaws.{head_text-length}
use Rattle.writer.proofs.position.Position.head_line.Goals as goal

pub byte-requires : goal.byte-requires
byte-requires c = omega (arith, head_text-length c.args.h)

pub field-requires : goal.field-requires
field-requires c =
    omega (arith, head_text-length c.args.h)

pub field-requires-2 : goal.field-requires-2
field-requires-2 c =
    omega (arith, head_text-length c.args.h)

pub field-requires-3 : goal.field-requires-3
field-requires-3 c =
    omega (arith, head_text-length c.args.h)

pub field-requires-4 : goal.field-requires-4
field-requires-4 c =
    omega (arith, head_text-length c.args.h)

pub byte-requires-2 : goal.byte-requires-2
byte-requires-2 c =
    let w =
    wrote-append
    (wrote-append
    (wrote-append (wrote-append c.byte.ensures c.field.ensures) c.field-2.ensures)
    c.field-3.ensures)
    c.field-4.ensures
    in omega (arith, c.requires, head_text-length c.args.h, wrote-length w, simp length-append at w.place)

pub returns : goal.returns
unfolding head_text
returns c =
    wrote-append
    (wrote-append
    (wrote-append
    (wrote-append (wrote-append c.byte.ensures c.field.ensures) c.field-2.ensures)
    c.field-3.ensures)
    c.field-4.ensures)
    c.byte-2.ensures
