-- Each field goes on from where the last one ended; the text's length is what its fields ask for. Assumes nothing.
use Rattle.std.proofs.Common.{arith}
use Rattle.writer.specs.Laws.WroteLaws.{wrote-append}
use Rattle.lines.specs.PageLines.{line_text}
use Rattle.lines.specs.Laws.PageLinesLaws.{refused-length}
use Rattle.lines.proofs.lines.PagePosition.refused_text.Goals as goal

pub text-requires : goal.text-requires
text-requires c =
    omega (arith, c.requires, refused-length c.args.j c.args.depth)

pub field-requires : goal.field-requires
field-requires c =
    omega (arith, c.requires, refused-length c.args.j c.args.depth)

pub field-at-requires : goal.field-at-requires
field-at-requires c =
    omega (arith, c.requires, refused-length c.args.j c.args.depth)

pub returns : goal.returns
unfolding line_text
returns c =
    wrote-append (wrote-append c.text.ensures c.field.ensures) c.field-at.ensures
