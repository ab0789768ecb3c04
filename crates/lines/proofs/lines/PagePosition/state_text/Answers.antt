-- Each field goes on from where the last one ended; the text's length is what its fields ask for. Assumes nothing.
use Rattle.std.proofs.Common.{arith}
use Rattle.writer.specs.Laws.WroteLaws.{wrote-append}
use Rattle.lines.specs.PageLines.{line_text}
use Rattle.lines.specs.Laws.PageLinesLaws.{state-length}
use Rattle.lines.specs.Inner.Entries.{distance_of}
use Rattle.lines.proofs.lines.PagePosition.state_text.Goals as goal

pub byte-requires : goal.byte-requires
byte-requires c =
    let p = c.args.p.0 in
    omega (arith, c.requires.class_in_bounds, state-length p (distance_of c.args.distances.now p) c.args.class.0)

pub field-at-requires : goal.field-at-requires
field-at-requires c =
    let p = c.args.p.0 in
    omega (arith, c.requires.class_in_bounds, state-length p (distance_of c.args.distances.now p) c.args.class.0)

pub distance_field-requires : goal.distance_field-requires
distance_field-requires c =
    let p = c.args.p.0 in
    record {
      p_lt_distances_length = c.requires.p_lt_distances_length;
      p_in_bounds = omega (
        arith,
        c.requires.class_in_bounds,
        state-length p (distance_of c.args.distances.now p)
            c.args.class.0,
      );
    }

pub field-at-requires-2 : goal.field-at-requires-2
field-at-requires-2 c =
    let p = c.args.p.0 in
    omega (arith, c.requires.class_in_bounds, state-length p (distance_of c.args.distances.now p) c.args.class.0)

pub returns : goal.returns
unfolding line_text
returns c =
    wrote-append
    (wrote-append (wrote-append c.byte.ensures c.field-at.ensures) c.distance_field.ensures)
    c.field-at-2.ensures
