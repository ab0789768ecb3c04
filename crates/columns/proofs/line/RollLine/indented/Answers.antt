-- The blanks, and the name behind them. Assumes nothing.
use Rattle.std.proofs.Common.{arith}
use lib.ListN.{length-replicate}
use Rattle.text.specs.Bytes.{byte_blank}
use Rattle.writer.specs.Laws.WroteLaws.{wrote-append, wrote-length}
use Rattle.columns.proofs.line.RollLine.indented.Goals as goal

pub action_name-requires : goal.action_name-requires
action_name-requires c =
    let w = c.blanks-row.ensures.0 in
    let n = length-replicate c.args.indent byte_blank in
    record {
      writable = c.requires.writable;
      a_in_bounds = c.requires.a_in_bounds;
      a_in_bounds_2 = omega (arith, c.requires.a_in_bounds_2, w.place, wrote-length w, n);
    }

pub returns : goal.returns
returns c =
    (wrote-append c.blanks-row.ensures.0 c.action_name.ensures, c.blanks-row.ensures.1)
