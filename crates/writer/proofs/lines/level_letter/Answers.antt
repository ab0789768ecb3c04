-- Each answer is what `level_byte` computes to at the level that was matched. Assumes nothing.
use Rattle.std.proofs.Common.{arith, ne_eqb}
use Rattle.model.specs.Text.{level_byte}
use Rattle.writer.proofs.lines.level_letter.Goals as goal

pub returns-in-0 : goal.returns-in-0
unfolding level_byte
returns-in-0 c = rw c.in-0.is

pub returns-in-1 : goal.returns-in-1
unfolding level_byte
returns-in-1 c = rw c.in-1.is

pub returns-in-2 : goal.returns-in-2
unfolding level_byte
returns-in-2 c = rw c.in-2.is

pub returns-in_default : goal.returns-in_default
unfolding level_byte
returns-in_default c =
    let h = c.in_default in
    let level = c.args.level in
    rw (ne_eqb level 0 (omega arith), ne_eqb level 1 (omega arith), ne_eqb level 2 (omega arith))
