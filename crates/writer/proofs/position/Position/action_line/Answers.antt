-- Each byte goes on from where the last one ended, and the name is the one that the line has. Assumes nothing.
use Rattle.model.specs.Text.{action_text}
use Rattle.writer.specs.Laws.NameLaws.{name_of_stored, action_limit_lt}
use Rattle.writer.specs.Laws.WroteLaws.{wrote-append}
use Rattle.writer.proofs.position.Position.action_line.Goals as goal

pub level-requires : goal.level-requires
level-requires c =
    (c.requires.writable.long, action_limit_lt c.requires.writable c.args.a.0 c.requires.a_in_bounds)

pub returns : goal.returns
unfolding action_text
returns c =
    let byte = rw c.level.ensures at (rw c.level_letter-letter.ensures at c.byte-3.ensures) in
    let text = rw (← name_of_stored c.requires.writable c.args.a.0 c.requires.a_in_bounds) at
    c.action_name.ensures in
    wrote-append
    (wrote-append
    (wrote-append c.byte.ensures (wrote-append c.byte-2.ensures byte))
    (wrote-append c.byte-4.ensures text))
    c.byte-5.ensures
