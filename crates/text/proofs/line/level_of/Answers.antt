-- `level_of` compares a byte with the four letters of levels, each of which is a capital.
use Rattle.std.proofs.Common.{◌∙◌, arith, ne_eqb}
use Rattle.text.specs.Inner.PartAnswers.{level_read}
use Rattle.text.specs.Lines.{level_of}
use Rattle.text.specs.Split.{same?}
use Rattle.text.specs.Laws.ActionLaws.{level_of_byte, level_of_other}
use Rattle.text.proofs.line.level_of.Goals as goal

pub returns-then-kind-ne-CAPITAL : goal.returns-then-kind-ne-CAPITAL
unfolding level_read
returns-then-kind-ne-CAPITAL c = level_of_other _ (λ e. c.if-kind-ne-CAPITAL.true (c.kind.ensures ∙ e))

pub returns-in-76 : goal.returns-in-76
unfolding level_read level_of same?
returns-in-76 c = rw c.in-76.is

pub returns-in-68 : goal.returns-in-68
unfolding level_read level_of same?
returns-in-68 c = rw c.in-68.is

pub returns-in-72 : goal.returns-in-72
unfolding level_read level_of same?
returns-in-72 c = rw c.in-72.is

pub returns-in-84 : goal.returns-in-84
unfolding level_read level_of same?
returns-in-84 c = rw c.in-84.is

pub returns-in_default : goal.returns-in_default
unfolding level_read
returns-in_default c =
    level_of_byte _
    (ne_eqb _ _ (λ e. omega arith))
    (ne_eqb _ _ (λ e. omega arith))
    (ne_eqb _ _ (λ e. omega arith))
    (ne_eqb _ _ (λ e. omega arith))
