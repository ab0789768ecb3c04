-- A byte is the comma or the line end, or stands in one of the three ranges, or below, between or above them.
use Rattle.std.proofs.Common.{rules, arith, sym, ap}
use Rattle.text.specs.Bytes.{kind_of}
use Rattle.text.specs.Laws.BytesLaws.{digit_kind, small_letter_kind, capital_kind, other_kind}
use Rattle.text.proofs.bytes.kind.Goals as goal

pub returns-in-44 : goal.returns-in-44
unfolding kind_of
returns-in-44 c = ap kind_of (sym c.in-44.is)

pub returns-in-10 : goal.returns-in-10
unfolding kind_of
returns-in-10 c = ap kind_of (sym c.in-10.is)

pub returns-in-48-to-57 : goal.returns-in-48-to-57
returns-in-48-to-57 c = sym (digit_kind _ (search rules) (omega arith))

pub returns-in-65-to-90 : goal.returns-in-65-to-90
returns-in-65-to-90 c = sym (capital_kind _ (search rules) (omega arith))

pub returns-in-97-to-122 : goal.returns-in-97-to-122
returns-in-97-to-122 c = sym (small_letter_kind _ (search rules) (omega arith))

pub returns-in_default : goal.returns-in_default
returns-in_default c =
    sym (other_kind _ (search rules) (search rules) (search rules) (search rules) (search rules))

pub returns-in_default-2 : goal.returns-in_default-2
returns-in_default-2 c =
    sym (other_kind _ (search rules) (search rules) (search rules) (search rules) (search rules))

pub returns-in_default-3 : goal.returns-in_default-3
returns-in_default-3 c =
    sym (other_kind _ (search rules) (search rules) (search rules) (search rules) (search rules))

pub returns-in_default-4 : goal.returns-in_default-4
returns-in_default-4 c =
    sym (other_kind _ (search rules) (search rules) (search rules) (search rules) (search rules))
