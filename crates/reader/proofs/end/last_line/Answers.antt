-- Each return by the test that led to it: `ReadStepsLaws` says what the last line then makes of the whole text.
use Rattle.std.proofs.Common.{◌<◌, arith, length}
use Rattle.text.specs.Bytes.{line_end}
use Rattle.text.specs.Laws.SplitLaws.{found_le}
use Rattle.reader.specs.Inner.ReadSoFar.{Through}
use Rattle.reader.specs.Laws.ReadStepsLaws.{end_absent, end_long, end_other, end_more, end_done}
use Rattle.reader.proofs.end.last_line.Goals as goal
use Rattle.reader.proofs.end.last_line.Goals.{Else-e-text, then-e-at-via-then-e-at}
use Rattle.reader.proofs.end.last_line.Goals.{then-e-at-via-else-e-at+then-not-is_letter}

-- where the line has an end
inside : (c : Else-e-text)
    → c.find-e.result < length c.args.text.now
inside c =
    let n = found_le line_end _ _ _ c.requires.inside.place c.find-e.ensures in
    omega arith

pub returns-then-e-text : goal.returns-then-e-text
unfolding Through
returns-then-e-text c = rw c.faulty.ensures (end_absent _ _ _ c.requires _ c.find-e.ensures (omega arith))

pub bounds-text-at : goal.bounds-text-at
bounds-text-at c = let i = inside (goal.at.bounds-text-at c).Else-e-text in omega arith

pub returns-then-e-at : goal.returns-then-e-at
unfolding Through
returns-then-e-at c =
    let i = inside (goal.at.returns-then-e-at c).Else-e-text in
    rw c.faulty-then-e-at.ensures (elim c.then-e-at.branch [
      | then-e-at-via-then-e-at w ↦ end_long _ _ _ c.requires _ c.find-e.ensures i w.if-e-at.true
      | then-e-at-via-else-e-at+then-not-is_letter w ↦
          end_other _ _ _ c.requires _ c.find-e.ensures i w.if-e-at.false w.if-not-is_letter.ensures
    ])

pub returns-then-e-text-2 : goal.returns-then-e-text-2
unfolding Through
returns-then-e-text-2 c =
    rw (c.faulty-then-e-text-2.ensures, c.next.ensures)
    (end_more _ _ _ c.requires _ c.find-e.ensures (inside (goal.at.returns-then-e-text-2 c).Else-e-text)
    c.if-e-at.false c.if-not-is_letter.ensures c.if-e-text-2.true)

pub returns : goal.returns
unfolding Through
returns c =
    end_done _ _ _ c.requires _ c.find-e.ensures (inside (goal.at.returns c).Else-e-text)
    c.if-e-at.false c.if-not-is_letter.ensures c.if-e-text-2.false
