-- Each return by what led to it: `ReadLaws` says what the line then makes of the whole text, `NameLaws` where its
-- name stands.
use Rattle.std.proofs.Common.{◌≡◌, sym, ap, ◌∙◌, ◌+◌, ◌-◌, ◌≤◌, ◌<◌, arith, length, take, drop, Ok, rules}
use Rattle.std.proofs.lemmas.Result.{err_from_is_err_and}
use Rattle.text.specs.Limits.{name_limit}
use Rattle.text.specs.Bytes.{byte_a, line_end}
use Rattle.text.specs.Laws.SplitLaws.{found_le}
use Rattle.text.specs.Lines.{good, fields_of, action_fields}
use Rattle.text.specs.Inner.LineAnswers.{action_read}
use Rattle.reader.specs.Inner.ReadSoFar.{Further}
use Rattle.reader.specs.Laws.FaultLaws.{err_of_map, ok_of_map}
use Rattle.reader.specs.Laws.ReadLaws.{action_absent, action_bad, action_next, after_actions-length}
use Rattle.reader.specs.Laws.ReadLaws.{action_of_bad, action_of_used, action_of_good}
use Rattle.reader.specs.Laws.NameLaws.{name_part, actions_stored_so_far}
use Rattle.reader.proofs.actions.action.Goals as goal
use Rattle.reader.proofs.actions.action.Goals.{Else-e-text, In_ok-level}

-- where the line has an end
inside : (c : Else-e-text)
    → (c.find-e.result < length c.args.text.now)
    × (c.args.start.at ≤ c.find-e.result)
inside c =
    let n = found_le line_end _ _ _ c.requires.0.inside.place c.find-e.ensures in
    (omega arith, n.0)

-- where the line is an action's: its end, its name and its fields
named : (c : In_ok-level)
    → let text = c.args.text.now in
    let at = c.args.start.at in
    (at + 4 ≤ c.find-e.result)
    × (length (take (c.find-e.result - (at + 4)) (drop (at + 4) text)) ≤ name_limit)
    × (action_fields (fields_of byte_a 2 (take (c.find-e.result - at) (drop at text)))
    ≡ good (record {
      level = c.in_ok-level.level;
      name = take (c.find-e.result - (at + 4)) (drop (at + 4) text);
    }))
unfolding action_read
named c =
    let n = found_le line_end _ _ _ c.requires.0.inside.place c.find-e.ensures in
    let line = take (c.find-e.result - c.args.start.at) (drop c.args.start.at c.args.text.now) in
    let read : c.action_line.result ≡ Ok c.in_ok-level.level = ok_of_map _ _ _ c.map_err.ensures.cases c.in_ok-level.was in
    name_part _ _ _ _ n.0 (omega arith) (c.action_line.ensures ∙ ap (action_read line) read)

pub returns-then-e-text : goal.returns-then-e-text
unfolding Further
returns-then-e-text c = rw c.faulty.ensures
    (action_absent _ _ _ c.args.i _ c.requires.0 c.requires.1 _ c.find-e.ensures (omega arith))

pub slice_bounds-action_line-end : goal.slice_bounds-action_line-end
slice_bounds-action_line-end c = let i = inside c in omega arith

pub returns-in_err-level : goal.returns-in_err-level
unfolding Further action_read
returns-in_err-level c =
    let p = err_from_is_err_and c.from_residual.result c.from_residual.ensures.1 in
    let m = err_of_map _ _ _ c.map_err.ensures.cases c.in_err-level.was in
    let same : c.in_err-level.field-0.0 ≡ record { fault = m.0; line = c.args.start.line } = search (rules, m.2) in
    let b = c.requires.0 in
    let line = take (c.find-e.result - c.args.start.at) (drop c.args.start.at c.args.text.now) in
    rw (p.1, p.2, same) (action_bad _ _ _ c.args.i _ b c.requires.1 _ c.find-e.ensures
    (inside (goal.at.returns-in_err-level c).Else-e-text).0 _
    (action_of_bad b.actions _ _ (c.action_line.ensures ∙ ap (action_read line) m.1)))

pub slice_bounds-name-count : goal.slice_bounds-name-count
slice_bounds-name-count c = (named c).0

pub slice_bounds-name-start : goal.slice_bounds-name-start
slice_bounds-name-start c = let n = named c in omega arith

pub used-requires : goal.used-requires
used-requires c =
    let m = c.requires.0.ranges.actions in
    let l = after_actions-length _ _ _ c.args.i _ c.requires.0 (omega arith) in
    (omega arith, omega arith, (named (goal.at.used-requires c).In_ok-level).1)

pub returns-then-used : goal.returns-then-used
unfolding Further
returns-then-used c =
    let b = c.requires.0 in
    let t = sym (c.used.ensures b.actions (actions_stored_so_far _ _ _ _ _ b) b.count) ∙ c.if-used.true in
    rw c.faulty-then-used.ensures
    (action_bad _ _ _ c.args.i _ b c.requires.1 _ c.find-e.ensures
    (inside (goal.at.returns-then-used c).Else-e-text).0 _
    (action_of_used b.actions _ _ (named (goal.at.returns-then-used c).In_ok-level).2 t))

pub put_action-requires : goal.put_action-requires
put_action-requires c =
    let m = c.requires.0.ranges.actions in
    let l = after_actions-length _ _ _ c.args.i _ c.requires.0 (omega arith) in
    (omega arith, omega arith, (named (goal.at.put_action-requires c).In_ok-level).1)

pub returns : goal.returns
unfolding Further
returns c =
    let b = c.requires.0 in
    let t = sym (c.used.ensures b.actions (actions_stored_so_far _ _ _ _ _ b) b.count)
    ∙ c.if-used.false in
    rw (c.put_action.ensures, c.next.ensures)
    (action_next _ _ _ c.args.i _ b c.requires.1 _ c.find-e.ensures
    (inside (goal.at.returns c).Else-e-text).0 _
    (action_of_good b.actions _ _ (named (goal.at.returns c).In_ok-level).2 t)
    (named (goal.at.returns c).In_ok-level).1)
