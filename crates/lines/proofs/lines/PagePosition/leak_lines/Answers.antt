-- The run and the word are filled where they are printed from; a passed model has no such lines. Assumes nothing.
use Rattle.std.proofs.Common.{refl, ap, ◌∙◌, ◌+◌, ◌≤◌, arith, length}
use Rattle.text.specs.declared.State.{State}
use Rattle.model.specs.StoredModel.{model_at}
use Rattle.verdicts.specs.declared.judging.Verdict.TheVariants.{Refused}
use Rattle.verdicts.specs.Verdicts.{RefusedAt}
use Rattle.distances.specs.Laws.RunTailLaws.{run_written_le}
use Rattle.model.specs.Laws.System.StoredLaws.{stored_source}
use Rattle.lines.specs.Page.{NoLeakLines}
use Rattle.lines.specs.Inner.Room.{shown_room, leak_room}
use Rattle.lines.specs.Laws.LinesWrittenLaws.{written_nil, written_rest}
use Rattle.lines.specs.Laws.LeakShownLaws.{run_room, refused_of, spelled_of, shown_room_le, leak_lines_written}
use Rattle.lines.specs.Laws.LeakShownLaws.{after-refused}
use Rattle.lines.proofs.lines.PagePosition.leak_lines.Goals as goal
use Rattle.lines.proofs.lines.PagePosition.leak_lines.Goals.{In-Refused}

-- the verdict, once it is known to be a refusal
refused : (c : In-Refused)
    → RefusedAt (model_at c.args.store.now) c.in-Refused.j.0 c.in-Refused.field-1
refused c =
    refused_of c.in-Refused.is c.requires.judged_lists.showable.verdict

-- and the room that it gives
room : (c : In-Refused)
    → let v = Refused c.in-Refused.j c.in-Refused.field-1 in
    c.args.self.at.at + leak_room c.args.form (model_at c.args.store.now) v ≤ length c.args.out.now
room c =
    rw c.in-Refused.is at c.requires.v_in_bounds

pub returns-in_default : goal.returns-in_default
returns-in_default c =
    rw c.in_default.is
    (written_nil {P = NoLeakLines _ _ _ _} (record { run_kept = refl; word_kept = refl; lines_are = refl }))

pub run_lines-page-requires : goal.run_lines-page-requires
run_lines-page-requires c = (
  run_written_le c.fill_run-n.ensures,
  omega (
    arith,
    run_room c.requires.judged_lists.showable.lists.stored
        c.fill_run-n.ensures c.args.form,
    room (goal.at.run_lines-page-requires c).In-Refused,
  ),
)

pub shown_lines-requires : goal.shown_lines-requires
shown_lines-requires c =
    let J = c.requires.judged_lists in
    let st = J.showable.lists.stored in
    let form = c.args.form in
    let short = run_room st c.fill_run-n.ensures form in
    let few = shown_room_le st (refused (goal.at.shown_lines-requires c).In-Refused) form c.show-shown.result
    c.show-shown.ensures in record {
      writable = record { long = st.length_le; good = J.good };
      spelled = spelled_of st (refused (goal.at.shown_lines-requires c).In-Refused) c.show-shown.result
          c.show-shown.ensures;
      shown_in_bounds = written_rest (shown_room form c.show-shown.result)
          (omega (arith, short, few, room (goal.at.shown_lines-requires c).In-Refused))
          (c.run_lines-page.ensures (model_at c.args.store.now));
    }

pub returns : goal.returns
returns c =
    let st = c.requires.judged_lists.showable.lists.stored in
    let e =
    ap (λ (x : State). x.0) c.source-p.ensures ∙ stored_source st c.in-Refused.j.0
    (refused (goal.at.returns c).In-Refused).leak.high_step.number_lt
    in
    after-refused c.in-Refused.is
    (leak_lines_written st (refused (goal.at.returns c).In-Refused) c.show-shown.result e c.fill_run-n.ensures
    c.show-shown.ensures
    (c.run_lines-page.ensures (model_at c.args.store.now)) c.shown_lines.ensures)
