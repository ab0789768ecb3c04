-- The verdict, the states, what follows them and the end, each from where the last one ended. Assumes nothing.
use Rattle.std.proofs.Common.{[], ◌∷◌, ◌≡◌, refl, ℕ, ◌+◌, ◌≤◌, arith, length}
use Rattle.model.specs.StoredModel.{model_at}
use Rattle.writer.specs.Inner.Writable.{Writable}
use Rattle.writer.specs.Laws.NameLaws.{name_length_le}
use Rattle.lines.specs.PageLines.{verdict_line}
use Rattle.lines.specs.Inner.LinesWritten.{LinesWritten}
use Rattle.lines.specs.Inner.Room.{verdict_width, letter_width, line_room, states_room, leak_room}
use Rattle.lines.specs.Laws.FormLaws.{text_room, end_room}
use Rattle.lines.specs.Laws.LinesWrittenLaws.{written_line, written_rest}
use Rattle.lines.specs.Laws.PageLinesLaws.{verdict_fits, last_fits}
use Rattle.lines.specs.Laws.PageLaws.{page-room, page_written}
use Rattle.text.specs.Model.{Model}
use Rattle.verdicts.specs.declared.judging.Verdict.{Verdict}
use Rattle.lines.specs.declared.lines.Form.{Form}
use Rattle.lines.proofs.whole.judged_page.Goals as goal
use Rattle.lines.proofs.whole.judged_page.Goals.{After-leak_lines-leak, After-line_end-verdict}
use Rattle.lines.proofs.whole.judged_page.Goals.{After-state_lines-states, Start}

-- ---- the room from the states on, from what follows them on, and for the end

abbrev end_rest : Form → ℕ
end_rest form = line_room form letter_width

abbrev leak_rest : Form → Model → Verdict → ℕ
leak_rest form m v = leak_room form m v + end_rest form

abbrev states_rest : Form → Model → Verdict → ℕ
states_rest form m v = states_room form m m.head.states + leak_rest form m v

writable : (s : Start) → Writable s.args.store.now
writable s = record {
  long = s.requires.judged_lists.showable.lists.stored.length_le;
  good = s.requires.judged_lists.good;
}

start_room : (s : Start) → line_room s.args.form verdict_width
    + states_rest s.args.form (model_at s.args.store.now) s.args.v ≤ length s.args.out.now
start_room s =
    let showable = s.requires.judged_lists.showable in
    page-room s.args.form s.args.v showable.lists.stored (name_length_le (writable s)) showable.verdict
    s.requires.form_in_bounds

-- ---- the lines so far, and the room behind them

verdict_written : (c : After-line_end-verdict)
    → let form = c.args.form in
    LinesWritten form (model_at c.args.store.now) (◌≡◌ (verdict_line c.args.v ∷ []))
    (line_room form verdict_width) c.args.out.now 0 c.line_end-verdict.new.out c.line_end-verdict.result.at.at
verdict_written c =
    written_line (verdict_fits c.args.v) refl
    (rw c.start-start.ensures at c.verdict_text.ensures) c.line_end-verdict.ensures

states_room_left : (c : After-line_end-verdict)
    → line_room c.args.form verdict_width + states_rest c.args.form (model_at c.args.store.now) c.args.v
    ≤ length c.args.out.now
    → c.line_end-verdict.result.at.at + states_rest c.args.form (model_at c.args.store.now) c.args.v
    ≤ length c.line_end-verdict.new.out
states_room_left c room =
    written_rest (states_rest c.args.form (model_at c.args.store.now) c.args.v) (omega (arith, room))
    (verdict_written c)

leak_room_left : (c : After-state_lines-states)
    → c.line_end-verdict.result.at.at + states_rest c.args.form (model_at c.args.store.now) c.args.v
    ≤ length c.line_end-verdict.new.out
    → c.state_lines-states.result.at.at + leak_rest c.args.form (model_at c.args.store.now) c.args.v
    ≤ length c.state_lines-states.new.out
leak_room_left c room =
    written_rest (leak_rest c.args.form (model_at c.args.store.now) c.args.v) room c.state_lines-states.ensures

last_room_left : (c : After-leak_lines-leak)
    → c.state_lines-states.result.at.at + leak_rest c.args.form (model_at c.args.store.now) c.args.v
    ≤ length c.state_lines-states.new.out
    → c.leak_lines-leak.result.at.at + end_rest c.args.form ≤ length c.leak_lines-leak.new.out
last_room_left c room = written_rest (end_rest c.args.form) room c.leak_lines-leak.ensures

pub verdict_text-requires : goal.verdict_text-requires
verdict_text-requires c =
    text_room (verdict_fits c.args.v) c.args.form c.start-start.result.at.at
    (omega (arith, c.start-start.ensures, start_room (goal.at.verdict_text-requires c).Start))

pub line_end-verdict-requires : goal.line_end-verdict-requires
line_end-verdict-requires c =
    end_room (verdict_fits c.args.v) c.args.form (omega (arith, start_room (goal.at.line_end-verdict-requires c).Start))
    (rw c.start-start.ensures at c.verdict_text.ensures)

pub state_lines-states-requires : goal.state_lines-states-requires
state_lines-states-requires c =
    let showable = c.requires.judged_lists.showable in
    let lists = showable.lists in record {
      writable = writable (goal.at.state_lines-states-requires c).Start;
      step_lists = record {
        stored = lists.stored;
        index_length_is = showable.index_length_is;
        index = showable.index;
        roles_of = lists.roles_of;
      };
      model_lists = lists;
      store_in_bounds = omega (
        arith,
        states_room_left (goal.at.state_lines-states-requires c).After-line_end-verdict
            (start_room (goal.at.state_lines-states-requires c).Start),
      );
    }

pub leak_lines-leak-requires : goal.leak_lines-leak-requires
leak_lines-leak-requires c =
    record {
      judged_lists = c.requires.judged_lists;
      v_in_bounds = omega (
        arith,
        leak_room_left (goal.at.leak_lines-leak-requires c).After-state_lines-states
            (states_room_left (goal.at.leak_lines-leak-requires c).After-line_end-verdict
            (start_room (goal.at.leak_lines-leak-requires c).Start)),
      );
    }

pub last_text-requires : goal.last_text-requires
last_text-requires c =
    text_room last_fits c.args.form c.leak_lines-leak.result.at.at
    (last_room_left (goal.at.last_text-requires c).After-leak_lines-leak
    (leak_room_left (goal.at.last_text-requires c).After-state_lines-states
    (states_room_left (goal.at.last_text-requires c).After-line_end-verdict
    (start_room (goal.at.last_text-requires c).Start))))

pub line_end-requires : goal.line_end-requires
line_end-requires c =
    end_room last_fits c.args.form (last_room_left (goal.at.line_end-requires c).After-leak_lines-leak
    (leak_room_left (goal.at.line_end-requires c).After-state_lines-states
    (states_room_left (goal.at.line_end-requires c).After-line_end-verdict
    (start_room (goal.at.line_end-requires c).Start)))) c.last_text.ensures

pub returns : goal.returns
returns c =
    let showable = c.requires.judged_lists.showable in
    page_written c.args.v showable.lists.stored (name_length_le (writable (goal.at.returns c).Start)) showable.verdict
    (verdict_written (goal.at.returns c).After-line_end-verdict) c.state_lines-states.ensures c.leak_lines-leak.ensures
    (written_line last_fits refl c.last_text.ensures c.line_end.ensures)
