-- Behind the loop stand the lines of the steps before the index, and each round writes one more; a run's lines are the
-- same for all models. Assumes nothing.
use Rattle.std.proofs.Common.{[], refl, arith, rules, take, get_or, ◌≡◌, length-take-le, get_or-take}
use Rattle.model.specs.StoredModel.{model_at}
use Rattle.lines.specs.PageLines.{run_line}
use Rattle.lines.specs.Inner.Room.{run_width, line_room}
use Rattle.lines.specs.Laws.FormLaws.{text_room, end_room}
use Rattle.lines.specs.Laws.LinesWrittenLaws.{written_nil, written_room}
use Rattle.lines.specs.Laws.PageLinesLaws.{run_fits}
use Rattle.lines.specs.Laws.LeakLaws.{index_lt, written_next}
use Rattle.lines.proofs.lines.PagePosition.run_lines.Goals as goal

pub loop-j-init : goal.loop-j-init
loop-j-init c = (refl, λ m. written_nil refl)

pub run_text-requires : goal.run_text-requires
run_text-requires c =
    let form = c.args.form in
    let i = c.loop-j.j-index in
    let l = index_lt c.args.n c.args.run.now c.requires.0 c.loop-j-test.true in
    text_room (run_fits (get_or (take c.args.n c.args.run.now) i 0)) form c.loop-j.page.at.at
    (written_room (line_room form run_width) l c.requires.1 (c.loop-j.invariant.1 (model_at [])))

pub line_end-page-requires : goal.line_end-page-requires
line_end-page-requires c =
    let form = c.args.form in
    let i = c.loop-j.j-index in
    let l = index_lt c.args.n c.args.run.now c.requires.0 c.loop-j-test.true in
    end_room (run_fits (get_or (take c.args.n c.args.run.now) i 0)) form
    (written_room (line_room form run_width) l c.requires.1 (c.loop-j.invariant.1 (model_at [])))
    c.run_text.ensures

pub loop-j-preserved : goal.loop-j-preserved
loop-j-preserved c =
    let run = c.args.run.now in
    let i = c.loop-j.j-index in
    let l = index_lt c.args.n run c.requires.0 c.loop-j-test.true in
    let text = rw (get_or-take c.args.n run i 0 l) at c.run_text.ensures in (
      search rules,
      λ m. written_next run_line run i (omega (arith, l, c.requires.0)) (run_fits (get_or run i 0))
          (c.loop-j.invariant.1 m) text c.line_end-page.ensures,
    )

pub returns : goal.returns
returns c =
    let n = length-take-le c.args.n c.args.run.now c.requires.0 in
    let e : c.loop-j.j-index ≡ c.args.n =
    omega (arith, c.loop-j.auto.j-index-end, c.loop-j-test.false, n) in
    rw (← e) c.loop-j.invariant.1
