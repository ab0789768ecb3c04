-- Behind the loop stand the lines of the letters before the index, and each round writes one more. Assumes nothing.
use Rattle.std.proofs.Common.{List, ℕ, ◌<◌, length, take, get_or-take, refl, arith, get_or, rules}
use Rattle.text.specs.Model.{Model}
use Rattle.model.specs.StoredModel.{model_at}
use Rattle.lines.specs.Page.{name_line}
use Rattle.lines.specs.Inner.Leak.{Letters}
use Rattle.lines.specs.Inner.Room.{name_width, line_room}
use Rattle.lines.specs.Laws.FormLaws.{text_room, end_room}
use Rattle.lines.specs.Laws.LinesWrittenLaws.{written_nil, written_room}
use Rattle.lines.specs.Laws.LeakLaws.{index_lt, written_next, name_line_fits}
use Rattle.lines.proofs.lines.PagePosition.word_lines.Goals as goal

pub loop-a-init : goal.loop-a-init
loop-a-init c = (refl, written_nil refl)

-- a place of the part that is walked holds an action
letter : {m : Model} (n : ℕ) (word : List ℕ) {i : ℕ} → Letters m n word → i < n
    → get_or (take n word) i 0 < length m.actions
letter n word {i} x l = rw (get_or-take n word i 0 l) (x.actions i l)

pub name_text-requires : goal.name_text-requires
name_text-requires c =
    let form = c.args.form in
    let word = c.args.word.now in
    let l = index_lt c.args.n word c.requires.letters.list_le c.loop-a-test.true in
    let fits = letter c.args.n word c.requires.letters l in
    record {
      writable = c.requires.writable;
      a_in_bounds = fits;
      a_in_bounds_2 = text_room
          (name_line_fits c.requires.writable (get_or (take c.args.n word) c.loop-a.a-index 0) fits)
          form c.loop-a.page.at.at
          (written_room (line_room form name_width) l c.requires.n_in_bounds c.loop-a.invariant.1);
    }

pub line_end-page-requires : goal.line_end-page-requires
line_end-page-requires c =
    let form = c.args.form in
    let word = c.args.word.now in
    let l = index_lt c.args.n word c.requires.letters.list_le c.loop-a-test.true in
    let fits = letter c.args.n word c.requires.letters l in
    end_room (name_line_fits c.requires.writable (get_or (take c.args.n word) c.loop-a.a-index 0) fits) form
    (written_room (line_room form name_width) l c.requires.n_in_bounds c.loop-a.invariant.1) c.name_text.ensures

pub loop-a-preserved : goal.loop-a-preserved
loop-a-preserved c =
    let word = c.args.word.now in
    let i = c.loop-a.a-index in
    let l = index_lt c.args.n word c.requires.letters.list_le c.loop-a-test.true in
    let text = rw (get_or-take c.args.n word i 0 l) at c.name_text.ensures in (
      search rules,
      written_next (name_line (model_at c.args.store.now)) word i (omega (arith, l, c.requires.letters.list_le))
          (name_line_fits c.requires.writable (get_or word i 0) (c.requires.letters.actions i l))
          c.loop-a.invariant.1 text c.line_end-page.ensures,
    )
