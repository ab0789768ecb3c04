-- Each field goes on from where the last one ended; the text's length is what its fields ask for. Assumes nothing.
use Rattle.std.proofs.Common.{arith}
use Rattle.model.specs.StoredModel.{model_at}
use Rattle.model.specs.System.{name_of}
use Rattle.writer.specs.Laws.WroteLaws.{wrote-append}
use Rattle.lines.specs.PageLines.{line_text}
use Rattle.lines.specs.Laws.PageLinesLaws.{word-length}
use Rattle.lines.proofs.lines.PagePosition.name_text.Goals as goal

pub text-requires : goal.text-requires
text-requires c =
    omega (arith, c.requires.a_in_bounds_2, word-length (name_of (model_at c.args.store.now) c.args.a.0))

pub action_name-at-requires : goal.action_name-at-requires
action_name-at-requires c =
    let n = word-length (name_of (model_at c.args.store.now) c.args.a.0) in
    record {
      writable = c.requires.writable;
      a_in_bounds = c.requires.a_in_bounds;
      a_in_bounds_2 = omega (arith, c.requires.a_in_bounds_2, n);
    }

pub returns : goal.returns
unfolding line_text
returns c =
    wrote-append c.text.ensures c.action_name-at.ensures
