-- What Read left is printed as Page does, or why it refused. Assumes nothing.
use Rattle.std.proofs.Common.{arith, refl, Ok, Err}
use Rattle.tell.proofs.TextAnswers.{read_long_good}
use Rattle.page.specs.Laws.PageLaws.{page_length_le}
use Rattle.page.proofs.PrintAnswers.{unread_promised, read_promised}
use Rattle.page.proofs.ReadRefusals.{refuses_of}
use Rattle.page.proofs.print.print_text.Goals as goal

pub page_good-requires : goal.page_good-requires
page_good-requires c =
    let good = read_long_good c.in-Ok.ensures.read_promise in
    record {
      good = good.1;
      long = record {
        store_length_is = good.0;
        distances_length_is = c.requires.distances_length_is;
        table_length_is = c.requires.table_length_is;
        run_length_is = c.requires.run_length_is;
        word-length = c.requires.word-length;
        out_length = c.requires.out_length;
      };
    }

pub fault_line-requires : goal.fault_line-requires
fault_line-requires c = (
  refuses_of c.in-Err.ensures.read_promise c.requires.store_length_is,
  omega (arith, page_length_le c.args.form, c.requires.out_length),
)

pub returns-in-Ok : goal.returns-in-Ok
returns-in-Ok c =
    read_promised _ _ _ _ _ _ _ _ c.requires (Ok tt) c.in-Ok.ensures.read_promise refl _ _ _ _
    _ _ c.page_good.ensures

pub returns-in-Err : goal.returns-in-Err
returns-in-Err c =
    unread_promised _ _ _ _ _ _ _ _ c.requires (Err _) c.in-Err.ensures.read_promise _ _
    c.fault_line.ensures
