-- What is found of the book on what Read left, or the line that tells why it refused. Assumes nothing.
use Rattle.std.proofs.Common.{arith, refl, Ok, Err}
use Rattle.model.proofs.Laws.System.GoodStoredLaws.{good→Stored}
use Rattle.books.specs.Checks.{checked_outcome}
use Rattle.tell.proofs.TextAnswers.{read_long_good}
use Rattle.page.proofs.ReadRefusals.{refuses_of}
use Rattle.page.proofs.PrintsTextAnswers.{line_counts, prints_text_unread, prints_text_read}
use Rattle.till_check.specs.PrintsCheck.{CheckBytesOf}
use Rattle.till_check.specs.Laws.PrintsCheckLaws.{place_fits-checked}
use Rattle.till_check.proofs.check_of_input.Goals as goal

pub check_good-requires : goal.check_good-requires
check_good-requires c =
    let good = read_long_good c.in-Ok.ensures.read_promise in
    record {
      stored = good→Stored _ good.0 good.1;
      book_length_in_bounds = c.requires.book_length_in_bounds;
    }

pub found_line-requires : goal.found_line-requires
found_line-requires c =
    (place_fits-checked c.check_good.ensures, c.requires.page_length_in_bounds)

pub fault_line-requires : goal.fault_line-requires
fault_line-requires c = (
  refuses_of c.in-Err.ensures.read_promise (omega arith),
  c.requires.page_length_in_bounds,
)

pub returns-in-Ok : goal.returns-in-Ok
returns-in-Ok c =
    record {
      prefix_len = c.found_line.ensures.counts;
      prints_check = prints_text_read (CheckBytesOf c.args.book.now) (Ok tt) c.in-Ok.ensures.read_promise
          (omega arith) refl (record {
            outcome = checked_outcome c.check_good.result;
            checked = c.check_good.ensures;
            bytes_are = c.found_line.ensures.bytes_are;
          });
    }

pub returns-in-Err : goal.returns-in-Err
returns-in-Err c =
    let room = c.requires.page_length_in_bounds in
    record {
      prefix_len = line_counts c.fault_line.ensures.number c.fault_line.ensures.place room
          c.fault_line.ensures.wrote;
      prints_check = prints_text_unread (CheckBytesOf c.args.book.now) (Err _)
          c.in-Err.ensures.read_promise (omega arith) room c.fault_line.ensures;
    }
