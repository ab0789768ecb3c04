-- The book of what Read left, or the line that tells why it refused. Assumes nothing.
use Prim.Native.Nat.{◌≤◌}
use Rattle.std.proofs.Common.{arith, refl, Ok, Err}
use lib.ListN.{length}
use Rattle.text.specs.Limits.{page_length}
use Rattle.model.proofs.Laws.System.GoodStoredLaws.{good→Stored}
use Rattle.tell.proofs.TextAnswers.{read_long_good}
use Rattle.page.proofs.ReadRefusals.{refuses_of}
use Rattle.page.proofs.PrintsTextAnswers.{line_counts, prints_text_unread, prints_text_read}
use Rattle.till_book.specs.PrintsBook.{BookBytesOf}
use Rattle.till_book.specs.Laws.PrintsBookLaws.{book_bytes_of_filled, book_counts}
use Rattle.till_book.proofs.book_of_input.Goals as goal

pub book_good-requires : goal.book_good-requires
book_good-requires c =
    let good = read_long_good c.in-Ok.ensures.read_promise in
    record {
      stored = good→Stored _ good.0 good.1;
      table_length_in_bounds = (omega arith, c.requires.book_length_in_bounds);
    }

pub fault_line-requires : goal.fault_line-requires
fault_line-requires c = (
  refuses_of c.in-Err.ensures.read_promise (omega arith),
  omega (arith, c.requires.book_length_in_bounds),
)

pub returns-in-Ok : goal.returns-in-Ok
returns-in-Ok c =
    let good = read_long_good c.in-Ok.ensures.read_promise in
    let stored = good→Stored _ good.0 good.1 in
    let filled = c.book_good.ensures.book_filled in record {
      prefix_len = book_counts stored c.requires.book_length_in_bounds filled;
      prints_book = prints_text_read BookBytesOf (Ok tt) c.in-Ok.ensures.read_promise (omega arith)
          refl (book_bytes_of_filled stored c.requires.book_length_in_bounds filled);
    }

pub returns-in-Err : goal.returns-in-Err
returns-in-Err c =
    let room : page_length ≤ length c.args.out.now = omega (arith, c.requires.book_length_in_bounds) in
    record {
      prefix_len = line_counts c.fault_line.ensures.number c.fault_line.ensures.place room
          c.fault_line.ensures.wrote;
      prints_book = prints_text_unread BookBytesOf (Err _) c.in-Err.ensures.read_promise (omega arith) room c.fault_line.ensures;
    }
