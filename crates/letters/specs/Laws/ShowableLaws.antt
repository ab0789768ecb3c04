-- A judged good store is what Word's functions take.
-- Document 01, operation 6. Assumes nothing.
use Rattle.std.specs.Prelude.{List, ℕ, ◌≤◌, length}
use Rattle.std.proofs.Common.{arith}
use Rattle.text.specs.Limits.{action_limit}
use Rattle.text.specs.Limits.{distances_length, table_length, word_length}
use Rattle.text.specs.Model.{Model}
use Rattle.text.specs.Limits.{index_length}
use Rattle.model.specs.Inner.Stored.{Stored}
use Rattle.verdicts.specs.declared.judging.Verdict.{Verdict}
use Rattle.verdicts.specs.Inner.Judging.{Judging}
use Rattle.letters.specs.Inner.Letters.{Showable}

module _ {m : Model} {v : Verdict} {distances table begins roles distances' table' : List ℕ}
    (x : Judging m v distances table begins roles distances' table')
    (second-long : distances_length ≤ length distances) (third-long : table_length ≤ length table) where
  pub distances_long : distances_length ≤ length distances'
  distances_long = omega (arith, second-long, x.filled.distances_filled.past.same_length)

  pub table_long : table_length ≤ length table'
  table_long = omega (arith, third-long, x.filled.table_past.same_length)

  pub judging→Showable : (store word : List ℕ) → Stored store m → index_length ≤ length begins
      → action_limit ≤ length roles → word_length ≤ length word → Showable m v store begins roles distances' table' word
  judging→Showable store word st b r w = record {
    lists = record {
      stored = st;
      roles_of = record { roles_length = r; roles_are = x.roles };
      distances_length_is = distances_long;
      distances_are = x.filled.distances_filled.list;
      table_length_is = table_long;
      ranks = x.filled.ranks;
    };
    index_length_is = b;
    index = x.index;
    verdict = x.verdict;
    word-length = w;
  }
