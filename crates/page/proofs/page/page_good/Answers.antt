-- The lists are made once, by `judge_good`; the page is printed from them. Assumes nothing.
use Rattle.std.proofs.Common.{arith}
use Rattle.model.proofs.Laws.System.GoodStoredLaws.{good→Stored}
use Rattle.page.specs.Laws.PageLaws.{page_printed}
use Rattle.page.proofs.page.page_good.Goals as goal

pub judge_good-v-requires : goal.judge_good-v-requires
judge_good-v-requires c =
    record {
      stored = good→Stored _ c.requires.long.store_length_is c.requires.good;
      index_length_is = omega arith;
      roles_length = omega arith;
      distances_length_is = c.requires.long.distances_length_is;
      table_length_is = c.requires.long.table_length_is;
    }

pub judged_page-requires : goal.judged_page-requires
judged_page-requires c =
    record {
      judged_lists = record {
        good = c.requires.good;
        showable = record {
          lists = record {
            stored = good→Stored _ c.requires.long.store_length_is c.requires.good;
            roles_of = record {
              roles_length = omega (arith, c.judge_good-v.auto);
              roles_are = c.judge_good-v.ensures.roles;
            };
            distances_length_is = omega (
              arith,
              c.judge_good-v.ensures.filled.distances_filled.past.same_length,
              c.requires.long.distances_length_is,
            );
            distances_are = c.judge_good-v.ensures.filled.distances_filled.list;
            table_length_is = omega (
              arith,
              c.judge_good-v.ensures.filled.table_past.same_length,
              c.requires.long.table_length_is,
            );
            ranks = c.judge_good-v.ensures.filled.ranks;
          };
          index_length_is = omega (arith, c.judge_good-v.auto);
          index = c.judge_good-v.ensures.index;
          verdict = c.judge_good-v.ensures.verdict;
          word-length = c.requires.long.word-length;
        };
        run_length_is = c.requires.long.run_length_is;
      };
      form_in_bounds = c.requires.long.out_length;
    }

pub returns : goal.returns
returns c =
    record {
      filled = c.judge_good-v.ensures.filled;
      printed = page_printed _ c.requires.long.out_length c.judged_page.ensures;
    }
