-- Each list is made once, by the function whose promise states it; the verdict is taken from them.
use native.Mathlib.Omega.{arith}
use Rattle.judge.proofs.judge.judge_good.Goals as goal

pub verdict_of-requires : goal.verdict_of-requires
verdict_of-requires c =
    record {
      model_lists = record {
        stored = c.requires.stored;
        roles_of = record {
          roles_length = omega (arith, c.roles.auto, c.requires.roles_length);
          roles_are = c.roles.ensures;
        };
        distances_length_is = omega (arith, c.fill_distances.ensures.past.same_length, c.requires.distances_length_is);
        distances_are = c.fill_distances.ensures.list;
        table_length_is = omega (arith, c.fill_table-top.ensures.past.same_length, c.requires.table_length_is);
        ranks = c.fill_table-top.ensures.table;
      };
      greatest = c.fill_table-top.ensures.greatest;
    }

pub returns : goal.returns
returns c =
    record {
      verdict = c.verdict_of.ensures;
      index = c.index.ensures;
      roles = c.roles.ensures;
      filled = record {
        distances_filled = c.fill_distances.ensures;
        ranks = c.fill_table-top.ensures.table;
        table_past = c.fill_table-top.ensures.past;
      };
    }
