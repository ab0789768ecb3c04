-- The lists are as long as the path to a page asks for, so none is refused, and the answer's promise says what is
-- printed. Assumes nothing.
use Rattle.std.proofs.Common.{Result, Ok, Err, ℕ, ◌≡◌, refl, arith}
use Rattle.std.specs.Result.{result_unwrap_or}
use Rattle.page.specs.declared.print.ShortList.{ShortList}
use Rattle.page.specs.Laws.PrintsLaws.{printed_prints, short_list_not_long}
use Rattle.page.proofs.printed.printed.Goals as goal

-- an answer that is no refusal
is_printed : (answer : Result ℕ ShortList) → ((short : ShortList) → ¬ (answer ≡ Err short))
    → answer ≡ Ok (result_unwrap_or answer 0)
is_printed (Ok n) never = refl
is_printed (Err short) never = absurd (never short refl)

pub returns : goal.returns
returns c = let h = c.unwrap_or.ensures in
    let promise = c.print_in_form-printed.ensures.print_promise in
    let answer = c.print_in_form-printed.result in
    let printed = is_printed answer (λ short e. short_list_not_long _ _ _ _ _ _ _ _ answer promise short e (record {
      store_length_is = omega arith;
      distances_length_is = omega arith;
      table_length_is = omega arith;
      run_length_is = omega arith;
      word-length = omega arith;
      out_length = c.requires;
    })) in
    let x = printed_prints _ _ _ _ _ _ _ _ answer promise _ printed in
    rw c.unwrap_or.ensures (record {
      upper_bound = (x.0, x.1);
      prints = x.2;
      out_unchanged = x.3;
    })
