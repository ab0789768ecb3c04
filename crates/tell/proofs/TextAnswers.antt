-- Each answer of `tell` keeps its promise and the claim: Read refuses; or the store that it left is judged, and the
-- claim follows from the three promises. Assumes nothing.
use mathlib.Core.List.{List, []}
use mathlib.Core.Path.{◌≡◌, refl, sym, subst}
use Prim.Native.Nat.{ℕ, ◌≤◌}
use Rattle.std.proofs.Common.{length, Ok, Err}
use Rattle.text.specs.Limits.{store_length}
use Rattle.text.specs.Faults.{answers}
use Rattle.text.specs.Laws.OutcomeLaws.{answers_not_refuses}
use Rattle.model.specs.Store.{Good}
use Rattle.model.proofs.Laws.Store.StoredModelLaws.{good_of_holds}
use Rattle.read_write.specs.declared.read.ReadRefusal.{ReadRefusal}
use Rattle.read_write.specs.declared.read.ReadRefusal.TheVariants as read
use Rattle.read_write.specs.ReadPromise.{read_outcome, ReadPromise, ReadCause}
use Rattle.judge.specs.declared.judge_word.JudgeWordAnswer.{JudgeWordAnswer}
use Rattle.judge.specs.JudgePromise.{judge_outcome}
use Rattle.judge.specs.WordPromise.{word_outcome}
use Rattle.judge.specs.JudgeWordPromise.{JudgeWordPromise}
use Rattle.tell.specs.Promises.{TellPromise, TellClaim}
use Rattle.tell.specs.Laws.ReadTextLaws.{read_exit_long, read_states, read_holds, read↔States}
use Rattle.tell.specs.Laws.ClaimLaws.{claim_holds}

-- ---- Read refuses

refused_outcome : (r : ReadRefusal) → ¬ (read_outcome (Err r) ≡ answers [])
unfolding read_outcome
refused_outcome (read.ShortList place) e = answers_not_refuses (sym e)
refused_outcome read.TooLong e = answers_not_refuses (sym e)
refused_outcome (read.Faulty bad) e = answers_not_refuses (sym e)

module _ {text store exit : List ℕ} (r : ReadRefusal) (p : ReadPromise text store (read_outcome (Err r)) exit) where
  pub unread_promised : ReadCause text store (Err r) → (distances table word : List ℕ)
      → TellPromise text store distances table word (Err r) exit distances table word
  unread_promised cause distances table word = record {
    read_promise = p;
    read_cause = cause;
    not_read = refused_outcome r;
    distances_kept = refl;
    table_kept = refl;
    word_kept = refl;
  }

  pub unread_claimed : (word : List ℕ) → TellClaim text (Err r) word
  unread_claimed word judge shown = record {
    read_iff = read↔States p;
    judge_tells = λ e. absurd (refused_outcome r e);
    word_tells = λ e. absurd (refused_outcome r e);
    both_tell = λ e. absurd (refused_outcome r e);
  }

-- ---- Read succeeds

module _ {text store exit : List ℕ} {done : Unit {0}} (p : ReadPromise text store (read_outcome (Ok done)) exit) where
  successful : ReadPromise text store (answers []) exit
  unfolding read_outcome
  successful = p

  pub read_long_good : (store_length ≤ length exit) × Good exit
  read_long_good =
      let m = read_states successful in
      (read_exit_long successful, good_of_holds exit m.0 (read_holds successful m.0 m.1))

  pub judged_promised : (told : JudgeWordAnswer) (distances table word distances' table' word' : List ℕ)
      → JudgeWordPromise exit distances table word (judge_outcome told.judge) (word_outcome told.word) distances' table' word'
      → TellPromise text store distances table word (Ok told) exit distances' table' word'
  judged_promised told distances table word distances' table' word' x =
      record { read_promise = successful; judge_word_promise = x }

  pub judged_claimed : (told : JudgeWordAnswer) (distances table word distances' table' word' : List ℕ)
      → JudgeWordPromise exit distances table word (judge_outcome told.judge) (word_outcome told.word) distances' table' word'
      → TellClaim text (Ok told) word'
  judged_claimed told distances table word distances' table' word' x =
      claim_holds successful x.judge_promise x.word_promise
