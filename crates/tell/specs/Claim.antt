-- Demand 3 as one claim, from a text to what Read, Judge and Word tell of it: they get the store as Read left it, and
-- the other lists may have held anything. Whoever makes the three calls has it (`claim_holds`), and `tell` is held to
-- it.
--
-- It shuts out, among others: a Judge that passes or refuses all (`passed_iff`), one that counts unreachable high steps
-- (`step_told`), a depth made up (`depth_is`), a Word that says 24 without having judged (`no_word_iff`,
-- `passed_no_word`), one that names the other end (`possible`), shows a word one too long (`shortest`), the last by
-- action numbers (`first`) or one with a release in it (`low`), or a word of a model that it calls branching
-- (`not_branching`) or says to have a reachable silent step (`not_silent`).
-- Document 01, "Demand 3 is one claim [..]"; DEMANDS, 3; document 02, (iii) and (vii). Assumes nothing.
use Rattle.std.specs.Prelude.{List, [], ◌∷◌, ◌⊎◌, ◌↔◌, ◌≡◌, ℕ, ◌≤◌, length, take}
use Rattle.lts.specs.Noninterference.{Low, INI}
use Rattle.lts.specs.Run.{Allows}
use Rattle.lts.specs.Word.{JustOne, FirstWord}
use Rattle.text.specs.Faults.{Outcome, answers, refuses}
use Rattle.text.specs.Model.{Model}
use Rattle.model.specs.System.{source, target, HighStep, DeterministicModel, NoSilentStep, view}
pub use Rattle.model.specs.StatedText.{States}
use Rattle.verdicts.specs.declared.judging.Verdict.TheVariants.{Passed, Refused}
use Rattle.judge.specs.JudgePromise.{verdict_outcome}
use Rattle.letters.specs.declared.word.End.{End}
use Rattle.letters.specs.Words.{end_number, end_state, other_state}

-- The call did not give 21: "A call that gives 21 tells none of these."
abbrev pub NotShort : Outcome → Type 0
NotShort outcome = (k : ℕ) → ¬ (outcome ≡ refuses 21 k)

-- Judge's answers: passed with a rank; refused with a step and a depth.
abbrev pub SaysPassed : Outcome → Type 0
SaysPassed judge = (top : ℕ) × (judge ≡ verdict_outcome (Passed top))

abbrev pub SaysRefused : Outcome → ℕ → ℕ → Type 0
SaysRefused judge j depth = judge ≡ verdict_outcome (Refused (record { 0 = j }) depth)

-- What Judge tells of a deterministic model without a reachable silent step.
pub record JudgeTells (m : Model) (judge : Outcome) : Type 0 where
  pub answered : SaysPassed judge ⊎ ((j : ℕ) × (depth : ℕ) × SaysRefused judge j depth)
  -- "It is passed exactly when this holds of every sequence of actions, however long, that can be run from the start:
  -- with each high action that no later release follows taken out it can still be run from the start, and the two
  -- states where the full and the thinned sequence end allow the same low sequences."
  -- "A thinned sequence begins in the same start as the full one, and in demand 3 a model is passed exactly when the
  -- rule given there holds from each of the model's starts." (document 02, (iii))
  pub passed_iff : SaysPassed judge ↔ INI (view m)
  -- "the step told, a reachable high step"
  pub step_told : (j depth : ℕ) → SaysRefused judge j depth → HighStep m j

-- All that demand 3 says of the sequence shown for a step and a depth, and of the end named.
pub record ShowsLeak (m : Model) (j depth : ℕ) (sequence : List ℕ) (end : End) : Type 0 where
  -- "a low sequence is shown"
  pub low : Low (view m).levels sequence
  -- "it is possible from the named end of the step told [..] and not from that step's other end"
  pub possible : Allows (view m).Step (end_state m j end) sequence
  pub not_possible : ¬ (Allows (view m).Step (other_state m j end) sequence)
  -- "the one that document 01 fixes for Word": the first by action numbers among the shortest such of that step
  pub first : FirstWord (view m) (source m j) (target m j) sequence
  -- "Every other low sequence that is possible from just one end of any reachable high step has at least as many
  -- actions."
  pub shortest : (i : ℕ) → HighStep m i → (v : List ℕ) → Low (view m).levels v
      → JustOne (view m).Step (source m i) (target m i) v → length sequence ≤ length v
  -- "The depth told is the number of actions in the sequence shown."
  pub depth_is : depth ≡ length sequence

-- The sequence that Word shows for Judge's step and depth: what it filled up to its answered length, and the end named.
pub record Sequence (m : Model) (j depth : ℕ) (word : Outcome) (list : List ℕ) : Type 0 where
  pub sequence : List ℕ
  pub end : End
  pub answer : word ≡ answers (length sequence ∷ end_number end ∷ [])
  pub filled : take (length sequence) list ≡ sequence
  pub shows : ShowsLeak m j depth sequence end

-- What Word tells of such a model: never 23 nor 36, and 24 exactly when every sequence passes the test above.
pub record WordTells (m : Model) (word : Outcome) : Type 0 where
  pub not_branching : (j : ℕ) → ¬ (word ≡ refuses 23 j)
  pub not_silent : (j : ℕ) → ¬ (word ≡ refuses 36 j)
  pub no_word_iff : (word ≡ refuses 24 0) ↔ INI (view m)

-- What the two tell together: 24 exactly when passed, else the sequence of Judge's step.
pub record BothTell (m : Model) (judge word : Outcome) (list : List ℕ) : Type 0 where
  pub passed_no_word : SaysPassed judge ↔ (word ≡ refuses 24 0)
  pub shown : (j depth : ℕ) → SaysRefused judge j depth → Sequence m j depth word list

-- Each clause holds wherever the calls that it speaks of did not give 21: Judge's also where Word's list is short.
pub record Claim (text : List ℕ) (read judge word : Outcome) (list : List ℕ) : Type 0 where
  -- "Take every text that is read (each without a fault listed for Read is)"
  pub read_iff : NotShort read → (read ≡ answers []) ↔ ((m : Model) × States text m)
  -- "and in which no reachable state has two steps of one action". "Demand 3, the equality with thinned sequences and
  -- the sequence shown alike, is kept for models without a reachable silent step." (document 02, (vii))
  pub judge_tells : read ≡ answers [] → (m : Model) → States text m → DeterministicModel m → NoSilentStep m
      → NotShort judge → JudgeTells m judge
  pub word_tells : read ≡ answers [] → (m : Model) → States text m → DeterministicModel m → NoSilentStep m
      → NotShort word → WordTells m word
  pub both_tell : read ≡ answers [] → (m : Model) → States text m → DeterministicModel m → NoSilentStep m
      → NotShort judge → NotShort word → BothTell m judge word list
