-- The promises of Read, Judge and Word give demand 3: Read leaves the text's model in the store, Judge's verdict on it
-- is INI by theorem 4, and the word's length is the least rank, below which no low sequence tells two such ends apart.
-- Document 01, "Demand 3 is one claim [..]"; DEMANDS, 3. Assumes nothing.
use Rattle.std.specs.Prelude.{List, [], ◌∷◌, ◌≡◌, refl, ℕ, ◌≤◌, length}
use Rattle.std.proofs.Common.{inl, inr, sym, ap, subst, ◌∙◌, arith}
use Rattle.text.specs.Faults.{Outcome, answers}
use Rattle.text.specs.Laws.OutcomeLaws.{answers_not_refuses}
use Rattle.text.specs.Model.{Model}
use Rattle.text.specs.Laws.ListsLaws.{take-filled}
use Rattle.read_write.specs.ReadPromise.{ReadPromise}
use Rattle.model.specs.Store.{Good}
use Rattle.model.specs.StoredModel.{Holds}
use Rattle.model.specs.System.{HighStep, DeterministicModel, NoSilentStep}
use Rattle.verdicts.specs.declared.judging.Verdict.{Verdict}
use Rattle.verdicts.specs.declared.judging.Verdict.TheVariants.{Passed, Refused}
use Rattle.verdicts.specs.Verdicts.{RefusedAt, Judged}
use Rattle.model.specs.Inner.Stored.{Stored}
use Rattle.model.proofs.Laws.System.GoodStoredLaws.{holds→Stored}
use Rattle.verdicts.proofs.Laws.VerdictsLaws.{no_leak_of_bnid}
use Rattle.verdicts.specs.Inner.VerdictTest.{verdict_of}
use Rattle.verdicts.proofs.Laws.VerdictTestLaws.{verdict_of_judged}
use Rattle.judge.specs.JudgePromise.{verdict_outcome, judge_lists, JudgePromise}
use Rattle.judge.specs.Laws.JudgeOutcomeLaws.{passed_or-refused, refused_same}
use Rattle.letters.specs.declared.word.End.{End}
use Rattle.letters.specs.Words.{end_number, WordOf, WordShown}
use Rattle.judge.specs.WordPromise.{word_lists, WordPromise}
use Rattle.letters.specs.WordDone.{WordDone}
use Rattle.tell.specs.Claim.{States, NotShort, SaysPassed, SaysRefused, JudgeTells, ShowsLeak, Sequence}
use Rattle.tell.specs.Claim.{WordTells, BothTell, Claim}
use Rattle.letters.specs.Laws.LeastLeakLaws.{bnid↔INI, depth_le}
use Rattle.tell.specs.Laws.ReadTextLaws.{lists_of_not_short, states→read_text, read_exit_long, read_holds}
use Rattle.tell.specs.Laws.ReadTextLaws.{read↔States}

-- ---- one answer does not say two things

says_one : {judge : Outcome} (j depth : ℕ) → SaysPassed judge → ¬ (SaysRefused judge j depth)
says_one j depth (top, e) h = passed_or-refused top (record { 0 = j }) depth (sym e ∙ h)

says_same : {judge : Outcome} (i j d e : ℕ) → SaysRefused judge i d → SaysRefused judge j e → (i ≡ j) × (d ≡ e)
says_same i j d e x y = refused_same (record { 0 = i }) (record { 0 = j }) d e (sym x ∙ y)

-- ---- the sequence

module _ {s : List ℕ} {m : Model} (st : Stored s m) (still : NoSilentStep m) where
  pub shows_of_word_of : {j depth : ℕ} {word : List ℕ} {end : End} → RefusedAt m j depth → WordOf m j word end
      → length word ≡ depth → ShowsLeak m j depth word end
  shows_of_word_of refused x e = record {
    low = x.first_word.is_low;
    possible = x.only_from_end.0;
    not_possible = x.only_from_end.1;
    first = x.first_word;
    shortest = λ i h v l one. subst (λ (n : ℕ). n ≤ length v) (sym e) (depth_le st still refused i h v l one);
    depth_is = sym e;
  }

  sequence_of_shown : {j depth : ℕ} {word : Outcome} {entry exit : List ℕ} → RefusedAt m j depth
      → WordShown m j depth word entry exit → Sequence m j depth word exit
  sequence_of_shown refused x = record {
    sequence = x.word;
    end = x.end;
    answer = x.outcome_is ∙ ap (λ (n : ℕ). answers (n ∷ end_number x.end ∷ [])) (sym x.length_is);
    filled = take-filled x.word _ x.list (length x.word) refl;
    shows = shows_of_word_of refused x.word_of x.length_is;
  }

  -- ---- Word

  module _ (det : DeterministicModel m) where
    pub word_tells : {word : Outcome} {entry exit : List ℕ} (v : Verdict) → Judged m v → WordDone m word entry exit
        → WordTells m word
    word_tells (Passed top) x w =
        let none = (w.passed det still x.bnid).0 in
        record {
          not_branching = λ j h. let z : ◌≡◌ {A = ℕ} 23 24 = cc in omega arith;
          not_silent = λ j h. let z : ◌≡◌ {A = ℕ} 36 24 = cc in omega arith;
          no_word_iff = (λ _. (bnid↔INI st still det).0 x.bnid, λ _. none);
        }
    word_tells (Refused j depth) x w =
        let answer = (w.refused det still j.0 depth x).outcome_is in
        record {
          not_branching = λ i h. answers_not_refuses (sym answer ∙ h);
          not_silent = λ i h. answers_not_refuses (sym answer ∙ h);
          no_word_iff = (
            λ h. absurd (answers_not_refuses (sym answer ∙ h)),
            λ ini. absurd (no_leak_of_bnid m ((bnid↔INI st still det).1 ini) j.0 depth x.leak),
          );
        }

  module _ (det : DeterministicModel m) {judge : Outcome} where
    -- ---- Judge

    pub judge_tells : (v : Verdict) → judge ≡ verdict_outcome v → Judged m v → JudgeTells m judge
    judge_tells (Passed top) e x = record {
      answered = inl (top, e);
      passed_iff = (λ _. (bnid↔INI st still det).0 x.bnid, λ _. (top, e));
      step_told = λ j depth h. absurd (says_one j depth (top, e) h);
    }
    judge_tells (Refused j depth) e x = record {
      answered = inr (j.0, depth, e);
      passed_iff = (
        λ p. absurd (says_one j.0 depth p e),
        λ ini. absurd (no_leak_of_bnid m ((bnid↔INI st still det).1 ini) j.0 depth x.leak),
      );
      step_told = λ i d h. subst (HighStep m) (says_same j.0 i depth d e h).0 x.leak.high_step;
    }

    -- ---- both

    pub both_tell : {word : Outcome} {entry exit : List ℕ} (v : Verdict) → judge ≡ verdict_outcome v → Judged m v
        → WordDone m word entry exit → BothTell m judge word exit
    both_tell (Passed top) e x w = record {
      passed_no_word = (λ _. (w.passed det still x.bnid).0, λ _. (top, e));
      shown = λ j depth h. absurd (says_one j depth (top, e) h);
    }
    both_tell {word} {exit = exit} (Refused j depth) e x w =
        let shown = w.refused det still j.0 depth x in
        let sequence = sequence_of_shown x shown in
        let answer = shown.outcome_is in
        record {
          passed_no_word = (
            λ p. absurd (says_one j.0 depth p e),
            λ h. absurd (answers_not_refuses (sym answer ∙ h)),
          );
          shown = λ i d h.
              let same = says_same j.0 i depth d e h in
              subst (λ (k : ℕ). Sequence m k d word exit) same.0
              (subst (λ (k : ℕ). Sequence m j.0 k word exit) same.1 sequence);
        }

-- ---- the claim

module _ {text store₀ store distances table distances' table' : List ℕ} {read judge : Outcome}
    (reads : ReadPromise text store₀ read store)
    (judges : JudgePromise store distances table judge distances' table') where
  -- ---- after a successful Read, for the model that the text states

  module _ (e : read ≡ answers []) (m : Model) (s : States text m) where
    successful : ReadPromise text store₀ (answers []) store
    successful = subst (λ (x : Outcome). ReadPromise text store₀ x store) e reads

    holds : Holds store m
    holds = read_holds successful m s

    stored : Stored store m
    stored = holds→Stored store m (read_exit_long successful) holds

    abbrev good : Good store
    good = record { text = text; model = m; reads = states→read_text s; stored = holds.stored }

    verdict : NotShort judge → (v : Verdict) × (judge ≡ verdict_outcome v) × Judged m v
    verdict told =
        let lists = lists_of_not_short (judge_lists store distances table) (λ k h. (judges.short k h).0) told in
        let x = judges.good lists good in
        (x.0, x.1, x.2)

  pub claim_holds : {d t w d' t' w' : List ℕ} {word : Outcome} → WordPromise store d t w word d' t' w'
      → Claim text read judge word w'
  claim_holds {d} {t} {w} {w' = w'} {word} words = record {
    read_iff = read↔States reads;
    judge_tells = λ e m s det still told.
        let x = verdict e m s told in
        judge_tells (stored e m s) still det x.0 x.1 x.2;
    word_tells = λ e m s det still shown.
        word_tells (stored e m s) still det (verdict_of m) (verdict_of_judged (stored e m s)) (done e m s shown);
    both_tell = λ e m s det still told shown.
        let x = verdict e m s told in
        both_tell (stored e m s) still det x.0 x.1 x.2 (done e m s shown);
  }
    where
      done : (e : read ≡ answers []) (m : Model) (s : States text m) → NotShort word → WordDone m word w w'
      done e m s shown =
          (words.good (lists_of_not_short (word_lists store d t w) (λ k h. (words.short k h).0) shown) (good e m s)).1
