-- What the texts of lines tell, of a page or of a roll: of a passed model the greatest rank, of a refused one its leak.
-- Document 01, "Demand 3 is one claim [..]"; DEMANDS, 3. Assumes nothing.
use Rattle.std.specs.Prelude.{List, [], ◌∷◌, ◌++◌, map, ◌≡◌, refl, ℕ, ◌<◌, length, get_or}
use Rattle.std.proofs.Common.{inl, inr, ap, ◌∙◌, arith}
use Rattle.text.specs.All.{All}
use Rattle.text.specs.Model.{Model}
use Rattle.model.specs.System.{DeterministicModel, NoSilentStep}
use Rattle.text.specs.Laws.ListsLaws.{take-filled}
use Rattle.text.specs.Laws.AllLaws.{all_of_all}
use Rattle.verdicts.specs.declared.judging.Verdict.{Verdict}
use Rattle.verdicts.specs.declared.judging.Verdict.TheVariants.{Passed, Refused}
use Rattle.model.specs.Inner.Stored.{Stored}
use Rattle.model.proofs.Laws.System.RankBoundLaws.{stored_rank_lt}
use Rattle.distances.specs.Runs.{RunTo}
use Rattle.verdicts.specs.Verdicts.{PassedWith, RefusedAt, Judged}
use Rattle.distances.specs.Laws.RunsLaws.{run_to_all}
use Rattle.verdicts.proofs.Laws.VerdictsLaws.{no_leak_of_bnid}
use Rattle.tell.specs.Laws.ClaimLaws.{shows_of_word_of}
use Rattle.letters.specs.Laws.LeastLeakLaws.{bnid↔INI}
use Rattle.lines.specs.Page.{name_line, LeakShown, by_word, by_branch, by_silent, LeakLines}
use Rattle.lines.specs.PageLines.{PageLine, verdict_line, run_line, allows_line, last_line, line_text}
use Rattle.verdicts.proofs.Laws.VerdictsLaws.{depth_lt}
use Rattle.page.specs.PageClaim.{SaysPass, SaysRefuse, PassTexts, LeakTexts, BytesTell}
use Rattle.page.specs.Laws.PageFieldsLaws.{pass_fields, refuse_fields, run_fields}

-- ---- the lines

small_run : {s : List ℕ} {m : Model} → Stored s m → {p : ℕ} {run : List ℕ} → RunTo m p run
    → All (λ (j : ℕ). j < 100000) run
small_run {m = m} st {run = run} r = all_of_all (λ (j : ℕ). j < length m.steps) (λ (j : ℕ). j < 100000)
    (λ j l. omega (arith, l, st.steps_le)) run (run_to_all r)

module _ {s : List ℕ} {m : Model} (st : Stored s m) (texts more : List (List ℕ)) (lines : List PageLine)
    (parted : texts ≡ map line_text lines ++ more) where
  pub pass_texts : (rank : ℕ) (rest : List PageLine) → PassedWith m rank → lines ≡ verdict_line (Passed rank) ∷ rest
      → PassTexts m texts rank
  pass_texts rank rest passed e =
      let top = passed.greatest.attained in
      record {
        verdict_fields = pass_fields texts more parted rank rest (omega
            (arith, stored_rank_lt st top.one_among top.other_among top.holds, st.states_le)) e;
        greatest = passed.greatest;
      }

  pub leak_texts : DeterministicModel m → NoSilentStep m → (run word run' word' : List ℕ) (j depth : ℕ)
      (states after : List PageLine)
      → RefusedAt m j depth → LeakLines m j depth run word run' word' after
      → lines ≡ (verdict_line (Refused (record { 0 = j }) depth) ∷ []) ++ states ++ after ++ (last_line ∷ [])
      → LeakTexts m texts states lines word'
  leak_texts det still run word run' word' j depth states after refused x e = go x.rest x.shown x.lines_are
    where
      head : List PageLine
      head = (verdict_line (Refused (record { 0 = j }) depth) ∷ []) ++ states

      go : (rest : List PageLine) → LeakShown m j depth word word' rest → after ≡ map run_line x.steps ++ rest
          → LeakTexts m texts states lines word'
      go _ (by_branch n k) f = absurd (n det)
      go _ (by_silent i t k) f = absurd (still i t)
      go _ (by_word {w = w} {end = end} d n y l k) f =
          let rest = map (name_line m) w ++ (allows_line end ∷ []) in
          let lines_are = e ∙ ap (λ (z : List PageLine). head ++ z ++ (last_line ∷ [])) f in
          record {
            step = j;
            depth = depth;
            verdict_fields =
                refuse_fields texts more parted j depth _
                (omega (arith, refused.leak.high_step.number_lt, st.steps_le))
                (omega (arith, depth_lt st refused, st.states_le)) e;
            high_step = refused.leak.high_step;
            run = x.steps;
            run_to = x.run_to;
            run_fields =
                run_fields texts more parted head x.steps rest (last_line ∷ []) lines_are
                (omega arith) (small_run st x.run_to);
            sequence = w;
            end = end;
            shown = shows_of_word_of st still refused y l;
            filled = take-filled w _ k (length w) refl;
            lines_are = lines_are;
          }

-- ---- the verdict

module _ (bytes : List ℕ) where
  -- a page says one of both
  pass_not_refuse : SaysPass bytes → ¬ (SaysRefuse bytes)
  pass_not_refuse p r = third bytes p r
    where
      third : (l : List ℕ) → SaysPass l → ¬ (SaysRefuse l)
      third (a ∷ b ∷ c ∷ l) p r =
          let e = ap (λ (x : List ℕ). get_or x 2 0) p in
          let f = ap (λ (x : List ℕ). get_or x 2 0) r in
          omega (arith, e, f)
      third [] p r = let e = ap length p in omega (arith, e)
      third (a ∷ []) p r = let e = ap length p in omega (arith, e)
      third (a ∷ b ∷ []) p r = let e = ap length p in omega (arith, e)

-- What bytes say of a verdict.
abbrev pub Says : Verdict → List ℕ → Type 0
Says (Passed rank) bytes = SaysPass bytes
Says (Refused j depth) bytes = SaysRefuse bytes

-- What is told of a verdict.
abbrev pub ByVerdict : Verdict → Type 0 → Type 0 → Type 0
ByVerdict (Passed rank) Pass Leak = Pass
ByVerdict (Refused j depth) Pass Leak = Leak

module _ {s : List ℕ} {m : Model} (st : Stored s m) (det : DeterministicModel m) (still : NoSilentStep m)
    (bytes : List ℕ) {Pass Leak : Type 0} where
  pub bytes_tell : (v : Verdict) → Judged m v → Says v bytes → ByVerdict v Pass Leak → BytesTell m bytes Pass Leak
  bytes_tell (Passed rank) judged says told = record {
    verdict = inl says;
    pass_iff = (λ _. (bnid↔INI st still det).0 judged.bnid, λ _. says);
    pass = λ _. told;
    leak = λ r. absurd (pass_not_refuse bytes says r);
  }
  bytes_tell (Refused j depth) judged says told = record {
    verdict = inr says;
    pass_iff = (
      λ p. absurd (pass_not_refuse bytes p says),
      λ ini. absurd (no_leak_of_bnid m ((bnid↔INI st still det).1 ini) j.0 depth judged.leak),
    );
    pass = λ p. absurd (pass_not_refuse bytes p says);
    leak = λ _. told;
  }
