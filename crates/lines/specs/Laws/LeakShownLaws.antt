-- What Word does for a refused model, as the lines that show its leak.
-- Document 01, "The page" and operation 6; document 02, (vii). Assumes nothing.
use Rattle.std.specs.Prelude.{List, [], ◌∷◌, ◌++◌, map, ◌⊎◌, ◌≡◌, ℕ, zero, suc, ◌+◌, ◌*◌, ◌≤◌, ◌<◌, length, get_or}
use Rattle.std.specs.Prelude.{take, drop}
use Rattle.std.proofs.Common.{inl, inr, ⊎_elim, ap, subst, ◌∙◌, arith, mul-le-mul_left, length-append}
use Rattle.std.proofs.Math.Path.{sym}
use Rattle.std.proofs.Math.ListN.{get_or-append}
use Rattle.lts.specs.Noninterference.{Low}
use Rattle.text.specs.Faults.{answers, refuses}
use Rattle.text.specs.Laws.OutcomeLaws.{answers_not_refuses}
use Rattle.text.specs.Limits.{run_length}
use Rattle.text.specs.Model.{Model}
use Rattle.model.specs.System.{source, DeterministicModel, NoSilentStep, view}
use Rattle.text.specs.Laws.ListsLaws.{take-filled}
use Rattle.model.specs.Laws.Store.SystemLaws.{low_lt}
use Rattle.model.specs.Inner.Stored.{Stored}
use Rattle.distances.specs.Inner.RunTail.{RunWritten}
use Rattle.distances.specs.Runs.{RunTo}
use Rattle.distances.specs.Laws.RunsLaws.{run_to-length}
use Rattle.verdicts.specs.declared.judging.Verdict.{Verdict}
use Rattle.verdicts.specs.declared.judging.Verdict.TheVariants.{Refused}
use Rattle.text.specs.declared.Step.{Step}
use Rattle.verdicts.proofs.Laws.VerdictsLaws.{depth_lt}
use Rattle.verdicts.specs.Verdicts.{RefusedAt, Judged}
use Rattle.letters.specs.declared.word.End.{End}
use Rattle.letters.specs.declared.word.Shown.{Shown}
use Rattle.letters.specs.declared.word.Shown.TheVariants.{Word, NotDeterministic, Silent, NoLeak}
use Rattle.letters.specs.Words.{FirstBranch, FirstSilent, end_number, WordShown}
use Rattle.letters.specs.WordDone.{shown_outcome, WordDone}
use Rattle.letters.specs.Laws.FirstSilentLaws.{silent_cases}
use Rattle.letters.specs.Laws.WordsLaws.{not_branches}
use Rattle.letters.specs.Laws.WordDoneLaws.{branch_cases, end_number_injective}
use Rattle.columns.specs.Inner.LineCount.{letter_count}
use Rattle.columns.specs.Laws.LetterCountLaws.{letter_count_still}
use Rattle.lines.specs.declared.lines.Form.{Form}
use Rattle.lines.specs.Page.{name_line, LeakShown, by_word, by_branch, by_silent, LeakLines, AfterStates}
use Rattle.lines.specs.PageLines.{PageLine, run_line, allows_line, no_word_line}
use Rattle.lines.specs.Inner.Leak.{Letters, Spelled, shown_lines}
use Rattle.lines.specs.Inner.LinesWritten.{LinesWritten}
use Rattle.lines.specs.Inner.Room.{run_width, allows_width, letter_width, line_room, word_room, shown_room, leak_room}
use Rattle.lines.specs.Laws.FormLaws.{line_room_le}
use Rattle.lines.specs.Laws.LinesWrittenLaws.{written_append, written_of}

-- ---- the letters of a low word are actions

letters_lt : (m : Model) (w : List ℕ) → Low (view m).levels w → (i : ℕ) → i < length w
    → get_or w i 0 < length m.actions
unfolding Low
letters_lt m [] x i l = absurd (omega arith)
letters_lt m (a ∷ w) x zero l = low_lt m a x.0
letters_lt m (a ∷ w) x (suc i) l = letters_lt m w x.1 i (omega arith)

-- a run in its list has no more lines than the list has places
pub run_room : {s : List ℕ} {m : Model} {p n : ℕ} {run run' : List ℕ} → Stored s m → RunWritten m p n run run'
    → (form : Form) → line_room form run_width * n ≤ line_room form run_width * run_length
run_room {n = n} st ran form =
    let l : n ≤ run_length = omega (arith, run_to-length st ran.run_to, ran.length_is) in
    mul-le-mul_left (line_room form run_width) l

-- `N` has room where a word has
letter_room_le : (form : Form) (n : ℕ) → line_room form letter_width ≤ word_room form n
letter_room_le form n =
    let l : letter_width ≤ allows_width = omega arith in
    omega (arith, line_room_le form l)

pub refused_of : {m : Model} {v : Verdict} {j : Step} {depth : ℕ} → v ≡ Refused j depth → Judged m v
    → RefusedAt m j.0 depth
refused_of {m} e x = subst (Judged m) e x

-- the lines after the states, of a verdict that refuses
pub after-refused : {form : Form} {m : Model} {v : Verdict} {j : Step} {depth : ℕ} {run word run' word' : List ℕ}
    {at next : ℕ} {entry exit : List ℕ} → v ≡ Refused j depth
    → LinesWritten form m (LeakLines m j.0 depth run word run' word') (leak_room form m (Refused j depth)) entry at
    exit next
    → LinesWritten form m (AfterStates m v run word run' word') (leak_room form m v) entry at exit next
after-refused {form} {m} {run = run} {word} {run'} {word'} {at} {next} {entry} {exit} e x =
    subst
    (λ (u : Verdict). LinesWritten form m (AfterStates m u run word run' word') (leak_room form m u) entry at exit next)
    (sym e) x

module _ {s : List ℕ} {m : Model} (st : Stored s m) {j depth : ℕ} (refused : RefusedAt m j depth) where
  module _ {word word' : List ℕ} where
    -- ---- a word is shown

    module _ {n : ℕ} (end : End) (done : WordDone m (answers (n ∷ end_number end ∷ [])) word word') where
      word_deterministic : DeterministicModel m
      word_deterministic = ⊎_elim
          (λ b. absurd (answers_not_refuses (done.branching b.0 b.1).0)) (λ det. det) (branch_cases st)

      word_still : NoSilentStep m
      word_still = ⊎_elim
          (λ b. absurd (answers_not_refuses (done.silent word_deterministic b.0 b.1).0)) (λ none. none)
          (silent_cases st)

      word_shown : WordShown m j depth (answers (n ∷ end_number end ∷ [])) word word'
      word_shown = done.refused word_deterministic word_still j depth refused

      word-length : n ≡ length word_shown.word
      word-length =
          let e = word_shown.outcome_is in
          let f : n ≡ depth = cc in
          f ∙ sym word_shown.length_is

      word_end : end ≡ word_shown.end
      word_end =
          let e = word_shown.outcome_is in
          let f : end_number end ≡ end_number word_shown.end = cc in
          end_number_injective end word_shown.end f

      word_taken : take n word' ≡ word_shown.word
      word_taken = take-filled word_shown.word _ word_shown.list n word-length

      word_letters : Letters m n word'
      word_letters =
          let w = word_shown.word in
          let l = ap length word_shown.list ∙ length-append w (drop (length w) word) in record {
            word_le = omega (arith, word-length, word_shown.length_is, depth_lt st refused, st.states_le);
            list_le = omega (arith, word-length, l);
            actions = λ i k.
                let h : i < length w = omega (arith, word-length) in
                let e : get_or word' i 0 ≡ get_or w i 0 =
                ap (λ (x : List ℕ). get_or x i 0) word_shown.list
                ∙ get_or-append w (drop (length w) word) 0 i h in
                omega (arith, e, letters_lt m w word_shown.word_of.first_word.is_low i h);
          }

      by_word_shown : LeakShown m j depth word word' (map (name_line m) (take n word') ++ (allows_line end ∷ []))
      by_word_shown =
          subst (λ (e : End). LeakShown m j depth word word' (map (name_line m) (take n word') ++ (allows_line e ∷ [])))
          (sym word_end)
          (subst
          (λ (w : List ℕ). LeakShown m j depth word word' (map (name_line m) w ++ (allows_line word_shown.end ∷ [])))
          (sym word_taken)
          (by_word word_deterministic word_still word_shown.word_of word_shown.length_is word_shown.list))

    -- ---- no word is shown

    module _ {number place : ℕ} (done : WordDone m (refuses number place) word word') where
      no_word_shown : LeakShown m j depth word word' (no_word_line ∷ [])
      no_word_shown = go (branch_cases st) (silent_cases st)
        where
          go : ((i : ℕ) × FirstBranch m i) ⊎ DeterministicModel m → ((i : ℕ) × FirstSilent m i) ⊎ NoSilentStep m
              → LeakShown m j depth word word' (no_word_line ∷ [])
          go (inl (i, h)) t = by_branch (λ det. not_branches det i h.holds) (done.branching i h).1
          go (inr det) (inl (i, h)) = by_silent i h.holds (done.silent det i h).1
          go (inr det) (inr still) =
              absurd (answers_not_refuses (sym (done.refused det still j depth refused).outcome_is))

    -- ---- whatever is shown

    pub spelled_of : (shown : Shown) → WordDone m (shown_outcome shown) word word' → Spelled m shown word'
    unfolding shown_outcome
    spelled_of (Word n end) done = word_letters end done
    spelled_of (NotDeterministic i) done = tt
    spelled_of (Silent i) done = tt
    spelled_of NoLeak done = tt

    pub leak_shown_of : (shown : Shown) → WordDone m (shown_outcome shown) word word'
        → LeakShown m j depth word word' (shown_lines m shown word')
    unfolding shown_outcome
    leak_shown_of (Word n end) done = by_word_shown end done
    leak_shown_of (NotDeterministic i) done = no_word_shown done
    leak_shown_of (Silent i) done = no_word_shown done
    leak_shown_of NoLeak done = no_word_shown done

    -- in no more room than a word of as many letters as can be shown
    pub shown_room_le : (form : Form) (shown : Shown) → WordDone m (shown_outcome shown) word word'
        → shown_room form shown ≤ word_room form (letter_count m depth)
    unfolding shown_outcome
    shown_room_le form (Word n end) done =
        let e : letter_count m depth ≡ n = letter_count_still st (word_still end done) depth
        ∙ sym (word-length end done ∙ (word_shown end done).length_is) in
        rw e (omega arith)
    shown_room_le form (NotDeterministic i) done = letter_room_le form (letter_count m depth)
    shown_room_le form (Silent i) done = letter_room_le form (letter_count m depth)
    shown_room_le form NoLeak done = letter_room_le form (letter_count m depth)

    -- the lines of the run, and those
    pub leak_lines_written : {form : Form} {p n at mid next : ℕ} {run run' entry middle exit : List ℕ} (shown : Shown)
        → p ≡ source m j → RunWritten m p n run run' → WordDone m (shown_outcome shown) word word'
        → LinesWritten form m (◌≡◌ (map run_line (take n run'))) (line_room form run_width * n) entry at middle mid
        → LinesWritten form m (◌≡◌ (shown_lines m shown word')) (shown_room form shown) middle mid exit next
        → LinesWritten form m (LeakLines m j depth run word run' word')
        (line_room form run_width * run_length + word_room form (letter_count m depth)) entry at exit next
    leak_lines_written {form} {p} {n} {run = run} {run'} shown e ran done x y =
        let taken = take-filled ran.steps _ ran.list n (sym ran.length_is) in
        written_of (λ (zs : List PageLine) (z : LeakLines m j depth run word run' word' zs). z)
        (omega (arith, run_room st ran form, shown_room_le form shown done)) (written_append
        (λ us vs (u : map run_line (take n run') ≡ us) (v : shown_lines m shown word' ≡ vs). record {
          steps = ran.steps;
          run_to = subst (λ (q : ℕ). RunTo m q ran.steps) e ran.run_to;
          run_list = ran.list;
          rest = vs;
          shown = subst (LeakShown m j depth word word') v (leak_shown_of shown done);
          lines_are = ap (λ (z : List PageLine). z ++ vs) (sym u ∙ ap (map run_line) taken);
        }) x y)
