-- What Word shows on a good store: whether a step branches, whether a silent one can be reached, then by the verdict.
-- Assumes nothing.
use mathlib.Core.List.{List}
use mathlib.Core.Path.{◌≡◌, refl, sym, ap, subst}
use Prim.Native.Nat.{ℕ}
use lib.ListN.{get_or}
use Rattle.lts.proofs.AlikeLaws.{separated_of_rank}
use Rattle.lts.specs.Run.{onward}
use Rattle.text.specs.declared.Step.{Step}
use Rattle.text.specs.Faults.{refuses}
use Rattle.text.specs.Laws.FirstLaws.{first_unique}
use Rattle.text.specs.First.{First}
use Rattle.text.specs.Limits.{pair_place}
use Rattle.text.specs.Model.{Model}
use Rattle.model.specs.System.{source, target, ReachableIn, SilentStep, NoSilentStep, DeterministicModel, view}
use Rattle.model.specs.Inner.Stored.{Stored}
use Rattle.model.proofs.Laws.System.RankBoundLaws.{no_silent_label_view}
use Rattle.model.proofs.Laws.System.SilentStepLaws.{no_tick_of_no_silent_step, rank↔low_rank}
use Rattle.model.specs.Laws.System.StepTestLaws.{bounded_view, reachable_state}
use Rattle.model.specs.Laws.Store.SystemLaws.{own_step}
use Rattle.verdicts.specs.declared.judging.Verdict.{Verdict}
use Rattle.verdicts.specs.declared.judging.Verdict.TheVariants.{Passed, Refused}
use Rattle.verdicts.specs.Verdicts.{Leak, PassedWith, RefusedAt, Judged}
use Rattle.verdicts.proofs.Laws.VerdictsLaws.{no_leak_of_bnid, passed_not_refused, refused_at_unique}
use Rattle.letters.specs.declared.word.End.{End}
use Rattle.letters.specs.declared.word.End.TheVariants.{Source, Target}
use Rattle.letters.specs.declared.word.Shown.TheVariants.{Word, NotDeterministic, Silent, NoLeak}
use Rattle.letters.specs.Words.{Branches, WordOf, WordShown}
use Rattle.letters.specs.WordDone.{shown_outcome, WordDone}
use Rattle.letters.specs.Inner.Letters.{Showable, WordLists, SeparatedPair}
use Rattle.letters.specs.Inner.WordHead.{WordFrom, WordWritten}
use Rattle.letters.specs.Laws.WordsLaws.{not_branches}
use Rattle.lts.specs.Weak.{WeakMove}
use Rattle.lts.proofs.WeakLaws.{weak_separated}

-- ---- what is lent to the word's functions

pub showable→WordLists : {m : Model} {v : Verdict} {store begins roles distances table word : List ℕ}
    → Showable m v store begins roles distances table word → NoSilentStep m → WordLists m store begins roles table
showable→WordLists {m} {table = table} x still = record {
  step_lists = record {
    stored = x.lists.stored;
    index_length_is = x.index_length_is;
    index = x.index;
    roles_of = x.lists.roles_of;
  };
  table_length_is = x.lists.table_length_is;
  ranks = λ p q a b.
      let st = x.lists.stored in
      (rank↔low_rank st ((no_tick_of_no_silent_step m).0 still) p q (get_or table (pair_place p q) 0) a b).1
      (x.lists.ranks.ranks p q (reachable_state st a) (reachable_state st b));
}

pub leak_pair : {s : List ℕ} {m : Model} → Stored s m → {j d p q : ℕ} → DeterministicModel m → NoSilentStep m
    → Leak m j d → p ≡ source m j → q ≡ target m j → SeparatedPair m p q d
leak_pair {m = m} st {j} {d} {p} {q} det still x e f =
    subst (λ (u : ℕ). SeparatedPair m u q d) (sym e)
    (subst (λ (u : ℕ). SeparatedPair m (source m j) u d) (sym f) (record {
      deterministic = det;
      first_reachable = from;
      second_reachable = to;
      separated = (weak_separated (view m) ((no_tick_of_no_silent_step m).0 still) (bounded_view st)
          (no_silent_label_view st)
          (source m j) (target m j) d from to).1
          (separated_of_rank (WeakMove (view m)) (source m j) (target m j) d x.above_zero x.rank);
    }))
  where
    from : ReachableIn m (source m j)
    from = x.high_step.reachable

    to : ReachableIn m (target m j)
    to = onward from (own_step m j x.high_step.number_lt)

-- ---- on a good store

pub judged_passed : {m : Model} {v : Verdict} {top : ℕ} → v ≡ Passed top → Judged m v → PassedWith m top
judged_passed {m} e x = subst (Judged m) e x

pub judged-refused : {m : Model} {v : Verdict} {j : Step} {d : ℕ} → v ≡ Refused j d → Judged m v → RefusedAt m j.0 d
judged-refused {m} e x = subst (Judged m) e x

module _ {m : Model} where
  pub branching_done : (j : Step) (word : List ℕ) → First (Branches m) j.0
      → WordDone m (shown_outcome (NotDeterministic j)) word word
  unfolding shown_outcome
  branching_done j word x = record {
    branching = λ i y. (ap (refuses 23) (first_unique x y), refl);
    silent = λ d. absurd (not_branches d j.0 x.holds);
    passed = λ d. absurd (not_branches d j.0 x.holds);
    refused = λ d. absurd (not_branches d j.0 x.holds);
  }

  pub silent_done : (j : Step) (word : List ℕ) → DeterministicModel m → First (SilentStep m) j.0
      → WordDone m (shown_outcome (Silent j)) word word
  unfolding shown_outcome
  silent_done j word det x = record {
    branching = λ i y. absurd (not_branches det i y.holds);
    silent = λ _ i y. (ap (refuses 36) (first_unique x y), refl);
    passed = λ _ still. absurd (still j.0 x.holds);
    refused = λ _ still. absurd (still j.0 x.holds);
  }

  module _ (det : DeterministicModel m) (still : NoSilentStep m) where
    pub passed_done : {top : ℕ} (word : List ℕ) → PassedWith m top → WordDone m (shown_outcome NoLeak) word word
    unfolding shown_outcome
    passed_done {top} word x = record {
      branching = λ i y. absurd (not_branches det i y.holds);
      silent = λ _ i y. absurd (still i y.holds);
      passed = λ _ _ _. (refl, refl);
      refused = λ _ _ j d y. absurd (passed_not_refused m top j d x y);
    }

    word_from→WordOf : {j : ℕ} {w : List ℕ} (end : End) → WordFrom m (source m j) (target m j) w end → WordOf m j w end
    word_from→WordOf Source x = record { first_word = x.first_word; only_from_end = x.only_from }
    word_from→WordOf Target x = record { first_word = x.first_word; only_from_end = x.only_from }

    pub shown_done : {j d p q : ℕ} (end : End) {entry exit : List ℕ} → RefusedAt m j d → p ≡ source m j → q ≡ target m j
        → WordWritten m p q d end entry exit → WordDone m (shown_outcome (Word d end)) entry exit
    unfolding shown_outcome
    shown_done {j} {d} {p} {q} end {entry} {exit} r e f x = record {
      branching = λ i y. absurd (not_branches det i y.holds);
      silent = λ _ i y. absurd (still i y.holds);
      passed = λ _ _ b. absurd (no_leak_of_bnid m b j d r.leak);
      refused = λ _ _ i k y.
          let u = refused_at_unique m j i d k r y in
          subst (λ (n : ℕ). WordShown m n k (shown_outcome (Word d end)) entry exit) u.0
          (subst (λ (n : ℕ). WordShown m j n (shown_outcome (Word d end)) entry exit) u.1 shown);
    }
      where
        from : WordFrom m (source m j) (target m j) x.word end
        from = subst (λ (n : ℕ). WordFrom m n (target m j) x.word end) e
            (subst (λ (n : ℕ). WordFrom m p n x.word end) f x.word_from)

        shown : WordShown m j d (shown_outcome (Word d end)) entry exit
        shown = record {
          word = x.word;
          end = end;
          word_of = word_from→WordOf end from;
          length_is = x.length_is;
          outcome_is = refl;
          list = x.list;
        }
