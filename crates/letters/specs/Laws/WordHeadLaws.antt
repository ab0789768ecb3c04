-- The first word, letter by letter, and the list that it is written into.
-- Document 01, operation 6. Assumes nothing.
use Rattle.std.specs.Prelude.{List, [], ◌∷◌, ◌++◌, ◌≡◌, refl, ℕ, zero, suc, ◌+◌, ◌<◌, length, get_or, set, drop}
use Rattle.std.proofs.Common.{sym, ap, subst, ◌∙◌, add-one, arith, length-append, drop-cons}
use Rattle.std.proofs.lemmas.List.{set_at}
use Rattle.std.proofs.Math.Seq.{append_snoc}
use Rattle.lts.specs.Alike.{Separated}
use Rattle.lts.proofs.AlikeLaws.{rank_of_separated}
use Rattle.lts.proofs.FirstWordLaws.{first_word_cons}
use Rattle.lts.proofs.RankLaws.{rank_lt}
use Rattle.lts.specs.Run.{onward}
use Rattle.lts.specs.Word.{FirstWord}
use Rattle.lts.proofs.WordLaws.{only_from_cons}
use Rattle.text.specs.Model.{Model}
use Rattle.model.specs.System.{action, target, ReachableIn, view}
use Rattle.model.specs.Laws.Store.SystemLaws.{deterministic_model→Deterministic}
use Rattle.model.specs.Inner.Stored.{Stored}
use Rattle.model.specs.Laws.System.StepTestLaws.{reachable_state}
use Rattle.letters.specs.declared.word.End.{End}
use Rattle.letters.specs.declared.word.End.TheVariants.{Source, Target}
use Rattle.letters.specs.Inner.Letters.{FirstLetter, SeparatedPair}
use Rattle.letters.specs.Inner.WordHead.{OnlyFromEnd, WordFrom, WordWritten, WordHead}
use Rattle.model.proofs.Laws.System.RankBoundLaws.{low_step_game}
use Rattle.lts.specs.Weak.{LowStep}

-- ---- a letter

module _ {m : Model} {p q k j i : ℕ} (x : FirstLetter m p q k j i) where
  from_step : LowStep (view m) p (action m j) (target m j)
  from_step = (
    x.answer.is_low,
    record {
      number = j;
      number_lt = x.number_lt;
      source_is = x.source_is;
      action_is = refl;
      target_is = refl;
    },
  )

  to_step : LowStep (view m) q (action m j) (target m i)
  to_step = (
    x.answer.is_low,
    record {
      number = i;
      number_lt = x.answer.step_of.number_lt;
      source_is = x.answer.step_of.source_is;
      action_is = x.answer.step_of.action_is;
      target_is = refl;
    },
  )

  pub pair_next : {n y z : ℕ} → SeparatedPair m p q n → y ≡ target m j → z ≡ target m i → SeparatedPair m y z k
  pair_next {z = z} w e f = record {
    deterministic = w.deterministic;
    first_reachable = subst (ReachableIn m) (sym e) (onward w.first_reachable from_step.1);
    second_reachable = subst (ReachableIn m) (sym f) (onward w.second_reachable to_step.1);
    separated = subst (λ (u : ℕ). Separated (LowStep (view m)) u z k) (sym e)
        (subst (λ (u : ℕ). Separated (LowStep (view m)) (target m j) u k) (sym f) x.answer.targets);
  }

pub pair_at : {m : Model} {p q n k : ℕ} → n ≡ k → SeparatedPair m p q n → SeparatedPair m p q k
pair_at {m} {p} {q} e x = subst (SeparatedPair m p q) e x

module _ {s : List ℕ} {m : Model} (st : Stored s m) where
  -- "No rank exceeds states minus 1."
  pub pair_lt : {p q k : ℕ} → SeparatedPair m p q k → k < m.head.states
  pair_lt {p} {q} {k} x = rank_lt (LowStep (view m)) m.head.states _ (low_step_game st) p q k
      (reachable_state st x.first_reachable) (reachable_state st x.second_reachable)
      (rank_of_separated (LowStep (view m)) p q k x.separated)

  -- The first word goes on after its first letter.
  first_word_next : {p q j i : ℕ} (k : ℕ) → 0 < k → SeparatedPair m p q (k + 1) → FirstLetter m p q k j i → (w : List ℕ)
      → FirstWord (view m) (target m j) (target m i) w
      → FirstWord (view m) p q (action m j ∷ w)
  first_word_next zero pos pair x w y = absurd (omega arith)
  first_word_next {p} {q} {j} {i} (suc k) pos pair x w y = first_word_cons (view m) _
      (low_step_game st) (deterministic_model→Deterministic m pair.deterministic) k p q
      (action m j) (target m j) (target m i) w pair.first_reachable pair.second_reachable
      (subst (Separated (LowStep (view m)) p q) (add-one (suc k)) pair.separated) (from_step x) (to_step x)
      x.answer.targets x.first y

  only_from_next : {p q k n j i : ℕ} → SeparatedPair m p q n → FirstLetter m p q k j i → (w : List ℕ) (end : End)
      → OnlyFromEnd m (target m j) (target m i) end w → OnlyFromEnd m p q end (action m j ∷ w)
  only_from_next {p} {q} {j = j} {i = i} pair x w Source y = only_from_cons (view m)
      (deterministic_model→Deterministic m pair.deterministic) p q (action m j) (target m j) (target m i) w
      pair.second_reachable (from_step x).1 (to_step x).1 y
  only_from_next {p} {q} {j = j} {i = i} pair x w Target y = only_from_cons (view m)
      (deterministic_model→Deterministic m pair.deterministic) q p (action m j) (target m i) (target m j) w
      pair.first_reachable (to_step x).1 (from_step x).1 y

  word_from_next : {p q k j i : ℕ} → 0 < k → SeparatedPair m p q (k + 1) → FirstLetter m p q k j i → (w : List ℕ)
      (end : End) → WordFrom m (target m j) (target m i) w end → WordFrom m p q (action m j ∷ w) end
  word_from_next {k = k} pos pair x w end y = record {
    first_word = first_word_next k pos pair x w y.first_word;
    only_from = only_from_next pair x w end y.only_from;
  }

-- ---- the list

-- One number more behind those written.
write_next : (head entry exit : List ℕ) (at a : ℕ) → at < length entry → length head ≡ at → exit ≡ head ++ drop at entry
    → set exit at a ≡ (head ++ (a ∷ [])) ++ drop (suc at) entry
write_next head entry exit at a l n e =
    ap (λ (y : List ℕ). set y at a) (e ∙ ap (λ (y : List ℕ). head ++ y) (drop-cons entry at 0 l))
    ∙ set_at head (get_or entry at 0) (drop (suc at) entry) a at n ∙ sym (append_snoc head a (drop (suc at) entry))

snoc-length : (head : List ℕ) (a at : ℕ) → length head ≡ at → length (head ++ (a ∷ [])) ≡ at + 1
snoc-length head a at n = length-append head (a ∷ []) ∙ ap (λ (x : ℕ). x + 1) n

module _ {m : Model} {p q : ℕ} where
  -- nothing is written yet
  pub head_none : (entry : List ℕ) → WordHead m p q 0 p q entry entry
  head_none entry = record { head = []; leads = λ w end x. x; length_is = refl; list = refl }

  -- a letter of the two states reached
  pub head_next : {s : List ℕ} → Stored s m → {at from to n k j i y z a : ℕ} {entry exit : List ℕ} → n ≡ k + 1 → 0 < k
      → SeparatedPair m from to n → FirstLetter m from to k j i → a ≡ action m j → y ≡ target m j → z ≡ target m i
      → at < length entry → WordHead m p q at from to entry exit → WordHead m p q (at + 1) y z entry (set exit at a)
  head_next st {at} {from} {to} {j = j} {y = y} {z} {a} {entry} {exit} g pos pair x d e f l h = record {
    head = h.head ++ (a ∷ []);
    leads = λ w end v. rw (append_snoc h.head a w) (h.leads (a ∷ w) end (step w end v));
    length_is = snoc-length h.head a at h.length_is;
    list = write_next h.head entry exit at a l h.length_is h.list
        ∙ ap (λ (u : ℕ). (h.head ++ (a ∷ [])) ++ drop u entry) (sym (add-one at));
  }
    where
      step : (w : List ℕ) (end : End) → WordFrom m y z w end → WordFrom m from to (a ∷ w) end
      step w end v = subst (λ (b : ℕ). WordFrom m from to (b ∷ w) end) (sym d)
          (word_from_next st pos (pair_at g pair) x w end
          (subst (λ (u : ℕ). WordFrom m (target m j) u w end) f (subst (λ (u : ℕ). WordFrom m u z w end) e v)))

  -- the last letter
  pub head_end : {at from to depth a : ℕ} {end : End} {entry exit : List ℕ} → at + 1 ≡ depth → at < length entry
      → WordFrom m from to (a ∷ []) end → WordHead m p q at from to entry exit
      → WordWritten m p q depth end entry (set exit at a)
  head_end {at} {a = a} {end = end} {entry = entry} {exit = exit} e l x h =
      let n : length (h.head ++ (a ∷ [])) ≡ at + 1 = snoc-length h.head a at h.length_is in
      record {
        word = h.head ++ (a ∷ []);
        word_from = h.leads (a ∷ []) end x;
        length_is = n ∙ e;
        list = write_next h.head entry exit at a l h.length_is h.list
            ∙ ap (λ (u : ℕ). (h.head ++ (a ∷ [])) ++ drop u entry) (sym (n ∙ add-one at));
      }
