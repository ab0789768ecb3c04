-- The last letter of the first word: the lowest low action that just one of two states has.
-- Document 01, operation 6. Assumes nothing.
use Rattle.std.specs.Prelude.{Option, Some, None, MatchOption, IsSomeAnd, get_or, List, [], ◌∷◌, ◌≡◌, refl, ℕ}
use Rattle.std.specs.Prelude.{◌≤◌, ◌<◌, T}
use Rattle.std.proofs.Common.{inl, inr, sym, subst, ◌∙◌, arith}
use Rattle.lts.proofs.FirstWordLaws.{first_word_one, letter_of_separated_one}
use Rattle.lts.specs.Run.{Run}
use Rattle.lts.specs.Word.{OnlyFrom, JustOne, FirstWord}
use Rattle.text.specs.declared.Action.{Action}
use Rattle.text.specs.declared.Step.{Step}
use Rattle.text.specs.First.{First}
use Rattle.text.specs.Limits.{action_of_step_place}
use Rattle.text.specs.Model.{Model}
use Rattle.model.specs.System.{action, target, Steps, view}
use Rattle.model.specs.Laws.Store.SystemLaws.{own_step, deterministic_model→Deterministic}
use Rattle.model.specs.Inner.Stored.{Stored}
use Rattle.model.specs.Laws.System.StoredLaws.{stored_action}
use Rattle.letters.specs.declared.word.End.TheVariants.{Source, Target}
use Rattle.letters.specs.Inner.Letters.{Alone, FoundFirst, LowestAlone, FoundAlone, SeparatedPair}
use Rattle.letters.specs.Inner.WordHead.{WordFrom}
use Rattle.model.proofs.Laws.System.RankBoundLaws.{low_step_game}

module _ {m : Model} {p q : ℕ} where
  pub alone→OnlyFrom : {j : ℕ} → Alone m p q j → OnlyFrom (view m).Step p q (action m j ∷ [])
  unfolding Run
  alone→OnlyFrom {j} x = (
    (target m j, (target m j, own, refl)),
    λ z.
        let s = z.1.1 in
        x.unanswered.none s.number (record {
          number_lt = s.number_lt;
          source_is = s.source_is;
          action_is = s.action_is;
        }),
  )
    where
      own : Steps m p (action m j) (target m j)
      own = subst (λ (o : ℕ). Steps m o (action m j) (target m j)) x.source_is
          (own_step m j x.unanswered.number_lt)

  pub OnlyFrom→alone : {a : ℕ} → T ((view m).levels.low? a) → OnlyFrom (view m).Step p q (a ∷ [])
      → (j : ℕ) × Alone m p q j × (action m j ≡ a)
  unfolding Run
  OnlyFrom→alone {a} lo (x, y) = (s.number, alone, s.action_is)
    where
      s : Steps m p a x.1.0
      s = x.1.1

      alone : Alone m p q s.number
      alone = record {
        source_is = s.source_is;
        unanswered = record {
          number_lt = s.number_lt;
          is_low = subst (λ (b : ℕ). T ((view m).levels.low? b)) (sym s.action_is) lo;
          none = λ i z. y (
            target m i,
            (
              target m i,
              record {
                number = i;
                number_lt = z.number_lt;
                source_is = z.source_is;
                action_is = z.action_is ∙ s.action_is;
                target_is = refl;
              },
              refl,
            ),
          );
        };
      }

  -- Steps rise by action.
  pub first_alone_le : {s : List ℕ} → Stored s m → {j : ℕ} → First (Alone m p q) j → (i : ℕ) → Alone m p q i
      → action m j ≤ action m i
  first_alone_le st {j} x i y = st.action_le j i (x.first i y) y.unanswered.number_lt
      (x.holds.source_is ∙ sym y.source_is)

  lowest_of_first : {s : List ℕ} → Stored s m → {a j : ℕ} → a ≡ action m j → First (Alone m p q) j
      → LowestAlone m p q a
  lowest_of_first st {a} {j} e x = record {
    by = j;
    alone = x.holds;
    action_is = e;
    lowest = λ i y. omega (arith, e, first_alone_le st x i y);
  }

-- The action of the first such step.
pub alone_found : {s : List ℕ} {m : Model} (p q : ℕ) → Stored s m → (r : Option Step) (o : Option Action)
    (of : Step → Action → Type 0)
    → ((j : Step) (a : Action) → of j a → a.0 ≡ get_or s (action_of_step_place j.0) 0)
    → FoundFirst (Alone m p q) r → MatchOption r (o ≡ None) (λ j. IsSomeAnd o (of j)) → FoundAlone m p q o
alone_found {m = m} p q st None o of is h e = subst (FoundAlone m p q) (sym e) h
alone_found p q st (Some j) None of is h e = absurd e
alone_found {m = m} p q st (Some j) (Some a) of is h e =
    lowest_of_first st (is j a e ∙ stored_action st j.0 h.holds.unanswered.number_lt) h

module _ {m : Model} {p q : ℕ} where
  first_word_of_alone : (a : ℕ) → T ((view m).levels.low? a) → JustOne (view m).Step p q (a ∷ [])
      → ((i : ℕ) → Alone m p q i → a ≤ action m i) → ((i : ℕ) → Alone m q p i → a ≤ action m i)
      → FirstWord (view m) p q (a ∷ [])
  first_word_of_alone a lo o f g = first_word_one (view m) p q a lo o least
    where
      least : (b : ℕ) → b < a → T ((view m).levels.low? b) → ¬ (JustOne (view m).Step p q (b ∷ []))
      least b l lb (inl x) = let y = OnlyFrom→alone lb x in omega (arith, f y.0 y.1, y.2)
      least b l lb (inr x) = let y = OnlyFrom→alone lb x in omega (arith, g y.0 y.1, y.2)

  pub source_letter_of_lowest : {a : ℕ} → LowestAlone m p q a → ((i : ℕ) → Alone m q p i → a ≤ action m i)
      → WordFrom m p q (a ∷ []) Source
  source_letter_of_lowest {a} x f =
      let o = subst (λ (b : ℕ). OnlyFrom (view m).Step p q (b ∷ [])) (sym x.action_is) (alone→OnlyFrom x.alone) in
      record {
        first_word = first_word_of_alone a
            (subst (λ (b : ℕ). T ((view m).levels.low? b)) (sym x.action_is) x.alone.unanswered.is_low) (inl o)
            x.lowest f;
        only_from = o;
      }

  pub target_letter_of_lowest : {a : ℕ} → LowestAlone m q p a → ((i : ℕ) → Alone m p q i → a ≤ action m i)
      → WordFrom m p q (a ∷ []) Target
  target_letter_of_lowest {a} x f =
      let o = subst (λ (b : ℕ). OnlyFrom (view m).Step q p (b ∷ [])) (sym x.action_is) (alone→OnlyFrom x.alone) in
      record {
        first_word = first_word_of_alone a
            (subst (λ (b : ℕ). T ((view m).levels.low? b)) (sym x.action_is) x.alone.unanswered.is_low) (inr o)
            f x.lowest;
        only_from = o;
      }

  module _ {s : List ℕ} (st : Stored s m) {a j : ℕ} (e : a ≡ action m j) where
    pub source_letter : First (Alone m p q) j → ((i : ℕ) → Alone m q p i → a ≤ action m i)
        → WordFrom m p q (a ∷ []) Source
    source_letter x f = source_letter_of_lowest (lowest_of_first st e x) f

    pub target_letter : First (Alone m q p) j → ((i : ℕ) → Alone m p q i → a ≤ action m i)
        → WordFrom m p q (a ∷ []) Target
    target_letter x f = target_letter_of_lowest (lowest_of_first st e x) f

-- Of two states that the round 1 separates, one has a low step whose action the other has no step of.
pub alone_some : {s : List ℕ} {m : Model} {p q : ℕ} → Stored s m → SeparatedPair m p q 1
    → ((i : ℕ) → ¬ (Alone m p q i)) → ((i : ℕ) → ¬ (Alone m q p i)) → ⊥
alone_some {m = m} {p} {q} st x f g =
    let (a, lo, o) = letter_of_separated_one (view m) _ (low_step_game st)
    (deterministic_model→Deterministic m x.deterministic) p q x.separated in
    go a lo o
  where
    go : (a : ℕ) → T ((view m).levels.low? a) → JustOne (view m).Step p q (a ∷ []) → ⊥
    go a lo (inl y) = let z = OnlyFrom→alone lo y in f z.0 z.1
    go a lo (inr y) = let z = OnlyFrom→alone lo y in g z.0 z.1
