-- A set of numbers has but one pair of words, so that its size tells how many numbers there are. Assumes nothing.
use Rattle.std.specs.Prelude.{◌≡◌, refl, ℕ, ◌+◌, ◌^◌, ◌<◌}
use Rattle.std.proofs.Common.{sym, ap₂, ◌∙◌, subst, arith}
use Rattle.std.proofs.lemmas.Nat.{or_comm}
use Rattle.std.specs.Int.Count.{ones}
use Rattle.sets.specs.Inner.Sets.{word_bits}
use Rattle.sets.specs.Inner.SetValues.{word_of, SetOf}
use Rattle.sets.specs.Laws.BitsLaws.{or_of_bits}
use Rattle.sets.specs.Laws.SetValuesLaws.{in_of_word, word_of_in, words_lt}
use Rattle.sets.specs.declared.set.Set.{Set}
use Rattle.weak_books.specs.Inner.ManyMoves.{few_answers, Many}

-- Two sets of the same numbers have the same words.
module _ {P : ℕ → Type 0} {s t : Set} (S : SetOf P s) (T : SetOf P t) (fits : (h : ℕ) → word_of s h < 2 ^ word_bits)
    (fits-too : (h : ℕ) → word_of t h < 2 ^ word_bits) where
  word_unique : (h : ℕ) → h < 2 → word_of s h ≡ word_of t h
  word_unique h l =
      sym (or_of_bits word_bits (word_of t h) (word_of s h) (fits-too h) (λ i m b.
      word_of_in h refl m (S.all _ (T.only _ (in_of_word h refl l m b)))))
      ∙ or_comm (word_of t h) (word_of s h)
      ∙ or_of_bits word_bits (word_of s h) (word_of t h) (fits h) (λ i m b.
      word_of_in h refl m (T.all _ (S.only _ (in_of_word h refl l m b))))

  size_unique : ones s.0 + ones s.1 ≡ ones t.0 + ones t.1
  size_unique =
      ap₂ (λ (x y : ℕ). ones x + ones y) (word_unique 0 (omega arith)) (word_unique 1 (omega arith))

-- Not many where the set of the numbers is small.
pub many_not : {P : ℕ → Type 0} {s : Set} → SetOf P s → s.0 < 2 ^ word_bits → s.1 < 2 ^ word_bits
    → ¬ (few_answers < ones s.0 + ones s.1) → ¬ (Many P)
many_not S l m d w =
    d (subst (λ (x : ℕ). few_answers < x)
    (size_unique w.set_of S (words_lt w.first_lt w.second_lt) (words_lt l m)) w.more)
