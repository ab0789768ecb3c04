-- Where the members of a set are all in another, its words are no greater: with what is taken out, they fall.
-- Assumes nothing.
use Rattle.std.specs.Prelude.{◌≡◌, ℕ, ◌^◌, ◌≤◌, ◌<◌}
use Rattle.std.proofs.Common.{arith}
use Rattle.std.specs.Int.Bits.{bit_and}
use Rattle.std.proofs.lemmas.Nat.{and_le_l, and_le_r}
use Rattle.sets.specs.declared.set.Set.{Set}
use Rattle.sets.specs.Inner.Sets.{word_bits}
use Rattle.sets.specs.Inner.SetValues.{In, words}
use Rattle.sets.specs.Laws.OperationsLaws.{set_of_both}
use Rattle.sets.specs.Laws.SetValuesLaws.{set_of-map, word_of_set_of}

pub words_le : {a b : Set} → a.0 < 2 ^ word_bits → a.1 < 2 ^ word_bits → ((x : ℕ) → In a x → In b x)
    → words a ≤ words b
words_le {a} {b} low high within =
    let common = set_of-map (λ x (m : In a x × In b x). m.0) (λ x m. (m, within x m)) (set_of_both a b) in
    let first = and_le_r a.0 b.0 in
    let second = and_le_r a.1 b.1 in
    let first_fits = and_le_l a.0 b.0 in
    let second_fits = and_le_l a.1 b.1 in
    let e : a.0 ≡ bit_and a.0 b.0 = word_of_set_of 0 (omega arith) low (omega (arith, low, first_fits)) common in
    let f : a.1 ≡ bit_and a.1 b.1 = word_of_set_of 1 (omega arith) high (omega (arith, high, second_fits)) common in
    omega (arith, e, f, first, second)
