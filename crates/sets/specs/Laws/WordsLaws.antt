-- Both words of sets say what joining two of them changes.
-- Assumes nothing.
use Rattle.std.specs.Prelude.{◌≡◌, refl, List, ℕ, zero, suc, ◌+◌, ◌*◌, ◌/◌, ◌%◌, ◌<◌, length, get_or, set}
use Rattle.std.proofs.Common.{sym, ap, ◌∙◌, inl, arith, lt-length-set, get_or-set_same, get_or-set_other}
use Rattle.std.specs.Int.Bits.{bit_or}
use Rattle.std.proofs.lemmas.Nat.{or_comm}
use Rattle.sets.specs.Inner.Sets.{word_bits, Member, Joined}
use Rattle.sets.specs.Laws.BitsLaws.{bits_of_or}
use Rattle.sets.specs.Laws.SetsLaws.{member_of_bit, bit_of_member}
use Rattle.sets.specs.Laws.SetsLaws.{joined_store, joined-set}

-- ---- a set within another

module _ {sets others : List ℕ} {k j : ℕ} where
  -- Neither word adds a bit.
  pub within_of_words : {a b c d : ℕ} → a ≡ get_or sets (2 * k + 0) 0 → b ≡ get_or sets (2 * k + 1) 0
      → c ≡ get_or others (2 * j + 0) 0 → d ≡ get_or others (2 * j + 1) 0 → bit_or a c ≡ c → bit_or b d ≡ d
      → (x : ℕ) → Member sets k x → Member others j x
  within_of_words {a} {b} {c} {d} ea eb ec ed l h x m = go x m (x / word_bits) refl
    where
      at : (list : List ℕ) (n z x : ℕ) → x / word_bits ≡ z → get_or list (2 * n + z) 0 ≡ get_or list
          (2 * n + x / word_bits) 0
      at list n z x f = ap (λ (y : ℕ). get_or list (2 * n + y) 0) (sym f)

      go : (x : ℕ) → Member sets k x → (z : ℕ) → x / word_bits ≡ z → Member others j x
      go x m zero f =
          member_of_bit (ec ∙ at others j 0 x f) m.member_lt
          (bits_of_or a c (x % word_bits) l (bit_of_member (ea ∙ at sets k 0 x f) m))
      go x m (suc zero) f =
          member_of_bit (ed ∙ at others j 1 x f) m.member_lt
          (bits_of_or b d (x % word_bits) h (bit_of_member (eb ∙ at sets k 1 x f) m))
      go x m (suc (suc z)) f = absurd (omega (arith, m.member_lt, f))

-- ---- a set added to set k

-- Both words take the bits of the other set's words.
pub joined_words : {sets others : List ℕ} {k j p q b : ℕ} → p ≡ 2 * k → q ≡ 2 * j → p + 1 < length sets
    → b ≡ get_or sets (p + 1) 0
    → Joined k (Member others j) sets
    (set (set sets p (bit_or (get_or sets p 0) (get_or others q 0))) (p + 1) (bit_or b (get_or others (q + 1) 0)))
joined_words {sets} {others} {k} {j} {p} {q} {b} d e l f =
    let low : q ≡ 2 * j + 0 = omega arith in
    let high : q + 1 ≡ 2 * j + 1 = omega arith in
    let v : ℕ = bit_or (get_or sets p 0) (get_or others q 0) in
    let next : ¬ (p + 1 ≡ p) = λ h. omega (arith, h) in
    joined-set (ap (λ (x : ℕ). get_or others x 0) low) (ap (λ (x : ℕ). get_or others x 0) high)
    (joined_store (omega arith) (omega arith) (omega arith) refl)
    (joined_store (omega arith) (omega arith) (lt-length-set sets p v l)
    (f ∙ sym (get_or-set_other sets p (p + 1) v 0 next)))

-- Neither word takes a bit.
pub joined_same-words : {sets : List ℕ} {k j p q : ℕ} → p ≡ 2 * k → q ≡ 2 * j
    → bit_or (get_or sets p 0) (get_or sets q 0) ≡ get_or sets p 0
    → bit_or (get_or sets (p + 1) 0) (get_or sets (q + 1) 0) ≡ get_or sets (p + 1) 0 → Joined k (Member sets j) sets
    sets
joined_same-words {sets} {k} {j} {p} {q} d e l h = record {
  joined = within_of_words (at q f) (at (q + 1) g) (at p m) (at (p + 1) n)
      (or_comm (get_or sets q 0) (get_or sets p 0) ∙ l) (or_comm (get_or sets (q + 1) 0) (get_or sets (p + 1) 0) ∙ h);
  kept = λ i x b. b;
  only = λ i x b. inl b;
}
  where
    at : (x : ℕ) {y : ℕ} → x ≡ y → get_or sets x 0 ≡ get_or sets y 0
    at x c = ap (λ (z : ℕ). get_or sets z 0) c

    f : q ≡ 2 * j + 0
    f = omega arith

    g : q + 1 ≡ 2 * j + 1
    g = omega arith

    m : p ≡ 2 * k + 0
    m = omega arith

    n : p + 1 ≡ 2 * k + 1
    n = omega arith

-- Both words are stored, and the list stays the same: they are those that it had.
pub words_of_stored : {sets : List ℕ} (p : ℕ) {v w : ℕ} → p + 1 < length sets → set (set sets p v) (p + 1) w ≡ sets
    → (v ≡ get_or sets p 0) × (w ≡ get_or sets (p + 1) 0)
words_of_stored {sets} p {v} {w} l e =
    let next : ¬ (p ≡ p + 1) = λ h. omega (arith, h) in (
      sym (get_or-set_other (set sets p v) (p + 1) p w 0 next ∙ get_or-set_same sets p v 0 (omega arith))
          ∙ ap (λ (s : List ℕ). get_or s p 0) e,
      sym (get_or-set_same (set sets p v) (p + 1) w 0 (lt-length-set sets p v l))
          ∙ ap (λ (s : List ℕ). get_or s (p + 1) 0) e,
    )
