-- Member x of set k is bit x % 64 of the word at place 2k + x / 64: what a store of bit_or adds to a set.
-- Assumes nothing.
use Rattle.std.specs.Prelude.{◌≡◌, refl, ◌⊎◌, List, ℕ, zero, suc, ◌+◌, ◌*◌, ◌/◌, ◌%◌, ◌^◌, ◌<◌, length, get_or, set}
use Rattle.std.specs.Prelude.{replicate}
use Rattle.std.proofs.Common.{sym, ap, ◌∙◌, subst, inl, inr, arith, get_or-set_same, get_or-set_other}
use Rattle.std.specs.Int.Bits.{bit_or}
use Rattle.text.specs.Limits.{state_limit}
use Rattle.text.specs.Laws.ListLaws.{get_or-zeros}
use Rattle.lts.proofs.TestsLaws.{eq_or_not}
use Rattle.sets.specs.Inner.Sets.{word_bits, Member, Empty, Joined, SameSet}
use Rattle.sets.specs.Laws.BitsLaws.{bit_or_left, bit_or_right, bit_or_cases}
use Rattle.sets.specs.Laws.BitsLaws.{bit_pow, bit_pow_unique, bit-zero}

-- ---- no members

pub empty-zeros : (n : ℕ) → Empty (replicate n 0)
empty-zeros n = record {
  none = λ k x m. bit-zero (x % word_bits)
      (ap (λ (w : ℕ). w / 2 ^ (x % word_bits) % 2) (sym (get_or-zeros n (2 * k + x / word_bits))) ∙ m.bit_is);
}

-- ---- sets with the same members

pub same_set_refl : {sets : List ℕ} {j : ℕ} → SameSet sets j j
same_set_refl = record { there = λ x m. m; back = λ x m. m }

pub same_set_sym : {sets : List ℕ} {j k : ℕ} → SameSet sets j k → SameSet sets k j
same_set_sym s = record { there = s.back; back = s.there }

pub same_set_trans : {sets : List ℕ} {j k i : ℕ} → SameSet sets j k → SameSet sets k i → SameSet sets j i
same_set_trans s t = record { there = λ x m. t.there x (s.there x m); back = λ x m. s.back x (t.back x m) }

-- ---- members by words

module _ {sets : List ℕ} {k w : ℕ} where
  -- A member, from its bit in a word, and back.
  pub member_of_bit : {x : ℕ} → w ≡ get_or sets (2 * k + x / word_bits) 0 → x < state_limit
      → w / 2 ^ (x % word_bits) % 2 ≡ 1 → Member sets k x
  member_of_bit {x} e l b = record {
    member_lt = l;
    bit_is = ap (λ (v : ℕ). v / 2 ^ (x % word_bits) % 2) (sym e) ∙ b;
  }

  pub bit_of_member : {x : ℕ} → w ≡ get_or sets (2 * k + x / word_bits) 0 → Member sets k x
      → w / 2 ^ (x % word_bits) % 2 ≡ 1
  bit_of_member {x} e m = ap (λ (v : ℕ). v / 2 ^ (x % word_bits) % 2) e ∙ m.bit_is

-- ---- stores

-- x stands in word h of a set, as a bit of w.
pub record InWord (h w x : ℕ) : Type 0 where
  pub in_lt : x < state_limit
  pub word_is : x / word_bits ≡ h
  pub bit_is : w / 2 ^ (x % word_bits) % 2 ≡ 1

pub joined-map : {k : ℕ} {P Q : ℕ → Type 0} {entry exit : List ℕ} → ((x : ℕ) → P x → Q x) → ((x : ℕ) → Q x → P x)
    → Joined k P entry exit → Joined k Q entry exit
joined-map {k} {P} {Q} {entry} {exit} f g m = record {
  joined = λ x h. m.joined x (g x h);
  kept = m.kept;
  only = λ j x h. go j x (m.only j x h);
}
  where
    go : (j x : ℕ) → Member entry j x ⊎ ((j ≡ k) × P x) → Member entry j x ⊎ ((j ≡ k) × Q x)
    go j x (inl h) = inl h
    go j x (inr h) = inr (h.0, f x h.1)

-- The members of P are added, then those of Q.
pub joined_union : {k : ℕ} {P Q : ℕ → Type 0} {entry middle exit : List ℕ} → Joined k P entry middle
    → Joined k Q middle exit → Joined k (λ x. P x ⊎ Q x) entry exit
joined_union {k} {P} {Q} {entry} {middle} {exit} m w = record {
  joined = joined;
  kept = λ j x h. w.kept j x (m.kept j x h);
  only = λ j x h. after j x (w.only j x h);
}
  where
    joined : (x : ℕ) → P x ⊎ Q x → Member exit k x
    joined x (inl h) = w.kept k x (m.joined x h)
    joined x (inr h) = w.joined x h

    before : (j x : ℕ) → Member entry j x ⊎ ((j ≡ k) × P x) → Member entry j x ⊎ ((j ≡ k) × (P x ⊎ Q x))
    before j x (inl h) = inl h
    before j x (inr h) = inr (h.0, inl h.1)

    after : (j x : ℕ) → Member middle j x ⊎ ((j ≡ k) × Q x) → Member entry j x ⊎ ((j ≡ k) × (P x ⊎ Q x))
    after j x (inl h) = before j x (m.only j x h)
    after j x (inr h) = inr (h.0, inr h.1)

-- The bits of w are added to word h of set k, which is v.
pub joined_store : {k h p v w : ℕ} {sets : List ℕ} → p ≡ 2 * k + h → h < 2 → p < length sets → v ≡ get_or sets p 0
    → Joined k (InWord h w) sets (set sets p (bit_or v w))
joined_store {k} {h} {p} {v} {w} {sets} e l m f = record {
  joined = λ x b. member_of_bit (at exit (e ∙ ap (λ (y : ℕ). 2 * k + y) (sym b.word_is))) b.in_lt
      (word (x % word_bits) ∙ bit_or_right v w (x % word_bits) b.bit_is);
  kept = λ j x b. kept j x b (eq_or_not (2 * j + x / word_bits) p);
  only = λ j x b. only j x b (eq_or_not (2 * j + x / word_bits) p);
}
  where
    exit : List ℕ
    exit = set sets p (bit_or v w)

    at : (l : List ℕ) {q : ℕ} → p ≡ q → get_or l p 0 ≡ get_or l q 0
    at l d = ap (λ (y : ℕ). get_or l y 0) d

    word : (i : ℕ) → get_or exit p 0 / 2 ^ i % 2 ≡ bit_or v w / 2 ^ i % 2
    word i = ap (λ (y : ℕ). y / 2 ^ i % 2) (get_or-set_same sets p (bit_or v w) 0 m)

    other : (q : ℕ) → ¬ (q ≡ p) → get_or exit q 0 ≡ get_or sets q 0
    other q d = get_or-set_other sets p q (bit_or v w) 0 d

    kept : (j x : ℕ) → Member sets j x → (2 * j + x / word_bits ≡ p) ⊎ ¬ (2 * j + x / word_bits ≡ p) → Member exit j x
    kept j x b (inl d) =
        member_of_bit (at exit (sym d)) b.member_lt
        (word (x % word_bits) ∙ bit_or_left v w (x % word_bits) (bit_of_member (f ∙ at sets (sym d)) b))
    kept j x b (inr d) = member_of_bit (sym (other (2 * j + x / word_bits) d)) b.member_lt b.bit_is

    grown : (j x : ℕ) → x < state_limit → 2 * j + x / word_bits ≡ p
        → (v / 2 ^ (x % word_bits) % 2 ≡ 1) ⊎ (w / 2 ^ (x % word_bits) % 2 ≡ 1)
        → Member sets j x ⊎ ((j ≡ k) × InWord h w x)
    grown j x n d (inl b) = inl (member_of_bit (f ∙ at sets (sym d)) n b)
    grown j x n d (inr b) =
        inr (omega (arith, n, d, e, l), record { in_lt = n; word_is = omega (arith, n, d, e, l); bit_is = b })

    only : (j x : ℕ) → Member exit j x → (2 * j + x / word_bits ≡ p) ⊎ ¬ (2 * j + x / word_bits ≡ p)
        → Member sets j x ⊎ ((j ≡ k) × InWord h w x)
    only j x b (inl d) =
        grown j x b.member_lt d
        (bit_or_cases v w (x % word_bits) (sym (word (x % word_bits)) ∙ bit_of_member (at exit (sym d)) b))
    only j x b (inr d) = inl (member_of_bit (other (2 * j + x / word_bits) d) b.member_lt b.bit_is)

-- x alone is added.
pub joined_one : {k x p : ℕ} {sets : List ℕ} → p ≡ 2 * k + x / word_bits → x < state_limit → p < length sets
    → Joined k (λ y. y ≡ x) sets (set sets p (bit_or (get_or sets p 0) (2 ^ (x % word_bits))))
joined_one {k} {x} {p} {sets} e l m =
    joined-map
    (λ y b. to y b.word_is (bit_pow_unique (x % word_bits) (y % word_bits) b.bit_is))
    (λ y d. subst (InWord (x / word_bits) (2 ^ (x % word_bits))) (sym d)
    (record { in_lt = l; word_is = refl; bit_is = bit_pow (x % word_bits) }))
    (joined_store e (omega arith) m refl)
  where
    to : (y : ℕ) → y / word_bits ≡ x / word_bits → y % word_bits ≡ x % word_bits → y ≡ x
    to y d c = omega arith

-- All members of a set are added.
pub joined-set : {k j v w : ℕ} {others entry middle exit : List ℕ} → v ≡ get_or others (2 * j + 0) 0
    → w ≡ get_or others (2 * j + 1) 0 → Joined k (InWord 0 v) entry middle → Joined k (InWord 1 w) middle exit
    → Joined k (Member others j) entry exit
joined-set {k} {j} {v} {w} {others} {entry} {middle} {exit} d e m n =
    joined-map to (λ x h. back x h (x / word_bits) refl) (joined_union m n)
  where
    at : (z x : ℕ) → x / word_bits ≡ z → get_or others (2 * j + z) 0 ≡ get_or others (2 * j + x / word_bits) 0
    at z x f = ap (λ (y : ℕ). get_or others (2 * j + y) 0) (sym f)

    to : (x : ℕ) → InWord 0 v x ⊎ InWord 1 w x → Member others j x
    to x (inl h) = member_of_bit (d ∙ at 0 x h.word_is) h.in_lt h.bit_is
    to x (inr h) = member_of_bit (e ∙ at 1 x h.word_is) h.in_lt h.bit_is

    back : (x : ℕ) → Member others j x → (z : ℕ) → x / word_bits ≡ z → InWord 0 v x ⊎ InWord 1 w x
    back x h zero f =
        inl (record { in_lt = h.member_lt; word_is = f; bit_is = bit_of_member (d ∙ at 0 x f) h })
    back x h (suc zero) f =
        inr (record { in_lt = h.member_lt; word_is = f; bit_is = bit_of_member (e ∙ at 1 x f) h })
    back x h (suc (suc z)) f = absurd (omega (arith, h.member_lt, f))
