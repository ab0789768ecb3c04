-- Member x of a set as a value is bit x % 64 of word x / 64: members by words, and predicates as sets.
-- Assumes nothing.
use Rattle.std.specs.Prelude.{◌≡◌, refl, ◌⊎◌, List, ℕ, zero, suc, ◌+◌, ◌*◌, ◌/◌, ◌%◌, ◌^◌, ◌≤◌, ◌<◌, length, get_or}
use Rattle.std.specs.Prelude.{set}
use Rattle.std.proofs.Common.{sym, ap, ap₂, ◌∙◌, inl, inr, arith, lt-length-set, get_or-set_same, get_or-set_other}
use Rattle.std.specs.Int.Bits.{bit_or}
use Rattle.std.proofs.lemmas.Nat.{or_comm}
use Rattle.text.specs.Limits.{state_limit}
use Rattle.lts.proofs.TestsLaws.{lt_or_le}
use Rattle.sets.specs.declared.set.Set.{Set}
use Rattle.sets.specs.Inner.Sets.{word_bits, Member, SameSet}
use Rattle.sets.specs.Inner.SetValues.{word_of, In, SetOf, SetPut}
use Rattle.sets.specs.Laws.BitsLaws.{bit_cases, bit-zero, or_of_bits}
use Rattle.sets.specs.Laws.MasksLaws.{or_zero_left, or_zero_right, zero_of_bits}
use Rattle.sets.specs.Laws.SetsLaws.{member_of_bit}

-- ---- members by words

-- A member, from its bit in a word, and back.
module _ {s : Set} {w : ℕ} where
  pub in_of_bit : {x : ℕ} → w ≡ word_of s (x / word_bits) → x < state_limit → w / 2 ^ (x % word_bits) % 2 ≡ 1 → In s x
  in_of_bit {x} e l b = record {
    member_lt = l;
    bit_is = ap (λ (v : ℕ). v / 2 ^ (x % word_bits) % 2) (sym e) ∙ b;
  }

  pub bit_of_in : {x : ℕ} → w ≡ word_of s (x / word_bits) → In s x → w / 2 ^ (x % word_bits) % 2 ≡ 1
  bit_of_in {x} e m = ap (λ (v : ℕ). v / 2 ^ (x % word_bits) % 2) e ∙ m.bit_is

-- Member x as bit i of word h.
pub in_of_word : {s : Set} (h : ℕ) {i x : ℕ} → x ≡ word_bits * h + i → h < 2 → i < word_bits
    → word_of s h / 2 ^ i % 2 ≡ 1 → In s x
in_of_word {s} h {i} {x} c l m b =
    let q : h ≡ x / word_bits = omega arith in
    let r : x % word_bits ≡ i = omega arith in
    in_of_bit (ap (word_of s) q) (omega arith) (ap (λ (y : ℕ). word_of s h / 2 ^ y % 2) r ∙ b)

pub word_of_in : {s : Set} (h : ℕ) {i x : ℕ} → x ≡ word_bits * h + i → i < word_bits → In s x
    → word_of s h / 2 ^ i % 2 ≡ 1
word_of_in {s} h {i} {x} c m b =
    let q : h ≡ x / word_bits = omega arith in
    let r : i ≡ x % word_bits = omega arith in
    ap (λ (y : ℕ). word_of s h / 2 ^ y % 2) r ∙ bit_of_in (ap (word_of s) q) b

pub words_lt : {s : Set} → s.0 < 2 ^ word_bits → s.1 < 2 ^ word_bits → (h : ℕ) → word_of s h < 2 ^ word_bits
words_lt l m zero = l
words_lt l m (suc h) = m

-- ---- predicates

pub set_of-map : {P Q : ℕ → Type 0} {s : Set} → ((x : ℕ) → P x → Q x) → ((x : ℕ) → Q x → P x) → SetOf P s → SetOf Q s
set_of-map f g m = record {
  all = λ x q. m.all x (g x q);
  only = λ x i. f x (m.only x i);
}

-- The union, by the predicates of its parts.
pub set_of_union : {P Q : ℕ → Type 0} {a b r : Set} → SetOf P a → SetOf Q b → SetOf (λ x. In a x ⊎ In b x) r
    → SetOf (λ x. P x ⊎ Q x) r
set_of_union {P} {Q} {a} {b} m n u = set_of-map to back u
  where
    to : (x : ℕ) → In a x ⊎ In b x → P x ⊎ Q x
    to x (inl i) = inl (m.only x i)
    to x (inr i) = inr (n.only x i)

    back : (x : ℕ) → P x ⊎ Q x → In a x ⊎ In b x
    back x (inl p) = inl (m.all x p)
    back x (inr q) = inr (n.all x q)

pub in_or_not : (s : Set) (x : ℕ) → In s x ⊎ ¬ (In s x)
in_or_not s x = go (lt_or_le x state_limit) (bit_cases w)
  where
    w : ℕ
    w = word_of s (x / word_bits) / 2 ^ (x % word_bits)

    go : (x < state_limit) ⊎ (state_limit ≤ x) → (w % 2 ≡ 0) ⊎ (w % 2 ≡ 1) → In s x ⊎ ¬ (In s x)
    go (inr l) b = inr (λ m. absurd (omega (arith, l, m.member_lt)))
    go (inl l) (inl b) = inr (λ m. absurd (omega (arith, b, m.bit_is)))
    go (inl l) (inr b) = inl (record { member_lt = l; bit_is = b })

-- ---- tests

pub none_of_or : {s : Set} → bit_or s.0 s.1 ≡ 0 → (x : ℕ) → ¬ (In s x)
none_of_or {s} e x m = bit-zero (x % word_bits) (bit_of_in (zeros (x / word_bits)) m)
  where
    zeros : (h : ℕ) → 0 ≡ word_of s h
    zeros zero = sym (or_zero_left s.0 s.1 e)
    zeros (suc h) = sym (or_zero_right s.0 s.1 e)

pub or_of_none : {s : Set} → s.0 < 2 ^ word_bits → s.1 < 2 ^ word_bits → ((x : ℕ) → ¬ (In s x))
    → bit_or s.0 s.1 ≡ 0
or_of_none {s} l m f =
    ap₂ bit_or (zero_of_bits s.0 l (λ i k b. f i (in_of_word 0 (omega arith) (omega arith) k b)))
    (zero_of_bits s.1 m (λ i k b. f (word_bits + i) (in_of_word 1 (omega arith) (omega arith) k b)))

-- ---- two sets

-- A set with the same words has the same members,
pub set_of_same-words : {P : ℕ → Type 0} {s t : Set} → s.0 ≡ t.0 → s.1 ≡ t.1 → SetOf P s → SetOf P t
set_of_same-words {s = s} {t} e f m = record {
  all = λ x p. let i = m.all x p in in_of_bit (words (x / word_bits)) i.member_lt i.bit_is;
  only = λ x i. m.only x (in_of_bit (sym (words (x / word_bits))) i.member_lt i.bit_is);
}
  where
    words : (h : ℕ) → word_of s h ≡ word_of t h
    words zero = e
    words (suc h) = f

-- and one with the same members the same words.
pub word_of_set_of : {a b : Set} (h : ℕ) → h < 2 → word_of a h < 2 ^ word_bits → word_of b h < 2 ^ word_bits
    → SetOf (In a) b → word_of a h ≡ word_of b h
word_of_set_of {a} {b} h l fits fits-too s =
    sym (or_of_bits word_bits (word_of b h) (word_of a h) fits-too
    (λ i m e. word_of_in h refl m (s.only (word_bits * h + i) (in_of_word h refl l m e))))
    ∙ or_comm (word_of b h) (word_of a h)
    ∙ or_of_bits word_bits (word_of a h) (word_of b h) fits
    (λ i m e. word_of_in h refl m (s.all (word_bits * h + i) (in_of_word h refl l m e)))

pub set_of_refl : {a : Set} → SetOf (In a) a
set_of_refl = record { all = λ x m. m; only = λ x m. m }

-- A set has what makes up another with the same members.
pub set_of_trans : {P : ℕ → Type 0} {a b : Set} → SetOf P a → SetOf (In a) b → SetOf P b
set_of_trans m n = record { all = λ x p. n.all x (m.all x p); only = λ x i. m.only x (n.only x i) }

-- Two sets of a list, by their values.
module _ {sets : List ℕ} {j k : ℕ} {a b : Set} (m : SetOf (Member sets j) a) (n : SetOf (Member sets k) b) where
  pub same_set_of_values : SetOf (In a) b → SameSet sets j k
  same_set_of_values s = record {
    there = λ x i. n.only x (s.all x (m.all x i));
    back = λ x i. m.only x (s.only x (n.all x i));
  }

  pub values_of_same_set : SameSet sets j k → SetOf (In a) b
  values_of_same_set s = record {
    all = λ x i. n.all x (s.there x (m.only x i));
    only = λ x i. m.all x (s.back x (n.only x i));
  }

-- ---- sets of a list

-- Both words of set k are those of s.
set_of_of-words : {sets : List ℕ} {k : ℕ} {s : Set} → ((h : ℕ) → h < 2 → get_or sets (2 * k + h) 0 ≡ word_of s h)
    → SetOf (Member sets k) s
set_of_of-words f = record {
  all = λ x m. in_of_bit (f (x / word_bits) (omega (arith, m.member_lt))) m.member_lt m.bit_is;
  only = λ x m.
      member_of_bit (sym (f (x / word_bits) (omega (arith, m.member_lt)))) m.member_lt m.bit_is;
}

pub set_of_at : (sets : List ℕ) (k : ℕ) → SetOf (Member sets k) (get_or sets (2 * k) 0, get_or sets (2 * k + 1) 0)
set_of_at sets k = set_of_of-words word
  where
    word : (h : ℕ) → h < 2 → get_or sets (2 * k + h) 0 ≡ word_of (get_or sets (2 * k) 0, get_or sets (2 * k + 1) 0) h
    word zero l = let e : 2 * k + 0 ≡ 2 * k = omega arith in ap (λ (p : ℕ). get_or sets p 0) e
    word (suc zero) l = refl
    word (suc (suc h)) l = absurd (omega (arith, l))

pub set_put-words : {sets : List ℕ} {k : ℕ} (s : Set) → 2 * k + 1 < length sets
    → SetPut k s sets (set (set sets (2 * k) s.0) (2 * k + 1) s.1)
set_put-words {sets} {k} s l = record {
  put = set_of_of-words word;
  kept = λ j x d m. member_of_bit (sym (other j (x / word_bits) (omega (arith, m.member_lt)) d)) m.member_lt
      m.bit_is;
  only = λ j x d m. member_of_bit (other j (x / word_bits) (omega (arith, m.member_lt)) d) m.member_lt m.bit_is;
}
  where
    middle : List ℕ
    middle = set sets (2 * k) s.0

    exit : List ℕ
    exit = set middle (2 * k + 1) s.1

    word : (h : ℕ) → h < 2 → get_or exit (2 * k + h) 0 ≡ word_of s h
    word zero m =
        let e : 2 * k + 0 ≡ 2 * k = omega arith in
        let next : ¬ (2 * k ≡ 2 * k + 1) = λ d. omega (arith, d) in
        ap (λ (p : ℕ). get_or exit p 0) e ∙ get_or-set_other middle (2 * k + 1) (2 * k) s.1 0 next
        ∙ get_or-set_same sets (2 * k) s.0 0 (omega arith)
    word (suc zero) m =
        get_or-set_same middle (2 * k + 1) s.1 0 (lt-length-set sets (2 * k) s.0 l)
    word (suc (suc h)) m = absurd (omega (arith, m))

    other : (j h : ℕ) → h < 2 → ¬ (j ≡ k) → get_or exit (2 * j + h) 0 ≡ get_or sets (2 * j + h) 0
    other j h m d =
        get_or-set_other middle (2 * k + 1) (2 * j + h) s.1 0 (λ e. d (omega (arith, e, m)))
        ∙ get_or-set_other sets (2 * k) (2 * j + h) s.0 0 (λ e. d (omega (arith, e, m)))
