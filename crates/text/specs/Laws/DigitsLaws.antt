-- The digits of a number read back to it, and a field that holds a number consists of that number's digits.
-- Document 01, "The text": "Numbers have 1 to 5 digits and no leading zero, except `0` itself." Assumes nothing.
use Rattle.std.specs.Prelude.{Bool, true, false, cond, not, ◌&&◌, List, [], ◌∷◌, ◌++◌, ◌⊎◌, ◌≡◌, refl, ℕ, zero, suc}
use Rattle.std.specs.Prelude.{◌+◌, ◌-◌, ◌*◌, ◌/◌, ◌%◌, ◌^◌, ◌≤◌, ◌<◌, leb, eqb, length, get_or}
use Rattle.std.proofs.Common.{append_assoc, append-nil, inl, inr, sym, ap, ◌∙◌, arith, pow-suc, lt_of_lt_of_le, lit<}
use Rattle.std.proofs.Common.{length-append, leb-true, eqb-true, lt-ltb, le-ltb, ne_eqb}
use Rattle.std.proofs.Math.Option.{none, some}
use Rattle.std.proofs.Math.Nat.{pow-le-pow_right}
use Rattle.std.proofs.Math.ListN.{get_or-append}
use Rattle.std.proofs.lemmas.Bool.{eqb-false}
use Rattle.lts.proofs.TestsLaws.{lt_or_le}
use Rattle.text.specs.Limits.{digit_limit}
use Rattle.text.specs.Bytes.{byte_zero, digit, kind_of}
use Rattle.text.specs.Laws.BytesLaws.{digit_within, digit_kind}
use Rattle.text.specs.Numbers.{digits_value, number_shape?, number_of, digits_up_to, digits}
use Rattle.text.specs.Laws.NumbersLaws.{digits_value-nil, digits_value-cons, number_of_one, number_of_some}
use Rattle.text.specs.All.{All}
use Rattle.text.specs.Laws.AllLaws.{all_append}

-- ---- digits, one by one

-- below ten, or not
abbrev Ten : ℕ → Type 0
Ten n = (n < 10) ⊎ (10 ≤ n)

pub digits_up_to_lt : (k n : ℕ) → n < 10 → digits_up_to (suc k) n ≡ (byte_zero + n) ∷ []
unfolding digits_up_to
digits_up_to_lt k n h = rw (lt-ltb n 10 h)

pub digits_up_to_le : (k n : ℕ) → 10 ≤ n → digits_up_to (suc k) n ≡ digits_up_to k (n / 10) ++
    ((byte_zero + n % 10) ∷ [])
unfolding digits_up_to
digits_up_to_le k n h = rw (le-ltb n 10 h)

-- the first byte of what has a value is a digit
value-digit : (v b : ℕ) (bs : List ℕ) (n : ℕ) → digits_value v (b ∷ bs) ≡ some n → kind_of b ≡ digit
unfolding digits_value
value-digit v b bs n h = by_test (eqb (kind_of b) digit) refl
  where
    by_test : (t : Bool) → eqb (kind_of b) digit ≡ t → kind_of b ≡ digit
    by_test true e = eqb-true (kind_of b) digit e
    by_test false e =
        let k : digits_value v (b ∷ bs) ≡ none = rw (ne_eqb (kind_of b) digit (eqb-false (kind_of b) digit e)) in cc

-- a value goes on into the digits after it
pub value-append : (xs ys : List ℕ) (v w : ℕ) → digits_value v xs ≡ some w → digits_value v (xs ++ ys) ≡ digits_value
    w ys
value-append [] ys v w h = let e : v ≡ w = cc (digits_value-nil v) in ap (λ (z : ℕ). digits_value z ys) e
value-append (x ∷ xs) ys v w h =
    let k = value-digit v x xs w h in
    digits_value-cons v x (xs ++ ys) k
    ∙ value-append xs ys (v * 10 + (x - byte_zero)) w (sym (digits_value-cons v x xs k) ∙ h)

value_one : (v d : ℕ) → d < 10 → digits_value v ((byte_zero + d) ∷ []) ≡ some (v * 10 + d)
value_one v d h =
    let e : v * 10 + (byte_zero + d - byte_zero) ≡ v * 10 + d = omega arith in
    digits_value-cons v (byte_zero + d) [] (digit_kind (byte_zero + d) (omega arith) (omega arith))
    ∙ digits_value-nil _ ∙ ap some e

-- ---- the digits of a number below a power of ten

-- of two digits or more: what stands before the last one
before_last : (k n : ℕ) → 10 ≤ n → n < 10 ^ suc k → (n / 10 < 10 ^ k) × (0 < k) × (0 < n / 10)
before_last zero n g h = absurd (omega arith)
before_last (suc k) n g h = let e = pow-suc 10 (suc k) in (omega arith, omega arith, omega arith)

digits_up_to_value : (k n : ℕ) → n < 10 ^ k → 0 < k → digits_value 0 (digits_up_to k n) ≡ some n
digits_up_to_value zero n h p = absurd (omega arith)
digits_up_to_value (suc k) n h p = go (digits_up_to_value k) (lt_or_le n 10)
  where
    go : ((m : ℕ) → m < 10 ^ k → 0 < k → digits_value 0 (digits_up_to k m) ≡ some m) → Ten n
        → digits_value 0 (digits_up_to (suc k) n) ≡ some n
    go ih (inl l) = rw (digits_up_to_lt k n l, value_one 0 n l) (ap some (omega arith))
    go ih (inr g) =
        let b = before_last k n g h in
        let front = ih (n / 10) b.0 b.1 in
        let i = value-append (digits_up_to k (n / 10)) ((byte_zero + n % 10) ∷ []) 0 (n / 10) front in
        rw (digits_up_to_le k n g, i, value_one (n / 10) (n % 10) (omega arith)) (ap some (omega arith))

pub digits_up_to-digit : (k n : ℕ) → All (λ b. kind_of b ≡ digit) (digits_up_to k n)
unfolding digits_up_to
digits_up_to-digit zero n = tt
digits_up_to-digit (suc k) n = go (digits_up_to-digit k (n / 10)) (lt_or_le n 10)
  where
    go : All (λ b. kind_of b ≡ digit) (digits_up_to k (n / 10)) → Ten n
        → All (λ b. kind_of b ≡ digit) (digits_up_to (suc k) n)
    go ih (inl l) = rw (digits_up_to_lt k n l) (digit_kind (byte_zero + n) (omega arith) (omega arith), tt)
    go ih (inr g) =
        let last = digit_kind (byte_zero + n % 10) (omega arith) (omega arith) in
        rw (digits_up_to_le k n g) (all_append (λ b. kind_of b ≡ digit) (digits_up_to k (n / 10)) _ ih (last, tt))

pub digits_up_to-length_le : (k n : ℕ) → length (digits_up_to k n) ≤ k
unfolding digits_up_to
digits_up_to-length_le zero n = omega arith
digits_up_to-length_le (suc k) n = go (digits_up_to-length_le k (n / 10)) (lt_or_le n 10)
  where
    go : length (digits_up_to k (n / 10)) ≤ k → Ten n → length (digits_up_to (suc k) n) ≤ suc k
    go ih (inl l) = rw (digits_up_to_lt k n l) (omega arith)
    go ih (inr g) = rw (digits_up_to_le k n g) (simp length-append (omega arith))

-- a number above 0 has digits, and the first is not 0
record Led (l : List ℕ) : Type 0 where
  one : 0 < length l
  first : get_or l 0 0 ≡ byte_zero → ⊥

digits_up_to_led : (k n : ℕ) → n < 10 ^ k → 0 < k → 0 < n → Led (digits_up_to k n)
digits_up_to_led zero n h p q = absurd (omega arith)
digits_up_to_led (suc k) n h p q = go (digits_up_to_led k) (lt_or_le n 10)
  where
    go : ((m : ℕ) → m < 10 ^ k → 0 < k → 0 < m → Led (digits_up_to k m)) → Ten n → Led (digits_up_to (suc k) n)
    go ih (inl l) = rw (digits_up_to_lt k n l) (record { one = omega arith; first = λ z. omega arith })
    go ih (inr g) =
        let b = before_last k n g h in
        let i = ih (n / 10) b.0 b.1 b.2 in
        let e = length-append (digits_up_to k (n / 10)) ((byte_zero + n % 10) ∷ []) in
        let f = get_or-append (digits_up_to k (n / 10)) ((byte_zero + n % 10) ∷ []) 0 0 i.one in
        rw (digits_up_to_le k n g) (record { one = omega arith; first = λ z. i.first (sym f ∙ z) })

-- room for more digits than there are changes nothing
digits_up_to-suc : (k n : ℕ) → n < 10 ^ k → 0 < k → digits_up_to (suc k) n ≡ digits_up_to k n
digits_up_to-suc zero n h p = absurd (omega arith)
digits_up_to-suc (suc k) n h p = go (digits_up_to-suc k) (lt_or_le n 10)
  where
    go : ((m : ℕ) → m < 10 ^ k → 0 < k → digits_up_to (suc k) m ≡ digits_up_to k m) → Ten n
        → digits_up_to (suc (suc k)) n ≡ digits_up_to (suc k) n
    go ih (inl l) = digits_up_to_lt (suc k) n l ∙ sym (digits_up_to_lt k n l)
    go ih (inr g) =
        let b = before_last k n g h in
        rw (digits_up_to_le (suc k) n g, digits_up_to_le k n g, ih (n / 10) b.0 b.1)

pub digits-digits_up_to : (j k n : ℕ) → n < 10 ^ k → 0 < k → j + k ≡ digit_limit → digits n ≡ digits_up_to k n
unfolding digits
digits-digits_up_to zero k n h p e = let q : k ≡ digit_limit = omega arith in rw q
digits-digits_up_to (suc j) k n h p e =
    let q = pow-suc 10 k in
    digits-digits_up_to j (suc k) n (omega arith) (omega arith) (omega arith) ∙ digits_up_to-suc k n h p

-- ---- digits read back

pub digits-digit : (n : ℕ) → All (λ b. kind_of b ≡ digit) (digits n)
unfolding digits
digits-digit n = digits_up_to-digit digit_limit n

-- a number below 10 to the k has at most k digits
pub digits-length_le : (k n : ℕ) → n < 10 ^ k → 0 < k → k ≤ digit_limit → length (digits n) ≤ k
digits-length_le k n h p l = rw (digits-digits_up_to (digit_limit - k) k n h p (omega arith))
    (digits_up_to-length_le k n)

-- what is written reads back
pub number_of-digits : (n : ℕ) → n < 100000 → number_of (digits n) ≡ some n
unfolding digits
number_of-digits n h = go (lt_or_le n 10)
  where
    go : Ten n → number_of (digits_up_to 5 n) ≡ some n
    go (inl l) = number_of_one (digits_up_to 5 n) (rw (digits_up_to_lt 4 n l)) ∙ digits_up_to_value 5 n h (lit< tt)
    go (inr g) =
        let b = before_last 4 n g h in
        let d = digits_up_to_led 4 (n / 10) b.0 b.1 b.2 in
        let e = length-append (digits_up_to 4 (n / 10)) ((byte_zero + n % 10) ∷ []) in
        let s : 1 < length (digits_up_to 5 n) = rw (digits_up_to_le 4 n g) (omega arith) in
        let w = digits_up_to_led 5 n h (lit< tt) (omega arith) in
        number_of_some (digits_up_to 5 n) s (digits_up_to-length_le 5 n) w.first ∙ digits_up_to_value 5 n h (lit< tt)

-- ---- what reads was written so

digits_up_to-cons : (k v d : ℕ) → 0 < v → d < 10
    → digits_up_to (suc k) (v * 10 + d) ≡ digits_up_to k v ++ ((byte_zero + d) ∷ [])
digits_up_to-cons k v d p h =
    let a : (v * 10 + d) / 10 ≡ v = omega arith in
    let b : (v * 10 + d) % 10 ≡ d = omega arith in
    rw (digits_up_to_le k (v * 10 + d) (omega arith), a, b)

-- digits that follow those of v, up to the value n, are the last digits of n; and as many digits bound n
digits_up_to_of_value : (ds : List ℕ) (v k n : ℕ) → 0 < v → v < 10 ^ k → digits_value v ds ≡ some n
    → (digits_up_to (k + length ds) n ≡ digits_up_to k v ++ ds) × (n < 10 ^ (k + length ds))
digits_up_to_of_value [] v k n p l h =
    let e : v ≡ n = cc (digits_value-nil v) in
    let z : k + 0 ≡ k = omega arith in
    (rw (append-nil, z, e), rw (z, ← e) l)
digits_up_to_of_value (d ∷ ds) v k n p l h =
    let q = value-digit v d ds n h in
    let r = digit_within d q in
    let m : byte_zero + (d - byte_zero) ≡ d = omega arith in
    let z : k + suc (length ds) ≡ suc k + length ds = omega arith in
    let e = pow-suc 10 k in
    let u = sym (digits_value-cons v d ds q) ∙ h in
    let i = digits_up_to_of_value ds (v * 10 + (d - byte_zero)) (suc k) n (omega arith) (omega arith) u in
    (rw (z, i.0, digits_up_to-cons k v (d - byte_zero) p (omega arith), m, append_assoc), rw z i.1)

-- a digit, and digits after it unless it is 0
digits_of_value : (b : ℕ) (ds : List ℕ) (n : ℕ) → length ds ≤ 4 → (0 < length ds → b ≡ byte_zero → ⊥)
    → digits_value 0 (b ∷ ds) ≡ some n → (b ∷ ds ≡ digits n) × (n < 100000)
digits_of_value b [] n l z h =
    let q = value-digit 0 b [] n h in
    let r = digit_within b q in
    let e : 0 * 10 + (b - byte_zero) ≡ n = cc (
      digits_value-cons 0 b [] q,
      digits_value-nil
          (0 * 10 + (b - byte_zero)),
    ) in
    let m : byte_zero + n ≡ b = omega arith in
    let u : n < 10 = omega arith in
    (sym (digits-digits_up_to 4 1 n u (lit< tt) refl ∙ digits_up_to_lt 0 n u ∙ ap (λ (x : ℕ). x ∷ []) m), omega arith)
digits_of_value b (d ∷ ds) n l z h =
    let ne = z (omega arith) in
    let q = value-digit 0 b (d ∷ ds) n h in
    let r = digit_within b q in
    let v : ℕ = 0 * 10 + (b - byte_zero) in
    let u = sym (digits_value-cons 0 b (d ∷ ds) q) ∙ h in
    let m : byte_zero + v ≡ b = omega arith in
    let k : ℕ = 1 + suc (length ds) in
    let w = digits_up_to_of_value (d ∷ ds) v 1 n (omega arith) (omega arith) u in
    let most : k ≤ digit_limit = omega arith in
    let p : 10 ^ k ≤ 10 ^ digit_limit = pow-le-pow_right (lit< tt) most in
    let c = digits-digits_up_to (3 - length ds) k n w.1 (omega arith) (omega arith) in
    let one = digits_up_to_lt 0 v (omega arith) ∙ ap (λ (x : ℕ). x ∷ []) m in
    (sym (c ∙ w.0 ∙ ap (λ (x : List ℕ). x ++ (d ∷ ds)) one), lt_of_lt_of_le w.1 p)

pub digits_of_number_of : (f : List ℕ) (n : ℕ) → number_of f ≡ some n → (f ≡ digits n) × (n < 100000)
unfolding number_of number_shape?
digits_of_number_of [] n h = let z : ◌≡◌ {A = ℕ} 0 1 = cc in absurd (omega arith)
digits_of_number_of (b ∷ []) n h = digits_of_value b [] n (omega arith) (λ z. absurd (omega arith)) h
digits_of_number_of (b ∷ c ∷ bs) n h = by_test (leb (length (b ∷ c ∷ bs)) digit_limit) refl (eqb b byte_zero) refl h
  where
    by_test : (s : Bool) → leb (length (b ∷ c ∷ bs)) digit_limit ≡ s → (t : Bool) → eqb b byte_zero ≡ t
        → cond (s && not t) (digits_value 0 (b ∷ c ∷ bs)) none ≡ some n → (b ∷ c ∷ bs ≡ digits n) × (n < 100000)
    by_test false d t e q = let z : ◌≡◌ {A = ℕ} 0 1 = cc in absurd (omega arith)
    by_test true d true e q = let z : ◌≡◌ {A = ℕ} 0 1 = cc in absurd (omega arith)
    by_test true d false e q =
        let l = leb-true (length (b ∷ c ∷ bs)) digit_limit d in
        digits_of_value b (c ∷ bs) n (omega arith) (λ z. eqb-false b byte_zero e) q
