-- What the tests over the numbers below n say, with the laws on Bool and on the order that every crate needs.
-- Assumes nothing.
use Rattle.std.specs.Prelude.{◌≡◌, refl, ◌⊎◌, Bool, true, false, not, ◌&&◌, ◌||◌, ℕ, zero, suc, ◌≤◌, ◌<◌, T, eqb}
use Rattle.std.proofs.Common.{sym, subst, inl, inr, not-suc-le-zero, arith, T_not}
use Rattle.std.proofs.Math.Decide.{ℕ_discrete, dec_lt}
use Rattle.std.proofs.Math.Dec.{not_T, eqb_refl}
use Rattle.lts.specs.Tests.{Each, Some, all, any, bit, count, Least}

-- ---- Bool

pub T_cases : (b : Bool) → T b ⊎ T (not b)
T_cases true = inl tt
T_cases false = inr tt

pub not_not_T : (b : Bool) → T (not (not b)) → T b
not_not_T true t = tt
not_not_T false t = t

pub T-eqb : {i j : ℕ} → i ≡ j → T (eqb i j)
T-eqb {i} {j} e = subst (λ (k : ℕ). T (eqb i k)) e (eqb_refl i)

pub T→true : (b : Bool) → T b → b ≡ true
T→true true t = refl
T→true false t = absurd t

pub not-T→false : (b : Bool) → T (not b) → b ≡ false
not-T→false true t = absurd t
not-T→false false t = refl

-- Tests that pass together are one.
pub test_eq : (a b : Bool) → (T a → T b) → (T b → T a) → a ≡ b
test_eq true b f g = sym (T→true b (f tt))
test_eq false true f g = absurd (g tt)
test_eq false false f g = refl

pub and_intro : (a b : Bool) → T a → T b → T (a && b)
and_intro true b t u = u
and_intro false b t u = t

pub and_left : (a b : Bool) → T (a && b) → T a
and_left true b t = tt
and_left false b t = t

pub and_right : (a b : Bool) → T (a && b) → T b
and_right true b t = t
and_right false b t = absurd t

pub not-and_cases : (a b : Bool) → T (not (a && b)) → T (not a) ⊎ T (not b)
not-and_cases true b t = inr t
not-and_cases false b t = inl tt

pub or_left : (a b : Bool) → T a → T (a || b)
or_left true b t = tt
or_left false b t = absurd t

pub or_right : (a b : Bool) → T b → T (a || b)
or_right true b t = tt
or_right false b t = t

pub or_cases : (a b : Bool) → T (a || b) → T a ⊎ T b
or_cases true b t = inl tt
or_cases false b t = inr t

-- `not a || b` says that a implies b.
pub implies_elim : (a b : Bool) → T (not a || b) → T a → T b
implies_elim true b t u = t
implies_elim false b t u = absurd u

pub implies_intro : (a b : Bool) → (T a → T b) → T (not a || b)
implies_intro true b f = f tt
implies_intro false b f = tt

pub not_implies : (a b : Bool) → T (not (not a || b)) → T a × T (not b)
not_implies true b t = (tt, t)
not_implies false b t = absurd t

-- ---- the order

pub lt-suc_cases : {i n : ℕ} → i < suc n → (i ≡ n) ⊎ (i < n)
lt-suc_cases {i} {n} h = go (ℕ_discrete i n)
  where
    go : Dec (i ≡ n) → (i ≡ n) ⊎ (i < n)
    go (yes e) = inl e
    go (no c) = inr (omega arith)

pub eq_or_not : (a b : ℕ) → (a ≡ b) ⊎ ¬ (a ≡ b)
eq_or_not a b = go (ℕ_discrete a b)
  where
    go : Dec (a ≡ b) → (a ≡ b) ⊎ ¬ (a ≡ b)
    go (yes e) = inl e
    go (no d) = inr d

pub both_or_not : {P Q : Type 0} → P ⊎ ¬ P → Q ⊎ ¬ Q → (P × Q) ⊎ ¬ (P × Q)
both_or_not (inl p) (inl q) = inl (p, q)
both_or_not (inl p) (inr f) = inr (λ h. f h.1)
both_or_not (inr f) d = inr (λ h. f h.0)

pub lt_or_le : (i n : ℕ) → (i < n) ⊎ (n ≤ i)
lt_or_le i n = go (dec_lt i n)
  where
    go : Dec (i < n) → (i < n) ⊎ (n ≤ i)
    go (yes l) = inl l
    go (no c) = inr (omega arith)

pub eq_of_not_lt : (i j : ℕ) → ¬ (i < j) → ¬ (j < i) → i ≡ j
eq_of_not_lt i j f g = omega arith

pub le_of_not_lt : (i j : ℕ) → ¬ (j < i) → i ≤ j
le_of_not_lt i j f = omega arith

-- ---- all and any

pub all→Each : (n : ℕ) (f : ℕ → Bool) → T (all n f) → Each n f
unfolding all
all→Each zero f t i h = absurd (not-suc-le-zero h)
all→Each (suc n) f t i h = go (all→Each n f (and_left (all n f) (f n) t) i) (lt-suc_cases h)
  where
    go : (i < n → T (f i)) → (i ≡ n) ⊎ (i < n) → T (f i)
    go r (inl e) = rw e (and_right (all n f) (f n) t)
    go r (inr l) = r l

pub Each→all : (n : ℕ) (f : ℕ → Bool) → Each n f → T (all n f)
unfolding all
Each→all zero f h = tt
Each→all (suc n) f h = and_intro (all n f) (f n) (Each→all n f (λ i l. h i (omega arith))) (h n (omega arith))

pub not_all→Some : (n : ℕ) (f : ℕ → Bool) → T (not (all n f)) → Some n (λ i. not (f i))
unfolding all
not_all→Some zero f t = absurd t
not_all→Some (suc n) f t = go (not_all→Some n f) (not-and_cases (all n f) (f n) t)
  where
    go : (T (not (all n f)) → Some n (λ i. not (f i))) → T (not (all n f)) ⊎ T (not (f n))
        → Some (suc n) (λ i. not (f i))
    go r (inl u) = let s = r u in (s.0, omega arith, s.2)
    go r (inr u) = (n, omega arith, u)

pub any→Some : (n : ℕ) (f : ℕ → Bool) → T (any n f) → Some n f
unfolding any
any→Some zero f t = absurd t
any→Some (suc n) f t = go (any→Some n f) (or_cases (any n f) (f n) t)
  where
    go : (T (any n f) → Some n f) → T (any n f) ⊎ T (f n) → Some (suc n) f
    go r (inl u) = let s = r u in (s.0, omega arith, s.2)
    go r (inr u) = (n, omega arith, u)

pub Some→any : (n : ℕ) (f : ℕ → Bool) (i : ℕ) → i < n → T (f i) → T (any n f)
unfolding any
Some→any zero f i l t = absurd (not-suc-le-zero l)
Some→any (suc n) f i l t = go (Some→any n f i) (lt-suc_cases l)
  where
    go : (i < n → T (f i) → T (any n f)) → (i ≡ n) ⊎ (i < n) → T (any n f || f n)
    go r (inl e) = or_right (any n f) (f n) (rw e at t)
    go r (inr k) = or_left (any n f) (f n) (r k t)

pub not_any→Each : (n : ℕ) (f : ℕ → Bool) → T (not (any n f)) → Each n (λ i. not (f i))
not_any→Each n f t i l = not_T (f i) (λ u. T_not (any n f) t (Some→any n f i l u))

-- ---- counting

bit_le : (a b : Bool) → (T a → T b) → bit a ≤ bit b
bit_le true true h = omega arith
bit_le true false h = absurd (h tt)
bit_le false b h = omega arith

bit_lt : (a b : Bool) → T (not a) → T b → bit a < bit b
bit_lt true b h k = absurd h
bit_lt false true h k = omega arith
bit_lt false false h k = absurd k

pub count_le : (n : ℕ) (f : ℕ → Bool) → count n f ≤ n
unfolding count
count_le zero f = omega arith
count_le (suc n) f = omega (arith, count_le n f, bit_le (f n) true (λ _. tt))

-- What passes f passes g: no fewer pass g.
pub count_le-count : (n : ℕ) (f g : ℕ → Bool) → ((i : ℕ) → i < n → T (f i) → T (g i)) → count n f ≤ count n g
unfolding count
count_le-count zero f g h = omega arith
count_le-count (suc n) f g h =
    omega (arith, count_le-count n f g (λ i l. h i (omega arith)), bit_le (f n) (g n) (h n (omega arith)))

-- What passes f passes g, and x passes g alone: more pass g.
pub count_lt-count : (n : ℕ) (f g : ℕ → Bool) → ((i : ℕ) → i < n → T (f i) → T (g i)) → (x : ℕ) → x < n
    → T (not (f x)) → T (g x) → count n f < count n g
unfolding count
count_lt-count zero f g h x l u v = absurd (not-suc-le-zero l)
count_lt-count (suc n) f g h x l u v = go (count_lt-count n f g (λ i k. h i (omega arith)) x) (lt-suc_cases l)
  where
    go : (x < n → T (not (f x)) → T (g x) → count n f < count n g) → (x ≡ n) ⊎ (x < n)
        → count (suc n) f < count (suc n) g
    go r (inl e) = omega
        (arith, count_le-count n f g (λ i k. h i (omega arith)), bit_lt (f n) (g n) (rw e at u) (rw e at v))
    go r (inr k) = omega (arith, r k u v, bit_le (f n) (g n) (h n (omega arith)))

pub count_pos : (n : ℕ) (f : ℕ → Bool) (x : ℕ) → x < n → T (f x) → 0 < count n f
count_pos n f x l t = omega (arith, count_lt-count n (λ _. false) f (λ i _ u. absurd u) x l tt t)

-- ---- the least

-- Below n: the least number that passes f, or none passes.
pub least_cases : (f : ℕ → Bool) (n : ℕ) → ((m : ℕ) × (m < n) × Least f m) ⊎ Each n (λ i. not (f i))
least_cases f zero = inr (λ i h. absurd (not-suc-le-zero h))
least_cases f (suc n) = go (least_cases f n) (T_cases (f n))
  where
    go : ((m : ℕ) × (m < n) × Least f m) ⊎ Each n (λ i. not (f i)) → T (f n) ⊎ T (not (f n))
        → ((m : ℕ) × (m < suc n) × Least f m) ⊎ Each (suc n) (λ i. not (f i))
    go (inl s) d = inl (s.0, omega arith, s.2)
    go (inr z) (inl t) = inl (n, omega arith, record { passes = t; none_below = z })
    go (inr z) (inr t) = inr (λ i h. last i (lt-suc_cases h))
      where
        last : (i : ℕ) → (i ≡ n) ⊎ (i < n) → T (not (f i))
        last i (inl e) = rw e t
        last i (inr l) = z i l

-- Where x passes f, the least number that does is at most x.
pub least_of_passes : (f : ℕ → Bool) (x : ℕ) → T (f x) → (m : ℕ) × (m ≤ x) × Least f m
least_of_passes f x t = go (least_cases f (suc x))
  where
    go : ((m : ℕ) × (m < suc x) × Least f m) ⊎ Each (suc x) (λ i. not (f i)) → (m : ℕ) × (m ≤ x) × Least f m
    go (inl s) = (s.0, omega arith, s.2)
    go (inr z) = absurd (T_not (f x) (z x (omega arith)) t)
