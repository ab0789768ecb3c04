-- What `all`, `any` and `find` answer over the numbers below n, and `all` and `==` over parts of a list.
-- Assumes nothing.
use Rattle.std.proofs.Common.{◌≡◌, ℕ, ◌-◌, ◌+◌, ◌≤◌, ◌<◌, Bool, true, false, List, length, get_or, take, drop, arith}
use Rattle.std.proofs.Common.{subst, sym, ◌∙◌, ap, refl, eqb, MatchBool, MatchOption, Option, Some, None, Bor}
use Rattle.std.proofs.iter.Yields.{fronts, nat_range_steps}
use Rattle.std.proofs.lemmas.Iterator.{first_from_Range}
use Rattle.std.proofs.lemmas.Iterator.{cases_from_all, cases_from_any, YieldsList-from_range, YieldsList-from_slice}
use Rattle.std.proofs.lemmas.List.{get_or-take, get_or-drop, ext_get_or}
use Rattle.std.proofs.lemmas.Slice.Eq.{slice_eq-Decides}
use Rattle.std.proofs.lemmas.Bool.Decides.{Decides-eqb}
use Rattle.std.specs.Cmp.Lexicographic.{pointwise}
use Rattle.model.specs.Inner.GoodPlaces.{SameAt}
use Rattle.std.proofs.lemmas.List.FromFn.{length-range_with_len, get_or-range_with_len}
use Rattle.std.proofs.Math.ListN.{length-take, length-drop}
use Rattle.std.specs.Fn.{Called, CalledAt}
use Rattle.std.specs.Iterator.{ChecksAll, ChecksAny, FindsItem}
use Rattle.std.specs.List.{AllWithin, HoldsAt, range_with_len}
use Rattle.std.specs.Slice.Iter.{iter_rest}
use Rattle.std.specs.declared.ops.Range.{Range}
use denote.Param.Members.{Mut}
use Rattle.text.specs.Decides.{Decides}
use Rattle.text.specs.First.{First}
use Rattle.text.specs.Laws.FirstLaws.{first_found}
use Rattle.model.specs.Inner.EachFrom.{EachFrom}

-- what `all` answers of a list whose test decides P
abbrev AllAnswer : (ℕ → Type 0) → List ℕ → Bool → Type 0
AllAnswer P xs r =
    MatchBool r (AllWithin P xs 0 (length xs)) ((k : ℕ) × (k < length xs) × HoldsAt (λ x. ¬ (P x)) xs k)

each_range : (P : ℕ → Type 0) (n : ℕ) (r : Bool) → AllAnswer P (range_with_len 0 n) r → Decides r (EachFrom P 0 n)
each_range P n true h = record {
  at = λ k f l.
      let fits = length-range_with_len 0 n in
      let e : get_or (range_with_len 0 n) k 0 ≡ k = get_or-range_with_len 0 n k 0 l ∙ omega arith in
      subst P e (h k 0 (omega arith) (omega arith));
}
each_range P n false h = λ b.
    let fits = length-range_with_len 0 n in
    let l : h.0 < n = omega (arith, h.1) in
    let e : get_or (range_with_len 0 n) h.0 0 ≡ h.0 = get_or-range_with_len 0 n h.0 0 l ∙ omega arith in
    h.2 0 (subst P (sym e) (b.at h.0 (omega arith) l))

part_at : (from n k : ℕ) (s : List ℕ) → k < n → get_or (take n (drop from s)) k 0 ≡ get_or s (from + k) 0
part_at from n k s h = get_or-take n (drop from s) k 0 h ∙ get_or-drop from s k 0

part-length : (from to : ℕ) (s : List ℕ) → to ≤ length s → length (take (to - from) (drop from s)) ≡ to - from
part-length from to s h = simp (length-take, length-drop) (omega arith)

each_part : (P : ℕ → Type 0) (s : List ℕ) (from to : ℕ) (r : Bool) → to ≤ length s
    → AllAnswer P (take (to - from) (drop from s)) r → Decides r (EachFrom (λ k. P (get_or s k 0)) from to)
each_part P s from to true fits h = record {
  at = λ k f l.
      let n = part-length from to s fits in
      let e : get_or (take (to - from) (drop from s)) (k - from) 0 ≡ get_or s k 0 =
      part_at from (to - from) (k - from) s (omega arith) ∙ ap (λ i. get_or s i 0) (omega arith) in
      subst P e (h (k - from) 0 (omega arith) (omega arith));
}
each_part P s from to false fits h = λ b.
    let n = part-length from to s fits in
    let l : h.0 < to - from = omega (arith, h.1) in
    h.2 0 (subst P (sym (part_at from (to - from) h.0 s l)) (b.at (from + h.0) (omega arith) (omega arith)))

pub all_below : {F : Type 0} {g : Mut F (ℕ × Unit {0}) Bool} {u : Range ℕ} (P : ℕ → Type 0) (n : ℕ) (f : F) (r : Bool)
    → ChecksAll nat_range_steps g (record { start = 0; end = n }) f r u
    → ((x : ℕ) (q : F) → Called g f (x, tt) true q → (q ≡ f) × P x)
    → ((x : ℕ) (q : F) → Called g f (x, tt) false q → ¬ (P x))
    → Decides r (EachFrom P 0 n)
all_below P n f r ran passes fails =
    each_range P n r
    (cases_from_all _ f r P (λ x. ¬ (P x)) ran (YieldsList-from_range 0 n n refl (omega arith)) passes fails)

-- what `any` answers over the numbers below n, where Yes and No are what its test says
pub any_cases : {F : Type 0} {g : Mut F (ℕ × Unit {0}) Bool} {u : Range ℕ} (Yes No : ℕ → Type 0) (n : ℕ) (f : F)
    (r : Bool)
    → ChecksAny nat_range_steps g (record { start = 0; end = n }) f r u
    → ((x : ℕ) (q : F) → Called g f (x, tt) true q → Yes x)
    → ((x : ℕ) (q : F) → Called g f (x, tt) false q → (q ≡ f) × No x)
    → MatchBool r ((k : ℕ) × (k < n) × Yes k) ((k : ℕ) → k < n → No k)
any_cases Yes No n f r ran passes fails =
    go r (cases_from_any _ f r Yes No ran (YieldsList-from_range 0 n n refl (omega arith)) passes fails)
  where
    at : (k : ℕ) → k < n → get_or (range_with_len 0 n) k 0 ≡ k
    at k l = get_or-range_with_len 0 n k 0 l ∙ omega arith

    go : (b : Bool)
        → MatchBool b ((k : ℕ) × (k < length (range_with_len 0 n)) × HoldsAt Yes (range_with_len 0 n) k)
        (AllWithin No (range_with_len 0 n) 0 (length (range_with_len 0 n)))
        → MatchBool b ((k : ℕ) × (k < n) × Yes k) ((k : ℕ) → k < n → No k)
    go true h =
        let fits = length-range_with_len 0 n in
        let l : h.0 < n = omega (arith, h.1) in
        (h.0, l, subst Yes (at h.0 l) (h.2 0))
    go false h = λ k l.
        let fits = length-range_with_len 0 n in
        subst No (at k l) (h k 0 (omega arith) (omega arith))

-- the same where the test decides P
pub any_below : {F : Type 0} {g : Mut F (ℕ × Unit {0}) Bool} {u : Range ℕ} (P : ℕ → Type 0) (n : ℕ) (f : F) (r : Bool)
    → ChecksAny nat_range_steps g (record { start = 0; end = n }) f r u
    → ((x : ℕ) (q : F) → Called g f (x, tt) true q → P x)
    → ((x : ℕ) (q : F) → Called g f (x, tt) false q → (q ≡ f) × ¬ (P x))
    → Decides r ((k : ℕ) × (k < n) × P k)
any_below P n f r ran passes fails = go r (any_cases P (λ x. ¬ (P x)) n f r ran passes fails)
  where
    go : (b : Bool) → MatchBool b ((k : ℕ) × (k < n) × P k) ((k : ℕ) → k < n → ¬ (P k))
        → Decides b ((k : ℕ) × (k < n) × P k)
    go true h = h
    go false h = λ w. h w.0 w.1 w.2

pub all_of_part : {F : Type 0} {g : Mut F (Bor ℕ × Unit {0}) Bool} {i u : _} (P : ℕ → Type 0) (s : List ℕ)
    (from to : ℕ) (f : F) (r : Bool)
    → to ≤ length s → iter_rest i ≡ take (to - from) (drop from s)
    → ChecksAll fronts g i f r u
    → ((x : Bor ℕ) (q : F) → Called g f (x, tt) true q → (q ≡ f) × P x.now)
    → ((x : Bor ℕ) (q : F) → Called g f (x, tt) false q → ¬ (P x.now))
    → Decides r (EachFrom (λ k. P (get_or s k 0)) from to)
all_of_part P s from to f r fits is ran passes fails =
    each_part P s from to r fits (cases_from_all _ f r P (λ x. ¬ (P x)) ran (YieldsList-from_slice _ is) passes fails)

-- ---- two parts of a list

decides_of : {P Q : Type 0} (r : Bool) → (r ≡ true → P) → (P → r ≡ true) → (P → Q) → (Q → P) → Decides r Q
decides_of true f g to from = to (f refl)
decides_of false f g to from = λ q. let e : ◌≡◌ {A = Bool} false true = g (from q) in cc

-- what `==` answers of two parts of a list
pub same_parts : (s : List ℕ) (p q n : ℕ) (r : Bool) → p + n ≤ length s → q + n ≤ length s
    → r ≡ pointwise eqb (take (p + n - p) (drop p s)) (take (q + n - q) (drop q s))
    → Decides r (EachFrom (SameAt s p q) 0 n)
same_parts s p q n r g h e =
    let xs = take (p + n - p) (drop p s) in
    let ys = take (q + n - q) (drop q s) in
    let l : length xs ≡ p + n - p = part-length p (p + n) s g in
    let m : length ys ≡ q + n - q = part-length q (q + n) s h in
    let d = slice_eq-Decides Decides-eqb xs ys r e in
    decides_of r d.0 d.1
    (λ t. record {
      at = λ k f i.
          sym (part_at p (p + n - p) k s (omega arith)) ∙ ap (λ zs. get_or zs k 0) t
          ∙ part_at q (q + n - q) k s (omega arith);
    })
    (λ b. ext_get_or 0 xs ys (omega arith)
    (λ k i. part_at p (p + n - p) k s (omega arith) ∙ b.at k (omega arith) (omega arith)
    ∙ sym (part_at q (q + n - q) k s (omega arith))))

-- ---- the first number that a test finds

-- what `find` answers over the numbers below n, where its test decides P
pub first_below : {F : Type 0} {g : Mut F (Bor ℕ × Unit {0}) Bool} (P : ℕ → Type 0) (n : ℕ) (u : Range ℕ) (f : F)
    (r : Option ℕ)
    → FindsItem nat_range_steps g (record { start = 0; end = n }) f r u
    → ((x : ℕ) (q : F) → CalledAt g f x true q → P x)
    → ((x : ℕ) (q : F) → CalledAt g f x false q → (q ≡ f) × ¬ (P x))
    → MatchOption r ((k : ℕ) → k < n → ¬ (P k)) (λ i. (i < n) × First P i)
first_below P n u f r ran passes fails =
    go r (first_from_Range _ u f r P (λ x. ¬ (P x)) ran passes fails)
  where
    go : (o : Option ℕ)
        → MatchOption o ((k : ℕ) → 0 ≤ k → k < n → ¬ (P k))
        (λ i. (0 ≤ i) × (i < n) × P i × ((k : ℕ) → 0 ≤ k → k < i → ¬ (P k)))
        → MatchOption o ((k : ℕ) → k < n → ¬ (P k)) (λ i. (i < n) × First P i)
    go None h = λ k l. h k (omega arith) l
    go (Some i) h = (h.1, first_found (λ k l. h.3 k (omega arith) l) h.2)
