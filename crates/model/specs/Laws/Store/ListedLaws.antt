-- Lists given by their elements: what holds of each element, whether some element passes a test, and the blocks of
-- numbers that they are stored as.
-- Assumes nothing.
use Rattle.std.proofs.Common.{Bool, true, false, ◌||◌, ◌≡◌, drop, List, [], ◌∷◌, ◌++◌, sym, ◌∙◌, mul-zero, ℕ, zero, suc}
use Rattle.std.proofs.Common.{◌+◌, ◌*◌, ◌<◌, arith}
use Rattle.std.proofs.Math.Logic.{⊎_elim}
use Rattle.std.proofs.Math.Path.{refl, ap, subst}
use Rattle.std.proofs.Math.Nat.{mul-suc}
use Rattle.std.proofs.Math.Dec.{T, eqb, eqb→eq}
use Rattle.std.proofs.Math.ListN.{take}
use Rattle.std.proofs.Math.Seq.{take-add, drop-drop}
use Rattle.lts.proofs.TestsLaws.{T-eqb, lt-suc_cases, or_left, or_right, or_cases}
use Rattle.text.specs.Split.{same?}
use Rattle.text.specs.Laws.SameLaws.{same?→eq, eq→same?}
use Rattle.text.specs.Model.{high, ActionLine, some_high?}
use Rattle.text.specs.Lines.{used?}
use Rattle.model.specs.WellFormed.{EachAfter}
use Rattle.model.specs.Laws.Store.BlocksLaws.{blocks-snoc}
use Rattle.model.specs.Laws.Store.EachLaws.{each_nil, each_snoc, snoc_each}
use Rattle.model.specs.StoredModel.{listed}

-- ---- each element and those before it

module _ {A : Type 0} (P : List A → A → Type 0) (f : ℕ → A) where
  pub listed_each : (n : ℕ) → ((i : ℕ) → i < n → P (listed i f) (f i)) → EachAfter P [] (listed n f)
  unfolding listed
  listed_each zero h = each_nil P []
  listed_each (suc n) h =
      each_snoc P [] (listed n f) (f n) (listed_each n (λ i l. h i (omega arith))) (h n (omega arith))

  pub each_listed : (n : ℕ) → EachAfter P [] (listed n f) → (i : ℕ) → i < n → P (listed i f) (f i)
  unfolding listed
  each_listed zero e i h = absurd (omega arith)
  each_listed (suc n) e i h =
      let u = snoc_each P [] (listed n f) (f n) e in
      ⊎_elim
      (λ z. subst (λ (k : ℕ). P (listed k f) (f k)) (sym z) u.1)
      (λ l. each_listed n u.0 i l)
      (lt-suc_cases h)

-- ---- some element passes a test

or_false : (b : Bool) → b || false ≡ b
or_false true = refl
or_false false = refl

or_assoc : (a b c : Bool) → a || (b || c) ≡ a || b || c
or_assoc true b c = refl
or_assoc false b c = refl

module _ {A : Type 0} (test : A → Bool) (some? : List A → Bool) (nil : some? [] ≡ false)
    (cons : (x : A) (xs : List A) → some? (x ∷ xs) ≡ test x || some? xs) where
  some_snoc : (xs : List A) (x : A) → some? (xs ++ (x ∷ [])) ≡ some? xs || test x
  some_snoc [] x = cons x [] ∙ rw nil (or_false (test x))
  some_snoc (y ∷ ys) x =
      cons y (ys ++ (x ∷ [])) ∙ rw (some_snoc ys x, cons y ys) (or_assoc (test y) (some? ys) (test x))

  module _ (f : ℕ → A) where
    some_listed : (n : ℕ) → T (some? (listed n f)) → (i : ℕ) × (i < n) × T (test (f i))
    unfolding listed
    some_listed zero t = absurd (rw nil at t)
    some_listed (suc n) t =
        ⊎_elim
        (λ v. let i = some_listed n v in (i.0, omega arith, i.2))
        (λ v. (n, omega arith, v))
        (or_cases (some? (listed n f)) (test (f n)) (rw (some_snoc (listed n f) (f n)) at t))

    listed_some : (n i : ℕ) → i < n → T (test (f i)) → T (some? (listed n f))
    unfolding listed
    listed_some zero i h t = absurd (omega arith)
    listed_some (suc n) i h t =
        rw (some_snoc (listed n f) (f n))
        (⊎_elim
        (λ z. or_right (some? (listed n f)) (test (f n)) (subst (λ (k : ℕ). T (test (f k))) z t))
        (λ l. or_left (some? (listed n f)) (test (f n)) (listed_some n i l t))
        (lt-suc_cases h))

-- a name that is used is that of one of the elements
module _ (name : List ℕ) (f : ℕ → ActionLine) where
  pub used?_listed : (n : ℕ) → T (used? name (listed n f)) → (i : ℕ) × (i < n) × ((f i).name ≡ name)
  unfolding used?
  used?_listed n t =
      let w = some_listed (λ a. same? a.name name) (used? name) refl (λ x xs. refl) f n t in
      (w.0, w.1, same?→eq (f w.0).name name w.2)

  pub listed_used? : (n i : ℕ) → i < n → (f i).name ≡ name → T (used? name (listed n f))
  unfolding used?
  listed_used? n i l e =
      listed_some (λ a. same? a.name name) (used? name) refl (λ x xs. refl) f n i l (eq→same? (f i).name name e)

-- where some action is high one of the elements is
module _ (f : ℕ → ActionLine) where
  pub some_high?_listed : (n : ℕ) → T (some_high? (listed n f)) → (i : ℕ) × (i < n) × ((f i).level ≡ high)
  unfolding some_high?
  some_high?_listed n t =
      let w = some_listed (λ a. eqb a.level high) some_high? refl (λ x xs. refl) f n t in
      (w.0, w.1, eqb→eq (f w.0).level high w.2)

  pub listed_some_high? : (n i : ℕ) → i < n → (f i).level ≡ high → T (some_high? (listed n f))
  unfolding some_high?
  listed_some_high? n i l e =
      listed_some (λ a. eqb a.level high) some_high? refl (λ x xs. refl) f n i l (T-eqb e)

-- ---- blocks of numbers

module _ {A : Type 0} (block : A → List ℕ) (blocks : List A → List ℕ) (width : ℕ) (nil : blocks [] ≡ [])
    (cons : (x : A) (xs : List A) → blocks (x ∷ xs) ≡ block x ++ blocks xs) where
  -- elements that stand block after block from place p of a list on
  pub blocks_listed : (s : List ℕ) (p : ℕ) (f : ℕ → A) (n : ℕ)
      → ((i : ℕ) → i < n → block (f i) ≡ take width (drop (p + width * i) s))
      → blocks (listed n f) ≡ take (width * n) (drop p s)
  unfolding listed
  blocks_listed s p f zero h = rw (mul-zero width) nil
  blocks_listed s p f (suc n) h =
      let m = mul-suc width n in
      let k : width * suc n ≡ width * n + width = omega arith in
      let t : take (width * suc n) (drop p s) ≡ take (width * n) (drop p s) ++ take width (drop (p + width * n) s) =
      ap (λ (x : ℕ). take x (drop p s)) k ∙ take-add (width * n) width (drop p s) ∙ rw drop-drop in
      let snoc = blocks-snoc block blocks nil cons (listed n f) (f n) in
      rw (snoc, blocks_listed s p f n (λ i l. h i (omega arith)), h n (omega arith), t)
