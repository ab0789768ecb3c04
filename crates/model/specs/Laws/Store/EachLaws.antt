-- Laws of `EachAfter`: what holds of each element and of the list of those before it.
-- Assumes nothing.
use Rattle.std.proofs.Common.{List, [], ◌∷◌, ◌++◌, append_assoc, append-nil, ℕ, zero, suc, ◌<◌, arith, length, get_or}
use Rattle.std.proofs.Common.{take}
use Rattle.text.specs.All.{All}
use Rattle.model.specs.WellFormed.{EachAfter}

-- `each-X` makes it of the parts of X, `X-each` takes it apart.
module _ {A : Type 0} (P : List A → A → Type 0) where
  pub each_nil : (before : List A) → EachAfter P before []
  unfolding EachAfter
  each_nil before = tt

  pub each_cons : (before : List A) (x : A) (xs : List A) → P before x → EachAfter P (before ++ (x ∷ [])) xs
      → EachAfter P before (x ∷ xs)
  unfolding EachAfter
  each_cons before x xs p e = (p, e)

  pub cons_each : (before : List A) (x : A) (xs : List A) → EachAfter P before (x ∷ xs)
      → P before x × EachAfter P (before ++ (x ∷ [])) xs
  unfolding EachAfter
  cons_each before x xs e = e

  -- ---- one list after another

  pub each_append : (before xs ys : List A) → EachAfter P before xs → EachAfter P (before ++ xs) ys
      → EachAfter P before (xs ++ ys)
  unfolding EachAfter
  each_append before [] ys e f = rw append-nil at f
  each_append before (x ∷ xs) ys e f =
      (e.0, each_append (before ++ (x ∷ [])) xs ys e.1 (rw (append_assoc before (x ∷ []) xs) f))

  pub append_each : (before xs ys : List A) → EachAfter P before (xs ++ ys)
      → EachAfter P before xs × EachAfter P (before ++ xs) ys
  unfolding EachAfter
  append_each before [] ys e = (tt, rw append-nil e)
  append_each before (x ∷ xs) ys e =
      let i = append_each (before ++ (x ∷ [])) xs ys e.1 in
      ((e.0, i.0), rw (append_assoc before (x ∷ []) xs) at i.1)

  pub each_snoc : (before xs : List A) (x : A) → EachAfter P before xs → P (before ++ xs) x
      → EachAfter P before (xs ++ (x ∷ []))
  unfolding EachAfter
  each_snoc before xs x e p = each_append before xs (x ∷ []) e (p, tt)

  pub snoc_each : (before xs : List A) (x : A) → EachAfter P before (xs ++ (x ∷ []))
      → EachAfter P before xs × P (before ++ xs) x
  unfolding EachAfter
  snoc_each before xs x e = let f = append_each before xs (x ∷ []) e in (f.0, f.1.0)

  -- ---- element by element

  pub each_get_or : (before xs : List A) (i : ℕ) (d : A) → EachAfter P before xs → i < length xs
      → P (before ++ take i xs) (get_or xs i d)
  unfolding EachAfter
  each_get_or before [] i d e h = absurd (omega arith)
  each_get_or before (x ∷ xs) zero d e h = rw append-nil e.0
  each_get_or before (x ∷ xs) (suc i) d e h =
      rw (append_assoc before (x ∷ []) (take i xs)) at (each_get_or (before ++ (x ∷ [])) xs i d e.1 (omega arith))

  pub get_or_each : (before xs : List A) (d : A) → ((i : ℕ) → i < length xs → P (before ++ take i xs) (get_or xs i d))
      → EachAfter P before xs
  unfolding EachAfter
  get_or_each before [] d h = tt
  get_or_each before (x ∷ xs) d h = (
    rw append-nil at (h 0 (omega arith)),
    get_or_each (before ++ (x ∷ [])) xs d (λ i l. rw append_assoc (h (suc i) (omega arith))),
  )

  -- what follows from P of an element alone holds of each
  pub all_of_each : (Q : A → Type 0) → ((before : List A) (x : A) → P before x → Q x) → (before xs : List A)
      → EachAfter P before xs → All Q xs
  unfolding EachAfter
  all_of_each Q f before [] e = tt
  all_of_each Q f before (x ∷ xs) e = (f before x e.0, all_of_each Q f (before ++ (x ∷ [])) xs e.1)

  pub each_of_each : (Q : List A → A → Type 0) → ((before : List A) (x : A) → P before x → Q before x)
      → (before xs : List A) → EachAfter P before xs → EachAfter Q before xs
  unfolding EachAfter
  each_of_each Q f before [] e = tt
  each_of_each Q f before (x ∷ xs) e = (f before x e.0, each_of_each Q f (before ++ (x ∷ [])) xs e.1)

  -- ---- an element taken out

  -- what follows y still has P without y before it, if P of an element bears that y is not among those before it
  pub each_without : (before : List A) (y : A)
      → ((ws : List A) (z : A) → P (before ++ (y ∷ ws)) z → P (before ++ ws) z)
      → (ws ys : List A) → EachAfter P (before ++ (y ∷ ws)) ys → EachAfter P (before ++ ws) ys
  unfolding EachAfter
  each_without before y f ws [] e = tt
  each_without before y f ws (z ∷ ys) e =
      let i = each_without before y f (ws ++ (z ∷ [])) ys (rw (append_assoc before (y ∷ ws) (z ∷ [])) at e.1) in
      (f ws z e.0, rw (append_assoc before ws (z ∷ [])) i)
