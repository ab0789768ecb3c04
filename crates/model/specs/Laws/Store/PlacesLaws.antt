-- Parts of a list by their places: place by place, where two are the same, and where zeros stand behind them.
-- Assumes nothing.
use Rattle.std.proofs.Common.{Bool, List, [], ◌∷◌, ◌++◌, ◌≡◌, ℕ, zero, suc, ◌+◌, ◌-◌, ◌≤◌, ◌<◌, T, length, get_or, take}
use Rattle.std.proofs.Common.{drop, replicate, sym, ap, ◌∙◌, arith, add-one, length-drop, length-take-le, drop-cons}
use Rattle.std.proofs.Common.{drop-drop, take-add, get_or-take, get_or-drop, get_or-append-add, ext_get_or}
use Rattle.std.proofs.lemmas.List.{length-replicate, get_or-replicate}
use Rattle.std.proofs.Math.ListN.{get_or-append}
use Rattle.lts.proofs.TestsLaws.{and_left, and_right, and_intro}
use Rattle.text.specs.Lines.{all_of}
use Rattle.model.specs.Store.{padded}
use Rattle.model.specs.Inner.EachFrom.{EachFrom}
use Rattle.model.specs.Inner.GoodPlaces.{ZeroAt, SameAt}
use Rattle.model.specs.Laws.Store.BlocksLaws.{padded-append}

-- ---- the n places from p on

-- the place after p is q
pub part-cons : (s : List ℕ) (p q n : ℕ) → p < length s → q ≡ p + 1
    → take (suc n) (drop p s) ≡ get_or s p 0 ∷ take n (drop q s)
part-cons s p q n h e = rw (e, add-one p, drop-cons s p 0 h)

module _ (s : List ℕ) (p n : ℕ) (fits : p + n ≤ length s) where
  pub part_length : length (take n (drop p s)) ≡ n
  part_length = let d = length-drop p s in length-take-le n (drop p s) (omega arith)

  -- zeros, as a list and by their places
  pub zeros_replicate : EachFrom (ZeroAt s) p (p + n) → take n (drop p s) ≡ replicate n 0
  zeros_replicate z =
      ext_get_or 0 (take n (drop p s)) (replicate n 0) (part_length ∙ sym (length-replicate n 0)) at
    where
      at : (i : ℕ) → i < length (take n (drop p s)) → get_or (take n (drop p s)) i 0 ≡ get_or (replicate n 0) i 0
      at i h =
          let l : i < n = omega (arith, part_length) in
          let e : get_or s (p + i) 0 ≡ 0 = z.at (p + i) (omega arith) (omega arith) in
          rw (get_or-take n (drop p s) i 0 l, get_or-drop, e, get_or-replicate {A = ℕ} n i 0 0 l)

  -- two parts with the same numbers are the same
  pub part_same : (q : ℕ) → q + n ≤ length s → ((i : ℕ) → i < n → SameAt s p q i)
      → take n (drop p s) ≡ take n (drop q s)
  part_same q g same =
      ext_get_or 0 (take n (drop p s)) (take n (drop q s)) (part_length ∙ sym other_length) at
    where
      other_length : length (take n (drop q s)) ≡ n
      other_length = let d = length-drop q s in length-take-le n (drop q s) (omega arith)

      at : (i : ℕ) → i < length (take n (drop p s)) → get_or (take n (drop p s)) i 0 ≡ get_or (take n (drop q s)) i 0
      at i h =
          let l : i < n = omega (arith, part_length) in
          rw (get_or-take n (drop p s) i 0 l, get_or-take n (drop q s) i 0 l, get_or-drop, get_or-drop) (same i l)

-- ---- zeros behind a part

-- the k places from p on with zeros behind them are the n places from p on, if zeros stand there
pub padded_part : (s : List ℕ) (p k n : ℕ) → k ≤ n → p + n ≤ length s → EachFrom (ZeroAt s) (p + k) (p + n)
    → padded n (take k (drop p s)) ≡ take n (drop p s)
unfolding padded
padded_part s p k n h l z =
    let m : n ≡ k + (n - k) = omega arith in
    let w : EachFrom (ZeroAt s) (p + k) (p + k + (n - k)) = record { at = λ i f g. z.at i f (omega arith) } in
    let t : take n (drop p s) ≡ take k (drop p s) ++ take (n - k) (drop (p + k) s) =
    ap (λ (x : ℕ). take x (drop p s)) m ∙ take-add k (n - k) (drop p s) ∙ rw drop-drop in
    rw (part_length s p k (omega arith), t, zeros_replicate s (p + k) (n - k) (omega arith) w)

-- behind a list, up to n places, stand zeros
pub padded-zero : (before l rest : List ℕ) (n i : ℕ) → length l ≤ i → i < n
    → get_or (before ++ (padded n l ++ rest)) (length before + i) 0 ≡ 0
padded-zero before l rest n i h g =
    let e : i ≡ length l + (i - length l) = omega arith in
    let zeros : List ℕ = replicate (n - length l) 0 in
    let r = length-replicate {A = ℕ} (n - length l) 0 in
    let k : i - length l < n - length l = omega arith in
    get_or-append-add before (padded n l ++ rest) i 0
    ∙ ap (λ (x : List ℕ). get_or x i 0) (padded-append n l rest)
    ∙ ap (λ (x : ℕ). get_or (l ++ (zeros ++ rest)) x 0) e
    ∙ get_or-append-add l (zeros ++ rest) (i - length l) 0
    ∙ get_or-append zeros rest 0 (i - length l) (omega arith)
    ∙ get_or-replicate {A = ℕ} (n - length l) (i - length l) 0 0 k

-- ---- tests of each element

pub get_or→all_of : (test : ℕ → Bool) (l : List ℕ) → ((i : ℕ) → i < length l → T (test (get_or l i 0))) → T
    (all_of test l)
unfolding all_of
get_or→all_of test [] h = tt
get_or→all_of test (b ∷ bs) h =
    and_intro (test b) (all_of test bs) (h 0 (omega arith)) (get_or→all_of test bs (λ i l. h (suc i) (omega arith)))

pub all_of→get_or : (test : ℕ → Bool) (l : List ℕ) → T (all_of test l) → (i : ℕ) → i < length l → T
    (test (get_or l i 0))
unfolding all_of
all_of→get_or test [] t i h = absurd (omega arith)
all_of→get_or test (b ∷ bs) t zero h = and_left (test b) (all_of test bs) t
all_of→get_or test (b ∷ bs) t (suc i) h = all_of→get_or test bs (and_right (test b) (all_of test bs) t) i (omega arith)
