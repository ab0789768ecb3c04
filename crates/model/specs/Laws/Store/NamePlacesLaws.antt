-- Two actions have one name exactly if its length and its twelve places are the same.
-- Document 01, "The model store". Assumes nothing.
use Rattle.std.proofs.Common.{List, ◌≡◌, ℕ, zero, suc, ◌+◌, ◌≤◌, ◌<◌, length, get_or, drop, ⊎_elim, sym, ap, ◌∙◌, arith}
use Rattle.std.proofs.Common.{get_or-take, get_or-drop}
use Rattle.lts.proofs.TestsLaws.{lt_or_le}
use Rattle.text.specs.Limits.{action_limit, name_limit, store_length, name_length_place, name_place}
use Rattle.model.specs.StoredModel.{action_at}
use Rattle.model.specs.Inner.GoodPlaces.{SameAt, SameName, name_length_at, GoodAction}
use Rattle.model.specs.Laws.Store.PlacesLaws.{part_length, part_same}

module _ (s : List ℕ) (fits : store_length ≤ length s) where
  -- the same places by other sums
  get_or_same : {u v : ℕ} (x y : ℕ) → get_or s u 0 ≡ get_or s v 0 → x ≡ u → y ≡ v → get_or s x 0 ≡ get_or s y 0
  get_or_same x y e f g = rw (f, g) e

  pub name_at : (i k : ℕ) → k < name_length_at s i → get_or (action_at s i).name k 0 ≡ get_or s (name_place i + k) 0
  name_at i k h = rw (get_or-take (name_length_at s i) (drop (name_place i) s) k 0 h, get_or-drop)

  pub SameName→eq : (h i : ℕ) → h < action_limit → i < action_limit → name_length_at s i ≤ name_limit → SameName s h i
      → (action_at s h).name ≡ (action_at s i).name
  SameName→eq h i k l f same =
      let n : name_length_at s h ≡ name_length_at s i =
      get_or_same (name_length_place h) (name_length_place i) (same.at 0 (omega arith) (omega arith)) (omega arith)
      (omega arith) in
      rw n
      (part_same s (name_place h) (name_length_at s i) (omega arith) (name_place i) (omega arith)
      (λ j m.
      get_or_same (name_place h + j) (name_place i + j) (same.at (1 + j) (omega arith) (omega arith)) (omega arith)
      (omega arith)))

  pub eq→SameName : (h i : ℕ) → h < action_limit → i < action_limit → GoodAction s h → GoodAction s i
      → (action_at s h).name ≡ (action_at s i).name → SameName s h i
  eq→SameName h i k l a b e = record { at = λ j m o. at j o }
    where
      n : name_length_at s h ≡ name_length_at s i
      n =
          let f = a.fits in
          let g = b.fits in
          sym (part_length s (name_place h) (name_length_at s h) (omega arith))
          ∙ ap length e ∙ part_length s (name_place i) (name_length_at s i) (omega arith)

      in_name : (j : ℕ) → j < name_limit → get_or s (name_place h + j) 0 ≡ get_or s (name_place i + j) 0
      in_name j m =
          ⊎_elim
          (λ u. sym (name_at h j u) ∙ ap (λ (x : List ℕ). get_or x j 0) e ∙ name_at i j (rw n at u))
          (λ u.
          a.unused.at (name_place h + j) (omega arith) (omega arith)
          ∙ sym (b.unused.at (name_place i + j) (omega (arith, n)) (omega arith)))
          (lt_or_le j (name_length_at s h))

      at : (j : ℕ) → j < name_limit + 1 → SameAt s (name_length_place h) (name_length_place i) j
      at zero m = get_or_same (name_length_place h + 0) (name_length_place i + 0) n (omega arith) (omega arith)
      at (suc j) m =
          get_or_same (name_length_place h + suc j) (name_length_place i + suc j) (in_name j (omega arith))
          (omega arith)
          (omega arith)
