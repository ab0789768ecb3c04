-- Lists made of blocks of one width, with zeros behind them: their lengths, and the block at a place.
-- Document 01, "The model store". Assumes nothing.
use Rattle.std.proofs.Common.{List, [], ◌∷◌, ◌++◌, ◌≡◌, ℕ, zero, suc, ◌+◌, ◌-◌, ◌*◌, ◌≤◌, ◌<◌, length, get_or, drop}
use Rattle.std.proofs.Common.{replicate, append_assoc, append-nil, sym, ap, ◌∙◌, arith, mul-suc, mul-zero}
use Rattle.std.proofs.Common.{length-append}
use Rattle.std.proofs.lemmas.List.{length-replicate}
use Rattle.std.proofs.Math.Seq.{drop-append-add}
use Rattle.text.specs.All.{All}
use Rattle.text.specs.Laws.AllLaws.{all_append, all_replicate}
use Rattle.model.specs.Store.{padded}

-- ---- zeros behind

pub padded-append : (n : ℕ) (l rest : List ℕ) → padded n l ++ rest ≡ l ++ (replicate (n - length l) 0 ++ rest)
unfolding padded
padded-append n l rest = append_assoc l (replicate (n - length l) 0) rest

pub padded-length : (n : ℕ) (l : List ℕ) → length l ≤ n → length (padded n l) ≡ n
unfolding padded
padded-length n l h = simp (length-append, length-replicate) (omega arith)

pub padded_all : (P : ℕ → Type 0) → P 0 → (n : ℕ) (l : List ℕ) → All P l → All P (padded n l)
unfolding padded
padded_all P p n l a = all_append P l (replicate (n - length l) 0) a (all_replicate P (n - length l) 0 p)

-- ---- blocks

-- one more, of whatever width
pub blocks-snoc : {A : Type 0} (block : A → List ℕ) (blocks : List A → List ℕ) → blocks [] ≡ []
    → ((x : A) (xs : List A) → blocks (x ∷ xs) ≡ block x ++ blocks xs)
    → (xs : List A) (x : A) → blocks (xs ++ (x ∷ [])) ≡ blocks xs ++ block x
blocks-snoc block blocks nil cons [] x = rw (cons x [], nil, append-nil)
blocks-snoc block blocks nil cons (y ∷ ys) x =
    cons y (ys ++ (x ∷ [])) ∙ ap (λ (l : List ℕ). block y ++ l) (blocks-snoc block blocks nil cons ys x)
    ∙ sym (append_assoc (block y) (blocks ys) (block x)) ∙ ap (λ (l : List ℕ). l ++ block x) (sym (cons y ys))

module _ {A : Type 0} (block : A → List ℕ) (blocks : List A → List ℕ) (width : ℕ) (nil : blocks [] ≡ [])
    (cons : (x : A) (xs : List A) → blocks (x ∷ xs) ≡ block x ++ blocks xs) where
  pub blocks_length : (xs : List A) → All (λ x. length (block x) ≡ width) xs → length (blocks xs) ≡ width * length xs
  blocks_length [] a = ap length nil ∙ sym (mul-zero width)
  blocks_length (x ∷ xs) a =
      let i = blocks_length xs a.1 in
      let w = a.0 in
      let m = mul-suc width (length xs) in
      ap length (cons x xs) ∙ simp length-append (omega arith)

  pub blocks_length_le : (xs : List A) → All (λ x. length (block x) ≤ width) xs → length (blocks xs) ≤ width * length xs
  blocks_length_le [] a = rw nil (omega arith)
  blocks_length_le (x ∷ xs) a =
      let i = blocks_length_le xs a.1 in
      let w = a.0 in
      let m = mul-suc width (length xs) in
      rw (cons x xs) (simp length-append (omega arith))

  pub blocks_all : (P : ℕ → Type 0) (xs : List A) → All (λ x. All P (block x)) xs → All P (blocks xs)
  blocks_all P [] a = rw nil tt
  blocks_all P (x ∷ xs) a = rw (cons x xs) (all_append P (block x) (blocks xs) a.0 (blocks_all P xs a.1))

  -- the block of element i stands from place width * i on
  pub blocks_drop : (xs : List A) (i : ℕ) (d : A) (rest : List ℕ) → All (λ x. length (block x) ≡ width) xs
      → i < length xs
      → (more : List ℕ) × (drop (width * i) (blocks xs ++ rest) ≡ block (get_or xs i d) ++ more)
  blocks_drop [] i d rest a h = absurd (omega arith)
  blocks_drop (x ∷ xs) zero d rest a h =
      (blocks xs ++ rest, rw (mul-zero width, cons x xs) (append_assoc (block x) (blocks xs) rest))
  blocks_drop (x ∷ xs) (suc i) d rest a h =
      let e = blocks_drop xs i d rest a.1 (omega arith) in
      let w = a.0 in
      let m = mul-suc width i in
      let k : width * suc i ≡ length (block x) + width * i = omega arith in
      let past = drop-append-add (block x) (blocks xs ++ rest) (width * i) in
      (e.0, rw (k, cons x xs, append_assoc (block x) (blocks xs) rest, past) e.1)
