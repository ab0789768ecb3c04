-- The line of an action by its parts: level, name, and the test of a name byte by byte.
-- Document 01, "The text": "Level is L, D or H. A name is 1 to 12 bytes of a to z and 0 to 9"; document 02, (vii).
-- Assumes nothing.
use Rattle.std.specs.Prelude.{Bool, true, false, cond, ◌&&◌, ◌⊎◌, ◌≡◌, refl, ℕ, ◌+◌, ◌≤◌, ◌<◌, leb, eqb, drop, get_or}
use mathlib.Core.List.{List, [], ◌∷◌}
use Rattle.std.proofs.Common.{inl, inr, ◌∙◌, eq-eqb, ne_eqb, le-leb}
use Rattle.std.proofs.Math.Path.{ap}
use native.Mathlib.Omega.{arith}
use Rattle.std.proofs.Math.ListN.{length}
use Rattle.std.proofs.lemmas.Bool.{lt-leb}
use Rattle.std.specs.List.{list_all}
use Rattle.text.specs.declared.Fault.TheVariants.{Shape}
use Rattle.text.specs.Bytes.{byte_a, byte_l, byte_d, byte_h, byte_t, digit, small_letter, capital, comma, kind_of}
use Rattle.text.specs.Split.{split, index_of, same?}
use Rattle.text.specs.Limits.{name_limit}
use Rattle.text.specs.Model.{low, release, high, silent, ActionLine}
use Rattle.text.specs.Lines.{Line, good, bad, checked, fields_of, level_of, all_of, name_byte?, name?, name_from}
use Rattle.text.specs.Lines.{action_fields}
use Rattle.text.specs.Inner.PartAnswers.{Fields}
use Rattle.text.specs.Laws.FieldsLaws.{split_one, byte_field, not_byte_field}

-- ---- levels

-- a level by its byte: the tests stand in the order of `level_of`
pub level_of_byte : (b : ℕ) {l d h t : Bool}
    → eqb b byte_l ≡ l → eqb b byte_d ≡ d → eqb b byte_h ≡ h → eqb b byte_t ≡ t
    → level_of (b ∷ [])
    ≡ cond l (good low) (cond d (good release) (cond h (good high) (cond t (good silent) (bad Shape))))
unfolding level_of same?
level_of_byte b {l} {d} {h} {t} e f g k = rw (e, f, g, k) (go l d h t)
  where
    go : (l d h t : Bool)
        → cond (l && true) (good low) (cond (d && true) (good release)
        (cond (h && true) (good high) (cond (t && true) (good silent) (bad Shape))))
        ≡ cond l (good low) (cond d (good release) (cond h (good high) (cond t (good silent) (bad Shape))))
    go true d h t = refl
    go false true h t = refl
    go false false true t = refl
    go false false false true = refl
    go false false false false = refl

-- the letters of levels are capitals
pub level_of_other : (b : ℕ) → (kind_of b ≡ capital → ⊥) → level_of (b ∷ []) ≡ bad Shape
unfolding kind_of
level_of_other b h =
    level_of_byte b
    (ne_eqb b byte_l (λ e. h (ap kind_of e)))
    (ne_eqb b byte_d (λ e. h (ap kind_of e)))
    (ne_eqb b byte_h (λ e. h (ap kind_of e)))
    (ne_eqb b byte_t (λ e. h (ap kind_of e)))

-- a field that is not one byte long is no level
pub level_of_long : (f : List ℕ) → ((x : ℕ) → same? f (x ∷ []) ≡ false) → level_of f ≡ bad Shape
unfolding level_of
level_of_long f h = rw (h byte_l, h byte_d, h byte_h, h byte_t)

-- ---- names

pub all_name-nil : all_of name_byte? [] ≡ true
unfolding all_of
all_name-nil = refl

pub all_name-cons : (b : ℕ) (bs : List ℕ) → (kind_of b ≡ digit) ⊎ (kind_of b ≡ small_letter)
    → all_of name_byte? (b ∷ bs) ≡ all_of name_byte? bs
unfolding all_of name_byte?
all_name-cons b bs (inl h) = rw (eq-eqb (kind_of b) digit h)
all_name-cons b bs (inr h) =
    let e : kind_of b ≡ digit → ⊥ = λ z. omega arith in
    rw (ne_eqb (kind_of b) digit e, eq-eqb (kind_of b) small_letter h)

pub all_name_bad : (b : ℕ) (bs : List ℕ) → (kind_of b ≡ digit → ⊥) → (kind_of b ≡ small_letter → ⊥)
    → all_of name_byte? (b ∷ bs) ≡ false
unfolding all_of name_byte?
all_name_bad b bs h l = rw (ne_eqb (kind_of b) digit h, ne_eqb (kind_of b) small_letter l)

-- `all_of` is the library's test of each element
pub all_of_list : (test : ℕ → Bool) (f : List ℕ) → all_of test f ≡ list_all test f
unfolding all_of
all_of_list test [] = refl
all_of_list test (b ∷ bs) = ap (λ t. test b && t) (all_of_list test bs)

name-tests : (f : List ℕ) {l m : Bool} → leb 1 (length f) ≡ l → leb (length f) name_limit ≡ m
    → name? f ≡ l && m && all_of name_byte? f
unfolding name?
name-tests f e g = rw (← e, ← g)

pub name_short : (f : List ℕ) → length f < 1 → name? f ≡ false
name_short f h = name-tests f (lt-leb 1 (length f) h) refl

pub name_long : (f : List ℕ) → name_limit < length f → name? f ≡ false
name_long f h =
    let l : 1 ≤ length f = omega arith in
    name-tests f (le-leb 1 (length f) l) (lt-leb (length f) name_limit h)

pub name_all : (f : List ℕ) → 1 ≤ length f → length f ≤ name_limit → name? f ≡ all_of name_byte? f
name_all f l m = name-tests f (le-leb 1 (length f) l) (le-leb (length f) name_limit m)

-- ---- the line by the place of its second comma

module _ (line : List ℕ) (r : Bool) (fields : Fields byte_a 2 line r) (yes : r ≡ true)
    (e : ℕ) (found : e ≡ 2 + index_of comma (drop 2 line)) where
  pub action_other_place : (e ≡ 3 → ⊥) → action_fields (fields_of byte_a 2 line) ≡ bad Shape
  unfolding action_fields name_from
  action_other_place other =
      let w = not_byte_field line 2 e (fields.yes_length yes) found other in
      ap action_fields (fields.yes_fields yes ∙ ap good w.2)
      ∙ ap (λ (x : Line ℕ). name_from x (get_or (w.0 ∷ w.1) 1 [])) (level_of_long w.0 w.3)

  -- a level of one byte, and the name is the rest
  pub action_parts : e ≡ 3 → (4 ≤ length line)
      × (action_fields (fields_of byte_a 2 line) ≡ name_from (level_of (get_or line 2 0 ∷ [])) (drop 4 line))
  unfolding action_fields
  action_parts three =
      let n = fields.yes_count yes in
      let level = byte_field line 2 e (fields.yes_length yes) found three (omega arith) in
      let k = ap length level.1 in
      let one : length (split comma (drop 4 line)) ≡ 1 = omega arith in
      let name = split_one comma (drop 4 line) one in
      let parts = level.1 ∙ ap (λ (fs : List (List ℕ)). (get_or line 2 0 ∷ []) ∷ fs) name in
      (level.0, ap action_fields (fields.yes_fields yes ∙ ap good parts))

module _ (b : ℕ) (name : List ℕ) where
  pub name_from_bad : level_of (b ∷ []) ≡ bad Shape → name_from (level_of (b ∷ [])) name ≡ bad Shape
  unfolding name_from
  name_from_bad e = ap (λ (x : Line ℕ). name_from x name) e

  pub name_from_good : (level : ℕ) {t : Bool} → level_of (b ∷ []) ≡ good level → name? name ≡ t
      → name_from (level_of (b ∷ [])) name ≡ checked Shape t (record { level = level; name = name })
  unfolding name_from
  name_from_good level e n =
      ap (λ (x : Line ℕ). name_from x name) e
      ∙ ap (λ (x : Bool). checked {A = ActionLine} Shape x (record { level = level; name = name })) n
