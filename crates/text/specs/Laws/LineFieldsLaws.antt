-- The fields of the line at the front of a text, one by one: each ends at a comma or at the line's end.
-- Document 01, "The text". Assumes nothing. Only functions that read a row cite it.
use Rattle.std.specs.Prelude.{List, [], ◌∷◌, ◌⊎◌, ◌≡◌, ℕ, ◌+◌, ◌≤◌, ◌<◌, length, take, drop, get_or}
use Rattle.std.proofs.Common.{inl, inr, sym, ap, ◌∙◌, arith, eq-eqb, ne_eqb}
use Rattle.text.specs.Bytes.{comma, line_end, kind_of}
use Rattle.text.specs.Split.{cons_first, index_of}
use Rattle.text.specs.Laws.SplitLaws.{Is, same, other, is, split-nil, split-end, split-cons}
use Rattle.text.specs.Laws.SplitLaws.{index_of-end, index_of-cons}
use Rattle.text.specs.Inner.NumberAt.{field_of}
use Rattle.text.specs.Laws.NumberAtLaws.{field_of-end, field_of-cons}
use Rattle.text.specs.Inner.Row.{line_fields, fields_after}

-- ---- byte by byte

-- a byte ends a field by a comma or a line end, or belongs to it
data Ends (b : ℕ) : Type 0 where
  by_comma : kind_of b ≡ comma → Ends b
  by_line_end : kind_of b ≡ line_end → Ends b
  goes_on : (kind_of b ≡ comma → ⊥) → (kind_of b ≡ line_end → ⊥) → Ends b

ends : (b : ℕ) → Ends b
ends b = by_kind (is (kind_of b) comma) (is (kind_of b) line_end)
  where
    by_kind : Is (kind_of b) comma → Is (kind_of b) line_end → Ends b
    by_kind (same e) l = by_comma e
    by_kind (other e) (same f) = by_line_end f
    by_kind (other e) (other f) = goes_on e f

pub fields_after-comma : (b : ℕ) (bs : List ℕ) → kind_of b ≡ comma → fields_after (b ∷ bs) ≡ line_fields bs
unfolding fields_after
fields_after-comma b bs h = rw (eq-eqb (kind_of b) comma h)

pub fields_after-line_end : (b : ℕ) (bs : List ℕ) → kind_of b ≡ line_end → fields_after (b ∷ bs) ≡ []
unfolding fields_after
fields_after-line_end b bs h = rw (ne_eqb (kind_of b) comma (λ z. omega arith))

line_fields-comma : (b : ℕ) (bs : List ℕ) → kind_of b ≡ comma → line_fields (b ∷ bs) ≡ [] ∷ line_fields bs
unfolding line_fields
line_fields-comma b bs h =
    rw (index_of-cons line_end b bs (λ z. omega arith)) (split-end comma b (take (index_of line_end bs) bs) h)

line_fields-line_end : (b : ℕ) (bs : List ℕ) → kind_of b ≡ line_end → line_fields (b ∷ bs) ≡ [] ∷ []
unfolding line_fields
line_fields-line_end b bs h = rw (index_of-end line_end b bs h) (split-nil comma)

line_fields-cons : (b : ℕ) (bs : List ℕ) → (kind_of b ≡ comma → ⊥) → (kind_of b ≡ line_end → ⊥)
    → line_fields (b ∷ bs) ≡ cons_first b (line_fields bs)
unfolding line_fields
line_fields-cons b bs h l = rw (index_of-cons line_end b bs l) (split-cons comma b (take (index_of line_end bs) bs) h)

-- ---- field by field

-- the first field, and those behind the byte that ends it
pub line_fields-field : (s : List ℕ) → line_fields s ≡ field_of s ∷ fields_after (drop (length (field_of s)) s)
unfolding field_of fields_after line_fields index_of cons_first
line_fields-field [] = split-nil comma
line_fields-field (b ∷ bs) = go (ends b) (line_fields-field bs)
  where
    go : Ends b → line_fields bs ≡ field_of bs ∷ fields_after (drop (length (field_of bs)) bs)
        → line_fields (b ∷ bs) ≡ field_of (b ∷ bs) ∷ fields_after (drop (length (field_of (b ∷ bs))) (b ∷ bs))
    go (by_comma h) ih =
        line_fields-comma b bs h ∙ rw (field_of-end b bs (inl h), fields_after-comma b bs h)
    go (by_line_end h) ih =
        line_fields-line_end b bs h ∙ rw (field_of-end b bs (inr h), fields_after-line_end b bs h)
    go (goes_on h l) ih =
        line_fields-cons b bs h l ∙ ap (cons_first b) ih ∙ rw (field_of-cons b bs h l)

-- a search for the line end passes a field
pub line_end-field : (s : List ℕ)
    → index_of line_end s ≡ length (field_of s) + index_of line_end (drop (length (field_of s)) s)
unfolding field_of
line_end-field [] = omega arith
line_end-field (b ∷ bs) = go (ends b) (line_end-field bs)
  where
    go : Ends b → index_of line_end bs ≡ length (field_of bs) + index_of line_end (drop (length (field_of bs)) bs)
        → index_of line_end (b ∷ bs)
        ≡ length (field_of (b ∷ bs)) + index_of line_end (drop (length (field_of (b ∷ bs))) (b ∷ bs))
    go (by_comma h) ih = rw (field_of-end b bs (inl h)) (omega arith)
    go (by_line_end h) ih = rw (field_of-end b bs (inr h)) (omega arith)
    go (goes_on h l) ih = rw (field_of-cons b bs h l, index_of-cons line_end b bs l) (omega arith)

-- what follows a field, if anything does
pub field_of_follows : (s : List ℕ) → length (field_of s) < length s
    → (kind_of (get_or s (length (field_of s)) 0) ≡ comma) ⊎ (kind_of (get_or s (length (field_of s)) 0) ≡ line_end)
field_of_follows [] p = absurd (omega arith)
field_of_follows (b ∷ bs) p = go (ends b) (field_of_follows bs) p
  where
    go : Ends b
        → (length (field_of bs) < length bs
        → (kind_of (get_or bs (length (field_of bs)) 0) ≡ comma) ⊎
        (kind_of (get_or bs (length (field_of bs)) 0) ≡ line_end))
        → length (field_of (b ∷ bs)) < length (b ∷ bs)
        → (kind_of (get_or (b ∷ bs) (length (field_of (b ∷ bs))) 0) ≡ comma)
        ⊎ (kind_of (get_or (b ∷ bs) (length (field_of (b ∷ bs))) 0) ≡ line_end)
    go (by_comma h) ih q = rw (field_of-end b bs (inl h)) (inl h)
    go (by_line_end h) ih q = rw (field_of-end b bs (inr h)) (inr h)
    go (goes_on h l) ih q =
        let e = field_of-cons b bs h l in
        let n = ap length e in
        rw e (ih (omega arith))

-- where the first field is a letter alone, and more fields follow, a comma stands behind the letter
pub letter-field : (s : List ℕ) (letter : ℕ) → field_of s ≡ letter ∷ []
    → 0 < length (fields_after (drop (length (field_of s)) s))
    → (2 ≤ length s) × (get_or s 0 0 ≡ letter) × (kind_of (get_or s 1 0) ≡ comma)
unfolding field_of fields_after
letter-field [] letter h more = let z : ◌≡◌ {A = ℕ} 0 1 = cc in absurd (omega arith)
letter-field (b ∷ bs) letter h more = by_first (ends b) bs h (rw h at more)
  where
    by_second : (c : ℕ) (cs : List ℕ) → Ends c → field_of (c ∷ cs) ≡ [] → 0 < length (fields_after (c ∷ cs))
        → kind_of c ≡ comma
    by_second c cs (by_comma e) f m = e
    by_second c cs (by_line_end e) f m = let n = ap length (fields_after-line_end c cs e) in absurd (omega arith)
    by_second c cs (goes_on e l) f m =
        let n = ap length (sym (field_of-cons c cs e l) ∙ f) in absurd (omega arith)

    by_first : Ends b → (bs : List ℕ) → field_of (b ∷ bs) ≡ letter ∷ [] → 0 < length (fields_after bs)
        → (2 ≤ length (b ∷ bs)) × (b ≡ letter) × (kind_of (get_or (b ∷ bs) 1 0) ≡ comma)
    by_first (by_comma e) bs h m = let n = ap length (sym (field_of-end b bs (inl e)) ∙ h) in absurd (omega arith)
    by_first (by_line_end e) bs h m = let n = ap length (sym (field_of-end b bs (inr e)) ∙ h) in absurd (omega arith)
    by_first (goes_on e l) [] h m = absurd (omega arith)
    by_first (goes_on e l) (c ∷ cs) h m =
        let k : b ∷ field_of (c ∷ cs) ≡ letter ∷ [] = sym (field_of-cons b (c ∷ cs) e l) ∙ h in
        let x : b ≡ letter = cc in
        let y : field_of (c ∷ cs) ≡ [] = cc in
        (omega arith, x, by_second c cs (ends c) y m)
