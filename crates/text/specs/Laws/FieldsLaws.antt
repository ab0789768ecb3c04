-- The fields of a line: how many there are, a field of one byte, and those after a letter.
-- Document 01, "The text": "Fields in fixed order parted by commas". Assumes nothing.
use Rattle.std.specs.Prelude.{Bool, cond, ◌&&◌, List, [], ◌∷◌, ◌≡◌, refl, ℕ, suc, ◌+◌, ◌-◌, ◌≤◌, ◌<◌, T, ltb, length, take}
use Rattle.std.specs.Prelude.{drop, get_or}
use Rattle.std.proofs.Math.Bool.{true, false}
use Rattle.std.proofs.Common.{sym, ◌∙◌, arith, eqb→eq, length-drop, get_or-drop, length-take-le}
use Rattle.std.proofs.Math.Path.{ap}
use Rattle.std.proofs.Math.Dec.{eqb}
use Rattle.std.specs.List.{count_by}
use Rattle.std.proofs.lemmas.Bool.{eqb-true, eqb-false}
use Rattle.std.proofs.lemmas.List.Sums.{sum_by-cons}
use borrow.Author.Tests.{ltb-true, ltb-false, eq-eqb, ne_eqb}
use Rattle.text.specs.declared.Fault.{Fault}
use Rattle.text.specs.declared.Fault.TheVariants.{Shape}
use Rattle.text.specs.Bytes.{comma, kind_of}
use Rattle.text.specs.Decides.{Decides}
use Rattle.text.specs.Split.{cons_first, split, index_of, same?}
use Rattle.text.specs.Laws.SplitLaws.{split-end, split-cons, split_first, split_part, split_last, split_none}
use Rattle.text.specs.Laws.SplitLaws.{split-nil, split-found, found_le}
use Rattle.lts.proofs.TestsLaws.{and_left, and_right}
use Rattle.text.specs.Laws.SameLaws.{and-false, same?→eq, same?-length}
use Rattle.text.specs.Lines.{good, bad, checked, fields_from, fields_of}
use Rattle.text.specs.Inner.PartAnswers.{Fields}
use Rattle.text.specs.Laws.DecidesLaws.{decides_eqb}

-- ---- the number of parts

pub count-end : (kind b : ℕ) (bs : List ℕ) → kind_of b ≡ kind
    → length (split kind (b ∷ bs)) ≡ suc (length (split kind bs))
count-end kind b bs h = ap length (split-end kind b bs h)

pub count-cons : (kind b : ℕ) (bs : List ℕ) → (kind_of b ≡ kind → ⊥)
    → length (split kind (b ∷ bs)) ≡ length (split kind bs)
unfolding cons_first
count-cons kind b bs h =
    let w = split_first kind bs in
    ap length (split-cons kind b bs h ∙ ap (cons_first b) w.2) ∙ sym (ap length w.2)

-- the bytes of a kind, and one more in front
count_by-cons : (kind b : ℕ) (bs : List ℕ) {t : Bool} → eqb (kind_of b) kind ≡ t
    → count_by (λ x. eqb (kind_of x) kind) (b ∷ bs) ≡ cond t 1 0 + count_by (λ x. eqb (kind_of x) kind) bs
count_by-cons kind b bs e = sum_by-cons (λ x. cond (eqb (kind_of x) kind) 1 0) b bs ∙ rw e

-- there is one more part than there are bytes that end one
pub count_parts : (kind : ℕ) (s : List ℕ) → length (split kind s) ≡ count_by (λ b. eqb (kind_of b) kind) s + 1
count_parts kind [] = ap length (split-nil kind)
count_parts kind (b ∷ bs) = go (eqb (kind_of b) kind) refl (count_parts kind bs)
  where
    go : (t : Bool) → eqb (kind_of b) kind ≡ t → length (split kind bs) ≡ count_by (λ x. eqb (kind_of x) kind) bs + 1
        → length (split kind (b ∷ bs)) ≡ count_by (λ x. eqb (kind_of x) kind) (b ∷ bs) + 1
    go true t e = count-end kind b bs (eqb-true _ _ t) ∙ omega (arith, e, count_by-cons kind b bs t)
    go false t e = count-cons kind b bs (eqb-false _ _ t) ∙ omega (arith, e, count_by-cons kind b bs t)

-- ---- the first part, and the only part

-- with one part, the part is the whole
pub split_one : (kind : ℕ) (s : List ℕ) → length (split kind s) ≡ 1 → split kind s ≡ s ∷ []
split_one kind s h = go (ltb (index_of kind s) (length s)) refl
  where
    go : (t : Bool) → ltb (index_of kind s) (length s) ≡ t → split kind s ≡ s ∷ []
    go true e =
        let more = split_first kind (drop (suc (index_of kind s)) s) in
        let n = ap length (split-found kind s (ltb-true (index_of kind s) (length s) e)) in
        let m = ap length more.2 in
        absurd (omega arith)
    go false e = split_none kind s (ltb-false (index_of kind s) (length s) e)

module _ (kind : ℕ) (s : List ℕ) (at e : ℕ) (le : at ≤ length s) (found : e ≡ at + index_of kind (drop at s)) where
  -- whether or not another part follows
  pub split_take : (parts : List (List ℕ)) × (split kind (drop at s) ≡ take (e - at) (drop at s) ∷ parts)
  split_take = go (ltb e (length s)) refl
    where
      go : (t : Bool) → ltb e (length s) ≡ t
          → (parts : List (List ℕ)) × (split kind (drop at s) ≡ take (e - at) (drop at s) ∷ parts)
      go true b = (split kind (drop (e + 1) s), split_part kind s at e le found (ltb-true e (length s) b))
      go false b = ([], split_last kind s at e le found (ltb-false e (length s) b))

  -- another part follows
  pub split_more : 1 < length (split kind (drop at s)) → e < length s
  split_more h = go (ltb e (length s)) refl
    where
      go : (t : Bool) → ltb e (length s) ≡ t → e < length s
      go true b = ltb-true e (length s) b
      go false b =
          let n = ap length (split_last kind s at e le found (ltb-false e (length s) b)) in
          absurd (omega arith)

-- ---- a field of one byte

pub same?_byte : (b x : ℕ) → b ≡ x → same? (b ∷ []) (x ∷ []) ≡ true
unfolding same?
same?_byte b x h = rw (eq-eqb b x h)

pub same?_other : (b x : ℕ) → (b ≡ x → ⊥) → same? (b ∷ []) (x ∷ []) ≡ false
unfolding same?
same?_other b x h = rw (ne_eqb b x h)

pub take_one : (l : List ℕ) → 0 < length l → take 1 l ≡ get_or l 0 0 ∷ []
take_one [] h = absurd (omega arith)
take_one (x ∷ xs) h = refl

module _ (line : List ℕ) (at e : ℕ) (le : at ≤ length line) (found : e ≡ at + index_of comma (drop at line)) where
  -- the comma after a field of one byte stands one place further on
  pub byte_field : e ≡ at + 1 → 1 < length (split comma (drop at line))
      → (at + 2 ≤ length line) × (split comma (drop at line) ≡ (get_or line at 0 ∷ []) ∷ split comma
      (drop (at + 2) line))
  byte_field one many =
      let l = split_more comma line at e le found many in
      let d = length-drop at line in
      let k : e - at ≡ 1 = omega arith in
      let m : e + 1 ≡ at + 2 = omega arith in
      let z : at + 0 ≡ at = omega arith in
      let n : 0 < length (drop at line) = omega arith in
      (omega arith, split_part comma line at e le found l ∙ rw (k, m, take_one (drop at line) n, get_or-drop, z))

  pub not_byte_field : (e ≡ at + 1 → ⊥)
      → (f : List ℕ) × (fs : List (List ℕ)) × (split comma (drop at line) ≡ f ∷ fs)
      × ((x : ℕ) → same? f (x ∷ []) ≡ false)
  not_byte_field other =
      let w = split_take comma line at e le found in
      let b = found_le comma line at e le found in
      let d = length-drop at line in
      let l : e - at ≤ length (drop at line) = omega arith in
      let part : List ℕ = take (e - at) (drop at line) in
      let n : length part ≡ e - at = length-take-le (e - at) (drop at line) l in
      let long : length part ≡ 1 → ⊥ = λ z. other (omega arith) in
      (part, w.0, w.1, λ x. same?-length part (x ∷ []) long)

-- ---- the fields after a letter

module _ (letter n : ℕ) (line f : List ℕ) (fs : List (List ℕ)) (parts : split comma line ≡ f ∷ fs) where
  test : (t : Bool) → same? f (letter ∷ []) && eqb (length fs) n ≡ t → fields_of letter n line ≡ checked Shape t fs
  unfolding fields_of fields_from
  test t h = ap (fields_from letter n) parts ∙ ap (λ (u : Bool). checked Shape u fs) h

  -- another letter
  pub fields_letter : same? f (letter ∷ []) ≡ false → fields_of letter n line ≡ bad Shape
  unfolding checked
  fields_letter h = test false (ap (λ (t : Bool). t && eqb (length fs) n) h)

  -- another number of fields
  pub fields_count : (length fs ≡ n → ⊥) → fields_of letter n line ≡ bad Shape
  unfolding checked
  fields_count h =
      test false
      (ap (λ (t : Bool). same? f (letter ∷ []) && t) (ne_eqb (length fs) n h) ∙ and-false (same? f (letter ∷ [])))

  pub fields_good : same? f (letter ∷ []) ≡ true → length fs ≡ n → fields_of letter n line ≡ good fs
  unfolding checked
  fields_good h k =
      test true
      (ap (λ (t : Bool). t && eqb (length fs) n) h ∙ eq-eqb (length fs) n k)

-- what passes a test
pub good-checked : {A : Type 0} (fault : Fault) (t : Bool) (a b : A) → checked fault t a ≡ good b → T t × (a ≡ b)
unfolding checked
good-checked fault true a b h = (tt, cc)
good-checked fault false a b h = let z : ◌≡◌ {A = ℕ} 0 1 = cc in absurd (omega arith)

-- a line whose fields are good begins with the letter
pub fields_of_good : (letter n : ℕ) (line f : List ℕ) (fs gs : List (List ℕ)) → split comma line ≡ f ∷ fs
    → fields_of letter n line ≡ good gs → (f ≡ letter ∷ []) × (fs ≡ gs) × (length fs ≡ n)
unfolding fields_of fields_from
fields_of_good letter n line f fs gs parts h =
    let s : Bool = same? f (letter ∷ []) in
    let t : Bool = eqb (length fs) n in
    let q : checked Shape (s && t) fs ≡ good gs = rw parts at h in
    let c = good-checked Shape (s && t) fs gs q in
    (same?→eq f (letter ∷ []) (and_left s t c.0), c.1, eqb→eq (length fs) n (and_right s t c.0))

-- ---- by the number of commas, the place of the first and the first byte

pub clash : false ≡ true → ⊥
clash h = let z : ◌≡◌ {A = ℕ} 0 1 = cc in omega arith

fields_no : (letter n : ℕ) (line : List ℕ) → fields_of letter n line ≡ bad Shape → Fields letter n line false
fields_no letter n line e =
    record {
      yes_length = λ z. absurd (clash z);
      yes_fields = λ z. absurd (clash z);
      yes_count = λ z. absurd (clash z);
      no_fields = λ z. e;
    }

pub fields_other-count : (letter n : ℕ) (line : List ℕ) (count : ℕ) → length (split comma line) ≡ count + 1
    → (count ≡ n → ⊥) → Fields letter n line false
fields_other-count letter n line count counted other =
    let w = split_first comma line in
    let k = ap length w.2 in
    fields_no letter n line (fields_count letter n line w.0 w.1 w.2 (λ z. other (omega arith)))

module _ (letter n : ℕ) (line : List ℕ) (e : ℕ) (found : e ≡ 0 + index_of comma (drop 0 line)) where
  pub fields_other_place : (e ≡ 1 → ⊥) → Fields letter n line false
  fields_other_place other =
      let w = not_byte_field line 0 e (omega arith) found other in
      fields_no letter n line (fields_letter letter n line w.0 w.1 w.2 (w.3 letter))

-- the first field is one byte
module _ (letter n : ℕ) (line : List ℕ) (parts : split comma line ≡ (get_or line 0 0 ∷ []) ∷ split comma (drop 2 line))
  where
    pub fields_other_letter : (get_or line 0 0 ≡ letter → ⊥) → Fields letter n line false
    fields_other_letter other =
        fields_no letter n line
        (fields_letter letter n line (get_or line 0 0 ∷ []) (split comma (drop 2 line)) parts
        (same?_other (get_or line 0 0) letter other))

    pub fields_yes : 2 ≤ length line → length (split comma line) ≡ n + 1 → get_or line 0 0 ≡ letter
        → Fields letter n line true
    fields_yes le counted h =
        let k = ap length parts in
        let l : length (split comma (drop 2 line)) ≡ n = omega arith in
        record {
          yes_length = λ z. le;
          yes_fields = λ z. fields_good letter n line (get_or line 0 0 ∷ []) (split comma (drop 2 line)) parts
              (same?_byte (get_or line 0 0) letter h) l;
          yes_count = λ z. l;
          no_fields = λ z. absurd (clash (sym z));
        }

    -- by what decides whether the first byte is the letter
    pub fields_letter_decided : 2 ≤ length line → length (split comma line) ≡ n + 1
        → (r : Bool) → Decides r (get_or line 0 0 ≡ letter) → Fields letter n line r
    fields_letter_decided le counted true h = fields_yes le counted h
    fields_letter_decided le counted false h = fields_other_letter h

    -- by the test of the first byte
    pub fields_letter_test : 2 ≤ length line → length (split comma line) ≡ n + 1
        → Fields letter n line (eqb (get_or line 0 0) letter)
    fields_letter_test le counted =
        fields_letter_decided le counted _ (decides_eqb (get_or line 0 0) letter (λ e. e) (λ e. e))
