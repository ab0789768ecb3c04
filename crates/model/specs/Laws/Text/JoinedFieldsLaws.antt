-- A letter and fields joined by commas are read back to the fields, and only such a line is; the same of the numbers of
-- a row.
-- Document 01, "The text". Assumes nothing.
use Rattle.std.specs.Prelude.{Result, Ok, Err}
use Rattle.std.proofs.Common.{Bool, true, false, cond, List, [], ◌∷◌, map, ◌≡◌, ℕ, ◌<◌, T, eqb, length, get_or, sym, ap}
use Rattle.std.proofs.Common.{◌∙◌, subst, arith}
use Rattle.std.proofs.Math.Option.{Option, none, some}
use Rattle.std.proofs.Math.Path.{refl}
use Rattle.std.proofs.Math.Dec.{eqb_refl}
use Rattle.std.proofs.lemmas.List.{length-map}
use Rattle.std.proofs.lemmas.Bool.{eqb-false}
use Rattle.lts.proofs.TestsLaws.{T→true, and_left, and_right, and_intro}
use Rattle.text.specs.declared.Fault.{Fault}
use Rattle.text.specs.declared.Fault.TheVariants.{Shape}
use Rattle.text.specs.declared.number.Bounds.{Bounds}
use Rattle.text.specs.declared.number.NumberFault.{NumberFault}
use Rattle.text.specs.declared.number.NumberFault.TheVariants.{BadDigits, Outside}
use Rattle.text.specs.declared.row.Row.{Row}
use Rattle.text.specs.declared.row.Row.TheVariants.{HeadRow, StartRow, StepRow}
use Rattle.text.specs.Bytes.{kind_of, digit, capital, comma, byte_comma}
use Rattle.text.specs.Laws.BytesLaws.{comma_only}
use Rattle.text.specs.Limits.{state_limit}
use Rattle.text.specs.Numbers.{number_of, from_to, in_bounds?, bounded, number_in, digits}
use Rattle.text.specs.Laws.DigitsLaws.{digits-digit, number_of-digits, digits_of_number_of}
use Rattle.text.specs.Split.{same?}
use Rattle.text.specs.Laws.SplitLaws.{split_first}
use Rattle.text.specs.Laws.SameLaws.{same?_refl}
use Rattle.text.specs.Laws.FieldsLaws.{fields_of_good}
use Rattle.text.specs.Laws.RowLaws.{row_bounds-length}
use Rattle.text.specs.All.{All}
use Rattle.text.specs.Laws.AllLaws.{all_of_all}
use Rattle.text.specs.Join.{join, Without}
use Rattle.text.specs.Laws.JoinLaws.{split-join, join-split}
use Rattle.text.specs.Lines.{Line, good, bad, checked, fields_from, fields_of, cons_number, numbers_of, fits?}
use Rattle.text.specs.Lines.{head_bounds, row_letter, row_count, row_bounds, value_or0, states_of, row_from, row_of}
use Rattle.text.specs.Inner.Ranges.{Small}
use Rattle.model.specs.Inner.LineText.{line_of, RowNumbers}

-- ---- what passes a test

pub checked_good : {A : Type 0} (fault : Fault) (t : Bool) (a : A) → T t → checked fault t a ≡ good a
unfolding checked
checked_good fault true a h = refl
checked_good fault false a h = absurd h

-- ---- fields

module _ (letter : ℕ) (fs : List (List ℕ)) where
  pub fields_of_line : (kind_of letter ≡ comma → ⊥) → All (Without comma) fs
      → fields_of letter (length fs) (line_of letter fs) ≡ good fs
  unfolding fields_of fields_from kind_of
  fields_of_line h a =
      let e = split-join comma byte_comma refl ((letter ∷ []) ∷ fs) (omega arith) ((h, tt), a) in
      let s = same?_refl (letter ∷ []) in
      let t = and_intro (same? (letter ∷ []) (letter ∷ [])) (eqb (length fs) (length fs)) s (eqb_refl (length fs)) in
      rw e (checked_good Shape _ fs t)

  pub line_of_fields_of : (n : ℕ) (line : List ℕ) → fields_of letter n line ≡ good fs
      → (line ≡ line_of letter fs) × (length fs ≡ n)
  line_of_fields_of n line h =
      let w = split_first comma line in
      let g = fields_of_good letter n line w.0 w.1 fs w.2 h in (
        sym (join-split comma byte_comma comma_only line) ∙ ap (join byte_comma) (w.2 ∙ rw (g.0, g.1)),
        rw g.1 at g.2,
      )

-- ---- numbers

number_in-digits : (b : Bounds) (n : ℕ) → n < 100000 → T (in_bounds? b n) → number_in b (digits n) ≡ Ok n
unfolding number_in bounded
number_in-digits b n h t = rw (number_of-digits n h, bounded, T→true (in_bounds? b n) t)

digits_of_number_in : (b : Bounds) (f : List ℕ) (n : ℕ) → number_in b f ≡ Ok n
    → (f ≡ digits n) × (n < 100000) × T (in_bounds? b n)
unfolding number_in bounded
digits_of_number_in b f n h = by_number (number_of f) refl h
  where
    by_test : (m : ℕ) → number_of f ≡ some m → (t : Bool) → in_bounds? b m ≡ t → cond t (Ok m) (Err Outside) ≡ Ok n
        → (f ≡ digits n) × (n < 100000) × T (in_bounds? b n)
    by_test m e true d q =
        let k : m ≡ n = cc in
        let w = digits_of_number_of f n (e ∙ ap some k) in
        (w.0, w.1, subst (λ (x : ℕ). T (in_bounds? b x)) k (rw d tt))
    by_test m e false d q = let z : ◌≡◌ {A = ℕ} 0 1 = cc in absurd (omega arith)

    by_number : (o : Option ℕ) → number_of f ≡ o → bounded b o ≡ Ok n
        → (f ≡ digits n) × (n < 100000) × T (in_bounds? b n)
    by_number (some m) e q = by_test m e (in_bounds? b m) refl q
    by_number none e q = let z : ◌≡◌ {A = ℕ} 0 1 = cc in absurd (omega arith)

pub numbers_of-digits : (bs : List Bounds) (ns : List ℕ) → length ns ≡ length bs → Small ns → T (fits? bs ns)
    → numbers_of bs (map digits ns) ≡ good ns
unfolding numbers_of cons_number fits?
numbers_of-digits [] [] l s t = refl
numbers_of-digits [] (n ∷ ns) l s t = absurd (omega arith)
numbers_of-digits (b ∷ bs) [] l s t = absurd (omega arith)
numbers_of-digits (b ∷ bs) (n ∷ ns) l s t =
    let first = and_left (in_bounds? b n) (fits? bs ns) t in
    let rest = and_right (in_bounds? b n) (fits? bs ns) t in
    rw (number_in-digits b n s.0 first, numbers_of-digits bs ns (omega arith) s.1 rest)

good-cons_number : (a : Result ℕ NumberFault) (l : Line (List ℕ)) (ns : List ℕ) → cons_number a l ≡ good ns
    → (v : ℕ) × (vs : List ℕ) × (a ≡ Ok v) × (l ≡ good vs) × (v ∷ vs ≡ ns)
unfolding cons_number
good-cons_number (Ok v) (good vs) ns h = let e : v ∷ vs ≡ ns = cc in (v, vs, refl, refl, e)
good-cons_number (Ok v) (bad fault) ns h = let z : ◌≡◌ {A = ℕ} 0 1 = cc in absurd (omega arith)
good-cons_number (Err BadDigits) l ns h = let z : ◌≡◌ {A = ℕ} 0 1 = cc in absurd (omega arith)
good-cons_number (Err Outside) (good vs) ns h = let z : ◌≡◌ {A = ℕ} 0 1 = cc in absurd (omega arith)
good-cons_number (Err Outside) (bad fault) ns h = let z : ◌≡◌ {A = ℕ} 0 1 = cc in absurd (omega arith)

pub digits_of-numbers_of : (bs : List Bounds) (fs : List (List ℕ)) (ns : List ℕ) → length fs ≡ length bs
    → numbers_of bs fs ≡ good ns → (fs ≡ map digits ns) × Small ns × T (fits? bs ns)
unfolding numbers_of fits?
digits_of-numbers_of [] [] ns l h = let e : [] ≡ ns = cc in (rw (← e), subst Small e tt, tt)
digits_of-numbers_of [] (f ∷ fs) ns l h = absurd (omega arith)
digits_of-numbers_of (b ∷ bs) [] ns l h = absurd (omega arith)
digits_of-numbers_of (b ∷ bs) (f ∷ fs) ns l h =
    let c = good-cons_number (number_in b f) (numbers_of bs fs) ns h in
    let d = digits_of_number_in b f c.0 c.2 in
    let i = digits_of-numbers_of bs fs c.1 (omega arith) c.3 in
    let same : f ∷ fs ≡ map digits (c.0 ∷ c.1) = cc in
    let fits = and_intro (in_bounds? b c.0) (fits? bs c.1) d.2 i.2 in
    let all : T (fits? (b ∷ bs) ns) = subst (λ (x : List ℕ). T (fits? (b ∷ bs) x)) c.4 fits in
    (same ∙ ap (map digits) c.4, subst Small c.4 (d.1, i.1), all)

-- digits hold nothing but digits
pub digits_without : (kind : ℕ) → (digit ≡ kind → ⊥) → (ns : List ℕ) → All (Without kind) (map digits ns)
digits_without kind h [] = tt
digits_without kind h (n ∷ ns) = (
  all_of_all (λ b. kind_of b ≡ digit) (λ b. kind_of b ≡ kind → ⊥) (λ b e f. h (sym e ∙ f)) (digits n) (digits-digit n),
  digits_without kind h ns,
)

-- ---- rows

row_letter-comma : (row : Row) → kind_of (row_letter row) ≡ comma → ⊥
unfolding kind_of row_letter
row_letter-comma HeadRow = λ z. eqb-false capital comma refl z
row_letter-comma (StartRow h) = λ z. eqb-false capital comma refl z
row_letter-comma (StepRow h) = λ z. eqb-false capital comma refl z

-- the first of its numbers is the number of states that the row gives, if the bounds depend on it
row_bounds-digits : (row : Row) (states : ℕ) (ns : List ℕ) → length ns ≡ row_count row → Small ns
    → T (fits? (row_bounds row states) ns) → row_bounds row (states_of (map digits ns)) ≡ row_bounds row (get_or ns 0 0)
unfolding row_bounds row_count head_bounds states_of value_or0 fits?
row_bounds-digits HeadRow states [] l s t = absurd (omega arith)
row_bounds-digits HeadRow states (n ∷ ns) l s t =
    let first = and_left (in_bounds? (from_to 1 state_limit) n) _ t in
    rw (number_in-digits (from_to 1 state_limit) n s.0 first, value_or0)
row_bounds-digits (StartRow h) states ns l s t = refl
row_bounds-digits (StepRow h) states ns l s t = refl

-- what is written reads back
pub row_of_line : (row : Row) (ns : List ℕ) → RowNumbers row ns
    → row_of row (line_of (row_letter row) (map digits ns)) ≡ good ns
unfolding row_of row_from
row_of_line row ns r =
    let w = digits_without comma (λ z. eqb-false digit comma refl z) ns in
    let e = fields_of_line (row_letter row) (map digits ns) (row_letter-comma row) w in
    let n : length (map digits ns) ≡ row_count row = length-map ns digits ∙ r.count in
    let b = row_bounds-digits row (get_or ns 0 0) ns r.count r.small r.fits in
    let l : length ns ≡ length (row_bounds row (get_or ns 0 0)) = r.count ∙ sym
    (row_bounds-length row (get_or ns 0 0)) in
    let q = rw n at e in
    rw (q, row_from, b) (numbers_of-digits (row_bounds row (get_or ns 0 0)) ns l r.small r.fits)

-- what reads was written so
pub line_of_row_of : (row : Row) (line ns : List ℕ) → row_of row line ≡ good ns
    → (line ≡ line_of (row_letter row) (map digits ns)) × RowNumbers row ns
unfolding row_of row_from
line_of_row_of row line ns h = by_fields (fields_of (row_letter row) (row_count row) line) refl h
  where
    by_fields : (l : Line (List (List ℕ))) → fields_of (row_letter row) (row_count row) line ≡ l → row_from row l ≡
        good ns
        → (line ≡ line_of (row_letter row) (map digits ns)) × RowNumbers row ns
    by_fields (good fs) e q =
        let f = line_of_fields_of (row_letter row) fs (row_count row) line e in
        let states : ℕ = states_of fs in
        let d = digits_of-numbers_of (row_bounds row states) fs ns (f.1 ∙ sym (row_bounds-length row states)) q in
        let n = sym (length-map ns digits) ∙ ap length (sym d.0) ∙ f.1 in
        let b = row_bounds-digits row states ns n d.1 d.2 in
        let s = ap (λ (x : List (List ℕ)). row_bounds row (states_of x)) d.0 ∙ b in (
          f.0 ∙ ap (line_of (row_letter row)) d.0,
          record {
            count = n;
            small = d.1;
            fits = subst (λ (bs : List Bounds). T (fits? bs ns)) s d.2;
          },
        )
    by_fields (bad fault) e q = let z : ◌≡◌ {A = ℕ} 0 1 = cc in absurd (omega arith)
