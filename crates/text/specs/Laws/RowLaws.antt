-- The kinds of rows, and numbers in front of others.
-- Document 01, "The text"; document 02, (i). Assumes nothing.
use Rattle.std.specs.Prelude.{Bool, true, false, List, [], ◌∷◌, ◌++◌, ◌≡◌, refl, ℕ, ◌+◌, ◌≤◌, ◌<◌, length, drop, get_or}
use Rattle.std.specs.Prelude.{Result, Ok, Err}
use Rattle.std.proofs.Common.{append_assoc, inl, inr, sym, ap, add-one, arith, drop-cons, eq-eqb, ne_eqb}
use Rattle.text.specs.declared.Fault.{Fault}
use Rattle.text.specs.declared.number.Bounds.{Bounds}
use Rattle.text.specs.declared.number.NumberFault.{NumberFault}
use Rattle.text.specs.declared.number.NumberFault.TheVariants.{BadDigits, Outside}
use Rattle.text.specs.declared.row.Row.{Row}
use Rattle.text.specs.declared.row.Row.TheVariants.{HeadRow, StartRow, StepRow}
use Rattle.text.specs.Bytes.{capital, comma, line_end, kind_of}
use Rattle.text.specs.Numbers.{number_in}
use Rattle.text.specs.Lines.{Line, good, bad, cons_number, numbers_of}
use Rattle.text.specs.Lines.{head_bounds, start_bounds, step_bounds, row_letter, row_count, row_bounds, value_or0}
use Rattle.text.specs.Lines.{states_of}
use Rattle.text.specs.Inner.NumberAt.{Separator}
use Rattle.text.specs.Inner.Row.{separator_kind, prepend}
use Rattle.text.specs.Laws.SplitLaws.{Is, same, other, is}

-- ---- the kinds of rows

pub row_letter-capital : (row : Row) → kind_of (row_letter row) ≡ capital
unfolding kind_of row_letter
row_letter-capital HeadRow = refl
row_letter-capital (StartRow h) = refl
row_letter-capital (StepRow h) = refl

pub row_count_pos : (row : Row) → 0 < row_count row
unfolding row_count
row_count_pos HeadRow = omega arith
row_count_pos (StartRow h) = omega arith
row_count_pos (StepRow h) = omega arith

pub row_bounds-length : (row : Row) (states : ℕ) → length (row_bounds row states) ≡ row_count row
unfolding row_bounds row_count head_bounds start_bounds step_bounds
row_bounds-length HeadRow states = refl
row_bounds-length (StartRow h) states = refl
row_bounds-length (StepRow h) states = refl

-- the bounds of the first number depend on none
pub row_bounds_first : (row : Row) (a b : ℕ) (d : Bounds) → get_or (row_bounds row a) 0 d ≡ get_or (row_bounds row b)
    0 d
unfolding row_bounds head_bounds start_bounds step_bounds
row_bounds_first HeadRow a b d = refl
row_bounds_first (StartRow h) a b d = refl
row_bounds_first (StepRow h) a b d = refl

-- the others may depend on the first, by its own bounds
pub row_bounds_states : (row : Row) (f : List ℕ) (fs : List (List ℕ)) (a : ℕ) (d : Bounds) (number : Result ℕ NumberFault)
    → number_in (get_or (row_bounds row a) 0 d) f ≡ number
    → row_bounds row (value_or0 number) ≡ row_bounds row (states_of (f ∷ fs))
unfolding row_bounds head_bounds states_of
row_bounds_states HeadRow f fs a d number e = ap (λ (n : Result ℕ NumberFault). row_bounds HeadRow (value_or0 n)) (sym e)
row_bounds_states (StartRow h) f fs a d number e = refl
row_bounds_states (StepRow h) f fs a d number e = refl

pub separator_kind_last : (i n : ℕ) → i ≡ n → separator_kind i n ≡ line_end
unfolding separator_kind
separator_kind_last i n h = rw (eq-eqb i n h)

pub separator_kind_other : (i n : ℕ) → (i ≡ n → ⊥) → separator_kind i n ≡ comma
unfolding separator_kind
separator_kind_other i n h = rw (ne_eqb i n h)

pub row_count_le : (row : Row) → row_count row ≤ 4
unfolding row_count
row_count_le HeadRow = omega arith
row_count_le (StartRow h) = omega arith
row_count_le (StepRow h) = omega arith

pub separator_kind_separator : (i n : ℕ) → Separator (separator_kind i n)
separator_kind_separator i n = go (is i n)
  where
    go : Is i n → Separator (separator_kind i n)
    go (same e) = inr (separator_kind_last i n e)
    go (other e) = inl (separator_kind_other i n e)

-- a field with a number in or outside its bounds has no bad digits
pub not_bad_value : {number : Result ℕ NumberFault} {v : ℕ} → number ≡ Ok v → number ≡ Err BadDigits → ⊥
not_bad_value h e = let z : ◌≡◌ {A = ℕ} 0 1 = cc in omega arith

pub not_bad_outside : {number : Result ℕ NumberFault} → number ≡ Err Outside → number ≡ Err BadDigits → ⊥
not_bad_outside h e = let z : ◌≡◌ {A = ℕ} 0 1 = cc in omega arith

-- ---- numbers in front of others

pub prepend-nil : (l : Line (List ℕ)) → prepend false [] l ≡ l
prepend-nil (good ms) = refl
prepend-nil (bad fault) = refl

pub prepend_bad : (outside : Bool) (ns : List ℕ) (fault : Fault) → prepend outside ns (bad fault) ≡ bad fault
prepend_bad true ns fault = refl
prepend_bad false ns fault = refl

pub prepend_value : (outside : Bool) (ns : List ℕ) (v : ℕ) (l : Line (List ℕ))
    → prepend outside ns (cons_number (Ok v) l) ≡ prepend outside (ns ++ (v ∷ [])) l
unfolding cons_number
prepend_value false ns v (good ms) = ap good (sym (append_assoc ns (v ∷ []) ms))
prepend_value true ns v (good ms) = refl
prepend_value false ns v (bad fault) = refl
prepend_value true ns v (bad fault) = refl

pub prepend_outside : (outside : Bool) (ns ms : List ℕ) (l : Line (List ℕ))
    → prepend outside ns (cons_number (Err Outside) l) ≡ prepend true ms l
unfolding cons_number
prepend_outside false ns ms (good l) = refl
prepend_outside true ns ms (good l) = refl
prepend_outside false ns ms (bad fault) = refl
prepend_outside true ns ms (bad fault) = refl

pub numbers_of-cons : (bs : List Bounds) (i : ℕ) (d : Bounds) (f : List ℕ) (fs : List (List ℕ)) → i < length bs
    → numbers_of (drop i bs) (f ∷ fs) ≡ cons_number (number_in (get_or bs i d) f) (numbers_of (drop (i + 1) bs) fs)
unfolding numbers_of
numbers_of-cons bs i d f fs l = rw (drop-cons bs i d l, add-one)

pub numbers_of-nil : (bs : List Bounds) → numbers_of bs [] ≡ good []
unfolding numbers_of
numbers_of-nil [] = refl
numbers_of-nil (b ∷ bs) = refl
