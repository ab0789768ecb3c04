-- Lines that are read one after the other, whatever they are lines of.
-- Document 01, "The text". Assumes nothing.
use Rattle.std.proofs.Common.{Bool, true, false, cond, ◌≡◌, refl, T, List, [], ◌∷◌, ◌++◌, map, append_assoc, append-nil}
use Rattle.std.proofs.Common.{sym, ◌∙◌, ℕ, zero, suc, ◌+◌, ◌<◌, arith}
use Rattle.std.proofs.Math.Path.{ap}
use Rattle.std.proofs.Math.ListN.{length, length-append}
use Rattle.text.specs.declared.Fault.{Fault}
use Rattle.text.specs.Model.{Model}
use Rattle.text.specs.Lines.{Line, good, bad}
use Rattle.model.specs.Reading.{Reading, done, faulty, on_line, or_fault}
use Rattle.model.specs.WellFormed.{EachAfter}
use Rattle.model.specs.Inner.StatedLines.{Stated}

-- ---- a line, if it is there and good

pub on_line-cons : (k : ℕ) (line : List ℕ) (rest : List (List ℕ)) (read : List ℕ → List (List ℕ) → Reading)
    → 0 < length rest → on_line k (line ∷ rest) read ≡ read line rest
unfolding on_line
on_line-cons k line [] read h = absurd (omega arith)
on_line-cons k line (part ∷ parts) read h = refl

pub on_line-done : (k : ℕ) (parts : List (List ℕ)) (read : List ℕ → List (List ℕ) → Reading) (m : Model)
    → on_line k parts read ≡ done m
    → (line : List ℕ) × (rest : List (List ℕ)) × (parts ≡ line ∷ rest) × (0 < length rest) × (read line rest ≡ done m)
unfolding on_line
on_line-done k [] read m h = let z : ◌≡◌ {A = ℕ} 0 1 = cc in absurd (omega arith)
on_line-done k (line ∷ []) read m h = let z : ◌≡◌ {A = ℕ} 0 1 = cc in absurd (omega arith)
on_line-done k (line ∷ part ∷ parts) read m h = (line, part ∷ parts, refl, omega arith, h)

pub or_fault-done : {A : Type 0} (k : ℕ) (l : Line A) (read : A → Reading) (m : Model) → or_fault k l read ≡ done m
    → (a : A) × (l ≡ good a) × (read a ≡ done m)
unfolding or_fault
or_fault-done k (good a) read m h = (a, refl, h)
or_fault-done k (bad fault) read m h = let z : ◌≡◌ {A = ℕ} 0 1 = cc in absurd (omega arith)

pub cond-done : (b : Bool) (r : Reading) (fault : Fault) (k : ℕ) (m : Model) → cond b r (faulty fault k) ≡ done m
    → T b × (r ≡ done m)
cond-done true r fault k m h = (tt, h)
cond-done false r fault k m h = let z : ◌≡◌ {A = ℕ} 0 1 = cc in absurd (omega arith)

-- ---- lines of one kind, one after the other

-- what holds of what follows the lines, by what held of it
pub stated_after : {A : Type 0} {line : A → List ℕ} {Fits : List A → A → Type 0} {n : ℕ} {before : List A}
    {parts : List (List ℕ)} {P Q : List A → List (List ℕ) → Type 0} → Stated line Fits n before parts P
    → ((xs : List A) (rest : List (List ℕ)) → P xs rest → Q xs rest) → Stated line Fits n before parts Q
stated_after s f = record {
  stated = s.stated;
  rest = s.rest;
  count = s.count;
  lines = s.lines;
  fit = s.fit;
  after = f s.stated s.rest s.after;
}

-- `read n k before parts` reads n lines of the kind, of which the first is line k, after what is in `before`
module _ {A : Type 0} (line : A → List ℕ) (Fits : List A → A → Type 0) (of : List A → List ℕ → Line A)
    (read : ℕ → ℕ → List A → List (List ℕ) → Reading)
    (read-suc : (n k : ℕ) (before : List A) (parts : List (List ℕ)) → read (suc n) k before parts
    ≡ on_line k parts (λ l rest. or_fault k (of before l) (λ x. read n (suc k) (before ++ (x ∷ [])) rest))) where
  pub lines_read : ((before : List A) (x : A) → Fits before x → of before (line x) ≡ good x)
      → (xs : List A) (k : ℕ) (before : List A) (parts : List (List ℕ)) → 0 < length parts → EachAfter Fits before xs
      → read (length xs) k before (map line xs ++ parts) ≡ read 0 (k + length xs) (before ++ xs) parts
  unfolding EachAfter or_fault
  lines_read reads [] k before parts l e = let z : k + 0 ≡ k = omega arith in rw (append-nil, z)
  lines_read reads (x ∷ xs) k before parts l e =
      let n : 0 < length (map line xs ++ parts) = simp length-append (omega arith) in
      let q = lines_read reads xs (suc k) (before ++ (x ∷ [])) parts l e.1 in
      let z : suc k + length xs ≡ k + suc (length xs) = omega arith in
      read-suc (length xs) k before (line x ∷ (map line xs ++ parts))
      ∙ on_line-cons k (line x) (map line xs ++ parts) _ n
      ∙ rw (reads before x e.0, or_fault, q, append_assoc, z)

  regroup : (next : ℕ) (before : List A) (x : A) (xs : List A) (rest : List (List ℕ)) (m : Model)
      → read 0 next (before ++ (x ∷ []) ++ xs) rest ≡ done m
      → read 0 next (before ++ (x ∷ xs)) rest ≡ done m
  regroup next before x xs rest m h = rw append_assoc at h

  pub lines_of_done : ((before : List A) (l : List ℕ) (x : A) → of before l ≡ good x → (l ≡ line x) × Fits before x)
      → (n k : ℕ) (before : List A) (parts : List (List ℕ)) (m : Model) → read n k before parts ≡ done m
      → Stated line Fits n before parts (λ xs rest. (next : ℕ) × (read 0 next (before ++ xs) rest ≡ done m))
  unfolding EachAfter
  lines_of_done states zero k before parts m h =
      record { stated = []; rest = parts; count = refl; lines = refl; fit = tt; after = (k, rw append-nil h) }
  lines_of_done states (suc n) k before parts m h =
      let o = on_line-done k parts _ m (sym (read-suc n k before parts) ∙ h) in
      let f = or_fault-done k (of before o.0) _ m o.4 in
      let s = states before o.0 f.0 f.1 in
      let i = lines_of_done states n (suc k) (before ++ (f.0 ∷ [])) o.1 m f.2 in
      record {
        stated = f.0 ∷ i.stated;
        rest = i.rest;
        count = ap suc i.count;
        lines = cc;
        fit = (s.1, i.fit);
        after = (i.after.0, regroup i.after.0 before f.0 i.stated i.rest m i.after.1);
      }
