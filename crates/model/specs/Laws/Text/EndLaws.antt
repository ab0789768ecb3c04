-- The last line of a text, and nothing behind it, are read, and only they are.
-- Document 01, "The text": "Then `E`, and the text ends." Assumes nothing.
use Rattle.std.proofs.Common.{List, [], ◌∷◌, ◌≡◌, refl, ℕ, suc, ◌<◌, length, arith}
use Rattle.text.specs.Bytes.{byte_e}
use Rattle.text.specs.declared.Fault.TheVariants.{Shape}
use Rattle.text.specs.Split.{same?}
use Rattle.text.specs.Laws.SameLaws.{same?→eq}
use Rattle.text.specs.Model.{Model}
use Rattle.model.specs.Reading.{done, on_line, read_nothing, read_end}
use Rattle.model.specs.Laws.Text.LinesReadLaws.{on_line-done, cond-done}

pub read_end_last : (k : ℕ) (m : Model) → read_end k m ((byte_e ∷ []) ∷ [] ∷ []) ≡ done m
unfolding read_end on_line same? read_nothing
read_end_last k m = refl

read_nothing-done : (k : ℕ) (m n : Model) (parts : List (List ℕ)) → 0 < length parts → read_nothing k m parts ≡ done n
    → (parts ≡ [] ∷ []) × (m ≡ n)
unfolding read_nothing
read_nothing-done k m n [] l h = absurd (omega arith)
read_nothing-done k m n ([] ∷ []) l h = (refl, cc)
read_nothing-done k m n ([] ∷ part ∷ parts) l h = let z : ◌≡◌ {A = ℕ} 0 1 = cc in absurd (omega arith)
read_nothing-done k m n ((b ∷ bs) ∷ parts) l h = let z : ◌≡◌ {A = ℕ} 0 1 = cc in absurd (omega arith)

pub read_end-done : (k : ℕ) (m n : Model) (parts : List (List ℕ)) → read_end k m parts ≡ done n
    → (parts ≡ (byte_e ∷ []) ∷ [] ∷ []) × (m ≡ n)
unfolding read_end
read_end-done k m n parts h =
    let o = on_line-done k parts _ n h in
    let t = cond-done (same? o.0 (byte_e ∷ [])) (read_nothing (suc k) m o.1) Shape k n o.4 in
    let p = o.2 in
    let a = same?→eq o.0 (byte_e ∷ []) t.0 in
    let b = read_nothing-done (suc k) m n o.1 o.3 t.1 in
    let c = b.0 in
    (cc, b.1)
