-- The line of an action reads back to it, and only that line does.
-- Document 01, "The text"; document 02, (vii). Assumes nothing.
use Rattle.std.proofs.Common.{Bool, true, false, cond, not, ◌⊎◌, ℕ, zero, suc, ◌≤◌, ◌<◌, eqb, length, get_or, List, []}
use Rattle.std.proofs.Common.{◌∷◌, inl, inr, ◌∙◌, subst, eqb→eq, arith}
use Rattle.std.proofs.Math.Path.{◌≡◌, refl, ap}
use Rattle.std.proofs.Math.Dec.{T}
use borrow.Author.Tests.{eqb-false}
use Rattle.lts.proofs.TestsLaws.{and_left, and_right, or_cases, not-T→false}
use Rattle.text.specs.declared.Fault.TheVariants.{Shape, Repeated}
use Rattle.text.specs.Bytes.{kind_of, between?, digit, small_letter, capital, comma, byte_a, byte_d, byte_h, byte_l}
use Rattle.text.specs.Bytes.{byte_t}
use Rattle.text.specs.Limits.{name_limit}
use Rattle.text.specs.Laws.BytesLaws.{between?→le, digit_within, small_letter_within}
use Rattle.text.specs.Split.{same?}
use Rattle.text.specs.Laws.SameLaws.{same?→eq}
use Rattle.text.specs.All.{All}
use Rattle.text.specs.Laws.AllLaws.{all_of_all}
use Rattle.text.specs.Model.{low, release, high, silent, last_level, ActionLine}
use Rattle.text.specs.Lines.{Line, good, bad, fields_of, level_of, all_of, name_byte?, name?, name_from, used?}
use Rattle.text.specs.Lines.{action_fields, action_from, action_of}
use Rattle.text.specs.Laws.FieldsLaws.{good-checked}
use Rattle.model.specs.Text.{level_byte}
use Rattle.model.specs.WellFormed.{ActionFits}
use Rattle.model.specs.Inner.LineText.{line_of, line_of_action, NameByte}
use Rattle.model.specs.Laws.Text.JoinedFieldsLaws.{checked_good, fields_of_line, line_of_fields_of}

-- ---- levels

pub level_of-level_byte : (level : ℕ) → level ≤ last_level → level_of (level_byte level ∷ []) ≡ good level
unfolding level_of level_byte same?
level_of-level_byte zero h = refl
level_of-level_byte (suc zero) h = refl
level_of-level_byte (suc (suc zero)) h = refl
level_of-level_byte (suc (suc (suc zero))) h = refl
level_of-level_byte (suc (suc (suc (suc n)))) h = absurd (omega arith)

pub byte_of-level_of : (f : List ℕ) (level : ℕ) → level_of f ≡ good level
    → (f ≡ level_byte level ∷ []) × (level ≤ last_level)
unfolding level_of level_byte
byte_of-level_of f level h =
    by_test (same? f (byte_l ∷ [])) (same?→eq f (byte_l ∷ [])) (same? f (byte_d ∷ [])) (same?→eq f (byte_d ∷ []))
    (same? f (byte_h ∷ [])) (same?→eq f (byte_h ∷ [])) (same? f (byte_t ∷ [])) (same?→eq f (byte_t ∷ [])) h
  where
    by_test : (s : Bool) → (T s → f ≡ byte_l ∷ []) → (t : Bool) → (T t → f ≡ byte_d ∷ [])
        → (u : Bool) → (T u → f ≡ byte_h ∷ []) → (v : Bool) → (T v → f ≡ byte_t ∷ [])
        → ◌≡◌ {A = Line ℕ}
        (cond s (good low) (cond t (good release) (cond u (good high) (cond v (good silent) (bad Shape)))))
        (good level)
        → (f ≡ level_byte level ∷ []) × (level ≤ last_level)
    by_test true a t b u c v d q = let e : 0 ≡ level = cc in (a tt ∙ rw (← e), omega arith)
    by_test false a true b u c v d q = let e : 1 ≡ level = cc in (b tt ∙ rw (← e), omega arith)
    by_test false a false b true c v d q = let e : 2 ≡ level = cc in (c tt ∙ rw (← e), omega arith)
    by_test false a false b false c true d q = let e : 3 ≡ level = cc in (d tt ∙ rw (← e), omega arith)
    by_test false a false b false c false d q = let z : ◌≡◌ {A = ℕ} 0 1 = cc in absurd (omega arith)

-- ---- names

all_of-name : (f : List ℕ) → T (all_of name_byte? f) → All NameByte f
unfolding all_of name_byte?
all_of-name [] t = tt
all_of-name (b ∷ bs) t =
    let first = and_left (name_byte? b) (all_of name_byte? bs) t in (
      by_test (or_cases (eqb (kind_of b) digit) (eqb (kind_of b) small_letter) first),
      all_of-name bs (and_right (name_byte? b) (all_of name_byte? bs) t),
    )
  where
    by_test : T (eqb (kind_of b) digit) ⊎ T (eqb (kind_of b) small_letter) → NameByte b
    by_test (inl u) = inl (eqb→eq (kind_of b) digit u)
    by_test (inr u) = inr (eqb→eq (kind_of b) small_letter u)

pub name_bytes : (f : List ℕ) → T (name? f) → All NameByte f
unfolding name?
name_bytes f t = all_of-name f (and_right (between? 1 name_limit (length f)) (all_of name_byte? f) t)

pub name-length : (f : List ℕ) → T (name? f) → (1 ≤ length f) × (length f ≤ name_limit)
unfolding name?
name-length f t = between?→le 1 name_limit (length f) (and_left (between? 1 name_limit (length f))
    (all_of name_byte? f) t)

pub name_byte_lt : (b : ℕ) → NameByte b → b < 256
name_byte_lt b (inl e) = let w = digit_within b e in omega arith
name_byte_lt b (inr e) = let w = small_letter_within b e in omega arith

name_byte_without : (b : ℕ) → NameByte b → kind_of b ≡ comma → ⊥
name_byte_without b (inl e) h = omega arith
name_byte_without b (inr e) h = omega arith

pub level_byte-capital : (level : ℕ) → kind_of (level_byte level) ≡ capital
unfolding level_byte kind_of
level_byte-capital level = by_test (eqb level low) (eqb level release) (eqb level high)
  where
    by_test : (s t u : Bool) → kind_of (cond s byte_l (cond t byte_d (cond u byte_h byte_t))) ≡ capital
    by_test true t u = refl
    by_test false true u = refl
    by_test false false true = refl
    by_test false false false = refl

-- ---- `A,level,name`

fields_two : (fs : List (List ℕ)) → length fs ≡ 2 → fs ≡ get_or fs 0 [] ∷ get_or fs 1 [] ∷ []
fields_two [] h = absurd (omega arith)
fields_two (f ∷ []) h = absurd (omega arith)
fields_two (f ∷ g ∷ []) h = refl
fields_two (f ∷ g ∷ k ∷ fs) h = absurd (omega arith)

pub good-name_from : (l : Line ℕ) (f : List ℕ) (a : ActionLine) → name_from l f ≡ good a
    → (l ≡ good a.level) × (f ≡ a.name) × T (name? a.name)
unfolding name_from
good-name_from (good level) f a h =
    let c = good-checked Shape (name? f) (record { level = level; name = f }) a h in
    let n : f ≡ a.name = ap (λ (x : ActionLine). x.name) c.1 in
    (ap (λ (x : ActionLine). good x.level) c.1, n, subst (λ (x : List ℕ). T (name? x)) n c.0)
good-name_from (bad fault) f a h = let z : ◌≡◌ {A = ℕ} 0 1 = cc in absurd (omega arith)

good-action_from : (before : List ActionLine) (l : Line ActionLine) (a : ActionLine) → action_from before l ≡ good a
    → (l ≡ good a) × T (not (used? a.name before))
unfolding action_from
good-action_from before (good b) a h = by_test (used? b.name before) refl h
  where
    by_test : (t : Bool) → used? b.name before ≡ t → cond t (bad Repeated) (good b) ≡ good a
        → (good b ≡ good a) × T (not (used? a.name before))
    by_test true e q = let z : ◌≡◌ {A = ℕ} 0 1 = cc in absurd (omega arith)
    by_test false e q =
        let k : b ≡ a = cc in
        (q, subst (λ (x : ActionLine). T (not (used? x.name before))) k (rw e tt))
good-action_from before (bad fault) a h = let z : ◌≡◌ {A = ℕ} 0 1 = cc in absurd (omega arith)

module _ (before : List ActionLine) where
  pub action_of_line : (a : ActionLine) → ActionFits before a → action_of before (line_of_action a) ≡ good a
  unfolding action_of action_from action_fields name_from kind_of
  action_of_line a f =
      let c = level_byte-capital a.level in
      let level : kind_of (level_byte a.level) ≡ comma → ⊥ = λ z. omega arith in
      let bytes = name_bytes a.name f.name in
      let name = all_of_all NameByte (λ b. kind_of b ≡ comma → ⊥) name_byte_without a.name bytes in
      let fs : List (List ℕ) = (level_byte a.level ∷ []) ∷ a.name ∷ [] in
      let e = fields_of_line byte_a fs (λ z. eqb-false 3 4 refl z) ((level, tt), (name, tt)) in
      let n = checked_good Shape (name? a.name) a f.name in
      let u = not-T→false (used? a.name before) f.fresh in
      rw (e, action_fields, level_of-level_byte a.level f.level, name_from, n, action_from, u)

  pub line_of_action_of : (line : List ℕ) (a : ActionLine) → action_of before line ≡ good a
      → (line ≡ line_of_action a) × ActionFits before a
  unfolding action_of action_fields
  line_of_action_of line a q =
      let f = good-action_from before (action_fields (fields_of byte_a 2 line)) a q in
      by_fields f.1 (fields_of byte_a 2 line) refl f.0
    where
      by_fields : T (not (used? a.name before)) → (l : Line (List (List ℕ))) → fields_of byte_a 2 line ≡ l
          → action_fields l ≡ good a → (line ≡ line_of_action a) × ActionFits before a
      by_fields fresh (good fs) e g =
          let n = good-name_from (level_of (get_or fs 0 [])) (get_or fs 1 []) a g in
          let v = byte_of-level_of (get_or fs 0 []) a.level n.0 in
          let w = line_of_fields_of byte_a fs 2 line e in
          let two = fields_two fs w.1 in
          let k : fs ≡ (level_byte a.level ∷ []) ∷ a.name ∷ [] = cc in
          (w.0 ∙ ap (line_of byte_a) k, record { level = v.1; name = n.2; fresh = fresh })
      by_fields fresh (bad fault) e g = let z : ◌≡◌ {A = ℕ} 0 1 = cc in absurd (omega arith)
