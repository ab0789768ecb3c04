-- The place of a refusal of Read has 16 bits: a text has at most one part more than bytes, and a line may be missing
-- after the last.
-- Document 01, "Refused because of the input": "The place is the line, counted from 1." Assumes nothing.
use Rattle.std.specs.Prelude.{Bool, true, false, cond, ◌≡◌, refl, ltb, length}
use mathlib.Core.List.{List, [], ◌∷◌}
use Prim.Native.Nat.{ℕ, zero, suc, ◌+◌, ◌≤◌, ◌<◌}
use native.Mathlib.Omega.{arith}
use Rattle.std.proofs.Common.{ltb-false}
use Rattle.text.specs.Bytes.{byte_e, line_end}
use Rattle.text.specs.Faults.{refuses}
use Rattle.text.specs.Limits.{text_limit}
use Rattle.text.specs.Lines.{Line, good, bad, head_of, action_of, start_of, step_of}
use Rattle.text.specs.Model.{Model, some_high?, with_action, with_extra_start, with_step}
use Rattle.read_write.specs.ReadPromise.{reading_outcome}
use Rattle.model.specs.Reading.{Reading, done, too_long, faulty, on_line, or_fault, read_nothing, read_end, read_steps}
use Rattle.model.specs.Reading.{start_lines, read_starts, behind_actions, read_actions, head_model, read_model}
use Rattle.model.specs.Reading.{read_text}
use Rattle.text.specs.Split.{split, same?}
use Rattle.text.specs.Laws.SplitLaws.{split-length_le}

module _ (n : ℕ) where
  -- The place of a faulty line is at most n.
  abbrev PlaceLe : Reading → Type 0
  PlaceLe (done m) = Unit {0}
  PlaceLe too_long = Unit {0}
  PlaceLe (faulty fault place) = place ≤ n

  place_cond : (b : Bool) (x y : Reading) → PlaceLe x → PlaceLe y → PlaceLe (cond b x y)
  place_cond true x y p q = p
  place_cond false x y p q = q

  -- line k and the parts from it on: as many lines may still be told
  place_on_line : (k : ℕ) (parts : List (List ℕ)) (read : List ℕ → List (List ℕ) → Reading) → k + length parts ≤ n
      → ((line : List ℕ) (rest : List (List ℕ)) → suc k + length rest ≤ n → PlaceLe (read line rest))
      → PlaceLe (on_line k parts read)
  unfolding on_line
  place_on_line k [] read l h = omega arith
  place_on_line k (line ∷ []) read l h = omega arith
  place_on_line k (line ∷ part ∷ parts) read l h = h line (part ∷ parts) (omega arith)

  place_or_fault : {A : Type 0} (k : ℕ) (x : Line A) (read : A → Reading) → k ≤ n → ((a : A) → PlaceLe (read a))
      → PlaceLe (or_fault k x read)
  unfolding or_fault
  place_or_fault k (good a) read l h = h a
  place_or_fault k (bad fault) read l h = l

  place_nothing : (k : ℕ) (m : Model) (parts : List (List ℕ)) → k ≤ n → PlaceLe (read_nothing k m parts)
  unfolding read_nothing
  place_nothing k m [] l = tt
  place_nothing k m ([] ∷ []) l = tt
  place_nothing k m ([] ∷ part ∷ parts) l = l
  place_nothing k m ((b ∷ bs) ∷ parts) l = l

  place_end : (k : ℕ) (m : Model) (parts : List (List ℕ)) → k + length parts ≤ n → PlaceLe (read_end k m parts)
  unfolding read_end
  place_end k m parts l = place_on_line k parts _ l (λ line rest h.
      let z : suc k ≤ n = omega (arith, h) in
      place_cond (same? line (byte_e ∷ [])) _ _ (place_nothing (suc k) m rest z) (omega arith))

  place_steps : (i k : ℕ) (m : Model) (parts : List (List ℕ)) → k + length parts ≤ n → PlaceLe (read_steps i k m parts)
  unfolding read_steps
  place_steps zero k m parts l = place_end k m parts l
  place_steps (suc i) k m parts l = place_on_line k parts _ l (λ line rest h.
      place_or_fault k (step_of m.head m.steps line) _ (omega arith) (λ s.
      place_steps i (suc k) (with_step m s) rest h))

  place_starts : (i k : ℕ) (m : Model) (parts : List (List ℕ)) → k + length parts ≤ n → PlaceLe
      (read_starts i k m parts)
  unfolding read_starts
  place_starts zero k m parts l = place_steps m.head.steps k m parts l
  place_starts (suc i) k m parts l = place_on_line k parts _ l (λ line rest h.
      place_or_fault k (start_of m.head m.extra_starts line) _ (omega arith) (λ p.
      place_starts i (suc k) (with_extra_start m p) rest h))

  place_actions : (i k : ℕ) (m : Model) (parts : List (List ℕ)) → k + length parts ≤ n
      → PlaceLe (read_actions i k m parts)
  unfolding read_actions behind_actions
  place_actions zero k m parts l =
      place_cond (some_high? m.actions) _ _ (place_starts (start_lines parts) k m parts l) (omega arith)
  place_actions (suc i) k m parts l = place_on_line k parts _ l (λ line rest h.
      place_or_fault k (action_of m.actions line) _ (omega arith) (λ a.
      place_actions i (suc k) (with_action m a) rest h))

  place_model : (parts : List (List ℕ)) → 1 + length parts ≤ n → PlaceLe (read_model parts)
  unfolding read_model
  place_model parts l = place_on_line 1 parts _ l (λ line rest h.
      place_or_fault 1 (head_of line) _ (omega arith) (λ head.
      place_actions head.actions 2 (head_model head) rest h))

place_text : (text : List ℕ) → PlaceLe (text_limit + 2) (read_text text)
unfolding read_text
place_text text = by_test (ltb text_limit (length text)) refl
  where
    by_test : (t : Bool) → ltb text_limit (length text) ≡ t
        → PlaceLe (text_limit + 2) (cond t too_long (read_model (split line_end text)))
    by_test true e = tt
    by_test false e =
        let l = ltb-false text_limit (length text) e in
        let n = split-length_le line_end text in
        place_model (text_limit + 2) (split line_end text) (omega arith)

pub reading_place_lt : (text : List ℕ) (number place : ℕ) → reading_outcome (read_text text) ≡ refuses number place
    → place < 65536
unfolding reading_outcome
reading_place_lt text number place e = go (read_text text) (place_text text) e
  where
    go : (r : Reading) → PlaceLe (text_limit + 2) r → reading_outcome r ≡ refuses number place → place < 65536
    go (done m) l e = let z : ◌≡◌ {A = ℕ} 0 1 = cc in absurd (omega arith)
    go too_long l e = let z : ◌≡◌ {A = ℕ} 0 place = cc in omega (arith, z)
    go (faulty fault line) l e = let z : ◌≡◌ {A = ℕ} line place = cc in omega (arith, z, l)
