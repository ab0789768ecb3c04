-- The lengths of lines, and the texts of listed lines: one more, and room for one more.
-- Document 01, "The text"; document 02, (iii). Assumes nothing.
use Rattle.std.specs.Prelude.{◌≡◌, refl, List, [], ◌∷◌, ◌++◌, ℕ, zero, suc, ◌+◌, ◌-◌, ◌≤◌, ◌<◌, length}
use Rattle.std.proofs.Common.{sym, arith, suc-add, zero-add, add-one, length-append}
use Rattle.text.specs.declared.Head.{Head}
use Rattle.text.specs.declared.StepLine.{StepLine}
use Rattle.text.specs.Model.{ActionLine, Model}
use Rattle.model.specs.Laws.Store.BlocksLaws.{blocks-snoc}
use Rattle.text.specs.Numbers.{digits}
use Rattle.model.specs.StoredModel.{listed}
use Rattle.model.specs.Text.{head_text, action_text, start_text, step_text, actions_text, starts_text, steps_text}
use Rattle.model.specs.Text.{model_text}

-- ---- lengths of lines

pub head_text-length : (h : Head) → length (head_text h)
    ≡ length (digits h.states)
    + length (digits h.actions)
    + length (digits h.steps)
    + length (digits h.start.0)
    + 6
unfolding head_text
head_text-length h = simp length-append (omega arith)

pub action_text-length : (a : ActionLine) → length (action_text a) ≡ length a.name + 5
unfolding action_text
action_text-length a = simp length-append (omega arith)

pub start_text-length : (p : ℕ) → length (start_text p) ≡ length (digits p) + 3
unfolding start_text
start_text-length p = simp length-append (omega arith)

pub step_text-length : (s : StepLine) → length (step_text s)
    ≡ length (digits s.source.0) + length (digits s.action.0) + length (digits s.target.0) + 5
unfolding step_text
step_text-length s = simp length-append (omega arith)

-- ---- lines one after the other, whatever a line is

module _ {A : Type 0} (line : A → List ℕ) (text : List A → List ℕ) (nil : text [] ≡ [])
    (cons : (x : A) (xs : List A) → text (x ∷ xs) ≡ line x ++ text xs) where
  text_suc : (f : ℕ → A) (n : ℕ) → text (listed (suc n) f) ≡ text (listed n f) ++ line (f n)
  unfolding listed
  text_suc f n = blocks-snoc line text nil cons (listed n f) (f n)

  -- more lines are no shorter
  text_le : (f : ℕ → A) (i k : ℕ) → length (text (listed i f)) ≤ length (text (listed (k + i) f))
  text_le f i zero = rw zero-add (omega arith)
  text_le f i (suc k) = rw (suc-add, text_suc, length-append) (omega (arith, text_le f i k))

  -- there is room for line i in room for n lines
  text_room : (f : ℕ → A) (i n : ℕ) → i < n
      → length (text (listed i f)) + length (line (f i)) ≤ length (text (listed n f))
  text_room f i n h =
      let e : n - suc i + suc i ≡ n = omega arith in
      rw (e, text_suc f i, length-append) at (text_le f (suc i) (n - suc i))

-- ---- the lines of actions, of extra starts, and of steps

actions_text-cons : (a : ActionLine) (rest : List ActionLine) → actions_text (a ∷ rest) ≡ action_text a ++
    actions_text rest
unfolding actions_text
actions_text-cons a rest = refl

starts_text-cons : (p : ℕ) (rest : List ℕ) → starts_text (p ∷ rest) ≡ start_text p ++ starts_text rest
unfolding starts_text
starts_text-cons p rest = refl

steps_text-cons : (s : StepLine) (rest : List StepLine) → steps_text (s ∷ rest) ≡ step_text s ++ steps_text rest
unfolding steps_text
steps_text-cons s rest = refl

pub actions_text-nil : actions_text [] ≡ []
unfolding actions_text
actions_text-nil = refl

pub starts_text-nil : starts_text [] ≡ []
unfolding starts_text
starts_text-nil = refl

pub steps_text-nil : steps_text [] ≡ []
unfolding steps_text
steps_text-nil = refl

pub actions_text_next : (f : ℕ → ActionLine) (i : ℕ)
    → actions_text (listed i f) ++ action_text (f i) ≡ actions_text (listed (i + 1) f)
actions_text_next f i = rw add-one (sym (text_suc action_text actions_text actions_text-nil actions_text-cons f i))

pub starts_text_next : (f : ℕ → ℕ) (i : ℕ)
    → starts_text (listed i f) ++ start_text (f i) ≡ starts_text (listed (i + 1) f)
starts_text_next f i = rw add-one (sym (text_suc start_text starts_text starts_text-nil starts_text-cons f i))

pub steps_text_next : (f : ℕ → StepLine) (j : ℕ)
    → steps_text (listed j f) ++ step_text (f j) ≡ steps_text (listed (j + 1) f)
steps_text_next f j = rw add-one (sym (text_suc step_text steps_text steps_text-nil steps_text-cons f j))

pub actions_text-room : (f : ℕ → ActionLine) (i n : ℕ) → i < n
    → length (actions_text (listed i f)) + length (action_text (f i)) ≤ length (actions_text (listed n f))
actions_text-room f i n h = text_room action_text actions_text actions_text-nil actions_text-cons f i n h

pub starts_text-room : (f : ℕ → ℕ) (i n : ℕ) → i < n
    → length (starts_text (listed i f)) + length (start_text (f i)) ≤ length (starts_text (listed n f))
starts_text-room f i n h = text_room start_text starts_text starts_text-nil starts_text-cons f i n h

pub steps_text-room : (f : ℕ → StepLine) (j n : ℕ) → j < n
    → length (steps_text (listed j f)) + length (step_text (f j)) ≤ length (steps_text (listed n f))
steps_text-room f j n h = text_room step_text steps_text steps_text-nil steps_text-cons f j n h

-- ---- the text

pub model_text-length : (m : Model) → length (model_text m)
    ≡ length (head_text m.head)
    + length (actions_text m.actions)
    + length (starts_text m.extra_starts)
    + length (steps_text m.steps)
    + 2
unfolding model_text
model_text-length m = simp length-append
