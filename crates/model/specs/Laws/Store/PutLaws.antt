-- The store of a model is filled from zeros: its first line, then action by action, extra start by extra start and step
-- by step.
-- Document 01, "The model store"; document 02, (iii). Assumes nothing.
use Rattle.std.proofs.Common.{List, [], ◌∷◌, ◌++◌, ◌≡◌, refl, ℕ, zero, suc, ◌+◌, ◌-◌, ◌*◌, ◌≤◌, ◌<◌, length, take, drop}
use Rattle.std.proofs.Common.{get_or}
use Rattle.std.proofs.Common.{set, replicate, append_assoc, append-nil, sym, ap, ◌∙◌, arith, add-one, length-append}
use Rattle.std.proofs.Common.{take-suc}
use Rattle.std.proofs.Common.{drop-cons, length-take-le}
use Rattle.std.proofs.lemmas.List.{length-replicate, replicate-append-replicate, set_at}
use Rattle.std.proofs.lemmas.List.Edits.{sets}
use Rattle.std.proofs.Math.Seq.{append_snoc}
use Rattle.text.specs.declared.Head.{Head}
use Rattle.text.specs.declared.StepLine.{StepLine}
use Rattle.text.specs.Limits.{action_limit, step_limit, extra_limit, name_limit, head_end, action_size, actions_length}
use Rattle.text.specs.Limits.{steps_length, store_length, action_place, step_place, extra_count_place, extra_place}
use Rattle.text.specs.Model.{ActionLine}
use Rattle.model.specs.Reading.{head_model}
use Rattle.model.specs.Store.{padded, action_numbers, actions_numbers, step_row, steps_numbers, head_row}
use Rattle.model.specs.Store.{extra_numbers, store_of}
use Rattle.model.specs.Inner.Sections.{before_steps, before_extra}
use Rattle.model.specs.Inner.StoredActions.{Short}
use Rattle.model.specs.Laws.Store.BlocksLaws.{blocks-snoc}
use Rattle.model.specs.Laws.Store.StoreLaws.{action_numbers-length, steps_numbers-length}
use Rattle.model.specs.Laws.Store.StoreLaws.{before_steps_length, before_extra_length}

-- ---- numbers over zeros

abbrev zeros : ℕ → List ℕ
zeros n = replicate n 0

-- numbers stored where zeros stand
sets-zeros : (p vs r : List ℕ) (m i : ℕ) → length p ≡ i → length vs ≤ m
    → sets (p ++ (zeros m ++ r)) i vs ≡ p ++ (vs ++ (zeros (m - length vs) ++ r))
sets-zeros p [] r m i e h = let z : m - 0 ≡ m = omega arith in rw z
sets-zeros p (v ∷ vs) r zero i e h = absurd (omega arith)
sets-zeros p (v ∷ vs) r (suc m) i e h =
    let n : length (p ++ (v ∷ [])) ≡ suc i = rw length-append (omega arith) in
    let d : suc m - suc (length vs) ≡ m - length vs = omega arith in
    let l : length vs ≤ m = omega arith in
    ap (λ (s : List ℕ). sets s (suc i) vs) (set_at p 0 (zeros m ++ r) v i e ∙ sym (append_snoc p v (zeros m ++ r)))
    ∙ sets-zeros (p ++ (v ∷ [])) vs r m (suc i) n l
    ∙ append_snoc p v (vs ++ (zeros (m - length vs) ++ r))
    ∙ rw d

zeros-split : (m n k : ℕ) → m + n ≡ k → zeros k ≡ zeros m ++ zeros n
zeros-split m n k e = sym (replicate-append-replicate m n 0 ∙ ap zeros e)

-- numbers behind those of a section that are there, over its zeros; r follows the section
sets-padded : (n : ℕ) (p q r vs : List ℕ) (i : ℕ) → length (p ++ q) ≡ i → length q + length vs ≤ n
    → sets (p ++ padded n q ++ r) i vs ≡ p ++ padded n (q ++ vs) ++ r
unfolding padded
sets-padded n p q r vs i e h =
    let k : n - length q - length vs ≡ n - length (q ++ vs) = rw length-append (omega arith) in
    let f : length vs ≤ n - length q = omega arith in
    ap (λ (x : List ℕ). sets x i vs) (simp append_assoc)
    ∙ sets-zeros (p ++ q) vs r (n - length q) i e f
    ∙ rw k (simp append_assoc)

-- the same of the last section
sets-padded_last : (n : ℕ) (p q vs : List ℕ) (i : ℕ) → length (p ++ q) ≡ i → length q + length vs ≤ n
    → sets (p ++ padded n q) i vs ≡ p ++ padded n (q ++ vs)
sets-padded_last n p q vs i e h =
    ap (λ (x : List ℕ). sets x i vs) (sym (append-nil (p ++ padded n q)))
    ∙ sets-padded n p q [] vs i e h
    ∙ append-nil (p ++ padded n (q ++ vs))

-- zeros written out are zeros behind
padded-zeros : (n k : ℕ) (l : List ℕ) → length l + k ≤ n → padded n (l ++ zeros k) ≡ padded n l
unfolding padded
padded-zeros n k l h =
    let e : k + (n - length (l ++ zeros k)) ≡ n - length l = rw (length-append, length-replicate) (omega arith) in
    append_assoc l (zeros k) (zeros (n - length (l ++ zeros k)))
    ∙ ap (λ (x : List ℕ). l ++ x) (sym (zeros-split k (n - length (l ++ zeros k)) (n - length l) e))

-- a list copied over the front of another, one number further
pub copy-suc : (from to : List ℕ) (i : ℕ) → i < length from → i < length to
    → set (take i from ++ drop i to) i (get_or from i 0) ≡ take (i + 1) from ++ drop (i + 1) to
copy-suc from to i h l =
    let k : i ≤ length from = omega arith in
    let n = length-take-le i from k in
    let at = set_at (take i from) (get_or to i 0) (drop (suc i) to) (get_or from i 0) i n in
    rw (add-one, take-suc from i 0 h, drop-cons to i 0 l, at)
    (sym (append_snoc (take i from) (get_or from i 0) (drop (suc i) to)))

-- ---- the first line

-- the zeros behind the first line, section by section
zeros_sections : zeros (store_length - head_end)
    ≡ padded actions_length [] ++ padded steps_length [] ++ extra_numbers []
unfolding padded extra_numbers
zeros_sections =
    zeros-split (actions_length + steps_length) (extra_limit + 1) (store_length - head_end) refl
    ∙ ap (λ (l : List ℕ). l ++ zeros (extra_limit + 1))
    (zeros-split actions_length steps_length (actions_length + steps_length) refl)

pub store_of-head : (h : Head) → sets (replicate store_length 0) 0 (head_row h) ≡ store_of (head_model h)
unfolding head_row store_of actions_numbers steps_numbers
store_of-head h =
    let hp : List ℕ = head_row h in
    ap (λ (s : List ℕ). sets s 0 hp) (sym (append-nil (zeros store_length)))
    ∙ sets-zeros [] hp [] store_length 0 refl (omega arith)
    ∙ ap (λ (s : List ℕ). hp ++ (s ++ [])) zeros_sections
    ∙ simp (append_assoc, append-nil)

-- ---- one more action

actions_numbers-snoc : (actions : List ActionLine) (a : ActionLine)
    → actions_numbers (actions ++ (a ∷ [])) ≡ actions_numbers actions ++ action_numbers a
unfolding actions_numbers
actions_numbers-snoc = blocks-snoc action_numbers actions_numbers refl (λ a rest. refl)

pub actions_numbers-length_of_short : (actions : List ActionLine) → Short actions
    → length (actions_numbers actions) ≡ action_size * length actions
unfolding actions_numbers Short
actions_numbers-length_of_short [] s = refl
actions_numbers-length_of_short (a ∷ rest) s =
    let m = action_numbers-length a s.0 in
    let n = actions_numbers-length_of_short rest s.1 in
    length-append (action_numbers a) (actions_numbers rest) ∙ omega arith

pub short-snoc : (actions : List ActionLine) (a : ActionLine) → Short actions → length a.name ≤ name_limit
    → Short (actions ++ (a ∷ []))
unfolding Short
short-snoc [] a s h = (h, tt)
short-snoc (b ∷ rest) a s h = (s.0, short-snoc rest a s.1 h)

-- the section of the actions, with an action more: zeros behind its name stand there already
actions-padded-snoc : (actions : List ActionLine) (a : ActionLine) → length actions < action_limit → Short actions
    → length a.name ≤ name_limit
    → padded actions_length (actions_numbers actions ++ (a.level ∷ length a.name ∷ a.name))
    ≡ padded actions_length (actions_numbers (actions ++ (a ∷ [])))
unfolding action_numbers padded
actions-padded-snoc actions a l s n =
    let A : List ℕ = actions_numbers actions in
    let vs : List ℕ = a.level ∷ length a.name ∷ a.name in
    let k : ℕ = name_limit - length a.name in
    let la = actions_numbers-length_of_short actions s in
    let f : length (A ++ vs) + k ≤ actions_length = rw length-append (omega arith) in
    let e : A ++ vs ++ zeros k ≡ actions_numbers (actions ++ (a ∷ [])) =
    append_assoc A vs (zeros k) ∙ sym (actions_numbers-snoc actions a) in
    sym (padded-zeros actions_length k (A ++ vs) f) ∙ ap (padded actions_length) e

pub store_of-with_action : (h : Head) (actions : List ActionLine) (ps : List ℕ) (steps : List StepLine) (a : ActionLine)
    (i : ℕ) → length actions ≡ i → i < action_limit → Short actions → length a.name ≤ name_limit
    → sets (store_of (record { head = h; actions = actions; extra_starts = ps; steps = steps })) (action_place i)
    (a.level ∷ length a.name ∷ a.name)
    ≡ store_of (record { head = h; actions = actions ++ (a ∷ []); extra_starts = ps; steps = steps })
unfolding store_of head_row
store_of-with_action h actions ps steps a i c l s n =
    let A : List ℕ = actions_numbers actions in
    let S : List ℕ = padded steps_length (steps_numbers steps) in
    let vs : List ℕ = a.level ∷ length a.name ∷ a.name in
    let la = actions_numbers-length_of_short actions s in
    let m : length (head_row h ++ A) ≡ action_place i = length-append (head_row h) A ∙ omega arith in
    let more = actions-padded-snoc actions a (omega arith) s n in
    ap (λ (x : List ℕ). sets x (action_place i) vs) (append_assoc (before_steps h actions) S (extra_numbers ps))
    ∙ sets-padded actions_length (head_row h) A (S ++ extra_numbers ps) vs (action_place i) m (omega arith)
    ∙ sym (append_assoc (head_row h ++ padded actions_length (A ++ vs)) S (extra_numbers ps))
    ∙ rw more

-- ---- one more extra start

-- the count, and the place behind the i starts that are there
pub store_of-with_extra_start : (h : Head) (actions : List ActionLine) (ps : List ℕ) (p i : ℕ)
    → length (actions_numbers actions) ≤ actions_length → length ps ≡ i → i < extra_limit
    → set (set (store_of (record { head = h; actions = actions; extra_starts = ps; steps = [] })) extra_count_place
    (i + 1))
    (extra_place i) p
    ≡ store_of (record { head = h; actions = actions; extra_starts = ps ++ (p ∷ []); steps = [] })
unfolding store_of extra_numbers
store_of-with_extra_start h actions ps p i f c l =
    let B : List ℕ = before_extra h actions [] in
    let n : length B ≡ extra_count_place = before_extra_length h actions f [] (omega arith) in
    let k : i + 1 ≡ length (ps ++ (p ∷ [])) = sym (length-append ps (p ∷ []) ∙ omega arith) in
    let C : List ℕ = B ++ ((i + 1) ∷ []) in
    let m = length-append B ((i + 1) ∷ []) in
    let at : length (C ++ ps) ≡ extra_place i = length-append C ps ∙ omega arith in
    ap (λ (x : List ℕ). set x (extra_place i) p)
    (set_at B (length ps) (padded extra_limit ps) (i + 1) extra_count_place n
    ∙ sym (append_snoc B (i + 1) (padded extra_limit ps)))
    ∙ sets-padded_last extra_limit C ps (p ∷ []) (extra_place i) at (omega arith)
    ∙ append_snoc B (i + 1) (padded extra_limit (ps ++ (p ∷ [])))
    ∙ rw k

-- ---- one more step

steps_numbers-snoc : (steps : List StepLine) (s : StepLine)
    → steps_numbers (steps ++ (s ∷ [])) ≡ steps_numbers steps ++ step_row s
unfolding steps_numbers
steps_numbers-snoc = blocks-snoc step_row steps_numbers refl (λ s rest. refl)

pub store_of-with_step : (h : Head) (actions : List ActionLine) (ps : List ℕ) (steps : List StepLine) (s : StepLine)
    (j : ℕ) → length (actions_numbers actions) ≤ actions_length → length steps ≡ j → j < step_limit
    → sets (store_of (record { head = h; actions = actions; extra_starts = ps; steps = steps })) (step_place j)
    (step_row s)
    ≡ store_of (record { head = h; actions = actions; extra_starts = ps; steps = steps ++ (s ∷ []) })
unfolding store_of
store_of-with_step h actions ps steps s j f c l =
    let B : List ℕ = before_steps h actions in
    let S : List ℕ = steps_numbers steps in
    let n = before_steps_length h actions f in
    let ls = steps_numbers-length steps in
    let at : length (B ++ S) ≡ step_place j = length-append B S ∙ omega arith in
    sets-padded steps_length B S (extra_numbers ps) (step_row s) (step_place j) at (omega arith)
    ∙ rw (steps_numbers-snoc steps s)
