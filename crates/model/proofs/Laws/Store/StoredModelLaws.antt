-- A store that holds a well-formed model shows it: each accessor gives its part, so the model is the only one.
-- Document 01, "The model store"; document 02, (iii). Assumes nothing.
use Rattle.std.proofs.Common.{List, ◌++◌, ◌↔◌, ◌≡◌, refl, get_or, take, drop, ◌∙◌, subst, add-zero, take-append-drop}
use Rattle.std.proofs.Common.{length-append, take-suc, take_at, get_or-drop, drop-drop, ℕ, zero, suc, ◌+◌, ◌≤◌, ◌<◌}
use Rattle.std.proofs.Common.{arith}
use Rattle.std.proofs.Math.Path.{sym, ap}
use Rattle.std.proofs.Math.ListN.{length, get_or-append}
use Rattle.std.proofs.Math.Seq.{take-length}
use Rattle.text.specs.declared.Head.{Head}
use Rattle.text.specs.declared.StepLine.{StepLine}
use Rattle.text.specs.Limits.{name_limit, name_length_column, name_column, action_column, target_column, store_length}
use Rattle.text.specs.Limits.{action_place, name_length_place, name_place, step_place, action_of_step_place}
use Rattle.text.specs.Limits.{target_place}
use Rattle.text.specs.Limits.{extra_count_place, extra_place}
use Rattle.text.specs.Model.{ActionLine, Model, no_action, no_step}
use Rattle.model.proofs.Laws.Text.ReadingLaws.{read_text-model_text, read_text_well_formed, states_of-read_text}
use Rattle.model.proofs.Laws.Text.ReadingLaws.{states_m_text, m_text_unique}
use Rattle.model.specs.Text.{model_text}
use Rattle.model.specs.Store.{action_numbers, step_row, head_row, extra_numbers, store_of, Good}
use Rattle.model.specs.Laws.Store.StoreLaws.{store_of_length, store_of_action, store_of_step, store_of_extra}
use Rattle.model.specs.StoredModel.{head_at, action_at, step_at, extra_count_at, extra_start_at, listed, model_at}
use Rattle.model.specs.StoredModel.{Holds}
use Rattle.model.specs.System.{level}
use Rattle.model.specs.WellFormed.{WellFormed}
use Rattle.model.specs.StatedText.{MText}
use Rattle.model.specs.Laws.Store.BlocksLaws.{padded-append}

-- ---- lists by their elements

pub listed-length : {A : Type 0} (n : ℕ) (f : ℕ → A) → length (listed n f) ≡ n
unfolding listed
listed-length zero f = refl
listed-length (suc n) f = let i = listed-length n f in simp length-append (omega arith)

pub listed-take : {A : Type 0} (xs : List A) (d : A) (f : ℕ → A) (n : ℕ) → n ≤ length xs
    → ((i : ℕ) → i < length xs → f i ≡ get_or xs i d) → listed n f ≡ take n xs
unfolding listed
listed-take xs d f zero h e = refl
listed-take xs d f (suc n) h e =
    rw (listed-take xs d f n (omega arith) e, e n h, take-suc xs n d h)

-- every element shown by f: the list itself
pub listed_all : {A : Type 0} (xs : List A) (d : A) (f : ℕ → A) (n : ℕ) → n ≡ length xs
    → ((i : ℕ) → i < length xs → f i ≡ get_or xs i d) → listed n f ≡ xs
listed_all xs d f n l e = ap (λ (k : ℕ). listed k f) l ∙ listed-take xs d f (length xs) (omega arith) e ∙ take-length xs

-- ---- the accessors

-- place p + k of a list, in what is left of it from p on
pub get_or_of-drop : (s l : List ℕ) (p k : ℕ) → drop p s ≡ l → get_or s (p + k) 0 ≡ get_or l k 0
get_or_of-drop s l p k e = sym (get_or-drop p s k 0) ∙ ap (λ (x : List ℕ). get_or x k 0) e

first_of-drop : (s l : List ℕ) (p : ℕ) → drop p s ≡ l → get_or s p 0 ≡ get_or l 0 0
first_of-drop s l p e = ap (λ (k : ℕ). get_or s k 0) (sym (add-zero p)) ∙ get_or_of-drop s l p 0 e

pub action_at_lem : (s : List ℕ) (i : ℕ) (a : ActionLine) (more : List ℕ) → drop (action_place i) s ≡ action_numbers a
    ++ more
    → action_at s i ≡ a
unfolding action_numbers
action_at_lem s i a more e =
    let all : List ℕ = action_numbers a ++ more in
    let level : get_or s (action_place i) 0 ≡ a.level = first_of-drop s all (action_place i) e in
    let n : get_or s (name_length_place i) 0 ≡ length a.name = get_or_of-drop s all (action_place i)
    name_length_column e in
    let d : drop (name_place i) s ≡ drop name_column all =
    sym (drop-drop name_column (action_place i) s) ∙ ap (drop name_column) e in
    rw (level, n, d, padded-append name_limit a.name more, take_at a.name _ (length a.name) refl)

step_at_lem : (s : List ℕ) (j : ℕ) (t : StepLine) (more : List ℕ) → drop (step_place j) s ≡ step_row t ++ more
    → step_at s j ≡ t
step_at_lem s j t more e =
    let all : List ℕ = step_row t ++ more in
    let source : get_or s (step_place j) 0 ≡ t.source.0 = first_of-drop s all (step_place j) e in
    let action : get_or s (action_of_step_place j) 0 ≡ t.action.0 = get_or_of-drop s all (step_place j) action_column
    e in
    let target : get_or s (target_place j) 0 ≡ t.target.0 = get_or_of-drop s all (step_place j) target_column e in
    rw (source, action, target)

model_of-parts : (h : Head) (actions : List ActionLine) (ps : List ℕ) (steps : List StepLine) (m : Model)
    → h ≡ m.head → actions ≡ m.actions → ps ≡ m.extra_starts → steps ≡ m.steps
    → record { head = h; actions = actions; extra_starts = ps; steps = steps } ≡ m
model_of-parts h actions ps steps m p q e r = rw (p, q, e, r)

module _ (s : List ℕ) (m : Model) (h : Holds s m) where
  pub holds_store : s ≡ store_of m ++ drop store_length s
  holds_store = sym (take-append-drop store_length s) ∙ ap (λ (l : List ℕ). l ++ drop store_length s) (sym h.stored)

  pub head_at_holds : head_at s ≡ m.head
  unfolding store_of head_row
  head_at_holds = ap head_at holds_store

  pub action_at_holds : (i : ℕ) (d : ActionLine) → i < length m.actions → action_at s i ≡ get_or m.actions i d
  action_at_holds i d l =
      let b = store_of_action m h.well_formed (drop store_length s) i d l in
      action_at_lem s i (get_or m.actions i d) b.0 (ap (drop (action_place i)) holds_store ∙ b.1)

  pub step_at_holds : (j : ℕ) (d : StepLine) → j < length m.steps → step_at s j ≡ get_or m.steps j d
  step_at_holds j d l =
      let b = store_of_step m h.well_formed (drop store_length s) j d l in
      step_at_lem s j (get_or m.steps j d) b.0 (ap (drop (step_place j)) holds_store ∙ b.1)

  -- the section of the extra starts, and what follows the store
  pub extra_drop : drop extra_count_place s ≡ extra_numbers m.extra_starts ++ drop store_length s
  extra_drop = ap (drop extra_count_place) holds_store ∙ store_of_extra m h.well_formed (drop store_length s)

  pub extra_count_at_holds : extra_count_at s ≡ length m.extra_starts
  unfolding extra_numbers
  extra_count_at_holds = first_of-drop s _ extra_count_place extra_drop

  pub extra_start_at_holds : (i : ℕ) → i < length m.extra_starts → extra_start_at s i ≡ get_or m.extra_starts i 0
  unfolding extra_numbers
  extra_start_at_holds i l =
      let ps : List ℕ = m.extra_starts in
      let e : extra_place i ≡ extra_count_place + suc i = omega arith in
      rw e (get_or_of-drop s _ extra_count_place (suc i) extra_drop
      ∙ rw padded-append (get_or-append ps _ 0 i l))

  -- decoding undoes encoding
  pub model_at_holds : model_at s ≡ m
  unfolding model_at
  model_at_holds =
      let e = head_at_holds in
      let a : (head_at s).actions ≡ length m.actions =
      ap (λ (x : Head). x.actions) e ∙ sym h.well_formed.action_count in
      let t : (head_at s).steps ≡ length m.steps = ap (λ (x : Head). x.steps) e ∙ sym h.well_formed.step_count in
      model_of-parts (head_at s) (listed (head_at s).actions (action_at s))
      (listed (extra_count_at s) (extra_start_at s))
      (listed (head_at s).steps (step_at s)) m e
      (listed_all m.actions no_action (action_at s) (head_at s).actions a (λ i. action_at_holds i no_action))
      (listed_all m.extra_starts 0 (extra_start_at s) (extra_count_at s) extra_count_at_holds extra_start_at_holds)
      (listed_all m.steps no_step (step_at s) (head_at s).steps t (λ j. step_at_holds j no_step))

  -- ---- place by place

  pub states_holds : (head_at s).states ≡ m.head.states
  states_holds = ap (λ (x : Head). x.states) head_at_holds

  pub actions_holds : (head_at s).actions ≡ m.head.actions
  actions_holds = ap (λ (x : Head). x.actions) head_at_holds

  pub steps_holds : (head_at s).steps ≡ m.head.steps
  steps_holds = ap (λ (x : Head). x.steps) head_at_holds

  pub start_holds : (head_at s).start.0 ≡ m.head.start.0
  start_holds = ap (λ (x : Head). x.start.0) head_at_holds

  pub level_holds : (a : ℕ) → a < length m.actions → get_or s (action_place a) 0 ≡ level m a
  level_holds a l = ap (λ (x : ActionLine). x.level) (action_at_holds a _ l)

-- ---- good stores

-- the store of a well-formed model holds it, whatever follows
pub holds_store_of : (m : Model) (rest : List ℕ) → WellFormed m → Holds (store_of m ++ rest) m
holds_store_of m rest w =
    record { well_formed = w; stored = sym (take_at (store_of m) rest store_length (store_of_length m w)) }

pub model_at_store_of : (m : Model) (rest : List ℕ) → WellFormed m → model_at (store_of m ++ rest) ≡ m
model_at_store_of m rest w = model_at_holds (store_of m ++ rest) m (holds_store_of m rest w)

-- a store holds one model only
pub holds_unique : (s : List ℕ) (m n : Model) → Holds s m → Holds s n → m ≡ n
holds_unique s m n h k = sym (model_at_holds s m h) ∙ model_at_holds s n k

pub good_of_holds : (s : List ℕ) (m : Model) → Holds s m → Good s
good_of_holds s m h =
    record { text = model_text m; model = m; reads = read_text-model_text m h.well_formed; stored = h.stored }

pub holds_of_good : (s : List ℕ) (g : Good s) → Holds s g.model
holds_of_good s g = record { well_formed = read_text_well_formed g.text g.model g.reads; stored = g.stored }

pub Good→Holds : (s : List ℕ) → Good s → Holds s (model_at s)
Good→Holds s g =
    let h = holds_of_good s g in subst (Holds s) (sym (model_at_holds s g.model h)) h

pub Holds→Good : (s : List ℕ) → Holds s (model_at s) → Good s
Holds→Good s h = good_of_holds s (model_at s) h

-- a store is good exactly if it holds the model that it shows
pub good_iff : (s : List ℕ) → Good s ↔ Holds s (model_at s)
good_iff s = (Good→Holds s, Holds→Good s)

-- the model of a good store is the one that it shows
pub good-model : (s : List ℕ) (g : Good s) → g.model ≡ model_at s
good-model s g = sym (model_at_holds s g.model (holds_of_good s g))

-- the `M` text of a good store's model is that of the model that it shows
pub good-model_text : (s : List ℕ) (g : Good s) → model_text g.model ≡ model_text (model_at s)
good-model_text s g = ap model_text (good-model s g)

-- two `M` texts that read to one store are the same text
pub good_m_text_unique : (s : List ℕ) (g k : Good s) → MText g.text g.model → MText k.text k.model
    → g.text ≡ k.text
good_m_text_unique s g k p q =
    m_text_unique g.text k.text (model_at s) (p ∙ good-model_text s g) (q ∙ good-model_text s k)

-- while `M` texts are the only kind, whatever text reads to a store is one
pub good_m_text : (s : List ℕ) (g : Good s) → MText g.text g.model
good_m_text s g = states_m_text g.text g.model (states_of-read_text g.text g.model g.reads)

pub good_well_formed : (s : List ℕ) → Good s → WellFormed (model_at s)
good_well_formed s g = (Good→Holds s g).well_formed
