-- The store of a well-formed model: its length, its numbers, and where each action, step and extra start of the model
-- stands.
-- Document 01, "The model store"; document 02, (iii). Assumes nothing.
use Rattle.std.proofs.Common.{List, [], ◌++◌, append_assoc, ◌≡◌, get_or, drop, ◌∙◌, lit<, ℕ, ◌+◌, ◌-◌, ◌*◌, ◌≤◌, ◌<◌}
use Rattle.std.proofs.Common.{arith}
use Rattle.std.proofs.Math.Path.{refl, ap}
use Rattle.std.proofs.Math.ListN.{length, replicate, length-append}
use Rattle.std.proofs.Math.Seq.{drop-append-add, drop_at}
use Rattle.text.specs.declared.Head.{Head}
use Rattle.text.specs.declared.StepLine.{StepLine}
use Rattle.text.specs.Limits.{step_limit, extra_limit, name_limit, action_size, actions_length, steps_begin, step_size}
use Rattle.text.specs.Limits.{steps_length, store_length, action_place, step_place, extra_count_place}
use Rattle.text.specs.All.{All}
use Rattle.text.specs.Laws.AllLaws.{all_intro, all_of_all, all_append}
use Rattle.text.specs.Model.{ActionLine, Model}
use Rattle.model.specs.Store.{padded, action_numbers, actions_numbers, step_row, steps_numbers, head_row}
use Rattle.model.specs.Store.{extra_numbers, store_of}
use Rattle.model.specs.Inner.Sections.{before_steps, before_extra}
use Rattle.model.specs.WellFormed.{EachAfter, ActionFits, StartFits, StepFits, WellFormed}
use Rattle.model.specs.Laws.Store.EachLaws.{all_of_each}
use Rattle.model.specs.Laws.Store.StartsLaws.{extra_count_le}
use Rattle.model.specs.Laws.Store.BlocksLaws.{padded-append, padded-length, padded_all, blocks_length, blocks_all}
use Rattle.model.specs.Laws.Store.BlocksLaws.{blocks_drop}
use Rattle.text.specs.Inner.Ranges.{Storable}
use Rattle.text.specs.Laws.RangesLaws.{head_fits?→HeadRanges, start_fits?→lt, step_fits?→StepRanges}
use Rattle.model.specs.Inner.LineText.{NameByte}
use Rattle.model.specs.Laws.Text.ActionLineLaws.{name_bytes, name_byte_lt, name-length}

-- ---- lengths

pub action_numbers-length : (a : ActionLine) → length a.name ≤ name_limit → length (action_numbers a) ≡ action_size
unfolding action_numbers
action_numbers-length a h = rw (padded-length name_limit a.name h)

actions_width : (before acts : List ActionLine) → EachAfter ActionFits before acts
    → All (λ a. length (action_numbers a) ≡ action_size) acts
actions_width =
    all_of_each ActionFits (λ a. length (action_numbers a) ≡ action_size)
    (λ b a f. action_numbers-length a (name-length a.name f.name).1)

steps_width : (ss : List StepLine) → All (λ s. length (step_row s) ≡ step_size) ss
steps_width = all_intro (λ s. length (step_row s) ≡ step_size) (λ s. refl)

pub actions_numbers-length : (before acts : List ActionLine) → EachAfter ActionFits before acts
    → length (actions_numbers acts) ≡ action_size * length acts
unfolding actions_numbers
actions_numbers-length before acts e =
    blocks_length action_numbers actions_numbers action_size refl (λ a rest. refl) acts (actions_width before acts e)

pub steps_numbers-length : (ss : List StepLine) → length (steps_numbers ss) ≡ step_size * length ss
unfolding steps_numbers
steps_numbers-length ss = blocks_length step_row steps_numbers step_size refl (λ s rest. refl) ss (steps_width ss)

pub extra_numbers-length : (ps : List ℕ) → length ps ≤ extra_limit → length (extra_numbers ps) ≡ extra_limit + 1
unfolding extra_numbers
extra_numbers-length ps l = rw (padded-length extra_limit ps l)

-- ---- sections, each behind those before it

module _ (h : Head) (actions : List ActionLine) (a : length (actions_numbers actions) ≤ actions_length) where
  pub before_steps_length : length (before_steps h actions) ≡ steps_begin
  unfolding head_row
  before_steps_length =
      let l = padded-length actions_length (actions_numbers actions) a in
      simp length-append (omega arith)

  pub before_extra_length : (steps : List StepLine) → length steps ≤ step_limit
      → length (before_extra h actions steps) ≡ extra_count_place
  before_extra_length steps s =
      let b = before_steps_length in
      let n = steps_numbers-length steps in
      let l = padded-length steps_length (steps_numbers steps) (omega arith) in
      length-append (before_steps h actions) (padded steps_length (steps_numbers steps)) ∙ omega arith

pub store_of-length_of_places : (m : Model) → length (actions_numbers m.actions) ≤ actions_length
    → length m.extra_starts ≤ extra_limit → length m.steps ≤ step_limit → length (store_of m) ≡ store_length
unfolding store_of
store_of-length_of_places m a e s =
    let b = before_extra_length m.head m.actions a m.steps s in
    let x = extra_numbers-length m.extra_starts e in
    length-append (before_extra m.head m.actions m.steps) (extra_numbers m.extra_starts) ∙ omega arith

module _ (m : Model) (w : WellFormed m) where
  pub actions_places : length (actions_numbers m.actions) ≤ actions_length
  actions_places =
      let r = head_fits?→HeadRanges m.head w.head in
      let l = actions_numbers-length [] m.actions w.actions in
      let c = w.action_count in
      omega arith

  pub steps_le : length m.steps ≤ step_limit
  steps_le =
      let r = head_fits?→HeadRanges m.head w.head in
      let c = w.step_count in
      omega arith

  pub store_of_length : length (store_of m) ≡ store_length
  store_of_length = store_of-length_of_places m actions_places (extra_count_le m w) steps_le

-- ---- numbers of 16 bits

name_byte_storable : (b : ℕ) → NameByte b → Storable b
name_byte_storable b n = let l = name_byte_lt b n in omega arith

action_numbers_storable : (before : List ActionLine) (a : ActionLine) → ActionFits before a
    → All Storable (action_numbers a)
unfolding action_numbers
action_numbers_storable before a f =
    let l = f.level in
    let n = name-length a.name f.name in
    let b = all_of_all NameByte Storable name_byte_storable a.name (name_bytes a.name f.name) in
    (omega arith, (omega arith, padded_all Storable (lit< tt) name_limit a.name b))

module _ (m : Model) (w : WellFormed m) where
  head_storable : All Storable (head_row m.head)
  unfolding head_row
  head_storable =
      let r = head_fits?→HeadRanges m.head w.head in
      (omega arith, (omega arith, (omega arith, (omega arith, tt))))

  actions_storable : All Storable (padded actions_length (actions_numbers m.actions))
  unfolding actions_numbers
  actions_storable =
      let storable = action_numbers_storable in
      let each = all_of_each ActionFits (λ a. All Storable (action_numbers a)) storable [] m.actions w.actions in
      padded_all Storable (lit< tt) actions_length (actions_numbers m.actions)
      (blocks_all action_numbers actions_numbers action_size refl (λ a rest. refl) Storable m.actions each)

  step_storable : (before : List StepLine) (s : StepLine) → StepFits m.head before s → All Storable (step_row s)
  step_storable before s f =
      let r = head_fits?→HeadRanges m.head w.head in
      let u = step_fits?→StepRanges m.head s f.in_range in
      (omega arith, (omega arith, (omega arith, tt)))

  steps_storable : All Storable (padded steps_length (steps_numbers m.steps))
  unfolding steps_numbers
  steps_storable =
      let fits = StepFits m.head in
      let each = all_of_each fits (λ s. All Storable (step_row s)) step_storable [] m.steps w.steps in
      padded_all Storable (lit< tt) steps_length (steps_numbers m.steps)
      (blocks_all step_row steps_numbers step_size refl (λ s rest. refl) Storable m.steps each)

  start_storable : (before : List ℕ) (p : ℕ) → StartFits m.head before p → Storable p
  start_storable before p f =
      let r = head_fits?→HeadRanges m.head w.head in
      let l = start_fits?→lt m.head p f.in_range in
      omega arith

  extra_storable : All Storable (extra_numbers m.extra_starts)
  unfolding extra_numbers
  extra_storable =
      let c = extra_count_le m w in
      let fits = StartFits m.head in (
        omega arith,
        padded_all Storable (lit< tt) extra_limit m.extra_starts
            (all_of_each fits Storable start_storable [] m.extra_starts w.extra_starts_is),
      )

  pub store_of_storable : All Storable (store_of m)
  unfolding store_of
  store_of_storable =
      let actions-part : List ℕ = padded actions_length (actions_numbers m.actions) in
      let steps-part : List ℕ = padded steps_length (steps_numbers m.steps) in
      let front = before_steps m.head m.actions in
      let most = before_extra m.head m.actions m.steps in
      all_append Storable most (extra_numbers m.extra_starts)
      (all_append Storable front steps-part
      (all_append Storable (head_row m.head) actions-part head_storable actions_storable) steps_storable)
      extra_storable

-- ---- where each action, each step and the extra starts stand, whatever follows the store

module _ (m : Model) (w : WellFormed m) (rest : List ℕ) where
  pub store_of_action : (i : ℕ) (d : ActionLine) → i < length m.actions
      → (more : List ℕ) × (drop (action_place i) (store_of m ++ rest) ≡ action_numbers (get_or m.actions i d) ++ more)
  unfolding store_of head_row actions_numbers
  store_of_action i d h =
      let steps : List ℕ =
      padded steps_length (steps_numbers m.steps) ++ (extra_numbers m.extra_starts ++ rest) in
      let zeros : List ℕ = replicate (actions_length - length (actions_numbers m.actions)) 0 in
      let wide = actions_width [] m.actions w.actions in
      let after : List ℕ = zeros ++ steps in
      let b = blocks_drop action_numbers actions_numbers action_size refl (λ a acts. refl) m.actions i d after wide h in
      let all : List ℕ = head_row m.head ++ (actions_numbers m.actions ++ (zeros ++ steps)) in
      let e : store_of m ++ rest ≡ all = simp (append_assoc, padded-append) in
      (b.0, ap (drop (action_place i)) e ∙ drop-append-add (head_row m.head) _ (action_size * i) ∙ b.1)

  pub store_of_step : (j : ℕ) (d : StepLine) → j < length m.steps
      → (more : List ℕ) × (drop (step_place j) (store_of m ++ rest) ≡ step_row (get_or m.steps j d) ++ more)
  unfolding store_of steps_numbers
  store_of_step j d h =
      let before : List ℕ = before_steps m.head m.actions in
      let zeros : List ℕ = replicate (steps_length - length (steps_numbers m.steps)) 0 in
      let after : List ℕ = zeros ++ (extra_numbers m.extra_starts ++ rest) in
      let wide = steps_width m.steps in
      let b = blocks_drop step_row steps_numbers step_size refl (λ s ss. refl) m.steps j d after wide h in
      let all : List ℕ = before ++ (steps_numbers m.steps ++ after) in
      let e : store_of m ++ rest ≡ all = simp (append_assoc, padded-append) in
      let n = before_steps_length m.head m.actions (actions_places m w) in
      let k : step_place j ≡ length before + step_size * j = omega arith in
      (b.0, ap (drop (step_place j)) e ∙ rw k (drop-append-add before _ (step_size * j)) ∙ b.1)

  pub store_of_extra : drop extra_count_place (store_of m ++ rest) ≡ extra_numbers m.extra_starts ++ rest
  unfolding store_of
  store_of_extra =
      let before = before_extra m.head m.actions m.steps in
      let n = before_extra_length m.head m.actions (actions_places m w) m.steps (steps_le m w) in
      ap (drop extra_count_place) (append_assoc before (extra_numbers m.extra_starts) rest)
      ∙ drop_at before (extra_numbers m.extra_starts ++ rest) extra_count_place n
