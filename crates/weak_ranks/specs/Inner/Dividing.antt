-- Classes divided by keys, where the number of a class is its lowest state. Only the contracts of inner functions cite
-- it.
use Rattle.std.specs.Prelude.{List, ◌⊎◌, ◌≡◌, ℕ, ◌+◌, ◌≤◌, ◌<◌, length, get_or, set}
use Rattle.lts.specs.Alike.{Moves}
use Rattle.lts.specs.Weak.{silent_label}
use Rattle.by_state.specs.Inner.Numbered.{Same}
use Rattle.sets.specs.Inner.Sets.{SameSet}

-- The number of a class is one of its states, and none is lower.
pub record LeadClasses (n : ℕ) (class : List ℕ) : Type 0 where
  pub lead_le : (p : ℕ) → p < n → get_or class p 0 ≤ p
  pub lead_own : (p : ℕ) → p < n → get_or class (get_or class p 0) 0 ≡ get_or class p 0

-- `next` divides the classes by the keys: states stay together where their keys are the same.
pub record DividedBy (n : ℕ) (keys class next : List ℕ) : Type 0 where
  pub same_before : (p q : ℕ) → p < n → q < n → Same next p q → Same class p q
  pub same_keys : (p q : ℕ) → p < n → q < n → Same next p q → SameSet keys p q
  pub stay : (p q : ℕ) → p < n → q < n → Same class p q → SameSet keys p q → Same next p q

-- ---- the states one after another

-- r is a lead of the class c, among the first m states.
pub record Lead (class next : List ℕ) (m c r : ℕ) : Type 0 where
  pub state_lt : r < m
  pub own : get_or next r 0 ≡ r
  pub class_is : get_or class r 0 ≡ c

-- s is the next lead after r of the class c; 0 if there is none.
pub record NextLead (class next : List ℕ) (m c r s : ℕ) : Type 0 where
  pub next_gt : 0 < s → r < s
  pub is_lead : 0 < s → Lead class next m c s
  pub none_between : (x : ℕ) → r < x → Lead class next m c x → (0 < s) × (s ≤ x)

-- The classes of the first m states are divided, and the leads of each class linked.
pub record DividedUpTo (keys class next link : List ℕ) (m : ℕ) : Type 0 where
  pub lead_le : (x : ℕ) → x < m → get_or next x 0 ≤ x
  pub lead : (x : ℕ) → x < m → Lead class next m (get_or class x 0) (get_or next x 0)
  pub lead_keys : (x : ℕ) → x < m → SameSet keys (get_or next x 0) x
  pub apart : (c r s : ℕ) → Lead class next m c r → Lead class next m c s → SameSet keys r s → r ≡ s
  pub links : (c r : ℕ) → Lead class next m c r → NextLead class next m c r (get_or link r 0)
  pub rest : (x : ℕ) → m ≤ x → get_or next x 0 ≡ get_or class x 0
  pub no_links : (x : ℕ) → m ≤ x → get_or link x 0 ≡ 0

-- p is the next state, and `from` is the lowest of its class.
pub record AtState (keys class next link : List ℕ) (p from : ℕ) : Type 0 where
  pub divided : DividedUpTo keys class next link p
  pub class_is : get_or class p 0 ≡ from
  pub first : Lead class next p from from
  pub lowest : (x : ℕ) → Lead class next p from x → from ≤ x

-- The same for some classes, before and after.
pub record Dividing (keys link : List ℕ) (p from : ℕ) : Type 0 where
  pub class : List ℕ
  pub next : List ℕ
  pub state : AtState keys class next link p from

-- r is a lead of the class of p, and no lower one has the key of p.
pub record LeadSought (keys class next : List ℕ) (p from r : ℕ) : Type 0 where
  pub lead : Lead class next p from r
  pub none_before : (x : ℕ) → x < r → Lead class next p from x → ¬ (SameSet keys x p)

-- The same, whatever the classes are.
pub record Sought (keys link : List ℕ) (p from r : ℕ) : Type 0 where
  pub sought : (class next : List ℕ) → AtState keys class next link p from → LeadSought keys class next p from r

-- The lead of p is r: with it, and with the new links, the classes of one state more are divided.
pub record LeadFound (keys link link' : List ℕ) (p from r : ℕ) : Type 0 where
  pub found : (class next : List ℕ) → AtState keys class next link p from → p < length next
      → DividedUpTo keys class (set next p r) link' (p + 1)

-- ---- the labels one after another

-- Each move of p with the label a is answered by q, and each of q by p, the targets in one class.
pub record AnswersUnder (Move : Moves) (class : List ℕ) (a p q : ℕ) : Type 0 where
  pub there : (p' : ℕ) → Move p a p' → (q' : ℕ) × Move q a q' × Same class p' q'
  pub back : (q' : ℕ) → Move q a q' → (p' : ℕ) × Move p a p' × Same class p' q'

-- b is an action below a, or the silent label.
abbrev pub LabelBelow : ℕ → ℕ → Type 0
LabelBelow a b = (b < a) ⊎ (b ≡ silent_label)

-- `next` divides the classes by the moves of a set of labels.
pub record DividedUnder (Move : Moves) (Label : ℕ → Type 0) (n : ℕ) (class next : List ℕ) : Type 0 where
  pub same_before : (p q : ℕ) → p < n → q < n → Same next p q → Same class p q
  pub answers : (p q a : ℕ) → p < n → q < n → Label a → Same next p q → AnswersUnder Move class a p q
  pub stay : (p q : ℕ) → p < n → q < n → Same class p q → ((a : ℕ) → Label a → AnswersUnder Move class a p q)
      → Same next p q
