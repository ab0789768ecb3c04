-- Silent moves and the moves that are played where some steps are silent, over any low steps and any silent ones: the
-- weak moves of the field. Document 02, (vii); the double arrows of source 002. Assumes nothing.
use Rattle.std.specs.Prelude.{◌≡◌, ℕ, ◌<◌, T}
use Rattle.lts.specs.Alike.{Moves, Relation}
use Rattle.lts.specs.View.{View}
use Rattle.lts.specs.Run.{Reachable}

-- "A silent move is zero or more silent steps": `Tick p q` says that one leads from p to q. A move of zero steps is one
-- of the n states alone.
pub data Silent (Tick : Relation) (n : ℕ) : ℕ → ℕ → Type 0 where
  stay : {p : ℕ} → p < n → Silent Tick n p p
  tick : {p q r : ℕ} → Tick p q → Silent Tick n q r → Silent Tick n p r

-- "a low move is a silent move, one low step, a silent move"
pub record LowMove (Low : Moves) (Tick : Relation) (n p a q : ℕ) : Type 0 where
  pub from : ℕ
  pub to : ℕ
  pub before : Silent Tick n p from
  pub step : Low from a to
  pub after : Silent Tick n to q

-- The label of a silent move, which no action has: "a book's opening having action 255 where it is silent".
abbrev pub silent_label : ℕ
silent_label = 255

-- The moves that are played: "Both opening and answer are such moves, and a silent move answers a silent move".
pub data Weak (Low : Moves) (Tick : Relation) (n p a q : ℕ) : Type 0 where
  low : LowMove Low Tick n p a q → Weak Low Tick n p a q
  silent : a ≡ silent_label → Silent Tick n p q → Weak Low Tick n p a q

-- ---- of a view

-- A low step.
abbrev pub LowStep : View → Moves
LowStep v p a q = T (v.levels.low? a) × v.Step p a q

-- A silent step leads from p to q.
pub record Tick (v : View) (p q : ℕ) : Type 0 where
  pub action : ℕ
  pub is_silent : T (v.levels.silent? action)
  pub step : v.Step p action q

-- The moves that are played in a view: "release and high steps are never played" (document 01, "Alike").
abbrev pub WeakMove : View → Moves
WeakMove v = Weak (LowStep v) (Tick v) v.states

-- The view is one "without a reachable silent step".
abbrev pub NoTick : View → Type 0
NoTick v = (p q : ℕ) → Reachable v p → ¬ (Tick v p q)

-- No low step that can be reached has the silent moves' label.
abbrev pub NoSilentLabel : View → Type 0
NoSilentLabel v = (p a q : ℕ) → Reachable v p → LowStep v p a q → ¬ (a ≡ silent_label)
