-- Texts without a high action, and some with one, each refused by evaluation with its fault at its line.
-- Document 02, (vi) and (vii).
use Rattle.std.specs.Prelude.{List, [], ◌∷◌, ◌++◌, ◌≡◌, ℕ}
use Rattle.text.specs.declared.Fault.TheVariants.{Absent, Shape, Repeated, Order, NoHigh}
use Rattle.model.specs.Reading.{faulty}
use Rattle.model.specs.Reading.{read_text}
use Rattle.model.specs.CornerCases.{head, low, high, first, second, end}

-- A,D,b
abbrev release : List ℕ
release = 65 ∷ 44 ∷ 68 ∷ 44 ∷ 98 ∷ 10 ∷ []

-- A,T,b
abbrev silent : List ℕ
silent = 65 ∷ 44 ∷ 84 ∷ 44 ∷ 98 ∷ 10 ∷ []

-- M,1,1,0,0
abbrev head_of_one : List ℕ
head_of_one = 77 ∷ 44 ∷ 49 ∷ 44 ∷ 49 ∷ 44 ∷ 48 ∷ 44 ∷ 48 ∷ 10 ∷ []

-- each text and its reading
pub record RefusedHigh : Type 0 where
  -- M,2,2,2,0 / A,L,a / A,D,b / S,0,0,0 / S,0,0,1 / E: "its place the last `A` line"
  pub no_high : read_text (head ++ low ++ release ++ first ++ second ++ end) ≡ faulty NoHigh 3
  -- M,1,1,0,0 / A,L,a / E
  pub one_low : read_text (head_of_one ++ low ++ end) ≡ faulty NoHigh 2
  -- M,2,2,2,0 / A,L,a / A,T,b / S,0,0,0 / S,0,0,1 / E: a silent action is not high
  pub silent_not_high : read_text (head ++ low ++ silent ++ first ++ second ++ end) ≡ faulty NoHigh 3
  -- before a fault of the next line: it is absent, or it is A,L,a, I,9, S,x, S,9,0,0, or q without its
  -- line end
  pub next_absent : read_text (head ++ low ++ release) ≡ faulty NoHigh 3
  pub next_an_action : read_text (head ++ low ++ release ++ low) ≡ faulty NoHigh 3
  pub next_a_start : read_text (head ++ low ++ release ++ (73 ∷ 44 ∷ 57 ∷ 10 ∷ [])) ≡ faulty NoHigh 3
  pub next_without_fields : read_text (head ++ low ++ release ++ (83 ∷ 44 ∷ 120 ∷ 10 ∷ [])) ≡ faulty NoHigh 3
  pub next_out_of_range : read_text (head ++ low ++ release ++ (83 ∷ 44 ∷ 57 ∷ 44 ∷ 48 ∷ 44 ∷ 48 ∷ 10 ∷ []))
      ≡ faulty NoHigh 3
  pub next_a_byte : read_text (head ++ low ++ release ++ (113 ∷ [])) ≡ faulty NoHigh 3
  -- "tested when that line is otherwise good": A,D,b has no line end, its name is B, or a is used twice
  pub last_absent : read_text (head ++ low ++ (65 ∷ 44 ∷ 68 ∷ 44 ∷ 98 ∷ [])) ≡ faulty Absent 3
  pub last_name_capital : read_text (head ++ low ++ (65 ∷ 44 ∷ 68 ∷ 44 ∷ 66 ∷ 10 ∷ []) ++ first) ≡ faulty Shape 3
  pub last_name_repeated : read_text (head ++ low ++ (65 ∷ 44 ∷ 68 ∷ 44 ∷ 97 ∷ 10 ∷ []) ++ first) ≡ faulty Repeated 3
  -- an earlier line decides
  pub first_level_unknown : read_text (head ++ (65 ∷ 44 ∷ 77 ∷ 44 ∷ 97 ∷ 10 ∷ []) ++ release ++ first) ≡ faulty Shape 2
  -- the high action is the first, or the last: a later fault is told
  pub first_high : read_text (head ++ high ++ low ++ first ++ first) ≡ faulty Order 5
  pub last_high : read_text (head ++ low ++ high ++ first ++ first) ≡ faulty Order 5
