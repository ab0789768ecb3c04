-- The lines of a page fit its list, in either form.
-- Document 01, "The page"; document 02, (ii): "out with at least 35,840 bytes". Assumes nothing.
use Rattle.std.specs.Prelude.{◌⊎◌, List, ◌≡◌, refl, ℕ, zero, suc, ◌+◌, ◌*◌, ◌≤◌, ◌<◌}
use Rattle.std.proofs.Common.{inl, inr, arith}
use Rattle.lts.proofs.TestsLaws.{eq_or_not}
use Rattle.text.specs.Model.{Model}
use Rattle.model.specs.Inner.Stored.{Stored}
use Rattle.verdicts.specs.declared.judging.Verdict.{Verdict}
use Rattle.verdicts.specs.declared.judging.Verdict.TheVariants.{Passed, Refused}
use Rattle.verdicts.specs.Verdicts.{Judged}
use Rattle.columns.specs.Rows.{roll_width}
use Rattle.columns.specs.Inner.LineCount.{lines_below, NamesFit}
use Rattle.columns.specs.Laws.LetterCountLaws.{letter_count_le}
use Rattle.columns.specs.Laws.RoomLaws.{rows_passed, rows_refused}
use Rattle.lines.specs.declared.lines.Form.{Form}
use Rattle.lines.specs.declared.lines.Form.TheVariants.{Page, Roll}
use Rattle.lines.specs.Roll.{form_length}
use Rattle.lines.specs.Inner.Room.{verdict_width, state_width, letter_width, line_room, state_room, states_room}
use Rattle.lines.specs.Inner.Room.{leak_room}
use Rattle.verdicts.proofs.Laws.VerdictsLaws.{depth_lt}

-- ---- the states

-- the room for n states has room for one more behind fewer
pub states_room_lt : (form : Form) (m : Model) (i n : ℕ) → i < n
    → states_room form m i + state_room form m i ≤ states_room form m n
unfolding states_room
states_room_lt form m i zero l = absurd (omega arith)
states_room_lt form m i (suc n) l = go (eq_or_not i n) (states_room_lt form m i n)
  where
    go : (i ≡ n) ⊎ (¬ (i ≡ n)) → (i < n → states_room form m i + state_room form m i ≤ states_room form m n)
        → states_room form m i + state_room form m i ≤ states_room form m (suc n)
    go (inl e) below = rw e (omega arith)
    go (inr d) below = omega (arith, below (omega arith))

states_room_page : (m : Model) (n : ℕ) → states_room Page m n ≡ (state_width + 1) * n
unfolding states_room state_room
states_room_page m zero = refl
states_room_page m (suc n) = omega (arith, states_room_page m n)

states_room_roll : (m : Model) (n : ℕ) → states_room Roll m n ≡ (roll_width + 1) * lines_below m n
unfolding states_room state_room lines_below
states_room_roll m zero = refl
states_room_roll m (suc n) = omega (arith, states_room_roll m n)

-- ---- the whole

-- on a page at most 21 bytes, 14 per state, 2,930, and 2 for `E`; on the roll at most 833 lines
pub form_room_le : (form : Form) {s : List ℕ} {m : Model} → Stored s m → NamesFit m → (v : Verdict) → Judged m v
    → line_room form verdict_width + states_room form m m.head.states + leak_room form m v + line_room form letter_width
    ≤ form_length form
unfolding line_room
form_room_le Page {m = m} st names (Passed rank) judged =
    omega (arith, states_room_page m m.head.states, st.states_le)
form_room_le Page {m = m} st names (Refused j depth) judged =
    omega (arith, states_room_page m m.head.states, st.states_le, letter_count_le m depth, depth_lt st judged)
form_room_le Roll {m = m} st names (Passed rank) judged =
    omega (arith, states_room_roll m m.head.states, rows_passed st names)
form_room_le Roll {m = m} st names (Refused j depth) judged =
    omega (arith, states_room_roll m m.head.states, rows_refused st names judged)
