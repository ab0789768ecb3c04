-- Lines in either form: one after the other, and each with what ends it.
-- Document 01, "The page"; document 02, (ii). Assumes nothing.
use mathlib.Core.List.{List, [], ◌∷◌, ◌++◌, append_assoc, append-nil}
use Rattle.std.proofs.Math.Option.{Option}
use Rattle.std.specs.Prelude.{◌≡◌, refl, ℕ, ◌+◌, ◌-◌, ◌≤◌}
use Rattle.std.proofs.Common.{sym, ap, ◌∙◌, arith, length-append}
use Rattle.std.proofs.Math.ListN.{length}
use Rattle.std.proofs.lemmas.List.{length-replicate}
use Rattle.text.specs.Bytes.{byte_blank, byte_line_end}
use Rattle.text.specs.Model.{Model}
use Rattle.writer.specs.Wrote.{Wrote}
use Rattle.writer.specs.Laws.WroteLaws.{wrote-append, wrote-length}
use Rattle.columns.specs.Rows.{roll_width, blanks, flush_left, rows_bytes}
use Rattle.columns.specs.StateRows.{state_rows}
use Rattle.lines.specs.declared.lines.Form.{Form}
use Rattle.lines.specs.declared.lines.Form.TheVariants.{Page, Roll}
use Rattle.lines.specs.PageLines.{PageLine, state_line, line_text, line_bytes, page_bytes}
use Rattle.lines.specs.Roll.{roll_rows, roll_bytes, form_bytes}
use Rattle.lines.specs.Inner.FormLines.{line_ending, EndFits, TextFits}
use Rattle.lines.specs.Inner.Room.{line_room}
use Rattle.lines.specs.Laws.RollLaws.{roll_bytes_line, roll_bytes-row, roll_bytes-append}

-- ---- lines one after the other

pub page_bytes-append : (xs ys : List PageLine) → page_bytes (xs ++ ys) ≡ page_bytes xs ++ page_bytes ys
unfolding page_bytes
page_bytes-append [] ys = refl
page_bytes-append (x ∷ xs) ys =
    ap (λ (z : List ℕ). line_bytes x ++ z) (page_bytes-append xs ys)
    ∙ sym (append_assoc (line_bytes x) (page_bytes xs) (page_bytes ys))

pub page_bytes_line : (l : PageLine) → page_bytes (l ∷ []) ≡ line_bytes l
unfolding page_bytes
page_bytes_line l = append-nil (line_bytes l)

pub form_bytes-nil : (form : Form) (m : Model) → form_bytes form m [] ≡ []
unfolding form_bytes page_bytes roll_bytes
form_bytes-nil Page m = refl
form_bytes-nil Roll m = refl

pub form_bytes-append : (form : Form) (m : Model) (xs ys : List PageLine)
    → form_bytes form m (xs ++ ys) ≡ form_bytes form m xs ++ form_bytes form m ys
unfolding form_bytes
form_bytes-append Page m xs ys = page_bytes-append xs ys
form_bytes-append Roll m xs ys = roll_bytes-append m xs ys

-- ---- a line of a page, and a state's on the roll

pub form_bytes_page : {form : Form} (m : Model) (l : PageLine) → form ≡ Page → form_bytes form m (l ∷ []) ≡ line_bytes l
unfolding form_bytes
form_bytes_page m l e = rw e (page_bytes_line l)

pub form_bytes_roll : {form : Form} (m : Model) (p : ℕ) (distance : Option ℕ) (class : ℕ) → form ≡ Roll
    → form_bytes form m (state_line p distance class ∷ []) ≡ rows_bytes (state_rows m p distance class)
unfolding form_bytes roll_rows
form_bytes_roll m p distance class e = rw e (roll_bytes_line m (state_line p distance class))

-- ---- a line that is no state's

-- a shorter text needs no more
pub line_room_le : (form : Form) {a b : ℕ} → a ≤ b → line_room form a ≤ line_room form b
unfolding line_room
line_room_le Page h = omega arith
line_room_le Roll h = omega arith

line_ending-length : (form : Form) {used width : ℕ} → used ≤ width → width ≤ roll_width
    → used + length (line_ending form used) ≤ line_room form width
unfolding line_room
line_ending-length Page h k = omega arith
line_ending-length Roll {used} h k =
    let left = roll_width - used in
    omega (arith, length-append (blanks left) (byte_line_end ∷ []), length-replicate left byte_blank)

module _ {l : PageLine} {width : ℕ} (fits : TextFits l width) where
  -- its text, then what ends it
  pub form_bytes_line : (form : Form) (m : Model)
      → form_bytes form m (l ∷ []) ≡ line_text l ++ line_ending form (length (line_text l))
  unfolding form_bytes flush_left
  form_bytes_line Page m = page_bytes_line l
  form_bytes_line Roll m =
      roll_bytes-row m l (fits.one_row m)
      ∙ append_assoc (line_text l) (blanks (roll_width - length (line_text l))) (byte_line_end ∷ [])

  pub line_length_le : (form : Form) (m : Model) → length (form_bytes form m (l ∷ [])) ≤ line_room form width
  line_length_le form m =
      rw (form_bytes_line form m, length-append) (line_ending-length form fits.text_le fits.width_le)

  -- where there is room for a line, there is room for its text
  pub text_room : (form : Form) (at : ℕ) {long : ℕ} → at + line_room form width ≤ long
      → at + length (line_text l) ≤ long
  text_room form at h = omega (arith, h, line_ending-length form fits.text_le fits.width_le)

  -- and behind it for what ends it
  pub end_room : (form : Form) {entry middle : List ℕ} {at mid : ℕ} → at + line_room form width ≤ length entry
      → Wrote entry at (line_text l) middle mid → EndFits form at mid (length middle)
  unfolding line_room
  end_room Page h w = omega (arith, h, fits.text_le, w.place, wrote-length w)
  end_room Roll h w = (
    omega (arith, w.place),
    omega (arith, fits.text_le, fits.width_le, w.place),
    omega (arith, h, wrote-length w),
  )

  -- the text of a line, then its end
  pub wrote_line : (form : Form) (m : Model) {entry middle exit : List ℕ} {at mid next : ℕ}
      → Wrote entry at (line_text l) middle mid → Wrote middle mid (line_ending form (mid - at)) exit next
      → Wrote entry at (form_bytes form m (l ∷ [])) exit next
  wrote_line form m {at = at} {mid} text end =
      let e : mid - at ≡ length (line_text l) = omega (arith, text.place) in
      rw (form_bytes_line form m) (wrote-append text (rw e at end))
