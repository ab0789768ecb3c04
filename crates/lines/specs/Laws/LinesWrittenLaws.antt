-- Lines written one after the other, in either form.
-- Document 01, "The page": "Writing a line goes on from where the last one ended." Assumes nothing.
use Rattle.std.specs.Prelude.{List, [], ◌∷◌, ◌++◌, ◌≡◌, refl, ℕ, ◌+◌, ◌*◌, ◌-◌, ◌≤◌, ◌<◌, length}
use Rattle.std.proofs.Common.{arith, mul-le-mul_left, length-append}
use Rattle.text.specs.Model.{Model}
use Rattle.writer.specs.Wrote.{Wrote}
use Rattle.writer.specs.Laws.WroteLaws.{wrote-nil, wrote-append, wrote-length}
use Rattle.lines.specs.declared.lines.Form.{Form}
use Rattle.lines.specs.PageLines.{PageLine, line_text}
use Rattle.lines.specs.Roll.{form_bytes}
use Rattle.lines.specs.Inner.FormLines.{line_ending, TextFits}
use Rattle.lines.specs.Inner.LinesWritten.{LinesWritten}
use Rattle.lines.specs.Inner.Room.{line_room}
use Rattle.lines.specs.Laws.FormLaws.{form_bytes-nil, form_bytes-append, line_length_le, wrote_line}

module _ {form : Form} {m : Model} where
  -- nothing is written yet
  pub written_nil : {P : List PageLine → Type 0} {room : ℕ} {out : List ℕ} {at : ℕ} → P []
      → LinesWritten form m P room out at out at
  written_nil p = record {
    lines = [];
    holds = p;
    wrote = rw (form_bytes-nil form m) wrote-nil;
    length_le = rw (form_bytes-nil form m) (omega arith);
  }

  -- lines of which P holds
  pub written_lines : {P : List PageLine → Type 0} {room at next : ℕ} {entry exit : List ℕ} (ls : List PageLine) → P ls
      → length (form_bytes form m ls) ≤ room → Wrote entry at (form_bytes form m ls) exit next
      → LinesWritten form m P room entry at exit next
  written_lines ls p h w = record { lines = ls; holds = p; wrote = w; length_le = h }

  -- a line of its text, and what ends it
  pub written_line : {P : List PageLine → Type 0} {l : PageLine} {width at mid next : ℕ} {entry middle exit : List ℕ}
      → TextFits l width → P (l ∷ []) → Wrote entry at (line_text l) middle mid
      → Wrote middle mid (line_ending form (mid - at)) exit next
      → LinesWritten form m P (line_room form width) entry at exit next
  written_line {l = l} fits p text end =
      written_lines (l ∷ []) p (line_length_le fits form m) (wrote_line fits form m text end)

  -- lines after lines
  pub written_append : {P Q R : List PageLine → Type 0} {r s at mid next : ℕ} {entry middle exit : List ℕ}
      → ((xs ys : List PageLine) → P xs → Q ys → R (xs ++ ys)) → LinesWritten form m P r entry at middle mid
      → LinesWritten form m Q s middle mid exit next → LinesWritten form m R (r + s) entry at exit next
  written_append {r = r} {s} f x y = record {
    lines = x.lines ++ y.lines;
    holds = f x.lines y.lines x.holds y.holds;
    wrote = rw (form_bytes-append form m x.lines y.lines) (wrote-append x.wrote y.wrote);
    length_le = rw (form_bytes-append form m x.lines y.lines, length-append)
        (omega (arith, x.length_le, y.length_le));
  }

  -- said otherwise, in as much room or more
  pub written_of : {P Q : List PageLine → Type 0} {r s at next : ℕ} {entry exit : List ℕ}
      → ((xs : List PageLine) → P xs → Q xs) → r ≤ s → LinesWritten form m P r entry at exit next
      → LinesWritten form m Q s entry at exit next
  written_of f l x = record {
    lines = x.lines;
    holds = f x.lines x.holds;
    wrote = x.wrote;
    length_le = omega (arith, x.length_le);
  }

  -- ---- the room behind them

  -- of the room for more, what they did not take is left
  pub written_rest : {P : List PageLine → Type 0} {r at next : ℕ} {entry exit : List ℕ} (s : ℕ)
      → at + (r + s) ≤ length entry → LinesWritten form m P r entry at exit next → next + s ≤ length exit
  written_rest s h x = omega (arith, h, x.wrote.place, x.length_le, wrote-length x.wrote)

  -- of n times a room, once behind i times
  pub written_room : {P : List PageLine → Type 0} (room : ℕ) {i n at next : ℕ} {entry exit : List ℕ} → i < n
      → at + room * n ≤ length entry → LinesWritten form m P (room * i) entry at exit next → next + room ≤ length exit
  written_room room {i} {n} l h x =
      let k : i + 1 ≤ n = omega (arith, l) in
      written_rest room (omega (arith, h, mul-le-mul_left room k)) x

  -- ---- lines that are known

  -- the lines themselves
  pub written_exact : {P : List PageLine → Type 0} {room at next : ℕ} {entry exit : List ℕ}
      (x : LinesWritten form m P room entry at exit next)
      → LinesWritten form m (◌≡◌ x.lines) room entry at exit next
  written_exact x = record { lines = x.lines; holds = refl; wrote = x.wrote; length_le = x.length_le }

  -- known lines after known lines
  pub written_both : {xs ys : List PageLine} {r s at mid next : ℕ} {entry middle exit : List ℕ}
      → LinesWritten form m (◌≡◌ xs) r entry at middle mid → LinesWritten form m (◌≡◌ ys) s middle mid exit next
      → LinesWritten form m (◌≡◌ (xs ++ ys)) (r + s) entry at exit next
  written_both {xs} {ys} x y = written_append (λ us vs (p : xs ≡ us) (q : ys ≡ vs). rw (p, q)) x y
