-- Names filled into lines one by one come out as `fill` has them; the room for all lines is room for each.
-- Document 02, (ii): "A name that doesn't fit whole goes to a next line whose first 12 columns are blank."
-- Assumes nothing.
use mathlib.Core.List.{List, [], ◌∷◌, ◌++◌, append_assoc, append-nil}
use Rattle.std.specs.Prelude.{◌≡◌, ℕ, ◌+◌, ◌-◌, ◌*◌, ◌≤◌, ◌<◌}
use Rattle.std.proofs.Math.Path.{refl, sym, ap, subst}
use Rattle.std.proofs.Common.{◌∙◌, arith}
use Rattle.std.proofs.Math.ListN.{length, length-append}
use Rattle.std.proofs.lemmas.List.{length-replicate}
use Rattle.text.specs.Bytes.{byte_blank, byte_line_end}
use Rattle.text.specs.Limits.{name_limit}
use Rattle.writer.specs.Wrote.{Wrote}
use Rattle.writer.specs.Laws.WroteLaws.{wrote-append, wrote-length}
use Rattle.columns.specs.declared.line.RollLine.{RollLine}
use Rattle.columns.specs.Rows.{roll_width, blanks, flush_left, row_bytes, rows_bytes, name_indent, fill}
use Rattle.columns.specs.Inner.Filling.{Filling, NamesFilled, NameRoom}
use Rattle.columns.specs.Laws.RowsLaws.{fill_fits, fill_next, fill_pos, rows_bytes-append, rows_bytes-row}

-- ---- the bytes of lines

rows_bytes_last : (rows : List (List ℕ)) (row : List ℕ) → rows_bytes (rows ++ (row ∷ [])) ≡ rows_bytes rows ++
    row_bytes row
rows_bytes_last rows row =
    rows_bytes-append rows (row ∷ []) ∙ ap (λ (t : List ℕ). rows_bytes rows ++ t) (rows_bytes-row row)

-- lines of any length take 43 bytes each, or more
rows_bytes-length_le : (rows : List (List ℕ)) → (roll_width + 1) * length rows ≤ length (rows_bytes rows)
unfolding rows_bytes flush_left
rows_bytes-length_le [] = omega arith
rows_bytes-length_le (row ∷ rows) =
    let b = length-append (row ++ blanks (roll_width - length row)) (byte_line_end ∷ []) in
    let r = length-append row (blanks (roll_width - length row)) in
    omega (
      arith,
      b,
      r,
      length-replicate (roll_width - length row) byte_blank,
      length-append (row_bytes row) (rows_bytes rows),
      rows_bytes-length_le rows,
    )

-- where a line ends
pub ended_place : {entry exit : List ℕ} {begin at next : ℕ} → begin ≤ at → at ≤ begin + roll_width
    → Wrote entry at (blanks (roll_width - (at - begin)) ++ (byte_line_end ∷ [])) exit next
    → next ≡ begin + roll_width + 1
ended_place {begin = begin} {at = at} h k w =
    omega (
      arith,
      w.place,
      length-append (blanks (roll_width - (at - begin))) (byte_line_end ∷ []),
      length-replicate (roll_width - (at - begin)) byte_blank,
    )

-- ---- the first line, before any name

pub filling-start : {head entry exit : List ℕ} {from : ℕ} {start row : RollLine} → length head ≤ roll_width
    → (start.at.at ≡ from) × (start.begin ≡ from) → Wrote entry start.at.at head exit row.at.at
    → row.begin ≡ start.begin → Filling head [] entry from exit row
unfolding rows_bytes
filling-start {head} l begun w e = record {
  closed = [];
  last = head;
  filled = λ more. refl;
  wrote = rw begun.0 at w;
  begin_is = omega (arith, e, begun.1);
  last_le = l;
}

-- ---- where the line stands

module _ {head entry exit : List ℕ} {names : List (List ℕ)} {from : ℕ} {row : RollLine}
    (f : Filling head names entry from exit row) where
  pub filling_used : row.at.at ≡ row.begin + length f.last
  filling_used = omega (arith, f.wrote.place, f.begin_is, length-append (rows_bytes f.closed) f.last)

  -- the lines that ended and those that follow
  parts_length : (more : List (List ℕ)) → length (rows_bytes (fill head (names ++ more)))
      ≡ length (rows_bytes f.closed) + length (rows_bytes (fill f.last more))
  parts_length more =
      ap (λ (rows : List (List ℕ)). length (rows_bytes rows)) (f.filled more)
      ∙ ap length (rows_bytes-append f.closed (fill f.last more))
      ∙ length-append (rows_bytes f.closed) (rows_bytes (fill f.last more))

  -- room for all lines is room for one more name
  pub filling_room : {all : List (List ℕ)} (name : List ℕ) (more : List (List ℕ)) → all ≡ names ++ (name ∷ more)
      → from + length (rows_bytes (fill head all)) ≤ length entry → NameRoom row (length name) (length exit)
  filling_room name more e l =
      let a = ap (λ (x : List (List ℕ)). length (rows_bytes (fill head x))) e in
      let n = parts_length (name ∷ more) in
      let b = rows_bytes-length_le (fill f.last (name ∷ more)) in
      let one = fill_pos f.last (name ∷ more) in
      let same = wrote-length f.wrote in
      record {
        begin_le = omega (arith, filling_used);
        at_le = omega (arith, filling_used, f.last_le);
        line_lt = omega (arith, l, a, n, b, one, f.begin_is, same);
        next_lt = λ h.
            let two = ap length (fill_next f.last name more (omega (arith, h, filling_used))) in
            omega (arith, l, a, n, b, two, fill_pos (blanks name_indent ++ name) more, f.begin_is, same);
      }

  -- and for the end of the last line
  pub filling_end_room : {all : List (List ℕ)} → all ≡ names
      → from + length (rows_bytes (fill head all)) ≤ length entry
      → (row.begin ≤ row.at.at) × (row.at.at ≤ row.begin + roll_width) × (row.begin + roll_width < length exit)
  filling_end_room e l =
      let n = ap (λ (x : List (List ℕ)). length (rows_bytes (fill head x))) (e ∙ sym (append-nil names)) in
      let b = rows_bytes-length_le (fill f.last []) in (
        omega (arith, filling_used),
        omega (arith, filling_used, f.last_le),
        omega (arith, l, n, parts_length [], b, fill_pos f.last [], f.begin_is, wrote-length f.wrote),
      )

  -- the last line padded and ended
  pub filling_end : {all : List (List ℕ)} {exit' : List ℕ} {next : ℕ} → all ≡ names
      → Wrote exit row.at.at (blanks (roll_width - (row.at.at - row.begin)) ++ (byte_line_end ∷ [])) exit' next
      → Wrote entry from (rows_bytes (fill head all)) exit' next
  unfolding fill flush_left
  filling_end {all} {exit'} {next} e w =
      let used : row.at.at - row.begin ≡ length f.last = omega (arith, filling_used) in
      let pad = blanks (roll_width - length f.last) in
      let rows = ap (fill head) (e ∙ sym (append-nil names)) ∙ f.filled [] in
      let bytes : rows_bytes f.closed ++ f.last ++ (pad ++ (byte_line_end ∷ [])) ≡ rows_bytes (fill head all) =
      append_assoc (rows_bytes f.closed) f.last (pad ++ (byte_line_end ∷ []))
      ∙ ap (λ (t : List ℕ). rows_bytes f.closed ++ t) (sym (append_assoc f.last pad (byte_line_end ∷ [])))
      ∙ sym (rows_bytes_last f.closed f.last)
      ∙ ap rows_bytes (sym rows) in
      subst (λ (t : List ℕ). Wrote entry from t exit' next) bytes (wrote-append f.wrote (rw used at w))

-- room for all lines is room for the first
pub rows-room : (head : List ℕ) (names : List (List ℕ)) (at : ℕ) {room : ℕ}
    → at + length (rows_bytes (fill head names)) ≤ room → at + roll_width < room
rows-room head names at l = omega (arith, l, rows_bytes-length_le (fill head names), fill_pos head names)

-- ---- one more name

pub filled-nil : {entry : List ℕ} {row : RollLine} → NamesFilled [] entry row entry row
filled-nil {entry} {row} = record {
  filling = λ head before first from f.
      subst (λ (names : List (List ℕ)). Filling head names first from entry row) (sym (append-nil before)) f;
}

pub filled-append : {names more : List (List ℕ)} {entry middle exit : List ℕ} {row between next : RollLine}
    → NamesFilled names entry row middle between → NamesFilled more middle between exit next
    → NamesFilled (names ++ more) entry row exit next
filled-append {names} {more} {exit = exit} {next = next} x y = record {
  filling = λ head before first from f.
      subst (λ (all : List (List ℕ)). Filling head all first from exit next) (append_assoc before names more)
      (y.filling head (before ++ names) first from (x.filling head before first from f));
}

-- a name and those after it
before_more : (before : List (List ℕ)) (name : List ℕ) (more : List (List ℕ))
    → before ++ (name ∷ []) ++ more ≡ before ++ (name ∷ more)
before_more before name more = append_assoc before (name ∷ []) more

module _ {name entry exit : List ℕ} {row next : RollLine} (n : length name ≤ name_limit) where
  -- behind a blank
  pub filled_fits : row.at.at - row.begin + 1 + length name ≤ roll_width → next.begin ≡ row.begin
      → Wrote entry row.at.at (blanks 1 ++ name) exit next.at.at
      → NamesFilled (name ∷ []) entry row exit next
  filled_fits l e w = record {
    filling = λ head before first from f. record {
      closed = f.closed;
      last = f.last ++ (byte_blank ∷ name);
      filled = λ more.
          ap (fill head) (before_more before name more)
          ∙ f.filled (name ∷ more)
          ∙ ap (λ (rows : List (List ℕ)). f.closed ++ rows)
          (fill_fits f.last name more (omega (arith, l, filling_used f)));
      wrote = rw (← append_assoc (rows_bytes f.closed) f.last (byte_blank ∷ name)) (wrote-append f.wrote w);
      begin_is = omega (arith, e, f.begin_is);
      last_le = omega (arith, l, filling_used f, length-append f.last (byte_blank ∷ name));
    };
  }

  -- on a next line, once this one is padded and ended
  pub filled_next : {middle : List ℕ} {at : ℕ} {start : RollLine}
      → roll_width < row.at.at - row.begin + 1 + length name
      → Wrote entry row.at.at (blanks (roll_width - (row.at.at - row.begin)) ++ (byte_line_end ∷ [])) middle at
      → (start.at.at ≡ at) × (start.begin ≡ at) → next.begin ≡ start.begin
      → Wrote middle start.at.at (blanks name_indent ++ name) exit next.at.at
      → NamesFilled (name ∷ []) entry row exit next
  unfolding fill
  filled_next {middle} {at} {start} l end begun e w = record {
    filling = λ head before first from f.
        let closed = f.closed ++ (f.last ∷ []) in
        let whole : fill head before ≡ closed = ap (fill head) (sym (append-nil before)) ∙ f.filled [] in
        let ended : Wrote first from (rows_bytes closed) middle at =
        subst (λ (rows : List (List ℕ)). Wrote first from (rows_bytes rows) middle at) whole (filling_end f refl end) in
        record {
          closed = closed;
          last = blanks name_indent ++ name;
          filled = λ more.
              ap (fill head) (before_more before name more)
              ∙ f.filled (name ∷ more)
              ∙ ap (λ (rows : List (List ℕ)). f.closed ++ rows)
              (fill_next f.last name more (omega (arith, l, filling_used f)))
              ∙ sym (append_assoc f.closed (f.last ∷ []) (fill (blanks name_indent ++ name) more));
          wrote = wrote-append ended (rw begun.0 at w);
          begin_is = omega (arith, e, begun.1, ended.place);
          last_le = omega (arith, n, length-append (blanks name_indent) name);
        };
  }
