-- The reading of a text goes on through its extra starts, which are the lines behind the actions that begin with `I`.
-- Document 02, (iii): "Lines `I,state` may follow the `A` lines". Assumes nothing.
use Rattle.std.proofs.Math.Bool.{true}
use mathlib.Core.List.{List, [], ◌∷◌, ◌++◌}
use Rattle.std.specs.Prelude.{◌≡◌, refl, ℕ, suc, ◌+◌, ◌-◌, ◌≤◌, ◌<◌, eqb, length, drop, get_or, set}
use Rattle.std.proofs.Common.{sym, ap, ◌∙◌, length-append, get_or-drop}
use native.Mathlib.Omega.{arith}
use borrow.Author.Tests.{eq-eqb, ne_eqb}
use Rattle.text.specs.declared.Fault.{Fault}
use Rattle.text.specs.declared.Head.{Head}
use Rattle.text.specs.Limits.{extra_limit, store_length, extra_count_place, extra_place}
use Rattle.text.specs.Bytes.{byte_i, line_end, kind_of}
use Rattle.text.specs.Split.{cons_first, split}
use Rattle.text.specs.Laws.SplitLaws.{Is, same, other, is, split-nil, split-end, split-cons, split_first}
use Rattle.text.specs.Laws.RangesLaws.{start_fits?→lt, above_starts?→lt}
use Rattle.text.specs.Model.{Model, with_extra_start, above_last?}
use Rattle.text.specs.Lines.{start_of}
use Rattle.text.specs.Inner.LineAnswers.{after?}
use Rattle.text.specs.Inner.Row.{LineTaken, LineRefused}
use Rattle.model.specs.Reading.{Reading, faulty, on_line, or_fault, start_line?, start_lines, read_starts}
use Rattle.model.specs.Laws.Text.LineTextLaws.{line_of_start_of}
use Rattle.model.specs.Laws.Store.StartsLaws.{last_start-snoc}
use Rattle.model.specs.Laws.Store.StoreLaws.{store_of-length_of_places}
use Rattle.model.specs.Laws.Store.PutLaws.{store_of-with_extra_start}
use Rattle.reader.specs.declared.answers.LineStart.{LineStart}
use Rattle.reader.specs.Inner.ReadSoFar.{whole, parts_from, AfterStart, AfterStarts}
use Rattle.reader.specs.Laws.ReadLaws.{line_refused, line_taken, in_text_next}

-- ---- the lines that begin with `I`

-- The first part of a text begins with the text's first byte, if it has one that is no line end.
first_part : (s : List ℕ) → (line : List ℕ) × (parts : List (List ℕ)) × (split line_end s ≡ line ∷ parts)
    × (start_line? line ≡ eqb (get_or s 0 0) byte_i)
unfolding cons_first start_line? kind_of
first_part [] = ([], [], split-nil line_end, refl)
first_part (b ∷ bs) = go (is (kind_of b) line_end) (split_first line_end bs)
  where
    no_letter : kind_of b ≡ line_end → b ≡ byte_i → ⊥
    no_letter e h = let k = sym e ∙ ap kind_of h in omega arith

    go : Is (kind_of b) line_end → (part : List ℕ) × (parts : List (List ℕ)) × (split line_end bs ≡ part ∷ parts)
        → (line : List ℕ) × (parts : List (List ℕ)) × (split line_end (b ∷ bs) ≡ line ∷ parts)
        × (start_line? line ≡ eqb b byte_i)
    go (same e) w = ([], split line_end bs, split-end line_end b bs e, sym (ne_eqb b byte_i (no_letter e)))
    go (other e) w = (b ∷ w.0, w.1, rw (split-cons line_end b bs e, w.2), refl)

module _ (text : List ℕ) (from : LineStart) where
  part_ahead : (line : List ℕ) × (parts : List (List ℕ)) × (parts_from text from ≡ line ∷ parts)
      × (start_line? line ≡ eqb (get_or text from.at 0) byte_i)
  part_ahead =
      let w = first_part (drop from.at text) in
      let z : from.at + 0 ≡ from.at = omega arith in
      (w.0, w.1, w.2, w.3 ∙ rw (get_or-drop, z))

  start_lines_none : (get_or text from.at 0 ≡ byte_i → ⊥) → start_lines (parts_from text from) ≡ 0
  unfolding start_lines
  start_lines_none n = let w = part_ahead in rw (w.2, w.3, ne_eqb (get_or text from.at 0) byte_i n)

  -- what is read of a line that begins with `I`, and of the lines behind it
  read_starts_line : (m : Model) → get_or text from.at 0 ≡ byte_i
      → read_starts (start_lines (parts_from text from)) from.line m (parts_from text from)
      ≡ on_line from.line (parts_from text from) (λ line parts.
      or_fault from.line (start_of m.head m.extra_starts line) (λ p.
      read_starts (start_lines parts) (suc from.line) (with_extra_start m p) parts))
  unfolding start_lines read_starts on_line
  read_starts_line m e =
      let w = part_ahead in rw w.2 (go w.0 w.1 (w.3 ∙ eq-eqb (get_or text from.at 0) byte_i e))
    where
      go : (line : List ℕ) (parts : List (List ℕ)) → start_line? line ≡ true
          → read_starts (start_lines (line ∷ parts)) from.line m (line ∷ parts)
          ≡ on_line from.line (line ∷ parts) (λ l rest.
          or_fault from.line (start_of m.head m.extra_starts l) (λ p.
          read_starts (start_lines rest) (suc from.line) (with_extra_start m p) rest))
      go line [] s = rw s
      go line (part ∷ parts) s = rw s

-- ---- the extra starts

module _ (h : Head) (text : List ℕ) (from : LineStart) (i last : ℕ) (store : List ℕ)
    (b : AfterStart h text from i last store) where
  -- "so at most 127"
  after_start_count_le : length b.extra_starts ≤ extra_limit
  after_start_count_le = omega (arith, b.count, b.count_le, b.last_lt, b.ranges.states)

  pub after_start_length : length store ≡ store_length
  after_start_length =
      let model : Model = record { head = h; actions = b.actions; extra_starts = b.extra_starts; steps = [] } in
      rw b.stored (store_of-length_of_places model b.action_places after_start_count_le (omega arith))

  -- a line that does not begin with `I` ends them
  pub after_starts : (get_or text from.at 0 ≡ byte_i → ⊥) → AfterStarts h text from store
  unfolding read_starts above_last? after?
  after_starts n =
      let z = start_lines_none text from n in
      let y : h.steps - 0 ≡ h.steps = omega arith in
      record {
        ranges = b.ranges;
        inside = b.inside;
        actions = b.actions;
        action_places = b.action_places;
        extra_starts = b.extra_starts;
        extra_count_le = after_start_count_le;
        steps = [];
        count = refl;
        last_step = record { above = λ t. refl };
        stored = b.stored;
        rest = b.rest ∙ rw (z, y);
      }

  module _ (letter : get_or text from.at 0 ≡ byte_i) where
    abbrev read_on : ℕ → ℕ → List (List ℕ) → Reading
    read_on k p parts =
        read_starts (start_lines parts) k
        (with_extra_start (record { head = h; actions = b.actions; extra_starts = b.extra_starts; steps = [] }) p) parts

    ahead : whole text ≡ on_line from.line (parts_from text from) (λ line parts.
        or_fault from.line (start_of h b.extra_starts line) (λ p. read_on (suc from.line) p parts))
    ahead = b.rest ∙ read_starts_line text from _ letter

    pub start_refused : (fault : Fault) → LineRefused (start_of h b.extra_starts) text from.at fault
        → whole text ≡ faulty fault from.line
    start_refused = line_refused text from b.inside.place (start_of h b.extra_starts) read_on ahead

  module _ (p next : ℕ) (l : LineTaken (start_of h b.extra_starts) text from.at p next) where
    -- a start that was read stands above the last one and below the states
    between : (last < p) × (p < h.states)
    between =
        let f = (line_of_start_of h b.extra_starts _ p l.2.reads).1 in
        let r = above_starts?→lt h b.extra_starts p f.rising in
        (omega (arith, r, b.last_start_is), start_fits?→lt h p f.in_range)

    -- so there is room for it
    pub start-room : i < extra_limit
    start-room = let r = between in omega (arith, r.0, r.1, b.count_le, b.ranges.states)

    pub start_taken : get_or text from.at 0 ≡ byte_i
        → AfterStart h text (record { at = next; line = from.line + 1 }) (i + 1) p
        (set (set store extra_count_place (i + 1)) (extra_place i) p)
    start_taken letter =
        let r = between in
        rw l.1 (record {
          ranges = b.ranges;
          inside = in_text_next text from l.0 b.inside l.2.found l.2.inside;
          actions = b.actions;
          action_places = b.action_places;
          extra_starts = b.extra_starts ++ (p ∷ []);
          count = length-append b.extra_starts (p ∷ []) ∙ omega arith;
          last_start_is = last_start-snoc h.start.0 b.extra_starts p;
          count_le = omega (arith, r.0, b.count_le);
          last_lt = r.1;
          stored = rw b.stored
              (store_of-with_extra_start h b.actions b.extra_starts p i b.action_places b.count start-room);
          rest = line_taken text from b.inside.place (start_of h b.extra_starts) (read_on letter) (ahead letter)
              p l.0 l.2;
        })
