-- `fields` knows the first field by the place of the first comma and the first byte, and the count by the commas.
use Rattle.std.proofs.Common.{◌≡◌, sym, ap, ◌∙◌, [], ◌∷◌, ◌+◌, ◌≤◌, arith, length, drop, get_or}
use Rattle.std.proofs.lemmas.Bool.{eqb-true, eqb-false}
use Rattle.text.specs.Bytes.{comma}
use Rattle.text.specs.Split.{split}
use Rattle.text.specs.Laws.FieldsLaws.{byte_field}
use Rattle.text.specs.Laws.FieldsLaws.{fields_other-count, fields_other_place, fields_letter_decided}
use Rattle.text.proofs.line.fields.Goals as goal
use Rattle.text.proofs.line.fields.Goals.{Then-find-eq1, then-count-n, else-count-n}

-- a first field of one byte, and n more
first : (c : Then-find-eq1) → let line = c.args.line.now in
    (length (split comma line) ≡ c.args.n + 1)
    × (2 ≤ length line) × (split comma line ≡ (get_or line 0 0 ∷ []) ∷ split comma (drop 2 line))
first c = elim c.if-count-n.branch [
  | then-count-n w ↦
      let n : length (split comma c.args.line.now) ≡ c.args.n + 1 =
      c.count.ensures ∙ ap (λ m. m + 1) w.if-count-n.true in
      let one = eqb-true _ _ (sym w.value-is ∙ c.if-find-eq1.true) in
      let b = byte_field _ 0 _ (omega arith) w.find.ensures one (omega (arith, c.requires)) in
      (n, b.0, b.1)
  | else-count-n w ↦ absurd (w.if-count-n.false (eqb-true _ _ (sym w.value-is ∙ c.if-find-eq1.true)))
]

pub bounds-line-0 : goal.bounds-line-0
bounds-line-0 c = omega (arith, (first (goal.at.bounds-line-0 c).Then-find-eq1).1)

pub returns-then-find-eq1 : goal.returns-then-find-eq1
returns-then-find-eq1 c =
    let b = first (goal.at.returns-then-find-eq1 c).Then-find-eq1 in
    fields_letter_decided _ _ _ b.2 b.1 b.0 _ c.is_letter.ensures

pub returns-else-find-eq1 : goal.returns-else-find-eq1
returns-else-find-eq1 c = rw c.if-find-eq1.false (elim c.if-count-n.branch [
  | then-count-n w ↦
      fields_other_place _ _ _ _ w.find.ensures (eqb-false _ _ (sym w.value-is ∙ c.if-find-eq1.false))
  | else-count-n w ↦ fields_other-count _ _ _ _ c.count.ensures w.if-count-n.false
])
