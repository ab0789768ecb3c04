-- `action_line` knows the level's field by the place of the second comma, and the name as the rest of the line.
use Rattle.std.proofs.Common.{sym, ap, ◌∙◌, ◌≡◌, ℕ, List, [], ◌∷◌, ◌-◌, ◌≤◌, arith, length, take, drop, get_or}
use Rattle.std.proofs.Common.{length-drop, take_all, Some, None}
use Rattle.std.proofs.lemmas.Result.{err_from_is_err_and}
use Rattle.text.specs.declared.Fault.TheVariants.{Shape}
use Rattle.text.specs.Bytes.{byte_a}
use Rattle.text.specs.Lines.{checked, fields_of, level_of, name?, name_from, action_fields}
use Rattle.text.specs.Inner.LineAnswers.{action_read}
use Rattle.text.specs.Inner.PartAnswers.{level_read}
use Rattle.text.specs.Laws.ActionLaws.{action_other_place, action_parts, name_from_bad, name_from_good}
use Rattle.text.proofs.line.action_line.Goals as goal
use Rattle.text.proofs.line.action_line.Goals.{Else-find-ne3, then-not-fields-via-then-not-fields}
use Rattle.text.proofs.line.action_line.Goals.{then-not-fields-via-else-not-fields+then-find-ne3}

rest : (l : List ℕ) (k : ℕ) → take (length l - k) (drop k l) ≡ drop k l
rest l k = let d = length-drop k l in take_all (length l - k) (drop k l) (omega arith)

-- a level of one byte, and a name
parts : (c : Else-find-ne3) → let line = c.args.line.now in
    (4 ≤ length line)
    × (action_fields (fields_of byte_a 2 line) ≡ name_from (level_of (get_or line 2 0 ∷ [])) (drop 4 line))
parts c = action_parts _ _ c.fields.ensures c.if-not-fields.false _ c.find.ensures c.if-find-ne3.false

pub find-requires : goal.find-requires
find-requires c = c.fields.ensures.yes_length c.if-not-fields.false

pub returns-then-not-fields : goal.returns-then-not-fields
unfolding action_fields action_read
returns-then-not-fields c = elim c.then-not-fields.branch [
  | then-not-fields-via-then-not-fields w ↦ ap action_fields (c.fields.ensures.no_fields w.if-not-fields.true)
  | then-not-fields-via-else-not-fields+then-find-ne3 w ↦
      action_other_place _ _ c.fields.ensures w.if-not-fields.false _ w.find.ensures w.if-find-ne3.true
]

pub bounds-line-2 : goal.bounds-line-2
bounds-line-2 c = omega (arith, (parts (goal.at.bounds-line-2 c).Else-find-ne3).0)

pub returns-in_err-level : goal.returns-in_err-level
unfolding action_read level_read
returns-in_err-level c =
    let none : c.level_of.result ≡ None = grind (arith, c.ok_or.ensures, c.in_err-level.was) in
    let shape : c.in_err-level.field-0.0 ≡ Shape = grind (arith, c.ok_or.ensures, c.in_err-level.was) in
    let p = err_from_is_err_and c.from_residual.result c.from_residual.ensures.1 in
    rw (p.1, p.2, shape) ((parts (goal.at.returns-in_err-level c).Else-find-ne3).1
    ∙ name_from_bad _ _ (c.level_of.ensures ∙ ap level_read none))

pub slice_bounds-is_name-count : goal.slice_bounds-is_name-count
slice_bounds-is_name-count c = (parts (goal.at.slice_bounds-is_name-count c).Else-find-ne3).0

pub slice_bounds-is_name-start : goal.slice_bounds-is_name-start
slice_bounds-is_name-start c = omega (arith, (parts (goal.at.slice_bounds-is_name-start c).Else-find-ne3).0)

pub returns-then-not-is_name : goal.returns-then-not-is_name
unfolding action_read level_read checked
returns-then-not-is_name c =
    let some : c.level_of.result ≡ Some c.in_ok-level.level = grind (arith, c.ok_or.ensures, c.in_ok-level.was) in
    let named = ap name? (sym (rest c.args.line.now 4)) ∙ sym c.is_name.ensures ∙ c.if-not-is_name.true in
    (parts (goal.at.returns-then-not-is_name c).Else-find-ne3).1
    ∙ name_from_good _ _ _ (c.level_of.ensures ∙ ap level_read some) named

pub returns : goal.returns
unfolding action_read level_read checked
returns c =
    let some : c.level_of.result ≡ Some c.in_ok-level.level = grind (arith, c.ok_or.ensures, c.in_ok-level.was) in
    let named = ap name? (sym (rest c.args.line.now 4)) ∙ sym c.is_name.ensures ∙ c.if-not-is_name.false in
    (parts (goal.at.returns c).Else-find-ne3).1
    ∙ name_from_good _ _ _ (c.level_of.ensures ∙ ap level_read some) named
