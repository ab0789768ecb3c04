-- Where the name of an action's line stands in the text, and where the names used before stand in the store.
-- Document 01, "The text" and "The model store". Assumes nothing.
use Rattle.std.specs.Prelude.{List, [], ◌∷◌, ◌≡◌, ℕ, zero, suc, ◌+◌, ◌-◌, ◌≤◌, ◌<◌, length, take, drop}
use Rattle.std.proofs.Common.{append-nil, sym, ap, ◌∙◌, subst, arith, length-drop, drop-drop, length-take-le}
use Rattle.std.proofs.Math.Seq.{drop-nil, take-nil}
use Rattle.text.specs.declared.Head.{Head}
use Rattle.text.specs.Limits.{name_limit, actions_begin}
use Rattle.text.specs.Bytes.{byte_a}
use Rattle.text.specs.Lines.{good, fields_of, action_fields}
use Rattle.model.specs.Inner.StoredActions.{ActionsStored}
use Rattle.model.proofs.Laws.Store.NamesLaws.{actions_stored_store_of}
use Rattle.reader.specs.declared.answers.LineStart.{LineStart}
use Rattle.reader.specs.Inner.ReadSoFar.{AfterActions}
use Rattle.reader.specs.Laws.ReadLaws.{action_fields-length}

-- a part of a part
pub drop-take : (n m : ℕ) (l : List ℕ) → drop n (take m l) ≡ take (m - n) (drop n l)
drop-take zero m l = let z : m - 0 ≡ m = omega arith in rw z
drop-take (suc n) zero l = let z : 0 - suc n ≡ 0 = omega arith in rw z (drop-nil (suc n))
drop-take (suc n) (suc m) [] = rw (take-nil (suc m - suc n)) (drop-nil (suc n))
drop-take (suc n) (suc m) (x ∷ l) = let z : suc m - suc n ≡ m - n = omega arith in rw z (drop-take n m l)

-- the name of an action's line as a part of the text, from four places behind the line's start up to its end
pub name_part : (text : List ℕ) (at e level : ℕ) → at ≤ e → e < length text
    → action_fields (fields_of byte_a 2 (take (e - at) (drop at text)))
    ≡ good (record { level = level; name = drop 4 (take (e - at) (drop at text)) })
    → (at + 4 ≤ e) × (length (take (e - (at + 4)) (drop (at + 4) text)) ≤ name_limit)
    × (action_fields (fields_of byte_a 2 (take (e - at) (drop at text)))
    ≡ good (record { level = level; name = take (e - (at + 4)) (drop (at + 4) text) }))
name_part text at e level h l r =
    let n = action_fields-length (fields_of byte_a 2 (take (e - at) (drop at text))) _ r in
    let d = length-drop at text in
    let m = length-take-le (e - at) (drop at text) (omega arith) in
    let k = length-drop 4 (take (e - at) (drop at text)) in
    let z : e - at - 4 ≡ e - (at + 4) = omega arith in
    let p : drop 4 (take (e - at) (drop at text)) ≡ take (e - (at + 4)) (drop (at + 4) text) =
    drop-take 4 (e - at) (drop at text) ∙ rw (drop-drop 4 at text, z) in
    (omega arith, rw (← p) n.1, r ∙ ap (λ (x : List ℕ). good (record { level = level; name = x })) p)

-- the actions so far stand in the store
pub actions_stored_so_far : (h : Head) (text : List ℕ) (start : LineStart) (i : ℕ) (store : List ℕ)
    (b : AfterActions h text start i store) → ActionsStored store actions_begin b.actions
actions_stored_so_far h text start i store b =
    subst (λ (s : List ℕ). ActionsStored s actions_begin b.actions) (append-nil _ ∙ sym b.stored)
    (actions_stored_store_of (record { head = h; actions = b.actions; extra_starts = []; steps = [] }) [] b.short)
