-- A text whose first line and `A` lines are good, and that has no high action, is refused at the last `A` line,
-- whatever follows it.
-- Document 02, (vi). Assumes nothing.
use Rattle.std.proofs.Common.{not, List, [], ◌∷◌, ◌++◌, map, ◌≡◌, refl, ℕ, ◌+◌, ◌≤◌, ◌<◌, T, length, append_assoc, ap}
use Rattle.std.proofs.Common.{◌∙◌, arith, le-ltb}
use Rattle.text.specs.Bytes.{kind_of, line_end, byte_line_end}
use Rattle.text.specs.declared.Fault.TheVariants.{NoHigh}
use Rattle.text.specs.declared.Head.{Head}
use Rattle.text.specs.Limits.{text_limit}
use Rattle.text.specs.Split.{split}
use Rattle.text.specs.All.{All}
use Rattle.text.specs.Laws.AllLaws.{all_of_all}
use Rattle.text.specs.Laws.SplitLaws.{split_first}
use Rattle.text.specs.Laws.JoinLaws.{split-append}
use Rattle.text.specs.Model.{ActionLine, some_high?}
use Rattle.text.specs.Lines.{head_fits?}
use Rattle.model.specs.Reading.{faulty, read_text}
use Rattle.model.specs.Text.{head_text, actions_text}
use Rattle.model.specs.WellFormed.{EachAfter, ActionFits}
use Rattle.model.specs.Inner.LineText.{LineByte, line_of_head, line_of_action}
use Rattle.model.specs.Laws.Text.TextLaws.{head_text_line, action_text_line, line_of_head-line_bytes}
use Rattle.model.specs.Laws.Text.TextLaws.{line_of_action-line_bytes}
use Rattle.model.proofs.Laws.Text.PartsLaws.{read_model_no_high}

-- a line and its end, before what follows
split_line : (line rest : List ℕ) → All LineByte line
    → split line_end (line ++ (byte_line_end ∷ []) ++ rest) ≡ line ∷ split line_end rest
unfolding kind_of
split_line line rest bytes =
    let b = all_of_all LineByte (λ x. kind_of x ≡ line_end → ⊥) (λ x p. p.1) line bytes in
    rw append_assoc (split-append line_end byte_line_end line rest refl b)

split_actions : (before actions : List ActionLine) (rest : List ℕ) → EachAfter ActionFits before actions
    → split line_end (actions_text actions ++ rest) ≡ map line_of_action actions ++ split line_end rest
unfolding actions_text EachAfter
split_actions before [] rest e = refl
split_actions before (a ∷ actions) rest e =
    rw (action_text_line a, append_assoc (line_of_action a ++ (byte_line_end ∷ [])) (actions_text actions) rest)
    (split_line (line_of_action a) (actions_text actions ++ rest) (line_of_action-line_bytes a e.0.name)
    ∙ ap (λ (l : List (List ℕ)). line_of_action a ∷ l) (split_actions (before ++ (a ∷ [])) actions rest e.1))

pub read_text_no-high : (h : Head) (actions : List ActionLine) (rest : List ℕ) → T (head_fits? h)
    → length actions ≡ h.actions → EachAfter ActionFits [] actions → T (not (some_high? actions))
    → length (head_text h ++ (actions_text actions ++ rest)) ≤ text_limit
    → read_text (head_text h ++ (actions_text actions ++ rest)) ≡ faulty NoHigh (1 + length actions)
unfolding read_text
read_text_no-high h actions rest fits count each t l =
    let text : List ℕ = head_text h ++ (actions_text actions ++ rest) in
    let first : split line_end text ≡ line_of_head h ∷ split line_end (actions_text actions ++ rest) =
    rw (head_text_line h) (split_line (line_of_head h) (actions_text actions ++ rest) (line_of_head-line_bytes h)) in
    let w = split_first line_end rest in
    let some : 0 < length (split line_end rest) = rw w.2 (omega arith) in
    rw (le-ltb text_limit (length text) l, first, split_actions [] actions rest each)
    (read_model_no_high h actions fits count each (split line_end rest) some t)
