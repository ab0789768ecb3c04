-- The text of a model is its lines joined by line ends, and no line holds a line end or a number above a byte.
-- Document 01, "The text"; document 02, (iii). Assumes nothing.
use Rattle.std.proofs.Common.{List, [], ◌∷◌, ◌++◌, map, ◌≡◌, ℕ, ◌<◌, T, length, append_assoc, inl, inr, sym, ◌∙◌, arith}
use Rattle.std.proofs.Common.{lit<, length-append}
use Rattle.std.proofs.Math.Path.{refl}
use Rattle.std.proofs.lemmas.Bool.{eqb-false}
use Rattle.text.specs.declared.Head.{Head}
use Rattle.text.specs.declared.StepLine.{StepLine}
use Rattle.text.specs.Bytes.{kind_of, digit, capital, byte_a, byte_comma, byte_e, byte_i, byte_line_end, byte_m, byte_s}
use Rattle.text.specs.Laws.BytesLaws.{digit_within, small_letter_within, capital_within}
use Rattle.text.specs.Numbers.{digits}
use Rattle.text.specs.Laws.DigitsLaws.{digits-digit}
use Rattle.text.specs.All.{All}
use Rattle.text.specs.Laws.AllLaws.{all_intro, all_append, all_map, all_of_all}
use Rattle.text.specs.Join.{join}
use Rattle.text.specs.Laws.JoinLaws.{join-cons, all_join}
use Rattle.text.specs.Model.{ActionLine, Model}
use Rattle.text.specs.Lines.{name?}
use Rattle.model.specs.Text.{head_text, level_byte, action_text, start_text, step_text, actions_text, starts_text}
use Rattle.model.specs.Text.{steps_text, model_text}
use Rattle.model.specs.Store.{head_row, step_row}
use Rattle.model.specs.WellFormed.{ActionFits, WellFormed}
use Rattle.model.specs.Laws.Store.EachLaws.{all_of_each}
use Rattle.model.specs.Inner.LineText.{NameByte, LineByte, line_of, line_of_head, line_of_action}
use Rattle.model.specs.Inner.LineText.{line_of_start, line_of_step, parts_of}
use Rattle.model.specs.Laws.Text.ActionLineLaws.{name_bytes, level_byte-capital}

-- ---- a line's text is the line and its end

pub head_text_line : (h : Head) → head_text h ≡ line_of_head h ++ (byte_line_end ∷ [])
unfolding head_text join head_row
head_text_line h = simp append_assoc

pub action_text_line : (a : ActionLine) → action_text a ≡ line_of_action a ++ (byte_line_end ∷ [])
unfolding action_text join
action_text_line a = refl

pub start_text_line : (p : ℕ) → start_text p ≡ line_of_start p ++ (byte_line_end ∷ [])
unfolding start_text join
start_text_line p = refl

pub step_text_line : (s : StepLine) → step_text s ≡ line_of_step s ++ (byte_line_end ∷ [])
unfolding step_text join
step_text_line s = simp append_assoc

-- ---- the text is the lines joined

-- lines before others, whatever they are lines of
join_lines : {A : Type 0} (line : A → List ℕ) (text : List A → List ℕ) → text [] ≡ []
    → ((x : A) (xs : List A) → text (x ∷ xs) ≡ line x ++ (byte_line_end ∷ []) ++ text xs)
    → (xs : List A) (parts : List (List ℕ)) → 0 < length parts
    → join byte_line_end (map line xs ++ parts) ≡ text xs ++ join byte_line_end parts
join_lines line text nil cons [] parts h = rw nil
join_lines line text nil cons (x ∷ xs) parts h =
    let l : 0 < length (map line xs ++ parts) = simp length-append (omega arith) in
    join-cons byte_line_end (line x) (map line xs ++ parts) l
    ∙ rw (join_lines line text nil cons xs parts h, cons) (simp append_assoc)

actions_text_line : (a : ActionLine) (rest : List ActionLine)
    → actions_text (a ∷ rest) ≡ line_of_action a ++ (byte_line_end ∷ []) ++ actions_text rest
unfolding actions_text
actions_text_line a rest = rw (action_text_line a)

starts_text_line : (p : ℕ) (rest : List ℕ)
    → starts_text (p ∷ rest) ≡ line_of_start p ++ (byte_line_end ∷ []) ++ starts_text rest
unfolding starts_text
starts_text_line p rest = rw (start_text_line p)

steps_text_line : (s : StepLine) (rest : List StepLine)
    → steps_text (s ∷ rest) ≡ line_of_step s ++ (byte_line_end ∷ []) ++ steps_text rest
unfolding steps_text
steps_text_line s rest = rw (step_text_line s)

join_last : join byte_line_end ((byte_e ∷ []) ∷ [] ∷ []) ≡ byte_e ∷ byte_line_end ∷ []
unfolding join
join_last = refl

regroup : (h a i s e : List ℕ)
    → h ++ (byte_line_end ∷ []) ++ a ++ i ++ s ++ e ≡ h ++ (byte_line_end ∷ (a ++ (i ++ (s ++ e))))
regroup h a i s e = simp append_assoc

pub model_text-parts : (m : Model) → model_text m ≡ join byte_line_end (parts_of m)
unfolding model_text actions_text starts_text steps_text
model_text-parts m =
    let last : List (List ℕ) = (byte_e ∷ []) ∷ [] ∷ [] in
    let from-steps : List (List ℕ) = map line_of_step m.steps ++ last in
    let from-starts : List (List ℕ) = map line_of_start m.extra_starts ++ from-steps in
    let from-actions : List (List ℕ) = map line_of_action m.actions ++ from-starts in
    let k : 0 < length from-steps = simp length-append (omega arith) in
    let j : 0 < length from-starts = simp length-append (omega arith) in
    let l : 0 < length from-actions = simp length-append (omega arith) in
    let steps = join_lines line_of_step steps_text refl steps_text_line m.steps last (omega arith) in
    let starts = join_lines line_of_start starts_text refl starts_text_line m.extra_starts from-steps k in
    let actions = join_lines line_of_action actions_text refl actions_text_line m.actions from-starts j in
    sym (join-cons byte_line_end (line_of_head m.head) from-actions l
    ∙ rw (actions, starts, steps, join_last, head_text_line m.head)
    (sym (regroup (line_of_head m.head) (actions_text m.actions) (starts_text m.extra_starts) (steps_text m.steps)
    (byte_e ∷ byte_line_end ∷ []))))

-- ---- the bytes of lines

digit_line_byte : (b : ℕ) → kind_of b ≡ digit → LineByte b
digit_line_byte b e = let w = digit_within b e in (omega arith, λ z. omega arith)

name_byte_line_byte : (b : ℕ) → NameByte b → LineByte b
name_byte_line_byte b (inl e) = digit_line_byte b e
name_byte_line_byte b (inr e) = let w = small_letter_within b e in (omega arith, λ z. omega arith)

capital_line_byte : (b : ℕ) → kind_of b ≡ capital → LineByte b
capital_line_byte b e = let w = capital_within b e in (omega arith, λ z. omega arith)

comma_line_byte : LineByte byte_comma
unfolding kind_of
comma_line_byte = (lit< tt, λ z. eqb-false 4 5 refl z)

digits-line_bytes : (ns : List ℕ) → All (All LineByte) (map digits ns)
digits-line_bytes ns =
    all_map (All LineByte) digits ns (all_intro (λ n. All LineByte (digits n)) one ns)
  where
    one : (n : ℕ) → All LineByte (digits n)
    one n = all_of_all (λ b. kind_of b ≡ digit) LineByte digit_line_byte (digits n) (digits-digit n)

-- a capital and fields
line_of-line_bytes : (letter : ℕ) (fs : List (List ℕ)) → kind_of letter ≡ capital → All (All LineByte) fs
    → All LineByte (line_of letter fs)
line_of-line_bytes letter fs e h =
    all_join LineByte byte_comma comma_line_byte ((letter ∷ []) ∷ fs) ((capital_line_byte letter e, tt), h)

pub line_of_head-line_bytes : (h : Head) → All LineByte (line_of_head h)
unfolding kind_of
line_of_head-line_bytes h = line_of-line_bytes byte_m (map digits (head_row h)) refl (digits-line_bytes (head_row h))

pub line_of_start-line_bytes : (p : ℕ) → All LineByte (line_of_start p)
unfolding kind_of
line_of_start-line_bytes p = line_of-line_bytes byte_i (map digits (p ∷ [])) refl (digits-line_bytes (p ∷ []))

pub line_of_step-line_bytes : (s : StepLine) → All LineByte (line_of_step s)
unfolding kind_of
line_of_step-line_bytes s = line_of-line_bytes byte_s (map digits (step_row s)) refl (digits-line_bytes (step_row s))

pub line_of_action-line_bytes : (a : ActionLine) → T (name? a.name) → All LineByte (line_of_action a)
unfolding kind_of
line_of_action-line_bytes a t =
    let level = capital_line_byte (level_byte a.level) (level_byte-capital a.level) in
    let name = all_of_all NameByte LineByte name_byte_line_byte a.name (name_bytes a.name t) in
    line_of-line_bytes byte_a ((level_byte a.level ∷ []) ∷ a.name ∷ []) refl ((level, tt), (name, tt))

module _ (m : Model) (w : WellFormed m) where
  last_line_bytes : All (All LineByte) ((byte_e ∷ []) ∷ [] ∷ [])
  unfolding kind_of
  last_line_bytes = ((capital_line_byte byte_e refl, tt), (tt, tt))

  steps_line_bytes : All (All LineByte) (map line_of_step m.steps)
  steps_line_bytes =
      all_map (All LineByte) line_of_step m.steps
      (all_intro (λ s. All LineByte (line_of_step s)) line_of_step-line_bytes m.steps)

  starts_line_bytes : All (All LineByte) (map line_of_start m.extra_starts)
  starts_line_bytes =
      all_map (All LineByte) line_of_start m.extra_starts
      (all_intro (λ p. All LineByte (line_of_start p)) line_of_start-line_bytes m.extra_starts)

  actions_line_bytes : All (All LineByte) (map line_of_action m.actions)
  actions_line_bytes =
      all_map (All LineByte) line_of_action m.actions
      (all_of_each ActionFits (λ a. All LineByte (line_of_action a)) (λ b a f. line_of_action-line_bytes a f.name) []
      m.actions w.actions)

  pub parts_of_line_bytes : All (All LineByte) (parts_of m)
  parts_of_line_bytes =
      let last : List (List ℕ) = (byte_e ∷ []) ∷ [] ∷ [] in
      let steps : List (List ℕ) = map line_of_step m.steps in
      let starts : List (List ℕ) = map line_of_start m.extra_starts in
      let from-steps = all_append (All LineByte) steps last steps_line_bytes last_line_bytes in
      let from-starts = all_append (All LineByte) starts (steps ++ last) starts_line_bytes from-steps in (
        line_of_head-line_bytes m.head,
        all_append (All LineByte) (map line_of_action m.actions) (starts ++ (steps ++ last)) actions_line_bytes
            from-starts,
      )

  -- what holds of each byte of a line holds of each byte of each part
  pub parts_of_all : (P : ℕ → Type 0) → ((b : ℕ) → LineByte b → P b) → All (All P) (parts_of m)
  parts_of_all P f = all_of_all (All LineByte) (All P) (all_of_all LineByte P f) (parts_of m) parts_of_line_bytes
