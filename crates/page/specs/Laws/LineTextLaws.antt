-- What the texts of a page's lines are made of: no line but a state's holds anything but digits, letters and commas.
-- Document 01, "The page". Assumes nothing.
use Rattle.std.specs.Prelude.{true, ◌≡◌, refl, ℕ, ◌≤◌, ◌<◌, T, length}
use mathlib.Core.List.{List, [], ◌∷◌, ◌++◌, map, append_assoc}
use Rattle.std.proofs.Common.{inl, inr, sym, ap, subst, ◌∙◌, arith}
use Rattle.std.proofs.lemmas.Bool.{eqb-false}
use Rattle.lts.specs.Noninterference.{Low}
use Rattle.text.specs.All.{All}
use Rattle.text.specs.Bytes.{byte_v, byte_r, byte_w, byte_b, byte_n, byte_e}
use Rattle.text.specs.Bytes.{other, digit, small_letter, line_end, kind_of}
use Rattle.text.specs.Limits.{name_limit}
use Rattle.text.specs.Model.{Model}
use Rattle.text.specs.Numbers.{digits}
use Rattle.model.specs.Inner.LineText.{NameByte}
use Rattle.text.specs.Join.{Without}
use Rattle.model.specs.Text.{field}
use Rattle.model.specs.WellFormed.{WellFormed}
use Rattle.model.specs.Laws.Store.SystemLaws.{low_lt}
use Rattle.model.specs.Laws.Store.WellFormedLaws.{action_fits}
use Rattle.model.specs.Laws.Text.ActionLineLaws.{name_bytes, name-length}
use Rattle.text.specs.Laws.AllLaws.{all_intro, all_append, all_map, all_of_all}
use Rattle.text.specs.Laws.JoinLaws.{without?, without_test}
use Rattle.model.specs.Laws.Text.JoinedFieldsLaws.{digits_without}
use Rattle.verdicts.specs.declared.judging.Verdict.{Verdict}
use Rattle.verdicts.specs.declared.judging.Verdict.TheVariants.{Passed, Refused}
use Rattle.letters.specs.declared.word.End.{End}
use Rattle.letters.specs.declared.word.End.TheVariants.{Source, Target}
use Rattle.lines.specs.PageLines.{PageLine, verdict_line, state_line, run_line, word_line, allows_line, no_word_line}
use Rattle.lines.specs.PageLines.{last_line, pass_text, refuse_text, end_text, line_text}
use Rattle.lines.specs.Page.{StateLines, no_state, next_state, name_line, LeakShown, by_word, by_branch, by_silent}
use Rattle.lines.specs.Page.{AfterStates, PageOf}
use Rattle.lines.specs.Inner.FormLines.{TextFits}
use Rattle.lines.specs.Laws.PageLinesLaws.{verdict_fits, run_fits, word_fits, allows_fits, no_word_fits, last_fits}
use Rattle.model.specs.System.{view, name_of}
use Rattle.page.specs.RollClaim.{lettered?}
use Rattle.page.specs.Inner.OtherLines.{unless_state, without_states, NoBlanks, OtherLine, AnyLine, of_state}
use Rattle.page.specs.Inner.OtherLines.{of_other}

-- ---- texts of digits, letters and commas

-- a constant text, by evaluation
no_blanks_test : (l : List ℕ) → T (without? line_end l) → T (without? other l) → NoBlanks l
no_blanks_test l t u = record { no_line_end = without_test line_end l t; no_other = without_test other l u }

pub no_blanks-digits : (n : ℕ) → NoBlanks (digits n)
no_blanks-digits n = record {
  no_line_end = (digits_without line_end (λ e. eqb-false digit line_end refl e) (n ∷ [])).0;
  no_other = (digits_without other (λ e. eqb-false digit other refl e) (n ∷ [])).0;
}

no_blanks-field : (f : List ℕ) → NoBlanks f → NoBlanks (field f)
unfolding kind_of
no_blanks-field f p =
    record { no_line_end = (λ e. omega arith, p.no_line_end); no_other = (λ e. omega arith, p.no_other) }

no_blanks-append : (a b : List ℕ) → NoBlanks a → NoBlanks b → NoBlanks (a ++ b)
no_blanks-append a b p q = record {
  no_line_end = all_append (λ x. kind_of x ≡ line_end → ⊥) a b p.no_line_end q.no_line_end;
  no_other = all_append (λ x. kind_of x ≡ other → ⊥) a b p.no_other q.no_other;
}

no_blanks_number : (a : List ℕ) (n : ℕ) → NoBlanks a → NoBlanks (a ++ field (digits n))
no_blanks_number a n p = no_blanks-append a (field (digits n)) p (no_blanks-field (digits n) (no_blanks-digits n))

-- ---- the lines

other_line : {l : PageLine} {width : ℕ} → TextFits l width → unless_state l ≡ l ∷ [] → lettered? (line_text l) ≡ true
    → NoBlanks (line_text l) → OtherLine l
other_line {width = width} fits stays begins no_blanks =
    record { width = width; fits = fits; stays = stays; begins = begins; no_blanks = no_blanks }

verdict_other : (v : Verdict) → OtherLine (verdict_line v)
unfolding line_text unless_state lettered? without? kind_of
verdict_other (Passed rank) =
    let text = (byte_v ∷ []) ++ field pass_text in
    other_line (verdict_fits (Passed rank)) refl refl (no_blanks_number text rank (no_blanks_test text tt tt))
verdict_other (Refused j depth) =
    let text = (byte_v ∷ []) ++ field refuse_text in
    other_line (verdict_fits (Refused j depth)) refl refl
    (no_blanks_number (text ++ field (digits j.0)) depth (no_blanks_number text j.0 (no_blanks_test text tt tt)))

run_other : (j : ℕ) → OtherLine (run_line j)
unfolding line_text unless_state lettered? without? kind_of
run_other j = other_line (run_fits j) refl refl (no_blanks_number (byte_r ∷ []) j (no_blanks_test (byte_r ∷ []) tt tt))

word_other : (name : List ℕ) → length name ≤ name_limit → NoBlanks name → OtherLine (word_line name)
unfolding line_text unless_state lettered? without? kind_of
word_other name short p =
    other_line (word_fits name short) refl refl
    (no_blanks-append (byte_w ∷ []) (field name) (no_blanks_test (byte_w ∷ []) tt tt) (no_blanks-field name p))

allows_other : (end : End) → OtherLine (allows_line end)
unfolding line_text end_text unless_state lettered? without? kind_of
allows_other Source =
    other_line (allows_fits Source) refl refl (no_blanks_test ((byte_b ∷ []) ++ field (end_text Source)) tt tt)
allows_other Target =
    other_line (allows_fits Target) refl refl (no_blanks_test ((byte_b ∷ []) ++ field (end_text Target)) tt tt)

no_word_other : OtherLine no_word_line
unfolding line_text unless_state lettered? without? kind_of
no_word_other = other_line no_word_fits refl refl (no_blanks_test (byte_n ∷ []) tt tt)

last_other : OtherLine last_line
unfolding line_text unless_state lettered? without? kind_of
last_other = other_line last_fits refl refl (no_blanks_test (byte_e ∷ []) tt tt)

-- ---- the lines that are no state's

without_states-append : (xs ys : List PageLine) → without_states (xs ++ ys) ≡ without_states xs ++ without_states ys
unfolding without_states
without_states-append [] ys = refl
without_states-append (x ∷ xs) ys =
    ap (λ (z : List PageLine). unless_state x ++ z) (without_states-append xs ys)
    ∙ sym (append_assoc (unless_state x) (without_states xs) (without_states ys))

without_states_states : {m : Model} {n : ℕ} {lines : List PageLine} → StateLines m n lines → without_states lines ≡ []
unfolding without_states unless_state
without_states_states no_state = refl
without_states_states (next_state {n = n} {lines = lines} {distance = d} {class = c} x f k) =
    without_states-append lines (state_line n d c ∷ [])
    ∙ ap (λ (z : List PageLine). z ++ []) (without_states_states x)

without_states-others : (lines : List PageLine) → All OtherLine lines → without_states lines ≡ lines
unfolding without_states
without_states-others [] p = refl
without_states-others (l ∷ lines) p =
    ap (λ (z : List PageLine). z ++ without_states lines) p.0.stays ∙ ap (◌∷◌ l) (without_states-others lines p.1)

without_states-whole : (v : Verdict) (states after : List PageLine) → without_states states ≡ []
    → without_states after ≡ after
    → without_states ((verdict_line v ∷ []) ++ states ++ after ++ (last_line ∷ []))
    ≡ (verdict_line v ∷ []) ++ [] ++ after ++ (last_line ∷ [])
unfolding without_states unless_state
without_states-whole v states after e f =
    without_states-append ((verdict_line v ∷ []) ++ states ++ after) (last_line ∷ [])
    ∙ ap (λ (z : List PageLine). z ++ (last_line ∷ []))
    (without_states-append ((verdict_line v ∷ []) ++ states) after
    ∙ ap (λ (z : List PageLine). (verdict_line v ∷ z) ++ without_states after) e
    ∙ ap (◌∷◌ (verdict_line v)) f)

-- ---- the page

states_any : {m : Model} {n : ℕ} {lines : List PageLine} → StateLines m n lines → All AnyLine lines
states_any no_state = tt
states_any (next_state {n = n} {lines = lines} {distance = d} {class = c} x f k) =
    all_append AnyLine lines (state_line n d c ∷ []) (states_any x) (of_state n d c, tt)

module _ {m : Model} (w : WellFormed m) where
  name_byte_not : (kind : ℕ) → (digit ≡ kind → ⊥) → (small_letter ≡ kind → ⊥) → (b : ℕ) → NameByte b → kind_of b ≡ kind
      → ⊥
  name_byte_not kind n k b (inl e) h = n (sym e ∙ h)
  name_byte_not kind n k b (inr e) h = k (sym e ∙ h)

  name_without : (kind : ℕ) → (digit ≡ kind → ⊥) → (small_letter ≡ kind → ⊥) → (a : ℕ) → a < length m.actions
      → Without kind (name_of m a)
  name_without kind n k a l =
      all_of_all NameByte (λ b. kind_of b ≡ kind → ⊥) (name_byte_not kind n k) (name_of m a)
      (name_bytes (name_of m a) (action_fits m w a _ l).name)

  -- a name has digits and small letters
  pub no_blanks_name : (a : ℕ) → a < length m.actions → NoBlanks (name_of m a)
  no_blanks_name a l = record {
    no_line_end = name_without line_end (λ e. eqb-false digit line_end refl e)
        (λ e. eqb-false small_letter line_end refl e) a l;
    no_other = name_without other (λ e. eqb-false digit other refl e) (λ e. eqb-false small_letter other refl e) a l;
  }

  pub name_short : (a : ℕ) → a < length m.actions → length (name_of m a) ≤ name_limit
  name_short a l = (name-length (name_of m a) (action_fits m w a _ l).name).1

  names_other : (word : List ℕ) → Low (view m).levels word → All (λ a. OtherLine (name_line m a)) word
  unfolding Low
  names_other [] x = tt
  names_other (a ∷ word) x =
      let l = low_lt m a x.0 in
      (word_other (name_of m a) (name_short a l) (no_blanks_name a l), names_other word x.1)

  leak_other : {j depth : ℕ} {word word' : List ℕ} {lines : List PageLine} → LeakShown m j depth word word' lines
      → All OtherLine lines
  leak_other (by_word {w = word} {end = end} det still x l e) =
      all_append OtherLine (map (name_line m) word) (allows_line end ∷ [])
      (all_map OtherLine (name_line m) word (names_other word x.first_word.is_low)) (allows_other end, tt)
  leak_other (by_branch n e) = (no_word_other, tt)
  leak_other (by_silent i s e) = (no_word_other, tt)

  after_other : (v : Verdict) (run word run' word' : List ℕ) (lines : List PageLine)
      → AfterStates m v run word run' word' lines → All OtherLine lines
  after_other (Passed rank) run word run' word' lines x = subst (All OtherLine) (sym x.lines_are) tt
  after_other (Refused j depth) run word run' word' lines x = subst (All OtherLine) (sym x.lines_are)
      (all_append OtherLine (map run_line x.steps) x.rest
      (all_map OtherLine run_line x.steps (all_intro (λ i. OtherLine (run_line i)) run_other x.steps))
      (leak_other x.shown))

  module _ {run word run' word' : List ℕ} {lines : List PageLine} (x : PageOf m run word run' word' lines) where
    -- what holds of the states' lines and of all others
    pub page_all : (P : PageLine → Type 0) → ((l : PageLine) → OtherLine l → P l) → All P x.states → All P lines
    page_all P other states =
        let after = after_other x.verdict run word run' word' x.after x.after_states in
        subst (All P) (sym x.lines_are)
        (all_append P ((verdict_line x.verdict ∷ []) ++ x.states ++ x.after) (last_line ∷ [])
        (all_append P ((verdict_line x.verdict ∷ []) ++ x.states) x.after
        (other (verdict_line x.verdict) (verdict_other x.verdict), states)
        (all_of_all OtherLine P other x.after after)) (other last_line last_other, tt))

    pub page_any : All AnyLine lines
    page_any = page_all AnyLine (λ l o. of_other o) (states_any x.state_lines)

    -- all lines but the states', in their order
    pub without_states_page : without_states lines
        ≡ (verdict_line x.verdict ∷ []) ++ [] ++ x.after ++ (last_line ∷ [])
    without_states_page =
        let after = after_other x.verdict run word run' word' x.after x.after_states in
        ap without_states x.lines_are
        ∙ without_states-whole x.verdict x.states x.after (without_states_states x.state_lines)
        (without_states-others x.after after)
