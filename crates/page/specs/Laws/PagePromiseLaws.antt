-- The promise of Page and Roll pins the answer and the content of each list: a model has one page, and one roll.
-- Document 01, operation 7; document 02, (ii). Assumes nothing.
use Rattle.std.specs.Prelude.{Result, Ok, Err}
use Rattle.std.specs.Prelude.{cond, List, [], ◌∷◌, ◌++◌, map, ◌≡◌, refl, ℕ, zero, suc, eqb, length, get_or, drop}
use Rattle.std.proofs.Math.Option.{Option, some}
use Rattle.std.proofs.Common.{sym, ap, subst, ◌∙◌}
use Rattle.lts.proofs.RunLaws.{distance_unique}
use Rattle.lts.proofs.TestsLaws.{eq_of_not_lt}
use Rattle.lts.proofs.WithinLaws.{distance→Reachable}
use Rattle.text.specs.Faults.{Outcome, answers, refuses}
use Rattle.text.specs.Laws.OutcomeLaws.{injective_of_inverse}
use Rattle.text.specs.Model.{Model}
use Rattle.model.proofs.Laws.OnStoreLaws.{on_store_unique}
use Rattle.verdicts.specs.declared.judging.Verdict.{Verdict}
use Rattle.verdicts.specs.declared.judging.Verdict.TheVariants.{Passed, Refused}
use Rattle.verdicts.specs.Laws.JudgeFilledLaws.{filled_unique}
use Rattle.model.proofs.Laws.System.GoodStoredLaws.{good_stored}
use Rattle.distances.specs.Laws.RunsLaws.{run_to_unique}
use Rattle.verdicts.proofs.Laws.VerdictsLaws.{judged_unique}
use Rattle.letters.specs.declared.word.End.{End}
use Rattle.letters.specs.Laws.WordDoneLaws.{word_of_unique}
use Rattle.lines.specs.PageLines.{PageLine, verdict_line, run_line, allows_line, last_line}
use Rattle.lines.specs.Page.{DistanceField, unreached, reached, ClassOf, StateLines, no_state, next_state}
use Rattle.lines.specs.Page.{name_line, LeakShown, by_word, by_branch, by_silent, AfterStates, PageOf}
use Rattle.model.specs.declared.refusal.Refusal.{Refusal}
use Rattle.model.specs.declared.refusal.Refusal.TheVariants.{ShortList, NotGood}
use Rattle.lines.specs.declared.lines.Form.{Form}
use Rattle.lines.specs.declared.lines.Form.TheVariants.{Page, Roll}
use Rattle.lines.specs.Roll.{form_bytes}
use Rattle.page.specs.PagePromise.{page_outcome, PagePrinted, FormPromise, PagePromise, RollPromise}
use Rattle.model.specs.System.{view}

-- ---- the `C` lines

distance_field_unique : {m : Model} {p : ℕ} {d e : Option ℕ} → DistanceField m p d → DistanceField m p e → d ≡ e
distance_field_unique (unreached f) (unreached g) = refl
distance_field_unique (unreached f) (reached y) = absurd (f (distance→Reachable y))
distance_field_unique (reached x) (unreached g) = absurd (g (distance→Reachable x))
distance_field_unique {m} {p} (reached {d = d} x) (reached {d = e} y) =
    ap some (distance_unique (view m) p d e x y)

class_of_unique : {m : Model} {p c d : ℕ} → ClassOf m p c → ClassOf m p d → c ≡ d
class_of_unique {c = c} {d} x y =
    eq_of_not_lt c d (λ l. y.lowest c l x.class_among x.rank_zero)
    (λ l. x.lowest d l y.class_among y.rank_zero)

state_lines_unique : {m : Model} (n : ℕ) {xs ys : List PageLine} → StateLines m n xs → StateLines m n ys → xs ≡ ys
state_lines_unique zero no_state no_state = refl
state_lines_unique (suc n) (next_state {lines = xs} {distance = d} {class = c} x f k)
    (next_state {lines = ys} {distance = e} {class = l} y g h) =
    let a : xs ≡ ys = state_lines_unique n x y in
    let b : d ≡ e = distance_field_unique f g in
    let i : c ≡ l = class_of_unique k h in
    rw (a, b, i)

-- ---- what shows the leak

leak_shown_unique : {m : Model} {j depth : ℕ} {word word' word'' : List ℕ} {xs ys : List PageLine}
    → LeakShown m j depth word word' xs → LeakShown m j depth word word'' ys → (xs ≡ ys) × (word' ≡ word'')
leak_shown_unique {m} {word = word} (by_word {w = w} {end = d} det still x _ e)
    (by_word {w = u} {end = f} _ _ y _ g) =
    let same = word_of_unique x y in (
      ap (λ (z : List ℕ). map (name_line m) z ++ (allows_line d ∷ [])) same.0
          ∙ ap (λ (z : End). map (name_line m) u ++ (allows_line z ∷ [])) same.1,
      e ∙ ap (λ (z : List ℕ). z ++ drop (length z) word) same.0 ∙ sym g,
    )
leak_shown_unique (by_word det still x _ e) (by_branch n g) = absurd (n det)
leak_shown_unique (by_word det still x _ e) (by_silent i s g) = absurd (still i s)
leak_shown_unique (by_branch n e) (by_word det still y _ g) = absurd (n det)
leak_shown_unique (by_branch n e) (by_branch k g) = (refl, e ∙ sym g)
leak_shown_unique (by_branch n e) (by_silent i s g) = (refl, e ∙ sym g)
leak_shown_unique (by_silent i s e) (by_word det still y _ g) = absurd (still i s)
leak_shown_unique (by_silent i s e) (by_branch k g) = (refl, e ∙ sym g)
leak_shown_unique (by_silent i s e) (by_silent k u g) = (refl, e ∙ sym g)

after_states_unique : (m : Model) (v : Verdict) (run word : List ℕ) {run' word' run'' word'' : List ℕ}
    {xs ys : List PageLine}
    → AfterStates m v run word run' word' xs → AfterStates m v run word run'' word'' ys
    → (xs ≡ ys) × (run' ≡ run'') × (word' ≡ word'')
after_states_unique m (Passed top) run word x y =
    (x.lines_are ∙ sym y.lines_are, x.run_kept ∙ sym y.run_kept, x.word_kept ∙ sym y.word_kept)
after_states_unique m (Refused j depth) run word x y =
    let steps = run_to_unique x.run_to y.run_to in
    let rest = leak_shown_unique x.shown y.shown in (
      x.lines_are ∙ ap (λ (z : List ℕ). map run_line z ++ x.rest) steps
          ∙ ap (λ (z : List PageLine). map run_line y.steps ++ z) rest.0 ∙ sym y.lines_are,
      x.run_list ∙ ap (λ (z : List ℕ). z ++ drop (length z) run) steps ∙ sym y.run_list,
      rest.1,
    )

-- ---- the page

pub page_of_unique : {m : Model} {run word run' word' run'' word'' : List ℕ} {xs ys : List PageLine}
    → PageOf m run word run' word' xs → PageOf m run word run'' word'' ys
    → (xs ≡ ys) × (run' ≡ run'') × (word' ≡ word'')
page_of_unique {m} {run} {word} {run'' = run''} {word''} x y =
    let v : y.verdict ≡ x.verdict = judged_unique m y.verdict x.verdict y.judged x.judged in
    let states = state_lines_unique m.head.states x.state_lines y.state_lines in
    let after = after_states_unique m x.verdict run word x.after_states
    (subst (λ (z : Verdict). AfterStates m z run word run'' word'' y.after) v y.after_states) in (
      x.lines_are ∙ whole (sym v) states after.0 ∙ sym y.lines_are,
      after.1,
      after.2,
    )
  where
    whole : {v u : Verdict} {a b c d : List PageLine} → v ≡ u → a ≡ b → c ≡ d
        → (verdict_line v ∷ []) ++ a ++ c ++ (last_line ∷ []) ≡ (verdict_line u ∷ []) ++ b ++ d ++ (last_line ∷ [])
    whole e f g = rw (e, f, g)

pub page_printed_unique : {form : Form} {m : Model} {t u : Outcome}
    {run word out run' word' out' run'' word'' out'' : List ℕ}
    → PagePrinted form m t run word out run' word' out' → PagePrinted form m u run word out run'' word'' out''
    → (t ≡ u) × (run' ≡ run'') × (word' ≡ word'') × (out' ≡ out'')
page_printed_unique {form} {m} {out = out} x y =
    let e = page_of_unique x.page y.page in (
      x.outcome_is ∙ ap (λ (z : List PageLine). answers (length (form_bytes form m z) ∷ [])) e.0
          ∙ sym y.outcome_is,
      e.1,
      e.2,
      x.list ∙ ap (λ (z : List PageLine). form_bytes form m z ++ drop (length (form_bytes form m z)) out) e.0
          ∙ sym y.list,
    )

-- ---- the promise

module _ (form : Form) (store distances table run word out : List ℕ) (t u : Outcome)
    (d' t' r' w' o' d'' t'' r'' w'' o'' : List ℕ) where
  -- one answer, and one content of each list
  abbrev Same : Type 0
  Same = (t ≡ u) × (d' ≡ d'') × (t' ≡ t'') × (r' ≡ r'') × (w' ≡ w'') × (o' ≡ o'')

  pub form_promise_unique : FormPromise form store distances table run word out t d' t' r' w' o'
      → FormPromise form store distances table run word out u d'' t'' r'' w'' o'' → Same
  form_promise_unique x y =
      let e = on_store_unique {Same = (d' ≡ d'') × (t' ≡ t'') × (r' ≡ r'') × (w' ≡ w'') × (o' ≡ o'')}
      (λ a b.
      (a.0 ∙ sym b.0, a.1 ∙ sym b.1, a.2 ∙ sym b.2, a.3 ∙ sym b.3, a.4 ∙ sym b.4))
      (λ g a b.
      let f = filled_unique (good_stored store g) distances table d' t' d'' t'' a.0 b.0 in
      let h = page_printed_unique a.1 b.1 in
      (h.0, (f.0, f.1, h.1, h.2, h.3))) x y in
      (e.0, e.1.0, e.1.1, e.1.2, e.1.3, e.1.4)

module _ (store distances table run word out : List ℕ) (t u : Outcome)
    (d' t' r' w' o' d'' t'' r'' w'' o'' : List ℕ) where
  pub page_promise_unique : PagePromise store distances table run word out t d' t' r' w' o'
      → PagePromise store distances table run word out u d'' t'' r'' w'' o''
      → (t ≡ u) × (d' ≡ d'') × (t' ≡ t'') × (r' ≡ r'') × (w' ≡ w'') × (o' ≡ o'')
  page_promise_unique = form_promise_unique Page store distances table run word out t u d' t' r' w' o' d'' t'' r'' w''
      o''

  pub roll_promise_unique : RollPromise store distances table run word out t d' t' r' w' o'
      → RollPromise store distances table run word out u d'' t'' r'' w'' o''
      → (t ≡ u) × (d' ≡ d'') × (t' ≡ t'') × (r' ≡ r'') × (w' ≡ w'') × (o' ≡ o'')
  roll_promise_unique = form_promise_unique Roll store distances table run word out t u d' t' r' w' o' d'' t'' r'' w''
      o''

-- ---- equal outcomes are equal answers

page_back : Outcome → Result ℕ Refusal
page_back (answers values) = Ok (get_or values 0 0)
page_back (refuses number place) = Err (cond (eqb number 21) (ShortList place) NotGood)

page_back_is : (a : Result ℕ Refusal) → page_back (page_outcome a) ≡ a
unfolding page_outcome page_back
page_back_is (Ok length) = refl
page_back_is (Err (ShortList place)) = refl
page_back_is (Err NotGood) = refl

pub page_outcome_injective : (a b : Result ℕ Refusal) → page_outcome a ≡ page_outcome b → a ≡ b
page_outcome_injective = injective_of_inverse page_outcome page_back page_back_is
