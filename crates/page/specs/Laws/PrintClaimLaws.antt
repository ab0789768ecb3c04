-- The promise of the path from a text to its page, or to its roll, gives demand 3 on the bytes.
-- Document 01, "Demand 3 is one claim [..]"; document 02, (ii); DEMANDS, 3. Assumes nothing.
use mathlib.Core.List.{List, [], ◌∷◌}
use Rattle.std.proofs.Math.Option.{none}
use Rattle.std.specs.Prelude.{◌≡◌, ℕ, get_or}
use Rattle.std.proofs.Math.Path.{refl}
use Rattle.std.proofs.Common.{sym, ap, subst, ◌∙◌, arith}
use Rattle.std.proofs.Math.ListN.{take}
use Rattle.text.specs.Bytes.{byte_v}
use Rattle.text.specs.Faults.{Outcome, answers, fault_number}
use Rattle.text.specs.Laws.OutcomeLaws.{answers_not_refuses}
use Rattle.text.specs.Model.{Model}
use Rattle.read_write.specs.ReadPromise.{reading_outcome}
use Rattle.model.specs.Reading.{Reading, done, too_long, faulty, read_text}
use Rattle.model.specs.System.{DeterministicModel, NoSilentStep}
use Rattle.model.specs.WellFormed.{WellFormed}
use Rattle.text.specs.Laws.ListsLaws.{take-filled}
use Rattle.verdicts.specs.declared.judging.Verdict.{Verdict}
use Rattle.verdicts.specs.declared.judging.Verdict.TheVariants.{Passed, Refused}
use Rattle.tell.specs.Claim.{States}
use Rattle.tell.specs.Laws.ReadTextLaws.{lists_of_not_short, states→read_text, read_text→states}
use Rattle.columns.specs.Rows.{flush_left, rows_bytes}
use Rattle.lines.specs.declared.lines.Form.{Form}
use Rattle.lines.specs.declared.lines.Form.TheVariants.{Page, Roll}
use Rattle.lines.specs.Page.{PageOf}
use Rattle.lines.specs.PageLines.{PageLine, verdict_line, line_text, page_bytes, fault_text, fault_bytes}
use Rattle.lines.specs.Roll.{roll_rows, roll_bytes, form_bytes}
use Rattle.page.specs.Claim.{FormTells, PrintClaim}
use Rattle.page.specs.PagePromise.{PagePrinted}
use Rattle.page.specs.PrintPromise.{print_lists, FaultPrinted, PrintPromise}
use Rattle.page.specs.Laws.PageClaimLaws.{page_tells}
use Rattle.page.specs.Laws.RollClaimLaws.{roll_tells}

-- ---- the bytes of a page in its form

pub same_number : {a b : ℕ} → answers (a ∷ []) ≡ answers (b ∷ []) → a ≡ b
same_number h = cc

-- the bytes told are those of the page
pub printed_bytes : {form : Form} {m : Model} {outcome : Outcome} {run word out run' word' out' : List ℕ} (n : ℕ)
    → outcome ≡ answers (n ∷ []) → (x : PagePrinted form m outcome run word out run' word' out')
    → take n out' ≡ form_bytes form m x.lines
printed_bytes {form} {m} n e x =
    take-filled (form_bytes form m x.lines) _ x.list n (same_number (sym e ∙ x.outcome_is))

lines_tell : (form : Form) {m : Model} → WellFormed m → DeterministicModel m → NoSilentStep m
    → {run word run' word' : List ℕ} {lines : List PageLine} → PageOf m run word run' word' lines
    → FormTells form m (form_bytes form m lines) word'
unfolding form_bytes
lines_tell Page w det still x = page_tells w det still x
lines_tell Roll w det still x = roll_tells w det still x

pub form-tells : (form : Form) {m : Model} → WellFormed m → DeterministicModel m → NoSilentStep m → {outcome : Outcome}
    {run word out run' word' out' : List ℕ} (n : ℕ) → outcome ≡ answers (n ∷ [])
    → PagePrinted form m outcome run word out run' word' out' → FormTells form m (take n out') word'
form-tells form {m} w det still {word' = word'} n e x =
    subst (λ (z : List ℕ). FormTells form m z word') (sym (printed_bytes n e x)) (lines_tell form w det still x.page)

-- ---- the claim

-- any page begins with `V`
begins_verdict : (form : Form) (m : Model) (v : Verdict) (rest : List PageLine)
    → take 1 (form_bytes form m (verdict_line v ∷ rest)) ≡ byte_v ∷ []
unfolding form_bytes page_bytes roll_bytes roll_rows rows_bytes flush_left line_text
begins_verdict Page m (Passed rank) rest = refl
begins_verdict Page m (Refused j depth) rest = refl
begins_verdict Roll m (Passed rank) rest = refl
begins_verdict Roll m (Refused j depth) rest = refl

printed_begins : {form : Form} {m : Model} {outcome : Outcome} {run word out run' word' out' : List ℕ} (n : ℕ)
    → outcome ≡ answers (n ∷ []) → PagePrinted form m outcome run word out run' word' out'
    → take 1 (take n out') ≡ byte_v ∷ []
printed_begins {form} {m} n e x =
    ap (take 1) (printed_bytes n e x)
    ∙ ap (λ (z : List PageLine). take 1 (form_bytes form m z)) x.page.lines_are
    ∙ begins_verdict form m x.page.verdict _

-- a refusal with `F`
fault_begins : {number place : ℕ} {outcome : Outcome} {out out' : List ℕ} (n : ℕ) → outcome ≡ answers (n ∷ [])
    → FaultPrinted number place outcome out out' → ¬ (take 1 (take n out') ≡ byte_v ∷ [])
unfolding fault_text
fault_begins {number} {place} n e x v =
    let taken = take-filled (fault_bytes number place) _ x.list n (same_number (sym e ∙ x.outcome_is)) in
    let f = ap (λ (l : List ℕ). get_or l 0 0) (sym (ap (take 1) taken) ∙ v) in
    omega (arith, f)

module _ {form : Form} {text store distances table run word out : List ℕ} {outcome : Outcome}
    {store' distances' table' run' word' out' : List ℕ}
    (p : PrintPromise form text store distances table run word out outcome store' distances' table' run' word'
    out') where
  pub lists_none : (n : ℕ) → outcome ≡ answers (n ∷ []) → print_lists form text store distances table run word out ≡
      none
  lists_none n e =
      lists_of_not_short (print_lists form text store distances table run word out) (λ k h. (p.short k h).0)
      (λ k h. answers_not_refuses (sym e ∙ h))

  pub print_claim : PrintClaim form text outcome word' out'
  unfolding reading_outcome
  print_claim = record {
    read_iff = λ n e. (
      stated n e (lists_none n e) (read_text text) refl,
      λ (m, s).
          printed_begins n e (p.read (lists_none n e) m (states→read_text s)).printed,
    );
    tells = λ n e m s det still. form-tells form s.well_formed det still n e
        (p.read (lists_none n e) m (states→read_text s)).printed;
  }
    where
      stated : (n : ℕ) → outcome ≡ answers (n ∷ []) → print_lists form text store distances table run word out ≡ none
          → (r : Reading) → read_text text ≡ r → take 1 (take n out') ≡ byte_v ∷ [] → (m : Model) × States text m
      stated n told long (done m) e v = (m, read_text→states e)
      stated n told long too_long e v =
          absurd (fault_begins n told (p.unread long 1 0 (ap reading_outcome e)).1 v)
      stated n told long (faulty fault line) e v =
          absurd (fault_begins n told (p.unread long (fault_number fault) line (ap reading_outcome e)).1 v)
