-- Demand 3 on the bytes of the page and of the roll, over the whole path from the text.
-- Document 01, "the landing that first brings Page to life carries demand 3 on to them, over the whole path from text
-- to page"; document 02, (ii); DEMANDS, 3. Assumes nothing.
use Rattle.std.specs.Prelude.{List, [], ◌∷◌, ◌↔◌, ◌≡◌, ℕ, take}
use Rattle.text.specs.Bytes.{byte_v}
use Rattle.text.specs.Faults.{Outcome, answers}
use Rattle.text.specs.Model.{Model}
use Rattle.model.specs.System.{DeterministicModel, NoSilentStep}
use Rattle.tell.specs.Claim.{States}
use Rattle.lines.specs.declared.lines.Form.{Form}
use Rattle.lines.specs.declared.lines.Form.TheVariants.{Page, Roll}
use Rattle.page.specs.PageClaim.{PageTells}
use Rattle.page.specs.RollClaim.{RollTells}

-- What is told in a form.
abbrev pub FormTells : Form → Model → List ℕ → List ℕ → Type 0
FormTells Page m bytes word = PageTells m bytes word
FormTells Roll m bytes word = RollTells m bytes word

-- A call that gives 21 tells nothing; any other leaves its bytes at the front of `out`.
pub record PrintClaim (form : Form) (text : List ℕ) (outcome : Outcome) (word out : List ℕ) : Type 0 where
  -- "Take every text that is read (each without a fault listed for Read is)": what is printed then begins with `V`
  pub read_iff : (n : ℕ) → outcome ≡ answers (n ∷ []) → (take 1 (take n out) ≡ byte_v ∷ [])
      ↔ ((m : Model) × States text m)
  -- "and in which no reachable state has two steps of one action"; it "is kept for models without a reachable silent
  -- step" (document 02, (vii))
  pub tells : (n : ℕ) → outcome ≡ answers (n ∷ []) → (m : Model) → States text m → DeterministicModel m → NoSilentStep m
      → FormTells form m (take n out) word
