-- The roles of actions, one more at a time.
-- Document 01, "The model store": "level (0 L, 1 D, 2 H)"; document 02, (vii). Assumes nothing.
use Rattle.std.proofs.Common.{List, ◌≡◌, ℕ, ◌+◌, ◌<◌, T, eqb, length, get_or, set, ⊎_elim, sym, ap, ◌∙◌, subst, arith}
use Rattle.std.proofs.Common.{eqb→eq, get_or-set_same, get_or-set_other, eq-eqb}
use Rattle.lts.proofs.TestsLaws.{lt-suc_cases}
use Rattle.text.specs.Model.{low, release, high, silent, Model}
use Rattle.model.specs.System.{level, view}
use Rattle.model.specs.Inner.Roles.{Roles}
use Rattle.lts.specs.View.{Levels}

-- a list of levels is a list of roles
pub roles_of_levels : (m : Model) (n : ℕ) (roles : List ℕ) → ((a : ℕ) → a < n → get_or roles a 0 ≡ level m a)
    → Roles (view m).levels n roles
roles_of_levels m n roles h = record {
  low_is = λ a l. ap (λ (x : ℕ). eqb x low) (sym (h a l));
  release_is = λ a l. ap (λ (x : ℕ). eqb x release) (sym (h a l));
  high_is = λ a l. ap (λ (x : ℕ). eqb x high) (sym (h a l));
  silent_is = λ a l. ap (λ (x : ℕ). eqb x silent) (sym (h a l));
}

-- the level of one action more
pub levels-suc : (m : Model) (roles : List ℕ) (n v : ℕ) → n < length roles → v ≡ level m n
    → ((a : ℕ) → a < n → get_or roles a 0 ≡ level m a) → (a : ℕ) → a < n + 1 → get_or (set roles n v) a 0 ≡ level m a
levels-suc m roles n v l e h a k =
    ⊎_elim
    (λ z. ap (λ (x : ℕ). get_or (set roles n v) x 0) z ∙ get_or-set_same roles n v 0 l ∙ e ∙ ap (level m) (sym z))
    (λ z. get_or-set_other roles n a v 0 (λ w. omega arith) ∙ h a z)
    (lt-suc_cases {i = a} {n = n} (omega arith))

-- ---- a low action by its role

module _ {L : Levels} {n : ℕ} {roles : List ℕ} (R : Roles L n roles) {a b : ℕ} (e : a ≡ b) (l : b < n) where
  pub low_of_role : get_or roles a 0 ≡ low → T (L.low? b)
  low_of_role z = subst T (sym (R.low_is b l ∙ eq-eqb _ _ (ap (λ (x : ℕ). get_or roles x 0) (sym e) ∙ z))) tt

  pub role_of_low : T (L.low? b) → get_or roles a 0 ≡ low
  role_of_low t = ap (λ (x : ℕ). get_or roles x 0) e ∙ eqb→eq _ _ (subst T (R.low_is b l) t)
