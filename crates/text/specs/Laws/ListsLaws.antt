-- What stands past a least length, write by write; and what stands before it.
-- Document 01, "The operations, in the order of the work". Assumes nothing.
use Rattle.std.specs.Prelude.{List, ◌++◌, ◌≡◌, refl, ℕ, ◌+◌, ◌-◌, ◌≤◌, ◌<◌, length, get_or, set, take, drop}
use Rattle.std.proofs.Common.{sym, ap, ◌∙◌, arith, length-set, drop-drop, drop-set-lt, get_or-drop, take_at}
use Rattle.text.specs.Lists.{Past}

pub past_refl : {least : ℕ} (t : List ℕ) → Past least t t
past_refl t = record { same_length = refl; kept = refl }

pub past_trans : {least : ℕ} {t u v : List ℕ} → Past least t u → Past least u v → Past least t v
past_trans f g = record { same_length = g.same_length ∙ f.same_length; kept = g.kept ∙ f.kept }

pub past_le : {m n : ℕ} {t u : List ℕ} → m ≤ n → Past m t u → Past n t u
past_le {m} {n} {t} {u} l x =
    let e : m + (n - m) ≡ n = omega arith in
    let f : drop (m + (n - m)) u ≡ drop (m + (n - m)) t =
    sym (drop-drop (n - m) m u) ∙ ap (drop (n - m)) x.kept ∙ drop-drop (n - m) m t in
    record { same_length = x.same_length; kept = rw e at f }

pub past-set : {least : ℕ} (t : List ℕ) (i v : ℕ) → i < least → Past least t (set t i v)
past-set {least} t i v l = record { same_length = length-set t i v; kept = drop-set-lt least t i v l }

pub past_get_or : {least : ℕ} {t u : List ℕ} → Past least t u → (i : ℕ) → least ≤ i → get_or u i 0 ≡ get_or t i 0
past_get_or {least} {t} {u} x i l =
    let e : i ≡ least + (i - least) = omega arith in
    let f : get_or (drop least u) (i - least) 0 ≡ get_or (drop least t) (i - least) 0 =
    ap (λ (y : List ℕ). get_or y (i - least) 0) x.kept in
    let g : get_or u (least + (i - least)) 0 ≡ get_or t (least + (i - least)) 0 =
    sym (get_or-drop least u (i - least) 0) ∙ f ∙ get_or-drop least t (i - least) 0 in
    rw e g

-- what was filled in at the front
pub take-filled : (filled rest : List ℕ) {list : List ℕ} → list ≡ filled ++ rest → (n : ℕ) → n ≡ length filled
    → take n list ≡ filled
take-filled filled rest e n l = ap (take n) e ∙ take_at filled rest n (sym l)
