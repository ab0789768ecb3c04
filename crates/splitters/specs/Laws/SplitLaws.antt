-- Splits one after another are a split: what the first separates stays separated. Assumes nothing.
use Rattle.std.specs.Prelude.{List, refl, ℕ, ◌<◌}
use Rattle.std.proofs.Common.{sym, ◌∙◌}
use Rattle.by_state.specs.Inner.Numbered.{Same}
use Rattle.splitters.specs.Inner.Partition.{SplitBy, HomesKept, Split}

-- ---- nothing is split

pub homes_kept_refl : {n old : ℕ} {origin class : List ℕ} → HomesKept n old origin class origin class
homes_kept_refl = record { same = λ p _. refl; origin_kept = λ j _. refl }

-- States of one class are on one side.
pub split_by_refl : {n : ℕ} {P : ℕ → Type 0} {class : List ℕ}
    → ((p q : ℕ) → p < n → q < n → Same class p q → P p → P q) → SplitBy n P class class
split_by_refl f = record {
  same_before = λ p q _ _ e. e;
  same_side = f;
  stay = λ p q _ _ e _ _. e;
}

pub split_refl : {n old : ℕ} {P : ℕ → Type 0} {class origin : List ℕ}
    → ((p q : ℕ) → p < n → q < n → Same class p q → P p → P q) → Split n old P class origin class origin
split_refl f = record { by = split_by_refl f; homes = homes_kept_refl }

-- No state is on the one side.
pub split_empty : {n old : ℕ} {P : ℕ → Type 0} {class origin : List ℕ} → ((p : ℕ) → p < n → ¬ (P p))
    → Split n old P class origin class origin
split_empty f = split_refl (λ p q l _ _ h. absurd (f p l h))

-- ---- one split after another

pub homes_kept_trans : {n old : ℕ} {o c o' c' o'' c'' : List ℕ} → HomesKept n old o c o' c' → HomesKept n old o' c'
    o'' c''
    → HomesKept n old o c o'' c''
homes_kept_trans f g = record {
  same = λ p l. g.same p l ∙ f.same p l;
  origin_kept = λ j l. g.origin_kept j l ∙ f.origin_kept j l;
}

-- `next` divides the classes further.
abbrev pub Finer : ℕ → List ℕ → List ℕ → Type 0
Finer n class next = (p q : ℕ) → p < n → q < n → Same next p q → Same class p q

-- A split by P, then one by Q, is one by what the two together divide by.
pub split_trans : {n old : ℕ} {P Q R : ℕ → Type 0} {c o c' o' c'' o'' : List ℕ}
    → Split n old P c o c' o' → Split n old Q c' o' c'' o'' → SplitBy n R c c'' → Split n old R c o c'' o''
split_trans f g b = record {
  by = b;
  homes = homes_kept_trans f.homes g.homes;
}

-- ---- by another side

-- States of one class that P does not tell apart are on one side of Q.
abbrev pub SidesKept : ℕ → List ℕ → (ℕ → Type 0) → (ℕ → Type 0) → Type 0
SidesKept n class P Q = (p q : ℕ) → p < n → q < n → Same class p q → (P p → P q) → (P q → P p) → Q p → Q q

-- A split by P is one by what divides each class as P does.
pub split-map : {n old : ℕ} {P Q : ℕ → Type 0} {c o c' o' : List ℕ} → SidesKept n c P Q → SidesKept n c Q P
    → Split n old P c o c' o' → Split n old Q c o c' o'
split-map f g s = record {
  by = record {
    same_before = s.by.same_before;
    same_side = λ p q lp lq e. f p q lp lq (s.by.same_before p q lp lq e) (s.by.same_side p q lp lq e)
        (s.by.same_side q p lq lp (sym e));
    stay = λ p q lp lq e h k. s.by.stay p q lp lq e (g p q lp lq e h k) (g q p lq lp (sym e) k h);
  };
  homes = s.homes;
}

pub split_iff : {n old : ℕ} {P Q : ℕ → Type 0} {c o c' o' : List ℕ} → ((p : ℕ) → p < n → P p → Q p)
    → ((p : ℕ) → p < n → Q p → P p) → Split n old P c o c' o' → Split n old Q c o c' o'
split_iff f g = split-map (λ p q lp lq _ h _ i. f q lq (h (g p lp i))) (λ p q lp lq _ h _ i. g q lq (h (f p lp i)))
