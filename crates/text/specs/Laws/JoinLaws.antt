-- Splitting undoes joining, and joining undoes splitting.
-- Document 01, "The text". Assumes nothing.
use Rattle.std.specs.Prelude.{Bool, true, not, ◌&&◌, List, [], ◌∷◌, ◌++◌, ◌≡◌, refl, ℕ, ◌<◌, T, eqb, length}
use Rattle.std.proofs.Common.{ap, ◌∙◌, arith, T_not}
use Rattle.lts.proofs.TestsLaws.{and_left, and_right, T-eqb}
use Rattle.text.specs.Bytes.{kind_of}
use Rattle.text.specs.Split.{cons_first, split}
use Rattle.text.specs.Laws.SplitLaws.{Is, same, other, is, split-nil, split-end, split-cons, split_first}
use Rattle.text.specs.All.{All}
use Rattle.text.specs.Laws.AllLaws.{all_append}
use Rattle.text.specs.Join.{join, Without}

-- ---- join

pub join_one : (b : ℕ) (part : List ℕ) → join b (part ∷ []) ≡ part
unfolding join
join_one b part = refl

pub join-cons : (b : ℕ) (part : List ℕ) (parts : List (List ℕ)) → 0 < length parts
    → join b (part ∷ parts) ≡ part ++ (b ∷ join b parts)
unfolding join
join-cons b part [] h = absurd (omega arith)
join-cons b part (next ∷ parts) h = refl

-- what holds of the byte and of each byte of the parts holds of each byte of the whole
pub all_join : (P : ℕ → Type 0) (b : ℕ) → P b → (parts : List (List ℕ)) → All (All P) parts → All P (join b parts)
unfolding join
all_join P b p [] h = tt
all_join P b p (part ∷ []) h = h.0
all_join P b p (part ∷ next ∷ parts) h = all_append P part _ h.0 (p, all_join P b p (next ∷ parts) h.1)

-- ---- a list without a byte of the kind

unfoldable pub without? : ℕ → List ℕ → Bool
without? kind [] = true
without? kind (b ∷ l) = not (eqb (kind_of b) kind) && without? kind l

-- a constant text, by evaluation
pub without_test : (kind : ℕ) (l : List ℕ) → T (without? kind l) → Without kind l
unfolding without?
without_test kind [] t = tt
without_test kind (b ∷ l) t = (
  λ e. T_not (eqb (kind_of b) kind) (and_left (not (eqb (kind_of b) kind)) (without? kind l) t) (T-eqb e),
  without_test kind l (and_right (not (eqb (kind_of b) kind)) (without? kind l) t),
)

-- ---- split after join

pub split_without : (kind : ℕ) (l : List ℕ) → Without kind l → split kind l ≡ l ∷ []
unfolding cons_first
split_without kind [] h = split-nil kind
split_without kind (b ∷ bs) h = split-cons kind b bs h.0 ∙ ap (cons_first b) (split_without kind bs h.1)

-- a part, a byte of the kind, and the rest
pub split-append : (kind b : ℕ) (part rest : List ℕ) → kind_of b ≡ kind → Without kind part
    → split kind (part ++ (b ∷ rest)) ≡ part ∷ split kind rest
unfolding cons_first
split-append kind b [] rest e h = split-end kind b rest e
split-append kind b (x ∷ xs) rest e h =
    split-cons kind x (xs ++ (b ∷ rest)) h.0 ∙ ap (cons_first x) (split-append kind b xs rest e h.1)

pub split-join : (kind b : ℕ) → kind_of b ≡ kind → (parts : List (List ℕ)) → 0 < length parts
    → All (Without kind) parts → split kind (join b parts) ≡ parts
unfolding join
split-join kind b e [] l h = absurd (omega arith)
split-join kind b e (part ∷ []) l h = split_without kind part h.0
split-join kind b e (part ∷ next ∷ parts) l h =
    split-append kind b part (join b (next ∷ parts)) e h.0
    ∙ ap (λ (x : List (List ℕ)). part ∷ x) (split-join kind b e (next ∷ parts) (omega arith) h.1)

-- ---- join after split

join-cons_first : (b x : ℕ) (parts : List (List ℕ)) → join b (cons_first x parts) ≡ x ∷ join b parts
unfolding join cons_first
join-cons_first b x [] = refl
join-cons_first b x (part ∷ []) = refl
join-cons_first b x (part ∷ next ∷ parts) = refl

-- where the byte is the only one of the kind
pub join-split : (kind b : ℕ) → ((x : ℕ) → kind_of x ≡ kind → x ≡ b) → (l : List ℕ) → join b (split kind l) ≡ l
join-split kind b only [] = ap (join b) (split-nil kind) ∙ join_one b []
join-split kind b only (x ∷ xs) = go (is (kind_of x) kind) (join-split kind b only xs)
  where
    go : Is (kind_of x) kind → join b (split kind xs) ≡ xs → join b (split kind (x ∷ xs)) ≡ x ∷ xs
    go (same e) ih =
        let w = split_first kind xs in
        let l : 0 < length (split kind xs) = rw w.2 (omega arith) in
        let o = only x e in
        ap (join b) (split-end kind x xs e) ∙ join-cons b [] (split kind xs) l ∙ rw (ih, o)
    go (other e) ih = ap (join b) (split-cons kind x xs e) ∙ join-cons_first b x (split kind xs) ∙ rw ih
