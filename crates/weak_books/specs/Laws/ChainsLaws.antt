-- The entries of a book are chained by their depth, one by one.
-- Document 02, (v). Assumes nothing.
use Rattle.std.specs.Prelude.{List, ◌⊎◌, ◌≡◌, ℕ, ◌+◌, ◌≤◌, ◌<◌, length, get_or, set}
use Rattle.std.proofs.Common.{inl, inr, sym, ap, ◌∙◌, subst, arith, get_or-set_same, get_or-set_other}
use Rattle.lts.proofs.TestsLaws.{eq_or_not}
use Rattle.lts.specs.Book.{Present}
use Rattle.books.specs.Books.{entry_number}
use Rattle.weak_books.specs.Inner.Bounds.{byte_values}
use Rattle.weak_books.specs.Inner.Depths.{OnChain, first, later, AtDepth, Chained}

-- ---- on a chain

pub on_chain-nil : {link : List ℕ} {k from : ℕ} → from ≡ 0 → ¬ (OnChain link k from)
on_chain-nil z (first e) = omega (arith, z, e)
on_chain-nil z (later j e _) = omega (arith, z, e)

-- A chain is its first entry and the chain behind it.
pub on_chain-cons : {link : List ℕ} {k from : ℕ} (j : ℕ) → from ≡ j + 1
    → (k ≡ j) ⊎ OnChain link k (get_or link j 0) → OnChain link k from
on_chain-cons {k = k} {from} j e (inl f) = let d : from ≡ k + 1 = omega (arith, e, f) in first d
on_chain-cons j e (inr c) = later j e c

pub on_chain_cases : {link : List ℕ} {k from : ℕ} (j : ℕ) → from ≡ j + 1 → OnChain link k from
    → (k ≡ j) ⊎ OnChain link k (get_or link j 0)
on_chain_cases j e (first f) = inl (omega (arith, e, f))
on_chain_cases {link} {k} j e (later i f c) =
    let d : i ≡ j = omega (arith, e, f) in
    inr (subst (λ (x : ℕ). OnChain link k (get_or link x 0)) d c)

-- A chain from entry `to` on down is the same in two lists that agree there.
pub on_chain_agree : {link link' : List ℕ} {to k from : ℕ} → ((j : ℕ) → j < to → get_or link j 0 ≤ j)
    → ((j : ℕ) → j < to → get_or link' j 0 ≡ get_or link j 0) → from ≤ to → OnChain link k from → OnChain link' k from
on_chain_agree falls same l (first e) = first e
on_chain_agree {link} {link'} {to} {k} falls same l (later j e c) =
    let m : j < to = omega (arith, e, l) in
    let n : get_or link j 0 ≤ to = omega (arith, falls j m, m) in
    later j e (subst (OnChain link' k) (sym (same j m)) (on_chain_agree falls same n c))

-- ---- entries chained one by one

pub chained-zero : {book head link : List ℕ} → ((d : ℕ) → get_or head d 0 ≡ 0) → ((k : ℕ) → get_or link k 0 ≡ 0)
    → Chained book head link 0
chained-zero f g = record {
  on = λ d k _ l. absurd (omega (arith, l));
  only = λ d k _ c. absurd (on_chain-nil (f d) c);
  head_le = λ d _. omega (arith, f d);
  falls = λ k. omega (arith, g k);
}

-- An absent entry is on no chain.
pub chained_absent : {book head link : List ℕ} {k : ℕ} → (entry_number book k).side ≡ 0 → Chained book head link k
    → Chained book head link (k + 1)
chained_absent {book} {head} {link} {k} z C = record {
  on = λ d j ld l a. on d j ld l a (eq_or_not j k);
  only = λ d j ld c. let h = C.only d j ld c in (omega (arith, h.0), h.1);
  head_le = λ d ld. omega (arith, C.head_le d ld);
  falls = C.falls;
}
  where
    on : (d j : ℕ) → d < byte_values → j < k + 1 → AtDepth book d j → (j ≡ k) ⊎ ¬ (j ≡ k)
        → OnChain link j (get_or head d 0)
    on d j ld l a (inl e) = absurd (subst (λ (x : ℕ). Present (entry_number book x)) e a.present z)
    on d j ld l a (inr n) = C.on d j ld (omega (arith, l, n)) a

-- The next entry, d its depth, becomes the first one of its chain.
module _ {book head link head' link' : List ℕ} {k d : ℕ} (here : AtDepth book d k) (ld : d < byte_values)
    (head-lt : d < length head) (link-lt : k < length link) (head_is : head' ≡ set head d (k + 1))
    (link-is : link' ≡ set link k (get_or head d 0)) (C : Chained book head link k) where
  head_at : (x : ℕ) → x ≡ d → get_or head' x 0 ≡ k + 1
  head_at x e =
      ap (λ (y : ℕ). get_or head' y 0) e ∙ ap (λ (l : List ℕ). get_or l d 0) head_is
      ∙ get_or-set_same head d (k + 1) 0 head-lt

  head_other : (x : ℕ) → ¬ (x ≡ d) → get_or head' x 0 ≡ get_or head x 0
  head_other x n = ap (λ (l : List ℕ). get_or l x 0) head_is ∙ get_or-set_other head d x (k + 1) 0 n

  link_at : get_or link' k 0 ≡ get_or head d 0
  link_at = ap (λ (l : List ℕ). get_or l k 0) link-is ∙ get_or-set_same link k (get_or head d 0) 0 link-lt

  link_other : (j : ℕ) → ¬ (j ≡ k) → get_or link' j 0 ≡ get_or link j 0
  link_other j n = ap (λ (l : List ℕ). get_or l j 0) link-is ∙ get_or-set_other link k j (get_or head d 0) 0 n

  link_below : (j : ℕ) → j < k → get_or link' j 0 ≡ get_or link j 0
  link_below j l = link_other j (λ e. omega (arith, l, e))

  kept : {j from : ℕ} → from ≤ k → OnChain link j from → OnChain link' j from
  kept = on_chain_agree (λ j _. C.falls j) link_below

  kept_back : {j from : ℕ} → from ≤ k → OnChain link' j from → OnChain link j from
  kept_back = on_chain_agree (λ j l. omega (arith, link_below j l, C.falls j)) (λ j l. sym (link_below j l))

  on_next : (x j : ℕ) → x < byte_values → j < k + 1 → AtDepth book x j → (x ≡ d) ⊎ ¬ (x ≡ d) → (j ≡ k) ⊎ ¬ (j ≡ k)
      → OnChain link' j (get_or head' x 0)
  on_next x j lx l a (inl e) (inl i) = on_chain-cons k (head_at x e) (inl i)
  on_next x j lx l a (inl e) (inr n) =
      let old = C.on d j ld (omega (arith, l, n)) (subst (λ (y : ℕ). AtDepth book y j) e a) in
      on_chain-cons k (head_at x e) (inr (subst (OnChain link' j) (sym link_at) (kept (C.head_le d ld) old)))
  on_next x j lx l a (inr m) (inl i) =
      absurd (m (sym a.depth_is ∙ ap (λ (y : ℕ). (entry_number book y).depth) i ∙ here.depth_is))
  on_next x j lx l a (inr m) (inr n) =
      subst (OnChain link' j) (sym (head_other x m)) (kept (C.head_le x lx) (C.on x j lx (omega (arith, l, n)) a))

  only_first : (x j : ℕ) → x ≡ d → (j ≡ k) ⊎ OnChain link' j (get_or link' k 0) → (j < k + 1) × AtDepth book x j
  only_first x j e (inl i) =
      (omega (arith, i), subst (λ (y : ℕ). AtDepth book x y) (sym i) (subst (λ (y : ℕ). AtDepth book y k) (sym e) here))
  only_first x j e (inr c) =
      let old = C.only d j ld (kept_back (C.head_le d ld) (subst (OnChain link' j) link_at c)) in
      (omega (arith, old.0), subst (λ (y : ℕ). AtDepth book y j) (sym e) old.1)

  only_next : (x j : ℕ) → x < byte_values → OnChain link' j (get_or head' x 0) → (x ≡ d) ⊎ ¬ (x ≡ d)
      → (j < k + 1) × AtDepth book x j
  only_next x j lx c (inl e) = only_first x j e (on_chain_cases k (head_at x e) c)
  only_next x j lx c (inr m) =
      let old = C.only x j lx (kept_back (C.head_le x lx) (subst (OnChain link' j) (head_other x m) c)) in
      (omega (arith, old.0), old.1)

  head_le_next : (x : ℕ) → x < byte_values → (x ≡ d) ⊎ ¬ (x ≡ d) → get_or head' x 0 ≤ k + 1
  head_le_next x lx (inl e) = omega (arith, head_at x e)
  head_le_next x lx (inr m) = omega (arith, head_other x m, C.head_le x lx)

  falls_next : (j : ℕ) → (j ≡ k) ⊎ ¬ (j ≡ k) → get_or link' j 0 ≤ j
  falls_next j (inl e) = omega (arith, ap (λ (y : ℕ). get_or link' y 0) e, link_at, C.head_le d ld, e)
  falls_next j (inr n) = omega (arith, link_other j n, C.falls j)

  pub chained_next : Chained book head' link' (k + 1)
  chained_next = record {
    on = λ x j lx l a. on_next x j lx l a (eq_or_not x d) (eq_or_not j k);
    only = λ x j lx c. only_next x j lx c (eq_or_not x d);
    head_le = λ x lx. head_le_next x lx (eq_or_not x d);
    falls = λ j. falls_next j (eq_or_not j k);
  }

pub chained_at : {book head link : List ℕ} {k to : ℕ} → k ≡ to → Chained book head link k → Chained book head link to
chained_at {book} {head} {link} e = subst (Chained book head link) e
