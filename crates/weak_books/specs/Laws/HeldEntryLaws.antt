-- An entry is tested by the moves as sets: its action is a listed label, and each answer to its opening leads to an
-- entry of lower depth.
-- Document 02, (v) and (vii). Assumes nothing.
use Rattle.std.specs.Prelude.{Bool, List, ◌⊎◌, ◌≡◌, ℕ, ◌+◌, ◌/◌, ◌%◌, ◌<◌, length, get_or, set}
use Rattle.std.proofs.Common.{inl, inr, sym, ap, ◌∙◌, subst, arith, get_or-set_same, get_or-set_other}
use Rattle.lts.proofs.TestsLaws.{eq_or_not}
use Rattle.lts.specs.Alike.{Moves, Relation}
use Rattle.lts.specs.Book.{Entry, Book, Present, Opens, Plays, first_opens, second_opens, LowerEntry, SoundAt}
use Rattle.lts.specs.Weak.{silent_label}
use Rattle.text.specs.Decides.{Decides}
use Rattle.text.specs.Limits.{state_limit, action_limit, table_length}
use Rattle.text.specs.Laws.DecidesLaws.{decides_iff}
use Rattle.books.specs.Books.{entry_number, book_of}
use Rattle.books.specs.declared.entry.Side.{Side}
use Rattle.books.specs.declared.entry.Side.TheVariants.{First, Second}
use Rattle.books.specs.Inner.Sides.{BySide, NoSide, Turn, first_turn, second_turn}
use Rattle.books.specs.Laws.EntryLaws.{turn_lt, book_of_at, sound_absent, bad_without_side, sound_opener}
use Rattle.sets.specs.declared.set.Set.{Set}
use Rattle.sets.specs.Inner.Sets.{Member}
use Rattle.sets.specs.Inner.SetValues.{In, SetOf}
use Rattle.sets.specs.Laws.SetValuesLaws.{in_or_not}
use Rattle.held.specs.Held.{LabelIn, target_row, HeldAt, HeldList, HeldMove}
use Rattle.weak_books.specs.Inner.Depths.{Pairs, LowerBy, Flagged}
use Rattle.weak_books.specs.Inner.OpensTo.{OpensTo}

-- ---- an opening by sets

-- Each member of a is one of b if none of a is left without those of b, and only then.
module _ {P Q : ℕ → Type 0} {a b w : Set} (x : SetOf P a) (y : SetOf Q b) (d : SetOf (λ u. In a u × ¬ (In b u)) w) where
  pub within_of_none : ((u : ℕ) → ¬ (In w u)) → (u : ℕ) → P u → Q u
  within_of_none none u h = go (in_or_not b u)
    where
      go : In b u ⊎ ¬ (In b u) → Q u
      go (inl m) = y.only u m
      go (inr n) = absurd (none u (d.all u (x.all u h, n)))

  pub none_of_within : ((u : ℕ) → P u → Q u) → (u : ℕ) → ¬ (In w u)
  none_of_within f u m = let h = d.only u m in h.1 (y.all u (f u (x.only u h.0)))

-- The sets of the row are the moves with the label, which is listed.
module _ {labels slots pool : List ℕ} {count row a : ℕ} (listed : LabelIn labels count a)
    (row_is : row ≡ target_row a) where
  move_of_held : {p q : ℕ} → p < state_limit → HeldAt slots pool row p q → HeldMove labels count slots pool p a q
  move_of_held {p} {q} l h = record {
    source_lt = l;
    number = listed.0;
    number_lt = listed.1;
    label_is = listed.2;
    held = subst (λ (y : ℕ). HeldAt slots pool y p q) row_is h;
  }

  held_of_move : {p q : ℕ} → HeldMove labels count slots pool p a q → HeldAt slots pool row p q
  held_of_move {p} {q} m = subst (λ (y : ℕ). HeldAt slots pool y p q) (sym row_is) m.held

  opens_of_held : {Leads : Relation} {p q t : ℕ} → p < state_limit → OpensTo (HeldAt slots pool row) Leads p q t
      → Opens (HeldMove labels count slots pool) Leads p q a t
  opens_of_held lp o = record {
    opening = move_of_held lp o.opening;
    answers = λ u m. o.answers u (held_of_move m);
  }

  held_of_opens : {Leads : Relation} {p q t : ℕ} → q < state_limit
      → Opens (HeldMove labels count slots pool) Leads p q a t → OpensTo (HeldAt slots pool row) Leads p q t
  held_of_opens lq o = record {
    opening = held_of_move o.opening;
    answers = λ u m. o.answers u (move_of_held lq m);
  }

-- Set t of the lower ones has what t leads to.
module _ (slots pool : List ℕ) (row : ℕ) {lower : List ℕ} {Leads : Relation} (L : Pairs Leads lower) {p q t : ℕ} where
  leads_of_lower : OpensTo (HeldAt slots pool row) (Member lower) p q t → OpensTo (HeldAt slots pool row) Leads p q t
  leads_of_lower o = record {
    opening = o.opening;
    answers = λ u m. L.only t u o.opening.member_lt (o.answers u m);
  }

  lower_of_leads : OpensTo (HeldAt slots pool row) Leads p q t → OpensTo (HeldAt slots pool row) (Member lower) p q t
  lower_of_leads o = record {
    opening = o.opening;
    answers = λ u m. L.all t u o.opening.member_lt m.member_lt (o.answers u m);
  }

-- What is decided of the targets and the answers, as sets.
pub opens_of_sets : (Target Leads : Relation) (p q t : ℕ) {targets answers : Set} → SetOf (Target p) targets
    → SetOf (Target q) answers → (r : Bool) → Decides r (In targets t × ((u : ℕ) → In answers u → Leads t u))
    → Decides r (OpensTo Target Leads p q t)
opens_of_sets Target Leads p q t x y r = decides_iff r
    (λ h. record { opening = x.only _ h.0; answers = λ u m. h.1 u (y.all u m) })
    (λ o. (x.all _ o.opening, λ u i. o.answers u (y.only u i)))

-- ---- flags

pub flagged-zero : {labels flags : List ℕ} → ((a : ℕ) → get_or flags a 0 ≡ 0) → Flagged labels 0 flags
flagged-zero z = record { flagged = λ i l. absurd (omega (arith, l)); only = λ a n. absurd (n (z a)) }

pub flagged_next : {labels flags flags' : List ℕ} {i a : ℕ} → a ≡ get_or labels i 0 → a < length flags
    → flags' ≡ set flags a 1 → Flagged labels i flags → Flagged labels (i + 1) flags'
flagged_next {labels} {flags} {flags'} {i} {a} a-is l e F = record {
  flagged = λ j k. flagged j k (eq_or_not (get_or labels j 0) a);
  only = λ b n. only b n (eq_or_not b a);
}
  where
    here : get_or flags' a 0 ≡ 1
    here = ap (λ (x : List ℕ). get_or x a 0) e ∙ get_or-set_same flags a 1 0 l

    other : (b : ℕ) → ¬ (b ≡ a) → get_or flags' b 0 ≡ get_or flags b 0
    other b n = ap (λ (x : List ℕ). get_or x b 0) e ∙ get_or-set_other flags a b 1 0 n

    flagged : (j : ℕ) → j < i + 1 → (get_or labels j 0 ≡ a) ⊎ ¬ (get_or labels j 0 ≡ a)
        → get_or flags' (get_or labels j 0) 0 ≡ 1
    flagged j k (inl d) = ap (λ (x : ℕ). get_or flags' x 0) d ∙ here
    flagged j k (inr n) =
        let m : ¬ (j ≡ i) = λ d. n (ap (λ (x : ℕ). get_or labels x 0) d ∙ sym a-is) in
        other _ n ∙ F.flagged j (omega (arith, k, m))

    only : (b : ℕ) → ¬ (get_or flags' b 0 ≡ 0) → (b ≡ a) ⊎ ¬ (b ≡ a)
        → LabelIn labels (i + 1) b
    only b n (inl d) = (i, omega arith, sym a-is ∙ sym d)
    only b n (inr m) =
        let h = F.only b (λ z. n (other b m ∙ z)) in
        (h.0, omega (arith, h.1), h.2)

pub flagged_at : {labels flags : List ℕ} {i count : ℕ} → i ≡ count → Flagged labels i flags → Flagged labels count flags
flagged_at {labels} {flags} e = subst (λ (x : ℕ). Flagged labels x flags) e

pub listed_label : {n count a : ℕ} {labels slots pool : List ℕ} → HeldList n labels count slots pool
    → LabelIn labels count a → (a < action_limit) ⊎ (a ≡ silent_label)
listed_label H l = subst (λ (x : ℕ). (x < action_limit) ⊎ (x ≡ silent_label)) l.2 (H.label l.0 l.1)

-- An entry whose action is not flagged is bad: no move has it.
unflagged_bad : {labels slots pool flags : List ℕ} {count : ℕ} (book : Book) (p q : ℕ) (e : Entry)
    → Flagged labels count flags → book p q ≡ e → Present e → get_or flags e.action 0 ≡ 0
    → ¬ (SoundAt (HeldMove labels count slots pool) book p q)
unflagged_bad {labels} {slots} {pool} {flags} {count} book p q e F entry_is present z s =
    go (s (subst Present (sym entry_is) present))
  where
    none : {x t : ℕ} → ¬ (HeldMove labels count slots pool x (book p q).action t)
    none m =
        let i = m.label_is ∙ ap (λ (x : Entry). x.action) entry_is in
        let f = ap (λ (x : ℕ). get_or flags x 0) (sym i) ∙ F.flagged m.number m.number_lt in
        omega (arith, z, f)

    go : ¬ (Plays (HeldMove labels count slots pool) (LowerEntry book (book p q).depth) p q (book p q).side
        (book p q).action (book p q).target)
    go (first_opens _ o) = none o.opening
    go (second_opens _ o) = none o.opening

-- ---- entry k, as it was read

module _ (labels : List ℕ) (count : ℕ) (slots pool book : List ℕ) (k : ℕ) (e : Entry)
    (e-is : e ≡ entry_number book k) where
  abbrev p : ℕ
  p = k / state_limit

  abbrev q : ℕ
  q = k % state_limit

  abbrev Move : Moves
  Move = HeldMove labels count slots pool

  entry_is : book_of book p q ≡ e
  entry_is = book_of_at book k e-is

  pub entry_unflagged : {flags : List ℕ} → Flagged labels count flags → Present e → get_or flags e.action 0 ≡ 0
      → ¬ (SoundAt Move (book_of book) p q)
  entry_unflagged F = unflagged_bad (book_of book) p q e F entry_is

  pub entry_absent : e.side ≡ 0 → SoundAt Move (book_of book) p q
  entry_absent = sound_absent Move (book_of book) p q e entry_is

  pub entry_other : Present e → NoSide e.side → ¬ (SoundAt Move (book_of book) p q)
  entry_other = bad_without_side Move (book_of book) p q e entry_is

  -- A side opens: whether it does was decided by the entries of lower depth,
  module _ {row : ℕ} (l : k < table_length) (listed : LabelIn labels count e.action)
      (row_is : row ≡ target_row e.action) (r : Bool) {side : Side} {x y : ℕ} (turn : Turn e.side p q side x y) where
    pub entry_opens : Decides r (OpensTo (HeldAt slots pool row) (BySide side (LowerEntry (book_of book) e.depth)) x y
        e.target)
        → Decides r (SoundAt Move (book_of book) p q)
    entry_opens d =
        let lt = turn_lt (omega (arith, l)) (omega arith) turn in
        sound_opener Move (book_of book) p q e entry_is turn r
        (decides_iff r (opens_of_held listed row_is lt.0) (held_of_opens listed row_is lt.1) d)

    -- or by their sets.
    pub entry_opens_by_sets : {lower : List ℕ} → Pairs (BySide side (LowerEntry (book_of book) e.depth)) lower
        → Decides r (OpensTo (HeldAt slots pool row) (Member lower) x y e.target)
        → Decides r (SoundAt Move (book_of book) p q)
    entry_opens_by_sets L d =
        entry_opens (decides_iff r (leads_of_lower slots pool row L) (lower_of_leads slots pool row L) d)

  -- The same of each side.
  module _ {row : ℕ} (l : k < table_length) (listed : LabelIn labels count e.action)
      (row_is : row ≡ target_row e.action) (r : Bool) where
    pub entry_first_opens : e.side ≡ 1
        → Decides r (OpensTo (HeldAt slots pool row) (BySide First (LowerEntry (book_of book) e.depth)) p q e.target)
        → Decides r (SoundAt Move (book_of book) p q)
    entry_first_opens s = entry_opens l listed row_is r (first_turn s)

    pub entry_second_opens : e.side ≡ 2
        → Decides r (OpensTo (HeldAt slots pool row) (BySide Second (LowerEntry (book_of book) e.depth)) q p e.target)
        → Decides r (SoundAt Move (book_of book) p q)
    entry_second_opens s = entry_opens l listed row_is r (second_turn s)

    pub entry_first : {there back : List ℕ} → e.side ≡ 1 → LowerBy book e.depth there back
        → Decides r (OpensTo (HeldAt slots pool row) (Member there) p q e.target)
        → Decides r (SoundAt Move (book_of book) p q)
    entry_first s L = entry_opens_by_sets l listed row_is r (first_turn s) L.firsts

    pub entry_second : {there back : List ℕ} → e.side ≡ 2 → LowerBy book e.depth there back
        → Decides r (OpensTo (HeldAt slots pool row) (Member back) q p e.target)
        → Decides r (SoundAt Move (book_of book) p q)
    entry_second s L = entry_opens_by_sets l listed row_is r (second_turn s) L.seconds
