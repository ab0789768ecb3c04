-- The extra starts of a well-formed model rise below the number of states, so there are at most 127 of them.
-- Document 02, (iii): "strictly rising and above the start in line 1, so at most 127". Assumes nothing.
use Rattle.std.proofs.Common.{List, [], ◌∷◌, ◌++◌, ◌≡◌, refl, ℕ, zero, suc, ◌+◌, ◌≤◌, ◌<◌, length, get_or, arith}
use Rattle.text.specs.declared.Head.{Head}
use Rattle.text.specs.Limits.{extra_limit}
use Rattle.text.specs.Model.{Model, last_start}
use Rattle.text.specs.Laws.RangesLaws.{head_fits?→HeadRanges, start_fits?→lt, above_starts?→lt}
use Rattle.model.specs.WellFormed.{EachAfter, StartFits, WellFormed}
use Rattle.model.specs.StoredModel.{extra_start_at, listed}
use Rattle.model.specs.Inner.GoodPlaces.{start_before}
use Rattle.model.specs.Laws.Store.EachLaws.{each_get_or}

-- ---- the last start

pub last_start-nil : (first : ℕ) → last_start first [] ≡ first
unfolding last_start
last_start-nil first = refl

pub last_start-snoc : (first : ℕ) (ps : List ℕ) (p : ℕ) → last_start first (ps ++ (p ∷ [])) ≡ p
unfolding last_start
last_start-snoc first [] p = refl
last_start-snoc first (q ∷ ps) p = last_start-snoc q ps p

-- the start before extra start i of a store is the last one of those before it
pub last_start-listed : (h : Head) (s : List ℕ) (i : ℕ)
    → last_start h.start.0 (listed i (extra_start_at s)) ≡ start_before h s i
unfolding listed start_before
last_start-listed h s zero = last_start-nil h.start.0
last_start-listed h s (suc i) = last_start-snoc h.start.0 (listed i (extra_start_at s)) (extra_start_at s i)

-- ---- how many there are

-- starts that rise from the last one before them on stay below the states
starts-length_lt : (h : Head) (before ps : List ℕ) → last_start h.start.0 before < h.states
    → EachAfter (StartFits h) before ps → last_start h.start.0 before + length ps < h.states
unfolding EachAfter
starts-length_lt h before [] l e = omega arith
starts-length_lt h before (p ∷ ps) l e =
    let u = start_fits?→lt h p e.0.in_range in
    let v = above_starts?→lt h before p e.0.rising in
    let n = last_start-snoc h.start.0 before p in
    let i = starts-length_lt h (before ++ (p ∷ [])) ps (omega arith) e.1 in
    omega arith

module _ (m : Model) (w : WellFormed m) where
  -- "so at most 127"
  pub extra_count_le : length m.extra_starts ≤ extra_limit
  extra_count_le =
      let r = head_fits?→HeadRanges m.head w.head in
      let n = last_start-nil m.head.start.0 in
      let l = starts-length_lt m.head [] m.extra_starts (omega arith) w.extra_starts_is in
      omega arith

  -- each extra start is a state
  pub extra_start_lt : (i : ℕ) → i < length m.extra_starts → get_or m.extra_starts i 0 < m.head.states
  extra_start_lt i l =
      let f = each_get_or (StartFits m.head) [] m.extra_starts i 0 w.extra_starts_is l in
      start_fits?→lt m.head (get_or m.extra_starts i 0) f.in_range
