-- Held moves stay among n states, and tests decide them, so that they make a game. Document 02, (vii).
-- Assumes nothing.
use Rattle.std.specs.Prelude.{Bool, ◌&&◌, List, ◌⊎◌, ◌≡◌, ℕ, ◌+◌, ◌*◌, ◌/◌, ◌%◌, ◌^◌, ◌<◌, T, ltb, eqb, get_or}
use Rattle.std.proofs.Common.{⊎_elim, sym, subst, arith, ltb→lt, lt→ltb, eqb→eq}
use Rattle.lts.proofs.TestsLaws.{T-eqb, and_intro, and_left, and_right, any→Some, Some→any}
use Rattle.lts.specs.Game.{Game}
use Rattle.lts.specs.Decided.{Decided}
use Rattle.lts.proofs.DecidedLaws.{decided_game}
use Rattle.lts.specs.Weak.{silent_label}
use Rattle.text.specs.Limits.{state_limit, action_limit}
use Rattle.sets.specs.Inner.Sets.{word_bits, Member}
use Rattle.held.specs.Held.{pool_sets, LabelIn, slot_place, target_row, HeldAt, HeldList, HeldMove}
use Rattle.held.specs.HeldTests.{member?, label_in?, held_move?, label_limit, held_round}
use Rattle.held.specs.Inner.Slots.{Pooled}

-- ---- tests

module _ (sets : List ℕ) (k x : ℕ) where
  abbrev bit? : Bool
  bit? = eqb (get_or sets (2 * k + x / word_bits) 0 / 2 ^ (x % word_bits) % 2) 1

  member?→Member : T (member? sets k x) → Member sets k x
  member?→Member t = record {
    member_lt = ltb→lt x state_limit (and_left (ltb x state_limit) bit? t);
    bit_is = eqb→eq (get_or sets (2 * k + x / word_bits) 0 / 2 ^ (x % word_bits) % 2) 1
        (and_right (ltb x state_limit) bit? t);
  }

  Member→member? : Member sets k x → T (member? sets k x)
  Member→member? m = and_intro (ltb x state_limit) bit? (lt→ltb x state_limit m.member_lt) (T-eqb m.bit_is)

module _ (labels : List ℕ) (count : ℕ) where
  label_in?→LabelIn : (a : ℕ) → T (label_in? labels count a) → LabelIn labels count a
  label_in?→LabelIn a t =
      let x = any→Some count (λ i. eqb (get_or labels i 0) a) t in
      (x.0, x.1, eqb→eq (get_or labels x.0 0) a x.2)

  LabelIn→label_in? : (a : ℕ) → LabelIn labels count a → T (label_in? labels count a)
  LabelIn→label_in? a x = Some→any count (λ i. eqb (get_or labels i 0) a) x.0 x.1 (T-eqb x.2)

  module _ (slots pool : List ℕ) where
    -- Short names: the set of the targets, and the test of a label and a target.
    abbrev set_of : ℕ → ℕ → ℕ
    set_of p a = get_or slots (slot_place (target_row a) p) 0

    abbrev target? : ℕ → ℕ → ℕ → Bool
    target? p a q = label_in? labels count a && member? pool (set_of p a) q

    pub held_move?→HeldMove : (p a q : ℕ) → T (held_move? labels count slots pool p a q)
        → HeldMove labels count slots pool p a q
    held_move?→HeldMove p a q t =
        let u = and_right (ltb p state_limit) (target? p a q) t in
        let x = label_in?→LabelIn a (and_left (label_in? labels count a) (member? pool (set_of p a) q) u) in
        record {
          source_lt = ltb→lt p state_limit (and_left (ltb p state_limit) (target? p a q) t);
          number = x.0;
          number_lt = x.1;
          label_is = x.2;
          held = member?→Member pool (set_of p a) q
              (and_right (label_in? labels count a) (member? pool (set_of p a) q) u);
        }

    pub HeldMove→held_move? : (p a q : ℕ) → HeldMove labels count slots pool p a q
        → T (held_move? labels count slots pool p a q)
    HeldMove→held_move? p a q m = and_intro (ltb p state_limit) (target? p a q) (lt→ltb p state_limit m.source_lt)
        (and_intro (label_in? labels count a) (member? pool (set_of p a) q)
        (LabelIn→label_in? a (m.number, m.number_lt, m.label_is)) (Member→member? pool (set_of p a) q m.held))

-- ---- bounds, and the game

module _ {n count : ℕ} {labels slots pool : List ℕ} (L : HeldList n labels count slots pool) where
  -- All sets of the pool may be in use.
  pub held_list_pooled : Pooled pool_sets slots pool
  held_list_pooled = record {
    some = omega arith;
    used_le = omega arith;
    slot_lt = L.slot_lt;
    none = L.none;
    occupied = L.occupied;
  }

  held_move_states : {p a q : ℕ} → HeldMove labels count slots pool p a q → (p < n) × (q < n)
  held_move_states {p} {a} {q} m = L.state_lt m.number p q m.number_lt m.source_lt
      (subst (λ (b : ℕ). HeldAt slots pool (target_row b) p q) (sym m.label_is) m.held)

  pub held_move_source_lt : {p a q : ℕ} → HeldMove labels count slots pool p a q → p < n
  held_move_source_lt m = (held_move_states m).0

  pub held_move_target_lt : {p a q : ℕ} → HeldMove labels count slots pool p a q → q < n
  held_move_target_lt m = (held_move_states m).1

  pub held_move_label : {p a q : ℕ} → HeldMove labels count slots pool p a q → (a < action_limit) ⊎ (a ≡ silent_label)
  held_move_label m = subst (λ (b : ℕ). (b < action_limit) ⊎ (b ≡ silent_label)) m.label_is
      (L.label m.number m.number_lt)

  pub decided_held : Decided (HeldMove labels count slots pool) n label_limit (held_move? labels count slots pool)
  decided_held = record {
    move?→Move = held_move?→HeldMove labels count slots pool;
    Move→move? = HeldMove→held_move? labels count slots pool;
    source_lt = λ p a q m. held_move_source_lt m;
    label_lt = λ p a q m. ⊎_elim (λ h. omega (arith, h)) (λ h. omega (arith, h)) (held_move_label m);
    target_lt = λ p a q m. held_move_target_lt m;
  }

  pub held_move_game : Game (HeldMove labels count slots pool) n (held_round n labels count slots pool)
  held_move_game =
      decided_game (HeldMove labels count slots pool) n label_limit (held_move? labels count slots pool) decided_held
