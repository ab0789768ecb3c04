-- The lists by label have just the low and the silent steps of a model, so the moves that are made of them are the
-- moves that are played, and so are the ranks; and where there is no silent step these are the ranks of the low steps.
-- Document 02, (vii). Assumes nothing.
use Rattle.std.specs.Prelude.{List, ◌≡◌, refl, ℕ, ◌+◌, ◌<◌, T}
use Rattle.std.proofs.Common.{sym, subst, arith}
use Rattle.lts.specs.Agree.{Agree}
use Rattle.lts.proofs.AgreeLaws.{rank_same, separated_same, rank_agree, separated_agree}
use Rattle.lts.specs.View.{View}
use Rattle.lts.specs.Weak.{silent_label, LowStep, Tick, WeakMove}
use Rattle.lts.proofs.WeakLaws.{weak-map, weak_agree_all}
use Rattle.text.specs.Limits.{action_limit}
use Rattle.text.specs.Model.{Model}
use Rattle.model.specs.System.{action, view}
use Rattle.model.specs.Inner.Stored.{Stored}
use Rattle.model.proofs.Laws.System.RankBoundLaws.{low_step_game, weak_move_game}
use Rattle.by_state.specs.MoveList.{Listed}
use Rattle.silent.specs.Labelled.{LabelStep, LabelList, LabelMove}
use Rattle.ranking.specs.Table.{Ranked}
use Rattle.ranking.specs.Laws.RankedLaws.{ranked-map}
use Rattle.moves.specs.Labels.{LabelsOf}
use Rattle.moves.specs.Inner.Listing.{ListedTo}
use Rattle.moves.specs.Inner.Labelling.{low_label, tick_label, Labelled, PlacedTo}
use Rattle.moves.specs.Laws.LabellingLaws.{has_label_low, has_label_silent, placed_to_le}

-- ---- all labels are listed

module _ {m : Model} {p q : ℕ} where
  labelled_low : {a : ℕ} → LowStep (view m) p a q → a < action_limit → Labelled m a p q
  labelled_low {a} (t, s) l = record {
    number = s.number;
    from_le = omega arith;
    to_lt = s.number_lt;
    holds = record {
      has_label = low_label s.action_is l (subst (λ (b : ℕ). T ((view m).levels.low? b)) (sym s.action_is) t);
      source_is = s.source_is;
      target_is = s.target_is;
    };
  }

  low_labelled : {a : ℕ} → a < action_limit → Labelled m a p q → LowStep (view m) p a q
  low_labelled {a} l x =
      let y = has_label_low (λ e. omega arith) x.holds.has_label in (
        subst (λ (b : ℕ). T ((view m).levels.low? b)) y.0 y.1,
        record {
          number = x.number;
          number_lt = x.to_lt;
          source_is = x.holds.source_is;
          action_is = y.0;
          target_is = x.holds.target_is;
        },
      )

  labelled_tick : Tick (view m) p q → Labelled m action_limit p q
  labelled_tick t =
      let s = t.step in
      record {
        number = s.number;
        from_le = omega arith;
        to_lt = s.number_lt;
        holds = record {
          has_label =
              tick_label refl (subst (λ (b : ℕ). T ((view m).levels.silent? b)) (sym s.action_is) t.is_silent);
          source_is = s.source_is;
          target_is = s.target_is;
        };
      }

  tick_labelled : Labelled m action_limit p q → Tick (view m) p q
  tick_labelled x = record {
    action = action m x.number;
    is_silent = has_label_silent refl x.holds.has_label;
    step = record {
      number = x.number;
      number_lt = x.to_lt;
      source_is = x.holds.source_is;
      action_is = refl;
      target_is = x.holds.target_is;
    };
  }

module _ {from sources targets : List ℕ} {a p q : ℕ} where
  label_step_listed : {n : ℕ} → Listed n from sources targets a p q → LabelStep from sources targets a p q
  label_step_listed x = record {
    place = x.place;
    from_le = x.first_le;
    place_lt = x.place_lt;
    source_is = x.action_is;
    target_is = x.target_is;
  }

  listed_label_step : {n : ℕ} → a < n → LabelStep from sources targets a p q → Listed n from sources targets a p q
  listed_label_step l x = record {
    place = x.place;
    source_lt = l;
    first_le = x.from_le;
    place_lt = x.place_lt;
    action_is = x.source_is;
    target_is = x.target_is;
  }

pub labels_of_of_listed_to : {s : List ℕ} {m : Model} {n j to : ℕ} {from sources targets : List ℕ} → Stored s m
    → n ≡ action_limit + 1 → PlacedTo m n j to → ListedTo (Labelled m) n to from sources targets
    → LabelsOf (view m) from sources targets
labels_of_of_listed_to {m = m} {n} {to = to} {from} {sources} {targets} st e placed listed =
    let x = subst (λ (k : ℕ). ListedTo (Labelled m) k to from sources targets) e listed in
    record {
      steps = record {
        some_state = st.states_pos;
        states_le = st.states_le;
        rising = λ a l. x.rising a (omega arith);
        last_le = omega (arith, x.end_is, placed_to_le placed, st.steps_le);
        source_lt = λ i l.
            let s = (x.each i (omega (arith, x.end_is, l))).1 in
            omega (arith, s.holds.source_is, st.source_lt s.number s.to_lt);
        target_lt = λ i l.
            let s = (x.each i (omega (arith, x.end_is, l))).1 in
            omega (arith, s.holds.target_is, st.target_lt s.number s.to_lt);
      };
      low_sound = λ p a q (l, y). low_labelled l (x.sound a p q (listed_label_step (omega arith) y));
      low_complete = λ p a q y.
          let s = y.1 in
          let l : a < action_limit =
          omega (arith, s.action_is, st.action_lt s.number s.number_lt, st.actions_le) in
          (l, label_step_listed (x.complete a p q (omega arith) (labelled_low y l)));
      tick_sound = λ p q y. tick_labelled (x.sound action_limit p q (listed_label_step (omega arith) y));
      tick_complete = λ p q y. label_step_listed (x.complete action_limit p q (omega arith) (labelled_tick y));
    }

-- ---- the moves that are made of them

module _ {v : View} {from sources targets : List ℕ} (x : LabelsOf v from sources targets) where
  pub weak_move_of_labels : (p a q : ℕ) → LabelMove v.states from sources targets p a q → WeakMove v p a q
  weak_move_of_labels p a q = weak-map x.low_sound x.tick_sound

  pub labels_of_weak_move : (p a q : ℕ) → WeakMove v p a q → LabelMove v.states from sources targets p a q
  labels_of_weak_move p a q = weak-map x.low_complete x.tick_complete

  -- the lists, and what is ranked by them, for a number that is that of the states
  pub label_list_of_labels : {n : ℕ} → n ≡ v.states → LabelList n from sources targets
  label_list_of_labels e = subst (λ (y : ℕ). LabelList y from sources targets) (sym e) x.steps

  pub ranked_of_labels : {n : ℕ} → n ≡ v.states → {entry exit : List ℕ} {last : ℕ}
      → Ranked (LabelMove n from sources targets) n entry exit last → Ranked (WeakMove v) v.states entry exit last
  ranked_of_labels e {entry} {exit} {last} r =
      ranked-map
      (λ p q k _ _. (
        rank_same weak_move_of_labels labels_of_weak_move p q,
        rank_same labels_of_weak_move weak_move_of_labels p q,
      ))
      (λ p q k _ _. separated_same weak_move_of_labels labels_of_weak_move p q k)
      (subst (λ (y : ℕ). Ranked (LabelMove y from sources targets) y entry exit last) e r)

-- ---- where there is no silent step

module _ {s : List ℕ} {m : Model} (st : Stored s m) (still : (p q : ℕ) → ¬ (Tick (view m) p q)) where
  pub low_weak_agree : Agree (λ p. p < m.head.states) (λ a. a ≡ silent_label) (LowStep (view m)) (WeakMove (view m))
  low_weak_agree = weak_agree_all (LowStep (view m)) (Tick (view m)) m.head.states still
      (λ p a q (t, x). omega (arith, x.target_is, st.target_lt x.number x.number_lt))
      (λ p a q (t, x). omega (arith, x.action_is, st.action_lt x.number x.number_lt, st.actions_le))

  pub ranked_of_steps : {entry exit : List ℕ} {last : ℕ}
      → Ranked (LowStep (view m)) m.head.states entry exit last
      → Ranked (WeakMove (view m)) m.head.states entry exit last
  ranked_of_steps = ranked-map
      (λ p q k lp lq. rank_agree (λ x. x < m.head.states) (λ a. a ≡ silent_label) (LowStep (view m))
      (WeakMove (view m)) low_weak_agree m.head.states _ _ (low_step_game st) (weak_move_game st) p q k lp lq lp lq)
      (λ p q k lp lq. separated_agree (λ x. x < m.head.states) (λ a. a ≡ silent_label) (LowStep (view m))
      (WeakMove (view m)) low_weak_agree p q k lp lq)
