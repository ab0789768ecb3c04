-- Entry by entry the second sides open where the first ones cannot. Assumes nothing.
use Rattle.std.specs.Prelude.{List, ◌≡◌, refl, ℕ, ◌+◌, ◌*◌, ◌≤◌, ◌<◌, get_or}
use Rattle.std.proofs.Common.{⊎_elim, sym, ap, ◌∙◌, subst, arith}
use Rattle.lts.specs.Book.{Entry, Present}
use Rattle.lts.proofs.OwnBookLaws.{entry_ext}
use Rattle.lts.proofs.TestsLaws.{lt_or_le, eq_or_not}
use Rattle.text.specs.Limits.{state_limit, pair_place, entry_size}
use Rattle.text.specs.Laws.ListsLaws.{past_refl, past_trans}
use Rattle.books.specs.Books.{entry_number}
use Rattle.books.specs.Inner.Filling.{EntryWritten}
use Rattle.weak_books.specs.Inner.Turned.{EntryTurned, PairTurned, AllTurned}

-- ---- one entry

module _ {table : List ℕ} {p q d : ℕ} (known : d ≡ get_or table (pair_place p q) 0) where
  pub pair_turned_together : {book : List ℕ} → d ≡ 0 → PairTurned table p q book book
  pair_turned_together {book} z = record {
    turned = record {
      stays = λ h. refl;
      together = λ h. refl;
      turned = λ h. absurd (h (sym known ∙ z));
    };
    kept = λ k h. refl;
    past = past_refl book;
  }

  pub pair_turned_stays : {book : List ℕ} → Present (entry_number book (pair_place p q)) → PairTurned table p q book
      book
  pair_turned_stays {book} present = record {
    turned = record { stays = λ h. refl; together = λ h. refl; turned = λ h z. absurd (present z) };
    kept = λ k h. refl;
    past = past_refl book;
  }

  pub pair_turned_of_entry : {o : Entry} {book book' : List ℕ} → ¬ (d ≡ 0)
      → (entry_number book (pair_place p q)).side ≡ 0 → o ≡ entry_number book (pair_place q p)
      → EntryWritten (pair_place p q) (record { side = 2; action = o.action; target = o.target; depth = d }) book book'
      → PairTurned table p q book book'
  pair_turned_of_entry {o} {book} {book'} apart z e w = record {
    turned = record {
      stays = λ h. absurd (h z);
      together = λ h. absurd (apart (known ∙ h));
      turned = λ _ _ _.
          w.written
          ∙ entry_ext
          (record { side = 2; action = o.action; target = o.target; depth = d })
          (record {
            side = 2;
            action = (entry_number book (pair_place q p)).action;
            target = (entry_number book (pair_place q p)).target;
            depth = get_or table (pair_place p q) 0;
          }) refl (ap (λ (x : Entry). x.action) e) (ap (λ (x : Entry). x.target) e) known;
    };
    kept = w.kept;
    past = w.past;
  }

  pub pair_turned_entry : {back : ℕ} {book book' : List ℕ} → ¬ (d ≡ 0) → (entry_number book (pair_place p q)).side ≡ 0
      → back ≡ entry_size * pair_place q p
      → EntryWritten (pair_place p q)
      (record { side = 2; action = get_or book (back + 1) 0; target = get_or book (back + 2) 0; depth = d }) book book'
      → PairTurned table p q book book'
  pair_turned_entry {back} {book} {book'} apart z e w = pair_turned_of_entry apart z refl (subst Written e w)
    where
      Written : ℕ → Type 0
      Written at =
          EntryWritten (pair_place p q)
          (record { side = 2; action = get_or book (at + 1) 0; target = get_or book (at + 2) 0; depth = d }) book book'

-- The other entry is read when its own turn may have come: it is as it was at first, if it was there.
turned-later : {r : ℕ} {e e₁ o o₁ e' : Entry} → e₁ ≡ e → (Present o → o₁ ≡ o) → EntryTurned r e₁ o₁ e'
    → EntryTurned r e o e'
turned-later {r} same kept x = record {
  stays = λ h. x.stays (subst Present (sym same) h) ∙ same;
  together = λ h. x.together h ∙ same;
  turned = λ h z present.
      let f = kept present in
      x.turned h (ap (λ (y : Entry). y.side) same ∙ z) (subst Present (sym f) present)
      ∙ ap (λ (y : Entry). record { side = 2; action = y.action; target = y.target; depth = r }) f;
}

-- ---- many entries

module _ {n : ℕ} {table : List ℕ} where
  pub all_turned_none : {i j : ℕ} (book : List ℕ)
      → ((p q : ℕ) → p < n → q < n → i ≤ pair_place p q → pair_place p q < j → ⊥)
      → AllTurned n table i j book book
  all_turned_none book none = record {
    turned = λ p q lp lq l k. absurd (none p q lp lq l k);
    stays = λ k h. refl;
    kept = λ k h. refl;
    past = past_refl book;
  }

  pub all_turned_to : {i j k : ℕ} {book book' : List ℕ} → j ≡ k → AllTurned n table i j book book'
      → AllTurned n table i k book book'
  all_turned_to {i} {book = book} {book'} e = subst (λ (x : ℕ). AllTurned n table i x book book') e

  pub all_turned_then : {i j k : ℕ} {book book' book'' : List ℕ} → i ≤ j → j ≤ k → AllTurned n table i j book book'
      → AllTurned n table j k book' book'' → AllTurned n table i k book book''
  all_turned_then {i} {j} {k} {book} {book'} {book''} li lk x y = record {
    turned = λ p q lp lq l h. ⊎_elim
        (λ g.
        subst (EntryTurned (get_or table (pair_place p q) 0) (entry_number book (pair_place p q))
        (entry_number book (pair_place q p))) (sym (y.kept (pair_place p q) (λ u v _ _ f _ _. omega (arith, f, g))))
        (x.turned p q lp lq l g))
        (λ g.
        turned-later (x.kept (pair_place p q) (λ u v _ _ _ f _. omega (arith, f, g))) (x.stays (pair_place q p))
        (y.turned p q lp lq g h))
        (lt_or_le (pair_place p q) j);
    stays = λ z h. let e = x.stays z h in y.stays z (subst Present (sym e) h) ∙ e;
    kept = λ z h.
        y.kept z (λ p q lp lq l g. h p q lp lq (omega (arith, li, l)) g)
        ∙ x.kept z (λ p q lp lq l g. h p q lp lq l (omega (arith, lk, g)));
    past = past_trans x.past y.past;
  }

  pub all_turned_pair : {p q : ℕ} {book book' : List ℕ} → n ≤ state_limit → p < n → q < n
      → PairTurned table p q book book' → AllTurned n table (pair_place p q) (pair_place p (q + 1)) book book'
  all_turned_pair {p} {q} {book} {book'} le lp lq x = record {
    turned = λ u v lu lv l h.
        let e : u ≡ p = omega (arith, le, lq, lv, l, h) in
        let f : v ≡ q = omega (arith, le, lq, lv, l, h) in
        subst (λ (y : ℕ). EntryTurned (get_or table (pair_place y v) 0) (entry_number book (pair_place y v))
        (entry_number book (pair_place v y)) (entry_number book' (pair_place y v))) (sym e)
        (subst (λ (y : ℕ). EntryTurned (get_or table (pair_place p y) 0) (entry_number book (pair_place p y))
        (entry_number book (pair_place y p)) (entry_number book' (pair_place p y))) (sym f) x.turned);
    stays = λ k h. ⊎_elim
        (λ e.
        subst (λ (y : ℕ). entry_number book' y ≡ entry_number book y) (sym e)
        (x.turned.stays (subst (λ (y : ℕ). Present (entry_number book y)) e h)))
        (λ e. x.kept k e)
        (eq_or_not k (pair_place p q));
    kept = λ k h. x.kept k (λ e. h p q lp lq (omega (arith, e)) (omega (arith, e)) e);
    past = x.past;
  }

  -- Up to the next row there are no states.
  pub all_turned_row : {i : ℕ} (p : ℕ) {book book' book'' : List ℕ} → n ≤ state_limit → i ≤ pair_place p 0
      → AllTurned n table i (pair_place p 0) book book' → AllTurned n table (pair_place p 0) (pair_place p n) book'
      book''
      → AllTurned n table i (pair_place (p + 1) 0) book book''
  all_turned_row {i} p {book'' = book''} le li x y =
      all_turned_then (omega (arith, li)) (omega (arith, le)) (all_turned_then li (omega arith) x y)
      (all_turned_none book'' (λ u v lu lv l h. omega (arith, le, lv, l, h)))
