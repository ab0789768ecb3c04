-- Round by round the book gets the entries. Document 02, (v) and (vii). Assumes nothing.
use Rattle.std.specs.Prelude.{Bool, true, false, List, ◌≡◌, refl, ℕ, ◌+◌, ◌≤◌, ◌<◌, get_or}
use Rattle.std.proofs.Common.{sym, subst, arith}
use Rattle.lts.specs.Alike.{Moves, Answers}
use Rattle.text.specs.Limits.{state_limit, book_length}
use Rattle.text.specs.Lists.{Past}
use Rattle.text.specs.Laws.ListsLaws.{past_refl, past_trans}
use Rattle.by_state.specs.Inner.Numbered.{Same}
use Rattle.sets.specs.Inner.Sets.{Member}
use Rattle.sets.specs.declared.set.Set.{Set}
use Rattle.ranking.specs.Inner.ClassList.{Refined}
use Rattle.ranking.specs.Inner.TableWrites.{SeparatedBy}
use Rattle.splitters.specs.Inner.Partition.{Partition, ClassSets}
use Rattle.splitters.specs.Inner.Splitters.{Rounded, Rounds, Counted}
use Rattle.splitters.specs.Laws.RoundLaws.{rounds-suc, last_rounded_of_rounds}
use Rattle.weak_books.specs.Inner.Entering.{Entered, SeparatedBelow, RoundEntered, BookUpTo, Booked, BookEnded}
use Rattle.weak_books.specs.Laws.BookUpToLaws.{book_up_to_suc}

pub class_sets_of_partition : {n : ℕ} {class members : List ℕ} {classes : ℕ} {together : Set} → n ≤ state_limit
    → Partition n class members classes together → ClassSets n class members
class_sets_of_partition {n} {class} {members} limit P = record {
  class_lt = λ p lp. omega (arith, P.class_lt p lp, P.classes_le, limit);
  alike = λ p q lp lq e. subst (λ (c : ℕ). Member members c q) (sym e) (P.member q lq);
  only = λ p q lp m. let h = P.member_only (get_or class p 0) q (P.class_lt p lp) m in (h.0, sym h.1);
}

pub booked-zero : {Move : Moves} {n k first : ℕ} {book class members origin under when : List ℕ} {classes : ℕ}
    {together : Set} → Rounds Move n k first class members origin under when classes together → BookUpTo Move n k book
    → Booked Move n k first book book class members origin under when classes together
booked-zero {book = book} Z B = record { rounds = Z; entries = B; past = past_refl book }

-- What a round separates does not answer each other.
pub separated_not_answers : {Move : Moves} {n : ℕ} {class next : List ℕ} → Refined Move n class next → (p q : ℕ)
    → p < n → q < n → SeparatedBy class next p q → ¬ (Answers Move (Same class) p q)
separated_not_answers R p q lp lq s a = s.not_same_after (R.same_of_answers p q lp lq s.same_before a)

-- The entries of a round that made further classes, and those of one that made none.
module _ {Move : Moves} {n k : ℕ} {class next : List ℕ} {classes classes' : ℕ} where
  pub round_entered_more : {depth : ℕ} {book book' : List ℕ} → depth ≡ k + 1 → ¬ (classes' ≡ classes)
      → Entered Move class depth (SeparatedBelow n class next) book book'
      → RoundEntered Move n k class next classes classes' book book'
  round_entered_more {book = book} {book' = book'} e d w = record {
    stays = λ f. absurd (d f);
    entered = λ _. subst (λ (x : ℕ). Entered Move class x (SeparatedBelow n class next) book book') e w;
  }

  pub round_entered_stays : {book : List ℕ} → classes' ≡ classes
      → RoundEntered Move n k class next classes classes' book book
  round_entered_stays e = record { stays = λ _. refl; entered = λ l. absurd (omega (arith, e, l)) }

module _ {Move : Moves} {n k first : ℕ} {book₀ book class members origin under when : List ℕ} {classes : ℕ}
    {together : Set} (B : Booked Move n k first book₀ book class members origin under when classes together)
    {book' next : List ℕ} {classes' : ℕ} (E : RoundEntered Move n k class next classes classes' book book') where
  -- With its entries, a round that separates a pair leaves the same one round later.
  pub booked_suc : {members' origin' under' when' : List ℕ} {together' : Set}
      → Rounded Move n k class next members' origin' under' when' classes classes' together'
      → ((p a q : ℕ) → p < n → Move p a q → q < n) → n ≤ state_limit → classes < classes'
      → Booked Move n (k + 1) classes book₀ book' next members' origin' under' when' classes' together'
  booked_suc R target_lt states_le more =
      let Y = B.rounds.ready in
      let W = E.entered more in
      record {
        rounds = rounds-suc B.rounds R more;
        entries = book_up_to_suc Y.are_classes Y.ranks target_lt states_le R.ready.are_classes W B.entries;
        past = past_trans B.past W.past;
      }

  -- Another one leaves the book as it was, and is the last.
  pub book_ended_of_last : {members' origin' under' when' : List ℕ} {together' : Set}
      → Rounded Move n k class next members' origin' under' when' classes classes' together' → classes' ≡ classes
      → BookEnded Move n k next members' origin' under' when' classes book₀ book'
  book_ended_of_last R e = record {
    rounded = last_rounded_of_rounds B.rounds R e;
    entries = subst (BookUpTo Move n k) (sym (E.stays e)) B.entries;
    past = subst (Past book_length book₀) (sym (E.stays e)) B.past;
  }

  -- Where the round is counted, it does; where it is not, it was the last.
  module _ {members' origin' under' when' : List ℕ} {together' : Set}
      (R : Rounded Move n k class next members' origin' under' when' classes classes' together') {told : Bool}
      {k' first' : ℕ} (C : Counted told k classes k' first' classes') where
    pub booked_counted : told ≡ true → ((p a q : ℕ) → p < n → Move p a q → q < n) → n ≤ state_limit
        → Booked Move n k' first' book₀ book' next members' origin' under' when' classes' together'
    booked_counted e target_lt states_le =
        let m = C.more e in
        rw (m.1, m.2) (booked_suc R target_lt states_le m.0)

    pub book_ended_counted : told ≡ false
        → BookEnded Move n k' next members' origin' under' when' classes' book₀ book'
    book_ended_counted e =
        let m = C.none e in
        rw m.1 (subst (λ (c : ℕ). BookEnded Move n k next members' origin' under' when' c book₀ book') (sym m.0)
        (book_ended_of_last R m.0))
