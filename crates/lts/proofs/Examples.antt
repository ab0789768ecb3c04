-- Small systems, judged by the definitions through the tests: a wrong definition or test is refused here.
-- Document 01, "The page" and "Bench models". Assumes nothing.
pub mod ListedLaws
pub mod ByHand
use Rattle.std.specs.Prelude.{◌≡◌, refl, [], ◌∷◌, Bool, true, false, ◌&&◌, ◌||◌, ℕ, zero, suc, ◌<◌, T, eqb}
use Rattle.std.proofs.Common.{inl, arith}
use Rattle.lts.specs.Tests.{all, any}
use Rattle.lts.specs.Alike.{Moves, Rank}
use Rattle.lts.proofs.AlikeLaws.{separated_of_rank}
use Rattle.lts.specs.Game.{alike?, rank_below}
use Rattle.lts.specs.View.{Levels, View}
use Rattle.lts.specs.Run.{Run, begin, onward, Deterministic, Distance}
use Rattle.lts.specs.Noninterference.{Levelled, low, release, high, LevelledSteps, SameLow}
use Rattle.lts.specs.Weak.{LowStep, WeakMove, NoTick}
use Rattle.lts.specs.WeakTests.{silent_move?, low_move?, weak_answers?}
use Rattle.lts.specs.Noninterference.{BNID, INI}
use Rattle.lts.proofs.NoninterferenceLaws.{bnid↔INI}
use Rattle.lts.proofs.LowLaws.{simulation_allows}
use Rattle.lts.specs.Word.{OnlyFrom, FirstWord}
use Rattle.lts.proofs.FirstWordLaws.{first_word_one, first_word_cons}
use Rattle.lts.specs.Decided.{Decided, answered?, answers?, simulation?, within?}
use Rattle.lts.proofs.DecidedLaws.{decided→Bounded, simulation?→Answered}
use Rattle.lts.proofs.DistanceLaws.{distance_suc}
use Rattle.lts.specs.Checked.{low_step?, low_round, low_rank, weak_round, weak_rank, bnid?, deterministic?}
use Rattle.lts.proofs.CheckedLaws.{decided_low}
use Rattle.lts.specs.Examples.Listed.{System, view, tests}
use Rattle.lts.proofs.Examples.ListedLaws.{decided, listed_deterministic, low_step_game}
use Rattle.lts.proofs.Examples.ListedLaws.{listed_rank, listed_weak_game, listed_weak_rank}
use Rattle.lts.proofs.Examples.ListedLaws.{listed_labels, listed_passed, listed_refused}
use Rattle.lts.proofs.Examples.ByHand.{page-scan-scan}
use Rattle.lts.specs.Examples.Systems.{scan, print, usual, close_low, timed}
use Rattle.lts.specs.Examples.Systems.{page_system, release_system, branching_system, unreached_system}
use Rattle.lts.specs.Examples.Systems.{late_scan_system, unseen_tick_system}

-- ---- what the tests compute

-- The computed rank of p and q in M under the low steps.
abbrev low_rank_in : Levels → System → ℕ → ℕ → ℕ
low_rank_in L M p q = low_rank (view L M) (tests M) p q

-- The computed rank of p and q in M.
abbrev rank_in : Levels → System → ℕ → ℕ → ℕ
rank_in L M p q = weak_rank (view L M) (tests M) p q

-- The test of BNID for M.
abbrev bnid_in? : Levels → System → Bool
bnid_in? L M = bnid? (view L M) (tests M)

record Computed : Type 0 where
  page-low-rank : low_rank_in usual page_system 0 2 ≡ 2
  page-low-rank_next : low_rank_in usual page_system 1 3 ≡ 1
  page-rank : rank_in usual page_system 0 2 ≡ 2
  page_rank_next : rank_in usual page_system 1 3 ≡ 1
  close-low-rank : rank_in close_low release_system 0 1 ≡ 1
  branching-rank : rank_in usual branching_system 0 1 ≡ 2
  unreached_rank : rank_in usual (unreached_system (0 ∷ [])) 1 2 ≡ 1
  late-scan-rank : rank_in timed late_scan_system 0 1 ≡ 1
  late_scan_rank_next : rank_in timed late_scan_system 1 2 ≡ 0
  unseen_tick_rank : rank_in timed unseen_tick_system 0 1 ≡ 0
  page : bnid_in? usual page_system ≡ false
  release : bnid_in? usual release_system ≡ true
  close_low_is : bnid_in? close_low release_system ≡ false
  branching : bnid_in? usual branching_system ≡ false
  unreached : bnid_in? usual (unreached_system (0 ∷ [])) ≡ true
  two-starts : bnid_in? usual (unreached_system (0 ∷ 1 ∷ [])) ≡ false
  late_scan : bnid_in? timed late_scan_system ≡ false
  unseen_tick : bnid_in? timed unseen_tick_system ≡ true

computed : Computed
unfolding bnid? rank_below alike? weak_answers? low_move? silent_move? answers? answered? within? all any
computed = record {
  page-low-rank = refl;
  page-low-rank_next = refl;
  page-rank = refl;
  page_rank_next = refl;
  close-low-rank = refl;
  branching-rank = refl;
  unreached_rank = refl;
  late-scan-rank = refl;
  late_scan_rank_next = refl;
  unseen_tick_rank = refl;
  page = refl;
  release = refl;
  close_low_is = refl;
  branching = refl;
  unreached = refl;
  two-starts = refl;
  late_scan = refl;
  unseen_tick = refl;
}

-- ---- and so the definitions say

page-rank : Rank (WeakMove (view usual page_system)) 0 2 2
page-rank = listed_weak_rank page_system usual 0 2 2 (omega arith) (omega arith) computed.page-rank

branching-rank : Rank (WeakMove (view usual branching_system)) 0 1 2
branching-rank = listed_weak_rank branching_system usual 0 1 2 (omega arith) (omega arith) computed.branching-rank

late-scan-rank : Rank (WeakMove (view timed late_scan_system)) 0 1 1
late-scan-rank = listed_weak_rank late_scan_system timed 0 1 1 (omega arith) (omega arith) computed.late-scan-rank

page-refused : ¬ (BNID (view usual page_system))
page-refused = listed_refused page_system usual computed.page

release_passed : BNID (view usual release_system)
release_passed = listed_passed release_system usual computed.release

close-low-refused : ¬ (BNID (view close_low release_system))
close-low-refused = listed_refused release_system close_low computed.close_low_is

branching-refused : ¬ (BNID (view usual branching_system))
branching-refused = listed_refused branching_system usual computed.branching

unreached_passed : BNID (view usual (unreached_system (0 ∷ [])))
unreached_passed = listed_passed (unreached_system (0 ∷ [])) usual computed.unreached

two-starts-refused : ¬ (BNID (view usual (unreached_system (0 ∷ 1 ∷ []))))
two-starts-refused = listed_refused (unreached_system (0 ∷ 1 ∷ [])) usual computed.two-starts

late-scan-refused : ¬ (BNID (view timed late_scan_system))
late-scan-refused = listed_refused late_scan_system timed computed.late_scan

unseen-tick_passed : BNID (view timed unseen_tick_system)
unseen-tick_passed = listed_passed unseen_tick_system timed computed.unseen_tick

-- Both ends of the branching system's print step allow the same low sequences: each follows the other, and 1 goes to 2
-- where 0 stops in 3.
branching_same-low : SameLow (view usual branching_system) 0 1
unfolding simulation? answered? all any
branching_same-low w l = (
  simulation_allows (view usual branching_system) (λ x y. (x < 4) × (y < 4) × T (there x y))
      (simulation?→Answered Moved 4 3 moved? decides there tt) w l 0 1 (omega arith, omega arith, tt),
  simulation_allows (view usual branching_system) (λ x y. (x < 4) × (y < 4) × T (back x y))
      (simulation?→Answered Moved 4 3 moved? decides back tt) w l 1 0 (omega arith, omega arith, tt),
)
  where
    Moved : Moves
    Moved = LowStep (view usual branching_system)

    moved? : ℕ → ℕ → ℕ → Bool
    moved? = low_step? (view usual branching_system) (tests branching_system)

    decides : Decided Moved 4 3 moved?
    decides = decided_low (view usual branching_system) (tests branching_system) (decided branching_system usual)

    there : ℕ → ℕ → Bool
    there x y = (eqb x 0 && eqb y 1) || ((eqb x 2 && eqb y 2) || eqb x 3)

    back : ℕ → ℕ → Bool
    back x y = (eqb x 1 && eqb y 0) || ((eqb x 2 && eqb y 2) || eqb x 3)

-- ---- the page's system: deterministic, so its sequences tell

abbrev page_view : View
page_view = view usual page_system

usual_levelled : (M : System) → LevelledSteps (view usual M)
usual_levelled M p a q r s = go a ((decided M usual).steps.label_lt p a q s)
  where
    go : (a : ℕ) → a < 3 → Levelled usual a
    go zero h = low tt tt tt
    go (suc zero) h = high tt tt tt
    go (suc (suc zero)) h = release tt tt tt
    go (suc (suc (suc a))) h = absurd (omega arith)

usual_still : (M : System) → NoTick (view usual M)
usual_still M p q r t = t.is_silent

page_deterministic : Deterministic page_view
unfolding deterministic? within? all any
page_deterministic = listed_deterministic page_system usual tt

page_not-INI : ¬ (INI page_view)
page_not-INI ini = page-refused ((bnid↔INI page_view
    (decided→Bounded page_view (tests page_system) (decided page_system usual)) (usual_levelled page_system)
    (usual_still page_system) (listed_labels page_system usual) page_deterministic
    (weak_round page_view (tests page_system)) (listed_weak_game page_system usual)).1 ini)

page_distance : Distance page_view 3 2
unfolding within? all any
page_distance = distance_suc page_view (tests page_system) (decided page_system usual) 3 1 tt tt

-- scan is possible from 1 and not from 3, and scan scan from 0 and not from 2.
page_last-letter : FirstWord page_view 1 3 (scan ∷ [])
unfolding Run
page_last-letter = first_word_one page_view 1 3 scan tt
    (inl ((1, (1, tt, refl)), λ z. z.1.1)) (λ b l. absurd (omega arith))

-- The ranks under the low steps, which words go by.
page-low-rank : Rank (LowStep page_view) 0 2 2
page-low-rank = listed_rank page_system usual 0 2 2 (omega arith) (omega arith) computed.page-low-rank

page-low-rank_next : Rank (LowStep page_view) 1 3 1
page-low-rank_next = listed_rank page_system usual 1 3 1 (omega arith) (omega arith) computed.page-low-rank_next

page_word : FirstWord page_view 0 2 (scan ∷ scan ∷ [])
page_word = first_word_cons page_view (low_round page_view (tests page_system)) (low_step_game page_system usual)
    page_deterministic 0 0 2 scan 1 3 (scan ∷ []) (begin tt) (onward {a = print} (begin {p = 0} tt) tt)
    (separated_of_rank (LowStep page_view) 0 2 2 (omega arith) page-low-rank) (tt, tt) (tt, tt)
    (separated_of_rank (LowStep page_view) 1 3 1 (omega arith) page-low-rank_next)
    (λ b x y l. absurd (omega arith)) page_last-letter

page-end : OnlyFrom page_view.Step 0 2 (scan ∷ scan ∷ [])
unfolding Run
page-end = ((1, (1, tt, (1, tt, refl))), λ z. page-scan-scan z.1.0 z.1.2.0 z.1.1 z.1.2.1)
