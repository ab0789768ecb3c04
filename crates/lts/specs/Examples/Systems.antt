-- The systems of the examples: actions, levels and steps. Document 01, "The page" and "Bench
-- models"; document 02, (vii). Assumes nothing.
use Rattle.std.specs.Prelude.{List, [], ◌∷◌, false, ◌||◌, ℕ, eqb}
use Rattle.lts.specs.View.{Levels}
use Rattle.lts.specs.Examples.Listed.{System, arrow}

-- Action 0.
abbrev pub scan : ℕ
scan = 0

-- Action 1.
abbrev pub print : ℕ
print = 1

-- Action 2.
abbrev pub close : ℕ
close = 2

-- Action 2, where it is a timer's.
abbrev pub timer : ℕ
timer = 2

-- scan low, print high, close release.
abbrev pub usual : Levels
usual = record { low? = eqb scan; release? = eqb close; high? = eqb print; silent? = λ a. false }

-- The same with close low.
abbrev pub close_low : Levels
close_low = record {
  low? = λ a. eqb scan a || eqb close a;
  release? = λ a. false;
  high? = eqb print;
  silent? = λ a. false;
}

-- scan low, print high, and a timer's tick, which is silent, in the place of close.
abbrev pub timed : Levels
timed = record { low? = eqb scan; release? = λ a. false; high? = eqb print; silent? = eqb timer }

-- The ends of print offer the same actions, and differ at depth 2.
abbrev pub page_system : System
page_system = record {
  states = 4;
  starts = 0 ∷ [];
  steps = arrow 0 scan 1 ∷ arrow 0 print 2 ∷ arrow 1 scan 1 ∷ arrow 2 scan 3 ∷ [];
}

-- Passes, since a release is never played; with close low only the target of print has a low step.
abbrev pub release_system : System
release_system = record {
  states = 3;
  starts = 0 ∷ [];
  steps = arrow 0 print 1 ∷ arrow 1 close 2 ∷ arrow 2 scan 2 ∷ [];
}

-- Refused, though both ends of print allow the same low sequences.
abbrev pub branching_system : System
branching_system = record {
  states = 4;
  starts = 0 ∷ [];
  steps = arrow 0 scan 2 ∷ arrow 0 scan 3 ∷ arrow 0 print 1 ∷ arrow 1 scan 2 ∷ arrow 2 scan 3 ∷ [];
}

-- The print step is unreachable from 0, and reachable where 1 is a start too.
abbrev pub unreached_system : List ℕ → System
unreached_system starts = record { states = 3; starts = starts; steps = arrow 1 print 2 ∷ arrow 2 scan 2 ∷ [] }

-- Refused: after print a tick leads to a scan, and before it there is none.
abbrev pub late_scan_system : System
late_scan_system = record {
  states = 3;
  starts = 0 ∷ [];
  steps = arrow 0 print 1 ∷ arrow 1 timer 2 ∷ arrow 2 scan 2 ∷ [];
}

-- Passes: after print a tick comes before the scan, and nobody sees it.
abbrev pub unseen_tick_system : System
unseen_tick_system = record {
  states = 3;
  starts = 0 ∷ [];
  steps = arrow 0 scan 0 ∷ arrow 0 print 1 ∷ arrow 1 timer 2 ∷ arrow 2 scan 2 ∷ [];
}
