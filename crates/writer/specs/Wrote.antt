-- Bytes written one after the other into a list.
-- Document 01, "The page": "Writing a line goes on from where the last one ended."
use Rattle.std.specs.Prelude.{List, ◌≡◌, ℕ, ◌+◌, length}
use Rattle.std.proofs.lemmas.List.Edits.{sets}

-- a writer that began at place `at` of `entry` put `bytes` there, and left `exit` and the next place
pub record Wrote (entry : List ℕ) (at : ℕ) (bytes exit : List ℕ) (next : ℕ) : Type 0 where
  pub list : exit ≡ sets entry at bytes
  pub place : next ≡ at + length bytes
