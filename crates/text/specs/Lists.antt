-- Lent lists beside the store: least lengths, and what stands past them.
-- Document 01, "The operations, in the order of the work".
use Rattle.std.specs.Prelude.{List, ◌≡◌, ℕ, length, drop}

-- "places [..] of any list past its stated least length, keep their old contents"
pub record Past (least : ℕ) (entry exit : List ℕ) : Type 0 where
  pub same_length : length exit ≡ length entry
  pub kept : drop least exit ≡ drop least entry
