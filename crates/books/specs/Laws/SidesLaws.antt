-- The number of the entry for the opener's state and the other's, and what it says of that entry.
-- Document 02, (v). Assumes nothing.
use Rattle.std.specs.Prelude.{List, ◌≡◌, ℕ}
use Rattle.std.proofs.Common.{sym, ap, subst}
use Rattle.lts.specs.Book.{LowerEntry}
use Rattle.text.specs.Limits.{pair_place}
use Rattle.books.specs.Books.{book_of}
use Rattle.books.specs.declared.entry.Side.{Side}
use Rattle.books.specs.declared.entry.Side.TheVariants.{First, Second}
use Rattle.books.specs.Inner.Sides.{BySide, side_place, LowerNumber}

pub side_place_first : {side : Side} (t u : ℕ) → side ≡ First → side_place side t u ≡ pair_place t u
side_place_first t u e = ap (λ (s : Side). side_place s t u) e

pub side_place-second : {side : Side} (t u : ℕ) → side ≡ Second → side_place side t u ≡ pair_place u t
side_place-second t u e = ap (λ (s : Side). side_place s t u) e

-- That entry is of lower depth if the one of its number is.
module _ (book : List ℕ) (depth : ℕ) (side : Side) (t u : ℕ) {k : ℕ} (number_is : k ≡ side_place side t u) where
  pub lower_of_number : LowerNumber book depth k → BySide side (LowerEntry (book_of book) depth) t u
  lower_of_number h = go side (subst (LowerNumber book depth) number_is h)
    where
      go : (s : Side) → LowerNumber book depth (side_place s t u) → BySide s (LowerEntry (book_of book) depth) t u
      go First h = record { present = h.present; depth_lt = h.depth_lt }
      go Second h = record { present = h.present; depth_lt = h.depth_lt }

  pub number_of_lower : BySide side (LowerEntry (book_of book) depth) t u → LowerNumber book depth k
  number_of_lower h = subst (LowerNumber book depth) (sym number_is) (go side h)
    where
      go : (s : Side) → BySide s (LowerEntry (book_of book) depth) t u → LowerNumber book depth (side_place s t u)
      go First h = record { present = h.present; depth_lt = h.depth_lt }
      go Second h = record { present = h.present; depth_lt = h.depth_lt }
