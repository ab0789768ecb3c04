-- The bytes that texts and pages are made of, by their names, and the kinds of bytes.
-- Document 01, "The text":
-- "the kind of each byte [..] (0 other, 1 digit, 2 small letter, 3 capital, 4 comma, 5 line end)".
use Rattle.std.specs.Prelude.{Bool, cond, ◌&&◌, ℕ, leb, eqb}

-- ---- bytes

-- "Fields [..] parted by commas", "each line ended by byte 10"
abbrev pub byte_comma : ℕ
byte_comma = 44

abbrev pub byte_line_end : ℕ
byte_line_end = 10

-- the first and the last of the digits, of the small letters and of the capitals: `0` and `9`, `a` and `z`, `A` and
-- `Z`
abbrev pub byte_zero : ℕ
byte_zero = 48

abbrev pub byte_nine : ℕ
byte_nine = 57

abbrev pub byte_small_a : ℕ
byte_small_a = 97

abbrev pub byte_small_z : ℕ
byte_small_z = 122

abbrev pub byte_a : ℕ
byte_a = 65

abbrev pub byte_z : ℕ
byte_z = 90

-- the letters of a text's lines: `M`, `A` (above), `I`, `S`, `E`
abbrev pub byte_m : ℕ
byte_m = 77

abbrev pub byte_i : ℕ
byte_i = 73

abbrev pub byte_s : ℕ
byte_s = 83

abbrev pub byte_e : ℕ
byte_e = 69

-- "Level is L, D or H": low, release, high
abbrev pub byte_l : ℕ
byte_l = 76

abbrev pub byte_d : ℕ
byte_d = 68

abbrev pub byte_h : ℕ
byte_h = 72

-- "Level T [..] marks a silent action" (document 02, (vii))
abbrev pub byte_t : ℕ
byte_t = 84

-- the letters of a page's other lines: `V`, `C`, `R`, `W`, `B`, `N`, `F`; "distance `-` if unreachable"
abbrev pub byte_v : ℕ
byte_v = 86

abbrev pub byte_c : ℕ
byte_c = 67

abbrev pub byte_r : ℕ
byte_r = 82

abbrev pub byte_w : ℕ
byte_w = 87

abbrev pub byte_b : ℕ
byte_b = 66

abbrev pub byte_n : ℕ
byte_n = 78

abbrev pub byte_f : ℕ
byte_f = 70

abbrev pub byte_dash : ℕ
byte_dash = 45

-- "padded with blanks" (document 02, (ii))
abbrev pub byte_blank : ℕ
byte_blank = 32

-- ---- kinds

abbrev pub other : ℕ
other = 0

abbrev pub digit : ℕ
digit = 1

abbrev pub small_letter : ℕ
small_letter = 2

abbrev pub capital : ℕ
capital = 3

abbrev pub comma : ℕ
comma = 4

abbrev pub line_end : ℕ
line_end = 5

-- least ≤ x ≤ most
abbrev pub between? : ℕ → ℕ → ℕ → Bool
between? least most x = leb least x && leb x most

-- the kind of a byte, by its ranges: 0 to 9, a to z, A to Z, the comma and the line end
-- Document 02, (iv): "The kind of a byte is to be decided by its ranges".
unfoldable pub kind_of : ℕ → ℕ
kind_of b =
    cond (between? byte_zero byte_nine b) digit
    (cond (between? byte_small_a byte_small_z b) small_letter
    (cond (between? byte_a byte_z b) capital
    (cond (eqb b byte_comma) comma
    (cond (eqb b byte_line_end) line_end other))))
