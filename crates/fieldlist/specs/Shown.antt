-- Bytes as text.
use Rattle.std.specs.Prelude.{ℕ, ◌/◌, ◌%◌, Bool, false, cond, not, ◌&&◌, List, [], ◌∷◌, ◌++◌, ◌==◌, nat_le}
use Rattle.std.specs.Fmt.{digit_glyph}

-- A printable character of ASCII that is neither the quote nor the backslash.
abbrev pub plain : ℕ → Bool
plain b = nat_le 32 b && (nat_le b 126 && (not (b == 34) && not (b == 92)))

-- Such a byte is shown as it is, any other by a backslash and its two hexadecimal digits.
abbrev pub shown_byte : ℕ → List ℕ
shown_byte b = cond (plain b) (b ∷ []) (92 ∷ digit_glyph false (b / 16) ∷ digit_glyph false (b % 16) ∷ [])

abbrev pub shown : List ℕ → List ℕ
shown [] = []
shown (b ∷ bs) = shown_byte b ++ shown bs

-- Some bytes in quotes.
abbrev pub quoted : List ℕ → List ℕ
quoted bs = 34 ∷ (shown bs ++ (34 ∷ []))
