-- Words of four bytes, most significant first.
use Rattle.std.specs.Prelude.{ℕ, ◌+◌, ◌*◌, ◌/◌, ◌%◌, List, [], ◌∷◌, slice_index}

-- The four bytes that spell a number.
abbrev pub word : ℕ → List ℕ
word n = (n / 16777216 % 256) ∷ (n / 65536 % 256) ∷ (n / 256 % 256) ∷ (n % 256) ∷ []

-- The number that the first four bytes spell.
abbrev pub value : List ℕ → ℕ
value xs = slice_index xs 0 * 16777216 + slice_index xs 1 * 65536 + slice_index xs 2 * 256 + slice_index xs 3
