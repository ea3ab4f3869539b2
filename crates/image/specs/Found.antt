-- The block that lies somewhere in an image.
use Rattle.std.specs.Prelude.{ℕ, ◌+◌, cond, List, length, take, drop, Some, None, Option, nat_lt}
use Rattle.std.specs.Borrow.{Bor}
use Rattle.deck.specs.Tape.{Block, written, mark, bad}
use Rattle.deck.specs.Words.{value}
use Rattle.deck.specs.declared.Kind.{Kind}
use Rattle.deck.specs.declared.Kind.TheVariants.{Record, Mark, Bad}
use Rattle.image.specs.Cursor.{stored_at}

-- The block that is lent, if one is.
abbrev pub seen : Option (Kind (Bor (List ℕ))) → Option Block
seen None = None
seen (Some (Record r)) = Some (written r.now)
seen (Some Mark) = Some mark
seen (Some Bad) = Some bad

-- A stored block whose bytes begin at a place, if they all lie in the image.
abbrev pub lent : List ℕ → ℕ → Kind ℕ → Option Block
lent xs at (Record n) = cond (nat_lt (length xs) (at + n)) None (Some (written (take n (drop at xs))))
lent xs at Mark = Some mark
lent xs at Bad = Some bad

abbrev pub lent_if : List ℕ → ℕ → Option (Kind ℕ) → Option Block
lent_if xs at None = None
lent_if xs at (Some s) = lent xs at s

-- The block of a strip whose kind word lies at a place: a record's bytes follow the word.
abbrev pub block_at_word : List ℕ → ℕ → Option Block
block_at_word xs at = lent_if xs (at + 4) (stored_at xs at)

-- The block of an indexed image whose entry lies at a place: an offset and a kind word.
abbrev pub block_listed : List ℕ → ℕ → Option Block
block_listed xs at = lent_if xs (value (drop at xs)) (stored_at xs (at + 4))

-- What is found at a place, if there is one to look at.
abbrev pub found_where : List ℕ → Option ℕ → Option Block
found_where xs None = None
found_where xs (Some at) = block_at_word xs at
