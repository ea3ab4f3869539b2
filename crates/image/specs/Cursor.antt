-- A cursor on a strip.
use Rattle.std.specs.Prelude.{◌≡◌, ℕ, ◌+◌, ◌<◌, ◌≤◌, cond, List, [], length, drop, None, Ok, Option, nat_lt, slice_index_or}
use Rattle.deck.specs.Words.{value}
use Rattle.image.specs.Stored.{stored}
use Rattle.image.specs.Strip.{encoded, verdict, meant, place}
use Rattle.image.specs.declared.cursor.Cursor.{Cursor}
use Rattle.deck.specs.declared.Kind.{Kind}

-- The block whose kind word lies at a place, if there is one.
abbrev pub stored_at : List ℕ → ℕ → Option (Kind ℕ)
stored_at xs at = cond (nat_lt (length xs) (at + 4)) None (stored (value (drop at xs)))

-- The bytes are a strip.
pub record Reads (xs : List ℕ) : Type 0 where
  pub judged : verdict xs ≡ Ok (meant xs)
  pub spells : encoded (meant xs) ≡ xs

-- The cursor is on a block of the strip or at the end of one of its reels.
pub record Stands (xs : List ℕ) (c : Cursor) : Type 0 where
  pub on_reel : c.reel < length (meant xs)
  pub on_block : c.block ≤ length (slice_index_or (meant xs) c.reel [])
  pub here : c.at ≡ place (meant xs) c.reel c.block
