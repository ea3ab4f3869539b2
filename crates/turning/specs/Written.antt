-- The parts of a strip as a deck's answers give them.
use Rattle.std.specs.Prelude.{ℕ, List, ◌++◌, length, Some, None, vec_items, Option, Vec}
use Rattle.std.specs.declared.alloc.Global.{Global}
use Rattle.deck.specs.Tape.{Block}
use Rattle.deck.specs.Words.{word}
use Rattle.image.specs.Strip.{block_bytes}

-- A record between two words of its length.
abbrev pub record_bytes : List ℕ → List ℕ
record_bytes bytes = word (length bytes) ++ (bytes ++ word (length bytes))

-- The bytes of a block, if there is one.
abbrev pub block_at : Option Block → Option (List ℕ)
block_at None = None
block_at (Some block) = Some (block_bytes block)

abbrev pub told_bytes : Option (Vec ℕ Global) → Option (List ℕ)
told_bytes None = None
told_bytes (Some bytes) = Some (vec_items bytes)
