-- What a deck answers, and what it writes, as functions of the block that stands at the place asked for.
use Rattle.std.specs.Prelude.{ℕ, cond, List, ◌++◌, length, drop, Some, None, Ok, Err, Option, Result, nat_lt}
use Rattle.deck.specs.Tape.{Block, written, mark, bad}
use Rattle.deck.specs.declared.Kind.{Kind}
use Rattle.deck.specs.declared.Kind.TheVariants.{Record, Mark, Bad}
use Rattle.deck.specs.declared.Short.{Short}

-- The kind of a block, a record with its length, if there is a block.
abbrev pub kind_of : Option Block → Option (Kind ℕ)
kind_of None = None
kind_of (Some (written bytes)) = Some (Record (length bytes))
kind_of (Some mark) = Some Mark
kind_of (Some bad) = Some Bad

-- What a fetch answers into a buffer of some length: the kind, but "short" for a record that does not fit.
abbrev pub fetched : Option Block → ℕ → Result (Option (Kind ℕ)) Short
fetched None room = Ok None
fetched (Some (written bytes)) room = cond (nat_lt room (length bytes)) (Err record {}) (Ok (Some (Record (length bytes))))
fetched (Some mark) room = Ok (Some Mark)
fetched (Some bad) room = Ok (Some Bad)

-- The buffer after a fetch: a record that fits stands at its front, and every other byte is as it was.
abbrev pub filled : Option Block → List ℕ → List ℕ
filled None buffer = buffer
filled (Some (written bytes)) buffer = cond (nat_lt (length buffer) (length bytes)) buffer (bytes ++ drop (length bytes) buffer)
filled (Some mark) buffer = buffer
filled (Some bad) buffer = buffer
