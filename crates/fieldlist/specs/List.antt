-- What a reader's records are told from.
use Rattle.std.specs.Prelude.{Option}
use Rattle.deck.specs.Tape.{TapeSet}
use Rattle.machine.specs.declared.accepted.Accepted.{Accepted}

-- A set, and what a reader remembers of it.
pub record Remembered : Type 0 where
  pub set : TapeSet
  pub accepted : Option Accepted
