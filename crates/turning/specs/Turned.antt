-- What becomes of a strip that is turned.
use Rattle.std.specs.Prelude.{ℕ, List, Some, None, Ok, Err, vec_items, Option, Result, Vec}
use Rattle.std.specs.declared.alloc.Global.{Global}
use Rattle.deck.specs.Tape.{TapeSet}
use Rattle.image.specs.Stored.{Verdict, number}
use Rattle.image.specs.Strip.{encoded, verdict}
use Rattle.listing.specs.Strips.{refusal_text}
use Rattle.listing.specs.Tapes.{fault_text}
use Rattle.machine.specs.declared.accepted.Accepted.{Accepted}
use Rattle.survey.specs.Surveys.{Fault, told_fault, surveyed}
use Rattle.turner.specs.Shown.{turned}
use Rattle.turning.specs.declared.turned.TurnError.{TurnError}
use Rattle.turning.specs.declared.turned.TurnError.TheVariants.{Image, Tape, Memory}

-- The line of what is refused. Where memory is short there is none.
abbrev pub line_of : TurnError → Option (List ℕ)
line_of (Image r) = Some (refusal_text (number r.cause) r.offset)
line_of (Tape f) = Some (fault_text (told_fault f))
line_of (Memory e) = None

-- A strip's bytes, or a line of text. Nothing is told where memory is short.
abbrev pub refused : Option (List ℕ) → Option (Result (List ℕ) (List ℕ))
refused None = None
refused (Some line) = Some (Err line)

abbrev pub told_turned : Result (Vec ℕ Global) TurnError → Option (Result (List ℕ) (List ℕ))
told_turned (Ok bytes) = Some (Ok (vec_items bytes))
told_turned (Err e) = refused (line_of e)

-- An accepted set is turned and written as a strip; a fault is told.
abbrev pub judged_turned : TapeSet → Result Accepted Fault → Result (List ℕ) (List ℕ)
judged_turned set (Ok a) = Ok (encoded (turned set))
judged_turned set (Err f) = Err (fault_text f)

abbrev pub set_turned : TapeSet → Result (List ℕ) (List ℕ)
set_turned set = judged_turned set (surveyed set)

-- A strip is so treated as its set is, and a refused one is told.
abbrev pub verdict_turned : Verdict TapeSet → Result (List ℕ) (List ℕ)
verdict_turned (Ok set) = set_turned set
verdict_turned (Err (number, offset)) = Err (refusal_text number offset)

abbrev pub strip_turned : List ℕ → Result (List ℕ) (List ℕ)
strip_turned bytes = verdict_turned (verdict bytes)
