-- The listings of a strip.
use Rattle.std.specs.Prelude.{ℕ, cond, List, ◌++◌, length, Ok, Err, codes, decimal, nat_lt}
use Rattle.deck.specs.Tape.{TapeSet}
use Rattle.image.specs.Stored.{Verdict}
use Rattle.image.specs.Strip.{verdict}
use Rattle.listing.specs.Blocks.{blocks_text}
use Rattle.listing.specs.Tapes.{tape_text}

-- The line of a refused image: the refusal's number and place.
abbrev pub refusal_text : ℕ → ℕ → List ℕ
refusal_text number offset = codes "IMAGE " ++ (decimal number ++ (codes " " ++ (decimal offset ++ codes "\n")))

-- What an image is judged to be: its set, which is written in some way, or its refusal.
abbrev pub verdict_text : (TapeSet → List ℕ) → Verdict TapeSet → List ℕ
verdict_text text (Ok set) = text set
verdict_text text (Err (number, offset)) = refusal_text number offset

abbrev pub strip_text : List ℕ → List ℕ
strip_text bytes = verdict_text blocks_text (verdict bytes)

-- A strip as a tape set, if it has at most 65,536 bytes.
abbrev pub strip_tape_text : List ℕ → List ℕ
strip_tape_text bytes = cond (nat_lt 65536 (length bytes)) (codes "LONG\n") (verdict_text tape_text (verdict bytes))
