-- The chart of a strip: where its reels begin, and how many blocks they have.
use Rattle.std.specs.Prelude.{◌≡◌, ℕ, ◌+◌, List, [], ◌∷◌, length}
use Rattle.deck.specs.Tape.{TapeSet}
use Rattle.image.specs.Strip.{reel_bytes}
use Rattle.image.specs.declared.chart.Span.{Span}

abbrev pub span : ℕ → ℕ → Span
span start blocks = record { start = start; blocks = blocks }

-- The spans of the reels of a set, the first of which begins at a place.
abbrev pub spans : ℕ → TapeSet → List Span
spans at [] = []
spans at (reel ∷ set) = span at (length reel) ∷ spans (at + length (reel_bytes reel)) set

-- The chart is that of a set.
abbrev pub Charts : TapeSet → List Span → Type 0
Charts set chart = chart ≡ spans 0 set
