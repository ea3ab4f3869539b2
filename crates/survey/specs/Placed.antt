-- Where the table of places says that a recording's records stand.
use Rattle.std.specs.Prelude.{◌≡◌, ℕ, ◌+◌, ◌-◌, ◌<◌, ◌≤◌, List, [], ◌∷◌, length, slice_index, slice_index_or}
use Rattle.deck.specs.Tape.{TapeSet, nth, look}
use Rattle.machine.specs.Machines.{no_group}
use Rattle.machine.specs.declared.machine.Group.{Group}
use Rattle.records.specs.Layouts.{attributes}
use Rattle.records.specs.declared.layout.Layout.{Layout}
use Rattle.survey.specs.Recordings.{Line, Files, lines_from, attributes_file, trailer_file}
use Rattle.survey.specs.Validity.{content, all_lines}

-- Where the lines of a file lie, and how many are through with each reel: n of them are on the reels before.
abbrev pub Filled : List ℕ → ℕ → ℕ → List Line → Type 0
Filled through reel n [] = Unit {0}
Filled through reel n (x ∷ xs) = slice_index through (reel - 1) ≡ n + length (x ∷ xs)

abbrev pub Lain : TapeSet → List ℕ → ℕ → ℕ → ℕ → List (List Line) → Type 0
Lain set through reel block n [] = Unit {0}
Lain set through reel block n (p ∷ ps) =
    ((i : ℕ) → i < length p → look set reel (block + i) ≡ nth (lines_from (n + 1) p) i)
    × (Filled through reel n p × Lain set through (reel + 1) 3 (n + length p) ps)

-- Where the files of a group lie, as the table of places tells it.
pub record Stood (set : TapeSet) (l : Layout) (f : Files) (g : Group) : Type 0 where
  pub content_is : g.content ≡ content l f
  pub trailers_are : g.trailers ≡ length f.trailers
  pub blocks_are : g.blocks ≡ length (all_lines f.parts)
  pub attributes_lie : (i : ℕ) → i < length (attributes_file f) → look set g.header.reel (g.header.block + i) ≡ nth (attributes_file f) i
  pub trailers_lie : (i : ℕ) → i < length (trailer_file f) → look set g.trailer.reel (g.trailer.block + i) ≡ nth (trailer_file f) i
  pub lines_lie : Lain set g.through g.header.reel (g.header.block + attributes l + 1) 0 f.parts
  pub first_reel : 1 ≤ g.header.reel
  pub before_it : (i : ℕ) → i < g.header.reel - 1 → slice_index g.through i ≡ 0
  pub nine : length g.through ≡ 9

-- The table of places, from a group on.
abbrev pub StoodFrom : TapeSet → Layout → List Group → ℕ → List Files → Type 0
StoodFrom tape l t c [] = Unit {0}
StoodFrom tape l t c (f ∷ gs) = Stood tape l f (slice_index_or t c no_group) × StoodFrom tape l t (c + 1) gs
