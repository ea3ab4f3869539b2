-- What the survey says of a set, in the layout's words.
use Rattle.std.specs.Prelude.{◌≡◌, ℕ, ◌<◌, ◌≤◌, length, take, drop, Ok, Err, Result}
use Rattle.deck.specs.Tape.{TapeSet, look}
use Rattle.machine.specs.declared.accepted.Accepted.{Accepted}
use Rattle.survey.specs.Pictures.{all_codes}
use Rattle.survey.specs.Placed.{StoodFrom}
use Rattle.survey.specs.Recordings.{Recording, written_as}
use Rattle.survey.specs.Surveys.{Fault, surveyed}
use Rattle.survey.specs.Validity.{Valid}

-- The reel and the block of a fault.
abbrev pub fault_reel : Fault → ℕ
fault_reel f = f.2

abbrev pub fault_block : Fault → ℕ
fault_block f = f.3

-- Two sets have the same blocks up to and including a place: all of the reels before, and those of its reel that do not stand behind it.
pub record SameThrough (reel block : ℕ) (a b : TapeSet) : Type 0 where
  pub before : (r k : ℕ) → r < reel → look a r k ≡ look b r k
  pub upon : (k : ℕ) → k ≤ block → look a reel k ≡ look b reel k

-- An accepted set: it is written from a valid recording, and from that one only; the summary is the recording's, and the table of places leads to
-- every record of its groups.
pub record Obeys (a : Accepted) (set : TapeSet) : Type 0 where
  pub recording : Recording
  pub valid : Valid recording
  pub is : written_as recording ≡ set
  pub only : (r : Recording) → Valid r → written_as r ≡ set → r ≡ recording
  pub layout : a.summary.layout ≡ recording.layout
  pub ident : a.summary.ident ≡ take 18 (drop 28 recording.directory)
  pub codes : take a.summary.bands.count a.summary.bands.codes ≡ all_codes recording.layout recording.groups
  pub lines : a.summary.lines ≡ recording.lines
  pub groups : a.places.groups ≡ length recording.groups
  pub places : StoodFrom set recording.layout a.places.table 0 recording.groups

-- A set with a fault: no valid recording is written as it. The fault is final: a set with as many reels and the same blocks up to and including
-- its place has the same fault.
pub record Breaks (f : Fault) (set : TapeSet) : Type 0 where
  pub not_written : (r : Recording) → Valid r → written_as r ≡ set → ⊥
  pub final : (other : TapeSet) → length set ≡ length other → SameThrough (fault_reel f) (fault_block f) set other → surveyed other ≡ Err f

-- What a survey says is right.
abbrev pub Judged : Result Accepted Fault → TapeSet → Type 0
Judged (Ok a) set = Obeys a set
Judged (Err f) set = Breaks f set
