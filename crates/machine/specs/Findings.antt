-- The machine before its first block, and what it has found behind the last.
use Rattle.std.specs.Prelude.{ℕ, ◌/◌, take, drop, Some, replicate}
use Rattle.records.specs.Bands.{no_bands}
use Rattle.records.specs.Layouts.{stride}
use Rattle.records.specs.declared.header.Content.TheVariants.{One}
use Rattle.records.specs.declared.layout.Correction.TheVariants.{Corrected}
use Rattle.records.specs.declared.layout.Form.{Form}
use Rattle.records.specs.declared.layout.Form.TheVariants.{Interleaved, Sequential, Vidicon}
use Rattle.machine.specs.declared.accepted.Accepted.{Accepted}
use Rattle.machine.specs.declared.machine.Expect.TheVariants.{Directory}
use Rattle.machine.specs.declared.machine.Group.{Group}
use Rattle.machine.specs.declared.machine.Machine.{Machine}
use Rattle.machine.specs.declared.machine.Onward.TheVariants.{Header}
use Rattle.machine.specs.declared.machine.Place.{Place}

abbrev pub place_of : ℕ → ℕ → Place
place_of reel block = record { reel = reel; block = block }

-- The machine before the first block.
abbrev pub nothing_read : Group
nothing_read = record { content = One 0; trailers = 0; header = place_of 0 0; trailer = place_of 0 0; blocks = 0; through = replicate 9 0 }

abbrev pub start : ℕ → Machine
start reels = record {
  reels = reels;
  expect = Directory (Some Header);
  directory = replicate 360 0;
  layout = record { form = Sequential; mission = 1; correction = Corrected };
  group = nothing_read;
  groups = 0;
  table = replicate 5 nothing_read;
  bands = no_bands;
}

-- The lines of each band: of the last group, since all have as many.
abbrev pub lines_in : Form → ℕ → ℕ → ℕ
lines_in Interleaved bands blocks = blocks / bands
lines_in Sequential bands blocks = blocks
lines_in Vidicon bands blocks = blocks

abbrev pub lines_of : Machine → ℕ
lines_of m = lines_in m.layout.form (stride m.layout) m.group.blocks

-- What has been read: the summary, with the identification in bytes 35 to 52 of the directory, and the places.
abbrev pub accepted : Machine → Accepted
accepted m = record {
  summary = record { layout = m.layout; ident = take 18 (drop 34 m.directory); bands = m.bands; lines = lines_of m };
  places = record { groups = m.groups; table = m.table };
}
