-- Where the lines and sheets of an accepted set stand.
use Rattle.std.specs.Prelude.{ℕ, ◌+◌, ◌-◌, ◌*◌, cond, ◌&&◌, List, [], ◌∷◌, take, Some, None, Ok, Err, Option, Result, ◌==◌, nat_le, slice_index_or}
use Rattle.records.specs.Layouts.{ancillaries, annotations, attributes, stride}
use Rattle.records.specs.declared.layout.Form.{Form}
use Rattle.records.specs.declared.layout.Form.TheVariants.{Interleaved, Sequential, Vidicon}
use Rattle.records.specs.declared.layout.Layout.{Layout}
use Rattle.machine.specs.Machines.{no_group}
use Rattle.machine.specs.declared.accepted.Accepted.{Accepted}
use Rattle.machine.specs.declared.machine.Group.{Group}
use Rattle.reader.specs.declared.places.BandFile.{BandFile}
use Rattle.reader.specs.declared.places.SheetKind.{SheetKind}
use Rattle.reader.specs.declared.places.SheetKind.TheVariants.{Header, Ancillary, Annotation, Trailer}
use Rattle.reader.specs.declared.places.Spot.{Spot}
use Rattle.reader.specs.declared.refusal.CallerFault.{CallerFault}
use Rattle.reader.specs.declared.refusal.CallerFault.TheVariants.{Sheet}

-- At which place a code stands in a list whose first place is i.
abbrev pub index_of : ℕ → List ℕ → ℕ → Option ℕ
index_of code [] i = None
index_of code (c ∷ cs) i = cond (c == code) (Some i) (index_of code cs (i + 1))

-- The codes of the bands present.
abbrev pub codes : Accepted → List ℕ
codes a = take a.summary.bands.count a.summary.bands.codes

-- The image file of the band at a place. Interleaved, the blocks of a line stand in the order of the bands 4 to 8.
abbrev pub file_in : Form → Accepted → ℕ → ℕ → BandFile
file_in Interleaved a code i = record { group = slice_index_or a.places.table 0 no_group; stride = stride a.summary.layout; first = code - 3 }
file_in Sequential a code i = record { group = slice_index_or a.places.table i no_group; stride = 1; first = 1 }
file_in Vidicon a code i = record { group = slice_index_or a.places.table 0 no_group; stride = 1; first = 1 }

abbrev pub file_at : Accepted → ℕ → Option ℕ → Option BandFile
file_at a code None = None
file_at a code (Some i) = Some (file_in a.summary.layout.form a code i)

-- The image file of a band, if the band is present.
abbrev pub band_file : Accepted → ℕ → Option BandFile
band_file a code = file_at a code (index_of code (codes a) 0)

abbrev pub spot : ℕ → ℕ → Spot
spot reel block = record { reel = reel; block = block }

-- On which reel image block k stands, and which of that reel's image blocks it is, by how many stand on each reel and those before it.
abbrev pub image_on : ℕ → ℕ → ℕ → List ℕ → Option Spot
image_on k before reel [] = None
image_on k before reel (t ∷ ts) = cond (nat_le k t) (Some (spot reel (k - before))) (image_on k t (reel + 1) ts)

-- The file's first image block stands behind the mark of its attributes file; where it goes on, behind the mark of the reel's directory.
abbrev pub image_spot : Group → Layout → Option Spot → Option Spot
image_spot g l None = None
image_spot g l (Some s) = Some (spot s.reel (cond (s.reel == g.header.reel) (g.header.block + attributes l + s.block) (2 + s.block)))

-- Line n of a band.
abbrev pub line_spot : BandFile → Layout → ℕ → Option Spot
line_spot f l n = image_spot f.group l (image_on ((n - 1) * f.stride + f.first) 0 1 f.group.through)

-- The kinds of sheets by their numbers. No other number is one.
abbrev pub sheet_kind : ℕ → Result SheetKind CallerFault
sheet_kind kind = cond (kind == 1) (Ok Header) (cond (kind == 2) (Ok Ancillary) (cond (kind == 3) (Ok Annotation) (cond (kind == 4) (Ok Trailer) (Err Sheet))))

-- The sheets of a kind: 1 the header, 2 the ancillary, 3 the annotation, 4 the trailer records. Where the first one stands, and how many there
-- are.
abbrev pub shelf : Group → Layout → ℕ → Option (Spot × ℕ)
shelf g l kind =
    cond (kind == 1) (Some (spot g.header.reel g.header.block, 1))
    (cond (kind == 2) (Some (spot g.header.reel (g.header.block + 1), ancillaries l))
    (cond (kind == 3) (Some (spot g.header.reel (g.header.block + 1 + ancillaries l), annotations l.correction))
    (cond (kind == 4) (Some (spot g.trailer.reel g.trailer.block, g.trailers)) None)))

-- The sheet of an index, from 1.
abbrev pub sheet_on : Option (Spot × ℕ) → ℕ → Option Spot
sheet_on None index = None
sheet_on (Some s) index = cond (nat_le 1 index && nat_le index s.1) (Some (spot s.0.reel (s.0.block + (index - 1)))) None

abbrev pub sheet_spot : Group → Layout → ℕ → ℕ → Option Spot
sheet_spot g l kind index = sheet_on (shelf g l kind) index
