-- The set that a turner shows.
use Rattle.std.specs.Prelude.{ℕ, ◌+◌, ◌-◌, ◌/◌, ◌%◌, ◌≤◌, Bool, true, false, cond, [], ◌∷◌, map, replicate, Some, None, Ok, Err, Option, Result, nat_le}
use Rattle.deck.specs.Tape.{Block, written, mark, bad, Reel, TapeSet}
use Rattle.deck.specs.declared.Kind.{Kind}
use Rattle.deck.specs.declared.Kind.TheVariants as kinds
use Rattle.deck.specs.declared.Short.{Short}
use Rattle.records.specs.Layouts.{ancillaries, stride}
use Rattle.machine.specs.Findings.{place_of}
use Rattle.machine.specs.declared.accepted.Accepted.{Accepted}
use Rattle.machine.specs.declared.machine.Group.{Group}
use Rattle.machine.specs.declared.machine.Place.{Place}
use Rattle.survey.specs.Recordings.{Body, Line, record_of}
use Rattle.survey.specs.Surveys.{surveyed}
use Rattle.reader.specs.Bodies.{Delivery, body_at}
use Rattle.reader.specs.Finding.{band_file, line_spot, spot}
use Rattle.reader.specs.declared.places.BandFile.{BandFile}
use Rattle.reader.specs.declared.places.Spot.{Spot}
use Rattle.turner.specs.Changes.{code_at, changed}
use Rattle.turner.specs.Pieces.{pieces}
use Rattle.turner.specs.Bounds.{first_group}
use Rattle.turner.specs.Shapes.{Plan, layout_of, size, remembered}
use Rattle.turner.specs.declared.delivery.Found.{Found}
use Rattle.turner.specs.declared.delivery.Found.TheVariants.{Blank, Borne}
use Rattle.turner.specs.declared.piece.Piece.{Piece}
use Rattle.turner.specs.declared.piece.Piece.TheVariants.{Mark, Directory, Header, Attribute, Image, Trailer}
use Rattle.turner.specs.declared.shape.Order.{Order}
use Rattle.turner.specs.declared.shape.Order.TheVariants.{ByLine, ByBand}
use Rattle.turner.specs.declared.source.Origin.{Origin}
use Rattle.turner.specs.declared.source.Origin.TheVariants.{Zero, Below, Nowhere}
use Rattle.turner.specs.declared.source.Source.{Source}

-- Record n of those that follow one another from a place on; attribute record n of a group, the header being the first, and its trailer n.
abbrev pub record_spot : Place → ℕ → Spot
record_spot p n = spot p.reel (p.block + (n - 1))

abbrev pub attribute_spot : Group → ℕ → Spot
attribute_spot g n = record_spot g.header n

abbrev pub trailer_spot : Group → ℕ → Spot
trailer_spot g n = record_spot g.trailer n

-- Attribute records behind the header are ancillaries first, then annotations.
abbrev pub attribute_type : Plan → ℕ → ℕ
attribute_type t n = cond (nat_le n (1 + ancillaries (layout_of t))) 36 219

-- The band and the line of image block k of the group at a place. By line, the bands take turns; by band, each group has its own.
abbrev pub code_of : Order → Accepted → ℕ → ℕ → ℕ
code_of ByLine a i k = 4 + (k - 1) % stride a.summary.layout
code_of ByBand a i k = code_at a i

abbrev pub line_of : Order → Accepted → ℕ → ℕ
line_of ByLine a k = (k - 1) / stride a.summary.layout + 1
line_of ByBand a k = k

-- A line comes from its block below, if it has a place. A band that is not present has zeros.
abbrev pub origin_at : Option Spot → Origin
origin_at None = Nowhere
origin_at (Some s) = Below s

abbrev pub line_origin : Plan → Option BandFile → ℕ → Origin
line_origin t None n = Zero
line_origin t (Some f) n = origin_at (line_spot f (layout_of t) n)

-- What a record that is shown is made of: its type, its number, its length, and where its body comes from. It may have any length; a `Source` is
-- one that has a record's.
pub record Recipe : Type 0 where
  pub kind : ℕ
  pub number : ℕ
  pub size : ℕ
  pub origin : Origin

abbrev pub recipe_of : Source → Recipe
recipe_of s = record { kind = s.kind; number = s.number; size = s.size; origin = s.origin }

abbrev pub recipe : Option Source → Option Recipe
recipe None = None
recipe (Some s) = Some (recipe_of s)

-- A record of the length of every record but a directory.
abbrev pub sheet : Plan → ℕ → ℕ → Origin → Recipe
sheet t kind n origin = record { kind = kind; number = n; size = size t; origin = origin }

-- The recipe of each piece. A mark has none.
abbrev pub source : Plan → Piece → Option Recipe
source t Mark = None
source t Directory = Some record { kind = 9; number = 1; size = 360; origin = Below (spot 1 1) }
source t (Header i) = Some (sheet t 18 1 (Below (attribute_spot (first_group t.accepted) 1)))
source t (Attribute n) = Some (sheet t (attribute_type t n) n (Below (attribute_spot (first_group t.accepted) n)))
source t (Image i k) = Some (sheet t 237 k (line_origin t (band_file t.accepted (code_of t.order t.accepted i k)) (line_of t.order t.accepted k)))
source t (Trailer n) = Some (sheet t 246 n (Below (trailer_spot (first_group t.accepted) n)))

-- A body, or none where the place below bears no record of that length.
abbrev pub readable : Delivery → Line
readable (Ok body) = Some body
readable (Err n) = None

abbrev pub body_from : TapeSet → ℕ → Origin → Line
body_from set size Zero = Some (replicate (size - 6) 0)
body_from set size (Below s) = readable (body_at set (Some s) size)
body_from set size Nowhere = None

-- A record with a fresh number. What cannot be read shows as bad.
abbrev pub record_block : (Body → Body) → ℕ → ℕ → Line → Block
record_block f kind n None = bad
record_block f kind n (Some body) = written (record_of n kind (f body))

abbrev pub source_block : (Body → Body) → TapeSet → Option Recipe → Block
source_block f set None = mark
source_block f set (Some s) = record_block f s.kind s.number (body_from set s.size s.origin)

abbrev pub piece_block : Plan → TapeSet → Piece → Block
piece_block t set p = source_block (changed t p) set (source t p)

-- The reel that is shown, and the set: that reel, or what is below where nothing was turned.
abbrev pub shown_reel : Plan → TapeSet → Reel
shown_reel t set = map (piece_block t set) (pieces t)

abbrev pub shown : Option Plan → TapeSet → TapeSet
shown None set = set
shown (Some t) set = shown_reel t set ∷ []

-- A set turned: shown by what a survey of it finds.
abbrev pub turned : TapeSet → TapeSet
turned set = shown (remembered (surveyed set)) set

-- Where a record of some length stands, if the place below bears one.
abbrev pub bears : Delivery → Bool
bears (Ok body) = true
bears (Err n) = false

abbrev pub borne_at : TapeSet → ℕ → Spot → Option Place
borne_at set size s = cond (bears (body_at set (Some s) size)) (Some (place_of s.reel s.block)) None

-- The record of some length that an origin gives: one of zeros, or one at the place that bears it.
abbrev pub borne : Option Place → Option Found
borne None = None
borne (Some at) = Some (Borne at)

abbrev pub found : TapeSet → ℕ → Origin → Option Found
found set size Zero = Some Blank
found set size (Below s) = borne (borne_at set size s)
found set size Nowhere = None

-- A record has its six identification bytes, and no more bytes than a tape's longest.
abbrev pub Sized : Option Recipe → Type 0
Sized None = Unit {0}
Sized (Some s) = (6 ≤ s.size) × (s.size ≤ 5388)

-- The kind of block that a recipe gives.
abbrev pub found_kind : ℕ → Option Found → Kind ℕ
found_kind size (Some found) = kinds.Record size
found_kind size None = kinds.Bad

abbrev pub shown_kind : TapeSet → Option Recipe → Kind ℕ
shown_kind set None = kinds.Mark
shown_kind set (Some s) = found_kind s.size (found set s.size s.origin)

-- What a fetch answers of a block that is there.
abbrev pub there : Result (Kind ℕ) Short → Result (Option (Kind ℕ)) Short
there (Ok kind) = Ok (Some kind)
there (Err e) = Err e
