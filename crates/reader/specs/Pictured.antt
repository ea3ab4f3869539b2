-- Lines and sheets of an accepted set, told by its picture and its sheets.
use Rattle.std.specs.Prelude.{ℕ, ◌-◌, cond, ◌&&◌, List, [], ◌∷◌, Some, None, Ok, Err, Option, ◌==◌, nat_le, nat_lt, slice_index_or}
use Rattle.deck.specs.Tape.{from_one}
use Rattle.records.specs.declared.layout.Sensor.{Sensor}
use Rattle.records.specs.declared.layout.Sensor.TheVariants.{Mss, Rbv}
use Rattle.survey.specs.Pictures.{Picture, Sheets}
use Rattle.survey.specs.Recordings.{Body}
use Rattle.reader.specs.Bodies.{Delivery}
use Rattle.reader.specs.Finding.{index_of}

-- The length of a body.
abbrev pub body_size : Sensor → ℕ
body_size Mss = 3590
body_size Rbv = 5382

-- A line: its body, or 46 where it cannot be read.
abbrev pub line_or : Option Body → Delivery
line_or (Some body) = Ok body
line_or None = Err 46

-- Line n of the band at a place of the picture: 42, 43, 45 and 46 in this order.
abbrev pub row_line : Picture → Option ℕ → ℕ → ℕ → Delivery
row_line p None n room = Err 42
row_line p (Some i) n room =
    cond (nat_le 1 n && nat_le n p.lines)
    (cond (nat_lt room (body_size p.sensor)) (Err 45) (line_or (slice_index_or (slice_index_or p.rows i []) (n - 1) None)))
    (Err 43)

abbrev pub pictured_line : Picture → ℕ → ℕ → ℕ → Delivery
pictured_line p band n room = row_line p (index_of band p.codes 0) n room

-- The sheets of a kind: 1 the header, 2 the ancillary, 3 the annotation, 4 the trailer records.
abbrev pub of_kind : Sheets → ℕ → List Body
of_kind s kind =
    cond (kind == 1) (s.header ∷ [])
    (cond (kind == 2) s.ancillaries
    (cond (kind == 3) s.annotations
    (cond (kind == 4) s.trailers [])))

abbrev pub no_sheets : Sheets
no_sheets = record { header = []; ancillaries = []; annotations = []; trailers = [] }

-- A sheet of the band at a place: 42, 44 and 45 in this order.
abbrev pub sheet_or : Option Body → ℕ → ℕ → Delivery
sheet_or None size room = Err 44
sheet_or (Some body) size room = cond (nat_lt room size) (Err 45) (Ok body)

abbrev pub band_sheet : Picture → List Sheets → Option ℕ → ℕ → ℕ → ℕ → Delivery
band_sheet p s None kind index room = Err 42
band_sheet p s (Some i) kind index room = sheet_or (from_one (of_kind (slice_index_or s i no_sheets) kind) index) (body_size p.sensor) room

abbrev pub pictured_sheet : Picture → List Sheets → ℕ → ℕ → ℕ → ℕ → Delivery
pictured_sheet p s band kind index room = band_sheet p s (index_of band p.codes 0) kind index room

-- The identification.
abbrev pub pictured_ident : Picture → ℕ → Delivery
pictured_ident p room = cond (nat_lt room 18) (Err 45) (Ok p.ident)
