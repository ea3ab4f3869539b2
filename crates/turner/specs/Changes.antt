-- What is written into a directory and a header to tell the order that is shown. Bytes are those of the record, counted from 1; a body begins
-- with the seventh.
use Rattle.std.specs.Prelude.{ℕ, ◌+◌, ◌-◌, ◌%◌, List, [], ◌∷◌, slice_index, slice_set}
use Rattle.records.specs.Bands.{weight}
use Rattle.records.specs.Layouts.{stride}
use Rattle.machine.specs.declared.accepted.Accepted.{Accepted}
use Rattle.survey.specs.Recordings.{Body}
use Rattle.reader.specs.Finding.{codes}
use Rattle.turner.specs.Shapes.{Plan}
use Rattle.turner.specs.declared.piece.Piece.{Piece}
use Rattle.turner.specs.declared.piece.Piece.TheVariants.{Mark, Directory, Header, Attribute, Image, Trailer}
use Rattle.turner.specs.declared.shape.Order.{Order}
use Rattle.turner.specs.declared.shape.Order.TheVariants.{ByLine, ByBand}

-- A body with another value in a byte.
abbrev pub put : Body → ℕ → ℕ → Body
put body byte value = slice_set body (byte - 7) value

-- The byte that tells the order: 255 by line, 0 by band.
abbrev pub order_byte : Order → ℕ
order_byte ByLine = 255
order_byte ByBand = 0

-- The directory: reel 1 of 1, and the order.
abbrev pub directory_changed : Order → Body → Body
directory_changed o body = put (put (put body 19 49) 20 49) 31 (order_byte o)

-- The header of interleaved bands: the order, the mission's bands, no band of its own, and the bands present.
abbrev pub header_by_line : ℕ → ℕ → Body → Body
header_by_line bands mask body = put (put (put (put body 120 255) 121 bands) 136 48) 3586 mask

-- The header of one band: the order, and the band's digit.
abbrev pub header_by_band : ℕ → Body → Body
header_by_band digit body = put (put (put body 120 0) 121 0) 136 digit

-- The byte of the bands present: the bit of each code.
abbrev pub mask_of : List ℕ → ℕ
mask_of [] = 0
mask_of (code ∷ codes) = weight (code - 4) + mask_of codes

-- The code of the band at a place among those present, and its digit.
abbrev pub code_at : Accepted → ℕ → ℕ
code_at a i = slice_index (codes a) i

abbrev pub digit : ℕ → ℕ
digit code = (48 + code) % 256

abbrev pub header_changed : Order → Accepted → ℕ → Body → Body
header_changed ByLine a i body = header_by_line (stride a.summary.layout) (mask_of (codes a)) body
header_changed ByBand a i body = header_by_band (digit (code_at a i)) body

-- What is changed in the body of each piece.
abbrev pub changed : Plan → Piece → Body → Body
changed t Mark body = body
changed t Directory body = directory_changed t.order body
changed t (Header i) body = header_changed t.order t.accepted i body
changed t (Attribute n) body = body
changed t (Image i k) body = body
changed t (Trailer n) body = body
