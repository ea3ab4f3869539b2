-- The values of a header.
use Rattle.std.specs.Prelude.{ℕ, ◌+◌, ◌-◌, ◌%◌, ◌≤◌, Bool, true, cond, ◌&&◌, ◌||◌, List, Ok, Err, Result, ◌==◌, nat_le, nat_lt}
use Rattle.records.specs.Faults.{set_number}
use Rattle.records.specs.Layouts.{order_byte, ancillaries, annotations, stride}
use Rattle.records.specs.Records.{byte}
use Rattle.records.specs.declared.fault.SetFault.{SetFault}
use Rattle.records.specs.declared.header.Content.{Content}
use Rattle.records.specs.declared.header.Content.TheVariants.{One, Mixed}
use Rattle.records.specs.declared.header.Header.{Header}
use Rattle.records.specs.declared.layout.Form.{Form}
use Rattle.records.specs.declared.layout.Form.TheVariants.{Interleaved, Sequential, Vidicon}
use Rattle.records.specs.declared.layout.Layout.{Layout}

-- Byte 121: the mission's bands where they are interleaved, else 0.
abbrev pub interleave_byte : Form → ℕ → ℕ
interleave_byte Interleaved bands = bands
interleave_byte Sequential bands = 0
interleave_byte Vidicon bands = 0

-- Annotation records in bytes 101 and 102, ancillary records in 105 and 106, the order of lines in 120 and 121.
abbrev pub counts_fit : List ℕ → Layout → Bool
counts_fit xs l =
    (byte xs 101 == 0)
    && (byte xs 102 == annotations l.correction
    && (byte xs 105 == 0
    && (byte xs 106 == ancillaries l
    && (byte xs 120 == order_byte l.form
    && byte xs 121 == interleave_byte l.form (stride l)))))

-- The band in byte 136: ASCII 0 where bands are interleaved; 4 to 7, or 8 for mission 3, and above the last, where they follow each other;
-- A to D for the vidicon.
abbrev pub band_in : Form → ℕ → ℕ → ℕ → Bool
band_in Interleaved mission last b = b == 48
band_in Sequential mission last b = nat_le 52 b && ((nat_le b 55 || (b == 56 && mission == 3)) && nat_lt (last + 48) b)
band_in Vidicon mission last b = nat_le 65 b && nat_le b 68

abbrev pub band_fits : ℕ → Layout → ℕ → Bool
band_fits b l last = band_in l.form l.mission last b

-- The trailer records in bytes 144 and 145: 1 to 5.
abbrev pub trailers_fit : List ℕ → Bool
trailers_fit xs = byte xs 144 == 0 && (nat_le 1 (byte xs 145) && nat_le (byte xs 145) 5)

-- The bands present in byte 3586, where they are interleaved: one bit for each of 4 to 8, from the bit of 16 down. At least one is set,
-- and that of band 8 only for mission 3.
abbrev pub bands_in : Form → ℕ → ℕ → Bool
bands_in Interleaved mission mask = nat_lt 0 mask && (nat_lt mask 32 && (mission == 3 || mask % 2 == 0))
bands_in Sequential mission mask = true
bands_in Vidicon mission mask = true

abbrev pub bands_fit : ℕ → Layout → Bool
bands_fit mask l = bands_in l.form l.mission mask

-- What the image file holds.
abbrev pub content_of : ℕ → ℕ → Form → Content
content_of b mask Interleaved = Mixed mask
content_of b mask Sequential = One (b - 48)
content_of b mask Vidicon = One b

-- A header's values in the order of their bytes, or the number of the first fault.
unfoldable pub header : List ℕ → Layout → ℕ → Result Header ℕ
header xs l last =
    cond (counts_fit xs l)
    (cond (band_fits (byte xs 136) l last)
    (cond (trailers_fit xs)
    (cond (bands_fit (byte xs 3586) l)
    (Ok record { content = content_of (byte xs 136) (byte xs 3586) l.form; trailers = byte xs 145 })
    (Err 34))
    (Err 33))
    (Err 34))
    (Err 33)

abbrev pub headed : Result Header SetFault → Result Header ℕ
headed (Ok h) = Ok h
headed (Err f) = Err (set_number f)

-- In a sequential set the band is an ASCII digit, so that taking 48 from it gives the band's number.
abbrev pub SequentialBand : Form → ℕ → Type 0
SequentialBand Interleaved b = Unit {0}
SequentialBand Sequential b = 48 ≤ b
SequentialBand Vidicon b = Unit {0}
