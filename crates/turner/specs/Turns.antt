-- A recording in the other order.
use Rattle.std.specs.Prelude.{ℕ, zero, suc, ◌+◌, false, cond, List, [], ◌∷◌, ◌++◌, replicate, Some, None, Option, ◌==◌, slice_index_or}
use Rattle.records.specs.Layouts.{stride}
use Rattle.records.specs.declared.layout.Form.{Form}
use Rattle.records.specs.declared.layout.Form.TheVariants.{Interleaved, Sequential, Vidicon}
use Rattle.records.specs.declared.layout.Layout.{Layout}
use Rattle.survey.specs.Pictures.{all_codes, all_rows}
use Rattle.survey.specs.Recordings.{Body, Line, Files, Recording}
use Rattle.survey.specs.Validity.{body_length}
use Rattle.turner.specs.Changes.{directory_changed, header_by_line, header_by_band, mask_of}
use Rattle.turner.specs.declared.shape.Order.TheVariants.{ByLine, ByBand}

-- The form in the other order.
abbrev pub other_form : Form → Form
other_form Interleaved = Sequential
other_form Sequential = Interleaved
other_form Vidicon = Vidicon

abbrev pub other_layout : Layout → Layout
other_layout l = record { form = other_form l.form; mission = l.mission; correction = l.correction }

-- The directory of the one reel.
abbrev pub turned_directory : Form → Body → Body
turned_directory Interleaved body = directory_changed ByBand body
turned_directory Sequential body = directory_changed ByLine body
turned_directory Vidicon body = body

-- The lines of a band by its code, if it is among those present.
abbrev pub row_of : ℕ → List ℕ → List (List Line) → Option (List Line)
row_of code [] rows = None
row_of code (c ∷ cs) [] = None
row_of code (c ∷ cs) (row ∷ rows) = cond (c == code) (Some row) (row_of code cs rows)

-- Line n, counted from 0, of a band. One that is not present has bodies of zeros.
abbrev pub line_in : ℕ → ℕ → Option (List Line) → Line
line_in size n None = Some (replicate size 0)
line_in size n (Some row) = slice_index_or row n None

-- Line n of each of so many bands from a code on, and all lines, so many from n on.
abbrev pub across : ℕ → List ℕ → List (List Line) → ℕ → ℕ → ℕ → List Line
across size codes rows n code zero = []
across size codes rows n code (suc many) = line_in size n (row_of code codes rows) ∷ across size codes rows n (code + 1) many

abbrev pub woven : ℕ → ℕ → List ℕ → List (List Line) → ℕ → ℕ → List Line
woven size bands codes rows n zero = []
woven size bands codes rows n (suc many) = across size codes rows n 4 bands ++ woven size bands codes rows (n + 1) many

-- A group with the sheets of another, but for a header and lines of its own, and on one reel.
abbrev pub with_lines : Files → Body → List Line → Files
with_lines g header lines = record {
  header = header;
  ancillaries = g.ancillaries;
  annotations = g.annotations;
  parts = lines ∷ [];
  trailers = g.trailers;
  ends = false;
}

-- The bands of a recording interleaved, with the sheets of the first.
abbrev pub interleaved : Layout → ℕ → List ℕ → List (List Line) → Files → Files
interleaved l lines codes rows g =
    with_lines g (header_by_line (stride l) (mask_of codes) g.header) (woven (body_length l) (stride l) codes rows 0 lines)

-- One group for each band, each with a copy of the sheets.
abbrev pub band_by_band : List ℕ → List (List Line) → Files → List Files
band_by_band [] rows g = []
band_by_band (code ∷ codes) [] g = []
band_by_band (code ∷ codes) (row ∷ rows) g = with_lines g (header_by_band (48 + code) g.header) row ∷ band_by_band codes rows g

abbrev pub turned_groups : Form → Layout → ℕ → List ℕ → List (List Line) → List Files → List Files
turned_groups form l lines codes rows [] = []
turned_groups Interleaved l lines codes rows (g ∷ gs) = band_by_band codes rows g
turned_groups Sequential l lines codes rows (g ∷ gs) = interleaved l lines codes rows g ∷ []
turned_groups Vidicon l lines codes rows (g ∷ gs) = g ∷ gs

-- The recording in one reel, in the other order: the same picture. That of a vidicon stays.
abbrev pub turn : Recording → Recording
turn r = record {
  layout = other_layout r.layout;
  directory = turned_directory r.layout.form r.directory;
  lines = r.lines;
  groups = turned_groups r.layout.form r.layout r.lines (all_codes r.layout r.groups) (all_rows r.layout r.lines r.groups) r.groups;
}
