-- What a recording shows: its picture, and its sheets.
use Rattle.std.specs.Prelude.{ℕ, zero, suc, ◌+◌, cond, List, [], ◌∷◌, ◌++◌, map, take, drop, None, slice_index_or}
use Rattle.records.specs.Layouts.{sensor_in, stride}
use Rattle.records.specs.Bands.{present}
use Rattle.records.specs.declared.header.Content.{Content}
use Rattle.records.specs.declared.header.Content.TheVariants.{One, Mixed}
use Rattle.records.specs.declared.layout.Correction.{Correction}
use Rattle.records.specs.declared.layout.Layout.{Layout}
use Rattle.records.specs.declared.layout.Sensor.{Sensor}
use Rattle.survey.specs.Recordings.{Body, Line, Files, Recording}
use Rattle.survey.specs.Validity.{content, all_lines}

-- The picture: sensor, mission and correction, the scene identification, the codes of the bands present in rising order, how many lines each
-- has, and for each band its lines, each a body or unreadable.
pub record Picture : Type 0 where
  pub sensor : Sensor
  pub mission : ℕ
  pub correction : Correction
  pub ident : List ℕ
  pub codes : List ℕ
  pub lines : ℕ
  pub rows : List (List Line)

-- The sheets of a band: the bodies of its records that are not lines.
pub record Sheets : Type 0 where
  pub header : Body
  pub ancillaries : List Body
  pub annotations : List Body
  pub trailers : List Body

-- The places of the bands present, counted from 0, among 4 to 8.
abbrev pub if_there : ℕ → ℕ → List ℕ
if_there mask place = cond (present mask place) (place ∷ []) []

abbrev pub places_in : ℕ → List ℕ
places_in mask = if_there mask 0 ++ (if_there mask 1 ++ (if_there mask 2 ++ (if_there mask 3 ++ if_there mask 4)))

-- The codes of the bands that an image file holds.
abbrev pub codes_in : Content → List ℕ
codes_in (One code) = code ∷ []
codes_in (Mixed mask) = map (λ place. 4 + place) (places_in mask)

-- So many lines of a file: the one at a place, counted from 0, and each a step behind the one before.
abbrev pub every : ℕ → ℕ → ℕ → List Line → List Line
every step from zero lines = []
every step from (suc n) lines = slice_index_or lines from None ∷ every step (from + step) n lines

-- The lines of each of these bands: the file's own, or every line of the band's place where bands are interleaved.
abbrev pub rows_in : Content → ℕ → ℕ → List Line → List (List Line)
rows_in (One code) bands lines file = file ∷ []
rows_in (Mixed mask) bands lines file = map (λ place. every bands place lines file) (places_in mask)

abbrev pub all_codes : Layout → List Files → List ℕ
all_codes l [] = []
all_codes l (f ∷ fs) = codes_in (content l f) ++ all_codes l fs

abbrev pub all_rows : Layout → ℕ → List Files → List (List Line)
all_rows l lines [] = []
all_rows l lines (f ∷ fs) = rows_in (content l f) (stride l) lines (all_lines f.parts) ++ all_rows l lines fs

abbrev pub picture : Recording → Picture
picture r = record {
  sensor = sensor_in r.layout.form;
  mission = r.layout.mission;
  correction = r.layout.correction;
  ident = take 18 (drop 28 r.directory);
  codes = all_codes r.layout r.groups;
  lines = r.lines;
  rows = all_rows r.layout r.lines r.groups;
}

-- The sheets of each band. Interleaved bands have the same ones.
abbrev pub sheets_of : Files → Sheets
sheets_of f = record { header = f.header; ancillaries = f.ancillaries; annotations = f.annotations; trailers = f.trailers }

abbrev pub all_sheets : Layout → List Files → List Sheets
all_sheets l [] = []
all_sheets l (f ∷ fs) = map (λ code. sheets_of f) (codes_in (content l f)) ++ all_sheets l fs

abbrev pub sheets : Recording → List Sheets
sheets r = all_sheets r.layout r.groups
