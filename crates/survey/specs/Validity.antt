-- Which recordings the layout allows.
use Rattle.std.specs.Prelude.{◌≡◌, ℕ, ◌+◌, ◌-◌, ◌*◌, ◌≤◌, true, false, List, [], ◌∷◌, ◌++◌, length, Some, None}
use Rattle.records.specs.Directories.{layout_of, fixed}
use Rattle.records.specs.Headers.{counts_fit, band_fits, trailers_fit, bands_fit, content_of}
use Rattle.records.specs.Layouts.{record_length, ancillaries, annotations, stride}
use Rattle.machine.specs.Machines.{all_zero, missing, band_of}
use Rattle.records.specs.Records.{byte}
use Rattle.records.specs.declared.header.Content.{Content}
use Rattle.records.specs.declared.layout.Form.{Form}
use Rattle.records.specs.declared.layout.Form.TheVariants.{Interleaved, Sequential, Vidicon}
use Rattle.records.specs.declared.layout.Layout.{Layout}
use Rattle.survey.specs.Recordings.{Body, Line, Files, Recording, record_of, reels}

-- The length of a body: of every record but a directory.
abbrev pub body_length : Layout → ℕ
body_length l = record_length l.form - 6

-- Bodies that all have this length.
abbrev pub Whole : ℕ → List Body → Type 0
Whole size [] = Unit {0}
Whole size (body ∷ bodies) = (length body ≡ size) × Whole size bodies

-- The header as a record, and what it says that the image file holds.
abbrev pub header_record : Files → List ℕ
header_record g = record_of 1 18 g.header

abbrev pub content : Layout → Files → Content
content l g = content_of (byte (header_record g) 136) (byte (header_record g) 3586) l.form

-- All lines of an image file.
abbrev pub all_lines : List (List Line) → List Line
all_lines [] = []
all_lines (p ∷ ps) = p ++ all_lines ps

-- An image file begins with a line. Where it goes on behind a reel's end, it goes on with a line as well, but for a file that ended there.
abbrev pub Going : List (List Line) → Type 0
Going [] = Unit {0}
Going (p ∷ []) = Unit {0}
Going ([] ∷ (q ∷ ps)) = ⊥
Going ((line ∷ lines) ∷ (q ∷ ps)) = Going (q ∷ ps)

abbrev pub Begun : List (List Line) → Type 0
Begun [] = ⊥
Begun ([] ∷ ps) = ⊥
Begun ((line ∷ lines) ∷ ps) = Going ps

-- A line that can be read is whole. One of a band that is not present can be read, and every byte of it is zero. The line has the place i, counted
-- from 0, in its file.
abbrev pub Fit : Layout → Content → ℕ → Line → Type 0
Fit l c i None = missing c i (stride l) ≡ false
Fit l c i (Some body) = (length body ≡ body_length l) × (missing c i (stride l) ≡ true → all_zero body ≡ true)

abbrev pub AllFit : Layout → Content → ℕ → List Line → Type 0
AllFit l c i [] = Unit {0}
AllFit l c i (line ∷ lines) = Fit l c i line × AllFit l c (i + 1) lines

-- How many bands an image file holds, present or not.
abbrev pub width : Form → ℕ → ℕ
width Interleaved bands = bands
width Sequential bands = 1
width Vidicon bands = 1

abbrev pub bands_wide : Layout → ℕ
bands_wide l = width l.form (stride l)

-- The files of a group are valid behind a group of the band `last`, or behind none where it is 0.
pub record ValidFiles (l : Layout) (lines last : ℕ) (g : Files) : Type 0 where
  pub header_whole : length g.header ≡ body_length l
  pub header_counts : counts_fit (header_record g) l ≡ true
  pub header_band : band_fits (byte (header_record g) 136) l last ≡ true
  pub header_trailers : trailers_fit (header_record g) ≡ true
  pub header_bands : bands_fit (byte (header_record g) 3586) l ≡ true
  pub ancillaries_many : length g.ancillaries ≡ ancillaries l
  pub ancillaries_whole : Whole (body_length l) g.ancillaries
  pub annotations_many : length g.annotations ≡ annotations l.correction
  pub annotations_whole : Whole (body_length l) g.annotations
  pub begun : Begun g.parts
  pub lines_fit : AllFit l (content l g) 0 (all_lines g.parts)
  pub lines_many : length (all_lines g.parts) ≡ lines * bands_wide l
  pub trailers_many : length g.trailers ≡ byte (header_record g) 145
  pub trailers_whole : Whole (body_length l) g.trailers

-- One group, or several where bands follow each other. No further reel begins behind the last.
abbrev pub ValidGroups : Layout → ℕ → ℕ → List Files → Type 0
ValidGroups l lines last [] = ⊥
ValidGroups l lines last (g ∷ []) = ValidFiles l lines last g × (g.ends ≡ false)
ValidGroups l lines last (g ∷ (h ∷ gs)) = ValidFiles l lines last g × ((l.form ≡ Sequential) × ValidGroups l lines (band_of (content l g)) (h ∷ gs))

-- A recording that the layout allows.
pub record Valid (r : Recording) : Type 0 where
  pub directory_whole : length r.directory ≡ 354
  pub directory_names : layout_of (record_of 1 9 r.directory) ≡ Some r.layout
  pub directory_values : fixed (record_of 1 9 r.directory) r.layout (reels r) ≡ true
  pub reels_few : reels r ≤ 9
  pub lines_some : 1 ≤ r.lines
  pub lines_few : r.lines ≤ 8192
  pub groups_valid : ValidGroups r.layout r.lines 0 r.groups
