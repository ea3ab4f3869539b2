-- A set that is a recording's, by what the places below give, is shown as the recording in the other order is written.
use Rattle.std.proofs.Common.{◌≡◌, ℕ, suc, ◌+◌, ◌-◌, ◌*◌, ◌/◌, ◌%◌, ◌<◌, ◌≤◌, leb, List, [], ◌∷◌, length, get_or, set, Some, None, Ok, sym, refl, ap, ◌∙◌, subst, mod-eq_of_lt, arith}
use Rattle.std.proofs.lemmas.Nat.{mul-le, div_below}
use Rattle.std.proofs.lemmas.List.{get_or-set_same, get_or-set_other}
use Rattle.std.proofs.lemmas.Bool.{le-leb, lt-leb, cond-true, cond-false}
use Rattle.std.proofs.lemmas.Bool.Decides.{nat_tests}
use Rattle.deck.specs.Tape.{written, TapeSet}
use Rattle.records.specs.Layouts.{ancillaries, annotations, stride}
use Rattle.records.specs.declared.layout.Form.TheVariants.{Interleaved, Sequential}
use Rattle.records.specs.declared.layout.Layout.{Layout}
use Rattle.machine.specs.declared.accepted.Accepted.{Accepted}
use Rattle.survey.specs.Pictures.{all_codes, all_rows}
use Rattle.survey.specs.Recordings.{Body, Line, Files, Recording, record_of, line_block, directory_on, written_as}
use Rattle.survey.specs.Validity.{body_length}
use Rattle.survey.proofs.Reels.{first_reel}
use Rattle.reader.specs.Bodies.{body_at}
use Rattle.reader.specs.Finding.{codes, band_file, spot}
use Rattle.turner.specs.Changes.{directory_changed, order_byte, header_by_line, header_by_band, header_changed, mask_of, code_at, digit}
use Rattle.turner.specs.Bounds.{first_group}
use Rattle.turner.specs.Shapes.{Plan, images, sheets, trailers, size}
use Rattle.turner.specs.Shown.{attribute_spot, trailer_spot, attribute_type, line_origin, readable, body_from, record_block, piece_block, shown}
use Rattle.turner.specs.Turns.{row_of, line_in, woven, with_lines, interleaved, band_by_band, turned_directory, turned_groups, turn}
use Rattle.turner.specs.declared.piece.Piece.TheVariants.{Directory, Header, Attribute, Image, Trailer}
use Rattle.turner.specs.declared.shape.Order.{Order}
use Rattle.turner.specs.declared.shape.Order.TheVariants.{ByLine, ByBand}
use Rattle.turner.proofs.Assembling.{GroupShown, EachShown, AllShown, shown_as_written}
use Rattle.turner.proofs.Weaving.{length-woven, getD_woven}

-- What the places below give, but for the lines: the directory, and the sheets of the first group.
pub record SheetsFound (t : Plan) (set : TapeSet) (r : Recording) (g : Files) : Type 0 where
  pub layout_is : t.accepted.summary.layout ≡ r.layout
  pub lines_are : t.accepted.summary.lines ≡ r.lines
  pub bands_are : codes t.accepted ≡ all_codes r.layout r.groups
  pub directory_whole : length r.directory ≡ 354
  pub directory_is : body_at set (Some (spot 1 1)) 360 ≡ Ok r.directory
  pub header_is : body_at set (Some (attribute_spot (first_group t.accepted) 1)) (size t) ≡ Ok g.header
  pub ancillaries_many : length g.ancillaries ≡ ancillaries t.accepted.summary.layout
  pub annotations_many : length g.annotations ≡ annotations t.accepted.summary.layout.correction
  pub ancillary_is : (k : ℕ) → k < length g.ancillaries → body_at set (Some (attribute_spot (first_group t.accepted) (2 + k))) (size t) ≡ Ok (get_or g.ancillaries k [])
  pub annotation_is : (k : ℕ) → k < length g.annotations → body_at set (Some (attribute_spot (first_group t.accepted) (2 + length g.ancillaries + k))) (size t) ≡ Ok (get_or g.annotations k [])
  pub trailers_many : trailers t ≡ length g.trailers
  pub trailer_is : (k : ℕ) → k < length g.trailers → body_at set (Some (trailer_spot (first_group t.accepted) (1 + k))) (size t) ≡ Ok (get_or g.trailers k [])

-- The line of a band that is shown, by the block below.
abbrev pub line-shown : Plan → TapeSet → ℕ → ℕ → Line
line-shown t set code n = body_from set (size t) (line_origin t (band_file t.accepted code) n)

-- The directory.
byte_nineteen : (o : Order) (d : Body) → 12 < length d → get_or (directory_changed o d) 12 0 ≡ 49
byte_nineteen o d h =
    get_or-set_other (set (set d 12 49) 13 49) 24 12 (order_byte o) 0 (λ e. omega arith)
    ∙ get_or-set_other (set d 12 49) 13 12 49 0 (λ e. omega arith)
    ∙ get_or-set_same d 12 49 0 h

module _ (t : Plan) (below : TapeSet) (r : Recording) (g : Files) (s : SheetsFound t below r g) where
  directory_shown : piece_block t below Directory ≡ written (directory_on (directory_changed t.order r.directory) 1)
  directory_shown =
      ap (λ d. record_block (directory_changed t.order) 9 1 (readable d)) s.directory_is
      ∙ ap written (sym (first_reel (directory_changed t.order r.directory) (byte_nineteen t.order r.directory (omega (arith, s.directory_whole)))))

  header-shown : (i : ℕ) → piece_block t below (Header i) ≡ written (record_of 1 18 (header_changed t.order t.accepted i g.header))
  header-shown i = ap (λ d. record_block (header_changed t.order t.accepted i) 18 1 (readable d)) s.header_is

  sheets_are : sheets t ≡ 1 + (length g.ancillaries + length g.annotations)
  sheets_are = omega (arith, s.ancillaries_many, s.annotations_many)

  ancillary_type : (k : ℕ) → k < length g.ancillaries → attribute_type t (2 + k) ≡ 36
  ancillary_type k h = cond-true (leb (2 + k) (1 + ancillaries t.accepted.summary.layout)) 36 219 (le-leb (2 + k) (1 + ancillaries t.accepted.summary.layout) (omega (arith, s.ancillaries_many)))

  annotation_type : (k : ℕ) → attribute_type t (2 + length g.ancillaries + k) ≡ 219
  annotation_type k =
      let n = 2 + length g.ancillaries + k in
      cond-false (leb n (1 + ancillaries t.accepted.summary.layout)) 36 219 (lt-leb n (1 + ancillaries t.accepted.summary.layout) (omega (arith, s.ancillaries_many)))

  ancillary_shown : (k : ℕ) → k < length g.ancillaries → piece_block t below (Attribute (2 + k)) ≡ written (record_of (2 + k) 36 (get_or g.ancillaries k []))
  ancillary_shown k h =
      ap (λ d. record_block (λ b. b) (attribute_type t (2 + k)) (2 + k) (readable d)) (s.ancillary_is k h)
      ∙ ap (λ kind. written (record_of (2 + k) kind (get_or g.ancillaries k []))) (ancillary_type k h)

  annotation-shown : (k : ℕ) → k < length g.annotations → piece_block t below (Attribute (2 + length g.ancillaries + k)) ≡ written (record_of (2 + length g.ancillaries + k) 219 (get_or g.annotations k []))
  annotation-shown k h =
      let n = 2 + length g.ancillaries + k in
      ap (λ d. record_block (λ b. b) (attribute_type t n) n (readable d)) (s.annotation_is k h)
      ∙ ap (λ kind. written (record_of n kind (get_or g.annotations k []))) (annotation_type k)

  trailer_shown : (k : ℕ) → k < length g.trailers → piece_block t below (Trailer (1 + k)) ≡ written (record_of (1 + k) 246 (get_or g.trailers k []))
  trailer_shown k h = ap (λ d. record_block (λ b. b) 246 (1 + k) (readable d)) (s.trailer_is k h)

  -- A group with these sheets, and a header and lines of its own.
  pub group_is : (i : ℕ) (header : Body) (line : Line) (lines : List Line) → header_changed t.order t.accepted i g.header ≡ header → images t ≡ length (line ∷ lines) → ((k : ℕ) → k < length (line ∷ lines) → piece_block t below (Image i (1 + k)) ≡ line_block (1 + k) (get_or (line ∷ lines) k None)) → GroupShown t below i (with_lines g header (line ∷ lines)) line lines
  group_is i header line lines h many shows = record {
    one-part = refl;
    no_end = refl;
    header = header-shown i ∙ ap (λ b. written (record_of 1 18 b)) h;
    sheets_many = sheets_are;
    ancillaries = ancillary_shown;
    annotations = annotation-shown;
    images_many = many;
    image_lines = shows;
    trailers_many = s.trailers_many;
    trailer_bodies = trailer_shown;
  }

-- A line as a block.
pub as_line : (n : ℕ) (line : Line) → record_block (λ b. b) 237 n line ≡ line_block n line
as_line n None = refl
as_line n (Some body) = refl

-- A group with the first one's sheets and some lines.
each_is : (t : Plan) (below : TapeSet) (r : Recording) (g : Files) → SheetsFound t below r g → (i : ℕ) (header : Body) (all : List Line) → 1 ≤ length all → header_changed t.order t.accepted i g.header ≡ header → images t ≡ length all → ((k : ℕ) → k < length all → piece_block t below (Image i (1 + k)) ≡ line_block (1 + k) (get_or all k None)) → EachShown t below i (with_lines g header all)
each_is t below r g s i header [] some h many shows = absurd (omega arith)
each_is t below r g s i header (line ∷ lines) some h many shows = record { line = line; lines = lines; shows = group_is t below r g s i header line lines h many shows }

-- By line.
abbrev pub by_line : Accepted → Plan
by_line a = record { accepted = a; order = ByLine }

bands_some : (l : Layout) → 1 ≤ stride l
bands_some l = grind (arith, nat_tests)

lines_some : (lines bands : ℕ) → 1 ≤ lines → 1 ≤ bands → 1 ≤ lines * bands
lines_some lines bands l b = omega (arith, mul-le 1 1 lines bands l b)

module _ (a : Accepted) (below : TapeSet) (r : Recording) (g : Files) (gs : List Files) (s : SheetsFound (by_line a) below r g) where
  abbrev line-codes : List ℕ
  line-codes = all_codes r.layout r.groups

  abbrev line_rows : List (List Line)
  line_rows = all_rows r.layout r.lines r.groups

  abbrev line_bands : ℕ
  line_bands = stride r.layout

  abbrev all_woven : List Line
  all_woven = woven (body_length r.layout) line_bands line-codes line_rows 0 r.lines

  module _ (some : 1 ≤ r.lines) (found : (code n : ℕ) → n < r.lines → line-shown (by_line a) below code (n + 1) ≡ line_in (body_length r.layout) n (row_of code line-codes line_rows)) where
    woven_long : length all_woven ≡ r.lines * line_bands
    woven_long = length-woven (body_length r.layout) line-codes line_rows line_bands 0 r.lines

    image_by_line : (k : ℕ) → k < length all_woven → piece_block (by_line a) below (Image 0 (1 + k)) ≡ line_block (1 + k) (get_or all_woven k None)
    image_by_line k h =
        let block = record_block (λ b. b) 237 (1 + k) in
        let within : k < r.lines * line_bands = omega (arith, woven_long) in
        let back : 1 + k - 1 ≡ k = omega arith in
        ap (λ j. block (line-shown (by_line a) below (4 + j % stride a.summary.layout) (j / stride a.summary.layout + 1))) back
        ∙ ap (λ l. block (line-shown (by_line a) below (4 + k % stride l) (k / stride l + 1))) s.layout_is
        ∙ ap block (found (4 + k % line_bands) (k / line_bands) (div_below k line_bands r.lines (bands_some r.layout) within))
        ∙ ap (λ n. block (line_in (body_length r.layout) n (row_of (4 + k % line_bands) line-codes line_rows))) {y = 0 + k / line_bands} (omega arith)
        ∙ sym (ap block (getD_woven (body_length r.layout) line-codes line_rows line_bands 0 r.lines k (bands_some r.layout) within))
        ∙ as_line (1 + k) (get_or all_woven k None)

    header_is_by_line : header_by_line (stride a.summary.layout) (mask_of (codes a)) g.header ≡ header_by_line line_bands (mask_of line-codes) g.header
    header_is_by_line =
        ap (λ l. header_by_line (stride l) (mask_of (codes a)) g.header) s.layout_is
        ∙ ap (λ cs. header_by_line line_bands (mask_of cs) g.header) s.bands_are

    images_by_line : images (by_line a) ≡ length all_woven
    images_by_line = ap (λ n. n * stride a.summary.layout) s.lines_are ∙ ap (λ l. r.lines * stride l) s.layout_is ∙ sym woven_long

    group_by_line : EachShown (by_line a) below 0 (interleaved r.layout r.lines line-codes line_rows g)
    group_by_line = each_is (by_line a) below r g s 0 (header_by_line line_bands (mask_of line-codes) g.header) all_woven (omega (arith, woven_long, lines_some r.lines line_bands some (bands_some r.layout))) header_is_by_line images_by_line image_by_line

    module _ (form : r.layout.form ≡ Sequential) (first : r.groups ≡ g ∷ gs) where
      groups_by_line : (turn r).groups ≡ interleaved r.layout r.lines line-codes line_rows g ∷ []
      groups_by_line =
          ap (λ f. turned_groups f r.layout r.lines line-codes line_rows r.groups) form
          ∙ ap (turned_groups Sequential r.layout r.lines line-codes line_rows) first

      directory_by_line : (turn r).directory ≡ directory_changed ByLine r.directory
      directory_by_line = ap (λ f. turned_directory f r.directory) form

      pub shown_by-line : shown (Some (by_line a)) below ≡ written_as (turn r)
      shown_by-line =
          shown_as_written (by_line a) below (turn r)
          (directory_shown (by_line a) below r g s ∙ ap (λ d. written (directory_on d 1)) (sym directory_by_line))
          (sym (ap length groups_by_line))
          (subst (AllShown (by_line a) below 0) (sym groups_by_line) (group_by_line, tt))

-- By band.
abbrev pub by_band : Accepted → Plan
by_band a = record { accepted = a; order = ByBand }

-- What the places below give of each band: its code, and its lines.
pub record RowFound (t : Plan) (below : TapeSet) (lines i code : ℕ) (row : List Line) : Type 0 where
  pub code_is : code_at t.accepted i ≡ code
  pub code_small : code < 208
  pub row_long : length row ≡ lines
  pub row_lines : (k : ℕ) → k < lines → line-shown t below code (1 + k) ≡ get_or row k None

abbrev pub RowsFound : Plan → TapeSet → ℕ → ℕ → List ℕ → List (List Line) → Type 0
RowsFound t below lines i [] [] = Unit {0}
RowsFound t below lines i [] (row ∷ rows) = ⊥
RowsFound t below lines i (code ∷ codes) [] = ⊥
RowsFound t below lines i (code ∷ codes) (row ∷ rows) = RowFound t below lines i code row × RowsFound t below lines (i + 1) codes rows

rows_many : (t : Plan) (below : TapeSet) (lines i : ℕ) (cs : List ℕ) (rows : List (List Line)) (g : Files) → RowsFound t below lines i cs rows → length (band_by_band cs rows g) ≡ length cs
rows_many t below lines i [] [] g f = refl
rows_many t below lines i [] (row ∷ rows) g f = refl
rows_many t below lines i (code ∷ cs) [] g f = absurd f
rows_many t below lines i (code ∷ cs) (row ∷ rows) g f = ap suc (rows_many t below lines (i + 1) cs rows g f.1)

module _ (a : Accepted) (below : TapeSet) (r : Recording) (g : Files) (gs : List Files) (s : SheetsFound (by_band a) below r g) (some : 1 ≤ r.lines) where
  header_is_by_band : (i code : ℕ) → code_at a i ≡ code → code < 208 → header_by_band (digit (code_at a i)) g.header ≡ header_by_band (48 + code) g.header
  header_is_by_band i code e h =
      ap (λ c. header_by_band (digit c) g.header) e
      ∙ ap (λ d. header_by_band d g.header) (mod-eq_of_lt (omega arith))

  group_by_band : (i code : ℕ) (row : List Line) → RowFound (by_band a) below r.lines i code row → EachShown (by_band a) below i (with_lines g (header_by_band (48 + code) g.header) row)
  group_by_band i code row f =
      each_is (by_band a) below r g s i (header_by_band (48 + code) g.header) row (omega (arith, f.row_long))
      (header_is_by_band i code f.code_is f.code_small)
      (s.lines_are ∙ sym f.row_long)
      (λ k h.
      ap (λ c. record_block (λ b. b) 237 (1 + k) (line-shown (by_band a) below c (1 + k))) f.code_is
      ∙ ap (record_block (λ b. b) 237 (1 + k)) (f.row_lines k (omega (arith, f.row_long)))
      ∙ as_line (1 + k) (get_or row k None))

  groups_by_band : (i : ℕ) (cs : List ℕ) (rows : List (List Line)) → RowsFound (by_band a) below r.lines i cs rows → AllShown (by_band a) below i (band_by_band cs rows g)
  groups_by_band i [] [] f = tt
  groups_by_band i [] (row ∷ rows) f = tt
  groups_by_band i (code ∷ cs) [] f = tt
  groups_by_band i (code ∷ cs) (row ∷ rows) f = (group_by_band i code row f.0, groups_by_band (i + 1) cs rows f.1)

  abbrev band_codes : List ℕ
  band_codes = all_codes r.layout r.groups

  abbrev band_rows : List (List Line)
  band_rows = all_rows r.layout r.lines r.groups

  module _ (form : r.layout.form ≡ Interleaved) (first : r.groups ≡ g ∷ gs) (found : RowsFound (by_band a) below r.lines 0 band_codes band_rows) where
    bands_groups : (turn r).groups ≡ band_by_band band_codes band_rows g
    bands_groups =
        ap (λ f. turned_groups f r.layout r.lines band_codes band_rows r.groups) form
        ∙ ap (turned_groups Interleaved r.layout r.lines band_codes band_rows) first

    directory_by_band : (turn r).directory ≡ directory_changed ByBand r.directory
    directory_by_band = ap (λ f. turned_directory f r.directory) form

    pub shown_by_band : shown (Some (by_band a)) below ≡ written_as (turn r)
    shown_by_band =
        shown_as_written (by_band a) below (turn r)
        (directory_shown (by_band a) below r g s ∙ ap (λ d. written (directory_on d 1)) (sym directory_by_band))
        (ap length s.bands_are ∙ sym (ap length bands_groups ∙ rows_many (by_band a) below r.lines 0 band_codes band_rows g found))
        (subst (AllShown (by_band a) below 0) (sym bands_groups) (groups_by_band 0 band_codes band_rows found))
