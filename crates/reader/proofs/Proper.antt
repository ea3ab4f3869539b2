-- What holds of the picture and the sheets of every valid recording.
use Rattle.std.proofs.Common.{◌≡◌, ℕ, zero, suc, ◌+◌, ◌-◌, ◌*◌, ◌<◌, ◌≤◌, Bool, true, false, cond, ◌&&◌, eqb, leb, List, [], ◌∷◌, ◌++◌, map, length, get_or, drop, Some, None, sym, refl, ap, ◌∙◌, subst, append-nil, arith, length-append, length-drop}
use lib.ListN.{length-map}
use Rattle.std.proofs.lemmas.List.{length-take-le}
use Rattle.std.proofs.lemmas.Bool.{eq-eqb, ne_eqb, leb-true, and_parts}
use Rattle.records.specs.Bands.{present}
use Rattle.records.specs.Headers.{band_in, trailers_fit, content_of}
use Rattle.records.specs.Layouts.{record_length, sensor_in, stride, ancillaries_of, ancillaries, annotations}
use Rattle.records.specs.Records.{byte}
use Rattle.records.specs.declared.header.Content.{Content}
use Rattle.records.specs.declared.header.Content.TheVariants.{One, Mixed}
use Rattle.records.specs.declared.layout.Correction.{Correction}
use Rattle.records.specs.declared.layout.Correction.TheVariants.{Corrected, Uncorrected}
use Rattle.records.specs.declared.layout.Sensor.{Sensor}
use Rattle.records.specs.declared.layout.Sensor.TheVariants.{Mss, Rbv}
use Rattle.records.specs.declared.layout.Form.{Form}
use Rattle.records.specs.declared.layout.Form.TheVariants.{Interleaved, Sequential, Vidicon}
use Rattle.records.specs.declared.layout.Layout.{Layout}
use Rattle.machine.specs.Machines.{band_of}
use Rattle.survey.specs.Pictures.{Picture, Sheets, picture, sheets, sheets_of, all_codes, all_rows, all_sheets, codes_in, rows_in, every, if_there, places_in}
use Rattle.survey.specs.Recordings.{Line, Files, Recording}
use Rattle.survey.specs.Validity.{body_length, Whole, content, header_record, AllFit, all_lines, width, ValidFiles, ValidGroups, Valid}
use Rattle.survey.proofs.Groups.{Rising, rises}
use Rattle.reader.specs.Finding.{index_of}
use Rattle.reader.specs.Pictured.{body_size}

-- Codes that rise from a bound on.
abbrev pub From : ℕ → List ℕ → Type 0
From k [] = Unit {0}
From k (c ∷ cs) = (k ≤ c) × From (c + 1) cs

pub from_less : (k m : ℕ) (cs : List ℕ) → k ≤ m → From m cs → From k cs
from_less k m [] h f = tt
from_less k m (c ∷ cs) h f = let w = f.0 in (omega (arith, w), f.1)

pub from_at : (k i : ℕ) (cs : List ℕ) → From k cs → i < length cs → k ≤ get_or cs i 0
from_at k i [] f h = absurd (omega arith)
from_at k zero (c ∷ cs) f h = f.0
from_at k (suc i) (c ∷ cs) f h = let w = from_at (c + 1) i cs f.1 (omega arith) in let u = f.0 in omega (arith, w, u)

-- Each stands at its own place.
pub own_place : (k i0 i : ℕ) (cs : List ℕ) → From k cs → i < length cs → index_of (get_or cs i 0) cs i0 ≡ Some (i0 + i)
own_place k i0 i [] f h = absurd (omega arith)
own_place k i0 zero (c ∷ cs) f h = let z : i0 ≡ i0 + 0 = omega arith in ap (λ b. cond b (Some i0) (index_of c cs (i0 + 1))) (eq-eqb c c refl) ∙ ap Some z
own_place k i0 (suc i) (c ∷ cs) f h =
    let w = from_at (c + 1) i cs f.1 (omega arith) in
    let z : i0 + 1 + i ≡ i0 + suc i = omega arith in
    ap (λ b. cond b (Some i0) (index_of (get_or cs i 0) cs (i0 + 1))) (ne_eqb c (get_or cs i 0) (λ e. omega (arith, w, e)))
    ∙ own_place (c + 1) (i0 + 1) i cs f.1 (omega arith)
    ∙ ap Some z

-- All codes are bytes.
abbrev pub Bytes : List ℕ → Type 0
Bytes [] = Unit {0}
Bytes (c ∷ cs) = (c < 256) × Bytes cs

pub byte_at : (i : ℕ) (cs : List ℕ) → Bytes cs → i < length cs → get_or cs i 0 < 256
byte_at i [] b h = absurd (omega arith)
byte_at zero (c ∷ cs) b h = b.0
byte_at (suc i) (c ∷ cs) b h = byte_at i cs b.1 (omega arith)

-- Interleaved: the places rise, and are below five.
abbrev pub Places : ℕ → List ℕ → Type 0
Places k [] = Unit {0}
Places k (p ∷ ps) = ((k ≤ p) × (p < 5)) × Places (p + 1) ps

places_less : (k m : ℕ) (ps : List ℕ) → k ≤ m → Places m ps → Places k ps
places_less k m [] h f = tt
places_less k m (p ∷ ps) h f = let w = f.0.0 in ((omega (arith, w), f.0.1), f.1)

place_more : (b : Bool) (p : ℕ) (ps : List ℕ) → p < 5 → Places (p + 1) ps → Places p (cond b (p ∷ []) [] ++ ps)
place_more true p ps h f = ((omega arith, h), f)
place_more false p ps h f = places_less p (p + 1) ps (omega arith) f

pub places_rise : (mask : ℕ) → Places 0 (places_in mask)
places_rise mask =
    place_more (present mask 0) 0 _ (omega arith)
    (place_more (present mask 1) 1 _ (omega arith)
    (place_more (present mask 2) 2 _ (omega arith)
    (place_more (present mask 3) 3 (if_there mask 4) (omega arith)
    (subst (Places 4) (append-nil (if_there mask 4)) (place_more (present mask 4) 4 [] (omega arith) tt)))))

pub codes_rise : (k : ℕ) (ps : List ℕ) → Places k ps → From (4 + k) (map (λ p. 4 + p) ps) × Bytes (map (λ p. 4 + p) ps)
codes_rise k [] f = (tt, tt)
codes_rise k (p ∷ ps) f =
    let w = f.0.0 in
    let u = f.0.1 in
    let r = codes_rise (p + 1) ps f.1 in
    ((omega (arith, w), from_less (4 + p + 1) (4 + (p + 1)) (map (λ q. 4 + q) ps) (omega arith) r.0), (omega (arith, u), r.1))

pub few-places : (k : ℕ) (ps : List ℕ) → Places k ps → k ≤ 5 → length ps + k ≤ 5
few-places k [] f h = omega (arith, h)
few-places k (p ∷ ps) f h = let w = f.0.0 in let u = f.0.1 in let r = few-places (p + 1) ps f.1 (omega (arith, u)) in omega (arith, w, r)

pub length-every : (step from n : ℕ) (xs : List Line) → length (every step from n xs) ≡ n
length-every step from zero xs = refl
length-every step from (suc n) xs = let r = length-every step (from + step) n xs in omega (arith, r)

-- A line that can be read is whole.
abbrev pub Sized : ℕ → Line → Type 0
Sized size None = Unit {0}
Sized size (Some body) = length body ≡ size

-- The rows: as many as codes, each with all lines, each line whole.
abbrev pub SizedAll : ℕ → List Line → Type 0
SizedAll size [] = Unit {0}
SizedAll size (x ∷ xs) = Sized size x × SizedAll size xs

pub sized_at : (size j : ℕ) (xs : List Line) → SizedAll size xs → Sized size (get_or xs j None)
sized_at size j [] a = tt
sized_at size zero (x ∷ xs) a = a.0
sized_at size (suc j) (x ∷ xs) a = sized_at size j xs a.1

pub sized_fit : (l : Layout) (c : Content) (i : ℕ) (xs : List Line) → AllFit l c i xs → SizedAll (body_length l) xs
sized_fit l c i [] a = tt
sized_fit l c i (Some body ∷ xs) a = (a.0.0, sized_fit l c (i + 1) xs a.1)
sized_fit l c i (None ∷ xs) a = (tt, sized_fit l c (i + 1) xs a.1)

pub sized_every : (size step from n : ℕ) (xs : List Line) → SizedAll size xs → SizedAll size (every step from n xs)
sized_every size step from zero xs a = tt
sized_every size step from (suc n) xs a = (sized_at size from xs a, sized_every size step (from + step) n xs a)

abbrev pub Rows : ℕ → ℕ → List (List Line) → Type 0
Rows size lines [] = Unit {0}
Rows size lines (r ∷ rs) = ((length r ≡ lines) × SizedAll size r) × Rows size lines rs

rows_both : (size lines : ℕ) (rs us : List (List Line)) → Rows size lines rs → Rows size lines us → Rows size lines (rs ++ us)
rows_both size lines [] us a b = b
rows_both size lines (r ∷ rs) us a b = (a.0, rows_both size lines rs us a.1 b)

rows_every : (size step lines : ℕ) (xs : List Line) (ps : List ℕ) → SizedAll size xs → Rows size lines (map (λ p. every step p lines xs) ps)
rows_every size step lines xs [] a = tt
rows_every size step lines xs (p ∷ ps) a = ((length-every step p lines xs, sized_every size step p lines xs a), rows_every size step lines xs ps a)

-- The sheets: whole bodies, and few of a kind.
pub record Sheeted (size : ℕ) (s : Sheets) : Type 0 where
  pub header_whole : length s.header ≡ size
  pub ancillaries_whole : Whole size s.ancillaries
  pub annotations_whole : Whole size s.annotations
  pub trailers_whole : Whole size s.trailers
  pub ancillaries-few : length s.ancillaries ≤ 300
  pub annotations-few : length s.annotations ≤ 300
  pub trailers-few : length s.trailers ≤ 300

abbrev pub SheetedAll : ℕ → List Sheets → Type 0
SheetedAll size [] = Unit {0}
SheetedAll size (s ∷ ss) = Sheeted size s × SheetedAll size ss

sheeted_both : (size : ℕ) (ss us : List Sheets) → SheetedAll size ss → SheetedAll size us → SheetedAll size (ss ++ us)
sheeted_both size [] us a b = b
sheeted_both size (s ∷ ss) us a b = (a.0, sheeted_both size ss us a.1 b)

sheeted_each : (size : ℕ) (s : Sheets) (cs : List ℕ) → Sheeted size s → SheetedAll size (map (λ c. s) cs)
sheeted_each size s [] a = tt
sheeted_each size s (c ∷ cs) a = (a, sheeted_each size s cs a)

-- The groups of a recording.
pub head_valid : (l : Layout) (lines last : ℕ) (f : Files) (gs : List Files) → ValidGroups l lines last (f ∷ gs) → ValidFiles l lines last f
head_valid l lines last f [] v = v.0
head_valid l lines last f (g ∷ gs) v = v.0

few-ancillaries : (l : Layout) → ancillaries l ≤ 300
few-ancillaries l = by_form l.correction (sensor_in l.form)
  where
    by_form : (c : Correction) (s : Sensor) → ancillaries_of c s ≤ 300
    by_form Corrected s = omega arith
    by_form Uncorrected Mss = omega arith
    by_form Uncorrected Rbv = omega arith

few-annotations : (c : Correction) → annotations c ≤ 300
few-annotations Corrected = omega arith
few-annotations Uncorrected = omega arith

pub few-trailers : (f : Files) → trailers_fit (header_record f) ≡ true → byte (header_record f) 145 ≤ 5
few-trailers f e =
    let p = and_parts (eqb (byte (header_record f) 144) 0) (leb 1 (byte (header_record f) 145) && leb (byte (header_record f) 145) 5) e in
    leb-true (byte (header_record f) 145) 5 (and_parts (leb 1 (byte (header_record f) 145)) (leb (byte (header_record f) 145) 5) p.1).1

module _ (l : Layout) (lines : ℕ) where
  group_sheeted : (f : Files) (last : ℕ) → ValidFiles l lines last f → Sheeted (body_length l) (sheets_of f)
  group_sheeted f last v =
      let a = v.ancillaries_many in
      let b = v.annotations_many in
      let c = v.trailers_many in
      let fa = few-ancillaries l in
      let fb = few-annotations l.correction in
      let fc = few-trailers f v.header_trailers in
      record { header_whole = v.header_whole; ancillaries_whole = v.ancillaries_whole; annotations_whole = v.annotations_whole; trailers_whole = v.trailers_whole; ancillaries-few = omega (arith, a, fa); annotations-few = omega (arith, b, fb); trailers-few = omega (arith, c, fc) }

  pub rows_of : (f : Form) (band mask : ℕ) (xs : List Line) → SizedAll (body_length l) xs → length xs ≡ lines * width f (stride l) → Rows (body_length l) lines (rows_in (content_of band mask f) (stride l) lines xs)
  rows_of Interleaved band mask xs a e = rows_every (body_length l) (stride l) lines xs (places_in mask) a
  rows_of Sequential band mask xs a e = ((omega (arith, e), a), tt)
  rows_of Vidicon band mask xs a e = ((omega (arith, e), a), tt)

  rows_many_of : (c : Content) (xs : List Line) → length (rows_in c (stride l) lines xs) ≡ length (codes_in c)
  rows_many_of (One code) xs = refl
  rows_many_of (Mixed mask) xs = length-map (places_in mask) (λ p. every (stride l) p lines xs) ∙ sym (length-map (places_in mask) (λ p. 4 + p))

  pub record Groups (gs : List Files) : Type 0 where
    pub rows : Rows (body_length l) lines (all_rows l lines gs)
    pub rows_many : length (all_rows l lines gs) ≡ length (all_codes l gs)
    pub sheeted : SheetedAll (body_length l) (all_sheets l gs)
    pub sheets_many : length (all_sheets l gs) ≡ length (all_codes l gs)

  one_more_group : (f : Files) (gs : List Files) (last : ℕ) → ValidFiles l lines last f → Groups gs → Groups (f ∷ gs)
  one_more_group f gs last v g =
      let c = content l f in
      let xs = all_lines f.parts in
      let r = g.rows_many in
      let s = g.sheets_many in
      let here = rows_many_of c xs in
      let a1 = length-append (rows_in c (stride l) lines xs) (all_rows l lines gs) in
      let a2 = length-append (codes_in c) (all_codes l gs) in
      let a3 = length-append (map (λ code. sheets_of f) (codes_in c)) (all_sheets l gs) in
      let a4 = length-map (codes_in c) (λ (code : ℕ). sheets_of f) in record {
        rows = rows_both (body_length l) lines (rows_in c (stride l) lines xs) (all_rows l lines gs) (rows_of l.form (byte (header_record f) 136) (byte (header_record f) 3586) xs (sized_fit l c 0 xs v.lines_fit) v.lines_many) g.rows;
        rows_many = omega (arith, r, here, a1, a2);
        sheeted = sheeted_both (body_length l) (map (λ code. sheets_of f) (codes_in c)) (all_sheets l gs) (sheeted_each (body_length l) (sheets_of f) (codes_in c) (group_sheeted f last v)) g.sheeted;
        sheets_many = omega (arith, s, a2, a3, a4);
      }

  pub all_groups : (gs : List Files) (last : ℕ) → ValidGroups l lines last gs → Groups gs
  all_groups [] last v = absurd v
  all_groups (f ∷ []) last v = one_more_group f [] last v.0 record { rows = tt; rows_many = refl; sheeted = tt; sheets_many = refl }
  all_groups (f ∷ (g ∷ gs)) last v = one_more_group f (g ∷ gs) last v.0 (all_groups (g ∷ gs) (band_of (content l f)) v.1.1)

  -- The codes rise.
  module _ (seq : l.form ≡ Sequential) where
    pub one_code : (f : Files) → content l f ≡ One (byte (header_record f) 136 - 48)
    one_code f = ap (content_of (byte (header_record f) 136) (byte (header_record f) 3586)) seq

    pub rising : (f : Files) (last : ℕ) → ValidFiles l lines last f → Rising last (byte (header_record f) 136)
    rising f last v = rises l.mission last (byte (header_record f) 136) (subst (λ k. band_in k l.mission last (byte (header_record f) 136) ≡ true) seq v.header_band)

    pub sequential_codes : (gs : List Files) (last : ℕ) → ValidGroups l lines last gs → (From (last + 1) (all_codes l gs) × Bytes (all_codes l gs)) × (length (all_codes l gs) + last ≤ 8)
    sequential_codes [] last v = absurd v
    sequential_codes (f ∷ []) last v =
        let r = rising f last v.0 in
        let a = r.above in
        let h = r.high in
        let b = byte (header_record f) 136 in
        subst (λ c. (From (last + 1) (codes_in c ++ []) × Bytes (codes_in c ++ [])) × (length (codes_in c ++ []) + last ≤ 8)) (sym (one_code f)) (((omega (arith, a), tt), (omega (arith, h), tt)), omega (arith, a, h))
    sequential_codes (f ∷ (g ∷ gs)) last v =
        let r = rising f last v.0 in
        let a = r.above in
        let h = r.high in
        let b = byte (header_record f) 136 in
        let band_is : band_of (content l f) ≡ b - 48 = ap band_of (one_code f) in
        let rest = subst (λ k. (From (k + 1) (all_codes l (g ∷ gs)) × Bytes (all_codes l (g ∷ gs))) × (length (all_codes l (g ∷ gs)) + k ≤ 8)) band_is (sequential_codes (g ∷ gs) (band_of (content l f)) v.1.1) in
        let more = rest.1 in
        subst (λ c. (From (last + 1) (codes_in c ++ all_codes l (g ∷ gs)) × Bytes (codes_in c ++ all_codes l (g ∷ gs))) × (length (codes_in c ++ all_codes l (g ∷ gs)) + last ≤ 8)) (sym (one_code f)) (((omega (arith, a), rest.0.0), (omega (arith, h), rest.0.1)), omega (arith, a, more))

  alone_codes : (form : Form) → l.form ≡ form → (form ≡ Sequential → ⊥) → (gs : List Files) (last : ℕ) → ValidGroups l lines last gs → (From 0 (all_codes l gs) × Bytes (all_codes l gs)) × (length (all_codes l gs) ≤ 8)
  alone_codes form e n [] last v = absurd v
  alone_codes form e n (f ∷ (g ∷ gs)) last v = absurd (n (sym e ∙ v.1.0))
  alone_codes Sequential e n (f ∷ []) last v = absurd (n refl)
  alone_codes Interleaved e n (f ∷ []) last v =
      let mask = byte (header_record f) 3586 in
      let ps = places_in mask in
      let rise = places_rise mask in
      let r = codes_rise 0 ps rise in
      let few = few-places 0 ps rise (omega arith) in
      let many = length-map ps (λ p. 4 + p) in
      subst (λ c. (From 0 c × Bytes c) × (length c ≤ 8)) (sym (append-nil (codes_in (content l f)) ∙ ap codes_in (ap (content_of (byte (header_record f) 136) mask) e))) ((from_less 0 (4 + 0) (map (λ p. 4 + p) ps) (omega arith) r.0, r.1), omega (arith, few, many))
  alone_codes Vidicon e n (f ∷ []) last v =
      let b = byte (header_record f) 136 in
      let fits = subst (λ k. band_in k l.mission last b ≡ true) e v.0.header_band in
      let high = leb-true b 68 (and_parts (leb 65 b) (leb b 68) fits).1 in
      subst (λ c. (From 0 c × Bytes c) × (length c ≤ 8)) (sym (append-nil (codes_in (content l f)) ∙ ap codes_in (ap (content_of b (byte (header_record f) 3586)) e))) (((omega arith, tt), (omega (arith, high), tt)), omega arith)

  pub codes_of : (form : Form) → l.form ≡ form → (gs : List Files) → ValidGroups l lines 0 gs → (From 0 (all_codes l gs) × Bytes (all_codes l gs)) × (length (all_codes l gs) ≤ 8)
  codes_of Interleaved e gs v = alone_codes Interleaved e (λ w. cc) gs 0 v
  codes_of Sequential e gs v =
      let r = sequential_codes e gs 0 v in
      let few = r.1 in
      ((from_less 0 (0 + 1) (all_codes l gs) (omega arith) r.0.0, r.0.1), omega (arith, few))
  codes_of Vidicon e gs v = alone_codes Vidicon e (λ w. cc) gs 0 v

-- A picture and sheets of a valid recording.
pub record Proper (p : Picture) (s : List Sheets) : Type 0 where
  pub ident_long : length p.ident ≡ 18
  pub codes_rise : From 0 p.codes
  pub codes_bytes : Bytes p.codes
  pub codes-few : length p.codes ≤ 8
  pub rows_many : length p.rows ≡ length p.codes
  pub rows_whole : Rows (body_size p.sensor) p.lines p.rows
  pub lines_few : p.lines ≤ 8192
  pub sheets_many : length s ≡ length p.codes
  pub sheets-whole : SheetedAll (body_size p.sensor) s

pub size_is : (f : Form) → record_length f - 6 ≡ body_size (sensor_in f)
size_is Interleaved = refl
size_is Sequential = refl
size_is Vidicon = refl

pub proper : (r : Recording) → Valid r → Proper (picture r) (sheets r)
proper r v =
    let l = r.layout in
    let c = codes_of l r.lines l.form refl r.groups v.groups_valid in
    let g = all_groups l r.lines r.groups 0 v.groups_valid in
    let d = v.directory_whole in
    let a = length-drop 28 r.directory in
    let size = size_is l.form in record {
      ident_long = length-take-le 18 (drop 28 r.directory) (omega (arith, a, d));
      codes_rise = c.0.0;
      codes_bytes = c.0.1;
      codes-few = c.1;
      rows_many = g.rows_many;
      rows_whole = subst (λ k. Rows k r.lines (all_rows l r.lines r.groups)) size g.rows;
      lines_few = v.lines_few;
      sheets_many = g.sheets_many;
      sheets-whole = subst (λ k. SheetedAll k (all_sheets l r.groups)) size g.sheeted;
    }
