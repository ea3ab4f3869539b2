-- What a call answers over an accepted set is what its picture and its sheets say.
use Rattle.std.proofs.Common.{◌≡◌, ℕ, ◌+◌, ◌-◌, ◌*◌, ◌<◌, ◌≤◌, Bool, true, false, cond, ◌&&◌, eqb, ltb, leb, List, [], ◌∷◌, length, get_or, Some, None, Ok, Err, Option, sym, refl, ap, ◌∙◌, subst, arith}
use Rattle.std.proofs.lemmas.Bool.{leb-true, and_parts}
use Rattle.deck.specs.Tape.{TapeSet, from_one}
use Rattle.records.specs.Headers.{content_of}
use Rattle.records.specs.Layouts.{sensor_in, record_length, stride}
use Rattle.records.specs.declared.header.Content.TheVariants.{One}
use Rattle.records.specs.declared.layout.Form.{Form}
use Rattle.records.specs.declared.layout.Form.TheVariants.{Interleaved, Sequential, Vidicon}
use Rattle.records.specs.declared.layout.Layout.{Layout}
use Rattle.machine.specs.Machines.{no_group}
use Rattle.machine.specs.declared.accepted.Accepted.{Accepted}
use Rattle.machine.specs.declared.machine.Group.{Group}
use Rattle.survey.specs.Laws.{Obeys}
use Rattle.survey.specs.Pictures.{picture, sheets, all_codes, all_rows, all_sheets}
use Rattle.survey.specs.Placed.{StoodFrom}
use Rattle.survey.specs.Recordings.{Files, Recording}
use Rattle.survey.specs.Validity.{body_length, content, width, bands_wide, ValidGroups}
use Rattle.survey.proofs.Steps.{six}
use Rattle.reader.specs.Bodies.{Delivery, line_in, line_answer, sheet_read, sheet_in, sheet_answer, ident_answer, body_at}
use Rattle.reader.specs.Finding.{index_of, codes, file_in, file_at, band_file, line_spot, sheet_spot}
use Rattle.reader.specs.declared.places.BandFile.{BandFile}
use Rattle.reader.specs.declared.places.Spot.{Spot}
use Rattle.reader.specs.Pictured.{pictured_ident, body_size, line_or, row_line, pictured_line, band_sheet, pictured_sheet, sheet_or, of_kind, no_sheets}
use Rattle.reader.proofs.Proper.{size_is}
use Rattle.reader.proofs.Bands.{Held, code_first, there, among}
use Rattle.reader.proofs.Shelves.{spot_read, sheet_stands}
use Rattle.reader.proofs.Standing.{line_stands}

-- A code is found inside its list.
pub index_under : (band : ℕ) (cs : List ℕ) (i0 i : ℕ) → index_of band cs i0 ≡ Some i → i < i0 + length cs
index_under band [] i0 i e = cc
index_under band (c ∷ cs) i0 i e = found (eqb c band) (index_under band cs (i0 + 1) i) e
  where
    found : (b : Bool) → (index_of band cs (i0 + 1) ≡ Some i → i < i0 + 1 + length cs) → cond b (Some i0) (index_of band cs (i0 + 1)) ≡ Some i → i < i0 + length (c ∷ cs)
    found true again e = let same : i0 ≡ i = cc in omega (arith, same)
    found false again e = let w = again e in omega (arith, w)

-- The file that a reader finds.
abbrev pub file_of : Form → Layout → List Group → ℕ → ℕ → BandFile
file_of Interleaved l t band i = record { group = get_or t 0 no_group; stride = stride l; first = band - 3 }
file_of Sequential l t band i = record { group = get_or t i no_group; stride = 1; first = 1 }
file_of Vidicon l t band i = record { group = get_or t 0 no_group; stride = 1; first = 1 }

-- What is held there.
module _ (tape : TapeSet) (l : Layout) (lines : ℕ) (t : List Group) (gs : List Files) (v : ValidGroups l lines 0 gs) (st : StoodFrom tape l t 0 gs) where
  abbrev pub Holds : BandFile → ℕ → Type 0
  Holds b i = Held tape l lines b.group b.stride b.first (get_or (all_rows l lines gs) i []) (get_or (all_sheets l gs) i no_sheets)

  one_group : (f : Form) → l.form ≡ f → (f ≡ Sequential → ⊥) → (gs : List Files) → ValidGroups l lines 0 gs → length gs ≡ 1
  one_group f e n [] v = absurd v
  one_group f e n (g ∷ []) v = refl
  one_group f e n (g ∷ (h ∷ gs)) v = absurd (n (sym e ∙ v.1.0))

  holds_one : (f : Form) → l.form ≡ f → (one : ℕ → ℕ) → ((b mask : ℕ) → content_of b mask f ≡ One (one b)) → bands_wide l ≡ 1 → (band i : ℕ) → index_of band (all_codes l gs) 0 ≡ Some i → Held tape l lines (get_or t i no_group) 1 1 (get_or (all_rows l lines gs) i []) (get_or (all_sheets l gs) i no_sheets)
  holds_one f e one single wide band i q =
      let p = there tape l lines t one (λ b mask. ap (content_of b mask) e ∙ single b mask) wide gs 0 0 band 0 i v st q in
      let z : i - 0 ≡ i = omega arith in
      let z2 : 0 + (i - 0) ≡ i = omega arith in
      subst (λ k. Held tape l lines (get_or t k no_group) 1 1 (get_or (all_rows l lines gs) i []) (get_or (all_sheets l gs) i no_sheets)) z2 (subst (λ k. Held tape l lines (get_or t (0 + (i - 0)) no_group) 1 1 (get_or (all_rows l lines gs) k []) (get_or (all_sheets l gs) k no_sheets)) z p.1)

  only_one : (f : Form) → l.form ≡ f → (f ≡ Sequential → ⊥) → (one : ℕ → ℕ) → ((b mask : ℕ) → content_of b mask f ≡ One (one b)) → bands_wide l ≡ 1 → (band i : ℕ) → index_of band (all_codes l gs) 0 ≡ Some i → i ≡ 0
  only_one f e n one single wide band i q =
      let long = one_code gs (one_group f e n gs v) in
      let under = index_under band (all_codes l gs) 0 i q in omega (arith, long, under)
    where
      one_code : (gs : List Files) → length gs ≡ 1 → length (all_codes l gs) ≡ 1
      one_code [] h = absurd (omega (arith, h))
      one_code (g ∷ []) h = ap length (code_first tape l lines t one (λ b mask. ap (content_of b mask) e ∙ single b mask) wide g [])
      one_code (g ∷ (g2 ∷ gs)) h = absurd (omega (arith, h))

  pub holds : (f : Form) → l.form ≡ f → (band i : ℕ) → index_of band (all_codes l gs) 0 ≡ Some i → Holds (file_of f l t band i) i
  holds Interleaved e band i q = mixed gs v st q
    where
      mixed : (gs : List Files) → ValidGroups l lines 0 gs → StoodFrom tape l t 0 gs → index_of band (all_codes l gs) 0 ≡ Some i → Held tape l lines (get_or t 0 no_group) (stride l) (band - 3) (get_or (all_rows l lines gs) i []) (get_or (all_sheets l gs) i no_sheets)
      mixed [] v st q = absurd v
      mixed (f ∷ []) v st q = among tape l lines 0 f (get_or t 0 no_group) e v.0 st.0 band i q
      mixed (f ∷ (g ∷ gs)) v st q = let other : Interleaved ≡ Sequential = sym e ∙ v.1.0 in cc
  holds Sequential e band i q = holds_one Sequential e (λ b. b - 48) (λ b mask. refl) (ap (λ k. width k (stride l)) e) band i q
  holds Vidicon e band i q =
      let wide = ap (λ k. width k (stride l)) e in
      let z = only_one Vidicon e (λ w. cc) (λ b. b) (λ b mask. refl) wide band i q in
      subst (λ k. Held tape l lines (get_or t k no_group) 1 1 (get_or (all_rows l lines gs) i []) (get_or (all_sheets l gs) i no_sheets)) z (holds_one Vidicon e (λ b. b) (λ b mask. refl) wide band i q)

  -- A line of the band at a place, where it is among them.
  pub found_line : (f : Form) → l.form ≡ f → (band i n : ℕ) → index_of band (all_codes l gs) 0 ≡ Some i → 1 ≤ n → n ≤ lines → body_at tape (line_spot (file_of f l t band i) l n) (record_length l.form) ≡ line_or (get_or (get_or (all_rows l lines gs) i []) (n - 1) None)
  found_line f e band i n q a b =
      let h = holds f e band i q in
      let file = file_of f l t band i in
      let from = h.first_some in
      line_stands tape l h.files file.group (content l h.files) ((n - 1) * file.stride + file.first) (six l.form) h.stood h.valid.begun h.valid.lines_fit (omega (arith, from)) (h.inside n a b)
      ∙ ap line_or (sym (h.line_is n a b))

  pub found_sheet : (f : Form) → l.form ≡ f → (band i kind index room : ℕ) → index_of band (all_codes l gs) 0 ≡ Some i → spot_read tape (record_length l.form) (sheet_spot (file_of f l t band i).group l kind index) room ≡ sheet_or (from_one (of_kind (get_or (all_sheets l gs) i no_sheets) kind) index) (body_length l) room
  found_sheet f e band i kind index room q =
      let h = holds f e band i q in
      sheet_stands tape l lines h.last h.files (file_of f l t band i).group (six l.form) h.valid h.stood kind index room
      ∙ ap (λ s. sheet_or (from_one (of_kind s kind) index) (body_length l) room) (sym h.sheets_are)

-- A line and a sheet by what a reader remembers.
abbrev pub file_with : Form → Layout → List Group → ℕ → Option ℕ → Option BandFile
file_with f l t band None = None
file_with f l t band (Some i) = Some (file_of f l t band i)

abbrev line_with : TapeSet → Layout → ℕ → Option BandFile → ℕ → ℕ → Delivery
line_with tape l lines None n room = Err 42
line_with tape l lines (Some f) n room =
    cond (leb 1 n && leb n lines)
    (cond (ltb room (record_length l.form - 6)) (Err 45) (body_at tape (line_spot f l n) (record_length l.form)))
    (Err 43)

abbrev sheet_with : TapeSet → Layout → Option BandFile → ℕ → ℕ → ℕ → Delivery
sheet_with tape l None kind index room = Err 42
sheet_with tape l (Some f) kind index room = spot_read tape (record_length l.form) (sheet_spot f.group l kind index) room

same_file : (a : Accepted) (f : Form) (band : ℕ) (o : Option ℕ) → a.summary.layout.form ≡ f → file_at a band o ≡ file_with f a.summary.layout a.places.table band o
same_file a f band None e = refl
same_file a f band (Some i) e = ap (λ k. Some (file_in k a band i)) e ∙ by_form f
  where
    by_form : (f : Form) → Some (file_in f a band i) ≡ Some (file_of f a.summary.layout a.places.table band i)
    by_form Interleaved = refl
    by_form Sequential = refl
    by_form Vidicon = refl

line_in_with : (tape : TapeSet) (a : Accepted) (o : Option BandFile) (n room : ℕ) → line_in tape a o n room ≡ line_with tape a.summary.layout a.summary.lines o n room
line_in_with tape a None n room = refl
line_in_with tape a (Some f) n room = refl

sheet_in_with : (tape : TapeSet) (a : Accepted) (o : Option BandFile) (kind index room : ℕ) → sheet_in tape a o kind index room ≡ sheet_with tape a.summary.layout o kind index room
sheet_in_with tape a None kind index room = refl
sheet_in_with tape a (Some f) kind index room = read (sheet_spot f.group a.summary.layout kind index)
  where
    read : (o : Option Spot) → sheet_read tape a o room ≡ spot_read tape (record_length a.summary.layout.form) o room
    read None = refl
    read (Some s) = refl

-- Every answer over an accepted set.
module _ (a : Accepted) (tape : TapeSet) (ob : Obeys a tape) where
  abbrev r : Recording
  r = ob.recording

  abbrev l : Layout
  l = ob.recording.layout

  -- The file of a band, by the recording's layout.
  pub file_is : (band : ℕ) → band_file a band ≡ file_with l.form l a.places.table band (index_of band (all_codes l r.groups) 0)
  file_is band =
      same_file a l.form band (index_of band (codes a) 0) (ap (λ (k : Layout). k.form) ob.layout)
      ∙ ap (λ k. file_with l.form k a.places.table band (index_of band (codes a) 0)) ob.layout
      ∙ ap (λ cs. file_with l.form l a.places.table band (index_of band cs 0)) ob.codes

  stood : StoodFrom tape l a.places.table 0 r.groups
  stood = ob.places

  picks_line : (band n room : ℕ) (o : Option ℕ) → index_of band (all_codes l r.groups) 0 ≡ o → line_with tape l r.lines (file_with l.form l a.places.table band o) n room ≡ row_line (picture r) o n room
  picks_line band n room None e = refl
  picks_line band n room (Some i) e = counted (leb 1 n && leb n r.lines) refl
    where
      counted : (b : Bool) → (leb 1 n && leb n r.lines) ≡ b → cond b (cond (ltb room (record_length l.form - 6)) (Err 45) (body_at tape (line_spot (file_of l.form l a.places.table band i) l n) (record_length l.form))) (Err 43) ≡ cond b (cond (ltb room (body_size (sensor_in l.form))) (Err 45) (line_or (get_or (get_or (all_rows l r.lines r.groups) i []) (n - 1) None))) (Err 43)
      counted true w =
          let p = and_parts (leb 1 n) (leb n r.lines) w in
          ap (λ k. cond (ltb room k) (Err 45) (body_at tape (line_spot (file_of l.form l a.places.table band i) l n) (record_length l.form))) (size_is l.form)
          ∙ ap (λ d. cond (ltb room (body_size (sensor_in l.form))) (Err 45) d) (found_line tape l r.lines a.places.table r.groups ob.valid.groups_valid stood l.form refl band i n e (leb-true 1 n p.0) (leb-true n r.lines p.1))
      counted false w = refl

  pub line-pictured : (band n room : ℕ) → line_answer tape (Some a) band n room ≡ pictured_line (picture r) band n room
  line-pictured band n room =
      line_in_with tape a (band_file a band) n room
      ∙ ap (λ k. line_with tape a.summary.layout a.summary.lines k n room) (file_is band)
      ∙ ap (λ k. line_with tape k a.summary.lines (file_with l.form l a.places.table band (index_of band (all_codes l r.groups) 0)) n room) ob.layout
      ∙ ap (λ k. line_with tape l k (file_with l.form l a.places.table band (index_of band (all_codes l r.groups) 0)) n room) ob.lines
      ∙ picks_line band n room (index_of band (all_codes l r.groups) 0) refl

  picks_sheet : (band kind index room : ℕ) (o : Option ℕ) → index_of band (all_codes l r.groups) 0 ≡ o → sheet_with tape l (file_with l.form l a.places.table band o) kind index room ≡ band_sheet (picture r) (sheets r) o kind index room
  picks_sheet band kind index room None e = refl
  picks_sheet band kind index room (Some i) e =
      found_sheet tape l r.lines a.places.table r.groups ob.valid.groups_valid stood l.form refl band i kind index room e
      ∙ ap (λ k. sheet_or (from_one (of_kind (get_or (all_sheets l r.groups) i no_sheets) kind) index) k room) (size_is l.form)

  pub sheet_pictured : (band kind index room : ℕ) → sheet_answer tape (Some a) band kind index room ≡ pictured_sheet (picture r) (sheets r) band kind index room
  sheet_pictured band kind index room =
      sheet_in_with tape a (band_file a band) kind index room
      ∙ ap (λ k. sheet_with tape a.summary.layout k kind index room) (file_is band)
      ∙ ap (λ k. sheet_with tape k (file_with l.form l a.places.table band (index_of band (all_codes l r.groups) 0)) kind index room) ob.layout
      ∙ picks_sheet band kind index room (index_of band (all_codes l r.groups) 0) refl

  pub ident_pictured : (room : ℕ) → ident_answer (Some a) room ≡ pictured_ident (picture r) room
  ident_pictured room = ap (λ k. cond (ltb room 18) (Err 45) (Ok k)) ob.ident
