-- The image file of a band, by the place of its code in the picture.
use Rattle.std.proofs.Common.{◌≡◌, ℕ, zero, suc, ◌+◌, ◌-◌, ◌*◌, ◌/◌, ◌%◌, ◌<◌, ◌≤◌, Bool, true, false, cond, ◌&&◌, ◌||◌, eqb, ltb, List, [], ◌∷◌, ◌++◌, map, length, get_or, Some, None, sym, refl, ap, ◌∙◌, subst, append-nil, arith}
use Rattle.std.proofs.lemmas.Bool.{eqb-true, and_parts}
use Rattle.deck.specs.Tape.{TapeSet}
use Rattle.records.specs.Bands.{present}
use Rattle.records.specs.Headers.{bands_in, content_of}
use Rattle.records.specs.Layouts.{stride}
use Rattle.records.specs.Records.{byte}
use Rattle.records.specs.declared.header.Content.TheVariants.{One, Mixed}
use Rattle.records.specs.declared.layout.Form.TheVariants.{Interleaved}
use Rattle.records.specs.declared.layout.Layout.{Layout}
use Rattle.machine.specs.Machines.{band_of, no_group}
use Rattle.machine.specs.declared.machine.Group.{Group}
use Rattle.survey.specs.Pictures.{Sheets, sheets_of, all_codes, all_rows, all_sheets, codes_in, rows_in, every, if_there, places_in}
use Rattle.survey.specs.Placed.{Stood, StoodFrom}
use Rattle.survey.specs.Recordings.{Line, Files}
use Rattle.survey.specs.Validity.{content, header_record, all_lines, width, bands_wide, ValidFiles, ValidGroups}
use Rattle.reader.specs.Finding.{index_of}
use Rattle.reader.specs.Pictured.{no_sheets}
use Rattle.reader.proofs.Proper.{head_valid}

-- The file of one band: which files, where they stand, its sheets and its row.
pub record Held (tape : TapeSet) (l : Layout) (lines : ℕ) (g : Group) (step from : ℕ) (row : List Line) (sheets : Sheets) : Type 0 where
  pub files : Files
  pub last : ℕ
  pub valid : ValidFiles l lines last files
  pub stood : Stood tape l files g
  pub sheets_are : sheets ≡ sheets_of files
  pub first_some : 1 ≤ from
  pub inside : (n : ℕ) → 1 ≤ n → n ≤ lines → (n - 1) * step + from ≤ length (all_lines files.parts)
  pub line_is : (n : ℕ) → 1 ≤ n → n ≤ lines → get_or row (n - 1) None ≡ get_or (all_lines files.parts) ((n - 1) * step + from - 1) None

-- Bands in files of their own.
module _ (tape : TapeSet) (l : Layout) (lines : ℕ) (t : List Group) (one : ℕ → ℕ) (single : (b mask : ℕ) → content_of b mask l.form ≡ One (one b)) (alone : bands_wide l ≡ 1) where
  is_one : (f : Files) → content l f ≡ One (one (byte (header_record f) 136))
  is_one f = single (byte (header_record f) 136) (byte (header_record f) 3586)

  pub code_first : (f : Files) (gs : List Files) → all_codes l (f ∷ gs) ≡ one (byte (header_record f) 136) ∷ all_codes l gs
  code_first f gs = ap (λ c. codes_in c ++ all_codes l gs) (is_one f)

  row_first : (f : Files) (gs : List Files) → all_rows l lines (f ∷ gs) ≡ all_lines f.parts ∷ all_rows l lines gs
  row_first f gs = ap (λ c. rows_in c (stride l) lines (all_lines f.parts) ++ all_rows l lines gs) (is_one f)

  sheet_first : (f : Files) (gs : List Files) → all_sheets l (f ∷ gs) ≡ sheets_of f ∷ all_sheets l gs
  sheet_first f gs = ap (λ c. map (λ code. sheets_of f) (codes_in c) ++ all_sheets l gs) (is_one f)

  here : (f : Files) (gs : List Files) (last c : ℕ) → ValidFiles l lines last f → Stood tape l f (get_or t c no_group) → Held tape l lines (get_or t c no_group) 1 1 (get_or (all_rows l lines (f ∷ gs)) 0 []) (get_or (all_sheets l (f ∷ gs)) 0 no_sheets)
  here f gs last c v s =
      let many = v.lines_many in
      let n_lines : length (all_lines f.parts) ≡ lines = let w = ap (λ k. lines * k) alone in omega (arith, many, w) in record {
        files = f;
        last = last;
        valid = v;
        stood = s;
        sheets_are = ap (λ ss. get_or ss 0 no_sheets) (sheet_first f gs);
        first_some = omega arith;
        inside = λ n a b. omega (arith, n_lines);
        line_is = λ n a b. let e : n - 1 ≡ (n - 1) * 1 + 1 - 1 = omega arith in ap (λ rs. get_or (get_or rs 0 []) (n - 1) None) (row_first f gs) ∙ ap (λ k. get_or (all_lines f.parts) k None) e;
      }

  pub there : (gs : List Files) (last c band i0 i : ℕ) → ValidGroups l lines last gs → StoodFrom tape l t c gs → index_of band (all_codes l gs) i0 ≡ Some i → (i0 ≤ i) × Held tape l lines (get_or t (c + (i - i0)) no_group) 1 1 (get_or (all_rows l lines gs) (i - i0) []) (get_or (all_sheets l gs) (i - i0) no_sheets)
  there [] last c band i0 i v s e = absurd v
  there (f ∷ gs) last c band i0 i v s e = found gs v s (there gs) (eqb (one (byte (header_record f) 136)) band) (sym (ap (λ cs. index_of band cs i0) (code_first f gs)) ∙ e)
    where
      found : (gs : List Files) → ValidGroups l lines last (f ∷ gs) → StoodFrom tape l t c (f ∷ gs) → ((last c band i0 i : ℕ) → ValidGroups l lines last gs → StoodFrom tape l t c gs → index_of band (all_codes l gs) i0 ≡ Some i → (i0 ≤ i) × Held tape l lines (get_or t (c + (i - i0)) no_group) 1 1 (get_or (all_rows l lines gs) (i - i0) []) (get_or (all_sheets l gs) (i - i0) no_sheets)) → (b : Bool) → cond b (Some i0) (index_of band (all_codes l gs) (i0 + 1)) ≡ Some i → (i0 ≤ i) × Held tape l lines (get_or t (c + (i - i0)) no_group) 1 1 (get_or (all_rows l lines (f ∷ gs)) (i - i0) []) (get_or (all_sheets l (f ∷ gs)) (i - i0) no_sheets)
      found gs v s again true e =
          let same : i0 ≡ i = cc in
          let z : 0 ≡ i - i0 = omega (arith, same) in
          let at : c ≡ c + (i - i0) = omega (arith, same) in
          (omega (arith, same), subst (λ k. Held tape l lines (get_or t k no_group) 1 1 (get_or (all_rows l lines (f ∷ gs)) (i - i0) []) (get_or (all_sheets l (f ∷ gs)) (i - i0) no_sheets)) at (subst (λ k. Held tape l lines (get_or t c no_group) 1 1 (get_or (all_rows l lines (f ∷ gs)) k []) (get_or (all_sheets l (f ∷ gs)) k no_sheets)) z (here f gs last c (head_valid l lines last f gs v) s.0)))
      found [] v s again false e = cc
      found (g ∷ gs) v s again false e =
          let p = again (band_of (content l f)) (c + 1) band (i0 + 1) i v.1.1 s.1 e in
          let under = p.0 in
          let next : suc (i - (i0 + 1)) ≡ i - i0 = omega (arith, under) in
          let at : c + 1 + (i - (i0 + 1)) ≡ c + (i - i0) = omega (arith, under) in
          let rows : get_or (all_rows l lines (g ∷ gs)) (i - (i0 + 1)) [] ≡ get_or (all_rows l lines (f ∷ (g ∷ gs))) (i - i0) [] = sym (ap (λ rs. get_or rs (suc (i - (i0 + 1))) []) (row_first f (g ∷ gs))) ∙ ap (λ k. get_or (all_rows l lines (f ∷ (g ∷ gs))) k []) next in
          let shs : get_or (all_sheets l (g ∷ gs)) (i - (i0 + 1)) no_sheets ≡ get_or (all_sheets l (f ∷ (g ∷ gs))) (i - i0) no_sheets = sym (ap (λ rs. get_or rs (suc (i - (i0 + 1))) no_sheets) (sheet_first f (g ∷ gs))) ∙ ap (λ k. get_or (all_sheets l (f ∷ (g ∷ gs))) k no_sheets) next in
          (omega (arith, under), subst (λ k. Held tape l lines (get_or t k no_group) 1 1 (get_or (all_rows l lines (f ∷ (g ∷ gs))) (i - i0) []) (get_or (all_sheets l (f ∷ (g ∷ gs))) (i - i0) no_sheets)) at (subst (λ r. Held tape l lines (get_or t (c + 1 + (i - (i0 + 1))) no_group) 1 1 r (get_or (all_sheets l (f ∷ (g ∷ gs))) (i - i0) no_sheets)) rows (subst (λ q. Held tape l lines (get_or t (c + 1 + (i - (i0 + 1))) no_group) 1 1 (get_or (all_rows l lines (g ∷ gs)) (i - (i0 + 1)) []) q) shs p.1)))

-- Interleaved bands.
-- One step more through lines of so many bands.
pub step_more : (b : Bool) (from j : ℕ) → from + cond b 5 4 + j * cond b 5 4 ≡ from + suc j * cond b 5 4
step_more true from j = omega arith
step_more false from j = omega arith

pub every_at : (b : Bool) (xs : List Line) (n from j : ℕ) → j < n → get_or (every (cond b 5 4) from n xs) j None ≡ get_or xs (from + j * cond b 5 4) None
every_at b xs zero from j h = absurd (omega arith)
every_at b xs (suc n) from zero h = ap (λ k. get_or xs k None) (none_yet b from)
  where
    none_yet : (b : Bool) (from : ℕ) → from ≡ from + 0 * cond b 5 4
    none_yet true from = omega arith
    none_yet false from = omega arith
every_at b xs (suc n) from (suc j) h = every_at b xs n (from + cond b 5 4) j (omega arith) ∙ ap (λ k. get_or xs k None) (step_more b from j)

pub within : (b : Bool) (n lines place : ℕ) → 1 ≤ n → n ≤ lines → place < cond b 5 4 → (n - 1) * cond b 5 4 + (place + 1) ≤ lines * cond b 5 4
within true n lines place a h p = omega arith
within false n lines place a h p = omega arith

pub index_again : (b : Bool) (n place : ℕ) → place + (n - 1) * cond b 5 4 ≡ (n - 1) * cond b 5 4 + (place + 1) - 1
index_again true n place = omega arith
index_again false n place = omega arith

-- The bands present have a place among the mission's.
abbrev pub Below : ℕ → List ℕ → Type 0
Below bound [] = Unit {0}
Below bound (p ∷ ps) = (p < bound) × Below bound ps

pub below_both : (bound : ℕ) (xs ys : List ℕ) → Below bound xs → Below bound ys → Below bound (xs ++ ys)
below_both bound [] ys a b = b
below_both bound (x ∷ xs) ys a b = (a.0, below_both bound xs ys a.1 b)

pub below_if : (bound mask place : ℕ) → (present mask place ≡ true → place < bound) → Below bound (if_there mask place)
below_if bound mask place h = either (present mask place) h
  where
    either : (b : Bool) → (b ≡ true → place < bound) → Below bound (cond b (place ∷ []) [])
    either true h = (h refl, tt)
    either false h = tt

four_or_five : (b : Bool) → 4 ≤ cond b 5 4
four_or_five true = omega arith
four_or_five false = omega arith

fifth : (mission mask : ℕ) → (eqb mission 3 || eqb (mask % 2) 0) ≡ true → present mask 4 ≡ true → 4 < cond (eqb mission 3) 5 4
fifth mission mask e p = either (eqb mission 3) e
  where
    either : (b : Bool) → (b || eqb (mask % 2) 0) ≡ true → 4 < cond b 5 4
    either true e = omega arith
    either false e =
        let odd = eqb-true (mask / 1 % 2) 1 p in
        let even = eqb-true (mask % 2) 0 e in absurd (omega (arith, odd, even))

pub places_below : (mission mask : ℕ) → bands_in Interleaved mission mask ≡ true → Below (cond (eqb mission 3) 5 4) (places_in mask)
places_below mission mask e =
    let bound = cond (eqb mission 3) 5 4 in
    let four = four_or_five (eqb mission 3) in
    let p = and_parts (ltb 0 mask) (ltb mask 32 && (eqb mission 3 || eqb (mask % 2) 0)) e in
    let q = and_parts (ltb mask 32) (eqb mission 3 || eqb (mask % 2) 0) p.1 in
    below_both bound (if_there mask 0) _ (below_if bound mask 0 (λ h. omega (arith, four)))
    (below_both bound (if_there mask 1) _ (below_if bound mask 1 (λ h. omega (arith, four)))
    (below_both bound (if_there mask 2) _ (below_if bound mask 2 (λ h. omega (arith, four)))
    (below_both bound (if_there mask 3) (if_there mask 4) (below_if bound mask 3 (λ h. omega (arith, four)))
    (below_if bound mask 4 (λ h. fifth mission mask q.1 h)))))

-- The place of a band that is found.
record Placed {X : Type 0} (bound band i : ℕ) (ps : List ℕ) (h : ℕ → X) (none : X) : Type 0 where
  place : ℕ
  code : band ≡ 4 + place
  under : place < bound
  is : get_or (map h ps) i none ≡ h place

placed : {X : Type 0} (bound band i0 i : ℕ) (ps : List ℕ) (h : ℕ → X) (none : X) → Below bound ps → index_of band (map (λ k. 4 + k) ps) i0 ≡ Some i → (i0 ≤ i) × Placed bound band (i - i0) ps h none
placed bound band i0 i [] h none below e = cc
placed {X} bound band i0 i (p ∷ ps) h none below e = found (eqb (4 + p) band) refl (λ k. placed bound band (i0 + 1) i ps h none below.1 k) e
  where
    found : (b : Bool) → eqb (4 + p) band ≡ b → (index_of band (map (λ k. 4 + k) ps) (i0 + 1) ≡ Some i → (i0 + 1 ≤ i) × Placed bound band (i - (i0 + 1)) ps h none) → cond b (Some i0) (index_of band (map (λ k. 4 + k) ps) (i0 + 1)) ≡ Some i → (i0 ≤ i) × Placed bound band (i - i0) (p ∷ ps) h none
    found true same again e =
        let at : i0 ≡ i = cc in
        let is = eqb-true (4 + p) band same in
        let z : i - i0 ≡ 0 = omega (arith, at) in
        (omega (arith, at), record { place = p; code = sym is; under = below.0; is = ap (λ k. get_or (map h (p ∷ ps)) k none) z })
    found false same again e =
        let r = again e in
        let under = r.0 in
        let q = r.1 in
        let next : i - i0 ≡ suc (i - (i0 + 1)) = omega (arith, under) in
        (omega (arith, under), record { place = q.place; code = q.code; under = q.under; is = ap (λ k. get_or (map h (p ∷ ps)) k none) next ∙ q.is })

module _ (tape : TapeSet) (l : Layout) (lines last : ℕ) (f : Files) (g : Group) (mixed : l.form ≡ Interleaved) (v : ValidFiles l lines last f) (st : Stood tape l f g) where
  abbrev mask : ℕ
  mask = byte (header_record f) 3586

  is_mixed : content l f ≡ Mixed mask
  is_mixed = ap (content_of (byte (header_record f) 136) mask) mixed

  below : Below (stride l) (places_in mask)
  below = places_below l.mission mask (subst (λ k. bands_in k l.mission mask ≡ true) mixed v.header_bands)

  full : length (all_lines f.parts) ≡ lines * stride l
  full = v.lines_many ∙ ap (λ k. lines * width k (stride l)) mixed

  rows_are : all_rows l lines (f ∷ []) ≡ map (λ place. every (stride l) place lines (all_lines f.parts)) (places_in mask)
  rows_are = append-nil (rows_in (content l f) (stride l) lines (all_lines f.parts)) ∙ ap (λ c. rows_in c (stride l) lines (all_lines f.parts)) is_mixed

  sheets_all : all_sheets l (f ∷ []) ≡ map (λ place. sheets_of f) (places_in mask)
  sheets_all = append-nil (map (λ code. sheets_of f) (codes_in (content l f))) ∙ ap (λ c. map (λ code. sheets_of f) (codes_in c)) is_mixed ∙ twice (places_in mask)
    where
      twice : (ps : List ℕ) → map (λ (code : ℕ). sheets_of f) (map (λ k. 4 + k) ps) ≡ map (λ (place : ℕ). sheets_of f) ps
      twice [] = refl
      twice (p ∷ ps) = ap (λ k. sheets_of f ∷ k) (twice ps)

  pub among : (band i : ℕ) → index_of band (all_codes l (f ∷ [])) 0 ≡ Some i → Held tape l lines g (stride l) (band - 3) (get_or (all_rows l lines (f ∷ [])) i []) (get_or (all_sheets l (f ∷ [])) i no_sheets)
  among band i e =
      let found = sym (ap (λ cs. index_of band cs 0) (append-nil (codes_in (content l f)) ∙ ap codes_in is_mixed)) ∙ e in
      let p = (placed (stride l) band 0 i (places_in mask) (λ place. every (stride l) place lines (all_lines f.parts)) [] below found).1 in
      let q = (placed (stride l) band 0 i (places_in mask) (λ place. sheets_of f) no_sheets below found).1 in
      let z : i - 0 ≡ i = omega arith in
      let code = p.code in
      let from : p.place + 1 ≡ band - 3 = omega (arith, code) in
      let under = p.under in
      let row_is : get_or (all_rows l lines (f ∷ [])) i [] ≡ every (stride l) p.place lines (all_lines f.parts) = ap (λ rs. get_or rs i []) rows_are ∙ ap (λ k. get_or (map (λ place. every (stride l) place lines (all_lines f.parts)) (places_in mask)) k []) (sym z) ∙ p.is in
      let long = full in record {
        files = f;
        last = last;
        valid = v;
        stood = st;
        sheets_are = ap (λ rs. get_or rs i no_sheets) sheets_all ∙ ap (λ k. get_or (map (λ place. sheets_of f) (places_in mask)) k no_sheets) (sym z) ∙ q.is;
        first_some = omega (arith, code);
        inside = λ n a b. let w = within (eqb l.mission 3) n lines p.place a b under in omega (arith, w, long, from);
        line_is = λ n a b. ap (λ r. get_or r (n - 1) None) row_is ∙ every_at (eqb l.mission 3) (all_lines f.parts) lines p.place (n - 1) (omega arith) ∙ ap (λ k. get_or (all_lines f.parts) k None) (index_again (eqb l.mission 3) n p.place ∙ ap (λ k. (n - 1) * stride l + k - 1) from);
      }
