-- Interleaved bands, each written into a group of its own: the groups are valid, show the same picture, and stand on one reel.
use Rattle.std.proofs.Common.{◌≡◌, ℕ, zero, suc, ◌+◌, ◌-◌, ◌/◌, ◌%◌, ◌<◌, ◌≤◌, Bool, true, false, cond, ◌&&◌, ◌||◌, eqb, ltb, leb, List, [], ◌∷◌, ◌++◌, map, length, get_or, set, Some, None, sym, refl, ap, ◌∙◌, subst, append-nil, arith, length-set}
use Rattle.std.proofs.lemmas.List.{get_or-set_same, get_or-set_other}
use Rattle.std.proofs.lemmas.Bool.{eq-eqb, eqb-true, eqb-false, le-leb, lt-ltb, leb-false, ltb-true, and_parts, and_from, or_left, or_right}
use Rattle.deck.specs.Tape.{Reel}
use Rattle.records.specs.Bands.{present}
use Rattle.records.specs.Headers.{counts_fit, band_in, trailers_fit, bands_in}
use Rattle.records.specs.Layouts.{ancillaries, annotations, stride}
use Rattle.records.specs.Records.{byte}
use Rattle.records.specs.declared.header.Content.{Content}
use Rattle.records.specs.declared.header.Content.TheVariants.{One}
use Rattle.records.specs.declared.layout.Correction.{Correction}
use Rattle.records.specs.declared.layout.Form.{Form}
use Rattle.records.specs.declared.layout.Form.TheVariants.{Interleaved, Sequential, Vidicon}
use Rattle.records.specs.declared.layout.Layout.{Layout}
use Rattle.machine.specs.Machines.{band_of}
use Rattle.survey.specs.Pictures.{all_codes, all_rows, codes_in, rows_in, every, if_there, places_in}
use Rattle.survey.specs.Recordings.{Body, Line, Files, Recording, record_of, part, before, attributes_file, trailer_file, stretches}
use Rattle.survey.specs.Validity.{body_length, content, header_record, Begun, AllFit, all_lines, ValidFiles, ValidGroups, Valid}
use Rattle.survey.proofs.Stretches.{length_before}
use Rattle.turner.specs.Changes.{header_by_band}
use Rattle.turner.specs.Turns.{other_layout, with_lines, band_by_band, turned_groups, turn}

abbrev laid : Form → ℕ → Correction → Layout
laid f mission c = record { form = f; mission = mission; correction = c }

-- The bytes of a header for one band. Byte n of a record stands at the place n - 7 of its body.
kept : (h : Body) (d n : ℕ) → (n ≡ 113 → ⊥) → (n ≡ 114 → ⊥) → (n ≡ 129 → ⊥) → get_or (header_by_band d h) n 0 ≡ get_or h n 0
kept h d n a b c = get_or-set_other (set (set h 113 0) 114 0) 129 n d 0 c ∙ get_or-set_other (set h 113 0) 114 n 0 0 b ∙ get_or-set_other h 113 n 0 0 a

order_put : (h : Body) (d : ℕ) → length h ≡ 3590 → get_or (header_by_band d h) 113 0 ≡ 0
order_put h d whole =
    get_or-set_other (set (set h 113 0) 114 0) 129 113 d 0 (λ e. omega arith)
    ∙ get_or-set_other (set h 113 0) 114 113 0 0 (λ e. omega arith)
    ∙ get_or-set_same h 113 0 0 (omega arith)

bands_put : (h : Body) (d : ℕ) → length h ≡ 3590 → get_or (header_by_band d h) 114 0 ≡ 0
bands_put h d whole =
    let one = length-set h 113 0 in
    get_or-set_other (set (set h 113 0) 114 0) 129 114 d 0 (λ e. omega arith) ∙ get_or-set_same (set h 113 0) 114 0 0 (omega (arith, one))

digit-put : (h : Body) (d : ℕ) → length h ≡ 3590 → get_or (header_by_band d h) 129 0 ≡ d
digit-put h d whole =
    let one = length-set h 113 0 in
    let two = length-set (set h 113 0) 114 0 in
    get_or-set_same (set (set h 113 0) 114 0) 129 d 0 (omega (arith, one, two))

length-put : (h : Body) (d : ℕ) → length (header_by_band d h) ≡ length h
length-put h d = simp length-set

-- Six tests, four of them as before.
six_tests : (a b c d e f a' b' c' d' e' f' : Bool) → a' ≡ a → b' ≡ b → c' ≡ c → d' ≡ d → e' ≡ true → f' ≡ true → (a && (b && (c && (d && (e && f))))) ≡ true → (a' && (b' && (c' && (d' && (e' && f'))))) ≡ true
six_tests a b c d e f a' b' c' d' e' f' sa sb sc sd se sf h =
    let one = and_parts a (b && (c && (d && (e && f)))) h in
    let two = and_parts b (c && (d && (e && f))) one.1 in
    let three = and_parts c (d && (e && f)) two.1 in
    let four = and_parts d (e && f) three.1 in
    and_from a' (b' && (c' && (d' && (e' && f')))) (sa ∙ one.0)
    (and_from b' (c' && (d' && (e' && f'))) (sb ∙ two.0)
    (and_from c' (d' && (e' && f')) (sc ∙ three.0)
    (and_from d' (e' && f') (sd ∙ four.0)
    (and_from e' f' se sf))))

counts_put : (mission : ℕ) (c : Correction) (h : Body) (d : ℕ) → length h ≡ 3590 → counts_fit (record_of 1 18 h) (laid Interleaved mission c) ≡ true → counts_fit (record_of 1 18 (header_by_band d h)) (laid Sequential mission c) ≡ true
counts_put mission c h d whole fits =
    let new = header_by_band d h in
    let many = ancillaries (laid Sequential mission c) in
    six_tests
    (eqb (get_or h 94 0) 0)
    (eqb (get_or h 95 0) (annotations c))
    (eqb (get_or h 98 0) 0)
    (eqb (get_or h 99 0) many)
    (eqb (get_or h 113 0) 255)
    (eqb (get_or h 114 0) (stride (laid Interleaved mission c)))
    (eqb (get_or new 94 0) 0)
    (eqb (get_or new 95 0) (annotations c))
    (eqb (get_or new 98 0) 0)
    (eqb (get_or new 99 0) many)
    (eqb (get_or new 113 0) 0)
    (eqb (get_or new 114 0) 0)
    (ap (λ k. eqb k 0) (kept h d 94 (λ e. omega arith) (λ e. omega arith) (λ e. omega arith)))
    (ap (λ k. eqb k (annotations c)) (kept h d 95 (λ e. omega arith) (λ e. omega arith) (λ e. omega arith)))
    (ap (λ k. eqb k 0) (kept h d 98 (λ e. omega arith) (λ e. omega arith) (λ e. omega arith)))
    (ap (λ k. eqb k many) (kept h d 99 (λ e. omega arith) (λ e. omega arith) (λ e. omega arith)))
    (eq-eqb (get_or new 113 0) 0 (order_put h d whole))
    (eq-eqb (get_or new 114 0) 0 (bands_put h d whole))
    fits

trailers-kept : (h : Body) (d : ℕ) → get_or (header_by_band d h) 138 0 ≡ get_or h 138 0
trailers-kept h d = kept h d 138 (λ e. omega arith) (λ e. omega arith) (λ e. omega arith)

trailers-put : (h : Body) (d : ℕ) → trailers_fit (record_of 1 18 h) ≡ true → trailers_fit (record_of 1 18 (header_by_band d h)) ≡ true
trailers-put h d fits =
    ap (λ k. eqb k 0 && (leb 1 (get_or (header_by_band d h) 138 0) && leb (get_or (header_by_band d h) 138 0) 5)) (kept h d 137 (λ e. omega arith) (λ e. omega arith) (λ e. omega arith))
    ∙ ap (λ k. eqb (get_or h 137 0) 0 && (leb 1 k && leb k 5)) (trailers-kept h d)
    ∙ fits

-- The digit of a band that the mission has, above the last.
high : (three : Bool) (b : ℕ) → b < 52 + cond three 5 4 → (leb b 55 || (eqb b 56 && three)) ≡ true
high false b h = or_left (leb b 55) (eqb b 56 && false) (le-leb b 55 (omega (arith, h)))
high true b h = either (leb b 55) refl
  where
    either : (t : Bool) → leb b 55 ≡ t → (leb b 55 || (eqb b 56 && true)) ≡ true
    either true e = or_left (leb b 55) (eqb b 56 && true) e
    either false e = let above = leb-false b 55 e in or_right (leb b 55) (eqb b 56 && true) (and_from (eqb b 56) true (eq-eqb b 56 (omega (arith, above, h))) refl)

digit-fits : (mission last b : ℕ) → 52 ≤ b → b < 52 + cond (eqb mission 3) 5 4 → last + 48 < b → band_in Sequential mission last b ≡ true
digit-fits mission last b low under above =
    and_from (leb 52 b) ((leb b 55 || (eqb b 56 && eqb mission 3)) && ltb (last + 48) b) (le-leb 52 b low)
    (and_from (leb b 55 || (eqb b 56 && eqb mission 3)) (ltb (last + 48) b) (high (eqb mission 3) b under) (lt-ltb (last + 48) b above))

-- The places of the bands present rise, and are below the number of the mission's bands.
abbrev Spread : ℕ → ℕ → List ℕ → Type 0
Spread bound k [] = Unit {0}
Spread bound k (p ∷ ps) = ((k ≤ p) × (p < bound)) × Spread bound (p + 1) ps

spread_less : (bound k n : ℕ) (ps : List ℕ) → k ≤ n → Spread bound n ps → Spread bound k ps
spread_less bound k n [] h f = tt
spread_less bound k n (p ∷ ps) h f = let w = f.0.0 in ((omega (arith, w), f.0.1), f.1)

spread_more : (b : Bool) (bound p : ℕ) (ps : List ℕ) → (b ≡ true → p < bound) → Spread bound (p + 1) ps → Spread bound p (cond b (p ∷ []) [] ++ ps)
spread_more true bound p ps h f = ((omega arith, h refl), f)
spread_more false bound p ps h f = spread_less bound p (p + 1) ps (omega arith) f

four_or_five : (b : Bool) → 4 ≤ cond b 5 4
four_or_five true = omega arith
four_or_five false = omega arith

fifth : (mission mask : ℕ) → (eqb mission 3 || eqb (mask % 2) 0) ≡ true → present mask 4 ≡ true → 4 < cond (eqb mission 3) 5 4
fifth mission mask e p = either (eqb mission 3) e
  where
    either : (b : Bool) → (b || eqb (mask % 2) 0) ≡ true → 4 < cond b 5 4
    either true e = omega arith
    either false e =
        let odd = eqb-true (mask / 1 % 2) 1 p in
        let even = eqb-true (mask % 2) 0 e in absurd (omega (arith, odd, even))

-- At least one band is present.
one_of_five : (a b c d e : Bool) → (a ≡ false → b ≡ false → c ≡ false → d ≡ false → e ≡ false → ⊥) → 1 ≤ length {A = ℕ} (cond a (0 ∷ []) [] ++ (cond b (1 ∷ []) [] ++ (cond c (2 ∷ []) [] ++ (cond d (3 ∷ []) [] ++ cond e (4 ∷ []) []))))
one_of_five true b c d e h = omega arith
one_of_five false true c d e h = omega arith
one_of_five false false true d e h = omega arith
one_of_five false false false true e h = omega arith
one_of_five false false false false true h = omega arith
one_of_five false false false false false h = absurd (h refl refl refl refl refl)

below_16 : (mask : ℕ) → mask < 32 → present mask 0 ≡ false → mask < 16
below_16 mask h e = let a = eqb-false (mask / 16 % 2) 1 e in omega (arith, a)

below_8 : (mask : ℕ) → mask < 16 → present mask 1 ≡ false → mask < 8
below_8 mask h e = let a = eqb-false (mask / 8 % 2) 1 e in omega (arith, a)

below_4 : (mask : ℕ) → mask < 8 → present mask 2 ≡ false → mask < 4
below_4 mask h e = let a = eqb-false (mask / 4 % 2) 1 e in omega (arith, a)

below_2 : (mask : ℕ) → mask < 4 → present mask 3 ≡ false → mask < 2
below_2 mask h e = let a = eqb-false (mask / 2 % 2) 1 e in omega (arith, a)

below_1 : (mask : ℕ) → mask < 2 → present mask 4 ≡ false → mask < 1
below_1 mask h e = let a = eqb-false (mask / 1 % 2) 1 e in omega (arith, a)

no_bit : (mask : ℕ) → 0 < mask → mask < 32 → present mask 0 ≡ false → present mask 1 ≡ false → present mask 2 ≡ false → present mask 3 ≡ false → present mask 4 ≡ false → ⊥
no_bit mask some few a b c d e =
    let none = below_1 mask (below_2 mask (below_4 mask (below_8 mask (below_16 mask few a) b) c) d) e in omega (arith, some, none)

record Places (mission mask : ℕ) : Type 0 where
  spread : Spread (cond (eqb mission 3) 5 4) 0 (places_in mask)
  some : 1 ≤ length (places_in mask)

places_are : (mission mask : ℕ) → bands_in Interleaved mission mask ≡ true → Places mission mask
places_are mission mask e =
    let bound = cond (eqb mission 3) 5 4 in
    let four = four_or_five (eqb mission 3) in
    let p = and_parts (ltb 0 mask) (ltb mask 32 && (eqb mission 3 || eqb (mask % 2) 0)) e in
    let q = and_parts (ltb mask 32) (eqb mission 3 || eqb (mask % 2) 0) p.1 in
    record {
      spread =
          spread_more (present mask 0) bound 0 _ (λ h. omega (arith, four))
          (spread_more (present mask 1) bound 1 _ (λ h. omega (arith, four))
          (spread_more (present mask 2) bound 2 _ (λ h. omega (arith, four))
          (spread_more (present mask 3) bound 3 (if_there mask 4) (λ h. omega (arith, four))
          (subst (Spread bound 4) (append-nil (if_there mask 4)) (spread_more (present mask 4) bound 4 [] (λ h. fifth mission mask q.1 h) tt)))));
      some = one_of_five (present mask 0) (present mask 1) (present mask 2) (present mask 3) (present mask 4) (no_bit mask (ltb-true 0 mask p.0) (ltb-true mask 32 q.0));
    }

-- The lines of a band: so many, and whole where they can be read.
abbrev Sized : ℕ → Line → Type 0
Sized size None = Unit {0}
Sized size (Some body) = length body ≡ size

abbrev SizedAll : ℕ → List Line → Type 0
SizedAll size [] = Unit {0}
SizedAll size (x ∷ xs) = Sized size x × SizedAll size xs

sized_at : (size j : ℕ) (xs : List Line) → SizedAll size xs → Sized size (get_or xs j None)
sized_at size j [] a = tt
sized_at size zero (x ∷ xs) a = a.0
sized_at size (suc j) (x ∷ xs) a = sized_at size j xs a.1

sized_fit : (l : Layout) (c : Content) (i : ℕ) (xs : List Line) → AllFit l c i xs → SizedAll (body_length l) xs
sized_fit l c i [] a = tt
sized_fit l c i (Some body ∷ xs) a = (a.0.0, sized_fit l c (i + 1) xs a.1)
sized_fit l c i (None ∷ xs) a = (tt, sized_fit l c (i + 1) xs a.1)

sized_every : (size step from n : ℕ) (xs : List Line) → SizedAll size xs → SizedAll size (every step from n xs)
sized_every size step from zero xs a = tt
sized_every size step from (suc n) xs a = (sized_at size from xs a, sized_every size step (from + step) n xs a)

length-every : (step from n : ℕ) (xs : List Line) → length (every step from n xs) ≡ n
length-every step from zero xs = refl
length-every step from (suc n) xs = let r = length-every step (from + step) n xs in omega (arith, r)

false-true : {Y : Type 0} → false ≡ true → Y
false-true e = cc

-- In a file of one band no line is missing.
fit_one : (l : Layout) (code i : ℕ) (xs : List Line) → SizedAll (body_length l) xs → AllFit l (One code) i xs
fit_one l code i [] a = tt
fit_one l code i (Some body ∷ xs) a = ((a.0, λ e. false-true e), fit_one l code (i + 1) xs a.1)
fit_one l code i (None ∷ xs) a = (refl, fit_one l code (i + 1) xs a.1)

begun-one : (xs : List Line) → 1 ≤ length xs → Begun (xs ∷ [])
begun-one [] h = absurd (omega arith)
begun-one (x ∷ xs) h = tt

-- A group of interleaved bands, and one for each of its bands.
module _ (mission : ℕ) (c : Correction) (lines : ℕ) (g : Files) (whole : length g.header ≡ 3590) where
  abbrev by_line : Layout
  by_line = laid Interleaved mission c

  abbrev by_band : Layout
  by_band = laid Sequential mission c

  abbrev alone : ℕ → List Line → Files
  alone code row = with_lines g (header_by_band (48 + code) g.header) row

  content_alone : (code : ℕ) (row : List Line) → content by_band (alone code row) ≡ One code
  content_alone code row =
      let is : 48 + code - 48 ≡ code = omega arith in
      ap (λ b. One (b - 48)) (digit-put g.header (48 + code) whole) ∙ ap One is

  alone_valid : (code last : ℕ) (row : List Line) → ValidFiles by_line lines 0 g → 1 ≤ lines → 4 ≤ code → code < 4 + cond (eqb mission 3) 5 4 → last < code → length row ≡ lines → SizedAll 3590 row → ValidFiles by_band lines last (alone code row)
  alone_valid code last row v some low under above long sized =
      let h = g.header in
      let d = 48 + code in
      let is_all = append-nil row in
      let all_long = ap length is_all in record {
        header_whole = length-put h d ∙ whole;
        header_counts = counts_put mission c h d whole v.header_counts;
        header_band = subst (λ b. band_in Sequential mission last b ≡ true) (sym (digit-put h d whole)) (digit-fits mission last d (omega arith) (omega arith) (omega arith));
        header_trailers = trailers-put h d v.header_trailers;
        header_bands = refl;
        ancillaries_many = v.ancillaries_many;
        ancillaries_whole = v.ancillaries_whole;
        annotations_many = v.annotations_many;
        annotations_whole = v.annotations_whole;
        begun = begun-one row (omega (arith, long));
        lines_fit = subst (λ k. AllFit by_band k 0 (row ++ [])) (sym (content_alone code row)) (subst (λ xs. AllFit by_band (One code) 0 xs) (sym is_all) (fit_one by_band code 0 row sized));
        lines_many = omega (arith, all_long, long);
        trailers_many = v.trailers_many ∙ sym (trailers-kept h d);
        trailers_whole = v.trailers_whole;
      }

  module _ (row : ℕ → List Line) where
    abbrev apart : List ℕ → List Files
    apart ps = band_by_band (map (λ p. 4 + p) ps) (map row ps) g

    codes_again : (ps : List ℕ) → all_codes by_band (apart ps) ≡ map (λ p. 4 + p) ps
    codes_again [] = refl
    codes_again (p ∷ ps) =
        ap (λ k. codes_in k ++ all_codes by_band (apart ps)) (content_alone (4 + p) (row p)) ∙ ap (λ k. (4 + p) ∷ k) (codes_again ps)

    rows_again : (ps : List ℕ) → all_rows by_band lines (apart ps) ≡ map row ps
    rows_again [] = refl
    rows_again (p ∷ ps) =
        ap (λ k. rows_in k (stride by_band) lines (row p ++ []) ++ all_rows by_band lines (apart ps)) (content_alone (4 + p) (row p))
        ∙ ap (λ k. k ∷ all_rows by_band lines (apart ps)) (append-nil (row p))
        ∙ ap (λ k. row p ∷ k) (rows_again ps)

    apart_valid : (ps : List ℕ) (last k : ℕ) → ValidFiles by_line lines 0 g → 1 ≤ lines → ((p : ℕ) → length (row p) ≡ lines) → ((p : ℕ) → SizedAll 3590 (row p)) → last < 4 + k → Spread (cond (eqb mission 3) 5 4) k ps → 1 ≤ length ps → ValidGroups by_band lines last (apart ps)
    apart_valid [] last k v some long sized above f h = absurd (omega arith)
    apart_valid (p ∷ []) last k v some long sized above f h =
        let a = f.0.0 in
        let b = f.0.1 in
        (alone_valid (4 + p) last (row p) v some (omega arith) (omega (arith, b)) (omega (arith, a, above)) (long p) (sized p), refl)
    apart_valid (p ∷ (q ∷ ps)) last k v some long sized above f h =
        let a = f.0.0 in
        let b = f.0.1 in (
          alone_valid (4 + p) last (row p) v some (omega arith) (omega (arith, b)) (omega (arith, a, above)) (long p) (sized p),
          (
            refl,
            subst (λ n. ValidGroups by_band lines n (apart (q ∷ ps))) (sym (ap band_of (content_alone (4 + p) (row p)))) (apart_valid (q ∷ ps) (4 + p) (p + 1) v some long sized (omega arith) f.1 (omega arith)),
          ),
        )

-- Groups for single bands stand on one reel.
one_reel : (codes : List ℕ) (rows : List (List Line)) (g : Files) → length (stretches (band_by_band codes rows g)) ≡ 1
one_reel [] rows g = refl
one_reel (code ∷ codes) [] g = refl
one_reel (code ∷ codes) (row ∷ rows) g =
    let f = with_lines g (header_by_band (48 + code) g.header) row in
    before_thrice (attributes_file f) (part 1 row) (trailer_file f) (stretches (band_by_band codes rows g)) (one_reel codes rows g)
  where
    before_thrice : (a b c : Reel) (ss : List Reel) → length ss ≡ 1 → length (before a (before b (before c ss))) ≡ 1
    before_thrice a b c ss one =
        let x = length_before c ss (omega (arith, one)) in
        let y = length_before b (before c ss) (omega (arith, one, x)) in
        let z = length_before a (before b (before c ss)) (omega (arith, one, x, y)) in
        omega (arith, one, x, y, z)

-- The picture is the same: its codes, and the lines of each band.
pub record SamePicture (l : Layout) (lines : ℕ) (gs turned : List Files) : Type 0 where
  pub codes : all_codes (other_layout l) turned ≡ all_codes l gs
  pub rows : all_rows (other_layout l) lines turned ≡ all_rows l lines gs

interleaved-not : {Y : Type 0} → Interleaved ≡ Sequential → Y
interleaved-not e = cc

sequential_not : {Y : Type 0} → Sequential ≡ Interleaved → Y
sequential_not e = cc

vidicon_not : {Y : Type 0} → Vidicon ≡ Interleaved → Y
vidicon_not e = cc

-- The one group of interleaved bands, whose header says which are present.
module _ (mission : ℕ) (c : Correction) (lines : ℕ) (g : Files) (v : ValidFiles (laid Interleaved mission c) lines 0 g) where
  abbrev places : List ℕ
  places = places_in (byte (header_record g) 3586)

  abbrev row_at : ℕ → List Line
  row_at place = every (cond (eqb mission 3) 5 4) place lines (all_lines g.parts)

  abbrev all_apart : List Files
  all_apart = band_by_band (all_codes (laid Interleaved mission c) (g ∷ [])) (all_rows (laid Interleaved mission c) lines (g ∷ [])) g

  apart_is : all_apart ≡ apart mission c lines g v.header_whole row_at places
  apart_is =
      ap (λ k. band_by_band k (map row_at places ++ []) g) (append-nil (map (λ p. 4 + p) places))
      ∙ ap (λ k. band_by_band (map (λ p. 4 + p) places) k g) (append-nil (map row_at places))

  sized_row : (place : ℕ) → SizedAll 3590 (row_at place)
  sized_row place =
      let xs = all_lines g.parts in
      sized_every 3590 (cond (eqb mission 3) 5 4) place lines xs (sized_fit (laid Interleaved mission c) (content (laid Interleaved mission c) g) 0 xs v.lines_fit)

  all_valid : 1 ≤ lines → ValidGroups (laid Sequential mission c) lines 0 all_apart
  all_valid some =
      let are = places_are mission (byte (header_record g) 3586) v.header_bands in
      subst (ValidGroups (laid Sequential mission c) lines 0) (sym apart_is) (apart_valid mission c lines g v.header_whole row_at places 0 0 v some (λ p. length-every (cond (eqb mission 3) 5 4) p lines (all_lines g.parts)) sized_row (omega arith) are.spread are.some)

  all_same : SamePicture (laid Interleaved mission c) lines (g ∷ []) all_apart
  all_same = record {
    codes = ap (all_codes (laid Sequential mission c)) apart_is ∙ codes_again mission c lines g v.header_whole row_at places ∙ sym (append-nil (map (λ p. 4 + p) places));
    rows = ap (all_rows (laid Sequential mission c) lines) apart_is ∙ rows_again mission c lines g v.header_whole row_at places ∙ sym (append-nil (map row_at places));
  }

-- By the form of the layout.
abbrev turned : Layout → ℕ → List Files → List Files
turned l lines gs = turned_groups l.form l lines (all_codes l gs) (all_rows l lines gs) gs

turned_valid : (f : Form) (mission : ℕ) (c : Correction) (lines : ℕ) (gs : List Files) → f ≡ Interleaved → 1 ≤ lines → ValidGroups (laid f mission c) lines 0 gs → ValidGroups (other_layout (laid f mission c)) lines 0 (turned (laid f mission c) lines gs)
turned_valid Sequential mission c lines gs e some v = sequential_not e
turned_valid Vidicon mission c lines gs e some v = vidicon_not e
turned_valid Interleaved mission c lines [] e some v = absurd v
turned_valid Interleaved mission c lines (g ∷ (h ∷ gs)) e some v = interleaved-not v.1.0
turned_valid Interleaved mission c lines (g ∷ []) e some v = all_valid mission c lines g v.0 some

turned_same : (f : Form) (mission : ℕ) (c : Correction) (lines : ℕ) (gs : List Files) → f ≡ Interleaved → ValidGroups (laid f mission c) lines 0 gs → SamePicture (laid f mission c) lines gs (turned (laid f mission c) lines gs)
turned_same Sequential mission c lines gs e v = sequential_not e
turned_same Vidicon mission c lines gs e v = vidicon_not e
turned_same Interleaved mission c lines [] e v = absurd v
turned_same Interleaved mission c lines (g ∷ (h ∷ gs)) e v = interleaved-not v.1.0
turned_same Interleaved mission c lines (g ∷ []) e v = all_same mission c lines g v.0

turned_reel : (f : Form) (l : Layout) (lines : ℕ) (codes : List ℕ) (rows : List (List Line)) (gs : List Files) → f ≡ Interleaved → length (stretches (turned_groups f l lines codes rows gs)) ≡ 1
turned_reel Sequential l lines codes rows gs e = sequential_not e
turned_reel Vidicon l lines codes rows gs e = vidicon_not e
turned_reel Interleaved l lines codes rows [] e = refl
turned_reel Interleaved l lines codes rows (g ∷ gs) e = one_reel codes rows g

-- A recording of interleaved bands in the other order: its groups are valid, they show the same picture, and stand on one reel.
pub separated_groups : (r : Recording) → Valid r → r.layout.form ≡ Interleaved → ValidGroups (other_layout r.layout) r.lines 0 (turn r).groups
separated_groups r v e = turned_valid r.layout.form r.layout.mission r.layout.correction r.lines r.groups e v.lines_some v.groups_valid

pub separated_picture : (r : Recording) → Valid r → r.layout.form ≡ Interleaved → SamePicture r.layout r.lines r.groups (turn r).groups
separated_picture r v e = turned_same r.layout.form r.layout.mission r.layout.correction r.lines r.groups e v.groups_valid

pub separated_reels : (r : Recording) → r.layout.form ≡ Interleaved → length (stretches (turn r).groups) ≡ 1
separated_reels r e = turned_reel r.layout.form r.layout r.lines (all_codes r.layout r.groups) (all_rows r.layout r.lines r.groups) r.groups e
