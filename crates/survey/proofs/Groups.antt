-- The machine over the files of a group.
use Rattle.std.proofs.Common.{◌≡◌, ℕ, zero, suc, ◌+◌, ◌-◌, ◌*◌, ◌%◌, ◌<◌, ◌≤◌, Bool, true, false, cond, ◌&&◌, ◌||◌, eqb, ltb, leb, ◌⊎◌, List, [], ◌∷◌, ◌++◌, length, get_or, set, replicate, Some, Ok, Err, Result, sym, refl, ap, ◌∙◌, subst, ⊎_elim, append_assoc, arith}
use Rattle.std.proofs.lemmas.Bool.{lt-ltb, le-ltb, le-leb, lt-leb, eq-eqb, ltb-true, leb-true, eqb-true, and_parts, or_cases, cond-true, cond-false, or_right}
use Rattle.deck.specs.Tape.{written, mark, Reel, TapeSet, nth, look}
use Rattle.records.specs.Headers.{counts_fit, band_fits, band_in, trailers_fit, bands_fit, content_of, header}
use Rattle.records.specs.Layouts.{record_length, ancillaries, annotations, attributes, stride}
use Rattle.machine.specs.Machines.{step, passed, expecting, fresh, begun, band_of, on_header, on_first_trailer, trailing, trailed, lines_agree, no_group, most_blocks}
use Rattle.records.specs.Bands.{more_bands}
use Rattle.records.specs.Records.{byte}
use Rattle.survey.specs.Surveys.{Fault}
use Rattle.machine.specs.Findings.{place_of}
use Rattle.records.specs.declared.bands.Bands.{Bands}
use Rattle.records.specs.declared.header.Header.{Header}
use Rattle.records.specs.declared.layout.Correction.{Correction}
use Rattle.records.specs.declared.layout.Correction.TheVariants.{Corrected, Uncorrected}
use Rattle.records.specs.declared.layout.Form.{Form}
use Rattle.records.specs.declared.layout.Form.TheVariants.{Interleaved, Sequential, Vidicon}
use Rattle.records.specs.declared.layout.Layout.{Layout}
use Rattle.machine.specs.declared.machine.Expect.{Expect}
use Rattle.machine.specs.declared.machine.Expect.TheVariants as expects
use Rattle.machine.specs.declared.machine.Group.{Group}
use Rattle.machine.specs.declared.machine.Machine.{Machine}
use Rattle.machine.specs.declared.machine.Place.{Place}
use Rattle.survey.specs.Recordings.{Body, Line, Files, record_of, numbered, before, attributes_file, image_file, trailer_file, closing, bound}
use Rattle.survey.specs.Validity.{body_length, Whole, content, header_record, all_lines, width, bands_wide, ValidFiles}
use Rattle.survey.proofs.Passing.{passes}
use Rattle.survey.proofs.Running.{On, onward, moved, before-blocks, nth-front}
use Rattle.survey.proofs.Stretches.{hd, tl, hd_before, tl_before, length_before}
use Rattle.survey.proofs.Steps.{six, machine, attribute_next, attributes_run, trailer_next, trailers_run}
use Rattle.survey.specs.Placed.{Lain, Stood}
use Rattle.survey.proofs.Images.{full_run, first_opens}

-- A header whose values all pass.
header_is : (xs : List ℕ) (l : Layout) (last : ℕ) → counts_fit xs l ≡ true → band_fits (byte xs 136) l last ≡ true → trailers_fit xs ≡ true → bands_fit (byte xs 3586) l ≡ true → header xs l last ≡ Ok record { content = content_of (byte xs 136) (byte xs 3586) l.form; trailers = byte xs 145 }
unfolding header
header_is xs l last counts band trailers bands = cond-true _ _ _ counts ∙ cond-true _ _ _ band ∙ cond-true _ _ _ trailers ∙ cond-true _ _ _ bands

-- Counts.
few_lines : (b : Bool) (lines : ℕ) → lines ≤ 8192 → lines * cond b 5 4 ≤ 8192 * cond b 5 4
few_lines true lines h = omega arith
few_lines false lines h = omega arith

pub fits_most : (f : Form) (mission lines : ℕ) → lines ≤ 8192 → lines * width f (cond (eqb mission 3) 5 4) ≤ most_blocks f (cond (eqb mission 3) 5 4)
fits_most Interleaved mission lines h = few_lines (eqb mission 3) lines h
fits_most Sequential mission lines h = omega arith
fits_most Vidicon mission lines h = omega arith

whole_lines : (b : Bool) (lines : ℕ) → (lines * cond b 5 4) % cond b 5 4 ≡ 0
whole_lines true lines = omega arith
whole_lines false lines = omega arith

pub agree : (f : Form) (mission lines groups first blocks : ℕ) → blocks ≡ lines * width f (cond (eqb mission 3) 5 4) → ((groups ≡ 0) ⊎ (first ≡ lines * width f (cond (eqb mission 3) 5 4))) → lines_agree f (cond (eqb mission 3) 5 4) groups first blocks ≡ true
agree Interleaved mission lines groups first blocks e h = ap (λ k. eqb k 0) (ap (λ k. k % cond (eqb mission 3) 5 4) e ∙ whole_lines (eqb mission 3) lines)
agree Sequential mission lines groups first blocks e h =
    ⊎_elim
    (λ (z : groups ≡ 0). ap (λ k. k || eqb blocks first) (eq-eqb groups 0 z))
    (λ (s : first ≡ lines * 1). or_right (eqb groups 0) (eqb blocks first) (eq-eqb blocks first (omega (arith, e, s))))
    h
agree Vidicon mission lines groups first blocks e h = refl

some_annotation : (c : Correction) → 1 ≤ annotations c
some_annotation Corrected = omega arith
some_annotation Uncorrected = omega arith

-- The bands of a sequential set rise, so that there are at most five groups.
pub record Rising (last b : ℕ) : Type 0 where
  pub low : 52 ≤ b
  pub high : b ≤ 56
  pub above : last + 48 < b

pub rises : (mission last b : ℕ) → band_in Sequential mission last b ≡ true → Rising last b
rises mission last b e =
    let p = and_parts (leb 52 b) ((leb b 55 || (eqb b 56 && eqb mission 3)) && ltb (last + 48) b) e in
    let q = and_parts (leb b 55 || (eqb b 56 && eqb mission 3)) (ltb (last + 48) b) p.1 in
    record {
      low = leb-true 52 b p.0;
      high =
          ⊎_elim
          (λ (h : leb b 55 ≡ true). let k = leb-true b 55 h in omega (arith, k))
          (λ (h : (eqb b 56 && eqb mission 3) ≡ true). let k = eqb-true b 56 (and_parts (eqb b 56) (eqb mission 3) h).0 in omega (arith, k))
          (or_cases (leb b 55) (eqb b 56 && eqb mission 3) q.0);
      above = ltb-true (last + 48) b q.1;
    }

-- No line is on a reel before the group's own.
zeros : (n i : ℕ) → ◌≡◌ {A = ℕ} (get_or (replicate n 0) i 0) 0
zeros zero i = refl
zeros (suc n) zero = refl
zeros (suc n) (suc i) = zeros n i

nothing : (i : ℕ) → ◌≡◌ {A = ℕ} (get_or (replicate 9 0) i 0) 0
nothing i = zeros 9 i

-- The files, part by part.
abbrev pub files : Body → List Body → List Body → List (List Line) → List Body → Bool → Files
files h us ns ps ts e = record { header = h; ancillaries = us; annotations = ns; parts = ps; trailers = ts; ends = e }

pub length-numbered : (kind n : ℕ) (bodies : List Body) → length (numbered kind n bodies) ≡ length bodies
length-numbered kind n [] = refl
length-numbered kind n (body ∷ bodies) = let rest = length-numbered kind (n + 1) bodies in omega (arith, rest)

pub has_trailers : (f : Files) → trailers_fit (header_record f) ≡ true → 1 ≤ byte (header_record f) 145
has_trailers f e =
    let p = and_parts (eqb (byte (header_record f) 144) 0) (leb 1 (byte (header_record f) 145) && leb (byte (header_record f) 145) 5) e in
    leb-true 1 (byte (header_record f) 145) (and_parts (leb 1 (byte (header_record f) 145)) (leb (byte (header_record f) 145) 5) p.1).0

module _ (tape : TapeSet) (z : Result Machine Fault) (many : ℕ) (d : Body) (l : Layout) (whole : length d ≡ 354) (lines : ℕ) (few : lines ≤ 8192) (nine : many ≤ 9) where
  abbrev at : Expect → Group → ℕ → List Group → Bands → Machine
  at e g c t b = machine many (record_of 1 9 d) l e g c t b

  -- A place at which a header may come.
  abbrev pub Heads : Expect → Type 0
  Heads e = (g : Group) (c : ℕ) (t : List Group) (b : Bands) (p : Place) (xs : List ℕ) → step (at e g c t b) p (Some (written xs)) ≡ on_header (at e g c t b) p xs

  -- A group is read, and its trailer file closed.
  pub record Grouped (f : Files) (c : ℕ) (t : List Group) (b : Bands) (tail : List Reel) : Type 0 where
    pub group : Group
    pub reel_then : ℕ
    pub block-then : ℕ
    pub on : On tape z (at expects.BehindTrailer group (c + 1) (set t c group) (more_bands (content l f) b)) reel_then block-then (hd tail ++ closing reel_then many) (bound d many (reel_then + 1) (tl tail))
    pub on_reel : 1 ≤ reel_then
    pub reels_left : reel_then + length (tl tail) ≡ many
    pub stood : Stood tape l f group

  -- What a header's group begins with.
  abbrev heading : Files → Header
  heading f = record { content = content l f; trailers = byte (header_record f) 145 }

  header_steps : (f : Files) (last : ℕ) → ValidFiles l lines last f → (e : Expect) → Heads e → (g : Group) (c : ℕ) (t : List Group) (b : Bands) (p : Place) → band_of g.content ≡ last → step (at e g c t b) p (Some (written (header_record f))) ≡ Ok (at (expects.Attribute 2) (fresh (heading f) p) c t (more_bands (content l f) b))
  header_steps f last v e heads g c t b p same =
      let xs = header_record f in
      let says : header xs l (band_of g.content) ≡ Ok (heading f) = ap (header xs l) same ∙ header_is xs l last v.header_counts v.header_band v.header_trailers v.header_bands in
      heads g c t b p xs
      ∙ ap (λ q. passed q (begun (at e g c t b) p (header xs l (band_of g.content)))) (passes 1 18 f.header (record_length l.form) v.header_whole (six l.form))
      ∙ ap (begun (at e g c t b) p) says

  -- The attributes file.
  attributes_done : (f : Files) (last : ℕ) → ValidFiles l lines last f → (e : Expect) → Heads e → (g : Group) (c : ℕ) (t : List Group) (b : Bands) (reel block : ℕ) (rest : Reel) (rs : TapeSet) → band_of g.content ≡ last → On tape z (at e g c t b) reel block (attributes_file f ++ rest) rs → On tape z (at expects.FirstImage (fresh (heading f) (place_of reel block)) c t (more_bands (content l f) b)) reel (block + attributes l + 1) rest rs
  attributes_done f last v e heads g c t b reel block rest rs same o =
      let us = f.ancillaries in
      let ns = f.annotations in
      let g0 = fresh (heading f) (place_of reel block) in
      let b0 = more_bands (content l f) b in
      let many_us = v.ancillaries_many in
      let many_ns = v.annotations_many in
      let some = some_annotation l.correction in
      let two = numbered 219 (2 + length us) ns in
      let blocks : attributes_file f ++ rest ≡ written (header_record f) ∷ (numbered 36 2 us ++ (two ++ mark ∷ rest)) =
      ap (λ k. written (header_record f) ∷ k) (append_assoc (numbered 36 2 us) (two ++ mark ∷ []) rest ∙ ap (λ k. numbered 36 2 us ++ k) (append_assoc two (mark ∷ []) rest)) in
      let p = onward tape z (at e g c t b) (at (expects.Attribute 2) g0 c t b0) reel block (written (header_record f)) (numbered 36 2 us ++ (two ++ mark ∷ rest)) rs (before-blocks blocks o) (header_steps f last v e heads g c t b (place_of reel block) same) in
      let expected : attribute_next tape z many (record_of 1 9 d) l 1 ≡ expects.Attribute 2 = cond-true (ltb 1 (attributes l)) _ _ (lt-ltb 1 (attributes l) (omega (arith, some))) in
      let q = subst (λ k. On tape z (at k g0 c t b0) reel (block + 1) (numbered 36 2 us ++ (two ++ mark ∷ rest)) rs) (sym expected) p in
      let r = attributes_run tape z many (record_of 1 9 d) l us 36 1 g0 c t b0 reel (block + 1) (two ++ mark ∷ rest) rs v.ancillaries_whole (omega (arith, many_us, some)) (λ i a h. cond-true (leb i (1 + ancillaries l)) 36 219 (le-leb i (1 + ancillaries l) (omega (arith, many_us)))) q in
      let number : 2 + length us ≡ 1 + length us + 1 = omega arith in
      let s = subst (λ k. On tape z (at (attribute_next tape z many (record_of 1 9 d) l (1 + length us)) g0 c t b0) reel (block + 1 + length us) (numbered 219 k ns ++ mark ∷ rest) rs) number r in
      let u = attributes_run tape z many (record_of 1 9 d) l ns 219 (1 + length us) g0 c t b0 reel (block + 1 + length us) (mark ∷ rest) rs v.annotations_whole (omega (arith, many_us, many_ns)) (λ i a h. cond-false (leb i (1 + ancillaries l)) 36 219 (lt-leb i (1 + ancillaries l) (omega (arith, many_us)))) s in
      let over : attribute_next tape z many (record_of 1 9 d) l (1 + length us + length ns) ≡ expects.AttributeMark = cond-false (ltb (1 + length us + length ns) (attributes l)) _ _ (le-ltb (1 + length us + length ns) (attributes l) (omega (arith, many_us, many_ns))) in
      let w = subst (λ k. On tape z (at k g0 c t b0) reel (block + 1 + length us + length ns) (mark ∷ rest) rs) over u in
      moved (omega (arith, many_us, many_ns)) (onward tape z (at expects.AttributeMark g0 c t b0) (at expects.FirstImage g0 c t b0) reel (block + 1 + length us + length ns) mark rest rs w refl)

  -- The trailer file.
  trailers_done : (f : Files) (y : Body) (ys : List Body) → f.trailers ≡ y ∷ ys → (g : Group) (e : Expect) (c : ℕ) (t : List Group) (b : Bands) (reel block : ℕ) (rest : Reel) (rs : TapeSet) → Whole (body_length l) (y ∷ ys) → g.trailers ≡ length (y ∷ ys) → g.blocks ≡ lines * bands_wide l → c < 5 → ((c ≡ 0) ⊎ ((get_or t 0 no_group).blocks ≡ lines * bands_wide l)) → ((p : Place) (n : ℕ) (body : Body) → step (at e g c t b) p (Some (written (record_of n 246 body))) ≡ on_first_trailer (at e g c t b) p (record_of n 246 body)) → On tape z (at e g c t b) reel block (trailer_file f ++ rest) rs → On tape z (at expects.BehindTrailer (trailed g (place_of reel block)) (c + 1) (set t c (trailed g (place_of reel block))) b) reel (block + length (y ∷ ys) + 1) rest rs
  trailers_done f y ys is g e c t b reel block rest rs w long full c5 first ready o =
      let p = place_of reel block in
      let h = trailed g p in
      let blocks : trailer_file f ++ rest ≡ written (record_of 1 246 y) ∷ (numbered 246 2 ys ++ mark ∷ rest) = ap (λ k. (numbered 246 1 k ++ mark ∷ []) ++ rest) is ∙ ap (λ k. written (record_of 1 246 y) ∷ k) (append_assoc (numbered 246 2 ys) (mark ∷ []) rest) in
      let stepped : step (at e g c t b) p (Some (written (record_of 1 246 y))) ≡ Ok (at (trailer_next tape z many (record_of 1 9 d) l g.trailers 1) h c t b) =
      ready p 1 y
      ∙ ap (λ q. passed q (trailing (at e g c t b) p)) (passes 1 246 y (record_length l.form) w.0 (six l.form))
      ∙ cond-true (lines_agree l.form (stride l) c (get_or t 0 no_group).blocks g.blocks) _ (Err 35) (agree l.form l.mission lines c (get_or t 0 no_group).blocks g.blocks full first) in
      let q = onward tape z (at e g c t b) (at (trailer_next tape z many (record_of 1 9 d) l g.trailers 1) h c t b) reel block (written (record_of 1 246 y)) (numbered 246 2 ys ++ mark ∷ rest) rs (before-blocks blocks o) stepped in
      let r = trailers_run tape z many (record_of 1 9 d) l ys 1 h c t b reel (block + 1) (mark ∷ rest) rs w.1 (omega (arith, long)) q in
      let over : trailer_next tape z many (record_of 1 9 d) l h.trailers (1 + length ys) ≡ expects.TrailerMark = cond-false (ltb (1 + length ys) h.trailers) _ _ (le-ltb (1 + length ys) h.trailers (omega (arith, long))) in
      let s = subst (λ k. On tape z (at k h c t b) reel (block + 1 + length ys) (mark ∷ rest) rs) over r in
      let close : step (at expects.TrailerMark h c t b) (place_of reel (block + 1 + length ys)) (Some mark) ≡ Ok (at expects.BehindTrailer h (c + 1) (set t c h) b) = ap (λ k. Ok (expecting k expects.BehindTrailer)) (cond-true (ltb c 5) (at expects.TrailerMark h (c + 1) (set t c h) b) (at expects.TrailerMark h c t b) (lt-ltb c 5 c5)) in
      moved (omega arith) (onward tape z (at expects.TrailerMark h c t b) (at expects.BehindTrailer h (c + 1) (set t c h) b) reel (block + 1 + length ys) mark rest rs s close)

  group_done : (h : Body) (us ns : List Body) (parts : List (List Line)) (trailers : List Body) (ends : Bool) (last : ℕ) → ValidFiles l lines last (files h us ns parts trailers ends) → (e : Expect) → Heads e → (g : Group) (c : ℕ) (t : List Group) (b : Bands) (reel block : ℕ) (tail : List Reel) → band_of g.content ≡ last → c < 5 → ((c ≡ 0) ⊎ ((get_or t 0 no_group).blocks ≡ lines * bands_wide l)) → 1 ≤ reel → 1 ≤ length tail → reel + length parts + length (tl tail) ≡ many + 1 → On tape z (at e g c t b) reel block (hd (before (attributes_file (files h us ns parts trailers ends)) (image_file 1 parts (before (trailer_file (files h us ns parts trailers ends)) tail))) ++ closing reel many) (bound d many (reel + 1) (tl (before (attributes_file (files h us ns parts trailers ends)) (image_file 1 parts (before (trailer_file (files h us ns parts trailers ends)) tail))))) → Grouped (files h us ns parts trailers ends) c t b tail
  group_done h us ns [] ts ends last v e heads g c t b reel block tail same c5 first r some left o = absurd v.begun
  group_done h us ns ([] ∷ ps) ts ends last v e heads g c t b reel block tail same c5 first r some left o = absurd v.begun
  group_done h us ns ((x ∷ xs) ∷ ps) [] ends last v e heads g c t b reel block tail same c5 first r some left o =
      let k = has_trailers (files h us ns ((x ∷ xs) ∷ ps) [] ends) v.header_trailers in
      let m = v.trailers_many in absurd (omega (arith, k, m))
  group_done h us ns ((x ∷ xs) ∷ ps) (y ∷ ys) ends last v e heads g c t b reel block tail same c5 first r some left o =
      let f = files h us ns ((x ∷ xs) ∷ ps) (y ∷ ys) ends in
      let behind = before (trailer_file f) tail in
      let image = image_file 1 ((x ∷ xs) ∷ ps) behind in
      let g0 = fresh (heading f) (place_of reel block) in
      let b0 = more_bands (content l f) b in
      let blocks = ap (λ k. k ++ closing reel many) (hd_before (attributes_file f) image) ∙ append_assoc (attributes_file f) (hd image) (closing reel many) in
      let o1 = before-blocks blocks (subst (λ k. On tape z (at e g c t b) reel block (hd (before (attributes_file f) image) ++ closing reel many) (bound d many (reel + 1) k)) (tl_before (attributes_file f) image) o) in
      let p = attributes_done f last v e heads g c t b reel block (hd image ++ closing reel many) (bound d many (reel + 1) (tl image)) same o1 in
      let same_tail = ap length (tl_before (trailer_file f) tail) in
      let more = length_before (trailer_file f) tail some in
      let full = v.lines_many in
      let im = full_run tape z many d l whole c t b0 behind (omega (arith, more, some)) ps x xs expects.FirstImage (first_opens tape z many d l whole c t b0 behind (omega (arith, more, some))) g0 reel (block + attributes l + 1) v.begun v.lines_fit (let k = fits_most l.form l.mission lines few in omega (arith, k, full)) r (omega (arith, same_tail, left)) nine p in
      let k = im.kept in
      let q = before-blocks (ap (λ w. w ++ closing im.reel_then many) (hd_before (trailer_file f) tail) ∙ append_assoc (trailer_file f) (hd tail) (closing im.reel_then many)) (subst (λ w. On tape z (at im.expect im.group c t b0) im.reel_then im.block-then (hd behind ++ closing im.reel_then many) (bound d many (im.reel_then + 1) w)) (tl_before (trailer_file f) tail) im.on) in
      let trailers : im.group.trailers ≡ length (y ∷ ys) = k.trailers ∙ sym v.trailers_many in
      let lined : im.group.blocks ≡ length (all_lines ((x ∷ xs) ∷ ps)) = let w = im.blocks in omega (arith, w) in
      let u = trailers_done f y ys refl im.group im.expect c t b0 im.reel_then im.block-then (hd tail ++ closing im.reel_then many) (bound d many (im.reel_then + 1) (tl tail)) v.trailers_whole trailers (lined ∙ full) c5 first (im.ready im.group) q in record {
        group = trailed im.group (place_of im.reel_then im.block-then);
        reel_then = im.reel_then;
        block-then = im.block-then + length (y ∷ ys) + 1;
        on = u;
        on_reel = im.on_reel;
        reels_left = let w = im.reels_left in omega (arith, w, same_tail);
        stood = record {
          content_is = k.content;
          trailers_are = trailers;
          blocks_are = lined;
          attributes_lie = subst (λ (pl : Place). (i : ℕ) → i < length (attributes_file f) → look tape pl.reel (pl.block + i) ≡ nth (attributes_file f) i) (sym k.header) (λ i w. o1.here i ∙ nth-front (attributes_file f) (hd image ++ closing reel many) i w);
          trailers_lie = λ i w. q.here i ∙ nth-front (trailer_file f) (hd tail ++ closing im.reel_then many) i w;
          lines_lie = subst (λ (pl : Place). Lain tape im.group.through pl.reel (pl.block + attributes l + 1) 0 ((x ∷ xs) ∷ ps)) (sym k.header) im.lain;
          first_reel = subst (λ (pl : Place). 1 ≤ pl.reel) (sym k.header) r;
          before_it = subst (λ (pl : Place). (i : ℕ) → i < pl.reel - 1 → get_or im.group.through i 0 ≡ 0) (sym k.header) (λ i w. im.before_it i w ∙ nothing i);
          nine = k.nine;
        };
      }

  pub group_run : (f : Files) (last : ℕ) → ValidFiles l lines last f → (e : Expect) → Heads e → (g : Group) (c : ℕ) (t : List Group) (b : Bands) (reel block : ℕ) (tail : List Reel) → band_of g.content ≡ last → c < 5 → ((c ≡ 0) ⊎ ((get_or t 0 no_group).blocks ≡ lines * bands_wide l)) → 1 ≤ reel → 1 ≤ length tail → reel + length f.parts + length (tl tail) ≡ many + 1 → On tape z (at e g c t b) reel block (hd (before (attributes_file f) (image_file 1 f.parts (before (trailer_file f) tail))) ++ closing reel many) (bound d many (reel + 1) (tl (before (attributes_file f) (image_file 1 f.parts (before (trailer_file f) tail))))) → Grouped f c t b tail
  group_run f last v = group_done f.header f.ancillaries f.annotations f.parts f.trailers f.ends last v
