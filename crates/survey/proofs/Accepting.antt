-- A valid recording is accepted, and the table of places leads to what it says.
use Rattle.std.proofs.Common.{◌≡◌, ℕ, zero, suc, ◌+◌, ◌-◌, ◌*◌, ◌<◌, ◌≤◌, Bool, true, false, eqb, ltb, ◌⊎◌, List, [], ◌∷◌, ◌++◌, length, get_or, set, Some, Ok, Result, sym, refl, ap, ◌∙◌, subst, inl, inr, ⊎_elim, arith, length-set, None}
use Rattle.std.proofs.lemmas.List.{get_or-set_same, get_or-set_other}
use Rattle.std.proofs.lemmas.Bool.{lt-ltb, le-ltb, eq-eqb, ne_eqb, cond-true, cond-false, cases_eq}
use Rattle.deck.specs.Tape.{mark, Reel, TapeSet}
use Rattle.records.specs.Headers.{band_in, content_of}
use Rattle.machine.specs.Machines.{step, band_of, goes_on, next_group, no_group}
use Rattle.records.specs.Bands.{more_bands}
use Rattle.records.specs.Records.{byte}
use Rattle.survey.specs.Surveys.{Fault}
use Rattle.machine.specs.Findings.{place_of}
use Rattle.records.specs.declared.bands.Bands.{Bands}
use Rattle.records.specs.declared.layout.Form.TheVariants.{Sequential}
use Rattle.records.specs.declared.layout.Layout.{Layout}
use Rattle.machine.specs.declared.machine.Expect.{Expect}
use Rattle.machine.specs.declared.machine.Expect.TheVariants as expects
use Rattle.machine.specs.declared.machine.Group.{Group}
use Rattle.machine.specs.declared.machine.Machine.{Machine}
use Rattle.machine.specs.declared.machine.Onward.TheVariants as onwards
use Rattle.survey.specs.Recordings.{Body, Line, Files, record_of, attributes_file, trailer_file, before, image_file, closes, stretches, closing, bound}
use Rattle.survey.specs.Validity.{content, header_record, Begun, bands_wide, ValidFiles, ValidGroups}
use Rattle.survey.specs.Placed.{Stood, StoodFrom}
use Rattle.survey.proofs.Running.{On, onward, last_reel, before-blocks}
use Rattle.survey.proofs.Stretches.{hd, tl, length_before, length_image, length-closes, closing-before, closing_last}
use Rattle.survey.proofs.Steps.{machine}
use Rattle.survey.proofs.Reels.{next_stretch}
use Rattle.survey.proofs.Groups.{Rising, rises, Heads, Grouped, group_run}

-- Lengths of stretches.
pub length_tl : (ss : List Reel) → length (tl ss) ≡ length ss - 1
length_tl [] = refl
length_tl (s ∷ ss) = omega arith

length_file : (n : ℕ) (ps : List (List Line)) (behind : List Reel) → Begun ps → 1 ≤ length behind → (length (image_file n ps behind) + 1 ≡ length ps + length behind) × (1 ≤ length ps)
length_file n [] behind b h = absurd b
length_file n (p ∷ ps) behind b h = let k = length_image n p ps behind h in (omega (arith, k), omega arith)

module _ (f : Files) (gs : List Files) (b : Begun f.parts) (some : 1 ≤ length (stretches gs)) where
  abbrev tail : List Reel
  tail = closes f.ends (stretches gs)

  length_group : (length (stretches (f ∷ gs)) + 1 ≡ length f.parts + length tail) × (1 ≤ length f.parts)
  length_group =
      let behind = before (trailer_file f) tail in
      let has = length-closes f.ends (stretches gs) some in
      let more = length_before (trailer_file f) tail has in
      let k = length_file 1 f.parts behind b (omega (arith, more, has)) in
      let image = image_file 1 f.parts behind in
      let front = length_before (attributes_file f) image (let u = k.0 in let w = k.1 in omega (arith, u, w, more, has)) in
      (let u = k.0 in omega (arith, u, front, more), k.1)

pub some_stretch : (l : Layout) (lines last : ℕ) (gs : List Files) → ValidGroups l lines last gs → 1 ≤ length (stretches gs)
some_stretch l lines last [] v = absurd v
some_stretch l lines last (f ∷ []) v =
    let has = length-closes f.ends (stretches []) (omega arith) in
    let k = length_group f [] v.0.begun (omega arith) in let u = k.0 in let w = k.1 in omega (arith, u, w, has)
some_stretch l lines last (f ∷ (h ∷ gs)) v =
    let more = some_stretch l lines (band_of (content l f)) (h ∷ gs) v.1.1 in
    let has = length-closes f.ends (stretches (h ∷ gs)) more in
    let k = length_group f (h ∷ gs) v.0.begun more in let u = k.0 in let w = k.1 in omega (arith, u, w, has)

-- The bands that the headers name.
abbrev pub bands_after : Layout → Bands → List Files → Bands
bands_after l b [] = b
bands_after l b (f ∷ gs) = bands_after l (more_bands (content l f) b) gs

above : (n : ℕ) → (n ≡ 1 → ⊥) → 1 ≤ n → 1 < n
above n h k = grind arith

pub first_next : (t : List Group) (c n : ℕ) (g : Group) → length t ≡ 5 → ((c ≡ 0) ⊎ ((get_or t 0 no_group).blocks ≡ n)) → g.blocks ≡ n → (get_or (set t c g) 0 no_group).blocks ≡ n
first_next t zero n g five h e = ap (λ (k : Group). k.blocks) (get_or-set_same t 0 g no_group (omega (arith, five))) ∙ e
first_next t (suc c) n g five h e =
    ⊎_elim
    (λ (k : suc c ≡ 0). absurd (omega arith))
    (λ (k : (get_or t 0 no_group).blocks ≡ n). ap (λ (w : Group). w.blocks) (get_or-set_other t (suc c) 0 g no_group (λ w. omega arith)) ∙ k)
    h

module _ (l : Layout) (lines last : ℕ) (f : Files) (v : ValidFiles l lines last f) where
  rising : l.form ≡ Sequential → Rising last (byte (header_record f) 136)
  rising e = rises l.mission last (byte (header_record f) 136) (subst (λ k. band_in k l.mission last (byte (header_record f) 136) ≡ true) e v.header_band)

  pub five_at_most : (c : ℕ) → c ≤ last - 3 → ((l.form ≡ Sequential) ⊎ (c ≡ 0)) → c < 5
  five_at_most c h k =
      ⊎_elim
      (λ (e : l.form ≡ Sequential). let r = rising e in let a = r.above in let b = r.high in omega (arith, a, b))
      (λ (e : c ≡ 0). omega arith)
      k

  pub next_band : (c : ℕ) → c ≤ last - 3 → l.form ≡ Sequential → c + 1 ≤ band_of (content l f) - 3
  next_band c h e =
      let r = rising e in
      let a = r.above in
      let low = r.low in
      subst (λ k. c + 1 ≤ band_of (content_of (byte (header_record f) 136) (byte (header_record f) 3586) k) - 3) (sym e) (omega (arith, a, low))

module _ (tape : TapeSet) (z : Result Machine Fault) (many : ℕ) (d : Body) (l : Layout) (whole : length d ≡ 354) (lines : ℕ) (few : lines ≤ 8192) (nine : many ≤ 9) where
  abbrev at : Expect → Group → ℕ → List Group → Bands → Machine
  at e g c t b = machine many (record_of 1 9 d) l e g c t b

  -- All groups are read.
  pub record Done (c : ℕ) (t : List Group) (b : Bands) (gs : List Files) : Type 0 where
    pub final : Machine
    pub is : z ≡ Ok final
    pub directory : final.directory ≡ record_of 1 9 d
    pub layout : final.layout ≡ l
    pub blocks : final.group.blocks ≡ lines * bands_wide l
    pub groups : final.groups ≡ c + length gs
    pub five : length final.table ≡ 5
    pub earlier : (i : ℕ) → i < c → get_or final.table i no_group ≡ get_or t i no_group
    pub stood : StoodFrom tape l final.table c gs
    pub bands : final.bands ≡ bands_after l b gs

  -- The next group, on this reel or on the next.
  record Turned (g : Group) (c : ℕ) (t : List Group) (b : Bands) (ss : List Reel) : Type 0 where
    pub expect : Expect
    pub heads : Heads tape z many d l whole lines few nine expect
    pub reel : ℕ
    pub block : ℕ
    pub on : On tape z (at expect g c t b) reel block (hd ss ++ closing reel many) (bound d many (reel + 1) (tl ss))
    pub on_reel : 1 ≤ reel
    pub reels_left : reel + length (tl ss) ≡ many

  turned : (ends : Bool) (g : Group) (c : ℕ) (t : List Group) (b : Bands) (ss : List Reel) (reel block : ℕ) → l.form ≡ Sequential → 1 ≤ reel → 1 ≤ length ss → reel + length (tl (closes ends ss)) ≡ many → On tape z (at expects.BehindTrailer g c t b) reel block (hd (closes ends ss) ++ closing reel many) (bound d many (reel + 1) (tl (closes ends ss))) → Turned g c t b ss
  turned true g c t b ss reel block e r some left o =
      let under : reel < many = omega (arith, left, some) in
      let m = at expects.BehindTrailer g c t b in
      let n = at (expects.End (Some onwards.Header)) g c t b in
      let p = before-blocks (closing-before reel many under) o in
      let stepped : step m (place_of reel block) (Some mark) ≡ Ok n = cond-true (ltb reel many) (goes_on l.form m) _ (lt-ltb reel many under) ∙ ap (λ k. goes_on k m) e in
      let q = onward tape z m n reel block mark [] (bound d many (reel + 1) ss) p stepped in
      let long = length_tl ss in record {
        expect = expects.Header;
        heads = λ g c t b p xs. refl;
        reel = reel + 1;
        block = 3;
        on = next_stretch tape z many d l whole (Some onwards.Header) g c t b reel (block + 1) ss r some q;
        on_reel = omega arith;
        reels_left = omega (arith, left, long, some);
      }
  turned false g c t b ss reel block e r some left o = record {
    expect = expects.BehindTrailer;
    heads = λ g c t b p xs. ap (λ k. next_group k (at expects.BehindTrailer g c t b) p xs) e;
    reel = reel;
    block = block;
    on = o;
    on_reel = r;
    reels_left = left;
  }

  -- The end of the set.
  abbrev ended : Group → ℕ → List Group → Bands → Machine
  ended g c t b = at (expects.Directory None) g c t b

  closes-set : (g : Group) (c : ℕ) (t : List Group) (b : Bands) (reel block : ℕ) → 1 ≤ reel → reel ≡ many → On tape z (at expects.BehindTrailer g c t b) reel block (closing reel many) [] → z ≡ Ok (ended g c t b)
  closes-set g c t b reel block r last o =
      let m = at expects.BehindTrailer g c t b in
      let end = at (expects.End None) g c t b in
      let not_under : ltb reel many ≡ false = le-ltb reel many (omega arith) in
      ⊎_elim
      (λ (one : many ≡ 1).
      let p : On tape z m reel block (mark ∷ []) [] = before-blocks (ap (λ k. closing k many) (last ∙ one) ∙ ap (closing 1) one) o in
      let stepped : step m (place_of reel block) (Some mark) ≡ Ok end = cond-false (ltb reel many) _ _ not_under ∙ ap (λ k. Ok (at k g c t b)) (cond-true (eqb many 1) (expects.End None) expects.LastMark (eq-eqb many 1 one)) in
      let q = onward tape z m end reel block mark [] [] p stepped in
      last_reel tape z end (ended g c t b) reel (block + 1) q refl)
      (λ (more : many ≡ 1 → ⊥).
      let p : On tape z m reel block (mark ∷ mark ∷ []) [] = before-blocks (ap (λ k. closing k many) last ∙ closing_last many (above many more (omega (arith, r, last)))) o in
      let third = at expects.LastMark g c t b in
      let stepped : step m (place_of reel block) (Some mark) ≡ Ok third = cond-false (ltb reel many) _ _ not_under ∙ ap (λ k. Ok (at k g c t b)) (cond-false (eqb many 1) (expects.End None) expects.LastMark (ne_eqb many 1 more)) in
      let q = onward tape z m third reel block mark (mark ∷ []) [] p stepped in
      let s = onward tape z third end reel (block + 1) mark [] [] q refl in
      last_reel tape z end (ended g c t b) reel (block + 1 + 1) s refl)
      (cases_eq many 1)

  -- The last group, and a group before others.
  last_group : (f : Files) (last c : ℕ) (t : List Group) (b : Bands) → ValidFiles l lines last f → f.ends ≡ false → c < 5 → length t ≡ 5 → Grouped tape z many d l whole lines few nine f c t b (closes f.ends (stretches [])) → Done c t b (f ∷ [])
  last_group f last c t b v e c5 five gr =
      let h = gr.group in
      let b1 = more_bands (content l f) b in
      let o1 = subst (λ k. On tape z (at expects.BehindTrailer h (c + 1) (set t c h) b1) gr.reel_then gr.block-then (hd (closes k (stretches [])) ++ closing gr.reel_then many) (bound d many (gr.reel_then + 1) (tl (closes k (stretches []))))) e gr.on in
      let left1 = subst (λ k. gr.reel_then + length (tl (closes k (stretches []))) ≡ many) e gr.reels_left in
      let full : h.blocks ≡ lines * bands_wide l = gr.stood.blocks_are ∙ v.lines_many in record {
        final = ended h (c + 1) (set t c h) b1;
        is = closes-set h (c + 1) (set t c h) b1 gr.reel_then gr.block-then gr.on_reel (omega (arith, left1)) o1;
        directory = refl;
        layout = refl;
        blocks = full;
        groups = omega arith;
        five = length-set t c h ∙ five;
        earlier = λ i k. get_or-set_other t c i h no_group (λ w. omega arith);
        stood = (subst (Stood tape l f) (sym (get_or-set_same t c h no_group (omega (arith, five, c5)))) gr.stood, tt);
        bands = refl;
      }

  with_group : (f : Files) (gs : List Files) (c : ℕ) (t : List Group) (b : Bands) (h : Group) → c < 5 → length t ≡ 5 → Stood tape l f h → Done (c + 1) (set t c h) (more_bands (content l f) b) gs → Done c t b (f ∷ gs)
  with_group f gs c t b h c5 five stood rest =
      let many_groups = rest.groups in record {
        final = rest.final;
        is = rest.is;
        directory = rest.directory;
        layout = rest.layout;
        blocks = rest.blocks;
        groups = omega (arith, many_groups);
        five = rest.five;
        earlier = λ i k. rest.earlier i (omega arith) ∙ get_or-set_other t c i h no_group (λ w. omega arith);
        stood = (subst (Stood tape l f) (sym (rest.earlier c (omega arith) ∙ get_or-set_same t c h no_group (omega (arith, five, c5)))) stood, rest.stood);
        bands = rest.bands;
      }

  -- A run over groups that begins at a place where a header may come.
  abbrev Runs : List Files → ℕ → Type 0
  Runs gs last = (e : Expect) → Heads tape z many d l whole lines few nine e → (g : Group) (c : ℕ) (t : List Group) (b : Bands) (reel block : ℕ) → band_of g.content ≡ last → c ≤ last - 3 → ((l.form ≡ Sequential) ⊎ (c ≡ 0)) → ((c ≡ 0) ⊎ ((get_or t 0 no_group).blocks ≡ lines * bands_wide l)) → length t ≡ 5 → 1 ≤ reel → reel + length (tl (stretches gs)) ≡ many → On tape z (at e g c t b) reel block (hd (stretches gs) ++ closing reel many) (bound d many (reel + 1) (tl (stretches gs))) → Done c t b gs

  next_group_runs : (f : Files) (gs : List Files) (last c : ℕ) (t : List Group) (b : Bands) → ValidFiles l lines last f → l.form ≡ Sequential → 1 ≤ length (stretches gs) → c < 5 → c ≤ last - 3 → ((c ≡ 0) ⊎ ((get_or t 0 no_group).blocks ≡ lines * bands_wide l)) → length t ≡ 5 → Runs gs (band_of (content l f)) → Grouped tape z many d l whole lines few nine f c t b (closes f.ends (stretches gs)) → Done c t b (f ∷ gs)
  next_group_runs f gs last c t b v seq more c5 low first five again gr =
      let h = gr.group in
      let b1 = more_bands (content l f) b in
      let full : h.blocks ≡ lines * bands_wide l = gr.stood.blocks_are ∙ v.lines_many in
      let tu = turned f.ends h (c + 1) (set t c h) b1 (stretches gs) gr.reel_then gr.block-then seq gr.on_reel more gr.reels_left gr.on in
      with_group f gs c t b h c5 five gr.stood
      (again tu.expect tu.heads h (c + 1) (set t c h) b1 tu.reel tu.block (ap band_of gr.stood.content_is) (next_band l lines last f v c low seq) (inl seq) (inr (first_next t c (lines * bands_wide l) h five first full)) (length-set t c h ∙ five) tu.on_reel tu.reels_left tu.on)

  a_group_runs : (f : Files) (gs : List Files) (last : ℕ) → ValidFiles l lines last f → 1 ≤ length (stretches gs) → (e : Expect) → Heads tape z many d l whole lines few nine e → (g : Group) (c : ℕ) (t : List Group) (b : Bands) (reel block : ℕ) → band_of g.content ≡ last → c < 5 → ((c ≡ 0) ⊎ ((get_or t 0 no_group).blocks ≡ lines * bands_wide l)) → 1 ≤ reel → reel + length (tl (stretches (f ∷ gs))) ≡ many → On tape z (at e g c t b) reel block (hd (stretches (f ∷ gs)) ++ closing reel many) (bound d many (reel + 1) (tl (stretches (f ∷ gs)))) → Grouped tape z many d l whole lines few nine f c t b (closes f.ends (stretches gs))
  a_group_runs f gs last v more e heads g c t b reel block same c5 first r left o =
      let has = length-closes f.ends (stretches gs) more in
      let k = length_group f gs v.begun more in
      let u = k.0 in
      let w = k.1 in
      let a = length_tl (stretches (f ∷ gs)) in
      let a2 = length_tl (closes f.ends (stretches gs)) in
      group_run tape z many d l whole lines few nine f last v e heads g c t b reel block (closes f.ends (stretches gs)) same c5 first r has (omega (arith, left, u, w, a, a2, has)) o

  pub groups_run : (gs : List Files) (last : ℕ) → ValidGroups l lines last gs → Runs gs last
  groups_run [] last v e heads g c t b reel block same low alone first five r left o = absurd v
  groups_run (f ∷ []) last v e heads g c t b reel block same low alone first five r left o =
      let c5 = five_at_most l lines last f v.0 c low alone in
      last_group f last c t b v.0 v.1 c5 five (a_group_runs f [] last v.0 (omega arith) e heads g c t b reel block same c5 first r left o)
  groups_run (f ∷ (f2 ∷ gs)) last v e heads g c t b reel block same low alone first five r left o =
      let c5 = five_at_most l lines last f v.0 c low alone in
      let more = some_stretch l lines (band_of (content l f)) (f2 ∷ gs) v.1.1 in
      next_group_runs f (f2 ∷ gs) last c t b v.0 v.1.0 more c5 low first five (groups_run (f2 ∷ gs) (band_of (content l f)) v.1.1) (a_group_runs f (f2 ∷ gs) last v.0 more e heads g c t b reel block same c5 first r left o)
