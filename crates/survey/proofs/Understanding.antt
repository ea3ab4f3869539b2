-- From a run that was accepted, what a writer wrote: the machine's table read backwards.
use Rattle.std.proofs.Common.{◌≡◌, ℕ, ◌+◌, ◌<◌, ◌≤◌, Bool, true, false, cond, not, ◌&&◌, eqb, ltb, leb, ◌⊎◌, List, [], ◌∷◌, length, drop, set, Some, None, Ok, sym, refl, ap, ◌∙◌, subst, inl, ⊎_elim, arith, length-set}
use Rattle.std.proofs.lemmas.Bool.{ltb-true, ltb-false, leb-false, eqb-true, eqb-false}
use Rattle.deck.specs.Tape.{Block, written, mark, bad, Reel, TapeSet}
use Rattle.records.specs.Headers.{header}
use Rattle.records.specs.Layouts.{record_length, ancillaries, annotations, attributes, stride}
use Rattle.records.specs.Records.{byte, checked}
use Rattle.records.specs.Bands.{more_bands}
use Rattle.records.specs.declared.bands.Bands.{Bands}
use Rattle.records.specs.declared.layout.Correction.{Correction}
use Rattle.records.specs.declared.layout.Correction.TheVariants.{Corrected, Uncorrected}
use Rattle.records.specs.declared.layout.Form.{Form}
use Rattle.records.specs.declared.layout.Form.TheVariants.{Interleaved, Sequential, Vidicon}
use Rattle.records.specs.declared.layout.Layout.{Layout}
use Rattle.machine.specs.Findings.{place_of}
use Rattle.machine.specs.Machines.{fresh, begun, band_of, on_header, on_image, on_bad_line, on_first_trailer, on_trailer, on_attribute, line, one_more, missing, most_blocks, all_zero, trailing, trailed, lines_agree, goes_on, next_group, ends_behind_trailer, expecting}
use Rattle.machine.specs.declared.machine.Expect.{Expect}
use Rattle.machine.specs.declared.machine.Expect.TheVariants as expects
use Rattle.machine.specs.declared.machine.Group.{Group}
use Rattle.machine.specs.declared.machine.Machine.{Machine}
use Rattle.machine.specs.declared.machine.Onward.TheVariants as onwards
use Rattle.survey.specs.Recordings.{Body, Line, record_of, line_block, closing}
use Rattle.survey.specs.Validity.{Fit}
use Rattle.survey.proofs.Passing.{spells}
use Rattle.survey.proofs.Running.{go}
use Rattle.survey.proofs.Stretches.{closing_last}
use Rattle.survey.proofs.Steps.{six, machine}
use Rattle.survey.proofs.Accepting.{first_next}
use Rattle.survey.proofs.Rests as rests
use Rattle.survey.proofs.Rests.{open_file, behind-part, before_cons, open_more, open_over, open_file_is}
use Rattle.survey.proofs.Inverse.{after, refused, was_passed, was_either, was_true, was_false, was_begun, header-says, zero_if, not_absent}
use Rattle.survey.proofs.Recovering.{attribute_more, trailer_more, image_more, resumed_more, first_more, image_over, after_break, after_trailer, resumed_trailer, group_more, behind-header, behind_end, over, whole_lines, agreed, some_trailer}

some_annotation : (c : Correction) → 1 ≤ annotations c
some_annotation Corrected = omega arith
some_annotation Uncorrected = omega arith

above : (n : ℕ) → (n ≡ 1 → ⊥) → 1 ≤ n → 1 < n
above n h k = grind arith

module _ (z : Machine) (many : ℕ) (d : Body) (l : Layout) (reel : ℕ) (bs : Reel) (rs : TapeSet) where
  abbrev at : Expect → Group → ℕ → List Group → Bands → Machine
  at e g c t b = machine many (record_of 1 9 d) l e g c t b

  -- What is left is known of every machine that stands one block further.
  abbrev pub Again : Type 0
  Again = (e : Expect) (g : Group) (c : ℕ) (t : List Group) (b : Bands) (block : ℕ) → length t ≡ 5 → rests.Known many d l e g c t reel → go (at e g c t b) reel block bs rs ≡ Ok z → rests.Rest many d l e g c t reel bs rs

  module _ (again : Again) (g : Group) (c : ℕ) (t : List Group) (b : Bands) (block : ℕ) (five : length t ≡ 5) where
    -- A header.
    on_header_left : (e : Expect) (xs : List ℕ) → rests.Alone many d l c → after reel block bs rs (on_header (at e g c t b) (place_of reel block) xs) ≡ Ok z → rests.GroupsRest many d l (band_of g.content) c (rests.first-blocks many d l t) reel (written xs ∷ bs) rs
    on_header_left e xs alone q =
        let last = band_of g.content in
        let p = was_passed reel block bs rs z (checked xs (record_length l.form) 18 1) (begun (at e g c t b) (place_of reel block) (header xs l last)) q in
        let k = was_begun reel block bs rs z (at e g c t b) (place_of reel block) (header xs l last) p.1 in
        let h = header-says xs l last k.says k.is in
        let s = spells xs (record_length l.form) 18 1 (six l.form) p.0 in
        let some = some_annotation l.correction in
        let trailers : 1 ≤ k.says.trailers = subst (λ n. 1 ≤ n) (sym h.trailers_are) (some_trailer xs h.trailers) in
        let rest = again (expects.Attribute 2) (fresh k.says (place_of reel block)) c t (more_bands k.says.content b) (block + 1) five (omega (arith, some), (alone, (trailers, refl))) k.on in
        group_more many d l xs last k.says (place_of reel block) c t reel bs rs s h rest

    -- An attribute record.
    attribute_left : (n : ℕ) (less : Bool) → ltb n (attributes l) ≡ less → n ≤ attributes l → rests.Ahead many d l g c → go (at (cond less (expects.Attribute (n + 1)) expects.AttributeMark) g c t b) reel (block + 1) bs rs ≡ Ok z → rests.AttributesRest many d l g c t (n + 1) reel bs rs
    attribute_left n true e h k q = again (expects.Attribute (n + 1)) g c t b (block + 1) five (let u = ltb-true n (attributes l) e in omega (arith, u), k) q
    attribute_left n false e h k q =
        let u = ltb-false n (attributes l) e in
        subst (λ m. rests.AttributesRest many d l g c t m reel bs rs) (omega (arith, u)) (again expects.AttributeMark g c t b (block + 1) five k q)

    on_attribute_left : (n : ℕ) (xs : List ℕ) → n ≤ attributes l → rests.Ahead many d l g c → after reel block bs rs (on_attribute (at (expects.Attribute n) g c t b) n xs) ≡ Ok z → rests.AttributesRest many d l g c t n reel (written xs ∷ bs) rs
    on_attribute_left n xs h k q =
        let p = was_passed reel block bs rs z (checked xs (record_length l.form) (cond (leb n (1 + ancillaries l)) 36 219) n) (Ok (at (cond (ltb n (attributes l)) (expects.Attribute (n + 1)) expects.AttributeMark) g c t b)) q in
        attribute_more many d l reel bs rs g c t n xs (leb n (1 + ancillaries l)) refl p.0 (attribute_left n (ltb n (attributes l)) refl h k p.1)

    -- A line.
    record Lined (blank : Bool) : Type 0 where
      under : g.blocks < most_blocks l.form (stride l)
      zeros : (missing g.content g.blocks (stride l) && not blank) ≡ false
      rest : rests.ImageRest many d l (one_more g reel) c t reel bs rs

    lined_left : (e : Expect) (blank : Bool) → rests.Alone many d l c → 1 ≤ g.trailers → after reel block bs rs (line (at e g c t b) (place_of reel block) blank) ≡ Ok z → Lined blank
    lined_left e blank alone trailers q =
        let p = was_false reel block bs rs z (leb (most_blocks l.form (stride l)) g.blocks) _ 35 q in
        let r = was_false reel block bs rs z (missing g.content g.blocks (stride l) && not blank) (Ok (at expects.Image (one_more g reel) c t b)) 36 p.1 in
        let u = leb-false (most_blocks l.form (stride l)) g.blocks p.0 in
        record { under = u; zeros = r.0; rest = again expects.Image (one_more g reel) c t b (block + 1) five (alone, (trailers, (omega arith, omega (arith, u)))) r.1 }

    -- A line that can be read, and one that cannot.
    pub record LineLeft (b0 : Block) : Type 0 where
      pub line_is : Line
      pub is : b0 ≡ line_block (g.blocks + 1) line_is
      pub fit : Fit l g.content g.blocks line_is
      pub rest : rests.ImageRest many d l (one_more g reel) c t reel bs rs

    on_image_left : (e : Expect) (xs : List ℕ) → rests.Alone many d l c → 1 ≤ g.trailers → after reel block bs rs (on_image (at e g c t b) (place_of reel block) xs) ≡ Ok z → LineLeft (written xs)
    on_image_left e xs alone trailers q =
        let p = was_passed reel block bs rs z (checked xs (record_length l.form) 237 (g.blocks + 1)) (line (at e g c t b) (place_of reel block) (all_zero (drop 6 xs))) q in
        let s = spells xs (record_length l.form) 237 (g.blocks + 1) (six l.form) p.0 in
        let r = lined_left e (all_zero (drop 6 xs)) alone trailers p.1 in
        record { line_is = Some (drop 6 xs); is = ap written s.is; fit = (s.long, zero_if (missing g.content g.blocks (stride l)) (all_zero (drop 6 xs)) r.zeros); rest = r.rest }

    on_bad_left : (e : Expect) → rests.Alone many d l c → 1 ≤ g.trailers → after reel block bs rs (on_bad_line (at e g c t b) (place_of reel block)) ≡ Ok z → LineLeft bad
    on_bad_left e alone trailers q =
        let r = lined_left e false alone trailers q in
        record { line_is = None; is = refl; fit = not_absent (missing g.content g.blocks (stride l)) r.zeros; rest = r.rest }

    -- A trailer.
    trailer_left : (h : Group) (n : ℕ) (less : Bool) → ltb n h.trailers ≡ less → n ≤ h.trailers → rests.Agreed many d l h c t → go (at (cond less (expects.Trailer (n + 1)) expects.TrailerMark) h c t b) reel (block + 1) bs rs ≡ Ok z → rests.TrailersRest many d l h (n + 1) reel bs rs
    trailer_left h n true e k a q = again (expects.Trailer (n + 1)) h c t b (block + 1) five (let u = ltb-true n h.trailers e in omega (arith, u), a) q
    trailer_left h n false e k a q =
        let u = ltb-false n h.trailers e in
        subst (λ m. rests.TrailersRest many d l h m reel bs rs) (omega (arith, u)) (again expects.TrailerMark h c t b (block + 1) five a q)

    on_trailer_left : (n : ℕ) (xs : List ℕ) → n ≤ g.trailers → rests.Agreed many d l g c t → after reel block bs rs (on_trailer (at (expects.Trailer n) g c t b) n xs) ≡ Ok z → rests.TrailersRest many d l g n reel (written xs ∷ bs) rs
    on_trailer_left n xs h a q =
        let p = was_passed reel block bs rs z (checked xs (record_length l.form) 246 n) (Ok (at (cond (ltb n g.trailers) (expects.Trailer (n + 1)) expects.TrailerMark) g c t b)) q in
        trailer_more many d l reel bs rs g c t n xs (spells xs (record_length l.form) 246 n (six l.form) p.0) (trailer_left g n (ltb n g.trailers) refl h a p.1)

    -- The first trailer.
    record FirstTrailer (xs : List ℕ) : Type 0 where
      same : (c ≡ 0) ⊎ (rests.first-blocks many d l t ≡ g.blocks)
      rest : rests.TrailersRest many d l (trailed g (place_of reel block)) 1 reel (written xs ∷ bs) rs

    agrees_left : rests.Alone many d l c → lines_agree l.form (stride l) c (rests.first-blocks many d l t) g.blocks ≡ true → (c ≡ 0) ⊎ (rests.first-blocks many d l t ≡ g.blocks)
    agrees_left alone e = ⊎_elim (λ (s : l.form ≡ Sequential). agreed l.form (stride l) c (rests.first-blocks many d l t) g.blocks s e) (λ (s : c ≡ 0). inl s) alone

    first_trailer_left : (e : Expect) (xs : List ℕ) → rests.Within many d l g c → after reel block bs rs (on_first_trailer (at e g c t b) (place_of reel block) xs) ≡ Ok z → FirstTrailer xs
    first_trailer_left e xs k q =
        let h = trailed g (place_of reel block) in
        let p = was_passed reel block bs rs z (checked xs (record_length l.form) 246 1) (trailing (at e g c t b) (place_of reel block)) q in
        let r = was_true reel block bs rs z (lines_agree l.form (stride l) c (rests.first-blocks many d l t) g.blocks) (Ok (at (cond (ltb 1 g.trailers) (expects.Trailer (1 + 1)) expects.TrailerMark) h c t b)) 35 p.1 in
        let w = whole_lines l.form l.mission c (rests.first-blocks many d l t) g.blocks r.0 k.1.1.0 k.1.1.1 in
        let same = agrees_left k.0 r.0 in
        let counted : rests.Counted many d l h = record { lines = w.lines; some = w.some; few = w.few; full = w.full } in
        record { same = same; rest = trailer_more many d l reel bs rs h c t 1 xs (spells xs (record_length l.form) 246 1 (six l.form) p.0) (trailer_left h 1 (ltb 1 g.trailers) refl k.1.0 (counted, same) r.1) }

    -- The marks.
    attributes_over : rests.FirstRest many d l g c t reel bs rs → rests.AttributesRest many d l g c t (attributes l + 1) reel (mark ∷ bs) rs
    attributes_over r =
        let some = some_annotation l.correction in record {
          first = [];
          first-whole = tt;
          first_count = omega (arith, some);
          second = [];
          second_whole = tt;
          second_count = omega arith;
          parts = r.parts;
          begun = r.begun;
          content = r.content;
          rem = rests.rem_cons many d l reel mark bs rs _ r.rem;
        }

    trailers_over : rests.BehindRest many d l g reel bs rs → rests.TrailersRest many d l g (g.trailers + 1) reel (mark ∷ bs) rs
    trailers_over r = record {
      lines = r.lines;
      some = r.some;
      few = r.few;
      full = r.full;
      bodies = [];
      whole = tt;
      count = omega arith;
      ends = r.ends;
      groups = r.groups;
      more = r.more;
      rem = rests.rem_cons many d l reel mark bs rs _ r.rem;
    }

    closed_left : (less : Bool) → ltb c 5 ≡ less → rests.Agreed many d l g c t → go (expecting (cond less (at expects.TrailerMark g (c + 1) (set t c g) b) (at expects.TrailerMark g c t b)) expects.BehindTrailer) reel (block + 1) bs rs ≡ Ok z → rests.BehindRest many d l g reel bs rs
    closed_left true e a q = again expects.BehindTrailer g (c + 1) (set t c g) b (block + 1) (length-set t c g ∙ five) (a.0, (omega arith, first_next t c g.blocks g five a.1 refl)) q
    closed_left false e a q =
        let u = ltb-false c 5 e in
        again expects.BehindTrailer g c t b (block + 1) five (a.0, (omega (arith, u), ⊎_elim (λ (k : c ≡ 0). absurd (omega (arith, u))) (λ (k : rests.first-blocks many d l t ≡ g.blocks). k) a.1)) q

    next_left : (f : Form) → l.form ≡ f → (xs : List ℕ) → 1 ≤ c → rests.first-blocks many d l t ≡ g.blocks → after reel block bs rs (next_group f (at expects.BehindTrailer g c t b) (place_of reel block) xs) ≡ Ok z → rests.BehindRest many d l g reel (written xs ∷ bs) rs
    next_left Interleaved e xs k h q = refused _ z q
    next_left Sequential e xs k h q = behind-header many d l g c t reel (written xs ∷ bs) rs k h e (on_header_left expects.BehindTrailer xs (inl e) q)
    next_left Vidicon e xs k h q = refused _ z q

    goes_left : (f : Form) → l.form ≡ f → reel < many → 1 ≤ c → rests.first-blocks many d l t ≡ g.blocks → after reel block bs rs (goes_on f (at expects.BehindTrailer g c t b)) ≡ Ok z → rests.BehindRest many d l g reel (mark ∷ bs) rs
    goes_left Interleaved e u k h q = refused _ z q
    goes_left Sequential e u k h q =
        let r = again (expects.End (Some onwards.Header)) g c t b (block + 1) five (omega arith, e) q in
        behind_end many d l g c t reel bs rs k h e r.0 r.1
    goes_left Vidicon e u k h q = refused _ z q

    ends_left : (one : Bool) → eqb many 1 ≡ one → reel ≡ many → 1 ≤ reel → rests.Counted many d l g → go (at (cond one (expects.End None) expects.LastMark) g c t b) reel (block + 1) bs rs ≡ Ok z → rests.BehindRest many d l g reel (mark ∷ bs) rs
    ends_left true e u r k q =
        let w = again (expects.End None) g c t b (block + 1) five (omega (arith, u)) q in
        let one = eqb-true many 1 e in
        over many d l g reel (mark ∷ bs) rs k (ap (λ y. mark ∷ y) w.0 ∙ sym (ap (λ y. closing y many) (u ∙ one) ∙ ap (closing 1) one)) w.1 u
    ends_left false e u r k q =
        let w = again expects.LastMark g c t b (block + 1) five (omega (arith, u)) q in
        let more : 1 < many = above many (eqb-false many 1 e) (omega (arith, u, r)) in
        over many d l g reel (mark ∷ bs) rs k (ap (λ y. mark ∷ y) w.0 ∙ sym (ap (λ y. closing y many) u ∙ closing_last many more)) w.1 u

    resumed_left : (xs : List ℕ) → rests.Within many d l g c → after reel block bs rs (cond (eqb (byte xs 6) 246) (on_first_trailer (at expects.Resumed g c t b) (place_of reel block) xs) (on_image (at expects.Resumed g c t b) (place_of reel block) xs)) ≡ Ok z → rests.ResumedRest many d l g c t reel (written xs ∷ bs) rs
    resumed_left xs k q =
        ⊎_elim
        (λ (p : (eqb (byte xs 6) 246 ≡ true) × (after reel block bs rs (on_first_trailer (at expects.Resumed g c t b) (place_of reel block) xs) ≡ Ok z)).
        let r = first_trailer_left expects.Resumed xs k p.1 in
        resumed_trailer many d l g c t reel (written xs ∷ bs) rs (place_of reel block) r.same r.rest)
        (λ (p : (eqb (byte xs 6) 246 ≡ false) × (after reel block bs rs (on_image (at expects.Resumed g c t b) (place_of reel block) xs) ≡ Ok z)).
        let r = on_image_left expects.Resumed xs k.0 k.1.0 p.1 in
        resumed_more many d l g c t reel bs rs (written xs) r.line_is r.is r.fit r.rest)
        (was_either reel block bs rs z (eqb (byte xs 6) 246) (on_first_trailer (at expects.Resumed g c t b) (place_of reel block) xs) (on_image (at expects.Resumed g c t b) (place_of reel block) xs) q)

    behind_mark_left : 1 ≤ reel → reel + length rs ≡ many → rests.Counted many d l g × ((1 ≤ c) × (rests.first-blocks many d l t ≡ g.blocks)) → after reel block bs rs (ends_behind_trailer (at expects.BehindTrailer g c t b) (place_of reel block)) ≡ Ok z → rests.BehindRest many d l g reel (mark ∷ bs) rs
    behind_mark_left r left k q =
        ⊎_elim
        (λ (p : (ltb reel many ≡ true) × (after reel block bs rs (goes_on l.form (at expects.BehindTrailer g c t b)) ≡ Ok z)). goes_left l.form refl (ltb-true reel many p.0) k.1.0 k.1.1 p.1)
        (λ (p : (ltb reel many ≡ false) × (after reel block bs rs (Ok (at (cond (eqb many 1) (expects.End None) expects.LastMark) g c t b)) ≡ Ok z)). let u = ltb-false reel many p.0 in ends_left (eqb many 1) refl (omega (arith, u, left)) r k.0 p.1)
        (was_either reel block bs rs z (ltb reel many) (goes_on l.form (at expects.BehindTrailer g c t b)) (Ok (at (cond (eqb many 1) (expects.End None) expects.LastMark) g c t b)) q)

    -- A block that was taken, whatever was expected.
    pub block_left : (b0 : Block) (e : Expect) → 1 ≤ reel → reel + length rs ≡ many → rests.Known many d l e g c t reel → go (at e g c t b) reel block (b0 ∷ bs) rs ≡ Ok z → rests.Rest many d l e g c t reel (b0 ∷ bs) rs
    block_left b0 (expects.Directory on) r left k q = absurd k
    block_left b0 (expects.DirectoryMark on) r left k q = absurd k
    block_left (written xs) expects.Header r left k q = on_header_left expects.Header xs k q
    block_left mark expects.Header r left k q = refused _ z q
    block_left bad expects.Header r left k q = refused _ z q
    block_left (written xs) (expects.Attribute n) r left k q = on_attribute_left n xs k.0 k.1 q
    block_left mark (expects.Attribute n) r left k q = refused _ z q
    block_left bad (expects.Attribute n) r left k q = refused _ z q
    block_left (written xs) expects.AttributeMark r left k q = refused _ z q
    block_left mark expects.AttributeMark r left k q = attributes_over (again expects.FirstImage g c t b (block + 1) five k q)
    block_left bad expects.AttributeMark r left k q = refused _ z q
    block_left (written xs) expects.FirstImage r left k q = let p = on_image_left expects.FirstImage xs k.0 k.1.0 q in first_more many d l g c t reel bs rs (written xs) p.line_is p.is p.fit p.rest
    block_left mark expects.FirstImage r left k q = refused _ z q
    block_left bad expects.FirstImage r left k q = let p = on_bad_left expects.FirstImage k.0 k.1.0 q in first_more many d l g c t reel bs rs bad p.line_is p.is p.fit p.rest
    block_left (written xs) expects.Image r left k q = let p = on_image_left expects.Image xs k.0 k.1.0 q in image_more many d l g c t reel bs rs (written xs) p.line_is p.is p.fit p.rest
    block_left mark expects.Image r left k q = image_over many d l g c t reel bs rs (again expects.BehindImage g c t b (block + 1) five k q)
    block_left bad expects.Image r left k q = let p = on_bad_left expects.Image k.0 k.1.0 q in image_more many d l g c t reel bs rs bad p.line_is p.is p.fit p.rest
    block_left (written xs) expects.BehindImage r left k q = let p = first_trailer_left expects.BehindImage xs k q in after_trailer many d l g c t reel (written xs ∷ bs) rs (place_of reel block) p.same p.rest
    block_left mark expects.BehindImage r left k q =
        let p = was_true reel block bs rs z (ltb reel many) (Ok (at (expects.End (Some onwards.Image)) g c t b)) 37 q in
        let u = ltb-true reel many p.0 in
        let w = again (expects.End (Some onwards.Image)) g c t b (block + 1) five (omega (arith, u), k) p.1 in
        after_break many d l g c t reel bs rs bs w.0 w.1
    block_left bad expects.BehindImage r left k q = refused _ z q
    block_left (written xs) expects.Resumed r left k q = resumed_left xs k q
    block_left mark expects.Resumed r left k q = refused _ z q
    block_left bad expects.Resumed r left k q = let p = on_bad_left expects.Resumed k.0 k.1.0 q in resumed_more many d l g c t reel bs rs bad p.line_is p.is p.fit p.rest
    block_left (written xs) (expects.Trailer n) r left k q = on_trailer_left n xs k.0 k.1 q
    block_left mark (expects.Trailer n) r left k q = refused _ z q
    block_left bad (expects.Trailer n) r left k q = refused _ z q
    block_left (written xs) expects.TrailerMark r left k q = refused _ z q
    block_left mark expects.TrailerMark r left k q = trailers_over (closed_left (ltb c 5) refl k q)
    block_left bad expects.TrailerMark r left k q = refused _ z q
    block_left (written xs) expects.BehindTrailer r left k q = next_left l.form refl xs k.1.0 k.1.1 q
    block_left mark expects.BehindTrailer r left k q = behind_mark_left r left k q
    block_left bad expects.BehindTrailer r left k q = refused _ z q
    block_left (written xs) expects.LastMark r left k q = refused _ z q
    block_left mark expects.LastMark r left k q = let w = again (expects.End None) g c t b (block + 1) five k q in (ap (λ y. mark ∷ y) w.0, w.1)
    block_left bad expects.LastMark r left k q = refused _ z q
    block_left (written xs) (expects.End on) r left k q = refused _ z q
    block_left mark (expects.End on) r left k q = refused _ z q
    block_left bad (expects.End on) r left k q = refused _ z q
