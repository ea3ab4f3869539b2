-- A set is written from one valid recording only.
use Rattle.std.proofs.Common.{◌≡◌, ℕ, ◌+◌, ◌*◌, ◌≤◌, Bool, true, false, cond, eqb, List, [], ◌∷◌, ◌++◌, length, drop, Some, None, sym, refl, ap, ◌∙◌, subst, append_assoc, arith, length-append}
use Rattle.std.proofs.lemmas.List.{append_cancel_right}
use Rattle.deck.specs.Tape.{Block, written, mark, Reel}
use Rattle.records.specs.declared.layout.Form.{Form}
use Rattle.records.specs.declared.layout.Form.TheVariants.{Interleaved, Sequential, Vidicon}
use Rattle.records.specs.declared.layout.Layout.{Layout}
use Rattle.records.specs.Directories.{layout_of}
use Rattle.records.specs.Records.{byte}
use Rattle.machine.specs.Machines.{band_of}
use Rattle.survey.specs.Recordings.{Body, Line, Files, Recording, record_of, numbered, line_block, lines_from, part, before, attributes_file, image_file, trailer_file, closes, stretches, reels, directory_on, closing, bound, written_as}
use Rattle.survey.specs.Validity.{content, Going, Begun, all_lines, width, bands_wide, ValidFiles, ValidGroups, Valid}
use Rattle.survey.proofs.Accepting.{some_stretch}
use Rattle.survey.proofs.Groups.{files, length-numbered, has_trailers}
use Rattle.survey.proofs.Reels.{first_reel}
use Rattle.survey.proofs.Starting.{digit-one}
use Rattle.survey.proofs.Stretches.{hd, tl, hd_before, tl_before, length_before, length_image, length-bound, length-closes}

module _ {X : Type 0} where
  cons_head : {x y : X} {xs ys : List X} → x ∷ xs ≡ y ∷ ys → x ≡ y
  cons_head e = cc

  cons_tail : {x y : X} {xs ys : List X} → x ∷ xs ≡ y ∷ ys → xs ≡ ys
  cons_tail e = cc

  no_cons : {Y : Type 0} {x : X} {xs : List X} → x ∷ xs ≡ [] → Y
  no_cons e = let k = ap length e in absurd (omega (arith, k))

  fronts : (xs ys us vs : List X) → length xs ≡ length ys → xs ++ us ≡ ys ++ vs → (xs ≡ ys) × (us ≡ vs)
  fronts [] [] us vs h e = (refl, e)
  fronts [] (y ∷ ys) us vs h e = absurd (omega (arith, h))
  fronts (x ∷ xs) [] us vs h e = absurd (omega (arith, h))
  fronts (x ∷ xs) (y ∷ ys) us vs h e =
      let p = fronts xs ys us vs (omega (arith, h)) (cons_tail e) in
      let q = cons_head e in
      (ap (λ k. k ∷ xs) q ∙ ap (λ k. y ∷ k) p.0, p.1)

same_record : (n kind : ℕ) (a b : Body) → written (record_of n kind a) ≡ written (record_of n kind b) → a ≡ b
same_record n kind a b e = let k : record_of n kind a ≡ record_of n kind b = cc in ap (drop 6) k

other_type : {Y : Type 0} (m n : ℕ) (a b : Body) → written (record_of m 237 a) ≡ written (record_of n 246 b) → Y
other_type m n a b e =
    let k : record_of m 237 a ≡ record_of n 246 b = cc in
    let w : ◌≡◌ {A = ℕ} 237 246 = ap (λ xs. byte xs 6) k in absurd (omega (arith, w))

same_numbered : (kind n : ℕ) (xs ys : List Body) → numbered kind n xs ≡ numbered kind n ys → xs ≡ ys
same_numbered kind n [] [] e = refl
same_numbered kind n [] (y ∷ ys) e = no_cons (sym e)
same_numbered kind n (x ∷ xs) [] e = no_cons e
same_numbered kind n (x ∷ xs) (y ∷ ys) e =
    ap (λ k. k ∷ xs) (same_record n kind x y (cons_head e)) ∙ ap (λ k. y ∷ k) (same_numbered kind (n + 1) xs ys (cons_tail e))

-- Records up to a mark.
no_mark : {Y : Type 0} {xs : List ℕ} → written xs ≡ mark → Y
no_mark e = cc

up_to_mark : (kind n : ℕ) (xs ys : List Body) (us vs : Reel) → numbered kind n xs ++ mark ∷ us ≡ numbered kind n ys ++ mark ∷ vs → (xs ≡ ys) × (us ≡ vs)
up_to_mark kind n [] [] us vs e = (refl, cons_tail e)
up_to_mark kind n [] (y ∷ ys) us vs e = no_mark (sym (cons_head e))
up_to_mark kind n (x ∷ xs) [] us vs e = no_mark (cons_head e)
up_to_mark kind n (x ∷ xs) (y ∷ ys) us vs e =
    let p = up_to_mark kind (n + 1) xs ys us vs (cons_tail e) in
    (ap (λ k. k ∷ xs) (same_record n kind x y (cons_head e)) ∙ ap (λ k. y ∷ k) p.0, p.1)

-- Lines up to a mark.
same_line : (n : ℕ) (x y : Line) → line_block n x ≡ line_block n y → x ≡ y
same_line n (Some a) (Some b) e = ap Some (same_record n 237 a b e)
same_line n (Some a) None e = cc
same_line n None (Some b) e = cc
same_line n None None e = refl

line_no_mark : {Y : Type 0} (n : ℕ) (x : Line) → line_block n x ≡ mark → Y
line_no_mark n (Some a) e = no_mark e
line_no_mark n None e = cc

line_no_trailer : {Y : Type 0} (n : ℕ) (x : Line) (y : Body) → line_block n x ≡ written (record_of 1 246 y) → Y
line_no_trailer n (Some a) y e = other_type n 1 a y e
line_no_trailer n None y e = cc

lines_to_mark : (n : ℕ) (xs ys : List Line) (us vs : Reel) → lines_from n xs ++ mark ∷ us ≡ lines_from n ys ++ mark ∷ vs → (xs ≡ ys) × (us ≡ vs)
lines_to_mark n [] [] us vs e = (refl, cons_tail e)
lines_to_mark n [] (y ∷ ys) us vs e = line_no_mark n y (sym (cons_head e))
lines_to_mark n (x ∷ xs) [] us vs e = line_no_mark n x (cons_head e)
lines_to_mark n (x ∷ xs) (y ∷ ys) us vs e =
    let p = lines_to_mark (n + 1) xs ys us vs (cons_tail e) in
    (ap (λ k. k ∷ xs) (same_line n x y (cons_head e)) ∙ ap (λ k. y ∷ k) p.0, p.1)

-- Stretches by their first and their others.
both : (ss us : List Reel) → 1 ≤ length ss → 1 ≤ length us → hd ss ≡ hd us → tl ss ≡ tl us → ss ≡ us
both [] us h k e f = absurd (omega arith)
both (s ∷ ss) [] h k e f = absurd (omega arith)
both (s ∷ ss) (u ∷ us) h k e f = ap (λ y. y ∷ ss) e ∙ ap (λ y. u ∷ y) f

same_before : (a b : Reel) (ss us : List Reel) → before a ss ≡ before b us → (a ++ hd ss ≡ b ++ hd us) × (tl ss ≡ tl us)
same_before a b ss us e = (sym (hd_before a ss) ∙ ap hd e ∙ hd_before b us, sym (tl_before a ss) ∙ ap tl e ∙ tl_before b us)

-- The first block of what is behind an image file is a trailer.
record Trailing (ss : List Reel) : Type 0 where
  body : Body
  rest : Reel
  is : hd ss ≡ written (record_of 1 246 body) ∷ rest
  some : 1 ≤ length ss

part_is : (n : ℕ) (x : Line) (p : List Line) (us : Reel) → part n (x ∷ p) ++ us ≡ lines_from n (x ∷ p) ++ mark ∷ us
part_is n x p us = append_assoc (lines_from n (x ∷ p)) (mark ∷ []) us

part_alone : (n : ℕ) (x : Line) (p : List Line) → part n (x ∷ p) ≡ lines_from n (x ∷ p) ++ mark ∷ []
part_alone n x p = refl

same_image : (ps : List (List Line)) (p : List Line) (qs : List (List Line)) (q : List Line) (n : ℕ) (ss us : List Reel) → Going (p ∷ ps) → Going (q ∷ qs) → Trailing ss → Trailing us → image_file n (p ∷ ps) ss ≡ image_file n (q ∷ qs) us → (p ∷ ps ≡ q ∷ qs) × (ss ≡ us)
same_image [] [] [] [] n ss us g h t v e =
    let w = same_before [] [] ss us e in (refl, both ss us t.some v.some w.0 w.1)
same_image [] [] [] (y ∷ q) n ss us g h t v e =
    let w = same_before [] (part n (y ∷ q)) ss us e in line_no_trailer n y t.body (sym (cons_head (sym t.is ∙ w.0)))
same_image [] [] (q2 ∷ qs) [] n ss us g h t v e = absurd h
same_image [] [] (q2 ∷ qs) (y ∷ q) n ss us g h t v e =
    let w = sym (hd_before [] ss) ∙ ap hd e in line_no_trailer n y t.body (sym (cons_head (sym t.is ∙ w)))
same_image [] (x ∷ p) [] [] n ss us g h t v e =
    let w = same_before (part n (x ∷ p)) [] ss us e in line_no_trailer n x v.body (cons_head (w.0 ∙ v.is))
same_image [] (x ∷ p) [] (y ∷ q) n ss us g h t v e =
    let w = same_before (part n (x ∷ p)) (part n (y ∷ q)) ss us e in
    let l = lines_to_mark n (x ∷ p) (y ∷ q) (hd ss) (hd us) (sym (part_is n x p (hd ss)) ∙ w.0 ∙ part_is n y q (hd us)) in
    (ap (λ k. k ∷ []) l.0, both ss us t.some v.some l.1 w.1)
same_image [] (x ∷ p) (q2 ∷ qs) [] n ss us g h t v e = absurd h
same_image [] (x ∷ p) (q2 ∷ qs) (y ∷ q) n ss us g h t v e =
    let w = sym (hd_before (part n (x ∷ p)) ss) ∙ ap hd e in
    let l = lines_to_mark n (x ∷ p) (y ∷ q) (hd ss) [] (sym (part_is n x p (hd ss)) ∙ w) in
    no_cons (sym t.is ∙ l.1)
same_image (p2 ∷ ps) [] qs q n ss us g h t v e = absurd g
same_image (p2 ∷ ps) (x ∷ p) [] [] n ss us g h t v e =
    let w = ap hd e ∙ hd_before [] us in line_no_trailer n x v.body (cons_head (w ∙ v.is))
same_image (p2 ∷ ps) (x ∷ p) [] (y ∷ q) n ss us g h t v e =
    let w = ap hd e ∙ hd_before (part n (y ∷ q)) us in
    let l = lines_to_mark n (x ∷ p) (y ∷ q) [] (hd us) (w ∙ part_is n y q (hd us)) in
    no_cons (sym v.is ∙ sym l.1)
same_image (p2 ∷ ps) (x ∷ p) (q2 ∷ qs) [] n ss us g h t v e = absurd h
same_image (p2 ∷ ps) (x ∷ p) (q2 ∷ qs) (y ∷ q) n ss us g h t v e =
    let l = lines_to_mark n (x ∷ p) (y ∷ q) [] [] (ap hd e) in
    let tails = cons_tail e ∙ ap (λ k. image_file (n + length k) (q2 ∷ qs) us) (sym l.0) in
    let rest = same_image ps p2 qs q2 (n + length (x ∷ p)) ss us g h t v tails in
    (ap (λ k. k ∷ (p2 ∷ ps)) l.0 ∙ ap (λ k. (y ∷ q) ∷ k) rest.0, rest.1)

going_of : (x : Line) (p : List Line) (ps : List (List Line)) → Going ps → Going ((x ∷ p) ∷ ps)
going_of x p [] g = tt
going_of x p (q ∷ ps) g = g

same_parts : (ps qs : List (List Line)) (ss us : List Reel) → Begun ps → Begun qs → Trailing ss → Trailing us → image_file 1 ps ss ≡ image_file 1 qs us → (ps ≡ qs) × (ss ≡ us)
same_parts [] qs ss us b c t v e = absurd b
same_parts ([] ∷ ps) qs ss us b c t v e = absurd b
same_parts ((x ∷ p) ∷ ps) [] ss us b c t v e = absurd c
same_parts ((x ∷ p) ∷ ps) ([] ∷ qs) ss us b c t v e = absurd c
same_parts ((x ∷ p) ∷ ps) ((y ∷ q) ∷ qs) ss us b c t v e = same_image ps (x ∷ p) qs (y ∷ q) 1 ss us (going_of x p ps b) (going_of y q qs c) t v e

trailing_of : (ts : List Body) (ss : List Reel) → 1 ≤ length ts → 1 ≤ length ss → Trailing (before (numbered 246 1 ts ++ mark ∷ []) ss)
trailing_of [] ss h k = absurd (omega arith)
trailing_of (y ∷ ys) ss h k =
    let long = length_before (numbered 246 1 (y ∷ ys) ++ mark ∷ []) ss k in
    record { body = y; rest = (numbered 246 2 ys ++ mark ∷ []) ++ hd ss; is = hd_before (numbered 246 1 (y ∷ ys) ++ mark ∷ []) ss; some = omega (arith, long, k) }

parts_some : (n : ℕ) (ps : List (List Line)) (ss : List Reel) → Begun ps → 1 ≤ length ss → 1 ≤ length (image_file n ps ss)
parts_some n [] ss b h = absurd b
parts_some n (p ∷ ps) ss b h = let k = length_image n p ps ss h in omega (arith, k)

attributes_long : (f : Files) → length (attributes_file f) ≡ 2 + length f.ancillaries + length f.annotations
attributes_long f =
    let us = f.ancillaries in
    let ns = f.annotations in
    let second = numbered 219 (2 + length us) ns in
    let a = length-append (numbered 36 2 us) (second ++ mark ∷ []) in
    let b = length-append second (mark ∷ []) in
    let c = length-numbered 36 2 us in
    let d = length-numbered 219 (2 + length us) ns in
    omega (arith, a, b, c, d)

same_files : (f g : Files) → f.header ≡ g.header → f.ancillaries ≡ g.ancillaries → f.annotations ≡ g.annotations → f.parts ≡ g.parts → f.trailers ≡ g.trailers → f.ends ≡ g.ends → f ≡ g
same_files f g a b c d e h =
    ap (λ k. files k f.ancillaries f.annotations f.parts f.trailers f.ends) a
    ∙ ap (λ k. files g.header k f.annotations f.parts f.trailers f.ends) b
    ∙ ap (λ k. files g.header g.ancillaries k f.parts f.trailers f.ends) c
    ∙ ap (λ k. files g.header g.ancillaries g.annotations k f.trailers f.ends) d
    ∙ ap (λ k. files g.header g.ancillaries g.annotations g.parts k f.ends) e
    ∙ ap (λ k. files g.header g.ancillaries g.annotations g.parts g.trailers k) h

module _ (l : Layout) (m n i j : ℕ) (f g : Files) (v : ValidFiles l m i f) (w : ValidFiles l n j g) where
  pub record Same (ss us : List Reel) : Type 0 where
    header_same : f.header ≡ g.header
    ancillaries_same : f.ancillaries ≡ g.ancillaries
    annotations_same : f.annotations ≡ g.annotations
    parts_same : f.parts ≡ g.parts
    trailers_same : f.trailers ≡ g.trailers
    behind_same : ss ≡ us

  attributes_same : attributes_file f ≡ attributes_file g → (f.header ≡ g.header) × ((f.ancillaries ≡ g.ancillaries) × (f.annotations ≡ g.annotations))
  attributes_same e =
      let us = f.ancillaries in
      let vs = g.ancillaries in
      let a = length-numbered 36 2 us in
      let b = length-numbered 36 2 vs in
      let many_us = v.ancillaries_many in
      let many_vs = w.ancillaries_many in
      let p = fronts (numbered 36 2 us) (numbered 36 2 vs) (numbered 219 (2 + length us) f.annotations ++ mark ∷ []) (numbered 219 (2 + length vs) g.annotations ++ mark ∷ []) (omega (arith, a, b, many_us, many_vs)) (cons_tail e) in
      let anc = same_numbered 36 2 us vs p.0 in
      let ann = up_to_mark 219 (2 + length us) f.annotations g.annotations [] [] (p.1 ∙ ap (λ k. numbered 219 (2 + length k) g.annotations ++ mark ∷ []) (sym anc)) in
      (same_record 1 18 f.header g.header (cons_head e), (anc, ann.0))

  group_same : (ss us : List Reel) → 1 ≤ length ss → 1 ≤ length us → before (attributes_file f) (image_file 1 f.parts (before (trailer_file f) ss)) ≡ before (attributes_file g) (image_file 1 g.parts (before (trailer_file g) us)) → Same ss us
  group_same ss us h k e =
      let x = before (trailer_file f) ss in
      let y = before (trailer_file g) us in
      let some_f = has_trailers f v.header_trailers in
      let some_g = has_trailers g w.header_trailers in
      let many_f = v.trailers_many in
      let many_g = w.trailers_many in
      let tx = trailing_of f.trailers ss (omega (arith, some_f, many_f)) h in
      let ty = trailing_of g.trailers us (omega (arith, some_g, many_g)) k in
      let p = same_before (attributes_file f) (attributes_file g) (image_file 1 f.parts x) (image_file 1 g.parts y) e in
      let a = attributes_long f in
      let b = attributes_long g in
      let af = v.ancillaries_many in
      let ag = w.ancillaries_many in
      let nf = v.annotations_many in
      let ng = w.annotations_many in
      let q = fronts (attributes_file f) (attributes_file g) (hd (image_file 1 f.parts x)) (hd (image_file 1 g.parts y)) (omega (arith, a, b, af, ag, nf, ng)) p.0 in
      let atts = attributes_same q.0 in
      let images = both (image_file 1 f.parts x) (image_file 1 g.parts y) (parts_some 1 f.parts x v.begun tx.some) (parts_some 1 g.parts y w.begun ty.some) q.1 p.1 in
      let parts = same_parts f.parts g.parts x y v.begun w.begun tx ty images in
      let s = same_before (trailer_file f) (trailer_file g) ss us parts.1 in
      let u = up_to_mark 246 1 f.trailers g.trailers (hd ss) (hd us) (sym (append_assoc (numbered 246 1 f.trailers) (mark ∷ []) (hd ss)) ∙ s.0 ∙ append_assoc (numbered 246 1 g.trailers) (mark ∷ []) (hd us)) in
      record { header_same = atts.0; ancillaries_same = atts.1.0; annotations_same = atts.1.1; parts_same = parts.0; trailers_same = u.0; behind_same = both ss us h k u.1 s.1 }

-- Groups begin with a header.
record Headed (ss : List Reel) : Type 0 where
  block : Block
  rest : Reel
  is : hd ss ≡ block ∷ rest

headed : (f : Files) (fs : List Files) → Headed (stretches (f ∷ fs))
headed f fs =
    let image = image_file 1 f.parts (before (trailer_file f) (closes f.ends (stretches fs))) in
    record { block = written (record_of 1 18 f.header); rest = (numbered 36 2 f.ancillaries ++ (numbered 219 (2 + length f.ancillaries) f.annotations ++ mark ∷ [])) ++ hd image; is = hd_before (attributes_file f) image }

-- The end of a reel behind a trailer file.
same_ends : (a b : Bool) (f g : Files) (fs gs : List Files) → closes a (stretches (f ∷ fs)) ≡ closes b (stretches (g ∷ gs)) → (a ≡ b) × (stretches (f ∷ fs) ≡ stretches (g ∷ gs))
same_ends true true f g fs gs e = (refl, cons_tail e)
same_ends true false f g fs gs e = let h = headed g gs in no_cons (sym h.is ∙ sym (ap hd e))
same_ends false true f g fs gs e = let h = headed f fs in no_cons (sym h.is ∙ ap hd e)
same_ends false false f g fs gs e = (refl, e)

last_ends : {Y : Type 0} (a b : Bool) (g : Files) (gs : List Files) → a ≡ false → 1 ≤ length (stretches (g ∷ gs)) → closes a (stretches []) ≡ closes b (stretches (g ∷ gs)) → Y
last_ends true b g gs h k e = cc
last_ends false true g gs h k e = let w = ap length (cons_tail e) in absurd (omega (arith, w, k))
last_ends false false g gs h k e = let u = headed g gs in no_cons (sym u.is ∙ sym (ap hd e))

same_groups : (l : Layout) (m n i j : ℕ) (fs gs : List Files) → ValidGroups l m i fs → ValidGroups l n j gs → stretches fs ≡ stretches gs → fs ≡ gs
same_groups l m n i j [] gs v w e = absurd v
same_groups l m n i j (f ∷ fs) [] v w e = absurd w
same_groups l m n i j (f ∷ []) (g ∷ []) v w e =
    let s = group_same l m n i j f g v.0 w.0 (closes f.ends (stretches [])) (closes g.ends (stretches [])) (length-closes f.ends (stretches []) (omega arith)) (length-closes g.ends (stretches []) (omega arith)) e in
    ap (λ k. k ∷ []) (same_files f g s.header_same s.ancillaries_same s.annotations_same s.parts_same s.trailers_same (v.1 ∙ sym w.1))
same_groups l m n i j (f ∷ []) (g ∷ (g2 ∷ gs)) v w e =
    let more = some_stretch l n (band_of (content l g)) (g2 ∷ gs) w.1.1 in
    let s = group_same l m n i j f g v.0 w.0 (closes f.ends (stretches [])) (closes g.ends (stretches (g2 ∷ gs))) (length-closes f.ends (stretches []) (omega arith)) (length-closes g.ends (stretches (g2 ∷ gs)) more) e in
    last_ends f.ends g.ends g2 gs v.1 more s.behind_same
same_groups l m n i j (f ∷ (f2 ∷ fs)) (g ∷ []) v w e =
    let more = some_stretch l m (band_of (content l f)) (f2 ∷ fs) v.1.1 in
    let s = group_same l m n i j f g v.0 w.0 (closes f.ends (stretches (f2 ∷ fs))) (closes g.ends (stretches [])) (length-closes f.ends (stretches (f2 ∷ fs)) more) (length-closes g.ends (stretches []) (omega arith)) e in
    last_ends g.ends f.ends f2 fs w.1 more (sym s.behind_same)
same_groups l m n i j (f ∷ (f2 ∷ fs)) (g ∷ (g2 ∷ gs)) v w e =
    let more_f = some_stretch l m (band_of (content l f)) (f2 ∷ fs) v.1.1 in
    let more_g = some_stretch l n (band_of (content l g)) (g2 ∷ gs) w.1.1 in
    let s = group_same l m n i j f g v.0 w.0 (closes f.ends (stretches (f2 ∷ fs))) (closes g.ends (stretches (g2 ∷ gs))) (length-closes f.ends (stretches (f2 ∷ fs)) more_f) (length-closes g.ends (stretches (g2 ∷ gs)) more_g) e in
    let ends = same_ends f.ends g.ends f2 g2 fs gs s.behind_same in
    ap (λ k. k ∷ (f2 ∷ fs)) (same_files f g s.header_same s.ancillaries_same s.annotations_same s.parts_same s.trailers_same ends.0)
    ∙ ap (λ k. g ∷ k) (same_groups l m n (band_of (content l f)) (band_of (content l g)) (f2 ∷ fs) (g2 ∷ gs) v.1.1 w.1.1 ends.1)

-- The lines of each band are as many.
first_count : (l : Layout) (m i : ℕ) (f : Files) (fs : List Files) → ValidGroups l m i (f ∷ fs) → length (all_lines f.parts) ≡ m * bands_wide l
first_count l m i f [] v = v.0.lines_many
first_count l m i f (g ∷ fs) v = v.0.lines_many

times : (b : Bool) (m n : ℕ) → m * cond b 5 4 ≡ n * cond b 5 4 → m ≡ n
times true m n e = omega (arith, e)
times false m n e = omega (arith, e)

times_wide : (f : Form) (mission m n : ℕ) → m * width f (cond (eqb mission 3) 5 4) ≡ n * width f (cond (eqb mission 3) 5 4) → m ≡ n
times_wide Interleaved mission m n e = times (eqb mission 3) m n e
times_wide Sequential mission m n e = omega (arith, e)
times_wide Vidicon mission m n e = omega (arith, e)

same_lines : (l : Layout) (m n i j : ℕ) (fs gs : List Files) → ValidGroups l m i fs → ValidGroups l n j gs → fs ≡ gs → m ≡ n
same_lines l m n i j [] gs v w e = absurd v
same_lines l m n i j (f ∷ fs) [] v w e = absurd w
same_lines l m n i j (f ∷ fs) (g ∷ gs) v w e =
    let same : length (all_lines f.parts) ≡ length (all_lines g.parts) = ap (λ (k : Files). length (all_lines k.parts)) (cons_head e) in
    times_wide l.form l.mission m n (sym (first_count l m i f fs v) ∙ same ∙ first_count l n j g gs w)

-- Reels.
same_bound : (d : Body) (many reel : ℕ) (ss us : List Reel) → bound d many reel ss ≡ bound d many reel us → ss ≡ us
same_bound d many reel [] [] e = refl
same_bound d many reel [] (u ∷ us) e = no_cons (sym e)
same_bound d many reel (s ∷ ss) [] e = no_cons e
same_bound d many reel (s ∷ ss) (u ∷ us) e =
    ap (λ k. k ∷ ss) (append_cancel_right s u (closing reel many) (cons_tail (cons_tail (cons_head e)))) ∙ ap (λ k. u ∷ k) (same_bound d many (reel + 1) ss us (cons_tail e))

first_directories : (d e : Body) (m n : ℕ) (ss us : List Reel) → 1 ≤ length ss → 1 ≤ length us → bound d m 1 ss ≡ bound e n 1 us → directory_on d 1 ≡ directory_on e 1
first_directories d e m n [] us h k q = absurd (omega arith)
first_directories d e m n (s ∷ ss) [] h k q = absurd (omega arith)
first_directories d e m n (s ∷ ss) (u ∷ us) h k q = let w : written (directory_on d 1) ≡ written (directory_on e 1) = cons_head (cons_head q) in cc

abbrev recording_of : Layout → Body → ℕ → List Files → Recording
recording_of l d n gs = record { layout = l; directory = d; lines = n; groups = gs }

same_recordings : (r s : Recording) → r.layout ≡ s.layout → r.directory ≡ s.directory → r.lines ≡ s.lines → r.groups ≡ s.groups → r ≡ s
same_recordings r s a b c d =
    ap (λ k. recording_of k r.directory r.lines r.groups) a
    ∙ ap (λ k. recording_of s.layout k r.lines r.groups) b
    ∙ ap (λ k. recording_of s.layout s.directory k r.groups) c
    ∙ ap (λ k. recording_of s.layout s.directory s.lines k) d

pub unique : (r s : Recording) → Valid r → Valid s → written_as r ≡ written_as s → r ≡ s
unique r s v w e =
    let ss = stretches r.groups in
    let us = stretches s.groups in
    let d1 = r.directory in
    let d2 = s.directory in
    let some_r = some_stretch r.layout r.lines 0 r.groups v.groups_valid in
    let some_s = some_stretch s.layout s.lines 0 s.groups w.groups_valid in
    let firsts = first_directories d1 d2 (reels r) (reels s) ss us some_r some_s e in
    let directories : d1 ≡ d2 = ap (drop 6) (sym (first_reel d1 (digit-one d1 r.layout (reels r) v.directory_values)) ∙ firsts ∙ first_reel d2 (digit-one d2 s.layout (reels s) w.directory_values)) in
    let many : reels r ≡ reels s = sym (length-bound d1 (reels r) 1 ss) ∙ ap length e ∙ length-bound d2 (reels s) 1 us in
    let named : Some r.layout ≡ Some s.layout = sym v.directory_names ∙ ap (λ k. layout_of (record_of 1 9 k)) directories ∙ w.directory_names in
    let layouts : r.layout ≡ s.layout = cc in
    let stretched : ss ≡ us = same_bound d1 (reels r) 1 ss us (e ∙ ap (λ k. bound k (reels s) 1 us) (sym directories) ∙ ap (λ k. bound d1 k 1 us) (sym many)) in
    let wg = subst (λ k. ValidGroups k s.lines 0 s.groups) (sym layouts) w.groups_valid in
    let groups = same_groups r.layout r.lines s.lines 0 0 r.groups s.groups v.groups_valid wg stretched in
    let lines = same_lines r.layout r.lines s.lines 0 0 r.groups s.groups v.groups_valid wg groups in
    same_recordings r s layouts directories lines groups
