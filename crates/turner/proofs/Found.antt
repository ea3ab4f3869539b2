-- A set that is turned is what the turned recording is written as.
use Rattle.std.proofs.Common.{◌≡◌, ℕ, zero, suc, ◌+◌, ◌-◌, ◌<◌, ◌≤◌, Bool, true, false, cond, eqb, List, [], ◌∷◌, map, length, get_or, Some, None, Ok, Err, Option, sym, refl, ap, ◌∙◌, subst, append-nil, arith}
use Rattle.std.proofs.lemmas.Bool.{le-leb, eq-eqb, and_from, cond-true}
use Rattle.deck.specs.Tape.{written, Reel, TapeSet, look}
use Rattle.records.specs.Layouts.{record_length, sensor_in, ancillaries, annotations}
use Rattle.records.specs.Records.{byte}
use Rattle.records.specs.declared.layout.Correction.{Correction}
use Rattle.records.specs.declared.layout.Form.{Form}
use Rattle.records.specs.declared.layout.Form.TheVariants.{Interleaved, Sequential, Vidicon}
use Rattle.records.specs.declared.layout.Layout.{Layout}
use Rattle.machine.specs.Machines.{no_group}
use Rattle.machine.specs.declared.accepted.Accepted.{Accepted}
use Rattle.machine.specs.declared.machine.Group.{Group}
use Rattle.survey.specs.Laws.{Obeys}
use Rattle.survey.specs.Pictures.{places_in, all_codes, all_rows}
use Rattle.survey.specs.Placed.{Stood, StoodFrom}
use Rattle.survey.specs.Recordings.{Body, Line, Files, Recording, record_of, stretches, reels, directory_on, bound, written_as}
use Rattle.survey.specs.Validity.{body_length, header_record, ValidFiles, ValidGroups}
use Rattle.survey.proofs.Accepting.{some_stretch}
use Rattle.survey.proofs.Reels.{first_reel}
use Rattle.survey.proofs.Starting.{digit-one}
use Rattle.survey.proofs.Steps.{six}
use Rattle.reader.specs.Bodies.{Delivery, body_of, body_at}
use Rattle.reader.specs.Finding.{codes, index_of, band_file, line_spot, spot}
use Rattle.reader.specs.Pictured.{body_size, line_or}
use Rattle.reader.specs.declared.places.Spot.{Spot}
use Rattle.reader.proofs.Proper.{From, from_less, own_place, Places, places_rise, few-trailers, rising, head_valid, proper}
use Rattle.reader.proofs.Shelves.{header_row, ancillary_row, annotation-row, trailer_row, whole_at}
use Rattle.reader.proofs.Showing.{file_of, file_with, found_line, file_is}
use Rattle.turner.specs.Bounds.{first_group, small}
use Rattle.turner.specs.Shapes.{Plan, other_order, size, in_order, turning_of}
use Rattle.turner.specs.Shown.{origin_at, line_origin, readable, body_from, shown}
use Rattle.turner.specs.Turns.{row_of, line_in, turn}
use Rattle.turner.specs.declared.shape.Order.{Order}
use Rattle.turner.specs.declared.shape.Order.TheVariants.{ByLine, ByBand}
use Rattle.turner.proofs.Turned.{SheetsFound, line-shown, by_line, shown_by-line, by_band, RowFound, RowsFound, shown_by_band}
use Rattle.turner.proofs.Masks.{Upto}
use Rattle.turner.proofs.Preserved.{from_four, upto}
use Rattle.turner.proofs.Woven.{row_found, row_long as row-long-at}

-- A record that stands at a place is read.
body_there : (set : TapeSet) (reel block size n kind : ℕ) (body : Body) → look set reel block ≡ Some (written (record_of n kind body)) → 6 ≤ size → length body ≡ size - 6 → body_at set (Some (spot reel block)) size ≡ Ok body
body_there set reel block size n kind body e six long =
    ap (body_of size) e ∙ cond-true {A = Delivery} (eqb (length (record_of n kind body)) size) (Ok body) (Err 46) (eq-eqb (length (record_of n kind body)) size (omega (arith, long)))

-- The first block.
first_block : (d : Body) (many : ℕ) (ss : List Reel) → 1 ≤ length ss → look (bound d many 1 ss) 1 1 ≡ Some (written (directory_on d 1))
first_block d many [] h = absurd (omega arith)
first_block d many (s ∷ ss) h = refl

-- A band that is not among them has no row.
no_row : (code i0 : ℕ) (cs : List ℕ) (rs : List (List Line)) → index_of code cs i0 ≡ None → row_of code cs rs ≡ None
no_row code i0 [] rs e = refl
no_row code i0 (c ∷ cs) [] e = refl
no_row code i0 (c ∷ cs) (r ∷ rs) e = found (eqb c code) (no_row code (i0 + 1) cs rs) e
  where
    found : (b : Bool) → (index_of code cs (i0 + 1) ≡ None → row_of code cs rs ≡ None) → cond b (Some i0) (index_of code cs (i0 + 1)) ≡ None → cond b (Some r) (row_of code cs rs) ≡ None
    found true again e = cc
    found false again e = again e

read_line : (x : Line) → readable (line_or x) ≡ x
read_line (Some body) = refl
read_line None = refl

read_at : (set : TapeSet) (size : ℕ) (p : Option Spot) → body_from set size (origin_at p) ≡ readable (body_at set p size)
read_at set size None = refl
read_at set size (Some s) = refl

module _ (a : Accepted) (set : TapeSet) (ob : Obeys a set) where
  abbrev r : Recording
  r = ob.recording

  abbrev l : Layout
  l = ob.recording.layout

  abbrev cs : List ℕ
  cs = all_codes l r.groups

  abbrev rows : List (List Line)
  rows = all_rows l r.lines r.groups

  size_is : record_length a.summary.layout.form ≡ record_length l.form
  size_is = ap (λ (k : Layout). record_length k.form) ob.layout

  module _ (o : Order) where
    abbrev t : Plan
    t = record { accepted = a; order = o }

    by_file : (code n : ℕ) (i : Option ℕ) → index_of code cs 0 ≡ i → n < r.lines → body_from set (record_length l.form) (line_origin t (file_with l.form l a.places.table code i) (n + 1)) ≡ line_in (body_length l) n (row_of code cs rows)
    by_file code n None e h = sym (ap (line_in (body_length l) n) (no_row code 0 cs rows e))
    by_file code n (Some i) e h =
        let p = proper r ob.valid in
        let back : n + 1 - 1 ≡ n = omega arith in
        let z : i - 0 ≡ i = omega arith in
        let there = found_line set l r.lines a.places.table r.groups ob.valid.groups_valid ob.places l.form refl code i (n + 1) e (omega arith) (omega (arith, h)) in
        let row : row_of code cs rows ≡ Some (get_or rows i []) = (row_found code 0 i cs rows p.rows_many e).1 ∙ ap (λ k. Some (get_or rows k [])) z in
        read_at set (record_length l.form) (line_spot (file_of l.form l a.places.table code i) a.summary.layout (n + 1))
        ∙ ap (λ (k : Layout). readable (body_at set (line_spot (file_of l.form l a.places.table code i) k (n + 1)) (record_length l.form))) ob.layout
        ∙ ap readable there
        ∙ read_line (get_or (get_or rows i []) (n + 1 - 1) None)
        ∙ ap (λ k. get_or (get_or rows i []) k None) back
        ∙ sym (ap (line_in (body_length l) n) row)

    line_found : (code n : ℕ) → n < r.lines → line-shown t set code (n + 1) ≡ line_in (body_length l) n (row_of code cs rows)
    line_found code n h =
        ap (λ k. body_from set k (line_origin t (band_file a code) (n + 1))) size_is
        ∙ ap (λ f. body_from set (record_length l.form) (line_origin t f (n + 1))) (file_is a set ob code)
        ∙ by_file code n (index_of code cs 0) refl h

    module _ (g : Files) (gs : List Files) (first : r.groups ≡ g ∷ gs) where
      abbrev group : Group
      group = get_or a.places.table 0 no_group

      vf : ValidFiles l r.lines 0 g
      vf = head_valid l r.lines 0 g gs (subst (λ k. ValidGroups l r.lines 0 k) first ob.valid.groups_valid)

      st : Stood set l g group
      st = (subst (λ k. StoodFrom set l a.places.table 0 k) first ob.places).0

      long : 6 ≤ record_length l.form
      long = six l.form

      read : (reel block n kind : ℕ) (body : Body) → look set reel block ≡ Some (written (record_of n kind body)) → length body ≡ body_length l → body_at set (Some (spot reel block)) (size t) ≡ Ok body
      read reel block n kind body e h = ap (body_at set (Some (spot reel block))) size_is ∙ body_there set reel block (record_length l.form) n kind body e long h

      sheets_found : SheetsFound t set r g
      sheets_found =
          let hr = header_row set l r.lines 0 g group long vf st in
          let ur = ancillary_row set l r.lines 0 g group long vf st in
          let nr = annotation-row set l r.lines 0 g group long vf st in
          let tr = trailer_row set l r.lines 0 g group long vf st in
          let us_many = vf.ancillaries_many in
          let some = some_stretch l r.lines 0 r.groups ob.valid.groups_valid in
          let d = r.directory in
          let dw = ob.valid.directory_whole in record {
            layout_is = ob.layout;
            lines_are = ob.lines;
            bands_are = ob.codes;
            directory_whole = dw;
            directory_is = body_there set 1 1 360 1 9 d (ap (λ k. look k 1 1) (sym ob.is) ∙ first_block d (reels r) (stretches r.groups) some ∙ ap (λ k. Some (written k)) (first_reel d (digit-one d l (reels r) ob.valid.directory_values))) (omega arith) dw;
            header_is = let z : group.header.block + (1 - 1) ≡ group.header.block + 0 = omega arith in read group.header.reel (group.header.block + (1 - 1)) (hr.number 0) hr.kind g.header (ap (look set group.header.reel) z ∙ hr.stand 0 (omega arith)) vf.header_whole;
            ancillaries_many = us_many ∙ ap ancillaries (sym ob.layout);
            annotations_many = vf.annotations_many ∙ ap (λ (k : Layout). annotations k.correction) (sym ob.layout);
            ancillary_is = λ k h. let z : group.header.block + (2 + k - 1) ≡ group.header.block + 1 + k = omega arith in read group.header.reel (group.header.block + (2 + k - 1)) (ur.number k) ur.kind (get_or g.ancillaries k []) (ap (look set group.header.reel) z ∙ ur.stand k h) (whole_at (body_length l) g.ancillaries k vf.ancillaries_whole h);
            annotation_is = λ k h. let z : group.header.block + (2 + length g.ancillaries + k - 1) ≡ group.header.block + 1 + ancillaries l + k = omega (arith, us_many) in read group.header.reel (group.header.block + (2 + length g.ancillaries + k - 1)) (nr.number k) nr.kind (get_or g.annotations k []) (ap (look set group.header.reel) z ∙ nr.stand k h) (whole_at (body_length l) g.annotations k vf.annotations_whole h);
            trailers_many = st.trailers_are;
            trailer_is = λ k h. let z : group.trailer.block + (1 + k - 1) ≡ group.trailer.block + k = omega arith in read group.trailer.reel (group.trailer.block + (1 + k - 1)) (tr.number k) tr.kind (get_or g.trailers k []) (ap (look set group.trailer.reel) z ∙ tr.stand k h) (whole_at (body_length l) g.trailers k vf.trailers_whole h);
          }

-- Every band's row.
module _ (a : Accepted) (set : TapeSet) (ob : Obeys a set) (small-codes : (i : ℕ) → i < length (all_codes ob.recording.layout ob.recording.groups) → get_or (all_codes ob.recording.layout ob.recording.groups) i 0 < 208) where
  abbrev layout : Layout
  layout = ob.recording.layout

  abbrev all : List ℕ
  all = all_codes layout ob.recording.groups

  abbrev every-row : List (List Line)
  every-row = all_rows layout ob.recording.lines ob.recording.groups

  row_here : (i : ℕ) → i < length all → RowFound (by_band a) set ob.recording.lines i (get_or all i 0) (get_or every-row i [])
  row_here i h =
      let p = proper ob.recording ob.valid in
      let many = p.rows_many in
      let z : 0 + i ≡ i = omega arith in
      let z2 : i - 0 ≡ i = omega arith in
      let place = own_place 0 0 i all p.codes_rise h in
      let row : row_of (get_or all i 0) all every-row ≡ Some (get_or every-row i []) = (row_found (get_or all i 0) 0 i all every-row many (place ∙ ap Some z)).1 ∙ ap (λ k. Some (get_or every-row k [])) z2 in record {
        code_is = ap (λ k. get_or k i 0) ob.codes;
        code_small = small-codes i h;
        row_long = row-long-at (body_size (sensor_in layout.form)) ob.recording.lines i every-row p.rows_whole (omega (arith, many, h));
        row_lines = λ k w. let e : 1 + k ≡ k + 1 = omega arith in ap (line-shown (by_band a) set (get_or all i 0)) e ∙ line_found a set ob ByBand (get_or all i 0) k w ∙ ap (line_in (body_length layout) k) row;
      }

  rows_from : (i : ℕ) (cs : List ℕ) (rs : List (List Line)) → length rs ≡ length cs → i + length cs ≡ length all → ((j : ℕ) → j < length cs → (get_or all (i + j) 0 ≡ get_or cs j 0) × (get_or every-row (i + j) [] ≡ get_or rs j [])) → RowsFound (by_band a) set ob.recording.lines i cs rs
  rows_from i [] [] e l h = tt
  rows_from i [] (r ∷ rs) e l h = absurd (omega (arith, e))
  rows_from i (c ∷ cs) [] e l h = absurd (omega (arith, e))
  rows_from i (c ∷ cs) (r ∷ rs) e l h =
      let z : i + 0 ≡ i = omega arith in
      let k = h 0 (omega arith) in
      let code : get_or all i 0 ≡ c = ap (λ x. get_or all x 0) (sym z) ∙ k.0 in
      let row : get_or every-row i [] ≡ r = ap (λ x. get_or every-row x []) (sym z) ∙ k.1 in (
        subst (λ x. RowFound (by_band a) set ob.recording.lines i x r) code (subst (λ x. RowFound (by_band a) set ob.recording.lines i (get_or all i 0) x) row (row_here i (omega (arith, l)))),
        rows_from (i + 1) cs rs (omega (arith, e)) (omega (arith, l)) (λ j w. let s : i + suc j ≡ i + 1 + j = omega arith in let m = h (suc j) (omega (arith, w)) in (ap (λ x. get_or all x 0) (sym s) ∙ m.0, ap (λ x. get_or every-row x []) (sym s) ∙ m.1)),
      )

  all_rows_found : RowsFound (by_band a) set ob.recording.lines 0 all every-row
  all_rows_found =
      let many = (proper ob.recording ob.valid).rows_many in
      rows_from 0 all every-row many (omega arith) (λ j w. let z : 0 + j ≡ j = omega arith in (ap (λ x. get_or all x 0) z, ap (λ x. get_or every-row x []) z))

-- A turned set, where the survey accepts it.
few-codes : (k n : ℕ) (cs : List ℕ) → From k cs → Upto n cs → k ≤ n + 1 → length cs + k ≤ n + 1
few-codes k n [] f u h = omega (arith, h)
few-codes k n (c ∷ cs) f u h = let low = f.0 in let high = u.0 in let r = few-codes (c + 1) n cs f.1 u.1 (omega (arith, high)) in omega (arith, low, r)

upto_at : (n i : ℕ) (cs : List ℕ) → Upto n cs → i < length cs → get_or cs i 0 ≤ n
upto_at n i [] u h = absurd (omega arith)
upto_at n zero (c ∷ cs) u h = u.0
upto_at n (suc i) (c ∷ cs) u h = upto_at n i cs u.1 (omega arith)

-- The codes of the scanner: 4 to 8.
record Scanner (cs : List ℕ) : Type 0 where
  from : From 4 cs
  upto : Upto 8 cs

mixed_codes : (k : ℕ) (ps : List ℕ) → Places k ps → From (4 + k) (map (λ p. 4 + p) ps) × Upto 8 (map (λ p. 4 + p) ps)
mixed_codes k [] f = (tt, tt)
mixed_codes k (p ∷ ps) f =
    let low = f.0.0 in
    let high = f.0.1 in
    let r = mixed_codes (p + 1) ps f.1 in
    ((omega (arith, low), from_less (4 + p + 1) (4 + (p + 1)) (map (λ q. 4 + q) ps) (omega arith) r.0), (omega (arith, high), r.1))

scanner : (form : Form) (mission : ℕ) (correction : Correction) (lines : ℕ) (gs : List Files) → (form ≡ Vidicon → ⊥) → ValidGroups record { form = form; mission = mission; correction = correction } lines 0 gs → Scanner (all_codes record { form = form; mission = mission; correction = correction } gs)
scanner Interleaved mission correction lines [] n v = absurd v
scanner Interleaved mission correction lines (f ∷ []) n v =
    let mask = byte (header_record f) 3586 in
    let r = mixed_codes 0 (places_in mask) (places_rise mask) in
    subst Scanner (sym (append-nil (map (λ p. 4 + p) (places_in mask)))) record { from = from_less 4 (4 + 0) (map (λ p. 4 + p) (places_in mask)) (omega arith) r.0; upto = r.1 }
scanner Interleaved mission correction lines (f ∷ (g ∷ gs)) n v = let u : ◌≡◌ {A = ℕ} 0 1 = mixed_alone v.1.0 in absurd (omega (arith, u))
  where
    mixed_alone : Interleaved ≡ Sequential → ◌≡◌ {A = ℕ} 0 1
    mixed_alone e = cc
scanner Sequential mission correction lines gs n v = record { from = from_four mission lines correction gs v; upto = upto mission lines correction gs 0 8 v (λ f last w. (rising record { form = Sequential; mission = mission; correction = correction } lines refl f last w).high) }
scanner Vidicon mission correction lines gs n v = absurd (n refl)

module _ (a : Accepted) (set : TapeSet) (ob : Obeys a set) (mss : ob.recording.layout.form ≡ Vidicon → ⊥) where
  abbrev rec : Recording
  rec = ob.recording

  abbrev lay : Layout
  lay = ob.recording.layout

  seen : Scanner (all_codes lay rec.groups)
  seen = scanner lay.form lay.mission lay.correction rec.lines rec.groups mss ob.valid.groups_valid

  tiny : small a ≡ true
  tiny =
      let few = ob.valid.lines_few in
      let lines = ob.lines in
      let many = ap length ob.codes in
      let s = seen in
      let five = few-codes 4 8 (all_codes lay rec.groups) s.from s.upto (omega arith) in
      and_from _ _ (le-leb a.summary.lines 8192 (omega (arith, few, lines)))
      (and_from _ _ (le-leb (length (codes a)) 5 (omega (arith, many, five))) (le-leb (first_group a).trailers 5 (few-trailers_of rec.groups ob.valid.groups_valid ob.places)))
    where
      few-trailers_of : (gs : List Files) → ValidGroups lay rec.lines 0 gs → StoodFrom set lay a.places.table 0 gs → (first_group a).trailers ≤ 5
      few-trailers_of [] v s = absurd v
      few-trailers_of (f ∷ fs) v s =
          let vf = head_valid lay rec.lines 0 f fs v in
          let many = vf.trailers_many in
          let are = s.0.trailers_are in
          let few = few-trailers f vf.header_trailers in omega (arith, many, are, few)

  by_order : (form : Form) → lay.form ≡ form → shown (turning_of a) set ≡ written_as (turn rec)
  by_order Vidicon e = absurd (mss e)
  by_order Sequential e = groups_so rec.groups refl ob.valid.groups_valid
    where
      groups_so : (gs : List Files) → rec.groups ≡ gs → ValidGroups lay rec.lines 0 gs → shown (turning_of a) set ≡ written_as (turn rec)
      groups_so [] first v = absurd v
      groups_so (g ∷ gs) first v =
          ap (λ k. shown (in_order a (other_order k.form)) set) ob.layout
          ∙ ap (λ k. shown (in_order a (other_order k)) set) e
          ∙ ap (λ k. shown (cond k (Some (by_line a)) None) set) tiny
          ∙ shown_by-line a set rec g gs (sheets_found a set ob ByLine g gs first) ob.valid.lines_some (λ code n h. line_found a set ob ByLine code n h) e first
  by_order Interleaved e = groups_so rec.groups refl ob.valid.groups_valid
    where
      groups_so : (gs : List Files) → rec.groups ≡ gs → ValidGroups lay rec.lines 0 gs → shown (turning_of a) set ≡ written_as (turn rec)
      groups_so [] first v = absurd v
      groups_so (g ∷ gs) first v =
          ap (λ k. shown (in_order a (other_order k.form)) set) ob.layout
          ∙ ap (λ k. shown (in_order a (other_order k)) set) e
          ∙ ap (λ k. shown (cond k (Some (by_band a)) None) set) tiny
          ∙ shown_by_band a set rec g gs (sheets_found a set ob ByBand g gs first) ob.valid.lines_some e first (all_rows_found a set ob (λ i h. let s = seen in let w = upto_at 8 i (all_codes lay rec.groups) s.upto h in omega (arith, w)))

  pub shown-turned : shown (turning_of a) set ≡ written_as (turn rec)
  shown-turned = by_order lay.form refl
