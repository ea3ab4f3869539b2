-- The table of places leads to every sheet of a recording.
use Rattle.std.proofs.Common.{◌≡◌, ℕ, zero, suc, ◌+◌, ◌-◌, ◌<◌, ◌≤◌, Bool, true, false, cond, eqb, ltb, leb, List, [], ◌∷◌, ◌++◌, length, get_or, Some, None, Ok, Err, Option, sym, refl, ap, ◌∙◌, subst, ⊎_elim, arith, length-append}
use Rattle.std.proofs.lemmas.Bool.{le-leb, lt-leb, eq-eqb, cases_lt, cond-true, and_from, and_right}
use Rattle.deck.specs.Tape.{written, mark, TapeSet, nth, from_one, look}
use Rattle.deck.proofs.Looks.{nth-there, nth_past}
use Rattle.records.specs.Layouts.{record_length, ancillaries, annotations}
use Rattle.records.specs.declared.layout.Layout.{Layout}
use Rattle.machine.specs.declared.machine.Group.{Group}
use Rattle.survey.specs.Pictures.{sheets_of}
use Rattle.survey.specs.Placed.{Stood}
use Rattle.survey.specs.Recordings.{Body, Files, record_of, numbered, attributes_file}
use Rattle.survey.specs.Validity.{body_length, Whole, ValidFiles}
use Rattle.survey.proofs.Running.{nth-front}
use Rattle.survey.proofs.Groups.{length-numbered}
use Rattle.reader.specs.Bodies.{Delivery, body_of, body_at}
use Rattle.reader.specs.Finding.{spot, sheet_on, sheet_spot}
use Rattle.reader.specs.declared.places.Spot.{Spot}
use Rattle.reader.specs.Pictured.{of_kind, sheet_or}

nth_back : {X : Type 0} (xs ys : List X) (i : ℕ) → nth (xs ++ ys) (length xs + i) ≡ nth ys i
nth_back [] ys i = let e : 0 + i ≡ i = omega arith in ap (nth ys) e
nth_back (x ∷ xs) ys i = let e : suc (length xs) + i ≡ suc (length xs + i) = omega arith in ap (nth (x ∷ (xs ++ ys))) e ∙ nth_back xs ys i

nth-numbered : (kind n : ℕ) (bodies : List Body) (i : ℕ) → i < length bodies → nth (numbered kind n bodies) i ≡ Some (written (record_of (n + i) kind (get_or bodies i [])))
nth-numbered kind n [] i h = absurd (omega arith)
nth-numbered kind n (b ∷ bodies) zero h = let e : n ≡ n + 0 = omega arith in ap (λ k. Some (written (record_of k kind b))) e
nth-numbered kind n (b ∷ bodies) (suc i) h = let e : n + 1 + i ≡ n + suc i = omega arith in nth-numbered kind (n + 1) bodies i (omega arith) ∙ ap (λ k. Some (written (record_of k kind (get_or bodies i [])))) e

pub whole_at : (size : ℕ) (bodies : List Body) (i : ℕ) → Whole size bodies → i < length bodies → length (get_or bodies i []) ≡ size
whole_at size [] i w h = absurd (omega arith)
whole_at size (b ∷ bodies) zero w h = w.0
whole_at size (b ∷ bodies) (suc i) w h = whole_at size bodies i w.1 (omega arith)

-- A sheet that is read off its place.
abbrev pub spot_read : TapeSet → ℕ → Option Spot → ℕ → Delivery
spot_read tape size None room = Err 44
spot_read tape size (Some s) room = cond (ltb room (size - 6)) (Err 45) (body_at tape (Some s) size)

-- Sheets that stand one behind the other.
pub record Row (tape : TapeSet) (reel block : ℕ) (bodies : List Body) : Type 0 where
  pub kind : ℕ
  pub number : ℕ → ℕ
  pub stand : (i : ℕ) → i < length bodies → look tape reel (block + i) ≡ Some (written (record_of (number i) kind (get_or bodies i [])))

row_read : (tape : TapeSet) (reel block size : ℕ) (bodies : List Body) (count index room : ℕ) → 6 ≤ size → length bodies ≡ count → Whole (size - 6) bodies → Row tape reel block bodies → spot_read tape size (sheet_on (Some (spot reel block, count)) index) room ≡ sheet_or (from_one bodies index) (size - 6) room
row_read tape reel block size bodies count zero room six many w r = refl
row_read tape reel block size bodies count (suc i) room six many w r =
    ⊎_elim
    (λ (h : i < length bodies).
    let place : block + (suc i - 1) ≡ block + i = omega arith in
    let body = get_or bodies i [] in
    let long = whole_at (size - 6) bodies i w h in
    let read : body_of size (look tape reel (block + (suc i - 1))) ≡ Ok body =
    ap (λ b. body_of size (look tape reel b)) place
    ∙ ap (body_of size) (r.stand i h)
    ∙ cond-true (eqb (length (record_of (r.number i) r.kind body)) size) (Ok body) (Err 46) (eq-eqb (length (record_of (r.number i) r.kind body)) size (omega (arith, long))) in
    ap (λ b. spot_read tape size (cond b (Some (spot reel (block + (suc i - 1)))) None) room) (and_from (leb 1 (suc i)) (leb (suc i) count) (le-leb 1 (suc i) (omega arith)) (le-leb (suc i) count (omega (arith, many))))
    ∙ ap (λ d. cond (ltb room (size - 6)) (Err 45) d) read
    ∙ ap (λ o. sheet_or o (size - 6) room) (sym (nth-there bodies i [] h)))
    (λ (h : length bodies ≤ i).
    ap (λ b. spot_read tape size (cond b (Some (spot reel (block + (suc i - 1)))) None) room) (and_right (leb 1 (suc i)) (leb (suc i) count) (lt-leb (suc i) count (omega (arith, many))))
    ∙ ap (λ o. sheet_or o (size - 6) room) (sym (nth_past bodies i h)))
    (cases_lt i (length bodies))

module _ (tape : TapeSet) (l : Layout) (lines last : ℕ) (f : Files) (g : Group) (six : 6 ≤ record_length l.form) (v : ValidFiles l lines last f) (st : Stood tape l f g) where
  abbrev us : List Body
  us = f.ancillaries

  abbrev ns : List Body
  ns = f.annotations

  long : length (attributes_file f) ≡ 2 + length us + length ns
  long =
      let second = numbered 219 (2 + length us) ns in
      let a = length-append (numbered 36 2 us) (second ++ mark ∷ []) in
      let b = length-append second (mark ∷ []) in
      let c = length-numbered 36 2 us in
      let d = length-numbered 219 (2 + length us) ns in
      omega (arith, a, b, c, d)

  pub header_row : Row tape g.header.reel g.header.block (f.header ∷ [])
  header_row = record {
    kind = 18;
    number = λ i. 1;
    stand = λ i h. let z : i ≡ 0 = omega (arith, h) in subst (λ k. look tape g.header.reel (g.header.block + k) ≡ Some (written (record_of 1 18 (get_or (f.header ∷ []) k [])))) (sym z) (st.attributes_lie 0 (let w = long in omega (arith, w)));
  }

  pub ancillary_row : Row tape g.header.reel (g.header.block + 1) us
  ancillary_row = record {
    kind = 36;
    number = λ i. 2 + i;
    stand = λ i h.
        let e : g.header.block + 1 + i ≡ g.header.block + suc i = omega arith in
        let c = length-numbered 36 2 us in
        ap (look tape g.header.reel) e
        ∙ st.attributes_lie (suc i) (let w = long in omega (arith, w, h))
        ∙ nth-front (numbered 36 2 us) (numbered 219 (2 + length us) ns ++ mark ∷ []) i (omega (arith, c, h))
        ∙ nth-numbered 36 2 us i h;
  }

  pub annotation-row : Row tape g.header.reel (g.header.block + 1 + ancillaries l) ns
  annotation-row = record {
    kind = 219;
    number = λ i. 2 + length us + i;
    stand = λ i h.
        let many = v.ancillaries_many in
        let c = length-numbered 36 2 us in
        let d = length-numbered 219 (2 + length us) ns in
        let e : g.header.block + 1 + ancillaries l + i ≡ g.header.block + suc (length (numbered 36 2 us) + i) = omega (arith, many, c) in
        ap (look tape g.header.reel) e
        ∙ st.attributes_lie (suc (length (numbered 36 2 us) + i)) (let w = long in omega (arith, w, h, c))
        ∙ nth_back (numbered 36 2 us) (numbered 219 (2 + length us) ns ++ mark ∷ []) i
        ∙ nth-front (numbered 219 (2 + length us) ns) (mark ∷ []) i (omega (arith, d, h))
        ∙ nth-numbered 219 (2 + length us) ns i h;
  }

  pub trailer_row : Row tape g.trailer.reel g.trailer.block f.trailers
  trailer_row = record {
    kind = 246;
    number = λ i. 1 + i;
    stand = λ i h.
        let c = length-numbered 246 1 f.trailers in
        let d = length-append (numbered 246 1 f.trailers) (mark ∷ []) in
        st.trailers_lie i (omega (arith, c, d, h))
        ∙ nth-front (numbered 246 1 f.trailers) (mark ∷ []) i (omega (arith, c, h))
        ∙ nth-numbered 246 1 f.trailers i h;
  }

  pub sheet_stands : (kind index room : ℕ) → spot_read tape (record_length l.form) (sheet_spot g l kind index) room ≡ sheet_or (from_one (of_kind (sheets_of f) kind) index) (body_length l) room
  sheet_stands kind index room = by_kind (eqb kind 1) (eqb kind 2) (eqb kind 3) (eqb kind 4)
    where
      size : ℕ
      size = record_length l.form

      by_kind : (a b c d : Bool) → spot_read tape (record_length l.form) (sheet_on (cond a (Some (spot g.header.reel g.header.block, 1)) (cond b (Some (spot g.header.reel (g.header.block + 1), ancillaries l)) (cond c (Some (spot g.header.reel (g.header.block + 1 + ancillaries l), annotations l.correction)) (cond d (Some (spot g.trailer.reel g.trailer.block, g.trailers)) None)))) index) room ≡ sheet_or (from_one (cond a (f.header ∷ []) (cond b us (cond c ns (cond d f.trailers [])))) index) (body_length l) room
      by_kind true b c d = row_read tape g.header.reel g.header.block (record_length l.form) (f.header ∷ []) 1 index room six refl (v.header_whole, tt) header_row
      by_kind false true c d = row_read tape g.header.reel (g.header.block + 1) (record_length l.form) us (ancillaries l) index room six v.ancillaries_many v.ancillaries_whole ancillary_row
      by_kind false false true d = row_read tape g.header.reel (g.header.block + 1 + ancillaries l) (record_length l.form) ns (annotations l.correction) index room six v.annotations_many v.annotations_whole annotation-row
      by_kind false false false true = row_read tape g.trailer.reel g.trailer.block (record_length l.form) f.trailers g.trailers index room six (sym st.trailers_are) v.trailers_whole trailer_row
      by_kind false false false false = none index
        where
          none : (i : ℕ) → spot_read tape (record_length l.form) (sheet_on None i) room ≡ sheet_or (from_one [] i) (body_length l) room
          none zero = refl
          none (suc i) = refl
