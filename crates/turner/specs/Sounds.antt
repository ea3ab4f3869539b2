-- What a turner shows at a place, and that the set it shows is sound.
use Rattle.std.specs.Prelude.{◌≡◌, ℕ, zero, suc, ◌+◌, ◌-◌, ◌*◌, ◌≤◌, Bool, true, false, cond, ◌&&◌, List, [], ◌∷◌, map, length, drop, replicate, Some, None, Ok, Err, Option, ◌==◌, nat_le, refl}
use Rattle.std.proofs.Common.{sym, ap, ◌∙◌, arith, lit≤, length-append, length-drop}
use Rattle.std.proofs.lemmas.List.{length-map, length-replicate}
use Rattle.std.proofs.lemmas.Nat.{mul-le}
use Rattle.std.proofs.lemmas.Bool.{and_parts, leb-true, eqb-true, ne_eqb, cond-false}
use Rattle.std.proofs.lemmas.Bool.Decides.{nat_tests}
use Rattle.deck.specs.Answers.{kind_of}
use Rattle.deck.specs.Tape.{Block, written, mark, bad, TapeSet, SoundBlock, SoundBlocks, Sound, nth, from_one, look}
use Rattle.deck.specs.declared.Kind.TheVariants as kinds
use Rattle.records.specs.Layouts.{attributes, record_length, stride}
use Rattle.records.specs.declared.layout.Form.{Form}
use Rattle.records.specs.declared.layout.Layout.{Layout}
use Rattle.machine.specs.Findings.{place_of}
use Rattle.machine.specs.declared.accepted.Accepted.{Accepted}
use Rattle.machine.specs.declared.machine.Place.{Place}
use Rattle.survey.specs.Recordings.{Body, Line, record_of}
use Rattle.reader.specs.Bodies.{Delivery, body_of, body_at}
use Rattle.reader.specs.Finding.{codes}
use Rattle.reader.specs.declared.places.Spot.{Spot}
use Rattle.turner.specs.Changes.{changed}
use Rattle.turner.specs.Pieces.{groups_from, pieces, piece_at, piece_on}
use Rattle.turner.specs.Bounds.{first_group, small, form_six, form_few}
use Rattle.turner.specs.Shapes.{Plan, planned, fits, groups, groups_in, images_in, sheets}
use Rattle.turner.specs.Shown.{Recipe, recipe, Sized, source, bears, readable, body_from, record_block, source_block, piece_block, shown_reel, shown, borne, found, found_kind, shown_kind}
use Rattle.turner.specs.declared.piece.Piece.{Piece}
use Rattle.turner.specs.declared.piece.Piece.TheVariants.{Mark, Directory, Header, Attribute, Image, Trailer}
use Rattle.turner.specs.declared.shape.Order.{Order}
use Rattle.turner.specs.declared.shape.Order.TheVariants.{ByLine, ByBand}
use Rattle.turner.specs.declared.shape.Turning.{Turning}
use Rattle.turner.specs.declared.source.Origin.{Origin}
use Rattle.turner.specs.declared.source.Origin.TheVariants.{Zero, Below, Nowhere}
use Rattle.turner.specs.declared.source.Source.{Source}
use Rattle.turner.specs.ChangesLemmas.{length_changed}
use Rattle.turner.specs.Places.{at_block, length_groups}

-- The block of a piece, if there is one.
abbrev pub placed : {X Y : Type 0} → (X → Y) → Option X → Option Y
placed f None = None
placed f (Some x) = Some (f x)

nth_map : {X Y : Type 0} (f : X → Y) (xs : List X) (i : ℕ) → nth (map f xs) i ≡ placed f (nth xs i)
nth_map f [] i = refl
nth_map f (x ∷ xs) zero = refl
nth_map f (x ∷ xs) (suc i) = nth_map f xs i

from_map : {X Y : Type 0} (f : X → Y) (xs : List X) (n : ℕ) → from_one (map f xs) n ≡ placed f (from_one xs n)
from_map f xs zero = refl
from_map f xs (suc n) = nth_map f xs n

on_reel : (t : Plan) (set : TapeSet) (reel block : ℕ) → look (shown_reel t set ∷ []) reel block ≡ placed (piece_block t set) (piece_on t reel block)
on_reel t set zero block = refl
on_reel t set (suc zero) block = from_map (piece_block t set) (pieces t) block ∙ ap (placed (piece_block t set)) (at_block t block)
on_reel t set (suc (suc reel)) block = sym (ap (placed (piece_block t set)) (cond-false (suc (suc reel) == 1) (piece_at t block) None (ne_eqb (suc (suc reel)) 1 (λ e. omega arith))))

pub at_piece : (o : Option Plan) (t : Plan) (set : TapeSet) (reel block : ℕ) (q : Option Piece) → o ≡ Some t → q ≡ piece_on t reel block → look (shown o set) reel block ≡ placed (piece_block t set) q
at_piece o t set reel block q e p = ap (λ x. look (shown x set) reel block) e ∙ on_reel t set reel block ∙ sym (ap (placed (piece_block t set)) p)

-- A body that is delivered has the length of its record without the six bytes.
whole_if : (size : ℕ) (xs body : List ℕ) (b : Bool) → (length xs == size) ≡ b → cond {A = Delivery} b (Ok (drop 6 xs)) (Err 46) ≡ Ok body → length body ≡ size - 6
whole_if size xs body true e h = let is : drop 6 xs ≡ body = cc in sym (ap length is) ∙ length-drop 6 xs ∙ ap (λ k. k - 6) (eqb-true (length xs) size e)
whole_if size xs body false e h = cc

whole : (size : ℕ) (o : Option Block) (body : Body) → body_of size o ≡ Ok body → length body ≡ size - 6
whole size None body h = cc
whole size (Some (written xs)) body h = whole_if size xs body (length xs == size) refl h
whole size (Some mark) body h = cc
whole size (Some bad) body h = cc

whole_at : (set : TapeSet) (p : Option Spot) (size : ℕ) (body : Body) → body_at set p size ≡ Ok body → length body ≡ size - 6
whole_at set None size body h = cc
whole_at set (Some s) size body h = whole size (look set s.reel s.block) body h

-- The kind of a block does not depend on what is changed in its body.
module _ (f : Body → Body) (keeps : (body : Body) → length (f body) ≡ length body) where
  record_long : (kind n size : ℕ) (body : Body) → 6 ≤ size → length body ≡ size - 6 → length (record_of n kind (f body)) ≡ size
  record_long kind n size body six long = omega (arith, keeps body, long)

  kind_below : (kind n size : ℕ) (place : Place) (d : Delivery) → 6 ≤ size → ((body : Body) → d ≡ Ok body → length body ≡ size - 6) → Some (found_kind size (borne (cond (bears d) (Some place) None))) ≡ kind_of (Some (record_block f kind n (readable d)))
  kind_below kind n size place (Ok body) six long = ap (λ k. Some (kinds.Record k)) (sym (record_long kind n size body six (long body refl)))
  kind_below kind n size place (Err e) six long = refl

  kind_origin : (set : TapeSet) (kind n size : ℕ) (o : Origin) → 6 ≤ size → Some (found_kind size (found set size o)) ≡ kind_of (Some (record_block f kind n (body_from set size o)))
  kind_origin set kind n size Zero six = ap (λ k. Some (kinds.Record k)) (sym (record_long kind n size (replicate (size - 6) 0) six (length-replicate {A = ℕ} (size - 6) 0)))
  kind_origin set kind n size (Below s) six = kind_below kind n size (place_of s.reel s.block) (body_at set (Some s) size) six (whole_at set (Some s) size)
  kind_origin set kind n size Nowhere six = refl

  pub kind_shown : (set : TapeSet) (source : Option Recipe) → Sized source → Some (shown_kind set source) ≡ kind_of (Some (source_block f set source))
  kind_shown set None sized = refl
  kind_shown set (Some s) sized = kind_origin set s.kind s.number s.size s.origin sized.0

  -- And the block is sound.
  sound_record : (kind n size : ℕ) (line : Line) → 6 ≤ size → size ≤ 5388 → ((body : Body) → line ≡ Some body → length body ≡ size - 6) → SoundBlock (record_block f kind n line)
  sound_record kind n size None six most long = tt
  sound_record kind n size (Some body) six most long = let is = record_long kind n size body six (long body refl) in (omega arith, omega (arith, is))

  zero_whole : (size : ℕ) (body : Body) → Some (replicate (size - 6) 0) ≡ Some body → length body ≡ size - 6
  zero_whole size body e = let is : replicate (size - 6) 0 ≡ body = cc in sym (ap length is) ∙ length-replicate {A = ℕ} (size - 6) 0

  read_whole : (set : TapeSet) (p : Option Spot) (size : ℕ) (body : Body) (d : Delivery) → body_at set p size ≡ d → readable d ≡ Some body → length body ≡ size - 6
  read_whole set p size body (Ok b) e h = let is : b ≡ body = cc in sym (ap length is) ∙ whole_at set p size b e
  read_whole set p size body (Err n) e h = cc

  from_whole : (set : TapeSet) (size : ℕ) (o : Origin) (body : Body) → body_from set size o ≡ Some body → length body ≡ size - 6
  from_whole set size Zero body e = zero_whole size body e
  from_whole set size (Below s) body e = read_whole set (Some s) size body (body_at set (Some s) size) refl e
  from_whole set size Nowhere body e = cc

  pub sound_source : (set : TapeSet) (source : Option Recipe) → Sized source → SoundBlock (source_block f set source)
  sound_source set None sized = tt
  sound_source set (Some s) sized = sound_record s.kind s.number s.size (body_from set s.size s.origin) sized.0 sized.1 (from_whole set s.size s.origin)

-- The records that are shown have a record's length.
sized_form : (f : Form) → (6 ≤ record_length f) × (record_length f ≤ 5388)
sized_form f = (form_six f, form_few f)

sized_piece : (t : Plan) (p : Piece) → Sized (source t p)
sized_piece t Mark = tt
sized_piece t Directory = (lit≤ tt, lit≤ tt)
sized_piece t (Header i) = sized_form t.accepted.summary.layout.form
sized_piece t (Attribute n) = sized_form t.accepted.summary.layout.form
sized_piece t (Image i k) = sized_form t.accepted.summary.layout.form
sized_piece t (Trailer n) = sized_form t.accepted.summary.layout.form

-- And so has every source.
pub sized_source : (o : Option Source) → Sized (recipe o)
sized_source None = tt
sized_source (Some s) = (s.six, s.few)

sound_blocks : (t : Plan) (set : TapeSet) (ps : List Piece) → SoundBlocks (map (piece_block t set) ps)
sound_blocks t set [] = tt
sound_blocks t set (p ∷ ps) = (sound_source (changed t p) (length_changed t p) set (source t p) (sized_piece t p), sound_blocks t set ps)

-- The reel that is shown fits.
sheets_few : (l : Layout) → attributes l ≤ 33
sheets_few l = grind (arith, nat_tests)

bands_few : (l : Layout) → stride l ≤ 5
bands_few l = grind (arith, nat_tests)

record Few (a : Accepted) : Type 0 where
  pub lines : a.summary.lines ≤ 8192
  pub bands : length (codes a) ≤ 5
  pub trailers : (first_group a).trailers ≤ 5

few : (a : Accepted) → small a ≡ true → Few a
few a h =
    let lines = nat_le a.summary.lines 8192 in
    let bands = nat_le (length (codes a)) 5 in
    let last = nat_le (first_group a).trailers 5 in
    let one = and_parts lines (bands && last) h in
    let two = and_parts bands last one.1 in
    record {
      lines = leb-true a.summary.lines 8192 one.0;
      bands = leb-true (length (codes a)) 5 two.0;
      trailers = leb-true (first_group a).trailers 5 two.1;
    }

blocks_few : (o : Order) (a : Accepted) (s : ℕ) → Few a → s ≤ 33 → groups_in o a * (s + 1 + images_in o a + 1 + (first_group a).trailers + 1) ≤ 65000
blocks_few ByLine a s f h = omega (arith, mul-le a.summary.lines (stride a.summary.layout) 8192 5 f.lines (bands_few a.summary.layout), f.trailers)
blocks_few ByBand a s f h =
    let all : s + 1 + a.summary.lines + 1 + (first_group a).trailers + 1 ≤ 8300 = omega (arith, f.lines, f.trailers) in
    omega (arith, mul-le (length (codes a)) (s + 1 + a.summary.lines + 1 + (first_group a).trailers + 1) 5 8300 f.bands all)

pub reel_short : (t : Plan) (set : TapeSet) → small t.accepted ≡ true → length (shown_reel t set) ≤ 65535
reel_short t set h =
    omega (arith, length-map (pieces t) (piece_block t set), length-append (groups_from t 0 (groups t)) (Mark ∷ []), length_groups t 0 (groups t), blocks_few t.order t.accepted (sheets t) (few t.accepted h) (sheets_few t.accepted.summary.layout))

pub shown_sound : (o : Option Plan) (set : TapeSet) → fits o ≡ true → Sound set → Sound (shown o set)
shown_sound None set h s = s
shown_sound (Some t) set h s = record { some = lit≤ tt; few = lit≤ tt; reels = ((reel_short t set h, sound_blocks t set (pieces t)), tt) }

-- What a turner remembers keeps to the bounds. So what it shows is sound.
fits_planned : (o : Option Turning) → fits (planned o) ≡ true
fits_planned None = refl
fits_planned (Some t) = t.bounds

pub planned_sound : (o : Option Turning) (set : TapeSet) → Sound set → Sound (shown (planned o) set)
planned_sound o set s = shown_sound (planned o) set (fits_planned o) s
