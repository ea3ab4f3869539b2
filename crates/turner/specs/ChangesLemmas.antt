-- What is written into bodies.
use Rattle.std.specs.Prelude.{◌≡◌, ℕ, ◌+◌, ◌-◌, ◌<◌, ◌≤◌, List, length, drop, slice_index, refl}
use Rattle.std.proofs.Common.{arith, length-set}
use Rattle.std.proofs.lemmas.List.{at_drop_more, at_drop_all}
use Rattle.std.proofs.lemmas.Bool.Decides.{nat_tests}
use Rattle.records.specs.Bands.{weight}
use Rattle.machine.specs.declared.accepted.Accepted.{Accepted}
use Rattle.survey.specs.Recordings.{Body}
use Rattle.turner.specs.Changes.{mask_of, header_changed, changed}
use Rattle.turner.specs.Shapes.{Plan}
use Rattle.turner.specs.declared.piece.Piece.{Piece}
use Rattle.turner.specs.declared.piece.Piece.TheVariants.{Mark, Directory, Header, Attribute, Image, Trailer}
use Rattle.turner.specs.declared.shape.Order.{Order}
use Rattle.turner.specs.declared.shape.Order.TheVariants.{ByLine, ByBand}

-- No bit is above 16.
pub weight_small : (place : ℕ) → weight place ≤ 16
weight_small place = grind (arith, nat_tests)

-- One bit more.
pub mask_more : (codes : List ℕ) (i : ℕ) → i < length codes → mask_of (drop i codes) ≡ weight (slice_index codes i - 4) + mask_of (drop (i + 1) codes)
mask_more codes i h = at_drop_more mask_of codes i 0 h

pub mask_all : (codes : List ℕ) (i : ℕ) → length codes ≤ i → mask_of (drop i codes) ≡ 0
mask_all codes i h = at_drop_all mask_of codes i h

-- A changed body is as long as it was.
length_header : (o : Order) (a : Accepted) (i : ℕ) (body : Body) → length (header_changed o a i body) ≡ length body
length_header ByLine a i body = simp length-set
length_header ByBand a i body = simp length-set

pub length_changed : (t : Plan) (p : Piece) (body : Body) → length (changed t p body) ≡ length body
length_changed t Mark body = refl
length_changed t Directory body = simp length-set
length_changed t (Header i) body = length_header t.order t.accepted i body
length_changed t (Attribute n) body = refl
length_changed t (Image i k) body = refl
length_changed t (Trailer n) body = refl
