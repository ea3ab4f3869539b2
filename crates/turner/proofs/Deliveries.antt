-- What is delivered into a buffer.
use Rattle.std.proofs.Common.{◌≡◌, ℕ, ◌+◌, ◌-◌, ◌≤◌, Bool, true, false, cond, ltb, List, ◌∷◌, ◌++◌, length, take, drop, replicate, Some, None, Ok, Err, Option, Result, sym, refl, ap, ◌∙◌, arith}
use borrow.Rule.Slice.PartMut.{put_mid}
use Rattle.std.proofs.lemmas.List.{take_at, drop_at}
use Rattle.std.proofs.lemmas.Bool.{le-ltb, ltb-false, cond-false}
use Rattle.deck.specs.Answers.{fetched, filled}
use Rattle.deck.specs.Tape.{written, TapeSet, look}
use Rattle.deck.specs.Words.{word}
use Rattle.deck.specs.declared.Kind.{Kind}
use Rattle.deck.specs.declared.Kind.TheVariants.{Record}
use Rattle.deck.specs.declared.Short.{Short}
use Rattle.machine.specs.Findings.{place_of}
use Rattle.reader.specs.Bodies.{Delivery, body_of, body_at}
use Rattle.reader.specs.declared.places.Spot.{Spot}
use Rattle.survey.specs.Recordings.{Body, Line, record_of}
use Rattle.turner.specs.Shown.{Recipe, bears, readable, borne_at, borne, found, body_from, record_block, source_block}
use Rattle.turner.specs.declared.delivery.Found.{Found}
use Rattle.turner.specs.declared.delivery.Found.TheVariants.{Blank, Borne as Lent}
use Rattle.turner.specs.declared.source.Origin.{Origin}
use Rattle.turner.specs.declared.source.Origin.TheVariants.{Zero, Below, Nowhere}

-- A place that bears no record of the length.
pub not_borne : (set : TapeSet) (size : ℕ) (s : Spot) → body_at set (Some s) size ≡ Err 46 → borne_at set size s ≡ None
not_borne set size s b = ap (λ d. cond (bears d) (Some (place_of s.reel s.block)) None) b

-- What a fetch answers.
abbrev Answer : Type 0
Answer = Result (Option (Kind ℕ)) Short

-- A record that a buffer takes.
module _ (rec buffer : List ℕ) (size : ℕ) (long : length rec ≡ size) (room : size ≤ length buffer) where
  fits : ltb (length buffer) (length rec) ≡ false
  fits = le-ltb (length buffer) (length rec) (omega arith)

  pub filled-whole : filled (Some (written rec)) buffer ≡ rec ++ drop size buffer
  filled-whole = cond-false (ltb (length buffer) (length rec)) buffer (rec ++ drop (length rec) buffer) fits ∙ ap (λ n. rec ++ drop n buffer) long

-- The body of what was found.
abbrev pub body_found : TapeSet → ℕ → Option Found → Line
body_found set size None = None
body_found set size (Some Blank) = Some (replicate (size - 6) 0)
body_found set size (Some (Lent at)) = readable (body_of size (look set at.reel at.block))

found_below : (set : TapeSet) (size : ℕ) (s : Spot) (d : Delivery) → body_at set (Some s) size ≡ d → readable d ≡ body_found set size (borne (cond (bears d) (Some (place_of s.reel s.block)) None))
found_below set size s (Ok body) e = sym (ap readable e)
found_below set size s (Err n) e = refl

found_from : (set : TapeSet) (size : ℕ) (o : Origin) → body_from set size o ≡ body_found set size (found set size o)
found_from set size Zero = refl
found_from set size (Below s) = found_below set size s (body_at set (Some s) size) refl
found_from set size Nowhere = refl

pub source_found : (set : TapeSet) (source : Option Recipe) (s : Recipe) (f : Option Found) → source ≡ Some s → found set s.size s.origin ≡ f → record_block (λ body. body) s.kind s.number (body_found set s.size f) ≡ source_block (λ body. body) set source
source_found set source s f is e =
    sym (ap (record_block (λ body. body) s.kind s.number) (found_from set s.size s.origin ∙ ap (body_found set s.size) e))
    ∙ sym (ap (source_block (λ body. body) set) is)

-- A source whose record a buffer has taken.
pub record Taken (set : TapeSet) (source : Option Recipe) (buffer : List ℕ) (size : ℕ) : Type 0 where
  pub kind : ℕ
  pub number : ℕ
  pub body : Body
  pub is : (f : Body → Body) → source_block f set source ≡ written (record_of number kind (f body))
  pub long : length body + 6 ≡ size
  pub room : size ≤ length buffer

record Whole (rec buffer : List ℕ) (size : ℕ) : Type 0 where
  pub long : length rec ≡ size
  pub room : size ≤ length buffer

whole_if : (rec buffer : List ℕ) (size : ℕ) (b : Bool) → ltb (length buffer) (length rec) ≡ b → cond {A = Answer} b (Err record {}) (Ok (Some (Record (length rec)))) ≡ Ok (Some (Record size)) → Whole rec buffer size
whole_if rec buffer size true e h = cc
whole_if rec buffer size false e h = let long : length rec ≡ size = cc in record { long = long; room = omega (arith, ltb-false (length buffer) (length rec) e, long) }

taken_line : (set : TapeSet) (s : Recipe) (buffer : List ℕ) (size : ℕ) (line : Line) → body_from set s.size s.origin ≡ line → fetched (Some (record_block (λ body. body) s.kind s.number line)) (length buffer) ≡ Ok (Some (Record size)) → Taken set (Some s) buffer size
taken_line set s buffer size None e h = cc
taken_line set s buffer size (Some body) e h =
    let w = whole_if (record_of s.number s.kind body) buffer size (ltb (length buffer) (length (record_of s.number s.kind body))) refl h in
    record {
      kind = s.kind;
      number = s.number;
      body = body;
      is = λ f. ap (record_block f s.kind s.number) e;
      long = omega (arith, w.long);
      room = w.room;
    }

pub taken : (set : TapeSet) (source : Option Recipe) (buffer : List ℕ) (size : ℕ) → fetched (Some (source_block (λ body. body) set source)) (length buffer) ≡ Ok (Some (Record size)) → Taken set source buffer size
taken set None buffer size h = cc
taken set (Some s) buffer size h = taken_line set s buffer size (body_from set s.size s.origin) refl h

-- Its body is changed behind the six bytes.
module _ (f : Body → Body) (keeps : (body : Body) → length (f body) ≡ length body) (set : TapeSet) (source : Option Recipe) (buffer : List ℕ) (size : ℕ) (t : Taken set source buffer size) where
  new_long : length (record_of t.number t.kind (f t.body)) ≡ size
  new_long = omega (arith, keeps t.body, t.long)

  old_long : length (record_of t.number t.kind t.body) ≡ size
  old_long = omega (arith, t.long)

  before : filled (Some (source_block (λ body. body) set source)) buffer ≡ word t.number ++ 0 ∷ t.kind ∷ (t.body ++ drop size buffer)
  before =
      ap (λ b. filled (Some b) buffer) (t.is (λ body. body))
      ∙ filled-whole (record_of t.number t.kind t.body) buffer size old_long t.room

  body_was : (was : List ℕ) → was ≡ filled (Some (source_block (λ body. body) set source)) buffer → take (size - 6) (drop 6 was) ≡ t.body
  body_was was w = ap (λ xs. take (size - 6) (drop 6 xs)) (w ∙ before) ∙ take_at t.body (drop size buffer) (size - 6) (omega (arith, t.long))

  pub changed_bytes : (was new : List ℕ) → was ≡ filled (Some (source_block (λ body. body) set source)) buffer → new ≡ f (take (size - 6) (drop 6 was)) → put_mid 6 (size - 6) was new ≡ filled (Some (source_block f set source)) buffer
  changed_bytes was new w n =
      ap (λ xs. put_mid 6 (size - 6) xs new) (w ∙ before)
      ∙ ap (λ xs. record_of t.number t.kind xs ++ drop (size - 6) (t.body ++ drop size buffer)) (n ∙ ap f (body_was was w))
      ∙ ap (λ xs. record_of t.number t.kind (f t.body) ++ xs) (drop_at t.body (drop size buffer) (size - 6) (omega (arith, t.long)))
      ∙ sym (ap (λ b. filled (Some b) buffer) (t.is f) ∙ filled-whole (record_of t.number t.kind (f t.body)) buffer size new_long t.room)
