-- What a step that was taken tells of the block.
use Rattle.std.proofs.Common.{◌≡◌, ℕ, ◌+◌, Bool, true, false, cond, not, ◌&&◌, ◌⊎◌, List, Some, None, Ok, Err, Option, Result, sym, refl, ap, inl, inr}
use Rattle.survey.proofs.Passing.{four}
use Rattle.deck.specs.Tape.{Reel, TapeSet}
use Rattle.records.specs.Headers.{counts_fit, band_fits, trailers_fit, bands_fit, content_of, header}
use Rattle.machine.specs.Machines.{passed, begun}
use Rattle.records.specs.Records.{byte}
use Rattle.survey.specs.Surveys.{Fault, placed, then, feed_reel, feed}
use Rattle.machine.specs.Findings.{place_of}
use Rattle.records.specs.declared.header.Header.{Header}
use Rattle.records.specs.declared.layout.Layout.{Layout}
use Rattle.machine.specs.declared.machine.Machine.{Machine}
use Rattle.machine.specs.declared.machine.Place.{Place}

-- A run that goes on after a step.
abbrev pub after : ℕ → ℕ → Reel → TapeSet → Result Machine ℕ → Result Machine Fault
after reel block bs rs s = then (then (placed (place_of reel block) s) (λ n. feed_reel n reel (block + 1) bs)) (λ n. feed n (reel + 1) rs)

pub refused : {X : Type 0} (f : Fault) (z : Machine) → ◌≡◌ {A = Result Machine Fault} (Err f) (Ok z) → X
refused f z e = cc

module _ (reel block : ℕ) (bs : Reel) (rs : TapeSet) (z : Machine) where
  pub was_passed : (o : Option ℕ) (s : Result Machine ℕ) → after reel block bs rs (passed o s) ≡ Ok z → (o ≡ None) × (after reel block bs rs s ≡ Ok z)
  was_passed None s e = (refl, e)
  was_passed (Some n) s e = refused _ z e

  pub was_either : (b : Bool) (s u : Result Machine ℕ) → after reel block bs rs (cond b s u) ≡ Ok z → ((b ≡ true) × (after reel block bs rs s ≡ Ok z)) ⊎ ((b ≡ false) × (after reel block bs rs u ≡ Ok z))
  was_either true s u e = inl (refl, e)
  was_either false s u e = inr (refl, e)

  pub was_true : (b : Bool) (s : Result Machine ℕ) (n : ℕ) → after reel block bs rs (cond b s (Err n)) ≡ Ok z → (b ≡ true) × (after reel block bs rs s ≡ Ok z)
  was_true true s n e = (refl, e)
  was_true false s n e = refused _ z e

  pub was_false : (b : Bool) (s : Result Machine ℕ) (n : ℕ) → after reel block bs rs (cond b (Err n) s) ≡ Ok z → (b ≡ false) × (after reel block bs rs s ≡ Ok z)
  was_false true s n e = refused _ z e
  was_false false s n e = (refl, e)

  pub record Begins (m : Machine) (p : Place) (h : Result Header ℕ) : Type 0 where
    pub says : Header
    pub is : h ≡ Ok says
    pub on : after reel block bs rs (begun m p (Ok says)) ≡ Ok z

  pub was_begun : (m : Machine) (p : Place) (h : Result Header ℕ) → after reel block bs rs (begun m p h) ≡ Ok z → Begins m p h
  was_begun m p (Ok h) e = record { says = h; is = refl; on = e }
  was_begun m p (Err n) e = refused _ z e

-- What a header that was accepted says.
pub record Headed (xs : List ℕ) (l : Layout) (last : ℕ) (h : Header) : Type 0 where
  pub counts : counts_fit xs l ≡ true
  pub band : band_fits (byte xs 136) l last ≡ true
  pub trailers : trailers_fit xs ≡ true
  pub bands : bands_fit (byte xs 3586) l ≡ true
  pub content_is : h.content ≡ content_of (byte xs 136) (byte xs 3586) l.form
  pub trailers_are : h.trailers ≡ byte xs 145

pub header-says : (xs : List ℕ) (l : Layout) (last : ℕ) (h : Header) → header xs l last ≡ Ok h → Headed xs l last h
unfolding header
header-says xs l last h e =
    let f = four (counts_fit xs l) (band_fits (byte xs 136) l last) (trailers_fit xs) (bands_fit (byte xs 3586) l) (λ k. cc) (λ k. cc) (λ k. cc) (λ k. cc) e in
    let is : record { content = content_of (byte xs 136) (byte xs 3586) l.form; trailers = byte xs 145 } ≡ h = let same = f.1.1.1.1 in cc in
    record {
      counts = f.0;
      band = f.1.0;
      trailers = f.1.1.0;
      bands = f.1.1.1.0;
      content_is = ap (λ (k : Header). k.content) (sym is);
      trailers_are = ap (λ (k : Header). k.trailers) (sym is);
    }

-- A line of a missing band is zero.
pub zero_if : (absent blank : Bool) → (absent && not blank) ≡ false → absent ≡ true → blank ≡ true
zero_if true true e h = refl
zero_if true false e h = sym e
zero_if false blank e h = cc

pub not_absent : (absent : Bool) → (absent && true) ≡ false → absent ≡ false
not_absent true e = e
not_absent false e = refl
