-- That a strip opens exactly where it is an encoding.
use Rattle.std.specs.Prelude.{◌≡◌, ℕ, List, Ok, Err, refl}
use Rattle.std.proofs.Common.{sym, ap, subst, ◌∙◌, arith}
use Rattle.deck.specs.Tape.{TapeSet, Sound}
use Rattle.image.specs.Cursor.{Reads, Stands}
use Rattle.image.specs.Opened.{Exactly}
use Rattle.image.specs.Stored.{Verdict}
use Rattle.image.specs.Strip.{encoded, verdict, meant}
use Rattle.image.proofs.Strips.{judged_sound, judged_encoded}

same_set : (v : Verdict TapeSet) (s t : TapeSet) → v ≡ Ok s → v ≡ Ok t → s ≡ t
same_set v s t p q = cc

every_strip : (xs : List ℕ) (set : TapeSet) → Sound set → encoded set ≡ xs → verdict xs ≡ Ok set
every_strip xs set s e = ap verdict (sym e) ∙ judged_encoded set s

pub exactly_opened : (xs : List ℕ) → Reads xs → Exactly (λ set. encoded set ≡ xs) (Ok (meant xs))
exactly_opened xs r = record {
  only = λ set e.
      let is : meant xs ≡ set = same_set (Ok (meant xs)) (meant xs) set refl e in
      subst (λ s. Sound s × (encoded s ≡ xs)) is (judged_sound xs (meant xs) r.judged, r.spells);
  every = λ set s e. sym r.judged ∙ every_strip xs set s e;
}

pub exactly_refused : (xs : List ℕ) (e : ℕ × ℕ) → verdict xs ≡ Err e → Exactly (λ set. encoded set ≡ xs) (Err e)
exactly_refused xs e h = record {
  only = λ set o. let z : ◌≡◌ {A = ℕ} 0 1 = cc in absurd (omega arith);
  every = λ set s o. sym h ∙ every_strip xs set s o;
}

-- A cursor at the first block of the first reel.
pub at_start : (xs : List ℕ) → Reads xs → Stands xs record { reel = 0; block = 0; at = 0 }
at_start xs r = record { on_reel = (judged_sound xs (meant xs) r.judged).some; on_block = omega arith; here = refl }
