-- What stands at a spot, as a fetch tells it.
use Rattle.std.proofs.Common.{◌≡◌, ℕ, ◌<◌, ◌≤◌, false, Ok, Err, Option, Result, Some, None, sym, refl, ap, ◌∙◌, ⊎_elim, true≢false, arith}
use Rattle.std.proofs.lemmas.Bool.{cases_lt}
use Rattle.std.specs.Result.{OkIff, is_ok}
use Rattle.deck.specs.Answers.{fetched}
use Rattle.deck.specs.Tape.{TapeSet, SoundReels, look}
use Rattle.deck.specs.declared.Kind.{Kind}
use Rattle.deck.specs.declared.Short.{Short}
use Rattle.deck.proofs.Looks.{never_short, look-far, look_sound}
use Rattle.reader.specs.Bodies.{shown_at, body_of, body_at}
use Rattle.reader.specs.declared.places.Spot.{Spot}

-- No reel has a block of such a number.
nothing_far : (set : TapeSet) (s : Spot) → SoundReels set → (s.block < 4294967296 → ⊥) → look set s.reel s.block ≡ None
nothing_far set s sound far = look-far set s.reel s.block sound (⊎_elim (λ (h : s.block < 4294967296). absurd (far h)) (λ (h : 4294967296 ≤ s.block). omega arith) (cases_lt s.block 4294967296))

pub no_spot : (set : TapeSet) (p : Option Spot) (s : Spot) (size : ℕ) → SoundReels set → p ≡ Some s → (s.block < 4294967296 → ⊥) → body_at set p size ≡ Err 46
no_spot set p s size sound e far = ap (λ q. body_at set q size) e ∙ ap (body_of size) (nothing_far set s sound far)

refused : {E : Type 0} (r : Result ℕ E) (P : Type 0) (v : ℕ) → OkIff r P v → false ≡ is_ok r → P → ⊥
refused (Ok x) P v k e = absurd (true≢false (sym e))
refused (Err d) P v k e = k

pub none_shown : {E : Type 0} (set : TapeSet) (p : Option Spot) (s : Spot) (r : Result ℕ E) → SoundReels set → p ≡ Some s → OkIff r (s.block < 4294967296) s.block → false ≡ is_ok r → shown_at set p ≡ None
none_shown set p s r sound e k f = ap (shown_at set) e ∙ nothing_far set s sound (refused r (s.block < 4294967296) s.block k f)

-- A buffer of the longest record's length takes every record.
refuses : (r : Result (Option (Kind ℕ)) Short) → ((e : Short) → r ≡ Err e → ⊥) → false ≡ is_ok r → ⊥
refuses (Ok x) h e = true≢false (sym e)
refuses (Err s) h e = h s refl

pub all_fit : (set : TapeSet) (reel block room : ℕ) (r : Result (Option (Kind ℕ)) Short) → SoundReels set → 5388 ≤ room → r ≡ fetched (look set reel block) room → false ≡ is_ok r → ⊥
all_fit set reel block room r sound big is = refuses r (λ s e. never_short (look set reel block) room s (λ xs at. omega (arith, big, (look_sound set reel block xs sound at).1)) (sym is ∙ e))
