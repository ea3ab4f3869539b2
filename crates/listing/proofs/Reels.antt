-- A reel of a set, and its blocks.
use Rattle.std.proofs.Common.{◌≡◌, ℕ, zero, suc, ◌+◌, ◌<◌, ◌≤◌, true, false, [], ◌∷◌, length, Some, None, Option, refl, ap, ◌∙◌, add-one, arith}
use Rattle.std.proofs.lemmas.Bool.{eq-eqb, ne_eqb}
use Rattle.deck.specs.Answers.{kind_of}
use Rattle.deck.specs.Tape.{Block, written, mark, bad, Reel, TapeSet, Sound, SoundReels, nth, from_one, look_on, look}
use Rattle.deck.specs.declared.Kind.{Kind}
use Rattle.listing.specs.Blocks.{block_kind, alike, reel_or_none, reel_of}

on_reel : (o : Option Reel) (block : ℕ) → look_on o block ≡ from_one (reel_or_none o) block
on_reel None zero = refl
on_reel None (suc block) = refl
on_reel (Some reel) block = refl

-- What a deck answers of a block, while its meaning stays.
pub kind_on : (now set : TapeSet) (reel block : ℕ) (kind : Option (Kind ℕ)) → now ≡ set → kind ≡ kind_of (look now reel block) → kind ≡ kind_of (from_one (reel_of set reel) block)
kind_on now set reel block kind stays e = e ∙ ap (λ s. kind_of (look s reel block)) stays ∙ ap kind_of (on_reel (from_one set reel) block)

few_at : (set : TapeSet) (n : ℕ) → SoundReels set → length (reel_or_none (nth set n)) ≤ 65535
few_at [] n s = omega arith
few_at (reel ∷ set) zero s = s.0.0
few_at (reel ∷ set) (suc n) s = few_at set n s.1

pub few-blocks : (set : TapeSet) (n : ℕ) → Sound set → length (reel_of set n) ≤ 65535
few-blocks set zero s = omega arith
few-blocks set (suc n) s = few_at set n s.reels

-- The block behind the first `n`.
pub behind : (xs : Reel) (n : ℕ) → from_one xs (n + 1) ≡ nth xs n
behind xs n = ap (from_one xs) (add-one n)

pub some_kind : (b : Block) → kind_of (Some b) ≡ Some (block_kind b)
some_kind (written bytes) = refl
some_kind mark = refl
some_kind bad = refl

pub inside : (xs : Reel) (n : ℕ) (k : Kind ℕ) → kind_of (nth xs n) ≡ Some k → n < length xs
inside [] n k e = cc
inside (x ∷ xs) zero k e = omega arith
inside (x ∷ xs) (suc n) k e = let h = inside xs n k e in omega (arith, h)

pub past : (xs : Reel) (n : ℕ) → kind_of (nth xs n) ≡ None → length xs ≤ n
past [] n e = omega arith
past (x ∷ xs) zero e = let s = some_kind x in cc
past (x ∷ xs) (suc n) e = let h = past xs n e in omega (arith, h)

pub alike_same : (b c : Block) → block_kind c ≡ block_kind b → alike b c ≡ true
alike_same (written a) (written b) e = eq-eqb (length a) (length b) (cc)
alike_same (written a) mark e = cc
alike_same (written a) bad e = cc
alike_same mark (written b) e = cc
alike_same mark mark e = refl
alike_same mark bad e = cc
alike_same bad (written b) e = cc
alike_same bad mark e = cc
alike_same bad bad e = refl

pub alike_differ : (b c : Block) → (block_kind c ≡ block_kind b → ⊥) → alike b c ≡ false
alike_differ (written a) (written b) ne = ne_eqb (length a) (length b) (λ e. ne (cc))
alike_differ (written a) mark ne = refl
alike_differ (written a) bad ne = refl
alike_differ mark (written b) ne = refl
alike_differ mark mark ne = absurd (ne refl)
alike_differ mark bad ne = refl
alike_differ bad (written b) ne = refl
alike_differ bad mark ne = refl
alike_differ bad bad ne = absurd (ne refl)
