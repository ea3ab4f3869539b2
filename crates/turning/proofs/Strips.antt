-- How many blocks of a reel, and how many reels of a set, have been written.
use Rattle.std.proofs.Common.{◌≡◌, ℕ, zero, suc, ◌+◌, ◌<◌, ◌≤◌, List, [], ◌∷◌, ◌++◌, length, drop, Some, None, Option, sym, refl, ap, ◌∙◌, append_assoc, append-nil, arith}
use Rattle.std.specs.List.{flat_map}
use Rattle.std.proofs.lemmas.List.{at_drop_all}
use Rattle.deck.specs.Tape.{Reel, TapeSet, nth, from_one, look_on, look}
use Rattle.image.specs.Strip.{block_bytes, reel_bytes, encoded}
use Rattle.listing.specs.Blocks.{reel_or_none, reel_of}
use Rattle.turning.specs.Written.{block_at}

on_reel : (o : Option Reel) (block : ℕ) → look_on o block ≡ from_one (reel_or_none o) block
on_reel None zero = refl
on_reel None (suc block) = refl
on_reel (Some reel) block = refl

-- The block of a reel, while a deck's meaning stays.
pub on : (now set : TapeSet) (reel block : ℕ) (o : Option (List ℕ)) → now ≡ set → o ≡ block_at (look now reel block) → o ≡ block_at (from_one (reel_of set reel) block)
on now set reel block o stays e = e ∙ ap (λ s. block_at (look s reel block)) stays ∙ ap block_at (on_reel (from_one set reel) block)

-- The block at a place, or the end.
there : (xs : Reel) (n : ℕ) (bytes : List ℕ) → Some bytes ≡ block_at (nth xs n) → (n < length xs) × (flat_map block_bytes (drop n xs) ≡ bytes ++ flat_map block_bytes (drop (suc n) xs))
there [] n bytes e = cc
there (x ∷ xs) zero bytes e = let is : block_bytes x ≡ bytes = cc in (omega arith, ap (λ b. b ++ flat_map block_bytes xs) is)
there (x ∷ xs) (suc n) bytes e = let h = there xs n bytes e in (omega (arith, h.0), h.1)

behind : (xs : Reel) (n : ℕ) → None ≡ block_at (nth xs n) → flat_map block_bytes (drop n xs) ≡ []
behind [] zero e = refl
behind [] (suc n) e = refl
behind (x ∷ xs) zero e = cc
behind (x ∷ xs) (suc n) e = behind xs n e

-- The bytes are those of the blocks before the block `block`.
pub record Going (xs : Reel) (block : ℕ) (bytes : List ℕ) : Type 0 where
  pub at : ℕ
  pub is : block ≡ suc at
  pub so_far : bytes ++ flat_map block_bytes (drop at xs) ≡ flat_map block_bytes xs

pub going_start : (xs : Reel) → Going xs 1 []
going_start xs = record { at = 0; is = refl; so_far = refl }

pub going_next : (xs : Reel) (block : ℕ) (bytes line after : List ℕ) → Going xs block bytes → Some line ≡ block_at (from_one xs block) → after ≡ bytes ++ line → Going xs (block + 1) after
going_next xs block bytes line after g e a =
    let rest = flat_map block_bytes (drop (suc g.at) xs) in
    let step = (there xs g.at line (e ∙ ap (λ n. block_at (from_one xs n)) g.is)).1 in
    record {
      at = suc g.at;
      is = omega (arith, g.is);
      so_far = ap (λ t. t ++ rest) a ∙ append_assoc bytes line rest ∙ ap (λ t. bytes ++ t) (sym step) ∙ g.so_far;
    }

pub going_done : (xs : Reel) (block : ℕ) (bytes : List ℕ) → Going xs block bytes → None ≡ block_at (from_one xs block) → bytes ≡ flat_map block_bytes xs
going_done xs block bytes g e =
    sym (append-nil bytes) ∙ ap (λ t. bytes ++ t) (sym (behind xs g.at (e ∙ ap (λ n. block_at (from_one xs n)) g.is))) ∙ g.so_far

pub going_all : (xs : Reel) (block : ℕ) (bytes : List ℕ) → Going xs block bytes → length xs < block → bytes ≡ flat_map block_bytes xs
going_all xs block bytes g h = sym (append-nil bytes) ∙ ap (λ t. bytes ++ t) (sym (at_drop_all (flat_map block_bytes) xs g.at (omega (arith, g.is)))) ∙ g.so_far

-- The bytes are those of the reels before the reel `reel`.
next_reel : (set : TapeSet) (i : ℕ) → i < length set → encoded (drop i set) ≡ reel_bytes (reel_or_none (nth set i)) ++ encoded (drop (suc i) set)
next_reel [] i h = absurd (omega arith)
next_reel (reel ∷ set) zero h = refl
next_reel (reel ∷ set) (suc i) h = next_reel set i (omega arith)

pub record Written (set : TapeSet) (reel : ℕ) (bytes : List ℕ) : Type 0 where
  pub at : ℕ
  pub is : reel ≡ suc at
  pub so_far : bytes ++ encoded (drop at set) ≡ encoded set

pub written_start : (set : TapeSet) → Written set 1 []
written_start set = record { at = 0; is = refl; so_far = refl }

pub written_next : (set now : TapeSet) (reel : ℕ) (bytes line after : List ℕ) → Written set reel bytes → reel ≤ length set → now ≡ set → line ≡ reel_bytes (reel_of now reel) → after ≡ bytes ++ line → Written set (reel + 1) after
written_next set now reel bytes line after w h stays e a =
    let here = reel_bytes (reel_of set reel) in
    let rest = encoded (drop (suc w.at) set) in
    let step : encoded (drop w.at set) ≡ here ++ rest =
    next_reel set w.at (omega (arith, w.is)) ∙ ap (λ n. reel_bytes (reel_or_none (from_one set n)) ++ rest) (sym w.is) in
    let is : after ≡ bytes ++ here = a ∙ ap (λ t. bytes ++ t) (e ∙ ap (λ s. reel_bytes (reel_of s reel)) stays) in
    record {
      at = suc w.at;
      is = omega (arith, w.is);
      so_far = ap (λ t. t ++ rest) is ∙ append_assoc bytes here rest ∙ ap (λ t. bytes ++ t) (sym step) ∙ w.so_far;
    }

pub written_all : (set : TapeSet) (reel : ℕ) (bytes : List ℕ) → Written set reel bytes → length set < reel → bytes ≡ encoded set
written_all set reel bytes w h = sym (append-nil bytes) ∙ ap (λ t. bytes ++ t) (sym (at_drop_all encoded set w.at (omega (arith, w.is)))) ∙ w.so_far
