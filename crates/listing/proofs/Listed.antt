-- How many reels have been listed.
use Rattle.std.proofs.Common.{◌≡◌, ℕ, zero, suc, ◌+◌, ◌<◌, ◌≤◌, List, [], ◌∷◌, ◌++◌, length, drop, sym, refl, ap, ◌∙◌, append_assoc, append-nil, arith}
use Rattle.deck.specs.Tape.{TapeSet, nth, from_one}
use Rattle.listing.specs.Blocks.{reel_text, reels_text, blocks_text, reel_or_none, reel_of}

next_reel : (set : TapeSet) (i n : ℕ) → i < length set → reels_text n (drop i set) ≡ reel_text n (reel_or_none (nth set i)) ++ reels_text (n + 1) (drop (suc i) set)
next_reel [] i n h = absurd (omega arith)
next_reel (reel ∷ set) zero n h = refl
next_reel (reel ∷ set) (suc i) n h = next_reel set i n (omega arith)

no_reel : (set : TapeSet) (i n : ℕ) → length set ≤ i → reels_text n (drop i set) ≡ []
no_reel [] zero n h = refl
no_reel [] (suc i) n h = refl
no_reel (reel ∷ set) zero n h = absurd (omega arith)
no_reel (reel ∷ set) (suc i) n h = no_reel set i n (omega arith)

-- The text has the reels before the reel `reel`.
pub record Listed (set : TapeSet) (reel : ℕ) (text : List ℕ) : Type 0 where
  pub at : ℕ
  pub is : reel ≡ suc at
  pub so_far : text ++ reels_text reel (drop at set) ≡ blocks_text set

pub listed_start : (set : TapeSet) → Listed set 1 []
listed_start set = record { at = 0; is = refl; so_far = refl }

-- One reel more, as a deck that means the set lists it.
pub listed_next : (set now : TapeSet) (reel : ℕ) (text line after : List ℕ) → Listed set reel text → reel ≤ length set → now ≡ set → line ≡ reel_text reel (reel_of now reel) → after ≡ text ++ line → Listed set (reel + 1) after
listed_next set now reel text line after l h stays e a =
    let here = reel_text reel (reel_of set reel) in
    let rest = reels_text (reel + 1) (drop (suc l.at) set) in
    let on : reels_text reel (drop l.at set) ≡ here ++ rest =
    next_reel set l.at reel (omega (arith, l.is)) ∙ ap (λ n. reel_text reel (reel_or_none (from_one set n)) ++ rest) (sym l.is) in
    let is : after ≡ text ++ here = a ∙ ap (λ t. text ++ t) (e ∙ ap (λ s. reel_text reel (reel_of s reel)) stays) in
    record {
      at = suc l.at;
      is = omega (arith, l.is);
      so_far = ap (λ t. t ++ rest) is ∙ append_assoc text here rest ∙ ap (λ t. text ++ t) (sym on) ∙ l.so_far;
    }

pub listed_all : (set : TapeSet) (reel : ℕ) (text : List ℕ) → Listed set reel text → length set < reel → text ≡ blocks_text set
listed_all set reel text l h =
    sym (append-nil text) ∙ ap (λ t. text ++ t) (sym (no_reel set l.at reel (omega (arith, l.is)))) ∙ l.so_far
