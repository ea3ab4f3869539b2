-- The block at a place of a set, by its place counted from 0.
use Rattle.std.proofs.Common.{◌≡◌, ℕ, zero, suc, ◌-◌, ◌<◌, ◌≤◌, Bool, true, false, cond, ltb, List, [], ◌∷◌, ◌++◌, length, get_or, drop, Some, None, Ok, Err, Option, Result, refl, ap, ◌∙◌, subst, arith}
use Rattle.std.proofs.lemmas.Bool.{le-ltb, cond-false}
use Rattle.deck.specs.Answers.{fetched, filled}
use Rattle.deck.specs.Tape.{Block, written, mark, bad, Reel, TapeSet, SoundBlock, SoundBlocks, SoundReels, nth, from_one, look_on, look}
use Rattle.deck.specs.declared.Kind.{Kind}
use Rattle.deck.specs.declared.Kind.TheVariants.{Record}
use Rattle.deck.specs.declared.Short.{Short}

pub nth-there : {X : Type 0} (xs : List X) (i : ℕ) (d : X) → i < length xs → nth xs i ≡ Some (get_or xs i d)
nth-there [] i d h = absurd (omega arith)
nth-there (x ∷ xs) zero d h = refl
nth-there (x ∷ xs) (suc i) d h = nth-there xs i d (omega arith)

pub nth_past : {X : Type 0} (xs : List X) (i : ℕ) → length xs ≤ i → nth xs i ≡ None
nth_past [] i h = refl
nth_past (x ∷ xs) zero h = absurd (omega arith)
nth_past (x ∷ xs) (suc i) h = nth_past xs i (omega arith)

-- Places counted from 1.
pub from_one_is : {X : Type 0} (xs : List X) (n : ℕ) → 0 < n → from_one xs n ≡ nth xs (n - 1)
from_one_is xs zero h = absurd (omega arith)
from_one_is xs (suc n) h = ap (nth xs) (omega arith)

pub look-there : (set : TapeSet) (reel block : ℕ) → 0 < reel → 0 < block → reel - 1 < length set → block - 1 < length (get_or set (reel - 1) []) → look set reel block ≡ Some (get_or (get_or set (reel - 1) []) (block - 1) mark)
look-there set reel block r b hr hb =
    ap (λ o. look_on o block) (from_one_is set reel r ∙ nth-there set (reel - 1) [] hr)
    ∙ from_one_is (get_or set (reel - 1) []) block b
    ∙ nth-there (get_or set (reel - 1) []) (block - 1) mark hb

pub look_no_reel : (set : TapeSet) (reel block : ℕ) → 0 < reel → length set ≤ reel - 1 → look set reel block ≡ None
look_no_reel set reel block r h = ap (λ o. look_on o block) (from_one_is set reel r ∙ nth_past set (reel - 1) h)

pub look_no_block : (set : TapeSet) (reel block : ℕ) → 0 < reel → 0 < block → reel - 1 < length set → length (get_or set (reel - 1) []) ≤ block - 1 → look set reel block ≡ None
look_no_block set reel block r b hr hb =
    ap (λ o. look_on o block) (from_one_is set reel r ∙ nth-there set (reel - 1) [] hr)
    ∙ from_one_is (get_or set (reel - 1) []) block b
    ∙ nth_past (get_or set (reel - 1) []) (block - 1) hb

on_zero : (o : Option Reel) → look_on o 0 ≡ None
on_zero None = refl
on_zero (Some reel) = refl

pub look-zero_reel : (set : TapeSet) (block : ℕ) → look set 0 block ≡ None
look-zero_reel set block = refl

pub look-zero-block : (set : TapeSet) (reel : ℕ) → look set reel 0 ≡ None
look-zero-block set reel = on_zero (from_one set reel)

-- Every block of a sound set is sound.
pub block_sound : (reel : Reel) (b : ℕ) → SoundBlocks reel → SoundBlock (get_or reel b mark)
block_sound [] b s = tt
block_sound (x ∷ reel) zero s = s.0
block_sound (x ∷ reel) (suc b) s = block_sound reel b s.1

pub reel_sound : (set : TapeSet) (r : ℕ) → SoundReels set → (length (get_or set r []) ≤ 65535) × SoundBlocks (get_or set r [])
reel_sound [] r s = (omega arith, tt)
reel_sound (x ∷ set) zero s = s.0
reel_sound (x ∷ set) (suc r) s = reel_sound set r s.1

-- A record of a sound set is not longer than 5,388 bytes.
nth_sound : (reel : Reel) (i : ℕ) (xs : List ℕ) → SoundBlocks reel → nth reel i ≡ Some (written xs) → SoundBlock (written xs)
nth_sound [] i xs s e = let z : ◌≡◌ {A = ℕ} 0 1 = cc in absurd (omega arith)
nth_sound (b ∷ reel) zero xs s e = let is : b ≡ written xs = cc in subst SoundBlock is s.0
nth_sound (b ∷ reel) (suc i) xs s e = nth_sound reel i xs s.1 e

from_one_sound : (reel : Reel) (n : ℕ) (xs : List ℕ) → SoundBlocks reel → from_one reel n ≡ Some (written xs) → SoundBlock (written xs)
from_one_sound reel zero xs s e = let z : ◌≡◌ {A = ℕ} 0 1 = cc in absurd (omega arith)
from_one_sound reel (suc n) xs s e = nth_sound reel n xs s e

reels_sound : (set : TapeSet) (i block : ℕ) (xs : List ℕ) → SoundReels set → look_on (nth set i) block ≡ Some (written xs) → SoundBlock (written xs)
reels_sound [] i block xs s e = let z : ◌≡◌ {A = ℕ} 0 1 = cc in absurd (omega arith)
reels_sound (reel ∷ set) zero block xs s e = from_one_sound reel block xs s.0.1 e
reels_sound (reel ∷ set) (suc i) block xs s e = reels_sound set i block xs s.1 e

pub look_sound : (set : TapeSet) (reel block : ℕ) (xs : List ℕ) → SoundReels set → look set reel block ≡ Some (written xs) → SoundBlock (written xs)
look_sound set zero block xs s e = let z : ◌≡◌ {A = ℕ} 0 1 = cc in absurd (omega arith)
look_sound set (suc reel) block xs s e = reels_sound set reel block xs s e

-- A buffer of that length takes every record, and the block is then read off it.
pub never_short : (o : Option Block) (room : ℕ) (e : Short) → ((xs : List ℕ) → o ≡ Some (written xs) → length xs ≤ room) → fetched o room ≡ Err e → ⊥
never_short None room e h f = let z : ◌≡◌ {A = ℕ} 0 1 = cc in omega arith
never_short (Some (written xs)) room e h f =
    let fits : ltb room (length xs) ≡ false = le-ltb room (length xs) (h xs refl) in
    let whole : fetched (Some (written xs)) room ≡ Ok (Some (Record (length xs))) = cond-false {A = Result (Option (Kind ℕ)) Short} (ltb room (length xs)) (Err record {}) (Ok (Some (Record (length xs)))) fits in
    let z : ◌≡◌ {A = ℕ} 0 1 = cc in omega arith
never_short (Some mark) room e h f = let z : ◌≡◌ {A = ℕ} 0 1 = cc in omega arith
never_short (Some bad) room e h f = let z : ◌≡◌ {A = ℕ} 0 1 = cc in omega arith

-- There is no block behind the last that a reel can have.
reel_far : (reel : Reel) (block : ℕ) → length reel ≤ 65535 → 65535 < block → from_one reel block ≡ None
reel_far reel block l h = from_one_is reel block (omega arith) ∙ nth_past reel (block - 1) (omega arith)

on_far : (set : TapeSet) (i block : ℕ) → SoundReels set → 65535 < block → look_on (nth set i) block ≡ None
on_far [] i block s h = refl
on_far (reel ∷ set) zero block s h = reel_far reel block s.0.0 h
on_far (reel ∷ set) (suc i) block s h = on_far set i block s.1 h

pub look-far : (set : TapeSet) (reel block : ℕ) → SoundReels set → 65535 < block → look set reel block ≡ None
look-far set zero block s h = refl
look-far set (suc reel) block s h = on_far set reel block s h

-- A fetch that answers a record has read one, and it stands at the front of the buffer.
pub record Read (o : Option Block) (buffer : List ℕ) (n : ℕ) : Type 0 where
  pub bytes : List ℕ
  pub is : o ≡ Some (written bytes)
  pub long : length bytes ≡ n
  pub front : filled o buffer ≡ bytes ++ drop n buffer

same_length : (m n : ℕ) → ◌≡◌ {A = Result (Option (Kind ℕ)) Short} (Ok (Some (Record m))) (Ok (Some (Record n))) → m ≡ n
same_length m n e = cc

read_record : (xs buffer : List ℕ) (n : ℕ) (b : Bool) → cond {A = Result (Option (Kind ℕ)) Short} b (Err record {}) (Ok (Some (Record (length xs)))) ≡ Ok (Some (Record n)) → (length xs ≡ n) × (cond b buffer (xs ++ drop (length xs) buffer) ≡ xs ++ drop n buffer)
read_record xs buffer n true e = let z : ◌≡◌ {A = ℕ} 0 1 = cc in absurd (omega arith)
read_record xs buffer n false e = let long = same_length (length xs) n e in (long, ap (λ k. xs ++ drop k buffer) long)

pub fetched_record : (o : Option Block) (buffer : List ℕ) (n : ℕ) → fetched o (length buffer) ≡ Ok (Some (Record n)) → Read o buffer n
fetched_record None buffer n e = let z : ◌≡◌ {A = ℕ} 0 1 = cc in absurd (omega arith)
fetched_record (Some (written xs)) buffer n e = let r = read_record xs buffer n (ltb (length buffer) (length xs)) e in record { bytes = xs; is = refl; long = r.0; front = r.1 }
fetched_record (Some mark) buffer n e = let z : ◌≡◌ {A = ℕ} 0 1 = cc in absurd (omega arith)
fetched_record (Some bad) buffer n e = let z : ◌≡◌ {A = ℕ} 0 1 = cc in absurd (omega arith)
