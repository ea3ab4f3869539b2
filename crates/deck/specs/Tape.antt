-- What a tape set is: the meaning of every deck.
use Rattle.std.specs.Prelude.{ℕ, zero, suc, ◌≤◌, List, [], ◌∷◌, length, Some, None, Option}

-- A block of tape: a record, by its bytes; a tape mark; or a block that could not be read.
pub data Block : Type 0 where
  written : List ℕ → Block
  mark : Block
  bad : Block

-- A reel is its blocks in order, a set its reels in order.
abbrev pub Reel : Type 0
Reel = List Block

abbrev pub TapeSet : Type 0
TapeSet = List Reel

-- A record has 1 to 5,388 bytes.
abbrev pub SoundBlock : Block → Type 0
SoundBlock (written bytes) = (1 ≤ length bytes) × (length bytes ≤ 5388)
SoundBlock mark = Unit {0}
SoundBlock bad = Unit {0}

abbrev pub SoundBlocks : Reel → Type 0
SoundBlocks [] = Unit {0}
SoundBlocks (block ∷ blocks) = SoundBlock block × SoundBlocks blocks

-- A reel has at most 65,535 blocks.
abbrev pub SoundReels : TapeSet → Type 0
SoundReels [] = Unit {0}
SoundReels (reel ∷ reels) = ((length reel ≤ 65535) × SoundBlocks reel) × SoundReels reels

-- A set has 1 to 9 reels. This is what every deck keeps to, whatever it reads from.
pub record Sound (set : TapeSet) : Type 0 where
  pub some : 1 ≤ length set
  pub few : length set ≤ 9
  pub reels : SoundReels set

-- The element at a place counted from 0, or none.
abbrev pub nth : {X : Type 0} → List X → ℕ → Option X
nth [] n = None
nth (x ∷ xs) zero = Some x
nth (x ∷ xs) (suc n) = nth xs n

-- The element at a place counted from 1, or none: nothing is at 0.
abbrev pub from_one : {X : Type 0} → List X → ℕ → Option X
from_one xs zero = None
from_one xs (suc n) = nth xs n

-- The block of a reel of the set, both counted from 1, or none where there is no such block.
abbrev pub look_on : Option Reel → ℕ → Option Block
look_on None block = None
look_on (Some reel) block = from_one reel block

abbrev pub look : TapeSet → ℕ → ℕ → Option Block
look set reel block = look_on (from_one set reel) block
