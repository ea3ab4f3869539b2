-- That a set is sound is a fact: it is so in one way at most.
use Rattle.std.specs.Prelude.{[], ◌∷◌}
use Rattle.std.proofs.Props.{props}
use Rattle.deck.specs.Tape.{Block, written, mark, bad, Reel, TapeSet, Sound, SoundBlock, SoundBlocks, SoundReels}

pub sole_block : (block : Block) → IsProp (SoundBlock block)
sole_block (written bytes) = hlevel props
sole_block mark = hlevel props
sole_block bad = hlevel props

pub sole_blocks : (reel : Reel) → IsProp (SoundBlocks reel)
sole_blocks [] = hlevel props
sole_blocks (block ∷ blocks) = hlevel (props, sole_block block, sole_blocks blocks)

pub sole_reels : (set : TapeSet) → IsProp (SoundReels set)
sole_reels [] = hlevel props
sole_reels (reel ∷ reels) = hlevel (props, sole_blocks reel, sole_reels reels)

pub sole : (set : TapeSet) → IsProp (Sound set)
sole set = hlevel (props, sole_reels set)
