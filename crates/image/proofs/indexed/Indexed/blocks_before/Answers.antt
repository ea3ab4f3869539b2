use Rattle.std.proofs.Common.{[], arith}
use Rattle.deck.specs.Tape.{Reel}
use Rattle.image.specs.Opened.{indexed_set}
use Rattle.image.proofs.Places.{joined_length}
use Rattle.image.proofs.indexed.Indexed.blocks_before.Goals as goal

pub loop-i-preserved : goal.loop-i-preserved
loop-i-preserved c =
    (omega (arith, c.loop-i.invariant.0, c.block_count.ensures.counts, joined_length (λ (reel : Reel). reel) (indexed_set c.args.self.now) c.loop-i.i [] (omega (arith, c.requires))), omega (arith, c.loop-i.invariant.1, c.block_count.ensures.few))
