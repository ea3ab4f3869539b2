use Rattle.std.proofs.Common.{arith}
use Rattle.image.proofs.Listings.{listed_there}
use Rattle.image.proofs.indexed.Indexed.find.Goals as goal

pub listed_at-requires : goal.listed_at-requires
listed_at-requires c =
    let entry =
    listed_there c.args.self.now c.args.reel c.args.block c.in_ok-reel.field-0 c.in_ok-block.block c.reel_count-reels.result c.blocks_before.result
    c.in_ok-reel.ensures c.in_ok-block.ensures (omega (arith, c.reel_count-reels.ensures)) (omega (arith, c.block_count.ensures.counts)) c.reel_count-reels.ensures c.blocks_before.ensures.counts in
    omega (arith, c.as_slice.ensures.len, entry.whole)
