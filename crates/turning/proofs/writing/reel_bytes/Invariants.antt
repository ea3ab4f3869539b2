use Rattle.std.proofs.Common.{◌≡◌, vec_items}
use Rattle.listing.specs.Blocks.{reel_of}
use Rattle.turning.proofs.Strips.{Going}
use Rattle.turning.proofs.writing.reel_bytes.Given as goal

abbrev pub invariant-loop-block : goal.invariant-loop-block
invariant-loop-block g l = (g.D.Deck.meaning l.deck ≡ g.D.Deck.meaning l.initial.deck) × Going (reel_of (g.D.Deck.meaning l.initial.deck) l.reel) l.block (vec_items l.bytes)
