use Rattle.std.proofs.Common.{◌≡◌, ◌≤◌, take}
use Rattle.bridge.specs.Counts.{records_of, after_blocks}
use Rattle.bridge.proofs.counts.blocks_of.Given as goal

abbrev pub invariant-loop-wanted : goal.invariant-loop-wanted
invariant-loop-wanted g l =
    (g.D.Deck.meaning l.deck ≡ g.D.Deck.meaning l.initial.deck)
    × (l.count ≤ l.wanted-index)
    × (l.count ≡ records_of (g.D.Deck.meaning l.initial.deck) (take l.wanted-index l.blocks))
    × (l.buffer ≡ after_blocks (g.D.Deck.meaning l.initial.deck) (take l.wanted-index l.blocks) l.initial.buffer)
