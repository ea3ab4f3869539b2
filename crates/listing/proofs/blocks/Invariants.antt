use Rattle.std.proofs.Common.{◌≡◌, string_bytes}
use Rattle.listing.proofs.Listed.{Listed}
use Rattle.listing.proofs.blocks.Given as goal

abbrev pub invariant-loop-reel : goal.invariant-loop-reel
invariant-loop-reel g l = (g.D.Deck.meaning l.deck ≡ g.D.Deck.meaning l.initial.deck) × Listed (g.D.Deck.meaning l.initial.deck) l.reel (string_bytes l.text)
