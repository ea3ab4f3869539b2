use Rattle.std.proofs.Common.{◌≡◌, vec_items}
use Rattle.turning.proofs.Strips.{Written}
use Rattle.turning.proofs.writing.strip_bytes.Given as goal

abbrev pub invariant-loop-reel : goal.invariant-loop-reel
invariant-loop-reel g l = (g.D.Deck.meaning l.deck ≡ g.D.Deck.meaning l.initial.deck) × Written (g.D.Deck.meaning l.initial.deck) l.reel (vec_items l.bytes)
