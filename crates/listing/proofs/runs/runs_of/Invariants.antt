use Rattle.std.proofs.Common.{◌≡◌, ◌-◌, length, string_bytes}
use Rattle.listing.specs.Blocks.{reel_of}
use Rattle.listing.proofs.Going.{Going}
use Rattle.listing.proofs.runs.runs_of.Given as goal

abbrev pub invariant-loop-kind : goal.invariant-loop-kind
invariant-loop-kind g l = (g.D.Deck.meaning l.deck ≡ g.D.Deck.meaning l.fn.deck) × Going (reel_of (g.D.Deck.meaning l.fn.deck) l.reel) l.blocks l.count l.kind (string_bytes l.text)

abbrev pub decreases-loop-kind : goal.decreases-loop-kind
decreases-loop-kind g l = length (reel_of (g.D.Deck.meaning l.fn.deck) l.reel) - l.blocks
