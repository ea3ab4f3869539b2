use Rattle.std.proofs.Common.{◌≡◌}
use Rattle.bridge.specs.Counts.{after_surveys}
use Rattle.bridge.proofs.counts.surveyed.Given as goal

abbrev pub invariant-loop : goal.invariant-loop
invariant-loop g l =
    (g.D.Deck.meaning l.reader.deck ≡ g.D.Deck.meaning l.initial.reader.deck)
    × (l.reader.accepted ≡ after_surveys l.counter (g.D.Deck.meaning l.initial.reader.deck))
