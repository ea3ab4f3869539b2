use Rattle.std.proofs.Common.{◌≡◌, ◌≤◌, length, take}
use Rattle.bridge.specs.Counts.{delivered_of, after_lines}
use Rattle.bridge.proofs.counts.delivered.Given as goal

abbrev pub invariant-loop-wanted : goal.invariant-loop-wanted
invariant-loop-wanted g l =
    (g.D.Deck.meaning l.reader.deck ≡ g.D.Deck.meaning l.initial.reader.deck)
    × (l.reader.accepted ≡ l.initial.reader.accepted)
    × (length l.buffer ≡ length l.initial.buffer)
    × (l.count ≤ l.wanted-index)
    × (l.count ≡ delivered_of (g.D.Deck.meaning l.initial.reader.deck) l.initial.reader.accepted (length l.initial.buffer) (take l.wanted-index l.lines))
    × (l.buffer ≡ after_lines (g.D.Deck.meaning l.initial.reader.deck) l.initial.reader.accepted (length l.initial.buffer) (take l.wanted-index l.lines) l.initial.buffer)
