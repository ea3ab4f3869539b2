use Rattle.std.proofs.Common.{◌≡◌, take, string_bytes}
use Rattle.listing.specs.Tapes.{bands_text}
use Rattle.listing.proofs.bands.bands_listing.Given as goal

abbrev pub invariant-loop-code : goal.invariant-loop-code
invariant-loop-code g l =
    (g.D.Deck.meaning l.reader.deck ≡ g.D.Deck.meaning l.initial.reader.deck)
    × (l.reader.accepted ≡ l.initial.reader.accepted)
    × (string_bytes l.text ≡ bands_text (g.D.Deck.meaning l.initial.reader.deck) l.initial.reader.accepted l.lines (take l.code-index l.code-items))
