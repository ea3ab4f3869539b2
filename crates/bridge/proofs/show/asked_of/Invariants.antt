use Rattle.std.proofs.Common.{◌≡◌, ◌∷◌, length, take, vec_items}
use Rattle.bridge.specs.Shows.{words_all, buffers_all}
use Rattle.bridge.proofs.show.asked_of.Given as goal

abbrev pub invariant-loop-fetch : goal.invariant-loop-fetch
invariant-loop-fetch g l =
    (g.D.Deck.meaning l.deck ≡ g.D.Deck.meaning l.initial.deck)
    × (vec_items l.told.words ≡ length (g.D.Deck.meaning l.initial.deck) ∷ words_all (g.D.Deck.meaning l.initial.deck) (take l.fetch-index l.fetches))
    × (vec_items l.told.buffers ≡ buffers_all (g.D.Deck.meaning l.initial.deck) (take l.fetch-index l.fetches))
