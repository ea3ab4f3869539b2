use Rattle.std.proofs.Common.{[], ◌∷◌, vec_items, refl}
use Rattle.std.proofs.lemmas.Slice.{pushed}
use Rattle.reader.specs.Answers.{memory_of}
use Rattle.witness.proofs.Runs.{turn}
use Rattle.witness.proofs.calls.ask_all.Goals as goal

pub loop-call-preserved : goal.loop-call-preserved
loop-call-preserved g c =
    let inv = c.loop-call.invariant in
    turn (g.D.Deck.meaning c.new-reader.result.deck) (g.D.Deck.meaning c.loop-call.reader.deck) (g.D.Deck.meaning c.ask.new.reader.deck)
    (memory_of c.loop-call.reader) (memory_of c.ask.new.reader)
    c.loop-call.yielded c.in-Some.call (vec_items c.loop-call.answers) (vec_items c.push.new.self) c.ask.result
    inv.0 inv.1.0 inv.1.1 c.ask.ensures.stays c.ask.ensures.answers
    (pushed (c.ask.result ∷ []) refl c.in_ok-push.was c.push.ensures.items)
