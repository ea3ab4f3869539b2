use Rattle.std.proofs.Common.{◌≡◌, map, vec_items}
use Rattle.reader.specs.Answers.{memory_of}
use Rattle.witness.specs.Replies.{asked, answered, remembered, replies}
use Rattle.witness.proofs.calls.ask_all.Given as goal

abbrev pub invariant-loop-call : goal.invariant-loop-call
invariant-loop-call g l =
    let set = g.D.Deck.meaning l.initial.reader.deck in
    (g.D.Deck.meaning l.reader.deck ≡ set)
    × ((memory_of l.reader ≡ remembered set (map asked l.yielded))
    × (map answered (vec_items l.answers) ≡ replies set (map asked l.yielded)))
