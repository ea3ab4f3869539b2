use Rattle.std.proofs.Common.{◌≡◌, length}
use Rattle.machine.specs.Findings.{start}
use Rattle.survey.specs.Surveys.{feed}
use Rattle.survey.proofs.Feeding.{from_reel}
use Rattle.survey.proofs.reading.survey.Given as goal

abbrev pub invariant-loop-reel : goal.invariant-loop-reel
invariant-loop-reel g l =
    let meaning = g.D.Deck.meaning in
    let set = meaning l.initial.deck in
    (meaning l.deck ≡ set)
    × (feed l.reading.machine l.reel (from_reel set l.reel) ≡ feed (start (length set)) 1 set)
