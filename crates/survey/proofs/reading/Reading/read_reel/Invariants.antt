use Rattle.std.proofs.Common.{◌≡◌, ◌+◌, ◌-◌, ◌≤◌, [], length, get_or}
use Rattle.machine.specs.Machines.{Steady}
use Rattle.survey.specs.Surveys.{feed_reel}
use Rattle.survey.proofs.Feeding.{from_block}
use Rattle.survey.proofs.reading.Reading.read_reel.Given as goal

abbrev pub invariant-loop-block : goal.invariant-loop-block
invariant-loop-block g l =
    let meaning = g.D.Deck.meaning in
    let set = meaning l.initial.deck in
    (meaning l.deck ≡ set)
    × ((Steady l.initial.self.machine → Steady l.self.machine)
    × ((1 ≤ l.block-iterator.start)
    × ((l.block-iterator.start ≤ length (get_or set (l.reel - 1) []) + 1)
    × (feed_reel l.self.machine l.reel l.block-iterator.start (from_block set l.reel l.block-iterator.start) ≡ feed_reel l.initial.self.machine l.reel 1 (get_or set (l.reel - 1) [])))))
