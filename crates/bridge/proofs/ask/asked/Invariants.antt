use Rattle.std.proofs.Common.{◌≡◌, map, take, vec_items}
use Rattle.witness.specs.Replies as replies
use Rattle.bridge.specs.Asks.{question}
use Rattle.bridge.proofs.ask.asked.Given as goal

abbrev pub invariant-loop-ask : goal.invariant-loop-ask
invariant-loop-ask l = map replies.asked (vec_items l.calls) ≡ map question (take l.ask-index l.asks)
