use Rattle.std.proofs.Common.{◌≡◌, map, vec_items}
use Rattle.witness.specs.Replies.{answered}
use Rattle.bridge.specs.Answers.{all_words, all_buffers}
use Rattle.bridge.proofs.words.tell.Given as goal

abbrev pub invariant-loop-answered : goal.invariant-loop-answered
invariant-loop-answered l =
    (vec_items l.told.words ≡ all_words (map answered l.yielded)) × (vec_items l.told.buffers ≡ all_buffers (map answered l.yielded))
