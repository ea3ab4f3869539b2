use Rattle.std.proofs.Common.{◌≡◌, take, replicate}
use Rattle.turner.proofs.delivery.blank.Given as goal

abbrev pub invariant-loop-byte : goal.invariant-loop-byte
invariant-loop-byte l = take l.byte-index l.body ≡ replicate l.byte-index 0
