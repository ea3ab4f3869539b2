use Rattle.std.proofs.Common.{◌≡◌, ◌+◌, ◌-◌, ◌*◌, ◌≤◌, Ok, sum}
use Rattle.image.specs.Indexed.{and_then, row, block_count, block_total}
use Rattle.image.proofs.indexed.check.total_blocks.Given as goal

abbrev pub invariant-loop-reel : goal.invariant-loop-reel
invariant-loop-reel l = (l.blocks ≤ 65535 * l.reel) × (block_total l.bytes l.reels ≡ and_then (row (block_count l.bytes) 4 (4 + 4 * l.reel) (l.reels - l.reel)) (λ ns. Ok (l.blocks + sum ns)))
