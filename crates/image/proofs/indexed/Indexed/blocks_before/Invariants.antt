use Rattle.std.proofs.Common.{◌≡◌, ◌*◌, ◌≤◌, length, take}
use Rattle.image.specs.Indexed.{blocks}
use Rattle.image.specs.Opened.{indexed_set}
use Rattle.image.proofs.indexed.Indexed.blocks_before.Given as goal

abbrev pub invariant-loop-i : goal.invariant-loop-i
invariant-loop-i l = (l.before ≡ length (blocks (take l.i (indexed_set l.self)))) × (l.before ≤ 65535 * l.i)
