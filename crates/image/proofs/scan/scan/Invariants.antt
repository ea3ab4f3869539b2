use Rattle.std.proofs.Common.{◌-◌, length}
use Rattle.image.proofs.Scans.{Going}
use Rattle.image.proofs.scan.scan.Given as goal

abbrev pub invariant-loop-next : goal.invariant-loop-next
invariant-loop-next l = Going l.bytes l.chart.items l.start l.blocks l.at

abbrev pub decreases-loop-next : goal.decreases-loop-next
decreases-loop-next l = length l.bytes - l.at
