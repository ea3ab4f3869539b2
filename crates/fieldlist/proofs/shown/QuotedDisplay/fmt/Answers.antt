use Rattle.std.proofs.Common.{arith, rules}
use Rattle.std.proofs.Output.{has_written_append, has_written_of_eq}
use Rattle.fieldlist.proofs.Bytes.{shown-take}
use Rattle.fieldlist.proofs.shown.QuotedDisplay.fmt.Goals as goal

pub loop-byte-preserved : goal.loop-byte-preserved
loop-byte-preserved g c =
    λ whole. has_written_of_eq _ _ _ _ _ (shown-take c.args.self.now.0.now c.loop-byte.byte-index (omega arith))
    (has_written_append _ _ _ _ _ _ (c.loop-byte.invariant whole) (search rules))
