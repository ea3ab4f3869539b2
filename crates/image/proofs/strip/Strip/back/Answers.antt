use Rattle.std.proofs.Common.{vec_items, arith}
use Rattle.image.proofs.Places.{block_behind, behind_there, size_four}
use Rattle.image.proofs.strip.Strip.back.Goals as goal

pub overflow_sub-at : goal.overflow_sub-at
overflow_sub-at c = omega (arith, (behind_there c.args.self.now c.args.cursor c.requires.stands c.requires.behind_start).fits, size_four (block_behind (vec_items c.args.self.now.bytes) c.args.cursor))
