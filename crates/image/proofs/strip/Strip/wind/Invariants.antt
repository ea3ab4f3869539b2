use Rattle.std.proofs.Common.{◌≡◌, ◌+◌}
use Rattle.image.specs.Cursor.{Stands}
use Rattle.image.proofs.strip.Strip.wind.Given as goal

abbrev pub invariant-loop : goal.invariant-loop
invariant-loop l = Stands l.self.bytes.items l.cursor × (l.cursor.reel ≡ l.reel) × (l.cursor.block ≡ l.counter)

abbrev pub invariant-loop-2 : goal.invariant-loop-2
invariant-loop-2 l = Stands l.self.bytes.items l.cursor × (l.cursor.reel ≡ l.reel) × (l.cursor.block + l.counter ≡ l.end + l.block)
