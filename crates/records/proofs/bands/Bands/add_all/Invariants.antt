use Rattle.std.proofs.Common.{◌≡◌}
use Rattle.records.proofs.Codes.{bands_below}
use Rattle.records.proofs.bands.Bands.add_all.Given as goal

abbrev pub invariant-loop-place : goal.invariant-loop-place
invariant-loop-place l = l.self ≡ bands_below l.mask l.place l.initial.self
