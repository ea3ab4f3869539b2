use Rattle.std.proofs.Common.{true, false, sym, ap, ◌∙◌}
use Rattle.records.specs.Bands.{present}
use Rattle.records.proofs.Codes.{bands_more}
use Rattle.records.proofs.bands.Bands.add_all.Goals as goal
use Rattle.records.proofs.bands.Bands.add_all.Goals.{then-present, else-present}

pub loop-place-preserved : goal.loop-place-preserved
loop-place-preserved c =
    elim c.if-present.branch [
      | then-present w ↦ let more = bands_more c.in-Mixed.mask c.loop-place.place c.args.self.now true (sym w.if-present.true ∙ c.present.ensures ∙ ap (present c.in-Mixed.mask) c.from.ensures) in cc
      | else-present w ↦ let more = bands_more c.in-Mixed.mask c.loop-place.place c.args.self.now false (sym w.if-present.false ∙ c.present.ensures ∙ ap (present c.in-Mixed.mask) c.from.ensures) in cc
    ]
