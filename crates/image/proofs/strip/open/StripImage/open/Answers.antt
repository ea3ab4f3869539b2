use Rattle.std.proofs.Common.{is_ok, vec_items, refl, ap, subst}
use Rattle.image.specs.Scan.{Scanned}
use Rattle.image.specs.Strip.{meant}
use Rattle.image.proofs.Openings.{at_start}
use Rattle.image.proofs.Strips.{judged_sound}
use Rattle.image.proofs.strip.open.StripImage.open.Goals as goal

pub invariant_of-result : goal.invariant_of-result
invariant_of-result c =
    let s = subst (λ xs. Scanned xs c.in-Ok.chart.items) c.as_slice.ensures.value c.in-Ok.ensures in
    let sound = judged_sound (vec_items c.args.bytes) (meant (vec_items c.args.bytes)) s.reads.judged in
    let start = at_start (vec_items c.args.bytes) s.reads in
    record {
      judged = ap is_ok s.reads.judged;
      sound = sound;
      spells = s.reads.spells;
      charted = s.charted;
      on_reel = start.on_reel;
      on_block = start.on_block;
      here = refl;
    }
