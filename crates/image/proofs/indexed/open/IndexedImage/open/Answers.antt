use Rattle.std.proofs.Common.{◌≡◌, true, is_ok, vec_items, sym, ap, ◌∙◌}
use Rattle.image.specs.Indexed.{passed, verdict}
use Rattle.image.proofs.Listings.{opened}
use Rattle.image.proofs.Rows.{passed_ok}
use Rattle.image.proofs.indexed.open.IndexedImage.open.Goals as goal

pub invariant_of-result : goal.invariant_of-result
invariant_of-result c =
    let xs = vec_items c.args.bytes in
    let judged : is_ok (verdict xs) ≡ true = passed_ok (verdict xs) (ap (λ ys. passed (verdict ys)) (sym c.as_slice.ensures.value) ∙ sym c.in-Ok.ensures) in
    record { judged = judged; sound = (opened xs judged).0 }
