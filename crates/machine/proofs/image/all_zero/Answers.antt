use Rattle.std.proofs.Common.{rules, ◌≡◌, refl, ap, ◌∙◌, eqb}
use Rattle.std.proofs.lemmas.Fn.{fold_over, fronts, slice_gives}
use Rattle.machine.specs.Machines.{all_zero}
use Rattle.machine.proofs.Zeros.{zero_step}
use Rattle.machine.proofs.image.all_zero.Goals as goal

pub returns : goal.returns
returns c =
    fold_over fronts (λ y. y.now) _ (λ ys a. eqb a 0 ≡ all_zero ys) _
    (λ ys a x b f' j k. (zero_step ys a x.now b j (search rules), search rules))
    c.iter.result c.iter.result.rest.now 0 c.fold.result (slice_gives c.iter.result) refl c.fold.ensures.ran
    ∙ ap all_zero c.iter.ensures.rest
