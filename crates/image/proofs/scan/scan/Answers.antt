use Rattle.std.proofs.Common.{◌+◌, [], ◌∷◌, ◌++◌, Some, Ok, sym, ap, ◌∙◌, subst, arith}
use Rattle.std.proofs.lemmas.Result.{err_from_is_err_and}
use Rattle.image.specs.Chart.{span}
use Rattle.image.specs.Strip.{size}
use Rattle.image.proofs.Scans.{Going, going_start, going_refused, going_finished, going_ends, going_holds, size_some}
use Rattle.image.proofs.scan.scan.Goals as goal

pub loop-next-init : goal.loop-next-init
loop-next-init c = subst (λ t. Going c.args.bytes.now t 0 0 0) (sym c.new-chart.ensures) (going_start c.args.bytes.now)

pub returns-in_err-next : goal.returns-in_err-next
returns-in_err-next c =
    let p = err_from_is_err_and c.from_residual.result c.from_residual.ensures.1 in
    rw (p.1, p.2) (going_refused c.args.bytes.now c.loop-next.chart.items c.loop-next.start c.loop-next.blocks c.loop-next.at _ _ c.len.ensures.value c.loop-next.invariant (sym c.in_err-next.ensures))

pub returns : goal.returns
returns c =
    going_finished c.args.bytes.now c.loop-next.chart.items c.loop-next.start c.loop-next.blocks c.loop-next.at _ (λ i. omega (arith, c.type_inv.bytes i)) c.len.ensures.value c.loop-next.invariant
    (sym c.in_ok-next.ensures ∙ ap Ok c.in_default.is)

pub overflow_add-at : goal.overflow_add-at
overflow_add-at c = omega (arith, (going_ends _ _ _ _ _ _ c.len.ensures.value c.loop-next.invariant (sym c.in_ok-next.ensures ∙ ap Ok (c.in-Some.is ∙ ap Some c.in-ReelEnds.is))).inside)

-- Behind the end of a reel.
ended : (c : goal.After-push) → Going c.args.bytes.now (c.loop-next.chart.items ++ span c.loop-next.start c.loop-next.blocks ∷ []) (c.loop-next.at + 4) 0 (c.loop-next.at + 4)
ended c =
    going_ends c.args.bytes.now c.loop-next.chart.items c.loop-next.start c.loop-next.blocks c.loop-next.at _ c.len.ensures.value c.loop-next.invariant
    (sym c.in_ok-next.ensures ∙ ap Ok (c.in-Some.is ∙ ap Some c.in-ReelEnds.is))

pub loop-next-smaller-in-ReelEnds : goal.loop-next-smaller-in-ReelEnds
loop-next-smaller-in-ReelEnds c = omega (arith, (ended c).inside)

pub loop-next-preserved-in-ReelEnds : goal.loop-next-preserved-in-ReelEnds
loop-next-preserved-in-ReelEnds c = subst (λ t. Going c.args.bytes.now t (c.loop-next.at + 4) 0 (c.loop-next.at + 4)) (sym c.push.ensures.items) (ended c)

-- Behind a block.
on_holds : (c : goal.After-size-at) → Going c.args.bytes.now c.loop-next.chart.items c.loop-next.start (c.loop-next.blocks + 1) (c.loop-next.at + size c.in-Holds.block)
on_holds c =
    going_holds c.args.bytes.now c.loop-next.chart.items c.loop-next.start c.loop-next.blocks c.loop-next.at _ c.in-Holds.block c.len.ensures.value c.loop-next.invariant
    (sym c.in_ok-next.ensures ∙ ap Ok (c.in-Some.is ∙ ap Some c.in-Holds.is))

pub overflow_add-at-in-Holds : goal.overflow_add-at-in-Holds
overflow_add-at-in-Holds c = omega (arith, (on_holds c).inside, c.size-at.ensures)

pub loop-next-smaller : goal.loop-next-smaller
loop-next-smaller c = omega (arith, (on_holds c).inside, c.size-at.ensures, size_some c.in-Holds.block)

pub loop-next-preserved : goal.loop-next-preserved
loop-next-preserved c = subst (λ n. Going c.args.bytes.now c.loop-next.chart.items c.loop-next.start (c.loop-next.blocks + 1) (c.loop-next.at + n)) (sym c.size-at.ensures) (on_holds c)
