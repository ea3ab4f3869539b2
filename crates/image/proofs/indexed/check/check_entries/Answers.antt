use Rattle.std.proofs.Common.{◌+◌, ◌*◌, Ok, sym, refl, ◌∙◌, arith}
use Rattle.std.proofs.lemmas.Result.{err_from_is_err_and}
use Rattle.image.specs.Indexed.{first_entry, header, entry}
use Rattle.image.proofs.Rows.{and_then_ok, passed_err, row_on, row_stops}
use Rattle.image.proofs.indexed.check.check_entries.Goals as goal

pub returns-in_err-check_entry : goal.returns-in_err-check_entry
returns-in_err-check_entry c =
    let p = err_from_is_err_and c.from_residual.result c.from_residual.ensures.1 in
    let first = first_entry c.args.reels in
    let read = entry c.args.bytes.now (header c.args.reels c.args.blocks) in
    rw (p.1, p.2) (sym (c.loop-block.invariant ∙ row_stops read 8 (λ _. Ok tt) first c.args.blocks c.loop-block.block _ (omega arith) (passed_err (read (first + 8 * c.loop-block.block)) _ (sym c.in_err-check_entry.ensures))))

pub loop-block-preserved : goal.loop-block-preserved
loop-block-preserved c =
    let first = first_entry c.args.reels in
    let read = entry c.args.bytes.now (header c.args.reels c.args.blocks) in
    let b = and_then_ok (read (first + 8 * c.loop-block.block)) (λ _. Ok tt) tt (sym c.in_ok-check_entry.ensures) in
    c.loop-block.invariant ∙ row_on read 8 (λ _. Ok tt) (λ _. Ok tt) first c.args.blocks c.loop-block.block b.0 (omega arith) b.1 (λ _. refl)
