use Rattle.std.proofs.Common.{◌+◌, ◌*◌, Ok, sum, sym, ◌∙◌, arith}
use Rattle.std.proofs.lemmas.Result.{err_from_is_err_and}
use Rattle.image.specs.Indexed.{block_count}
use Rattle.image.proofs.Indices.{count_says, sum_on}
use Rattle.image.proofs.Rows.{row_on, row_stops}
use Rattle.image.proofs.indexed.check.total_blocks.Goals as goal

pub returns-in_err-blocks : goal.returns-in_err-blocks
returns-in_err-blocks c =
    let p = err_from_is_err_and c.from_residual.result c.from_residual.ensures.1 in
    record {
      counts = rw (p.1, p.2) (sym (c.loop-reel.invariant.1 ∙ row_stops (block_count c.args.bytes.now) 4 (λ ns. Ok (c.loop-reel.blocks + sum ns)) 4 c.args.reels c.loop-reel.reel _ (omega arith) (sym c.in_err-blocks.ensures)));
      few = rw p.1 tt;
    }

pub loop-reel-preserved : goal.loop-reel-preserved
loop-reel-preserved c =
    let read = block_count c.args.bytes.now in
    let total = c.loop-reel.blocks in
    let n = c.in_ok-blocks.field-0 in
    let is = sym c.in_ok-blocks.ensures in
    (omega (arith, (count_says c.args.bytes.now (4 + 4 * c.loop-reel.reel) n is).1), c.loop-reel.invariant.1 ∙ row_on read 4 (λ ns. Ok (total + sum ns)) (λ ns. Ok (total + n + sum ns)) 4 c.args.reels c.loop-reel.reel n (omega arith) is (sum_on total n))
