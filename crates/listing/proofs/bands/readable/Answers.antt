use Rattle.std.proofs.Common.{◌≡◌, length, sym, ap, ◌∙◌, arith, rules}
use Rattle.reader.specs.Bodies.{told, told_delivery, line_answer}
use Rattle.listing.specs.Tapes.{readable}
use Rattle.listing.proofs.Readable.{few-readable, one_more, none_more}
use Rattle.listing.proofs.bands.readable.Goals as goal
use Rattle.listing.proofs.bands.readable.Goals.{then-is_ok, else-is_ok}

pub overflow_add-count : goal.overflow_add-count
overflow_add-count g c =
    let so_far = c.loop-line.invariant.4 in
    omega (arith, so_far.is, so_far.so_far, few-readable (g.D.Deck.meaning c.args.reader.now.deck) c.args.reader.now.accepted c.args.code so_far.before)

pub returns-after-is_ok-clause-value : goal.returns-after-is_ok-clause-value
returns-after-is_ok-clause-value g c =
    let set = g.D.Deck.meaning c.args.reader.now.deck in
    let now = g.D.Deck.meaning c.loop-line.reader.deck in
    let m = c.args.reader.now.accepted in
    let end : c.loop-line.line ≡ c.args.lines = omega arith in
    let says : told c.line.result ≡ told_delivery (line_answer now c.loop-line.reader.accepted c.args.code c.loop-line.line (length c.loop-line.buffer)) = search rules in
    elim c.if-is_ok.branch [
      | then-is_ok w ↦
          w.count-is
          ∙ one_more set now m c.loop-line.reader.accepted c.args.code c.loop-line.line (length c.loop-line.buffer) c.loop-line.count c.line.result c.loop-line.invariant.0 c.loop-line.invariant.1 c.loop-line.invariant.2 says c.loop-line.invariant.4
          (sym c.is_ok.ensures.value ∙ w.if-is_ok.true)
          ∙ ap (readable set m c.args.code) end
      | else-is_ok w ↦
          w.count-is
          ∙ none_more set now m c.loop-line.reader.accepted c.args.code c.loop-line.line (length c.loop-line.buffer) c.loop-line.count c.line.result c.loop-line.invariant.0 c.loop-line.invariant.1 c.loop-line.invariant.2 says c.loop-line.invariant.4
          (sym c.is_ok.ensures.value ∙ w.if-is_ok.false)
          ∙ ap (readable set m c.args.code) end
    ]
