use Rattle.std.proofs.Common.{length, sym, ap, ◌∙◌, arith}
use Rattle.deck.specs.Answers.{filled}
use Rattle.reader.specs.Bodies.{length_of}
use Rattle.reader.proofs.Bodies.{none_shown, all_fit}
use Rattle.reader.proofs.body.record_at.Goals as goal

pub returns-in_err-block-clause-says : goal.returns-in_err-block-clause-says
returns-in_err-block-clause-says g c =
    let none = none_shown (g.D.Deck.meaning c.args.deck.now) c.args.spot c.in_ok-spot.spot c.try_from.result (g.met.D.Deck.sound c.args.deck.now).reels c.in_ok-spot.was c.try_from.ensures c.in_err-block.ensures.variant in
    c.from_residual-in_err-block.ensures ∙ sym (ap length_of none)

pub returns-in_err-block-clause-bytes : goal.returns-in_err-block-clause-bytes
returns-in_err-block-clause-bytes g c =
    let none = none_shown (g.D.Deck.meaning c.args.deck.now) c.args.spot c.in_ok-spot.spot c.try_from.result (g.met.D.Deck.sound c.args.deck.now).reels c.in_ok-spot.was c.try_from.ensures c.in_err-block.ensures.variant in
    sym (ap (λ o. filled o c.args.scratch.now) none)

pub returns-in_err-length-clause-says : goal.returns-in_err-length-clause-says
returns-in_err-length-clause-says g c =
    let set = g.D.Deck.meaning c.args.deck.now in
    absurd (all_fit set c.in_ok-spot.spot.reel c.in_ok-block.block (length c.args.scratch.now) c.fetch.result (g.met.D.Deck.sound c.args.deck.now).reels (omega arith) c.fetch.ensures.value c.in_err-length.ensures.variant)
