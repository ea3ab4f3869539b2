use Rattle.std.proofs.Common.{Some, None, sym, ap, ◌∙◌}
use Rattle.deck.specs.Answers.{kind_of}
use Rattle.turner.specs.Changes.{changed}
use Rattle.turner.specs.Shapes.{plan, planned}
use Rattle.turner.specs.Shown.{recipe, source_block}
use Rattle.turner.specs.ChangesLemmas.{length_changed}
use Rattle.turner.specs.Sounds.{at_piece, kind_shown, sized_source}
use Rattle.turner.proofs.showing.TurnerDeck.kind.Goals as goal

pub returns-in_err-piece-clause-value : goal.returns-in_err-piece-clause-value
returns-in_err-piece-clause-value g c =
    let set = g.D.Deck.meaning c.args.self.now.deck in
    c.from_residual.ensures ∙ sym (ap kind_of (at_piece (planned c.args.self.now.turning) (plan c.in-Some.turning) set c.args.reel c.args.block None (ap planned c.in-Some.is) (sym c.in_err-piece.was ∙ c.piece_on.ensures)))

pub returns-clause-value : goal.returns-clause-value
returns-clause-value g c =
    let set = g.D.Deck.meaning c.args.self.now.deck in
    let turning = plan c.in-Some.turning in
    let piece = c.in_ok-piece.piece in
    ap Some c.kind_from.ensures.value
    ∙ kind_shown (changed turning piece) (length_changed turning piece) set (recipe c.source_of.result) (sized_source c.source_of.result)
    ∙ ap (λ s. kind_of (Some (source_block (changed turning piece) set s))) c.source_of.ensures
    ∙ sym (ap kind_of (at_piece (planned c.args.self.now.turning) turning set c.args.reel c.args.block (Some piece) (ap planned c.in-Some.is) (sym c.in_ok-piece.was ∙ c.piece_on.ensures)))
