use Rattle.std.proofs.Common.{length, Some, None, sym, refl, ap, ◌∙◌}
use Rattle.std.proofs.lemmas.Result.{err_from_is_err_and}
use Rattle.deck.specs.Answers.{fetched, filled}
use Rattle.turner.specs.Shapes.{plan, planned}
use Rattle.turner.specs.Shown.{shown, there}
use Rattle.turner.specs.Sounds.{at_piece}
use Rattle.turner.proofs.showing.TurnerDeck.fetch.Goals as goal

pub returns-in_default-piece_on : goal.returns-in_default-piece_on
returns-in_default-piece_on g c =
    let set = g.D.Deck.meaning c.args.self.now.deck in
    let buffer = c.args.buffer.now in
    let lacks = at_piece (planned c.args.self.now.turning) (plan c.in-Some.turning) set c.args.reel c.args.block None (ap planned c.in-Some.is) (sym c.in_default-piece_on.is ∙ c.piece_on.ensures) in
    record { stays = refl; value = sym (ap (λ o. fetched o (length buffer)) lacks); bytes = sym (ap (λ o. filled o buffer) lacks) }

pub returns-in_err-deliver : goal.returns-in_err-deliver
returns-in_err-deliver g c =
    let set = g.D.Deck.meaning c.args.self.now.deck in
    let buffer = c.args.buffer.now in
    let stands = at_piece (planned c.args.self.now.turning) (plan c.in-Some.turning) set c.args.reel c.args.block (Some c.in-Some-piece_on.piece) (ap planned c.in-Some.is) (sym c.in-Some-piece_on.is ∙ c.piece_on.ensures) in
    record {
      stays = ap (shown (planned c.args.self.now.turning)) c.deliver.ensures.stays;
      value = (err_from_is_err_and c.from_residual.result c.from_residual.ensures.1).1 ∙ sym (ap there c.in_err-deliver.was) ∙ c.deliver.ensures.value ∙ sym (ap (λ o. fetched o (length buffer)) stands);
      bytes = c.deliver.ensures.bytes ∙ sym (ap (λ o. filled o buffer) stands);
    }

pub returns : goal.returns
returns g c =
    let set = g.D.Deck.meaning c.args.self.now.deck in
    let buffer = c.args.buffer.now in
    let stands = at_piece (planned c.args.self.now.turning) (plan c.in-Some.turning) set c.args.reel c.args.block (Some c.in-Some-piece_on.piece) (ap planned c.in-Some.is) (sym c.in-Some-piece_on.is ∙ c.piece_on.ensures) in
    record {
      stays = ap (shown (planned c.args.self.now.turning)) c.deliver.ensures.stays;
      value = sym (ap there c.in_ok-deliver.was) ∙ c.deliver.ensures.value ∙ sym (ap (λ o. fetched o (length buffer)) stands);
      bytes = c.deliver.ensures.bytes ∙ sym (ap (λ o. filled o buffer) stands);
    }
