use Rattle.std.proofs.Common.{length, Some, sym, ap, ◌∙◌}
use Rattle.deck.specs.Answers.{fetched, filled}
use Rattle.deck.specs.Tape.{look}
use Rattle.reader.specs.Bodies.{body_of}
use Rattle.turner.specs.Shown.{readable, recipe_of, recipe, record_block}
use Rattle.turner.specs.declared.delivery.Found.TheVariants.{Borne}
use Rattle.turner.proofs.Deliveries.{source_found}
use Rattle.turner.proofs.delivery.fetch_from.Goals as goal

pub returns-in-Some-Borne : goal.returns-in-Some-Borne
returns-in-Some-Borne g c =
    let set = g.D.Deck.meaning c.args.deck.now in
    let buffer = c.args.buffer.now in
    let source = c.in-Some.source in
    let at = c.in-Some-Borne.at in
    let same =
    ap (λ k. record_block (λ body. body) source.kind source.number (readable (body_of source.size (look k at.reel at.block)))) c.find.ensures.stays
    ∙ source_found set (recipe c.args.source) (recipe_of source) (Some (Borne at)) (ap recipe c.in-Some.is) (sym c.find.ensures.value ∙ c.in-Some-Borne.is ∙ ap Some c.in-Some-Borne.field-0-is) in
    record {
      stays = c.copied_record.ensures.stays ∙ c.find.ensures.stays;
      value = c.copied_record.ensures.value ∙ ap (λ b. fetched (Some b) (length buffer)) same;
      bytes = c.copied_record.ensures.bytes ∙ ap (λ b. filled (Some b) buffer) same;
    }
