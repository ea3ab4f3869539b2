use Rattle.std.proofs.Common.{Some, Ok, sym, ap, ◌∙◌}
use Rattle.deck.specs.Answers.{filled}
use Rattle.turner.specs.Changes.{changed}
use Rattle.turner.specs.Shapes.{plan}
use Rattle.turner.specs.Shown.{recipe, source_block, there}
use Rattle.turner.specs.ChangesLemmas.{length_changed}
use Rattle.turner.proofs.Deliveries.{taken, changed_bytes}
use Rattle.turner.proofs.shape.Turning.deliver.Goals as goal

pub returns-in-Record-clause-bytes : goal.returns-in-Record-clause-bytes
returns-in-Record-clause-bytes g c =
    let set = g.D.Deck.meaning c.args.deck.now in
    let buffer = c.args.buffer.now in
    let f = changed (plan c.args.self.now) c.args.piece in
    let source = recipe c.source_of.result in
    let size = c.in-Record.size in
    let took = taken set source buffer size (sym c.fetch_from.ensures.value ∙ ap there c.in_ok-kind.was ∙ ap (λ k. there (Ok k)) c.in-Record.is) in
    changed_bytes f (length_changed (plan c.args.self.now) c.args.piece) set source buffer size took c.fetch_from.new.buffer c.change.new.body c.fetch_from.ensures.bytes c.change.ensures
    ∙ ap (λ b. filled (Some b) buffer) (ap (source_block f set) c.source_of.ensures)
