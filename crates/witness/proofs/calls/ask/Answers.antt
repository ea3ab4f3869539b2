use Rattle.std.proofs.Common.{ap, ◌∙◌}
use Rattle.std.proofs.lemmas.List.{with_items_is}
use Rattle.reader.specs.Answers.{answer, memory_of, outcome_of}
use Rattle.witness.proofs.calls.ask.Goals as goal

pub returns : goal.returns
returns g c =
    let given = c.as_mut_slice.ensures.value in
    let bytes = with_items_is c.args.asked.buffer c.ask-answer.new.buffer (c.ask-answer.auto.buffer ∙ c.as_mut_slice.ensures.len) in
    record {
      stays = c.ask-answer.ensures.stays;
      answers = ap (λ xs. outcome_of c.ask-answer.result xs c.ask-answer.new.self) bytes ∙ c.ask-answer.ensures.answers ∙ ap (answer (g.D.Deck.meaning c.args.reader.now.deck) (memory_of c.args.reader.now) c.args.asked.call) given;
    }
