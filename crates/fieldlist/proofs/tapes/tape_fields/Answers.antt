use Rattle.std.proofs.Common.{◌≡◌, IfOk, string_bytes, ap, ◌∙◌, subst}
use Rattle.survey.specs.Surveys.{surveyed}
use Rattle.fieldlist.specs.Tapes.{tape_text}
use Rattle.fieldlist.proofs.Deliveries.{both_parts}
use Rattle.fieldlist.proofs.tapes.tape_fields.Goals as goal

pub returns-in_ok-line-in-Ok : goal.returns-in_ok-line-in-Ok
returns-in_ok-line-in-Ok g c =
    let set = g.D.Deck.meaning c.new-reader.result.deck in
    let after = g.D.Deck.meaning c.survey.new.self.deck in
    subst (λ t. IfOk c.format.result (λ s. string_bytes s ≡ t))
    (both_parts set after c.args.wanted (surveyed set) c.survey.result c.in-Ok.outline c.survey.new.self.accepted c.annotations-in-Ok.new.self c.annotations.result
    (string_bytes c.in_ok-annotations-in-Ok.annotations) (string_bytes c.in_ok-line-in-Ok.line) c.survey.ensures.says c.in-Ok.is c.survey.ensures.remembers.0 c.survey.ensures.stays
    c.annotations-in-Ok.ensures.stays c.annotations.ensures c.in_ok-annotations-in-Ok.ensures.text c.in_ok-line-in-Ok.ensures
    ∙ ap (λ d. tape_text (g.D.Deck.meaning d) c.args.wanted) c.new-reader.ensures.0)
    c.format.ensures.ok
