use Rattle.turner.proofs.Keeping.{keeps}
use Rattle.turner.proofs.showing.Turner.new.Goals as goal

pub returns-clause-law : goal.returns-clause-law
returns-clause-law g c = keeps (g.D.Deck.meaning c.args.deck)
