use Rattle.witness.proofs.Promised.{promised}
use Rattle.witness.proofs.twin.twins.Goals as goal

pub returns-in_err-again-clause-promise : goal.returns-in_err-again-clause-promise
returns-in_err-again-clause-promise g c = promised (g.D.Deck.meaning c.args.one) (g.E.Deck.meaning c.args.other) (g.met.D.Deck.sound c.args.one) (g.met.E.Deck.sound c.args.other)

pub returns-in_err-first-clause-promise : goal.returns-in_err-first-clause-promise
returns-in_err-first-clause-promise g c = promised (g.D.Deck.meaning c.args.one) (g.E.Deck.meaning c.args.other) (g.met.D.Deck.sound c.args.one) (g.met.E.Deck.sound c.args.other)

pub returns-in_err-second-clause-promise : goal.returns-in_err-second-clause-promise
returns-in_err-second-clause-promise g c = promised (g.D.Deck.meaning c.args.one) (g.E.Deck.meaning c.args.other) (g.met.D.Deck.sound c.args.one) (g.met.E.Deck.sound c.args.other)

pub returns-clause-promise : goal.returns-clause-promise
returns-clause-promise g c = promised (g.D.Deck.meaning c.args.one) (g.E.Deck.meaning c.args.other) (g.met.D.Deck.sound c.args.one) (g.met.E.Deck.sound c.args.other)
