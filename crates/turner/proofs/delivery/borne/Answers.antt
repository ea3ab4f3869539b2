use Rattle.std.proofs.Common.{Some, sym, refl}
use Rattle.reader.proofs.Bodies.{no_spot}
use Rattle.turner.proofs.Deliveries.{not_borne}
use Rattle.turner.proofs.delivery.borne.Goals as goal

pub returns-in_default-clause-value : goal.returns-in_default-clause-value
returns-in_default-clause-value g c =
    let set = g.D.Deck.meaning c.args.deck.now in
    let spot = c.args.spot in
    let none = no_spot set (Some spot) spot c.args.size (g.met.D.Deck.sound c.args.deck.now).reels refl c.in_default.ensures in
    sym (not_borne set c.args.size spot none)
