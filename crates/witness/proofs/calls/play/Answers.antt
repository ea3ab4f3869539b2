use Rattle.std.proofs.Common.{map, vec_items}
use Rattle.witness.specs.Replies.{asked, answered}
use Rattle.witness.proofs.Telling.{shown, made_more}
use Rattle.witness.proofs.calls.play.Goals as goal

pub returns : goal.returns
returns g c = record {
  says = c.ask_all.ensures;
  shows =
      made_more c.ask_all.result _ _
      (λ v e. shown (g.D.Deck.meaning c.args.deck) (map asked (vec_items c.args.calls)) (map answered (vec_items v)) (g.met.D.Deck.sound c.args.deck) e)
      c.ask_all.ensures;
}
