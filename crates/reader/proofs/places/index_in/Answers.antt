use Rattle.std.proofs.Common.{◌==◌, ◌∙◌, rules, tests}
use Rattle.std.proofs.lemmas.Iterator.{YieldsList-from_slice}
use Rattle.std.proofs.lemmas.Iterator.Search.{position_from_yields_List}
use Rattle.reader.proofs.Indexes.{index_is}
use Rattle.reader.proofs.places.index_in.Goals as goal

pub returns-clause-finds : goal.returns-clause-finds
returns-clause-finds c =
    position_from_yields_List (λ x. x == c.args.code) _ _ c.position.result c.position.ensures.ran (YieldsList-from_slice c.args.codes.now cc) (λ x b q k. search (rules, tests))
    ∙ index_is c.args.code c.args.codes.now
