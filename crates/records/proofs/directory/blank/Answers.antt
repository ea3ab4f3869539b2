use Rattle.std.proofs.Common.{rules, ◌∙◌, ◌==◌, take, drop, arith}
use Rattle.std.proofs.lemmas.Iterator.{YieldsList-from_slice}
use Rattle.std.proofs.lemmas.Iterator.Search.{all_from_yields_List}
use Rattle.records.proofs.Directories.{blank_all}
use Rattle.records.proofs.directory.blank.Goals as goal

pub returns : goal.returns
returns c =
    all_from_yields_List (λ x. x == 32) _ _ _ c.all.ensures.ran (YieldsList-from_slice (take 6 (drop 20 c.args.bytes.now)) cc) (λ x b q k. search rules)
    ∙ blank_all c.args.bytes.now (omega arith)
