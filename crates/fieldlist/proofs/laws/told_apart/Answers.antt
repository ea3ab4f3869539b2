use Rattle.fieldlist.proofs.Apart.{told_apart}
use Rattle.fieldlist.proofs.laws.told_apart.Goals as goal

pub returns : goal.returns
returns c = told_apart
