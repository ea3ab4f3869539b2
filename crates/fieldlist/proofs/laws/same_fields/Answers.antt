use Rattle.fieldlist.proofs.Rebuilt.{same_annotation, same_image}
use Rattle.fieldlist.proofs.laws.same_fields.Goals as goal

pub returns : goal.returns
returns c = record { annotations = same_annotation; lines = same_image }
