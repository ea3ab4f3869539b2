use Rattle.fields.proofs.Codes.{one_count, one-signed}
use Rattle.fields.proofs.laws.one_encoding.Goals as goal

pub returns : goal.returns
returns c = record { counts = one_count; numbers = one-signed }
