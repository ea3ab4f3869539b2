-- The bounds that every accepted set, and every record of one, keeps to.
use Rattle.std.specs.Prelude.{◌≤◌, Bool, ◌&&◌, length, nat_le, slice_index_or}
use Rattle.std.proofs.Common.{lit≤}
use Rattle.records.specs.Layouts.{record_length}
use Rattle.records.specs.declared.layout.Form.{Form}
use Rattle.records.specs.declared.layout.Form.TheVariants.{Interleaved, Sequential, Vidicon}
use Rattle.machine.specs.Machines.{no_group}
use Rattle.machine.specs.declared.accepted.Accepted.{Accepted}
use Rattle.machine.specs.declared.machine.Group.{Group}
use Rattle.reader.specs.Finding.{codes}

-- The group whose sheets are shown: the first.
abbrev pub first_group : Accepted → Group
first_group a = slice_index_or a.places.table 0 no_group

-- The bounds of every accepted set: 8,192 lines, five bands and five trailers. What is shown then fits on a reel.
abbrev pub small : Accepted → Bool
small a = nat_le a.summary.lines 8192 && (nat_le (length (codes a)) 5 && nat_le (first_group a).trailers 5)

-- A record has its six identification bytes, and no more bytes than a tape's longest.
pub form_six : (f : Form) → 6 ≤ record_length f
form_six Interleaved = lit≤ tt
form_six Sequential = lit≤ tt
form_six Vidicon = lit≤ tt

pub form_few : (f : Form) → record_length f ≤ 5388
form_few Interleaved = lit≤ tt
form_few Sequential = lit≤ tt
form_few Vidicon = lit≤ tt
