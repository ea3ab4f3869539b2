use Rattle.std.proofs.Common.{◌≡◌, take, string_bytes}
use Rattle.listing.specs.Tapes.{each}
use Rattle.fieldlist.specs.Sheets.{annotations_to}
use Rattle.fieldlist.proofs.list.FieldList.annotations.Given as goal

abbrev pub invariant-loop-code : goal.invariant-loop-code
invariant-loop-code g l =
    (l.self ≡ l.initial.self)
    × (string_bytes l.text ≡ each (annotations_to l.initial.self.set l.initial.self.accepted l.count) (take l.code-index l.code-items))
