use Rattle.std.proofs.Common.{◌≡◌, ◌+◌, ◌-◌, ◌≤◌, string_bytes}
use Rattle.fieldlist.specs.Sheets.{annotations_to}
use Rattle.fieldlist.proofs.list.FieldList.band_annotations.Given as goal

abbrev pub invariant-loop-index : goal.invariant-loop-index
invariant-loop-index g l =
    (l.self ≡ l.initial.self)
    × (1 ≤ l.index)
    × (l.index ≤ l.count + 1)
    × (string_bytes l.text ≡ annotations_to l.initial.self.set l.initial.self.accepted (l.index - 1) l.code)
