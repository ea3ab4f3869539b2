-- The numbers of refusals, and answers with them.
use Rattle.std.specs.Prelude.{ℕ, ◌-◌, List, take, drop, Ok, Err, Result}
use Rattle.fields.specs.declared.fault.FieldFault.{FieldFault}
use Rattle.fields.specs.declared.fault.FieldFault.TheVariants.{Band, Code, Record}
use Rattle.fields.specs.declared.part.Part.{Part}

abbrev pub field_number : FieldFault → ℕ
field_number Band = 42
field_number Code = 47
field_number Record = 48

abbrev pub told : {X : Type 0} → Result X FieldFault → Result X ℕ
told (Ok x) = Ok x
told (Err e) = Err (field_number e)

-- A part as the number of its first byte and its bytes.
abbrev pub lent_part : Part → ℕ × List ℕ
lent_part p = (p.first, p.bytes.now)

abbrev pub told_part : Result Part FieldFault → Result (ℕ × List ℕ) ℕ
told_part (Ok p) = Ok (lent_part p)
told_part (Err e) = Err (field_number e)

-- So many bytes of a record from the first on.
abbrev pub part_of : List ℕ → ℕ → ℕ → ℕ × List ℕ
part_of xs first count = (first, take count (drop (first - 1) xs))
