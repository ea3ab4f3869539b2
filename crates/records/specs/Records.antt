-- The checks of one record. Bytes are counted from 1.
use Rattle.std.specs.Prelude.{ℕ, ◌-◌, ◌/◌, ◌%◌, Bool, cond, ◌&&◌, List, length, Some, None, Ok, Err, Option, Result, ◌==◌, slice_index}
use Rattle.records.specs.Faults.{record_number}
use Rattle.records.specs.declared.fault.RecordFault.{RecordFault}

-- A byte of a record.
abbrev pub byte : List ℕ → ℕ → ℕ
byte xs n = slice_index xs (n - 1)

-- A record begins with its number, in four bytes.
abbrev pub has_number : List ℕ → ℕ → Bool
has_number xs n = byte xs 1 == n / 16777216 % 256 && (byte xs 2 == n / 65536 % 256 && (byte xs 3 == n / 256 % 256 && byte xs 4 == n % 256))

-- What a check of the record layer says: nothing, or the number of the fault.
abbrev pub recorded : Result (Unit {0}) RecordFault → Option ℕ
recorded (Ok u) = None
recorded (Err f) = Some (record_number f)

-- Length, fifth byte, type and number, in that order.
unfoldable pub checked : List ℕ → ℕ → ℕ → ℕ → Option ℕ
checked xs len kind n =
    cond (length xs == len)
    (cond (byte xs 5 == 0)
    (cond (byte xs 6 == kind)
    (cond (has_number xs n) None (Some 26))
    (Some 25))
    (Some 24))
    (Some 23)
