-- The fields of an annotation record.
use Rattle.std.specs.Prelude.{ℕ, Bool, cond, ◌&&◌, ◌||◌, List, length, Ok, Err, Result, codes, ◌==◌}
use Rattle.records.specs.Records.{byte}
use Rattle.fields.specs.Faults.{part_of}
use Rattle.fields.specs.declared.annotation.Processing.{Processing}
use Rattle.fields.specs.declared.annotation.Processing.TheVariants.{Uncorrected, System, Geometric, Relative}

-- Its length is that of either instrument's records, and its type octal 333.
abbrev pub is_annotation : List ℕ → Bool
is_annotation xs = (length xs == 3596 || length xs == 5388) && byte xs 6 == 219

-- A field is so many bytes from its first one on.
abbrev pub field : List ℕ → ℕ → ℕ → Result (ℕ × List ℕ) ℕ
field xs first count = cond (is_annotation xs) (Ok (part_of xs first count)) (Err 48)

abbrev pub exposure_date : List ℕ → Result (ℕ × List ℕ) ℕ
exposure_date xs = field xs 7 8

abbrev pub centre : List ℕ → Result (ℕ × List ℕ) ℕ
centre xs = field xs 15 17

abbrev pub path_and_row : List ℕ → Result (ℕ × List ℕ) ℕ
path_and_row xs = field xs 32 9

abbrev pub nominal_centre : List ℕ → Result (ℕ × List ℕ) ℕ
nominal_centre xs = field xs 41 17

abbrev pub frame : List ℕ → Result (ℕ × List ℕ) ℕ
frame xs = field xs 107 15

-- The letters U, S, G and R.
abbrev pub processing_by : ℕ → Result Processing ℕ
processing_by letter =
    cond (letter == 85) (Ok Uncorrected)
    (cond (letter == 83) (Ok System)
    (cond (letter == 71) (Ok Geometric)
    (cond (letter == 82) (Ok Relative) (Err 47))))

abbrev pub letter : Processing → List ℕ
letter Uncorrected = codes "U"
letter System = codes "S"
letter Geometric = codes "G"
letter Relative = codes "R"

abbrev pub processing : List ℕ → Result Processing ℕ
processing xs = cond (is_annotation xs) (processing_by (byte xs 82)) (Err 48)
