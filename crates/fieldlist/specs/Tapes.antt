-- The fields of a tape set's records.
use Rattle.std.specs.Prelude.{ℕ, cond, List, ◌++◌, length, Some, Ok, Err, Option, Result, nat_lt}
use lib.Chars as chars
use Rattle.deck.specs.Tape.{TapeSet}
use Rattle.image.specs.Strip.{verdict}
use Rattle.records.specs.Layouts.{annotations}
use Rattle.machine.specs.declared.accepted.Accepted.{Accepted}
use Rattle.survey.specs.Surveys.{Fault, surveyed}
use Rattle.reader.specs.Bodies.{outline}
use Rattle.reader.specs.Finding.{codes}
use Rattle.listing.specs.Strips.{verdict_text}
use Rattle.listing.specs.Tapes.{each, fault_text}
use Rattle.fieldlist.specs.Measured.{wanted_text}
use Rattle.fieldlist.specs.Sheets.{annotations_to}
use Rattle.fieldlist.specs.declared.measured.Wanted.{Wanted}

-- What a survey's outcome is written as: of an accepted set, the annotation records of the bands present, and the line that is wanted; or
-- the fault.
abbrev pub survey_text : TapeSet → Option Wanted → Result Accepted Fault → List ℕ
survey_text set wanted (Ok a) =
    each (annotations_to set (Some a) (annotations a.summary.layout.correction)) (codes a) ++ wanted_text set (Some a) (outline a) wanted
survey_text set wanted (Err f) = fault_text f

abbrev pub tape_text : TapeSet → Option Wanted → List ℕ
tape_text set wanted = survey_text set wanted (surveyed set)

-- A strip as a tape set, if it has at most 1,048,576 bytes.
abbrev pub strip_text : List ℕ → Option Wanted → List ℕ
strip_text bytes wanted = cond (nat_lt 1048576 (length bytes)) (chars.codes "LONG\n") (verdict_text (λ set. tape_text set wanted) (verdict bytes))
