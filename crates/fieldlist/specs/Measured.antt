-- The fields of one line.
use Rattle.std.specs.Prelude.{ℕ, Bool, true, false, cond, List, [], ◌++◌, Some, None, Ok, Err, codes, decimal, Option}
use Rattle.deck.specs.Tape.{TapeSet}
use Rattle.records.specs.declared.layout.Correction.{Correction}
use Rattle.records.specs.declared.layout.Correction.TheVariants.{Corrected, Uncorrected}
use Rattle.records.specs.declared.layout.Sensor.{Sensor}
use Rattle.records.specs.declared.layout.Sensor.TheVariants.{Mss, Rbv}
use Rattle.machine.specs.declared.accepted.Accepted.{Accepted}
use Rattle.reader.specs.Bodies.{Delivery, line_answer}
use Rattle.reader.specs.declared.call.Outline.{Outline}
use Rattle.listing.specs.Tapes.{code_text}
use Rattle.fieldlist.specs.Records.{record_of, refused_line, image_lines}
use Rattle.fieldlist.specs.declared.measured.Wanted.{Wanted}

-- Only the uncorrected lines of the scanner have these fields.
abbrev pub measured : Sensor → Correction → Bool
measured Mss Corrected = false
measured Mss Uncorrected = true
measured Rbv Corrected = false
measured Rbv Uncorrected = false

-- How a line of a band is called.
abbrev pub line_name : ℕ → ℕ → List ℕ
line_name code n = codes "LINE " ++ (code_text code ++ (codes " " ++ decimal n))

-- The fields of what is delivered, which is of type octal 355. Where lines have none, the record is a wrong one.
abbrev pub delivered_line : List ℕ → Bool → Delivery → List ℕ
delivered_line subject has (Ok body) = cond has (image_lines subject (record_of 237 body)) (refused_line subject 48)
delivered_line subject has (Err n) = refused_line subject n

-- A line of a set that has this outline, as a reader that remembers `m` delivers it into a buffer of 5,382 bytes.
abbrev pub line_text : TapeSet → Option Accepted → Outline → Wanted → List ℕ
line_text set m o w = delivered_line (line_name w.band w.line) (measured o.sensor o.correction) (line_answer set m w.band w.line 5382)

-- The line that is wanted, if one is.
abbrev pub wanted_text : TapeSet → Option Accepted → Outline → Option Wanted → List ℕ
wanted_text set m o None = []
wanted_text set m o (Some w) = line_text set m o w
