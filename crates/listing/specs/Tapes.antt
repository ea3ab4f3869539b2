-- The listing of a tape set: what the survey says of it, and how many lines of each band can be read.
use Rattle.std.specs.Prelude.{ℕ, zero, suc, ◌+◌, cond, ◌&&◌, List, [], ◌∷◌, ◌++◌, Some, None, Ok, Err, decimal, Option, Result, nat_le}
use Rattle.std.specs.List.{flat_map}
use lib.Chars as chars
use Rattle.deck.specs.Tape.{TapeSet}
use Rattle.records.specs.declared.layout.Correction.{Correction}
use Rattle.records.specs.declared.layout.Correction.TheVariants.{Corrected, Uncorrected}
use Rattle.records.specs.declared.layout.Sensor.{Sensor}
use Rattle.records.specs.declared.layout.Sensor.TheVariants.{Mss, Rbv}
use Rattle.machine.specs.declared.accepted.Accepted.{Accepted}
use Rattle.survey.specs.Surveys.{Fault, surveyed}
use Rattle.reader.specs.Bodies.{Delivery, line_answer, outline}
use Rattle.reader.specs.Finding.{codes}
use Rattle.reader.specs.declared.call.Outline.{Outline}

-- The line of a fault: its number, layer, reel and block.
abbrev pub fault_text : Fault → List ℕ
fault_text (number, layer, reel, block) =
    chars.codes "FAULT " ++ (decimal number ++ (chars.codes " " ++ (decimal layer ++ (chars.codes " " ++ (decimal reel ++ (chars.codes " " ++ (decimal block ++ chars.codes "\n")))))))

abbrev pub sensor_text : Sensor → List ℕ
sensor_text Mss = chars.codes "M"
sensor_text Rbv = chars.codes "R"

abbrev pub correction_text : Correction → List ℕ
correction_text Corrected = chars.codes "CP"
correction_text Uncorrected = chars.codes "CA"

-- The line of an accepted set: sensor, mission, correction, the number of bands present, and the lines of each.
abbrev pub set_text : Outline → List ℕ
set_text o =
    chars.codes "SET "
    ++ (sensor_text o.sensor
    ++ (chars.codes " "
    ++ (decimal o.mission
    ++ (chars.codes " "
    ++ (correction_text o.correction ++ (chars.codes " " ++ (decimal o.bands ++ (chars.codes " " ++ (decimal o.lines ++ chars.codes "\n")))))))))

-- A band by its code: a vidicon's by the letter A to D, any other by the number.
abbrev pub code_text : ℕ → List ℕ
code_text code = cond (nat_le 65 code && nat_le code 68) (code ∷ []) (decimal code)

-- The line of a band, of which so many lines can be read.
abbrev pub band_text : ℕ → ℕ → List ℕ
band_text code count = chars.codes "BAND " ++ (code_text code ++ (chars.codes " " ++ (decimal count ++ chars.codes "\n")))

abbrev pub delivered : Delivery → ℕ
delivered (Ok body) = 1
delivered (Err n) = 0

-- How many of the lines 1 to n of a band a reader that remembers `m` delivers into a buffer of 5,382 bytes, which takes any body.
abbrev pub readable : TapeSet → Option Accepted → ℕ → ℕ → ℕ
readable set m code zero = 0
readable set m code (suc n) = readable set m code n + delivered (line_answer set m code (suc n) 5382)

-- The lines of some bands, each of so many lines.
abbrev pub bands_text : TapeSet → Option Accepted → ℕ → List ℕ → List ℕ
bands_text set m lines cs = flat_map (λ c. band_text c (readable set m c lines)) cs

-- What is written of some bands, one after another.
abbrev pub each : (ℕ → List ℕ) → List ℕ → List ℕ
each text cs = flat_map text cs

-- The codes of the bands that are remembered.
abbrev pub present : Option Accepted → List ℕ
present None = []
present (Some a) = codes a

-- What a survey's outcome is written as: the accepted set and its bands, or the fault.
abbrev pub survey_text : TapeSet → Result Accepted Fault → List ℕ
survey_text set (Ok a) = set_text (outline a) ++ bands_text set (Some a) a.summary.lines (codes a)
survey_text set (Err f) = fault_text f

abbrev pub tape_text : TapeSet → List ℕ
tape_text set = survey_text set (surveyed set)
