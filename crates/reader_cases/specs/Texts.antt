-- What is printed of an answer.
use Rattle.std.specs.Prelude.{ℕ, List, ◌++◌, codes, decimal}
use Rattle.records.specs.declared.layout.Correction.{Correction}
use Rattle.records.specs.declared.layout.Correction.TheVariants.{Corrected, Uncorrected}
use Rattle.records.specs.declared.layout.Sensor.{Sensor}
use Rattle.records.specs.declared.layout.Sensor.TheVariants.{Mss, Rbv}
use Rattle.survey.specs.Surveys.{Fault}
use Rattle.reader.specs.declared.call.Answer.{Answer}
use Rattle.reader.specs.declared.call.Answer.TheVariants as answers
use Rattle.reader.specs.declared.call.Outline.{Outline}

-- The letters of sensor and correction, as on tape.
abbrev pub sensor_text : Sensor → List ℕ
sensor_text Mss = codes "M"
sensor_text Rbv = codes "R"

abbrev pub correction_text : Correction → List ℕ
correction_text Corrected = codes "CP"
correction_text Uncorrected = codes "CA"

-- A summary: sensor, mission, correction, number of bands, lines.
abbrev pub summary_text : Outline → List ℕ
summary_text o =
    codes "set " ++ (sensor_text o.sensor ++ (codes " " ++ (decimal o.mission ++ (codes " " ++ (correction_text o.correction ++ (codes " " ++ (decimal o.bands ++ (codes " " ++ decimal o.lines))))))))

abbrev pub answer_text : Answer → List ℕ
answer_text (answers.Outline o) = summary_text o
answer_text (answers.Code c) = codes "code " ++ decimal c
answer_text (answers.Delivered n) = codes "delivered " ++ decimal n
answer_text (answers.Tally n) = codes "tally " ++ decimal n

-- A refusal: number, layer, reel and block.
abbrev pub refusal_text : Fault → List ℕ
refusal_text (number, layer, reel, block) = codes "refused " ++ (decimal number ++ (codes " " ++ (decimal layer ++ (codes " " ++ (decimal reel ++ (codes " " ++ decimal block))))))
