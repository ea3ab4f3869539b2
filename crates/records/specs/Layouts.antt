-- The numbers of a layout.
use Rattle.std.specs.Prelude.{ℕ, ◌+◌, cond, List, ◌==◌}
use lib.Chars as chars
use Rattle.records.specs.declared.layout.Correction.{Correction}
use Rattle.records.specs.declared.layout.Correction.TheVariants.{Corrected, Uncorrected}
use Rattle.records.specs.declared.layout.Form.{Form}
use Rattle.records.specs.declared.layout.Form.TheVariants.{Interleaved, Sequential, Vidicon}
use Rattle.records.specs.declared.layout.Layout.{Layout}
use Rattle.records.specs.declared.layout.Sensor.{Sensor}
use Rattle.records.specs.declared.layout.Sensor.TheVariants.{Mss, Rbv}

-- The letters by which a directory names the instrument and the correction.
abbrev pub sensor_text : Sensor → List ℕ
sensor_text Mss = chars.codes "M"
sensor_text Rbv = chars.codes "R"

abbrev pub correction_text : Correction → List ℕ
correction_text Corrected = chars.codes "CP"
correction_text Uncorrected = chars.codes "CA"

abbrev pub sensor_in : Form → Sensor
sensor_in Interleaved = Mss
sensor_in Sequential = Mss
sensor_in Vidicon = Rbv

-- The length of every record but a directory.
abbrev pub record_length : Form → ℕ
record_length Interleaved = 3596
record_length Sequential = 3596
record_length Vidicon = 5388

-- The byte by which directory and header tell the order of lines.
abbrev pub order_byte : Form → ℕ
order_byte Interleaved = 255
order_byte Sequential = 0
order_byte Vidicon = 0

-- Ancillary records of a group: none where it is corrected.
abbrev pub ancillaries_of : Correction → Sensor → ℕ
ancillaries_of Corrected s = 0
ancillaries_of Uncorrected Mss = 26
ancillaries_of Uncorrected Rbv = 30

abbrev pub ancillaries : Layout → ℕ
ancillaries l = ancillaries_of l.correction (sensor_in l.form)

-- Annotation records of a group.
abbrev pub annotations : Correction → ℕ
annotations Corrected = 1
annotations Uncorrected = 2

-- Records of an attributes file: the header and these.
abbrev pub attributes : Layout → ℕ
attributes l = 1 + ancillaries l + annotations l.correction

-- Bands that the mission's scanner has, present or not.
abbrev pub stride : Layout → ℕ
stride l = cond (l.mission == 3) 5 4
