-- What any call answers, from the set on the deck and what the reader remembers.
use Rattle.std.specs.Prelude.{ℕ, List, length, None, Ok, Err, Option, Result}
use Rattle.deck.specs.Tape.{TapeSet}
use Rattle.records.specs.declared.layout.Correction.{Correction}
use Rattle.records.specs.declared.layout.Correction.TheVariants.{Corrected, Uncorrected}
use Rattle.records.specs.declared.layout.Sensor.{Sensor}
use Rattle.records.specs.declared.layout.Sensor.TheVariants.{Mss, Rbv}
use Rattle.machine.specs.declared.accepted.Accepted.{Accepted}
use Rattle.survey.specs.Surveys.{Fault, surveyed}
use Rattle.reader.specs.Bodies.{told_delivery, buffer_after, raised, line_answer, sheet_answer, ident_answer, band_answer, survey_answer, accepted_by}
use Rattle.reader.specs.Refusals.{told_refusal}
use Rattle.reader.specs.declared.call.Answer.{Answer}
use Rattle.reader.specs.declared.call.Answer.TheVariants as answers
use Rattle.reader.specs.declared.call.Call.{Call}
use Rattle.reader.specs.declared.call.Call.TheVariants as calls
use Rattle.reader.specs.declared.call.Outline.{Outline}
use Rattle.reader.specs.declared.reading.Reader.{Reader}
use Rattle.reader.specs.declared.refusal.Refusal.{Refusal}

-- An answer in numbers: a summary (the sensor's letter M or R, the mission, the correction's letter P or A, bands, lines), a band's code,
-- the length of a delivery, a tally, or a refusal with all that it returns.
pub data Told : Type 0 where
  summary : ℕ → ℕ → ℕ → ℕ → ℕ → Told
  code : ℕ → Told
  delivered : ℕ → Told
  counted : ℕ → Told
  refused : Fault → Told

abbrev pub sensor_letter : Sensor → ℕ
sensor_letter Mss = 77
sensor_letter Rbv = 82

abbrev pub correction_letter : Correction → ℕ
correction_letter Corrected = 80
correction_letter Uncorrected = 65

abbrev pub outlined : Outline → Told
outlined o = summary (sensor_letter o.sensor) o.mission (correction_letter o.correction) o.bands o.lines

abbrev pub told_answer : Result Answer Refusal → Told
told_answer (Ok (answers.Outline o)) = outlined o
told_answer (Ok (answers.Code c)) = code c
told_answer (Ok (answers.Delivered n)) = delivered n
told_answer (Ok (answers.Tally n)) = counted n
told_answer (Err e) = refused (told_refusal e)

-- The same of each call's own outcome.
abbrev pub told_by : {X : Type 0} → (X → Told) → Result X Fault → Told
told_by f (Ok x) = f x
told_by f (Err e) = refused e

-- What a reader remembers: what its last survey accepted, and the tally. A fresh reader remembers nothing.
pub record Memory : Type 0 where
  pub accepted : Option Accepted
  pub tally : ℕ

abbrev pub fresh : Memory
fresh = record { accepted = None; tally = 0 }

-- A call's outcome: what is said, the buffer afterwards, and what is remembered afterwards.
pub record Outcome : Type 0 where
  pub said : Told
  pub buffer : List ℕ
  pub memory : Memory

abbrev pub answer : TapeSet → Memory → Call → List ℕ → Outcome
answer set m calls.Survey buffer =
    record { said = told_by outlined (survey_answer (surveyed set)); buffer = buffer; memory = record { accepted = accepted_by (surveyed set); tally = m.tally } }
answer set m (calls.Band k) buffer = record { said = told_by code (band_answer m.accepted k); buffer = buffer; memory = m }
answer set m calls.Ident buffer =
    let d = ident_answer m.accepted (length buffer) in
    record { said = told_by delivered (told_delivery d); buffer = buffer_after d buffer; memory = m }
answer set m (calls.Line band n) buffer =
    let d = line_answer set m.accepted band n (length buffer) in
    record { said = told_by delivered (told_delivery d); buffer = buffer_after d buffer; memory = record { accepted = m.accepted; tally = raised d m.tally } }
answer set m (calls.Sheet band kind index) buffer =
    let d = sheet_answer set m.accepted band kind index (length buffer) in
    record { said = told_by delivered (told_delivery d); buffer = buffer_after d buffer; memory = m }
answer set m calls.Tally buffer = record { said = counted m.tally; buffer = buffer; memory = m }

abbrev pub remembering : Option Accepted → ℕ → Memory
remembering a t = record { accepted = a; tally = t }

-- What a reader remembers, and the outcome of a call that it has answered.
abbrev pub memory_of : {D : Type 0} → Reader D → Memory
memory_of r = remembering r.accepted r.tally

abbrev pub outcome_of : {D : Type 0} → Result Answer Refusal → List ℕ → Reader D → Outcome
outcome_of result buffer r = record { said = told_answer result; buffer = buffer; memory = memory_of r }
