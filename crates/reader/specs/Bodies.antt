-- What a call delivers, from the set on the deck and what the reader remembers.
use Rattle.std.specs.Prelude.{ℕ, ◌+◌, ◌-◌, cond, ◌&&◌, List, ◌++◌, length, drop, Some, None, Ok, Err, Option, Result, ◌==◌, nat_le, nat_lt}
use Rattle.deck.specs.Tape.{Block, written, mark, bad, TapeSet, from_one, look}
use Rattle.records.specs.Bands.{no_bands}
use Rattle.records.specs.Layouts.{sensor_in, record_length}
use Rattle.records.specs.declared.bands.Bands.{Bands}
use Rattle.records.specs.declared.layout.Form.{Form}
use Rattle.machine.specs.declared.accepted.Accepted.{Accepted}
use Rattle.survey.specs.Surveys.{Fault}
use Rattle.reader.specs.Finding.{codes, band_file, line_spot, sheet_spot}
use Rattle.reader.specs.Refusals.{caller, caller_number, told_refusal}
use Rattle.reader.specs.declared.call.Outline.{Outline}
use Rattle.reader.specs.declared.places.BandFile.{BandFile}
use Rattle.reader.specs.declared.places.Spot.{Spot}
use Rattle.reader.specs.declared.refusal.CallerFault.{CallerFault}
use Rattle.reader.specs.declared.refusal.Refusal.{Refusal}

-- A delivery: the bytes, or the number of a refusal.
abbrev pub Delivery : Type 0
Delivery = Result (List ℕ) ℕ

-- The body of a record of some length, from its seventh byte on; anything else cannot be read.
abbrev pub body_of : ℕ → Option Block → Delivery
body_of size None = Err 46
body_of size (Some (written xs)) = cond (length xs == size) (Ok (drop 6 xs)) (Err 46)
body_of size (Some mark) = Err 46
body_of size (Some bad) = Err 46

-- The block at a spot, and the length of a record.
abbrev pub shown_at : TapeSet → Option Spot → Option Block
shown_at set None = None
shown_at set (Some s) = look set s.reel s.block

abbrev pub length_of : Option Block → Option ℕ
length_of None = None
length_of (Some (written xs)) = Some (length xs)
length_of (Some mark) = None
length_of (Some bad) = None

abbrev pub body_at : TapeSet → Option Spot → ℕ → Delivery
body_at set None size = Err 46
body_at set (Some s) size = body_of size (look set s.reel s.block)

-- It answers its length, the buffer's other bytes remain, and a refusal writes none.
abbrev pub told_delivery : Delivery → Result ℕ Fault
told_delivery (Ok body) = Ok (length body)
told_delivery (Err n) = Err (caller n)

abbrev pub buffer_after : Delivery → List ℕ → List ℕ
buffer_after (Ok body) buffer = body ++ drop (length body) buffer
buffer_after (Err n) buffer = buffer

abbrev pub told : {X : Type 0} → Result X Refusal → Result X Fault
told (Ok x) = Ok x
told (Err e) = Err (told_refusal e)

abbrev pub told_caller : {X : Type 0} → Result X CallerFault → Result X Fault
told_caller (Ok x) = Ok x
told_caller (Err e) = Err (caller (caller_number e))

-- The body of a record of a form, into a buffer of some length: 45, then 46.
abbrev pub body_into : TapeSet → Option Spot → Form → ℕ → Delivery
body_into set p form room = cond (nat_lt room (record_length form - 6)) (Err 45) (body_at set p (record_length form))

-- Line n of a band: 41, 42, 43, 45 and 46 in this order.
abbrev pub line_in : TapeSet → Accepted → Option BandFile → ℕ → ℕ → Delivery
line_in set a None n room = Err 42
line_in set a (Some f) n room =
    cond (nat_le 1 n && nat_le n a.summary.lines)
    (body_into set (line_spot f a.summary.layout n) a.summary.layout.form room)
    (Err 43)

abbrev pub line_answer : TapeSet → Option Accepted → ℕ → ℕ → ℕ → Delivery
line_answer set None band n room = Err 41
line_answer set (Some a) band n room = line_in set a (band_file a band) n room

-- A sheet of a band, by kind and index: 41, 42, 44 and 45 in this order.
abbrev pub sheet_read : TapeSet → Accepted → Option Spot → ℕ → Delivery
sheet_read set a None room = Err 44
sheet_read set a (Some s) room = body_into set (Some s) a.summary.layout.form room

abbrev pub sheet_in : TapeSet → Accepted → Option BandFile → ℕ → ℕ → ℕ → Delivery
sheet_in set a None kind index room = Err 42
sheet_in set a (Some f) kind index room = sheet_read set a (sheet_spot f.group a.summary.layout kind index) room

abbrev pub sheet_answer : TapeSet → Option Accepted → ℕ → ℕ → ℕ → ℕ → Delivery
sheet_answer set None band kind index room = Err 41
sheet_answer set (Some a) band kind index room = sheet_in set a (band_file a band) kind index room

-- The identification: 41, then 45.
abbrev pub ident_answer : Option Accepted → ℕ → Delivery
ident_answer None room = Err 41
ident_answer (Some a) room = cond (nat_lt room 18) (Err 45) (Ok a.summary.ident)

-- The k-th band present, k from 1: 41, then 42.
abbrev pub code_of : Option ℕ → Result ℕ Fault
code_of None = Err (caller 42)
code_of (Some c) = Ok c

abbrev pub band_answer : Option Accepted → ℕ → Result ℕ Fault
band_answer None k = Err (caller 41)
band_answer (Some a) k = code_of (from_one (codes a) k)

-- The bands present: none where nothing is accepted.
abbrev pub bands_of : Option Accepted → Bands
bands_of None = no_bands
bands_of (Some a) = a.summary.bands

-- What a survey answers: sensor, mission, correction, the number of bands present, and the lines of each.
abbrev pub outline : Accepted → Outline
outline a = record {
  sensor = sensor_in a.summary.layout.form;
  mission = a.summary.layout.mission;
  correction = a.summary.layout.correction;
  bands = length (codes a);
  lines = a.summary.lines;
}

abbrev pub survey_answer : Result Accepted Fault → Result Outline Fault
survey_answer (Ok a) = Ok (outline a)
survey_answer (Err f) = Err f

-- What is remembered after a survey: its outcome.
abbrev pub accepted_by : Result Accepted Fault → Option Accepted
accepted_by (Ok a) = Some a
accepted_by (Err f) = None

-- The tally after a line was asked for: one more where it was delivered. It stands still at 2^63 - 1.
abbrev pub raised : Delivery → ℕ → ℕ
raised (Ok body) tally = cond (nat_lt tally 9223372036854775807) (tally + 1) tally
raised (Err n) tally = tally
