-- The number of each fault, and of its layer.
use Rattle.std.specs.Prelude.{ℕ}
use Rattle.records.specs.declared.fault.Cause.{Cause}
use Rattle.records.specs.declared.fault.Cause.TheVariants.{Deck, Record, Set}
use Rattle.records.specs.declared.fault.DeckFault.{DeckFault}
use Rattle.records.specs.declared.fault.DeckFault.TheVariants as decks
use Rattle.records.specs.declared.fault.RecordFault.{RecordFault}
use Rattle.records.specs.declared.fault.RecordFault.TheVariants as records
use Rattle.records.specs.declared.fault.SetFault.{SetFault}
use Rattle.records.specs.declared.fault.SetFault.TheVariants as sets

abbrev pub deck_number : DeckFault → ℕ
deck_number decks.Absent = 11
deck_number decks.Bad = 12

abbrev pub record_number : RecordFault → ℕ
record_number records.MarkForRecord = 21
record_number records.RecordForMark = 22
record_number records.Length = 23
record_number records.FifthByte = 24
record_number records.Type = 25
record_number records.Number = 26

abbrev pub set_number : SetFault → ℕ
set_number sets.Directory = 31
set_number sets.OtherDirectory = 32
set_number sets.Header = 33
set_number sets.Bands = 34
set_number sets.Lines = 35
set_number sets.MissingBand = 36
set_number sets.Finish = 37
set_number sets.BehindEnd = 38

abbrev pub number : Cause → ℕ
number (Deck f) = deck_number f
number (Record f) = record_number f
number (Set f) = set_number f

abbrev pub layer : Cause → ℕ
layer (Deck f) = 1
layer (Record f) = 2
layer (Set f) = 3
