-- What calls answer over an accepted set, told by its picture and its sheets.
use Rattle.std.specs.Prelude.{◌≡◌, ℕ, ◌+◌, min, Bool, true, false, List, [], ◌∷◌, ◌++◌, map, length, Err}
use Rattle.deck.specs.Tape.{TapeSet, from_one}
use Rattle.survey.specs.Laws.{Judged}
use Rattle.survey.specs.Pictures.{Picture, Sheets, picture, sheets}
use Rattle.survey.specs.Recordings.{Recording, written_as}
use Rattle.survey.specs.Surveys.{Fault, surveyed}
use Rattle.survey.specs.Validity.{Valid}
use Rattle.reader.specs.Answers.{Told, summary, code, delivered, counted, refused, sensor_letter, correction_letter, told_by}
use Rattle.reader.specs.Bodies.{Delivery, told_delivery, buffer_after, code_of}
use Rattle.reader.specs.Pictured.{pictured_line, pictured_sheet, pictured_ident}
use Rattle.reader.specs.Refusals.{caller}
use Rattle.reader.specs.declared.call.Call.{Call}
use Rattle.reader.specs.declared.call.Call.TheVariants.{Survey, Band, Ident, Line, Sheet, Tally}
use Rattle.witness.specs.Replies.{Question, Reply, has_survey, one_if}

-- 41 before anything else where no survey has come.
abbrev pub if_known : Bool → Delivery → Delivery
if_known true d = d
if_known false d = Err 41

abbrev pub code_if_known : Bool → Picture → ℕ → Told
code_if_known true p k = told_by code (code_of (from_one p.codes k))
code_if_known false p k = refused (caller 41)

abbrev pub delivery : Delivery → List ℕ → Reply
delivery d buffer = (told_by delivered (told_delivery d), buffer_after d buffer)

abbrev pub outline_of : Picture → Told
outline_of p = summary (sensor_letter p.sensor) p.mission (correction_letter p.correction) (length p.codes) p.lines

-- What one call answers: by whether a survey came before it, by the tally, the picture and the sheets.
abbrev pub pictured : Picture → List Sheets → Bool → ℕ → Call → List ℕ → Reply
pictured p s known tally Survey buffer = (outline_of p, buffer)
pictured p s known tally (Band k) buffer = (code_if_known known p k, buffer)
pictured p s known tally Ident buffer = delivery (if_known known (pictured_ident p (length buffer))) buffer
pictured p s known tally (Line band n) buffer = delivery (if_known known (pictured_line p band n (length buffer))) buffer
pictured p s known tally (Sheet band kind index) buffer = delivery (if_known known (pictured_sheet p s band kind index (length buffer))) buffer
pictured p s known tally Tally buffer = (counted tally, buffer)

-- The lines that calls deliver which come after others.
abbrev pub brings : Picture → Bool → Call → ℕ → ℕ
brings p known Survey room = 0
brings p known (Band k) room = 0
brings p known Ident room = 0
brings p known (Line band n) room = one_if (if_known known (pictured_line p band n room))
brings p known (Sheet band kind index) room = 0
brings p known Tally room = 0

abbrev pub lines_brought : Picture → List Question → List Question → ℕ
lines_brought p past [] = 0
lines_brought p past (q ∷ qs) = brings p (has_survey past) q.0 (length q.1) + lines_brought p (past ++ q ∷ []) qs

-- A call after others, and a list of calls, each after those before it. The tally stands still at 2^63 - 1.
abbrev pub pictured_reply : Picture → List Sheets → List Question → Question → Reply
pictured_reply p s past q = pictured p s (has_survey past) (min (lines_brought p [] past) 9223372036854775807) q.0 q.1

abbrev pub pictured_behind : Picture → List Sheets → List Question → List Question → List Reply
pictured_behind p s past [] = []
pictured_behind p s past (q ∷ qs) = pictured_reply p s past q ∷ pictured_behind p s (past ++ q ∷ []) qs

abbrev pub pictured_replies : Picture → List Sheets → List Question → List Reply
pictured_replies p s qs = pictured_behind p s [] qs

-- What calls answer over a set with a fault.
abbrev pub faulty : Fault → Question → Reply
faulty f (Survey, buffer) = (refused f, buffer)
faulty f (Band k, buffer) = (refused (caller 41), buffer)
faulty f (Ident, buffer) = (refused (caller 41), buffer)
faulty f (Line band n, buffer) = (refused (caller 41), buffer)
faulty f (Sheet band kind index, buffer) = (refused (caller 41), buffer)
faulty f (Tally, buffer) = (counted 0, buffer)

-- Replies over a set, in the layout's words. The survey judges rightly: there is a valid recording that is written as the set, or a fault. Where there
-- is one, the replies are those of its picture and its sheets; where there is a fault, only that is told.
pub record Shown (set : TapeSet) (qs : List Question) (rs : List Reply) : Type 0 where
  pub judges : Judged (surveyed set) set
  pub accepted : (r : Recording) → Valid r → written_as r ≡ set → rs ≡ pictured_replies (picture r) (sheets r) qs
  pub broken : (f : Fault) → surveyed set ≡ Err f → rs ≡ map (faulty f) qs
