-- What a call answers after other calls, told by what these did to the set's reader: whether a survey was among them, and how many lines they
-- delivered.
use Rattle.std.specs.Prelude.{ℕ, ◌+◌, min, Bool, true, false, cond, ◌||◌, List, [], ◌∷◌, ◌++◌, length, None, Ok, Err, vec_items, Option}
use Rattle.deck.specs.Tape.{TapeSet}
use Rattle.machine.specs.declared.accepted.Accepted.{Accepted}
use Rattle.survey.specs.Surveys.{surveyed}
use Rattle.reader.specs.Answers.{Told, Memory, Outcome, answer, told_answer}
use Rattle.reader.specs.Bodies.{Delivery, line_answer, accepted_by}
use Rattle.reader.specs.declared.call.Call.{Call}
use Rattle.reader.specs.declared.call.Call.TheVariants.{Survey, Band, Ident, Line, Sheet, Tally}
use Rattle.witness.specs.declared.calls.Answered.{Answered}
use Rattle.witness.specs.declared.calls.Asked.{Asked}

-- A call, with the bytes of its buffer beforehand.
abbrev pub Question : Type 0
Question = Call × List ℕ

-- An answer, with the bytes of the buffer afterwards.
abbrev pub Reply : Type 0
Reply = Told × List ℕ

abbrev pub is_survey : Call → Bool
is_survey Survey = true
is_survey (Band k) = false
is_survey Ident = false
is_survey (Line band n) = false
is_survey (Sheet band kind index) = false
is_survey Tally = false

-- A survey was among the calls.
abbrev pub has_survey : List Question → Bool
has_survey [] = false
has_survey (q ∷ qs) = is_survey q.0 || has_survey qs

-- What is accepted after some calls: nothing, unless one of them was a survey and the set is accepted.
abbrev pub accepted_after : TapeSet → List Question → Option Accepted
accepted_after set past = cond (has_survey past) (accepted_by (surveyed set)) None

-- 1 for a line that is delivered after some calls, else 0.
abbrev pub one_if : Delivery → ℕ
one_if (Ok body) = 1
one_if (Err n) = 0

abbrev pub delivers : TapeSet → List Question → Call → ℕ → ℕ
delivers set past Survey room = 0
delivers set past (Band k) room = 0
delivers set past Ident room = 0
delivers set past (Line band n) room = one_if (line_answer set (accepted_after set past) band n room)
delivers set past (Sheet band kind index) room = 0
delivers set past Tally room = 0

-- How many lines some calls deliver that come after others.
abbrev pub lines_behind : TapeSet → List Question → List Question → ℕ
lines_behind set past [] = 0
lines_behind set past (q ∷ qs) = delivers set past q.0 (length q.1) + lines_behind set (past ++ q ∷ []) qs

-- What a fresh reader over the set remembers after some calls. The tally stands still at 2^63 - 1.
abbrev pub remembered : TapeSet → List Question → Memory
remembered set past = record { accepted = accepted_after set past; tally = min (lines_behind set [] past) 9223372036854775807 }

abbrev pub reply_of : Outcome → Reply
reply_of o = (o.said, o.buffer)

-- What a call answers after the calls `past` to a fresh reader, with every byte of its buffer.
abbrev pub reply : TapeSet → List Question → Question → Reply
reply set past q = reply_of (answer set (remembered set past) q.0 q.1)

-- A list of calls, each answered after those before it.
abbrev pub replies_behind : TapeSet → List Question → List Question → List Reply
replies_behind set past [] = []
replies_behind set past (q ∷ qs) = reply set past q ∷ replies_behind set (past ++ q ∷ []) qs

abbrev pub replies : TapeSet → List Question → List Reply
replies set qs = replies_behind set [] qs

-- The code's calls and answers as these.
abbrev pub asked : Asked → Question
asked a = (a.call, vec_items a.buffer)

abbrev pub answered : Answered → Reply
answered a = (told_answer a.answer, vec_items a.buffer)
