-- Calls in numbers.
use Rattle.std.specs.Prelude.{cond, replicate, ◌==◌}
use Rattle.reader.specs.declared.call.Call.{Call}
use Rattle.reader.specs.declared.call.Call.TheVariants.{Survey, Band, Ident, Line, Sheet, Tally}
use Rattle.witness.specs.Replies.{Question}
use Rattle.bridge.specs.declared.ask.Ask.{Ask}

-- Which call is asked: 1 survey, 2 band, 3 ident, 4 line, 5 sheet, any other tally.
abbrev pub call_of : Ask → Call
call_of a =
    cond (a.what == 1) Survey
    (cond (a.what == 2) (Band a.number)
    (cond (a.what == 3) Ident
    (cond (a.what == 4) (Line a.band a.number)
    (cond (a.what == 5) (Sheet a.band a.kind a.number) Tally))))

-- The call with its buffer, which is filled with one byte.
abbrev pub question : Ask → Question
question a = (call_of a, replicate a.room 165)
