-- What a refused call returns: its number, and its layer, reel and block, which are 0 where the caller is at fault.
use Rattle.std.specs.Prelude.{ℕ}
use Rattle.survey.specs.Surveys.{Fault, told_fault}
use Rattle.reader.specs.declared.refusal.CallerFault.{CallerFault}
use Rattle.reader.specs.declared.refusal.CallerFault.TheVariants.{NotAccepted, Band, Line, Sheet, Buffer, Unreadable}
use Rattle.reader.specs.declared.refusal.Refusal.{Refusal}
use Rattle.reader.specs.declared.refusal.Refusal.TheVariants.{Tape, Caller}

abbrev pub caller_number : CallerFault → ℕ
caller_number NotAccepted = 41
caller_number Band = 42
caller_number Line = 43
caller_number Sheet = 44
caller_number Buffer = 45
caller_number Unreadable = 46

abbrev pub caller : ℕ → Fault
caller n = (n, 0, 0, 0)

abbrev pub told_refusal : Refusal → Fault
told_refusal (Tape f) = told_fault f
told_refusal (Caller f) = caller (caller_number f)
