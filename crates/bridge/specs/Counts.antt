-- Lines and blocks that are read only to be counted.
use Rattle.std.specs.Prelude.{ℕ, cond, List, fold, length, sum_by, Some, None, Ok, Err, Option, nat_lt}
use Rattle.deck.specs.Answers.{filled}
use Rattle.deck.specs.Tape.{Block, written, mark, bad, TapeSet, look}
use Rattle.image.specs.Stored.{Verdict}
use Rattle.reader.specs.Bodies.{Delivery, line_answer, buffer_after, accepted_by}
use Rattle.survey.specs.Surveys.{surveyed}
use Rattle.machine.specs.declared.accepted.Accepted.{Accepted}
use Rattle.bridge.specs.Answers.{opened}
use Rattle.bridge.specs.Shows.{piled}
use Rattle.bridge.specs.declared.counts.WantedBlock.{WantedBlock}
use Rattle.bridge.specs.declared.counts.WantedLine.{WantedLine}

-- What a reader remembers after so many surveys.
abbrev pub after_surveys : ℕ → TapeSet → Option Accepted
after_surveys n set = cond (nat_lt 0 n) (accepted_by (surveyed set)) None

abbrev pub one_if : Delivery → ℕ
one_if (Ok body) = 1
one_if (Err n) = 0

-- How many of some lines are delivered into a buffer of some length.
abbrev pub delivered_of : TapeSet → Option Accepted → ℕ → List WantedLine → ℕ
delivered_of set m room ls = sum_by (λ l. one_if (line_answer set m l.band l.line room)) ls

-- The buffer after some lines, each put at its front.
abbrev pub after_lines : TapeSet → Option Accepted → ℕ → List WantedLine → List ℕ → List ℕ
after_lines set m room ls buffer = fold (λ b l. buffer_after (line_answer set m l.band l.line room) b) buffer ls

abbrev pub one_if_record : Option Block → ℕ
one_if_record None = 0
one_if_record (Some (written bytes)) = 1
one_if_record (Some mark) = 0
one_if_record (Some bad) = 0

-- How many of some blocks are records.
abbrev pub records_of : TapeSet → List WantedBlock → ℕ
records_of set bs = sum_by (λ b. one_if_record (look set b.reel b.block)) bs

-- The buffer after some blocks were fetched into it.
abbrev pub after_blocks : TapeSet → List WantedBlock → List ℕ → List ℕ
after_blocks set bs buffer = fold (λ b w. filled (look set w.reel w.block) b) buffer bs

-- A count, and the buffer afterwards.
pub record Counted : Type 0 where
  pub count : ℕ
  pub buffer : List ℕ

abbrev pub counting : ℕ → List ℕ → Counted
counting n buffer = record { count = n; buffer = buffer }

abbrev pub lines_of : ℕ → List WantedLine → List ℕ → TapeSet → Counted
lines_of surveys ls buffer set =
    let m = after_surveys surveys set in
    record { count = delivered_of set m (length buffer) ls; buffer = after_lines set m (length buffer) ls buffer }

abbrev pub blocks_of : List WantedBlock → List ℕ → TapeSet → Counted
blocks_of bs buffer set = record { count = records_of set bs; buffer = after_blocks set bs buffer }

-- Of an image that does not open nothing is counted.
abbrev pub counted : (TapeSet → Counted) → List ℕ → Verdict TapeSet → Counted
counted count buffer (Ok set) = count set
counted count buffer (Err e) = record { count = 0; buffer = buffer }

abbrev pub lines_in : ℕ → List ℕ → ℕ → List WantedLine → List ℕ → Counted
lines_in form bytes surveys ls buffer = counted (lines_of surveys ls buffer) buffer (opened form bytes)

-- Blocks are counted through turners piled on the image.
abbrev pub blocks_through : ℕ → List WantedBlock → List ℕ → TapeSet → Counted
blocks_through turners bs buffer set = blocks_of bs buffer (piled turners set)

abbrev pub blocks_in : ℕ → ℕ → List ℕ → List WantedBlock → List ℕ → Counted
blocks_in form turners bytes bs buffer = counted (blocks_through turners bs buffer) buffer (opened form bytes)
