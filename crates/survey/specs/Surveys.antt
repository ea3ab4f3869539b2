-- The survey of a set: its reels and blocks in order, until the first fault.
use Rattle.std.specs.Prelude.{ℕ, ◌+◌, ◌/◌, ◌≤◌, List, [], ◌∷◌, length, take, Some, None, Ok, Err, Option, Result}
use Rattle.deck.specs.Tape.{Block, written, mark, bad, Reel, TapeSet}
use Rattle.deck.specs.declared.Kind.{Kind}
use Rattle.deck.specs.declared.Kind.TheVariants as kinds
use Rattle.records.specs.Faults.{number, layer}
use Rattle.machine.specs.Findings.{place_of, start, accepted}
use Rattle.machine.specs.Machines.{step}
use Rattle.machine.specs.declared.accepted.Accepted.{Accepted}
use Rattle.machine.specs.declared.machine.Machine.{Machine}
use Rattle.machine.specs.declared.machine.Place.{Place}
use Rattle.survey.specs.declared.fault.TapeFault.{TapeFault}

-- A fault: its number, its layer, its reel and its block.
abbrev pub Fault : Type 0
Fault = ℕ × ℕ × ℕ × ℕ

-- The first digit of a fault's number is its layer.
abbrev pub fault_at : ℕ → Place → Fault
fault_at n at = (n, n / 10, at.reel, at.block)

abbrev pub placed : Place → Result Machine ℕ → Result Machine Fault
placed at (Ok m) = Ok m
placed at (Err n) = Err (fault_at n at)

abbrev pub then : {X Y : Type 0} → Result X Fault → (X → Result Y Fault) → Result Y Fault
then (Ok x) f = f x
then (Err e) f = Err e

-- The blocks of a reel from one on, and then its end.
abbrev pub feed_reel : Machine → ℕ → ℕ → Reel → Result Machine Fault
feed_reel m reel block [] = placed (place_of reel block) (step m (place_of reel block) None)
feed_reel m reel block (b ∷ bs) = then (placed (place_of reel block) (step m (place_of reel block) (Some b))) (λ n. feed_reel n reel (block + 1) bs)

-- The reels from one on.
abbrev pub feed : Machine → ℕ → TapeSet → Result Machine Fault
feed m reel [] = Ok m
feed m reel (r ∷ rs) = then (feed_reel m reel 1 r) (λ n. feed n (reel + 1) rs)

-- The survey: what an accepted set is, or the first fault in the order of the tape.
abbrev pub surveyed : TapeSet → Result Accepted Fault
surveyed set = then (feed (start (length set)) 1 set) (λ m. Ok (accepted m))

abbrev pub told_fault : TapeFault → Fault
told_fault f = (number f.cause, layer f.cause, f.reel, f.block)

abbrev pub told : Result Accepted TapeFault → Result Accepted Fault
told (Ok a) = Ok a
told (Err f) = Err (told_fault f)

abbrev pub told_step : {X : Type 0} → Result X TapeFault → Machine → Result Machine Fault
told_step (Ok x) m = Ok m
told_step (Err f) m = Err (told_fault f)

-- The block of a kind, where a record stands at the front of a buffer.
abbrev pub shown_in : Option (Kind ℕ) → List ℕ → Option Block
shown_in None xs = None
shown_in (Some (kinds.Record n)) xs = Some (written (take n xs))
shown_in (Some kinds.Mark) xs = Some mark
shown_in (Some kinds.Bad) xs = Some bad

-- A record is no longer than the buffer.
abbrev pub FitsIn : Option (Kind ℕ) → List ℕ → Type 0
FitsIn None xs = Unit {0}
FitsIn (Some (kinds.Record n)) xs = n ≤ length xs
FitsIn (Some kinds.Mark) xs = Unit {0}
FitsIn (Some kinds.Bad) xs = Unit {0}
