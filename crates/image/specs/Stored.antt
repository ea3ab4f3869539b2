-- What both images share: kind words, and the numbers of their refusals.
use Rattle.std.specs.Prelude.{◌≡◌, ℕ, ◌≤◌, true, cond, List, [], length, take, is_ok, Some, None, Ok, Err, Option, Result, ◌==◌, nat_le, refl}
use Rattle.std.proofs.lemmas.Bool.{false≢true}
use Rattle.deck.specs.Tape.{Block, written, mark, bad, TapeSet}
use Rattle.image.specs.declared.refusal.Cause.{Cause}
use Rattle.image.specs.declared.refusal.Cause.TheVariants.{CutShort, IllegalWord, OverLimit, OutsideImage}
use Rattle.image.specs.declared.refusal.Refusal.{Refusal}
use Rattle.deck.specs.declared.Kind.{Kind}
use Rattle.deck.specs.declared.Kind.TheVariants.{Record, Mark, Bad}

-- The number of each refusal.
abbrev pub number : Cause → ℕ
number CutShort = 1
number IllegalWord = 2
number OverLimit = 3
number OutsideImage = 4

-- A result, or the number of a refusal and the place of its word in the image.
abbrev pub Verdict : Type 0 → Type 0
Verdict X = Result X (ℕ × ℕ)

abbrev pub numbered : {X : Type 0} → Result X Refusal → Verdict X
numbered (Ok x) = Ok x
numbered (Err e) = Err (number e.cause, e.offset)

-- The set of a verdict, and no reels where it refuses.
abbrev pub set_of : Verdict TapeSet → TapeSet
set_of (Ok set) = set
set_of (Err _) = []

-- A verdict that is a set is that of its own set.
pub is_set : (v : Verdict TapeSet) → is_ok v ≡ true → v ≡ Ok (set_of v)
is_set (Ok set) e = refl
is_set (Err e) h = absurd (false≢true h)

-- What a kind word says: 0 a mark, 4,294,967,295 a bad block, 1 to 5,388 a record of that length, and nothing else.
abbrev pub stored : ℕ → Option (Kind ℕ)
stored w = cond (w == 0) (Some Mark) (cond (w == 4294967295) (Some Bad) (cond (nat_le w 5388) (Some (Record w)) None))

-- The block that is so stored, where a record's bytes begin some bytes.
abbrev pub block : Kind ℕ → List ℕ → Block
block (Record n) xs = written (take n xs)
block Mark xs = mark
block Bad xs = bad

-- How a block is stored.
abbrev pub stored_as : Block → Kind ℕ
stored_as (written bytes) = Record (length bytes)
stored_as mark = Mark
stored_as bad = Bad

-- A record within the limit of its length.
abbrev pub Short : Kind ℕ → Type 0
Short (Record n) = n ≤ 5388
Short Mark = Unit {0}
Short Bad = Unit {0}
