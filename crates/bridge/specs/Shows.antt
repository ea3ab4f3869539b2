-- Blocks as a deck shows them, in numbers.
use Rattle.std.specs.Prelude.{ℕ, cond, List, [], ◌∷◌, length, replicate, Some, None, Ok, Err, Option, Result, ◌==◌}
use Rattle.std.specs.List.{flat_map}
use Rattle.deck.specs.Answers.{kind_of, fetched, filled}
use Rattle.deck.specs.Tape.{TapeSet, look}
use Rattle.deck.specs.declared.Kind.{Kind}
use Rattle.deck.specs.declared.Kind.TheVariants.{Record, Mark, Bad}
use Rattle.deck.specs.declared.Short.{Short}
use Rattle.image.specs.Stored.{Verdict}
use Rattle.turner.specs.Shown.{turned}
use Rattle.bridge.specs.Answers.{Sent, unopened, opened}
use Rattle.bridge.specs.declared.show.Fetch.{Fetch}

-- A kind by its number: 1 a record, with its length, 2 a mark, 3 bad, 0 none; and 4 for a buffer that is too short.
abbrev pub kind_number : Option (Kind ℕ) → ℕ × ℕ
kind_number (Some (Record n)) = (1, n)
kind_number (Some Mark) = (2, 0)
kind_number (Some Bad) = (3, 0)
kind_number None = (0, 0)

abbrev pub fetch_number : Result (Option (Kind ℕ)) Short → ℕ × ℕ
fetch_number (Ok kind) = kind_number kind
fetch_number (Err e) = (4, 0)

abbrev pub four : ℕ × ℕ → ℕ × ℕ → List ℕ
four a b = a.0 ∷ a.1 ∷ b.0 ∷ b.1 ∷ []

-- What `kind` and `fetch` say of a block, and the buffer after the fetch.
abbrev pub words_of : TapeSet → Fetch → List ℕ
words_of set f = four (kind_number (kind_of (look set f.reel f.block))) (fetch_number (fetched (look set f.reel f.block) f.room))

abbrev pub buffer_of : TapeSet → Fetch → List ℕ
buffer_of set f = filled (look set f.reel f.block) (replicate f.room 165)

abbrev pub words_all : TapeSet → List Fetch → List ℕ
words_all set fs = flat_map (words_of set) fs

abbrev pub buffers_all : TapeSet → List Fetch → List ℕ
buffers_all set fs = flat_map (buffer_of set) fs

-- The number of reels, then four words for each block; and the buffers.
abbrev pub sent_of : TapeSet → List Fetch → Sent
sent_of set fs = record { words = length set ∷ words_all set fs; buffers = buffers_all set fs }

-- The set that turners piled on it show: none, one, or for any other number two.
abbrev pub piled : ℕ → TapeSet → TapeSet
piled turners set = cond (turners == 0) set (cond (turners == 1) (turned set) (turned (turned set)))

abbrev pub shown_by : ℕ → List Fetch → Verdict TapeSet → Sent
shown_by turners fs (Ok set) = sent_of (piled turners set) fs
shown_by turners fs (Err (n, place)) = record { words = unopened n place; buffers = [] }

-- What an image shows through turners, or its refusal.
abbrev pub shown : ℕ → ℕ → List ℕ → List Fetch → Sent
shown form turners bytes fs = shown_by turners fs (opened form bytes)
