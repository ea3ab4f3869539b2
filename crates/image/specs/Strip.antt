-- The strip: a tape set written from its first block to its last.
use Rattle.std.specs.Prelude.{ℕ, zero, suc, ◌+◌, cond, ◌&&◌, List, [], ◌∷◌, ◌++◌, length, take, drop, Some, None, Ok, Err, Option, ◌==◌, nat_le, nat_lt, slice_index_or}
use Rattle.std.specs.List.{flat_map}
use Rattle.deck.specs.Tape.{Block, written, mark, bad, Reel, TapeSet}
use Rattle.deck.specs.Words.{word, value}
use Rattle.image.specs.Stored.{Verdict, set_of, stored, block}
use Rattle.deck.specs.declared.Kind.{Kind}
use Rattle.deck.specs.declared.Kind.TheVariants.{Record, Mark, Bad}
use Rattle.image.specs.declared.next.Next.{Next}
use Rattle.image.specs.declared.next.Next.TheVariants.{ReelEnds, Holds}

-- A block is its kind word; a record is followed by its bytes and the same word again.
abbrev pub block_bytes : Block → List ℕ
block_bytes (written bytes) = word (length bytes) ++ (bytes ++ word (length bytes))
block_bytes mark = word 0
block_bytes bad = word 4294967295

-- A reel is its blocks and then the word 4,294,967,294.
abbrev pub reel_bytes : Reel → List ℕ
reel_bytes reel = flat_map block_bytes reel ++ word 4294967294

-- A strip is its reels, one behind the other.
abbrev pub encoded : TapeSet → List ℕ
encoded set = flat_map reel_bytes set

-- How many bytes of a strip a block takes.
abbrev pub size : Kind ℕ → ℕ
size (Record n) = n + 8
size Mark = 4
size Bad = 4

-- The checks of one word, from the last to the first: at the place `at`, where `xs` are the bytes from there on, behind `reels` whole reels and
-- `blocks` blocks of the next. A check that fails is a refusal's number and place.

-- A record's bytes and its closing word fit, and that word is equal.
abbrev pub check_closed : ℕ → Kind ℕ → List ℕ → Verdict (Option Next)
check_closed at (Record n) xs =
    cond (nat_lt (length xs) (n + 8)) (Err (1, at)) (cond (value (drop (n + 4) xs) == n) (Ok (Some (Holds (Record n)))) (Err (2, at + (n + 4))))
check_closed at Mark xs = Ok (Some (Holds Mark))
check_closed at Bad xs = Ok (Some (Holds Bad))

-- It is legal, and the reel has room for the block.
abbrev pub check_kind : ℕ → ℕ → Option (Kind ℕ) → List ℕ → Verdict (Option Next)
check_kind at blocks None xs = Err (2, at)
check_kind at blocks (Some s) xs = cond (nat_le 65535 blocks) (Err (3, at)) (check_closed at s xs)

-- It may end the reel.
abbrev pub check_word : ℕ → ℕ → ℕ → List ℕ → Verdict (Option Next)
check_word at blocks w xs = cond (w == 4294967294) (Ok (Some ReelEnds)) (check_kind at blocks (stored w) xs)

-- Behind the ninth reel there is no further byte; the word is whole.
abbrev pub check_whole : ℕ → ℕ → ℕ → List ℕ → Verdict (Option Next)
check_whole at reels blocks xs =
    cond (nat_le 9 reels) (Err (3, at)) (cond (nat_lt (length xs) 4) (Err (1, at)) (check_word at blocks (value xs) xs))

-- A strip ends only behind the end of a reel, and then with its bytes.
abbrev pub next : ℕ → ℕ → ℕ → List ℕ → Verdict (Option Next)
next at reels blocks xs =
    cond (length xs == 0 && (nat_lt 0 reels && blocks == 0)) (Ok None) (check_whole at reels blocks xs)

-- Where the reading goes on behind a word: `reels` and the blocks `reel` of the next reel have been read, and `xs` are the bytes from the place
-- `at` on. `rest` judges what follows.
abbrev pub follow : (TapeSet → Reel → ℕ → List ℕ → Verdict TapeSet) → TapeSet → Reel → ℕ → List ℕ → Verdict (Option Next) → Verdict TapeSet
follow rest reels reel at xs (Err e) = Err e
follow rest reels reel at xs (Ok None) = Ok reels
follow rest reels reel at xs (Ok (Some ReelEnds)) = rest (reels ++ reel ∷ []) [] (at + 4) (drop 4 xs)
follow rest reels reel at xs (Ok (Some (Holds s))) = rest reels (reel ++ block s (drop 4 xs) ∷ []) (at + size s) (drop (size s) xs)

-- What a strip is judged to be, word by word, of which at most `words` are read.
abbrev pub judge : ℕ → TapeSet → Reel → ℕ → List ℕ → Verdict TapeSet
judge zero reels reel at xs = Err (1, at)
judge (suc words) reels reel at xs = follow (judge words) reels reel at xs (next at (length reels) (length reel) xs)

-- There are fewer words than bytes, so that so many suffice.
abbrev pub verdict : List ℕ → Verdict TapeSet
verdict xs = judge (length xs + 1) [] [] 0 xs

-- The set that a strip's bytes mean.
abbrev pub meant : List ℕ → TapeSet
meant xs = set_of (verdict xs)

-- The place of a block, reel and block counted from 0, or where the reel's end stands.
abbrev pub place : TapeSet → ℕ → ℕ → ℕ
place set r b = length (encoded (take r set)) + length (flat_map block_bytes (take b (slice_index_or set r [])))
