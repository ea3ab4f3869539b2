-- The indexed image: a header that says where each block lies, and the records behind it.
use Rattle.std.specs.Prelude.{◌≡◌, ℕ, zero, suc, ◌+◌, ◌*◌, ◌<◌, ◌≤◌, cond, List, [], ◌∷◌, length, take, drop, Some, None, Ok, Err, sum, Option, ◌==◌, nat_lt, slice_index_or}
use Rattle.std.specs.List.{flat_map}
use Rattle.deck.specs.Tape.{Block, written, mark, bad, TapeSet}
use Rattle.deck.specs.Words.{value}
use Rattle.image.specs.Stored.{Verdict, set_of, stored, block}
use Rattle.deck.specs.declared.Kind.{Kind}
use Rattle.deck.specs.declared.Kind.TheVariants.{Record, Mark, Bad}

-- The blocks of a set in order, reel by reel.
abbrev pub blocks : TapeSet → List Block
blocks set = flat_map (λ reel. reel) set

-- Where the entries begin behind the number of reels and each reel's block count, and where the header ends.
abbrev pub first_entry : ℕ → ℕ
first_entry reels = 4 + 4 * reels

abbrev pub header : ℕ → ℕ → ℕ
header reels many = first_entry reels + 8 * many

-- The word at a place is a number.
abbrev pub says : List ℕ → ℕ → ℕ → Type 0
says xs at n = (at + 4 ≤ length xs) × (value (drop at xs) ≡ n)

-- The entry at a place is a block's: an offset and a kind word. A record's offset leads to its bytes, behind the header and inside the image.
pub record Lies (xs : List ℕ) (head at : ℕ) (bytes : List ℕ) : Type 0 where
  pub offset : ℕ
  pub leads : says xs at offset
  pub kind : says xs (at + 4) (length bytes)
  pub behind : head ≤ offset
  pub inside : offset + length bytes ≤ length xs
  pub there : take (length bytes) (drop offset xs) ≡ bytes

abbrev pub Entry : List ℕ → ℕ → ℕ → Block → Type 0
Entry xs head at (written bytes) = Lies xs head at bytes
Entry xs head at mark = says xs at 0 × says xs (at + 4) 0
Entry xs head at bad = says xs at 0 × says xs (at + 4) 4294967295

-- An image is that of a set: it says how many reels there are, then how many blocks each has, and then has an entry for each block.
pub record Encodes (xs : List ℕ) (set : TapeSet) : Type 0 where
  pub reels : says xs 0 (length set)
  pub counts : (i : ℕ) → i < length set → says xs (4 + 4 * i) (length (slice_index_or set i []))
  pub entries : (i : ℕ) → i < length (blocks set) → Entry xs (header (length set) (length (blocks set))) (first_entry (length set) + 8 * i) (slice_index_or (blocks set) i mark)

-- What a verdict leads to, where it refuses nothing.
abbrev pub and_then : {X Y : Type 0} → Verdict X → (X → Verdict Y) → Verdict Y
and_then (Ok x) rest = rest x
and_then (Err e) rest = Err e

-- A verdict without its result.
abbrev pub passed : {X : Type 0} → Verdict X → Verdict (Unit {0})
passed v = and_then v (λ _. Ok tt)

-- So many results, read at places that lie `step` apart, or the first refusal.
abbrev pub row : {X : Type 0} → (ℕ → Verdict X) → ℕ → ℕ → ℕ → Verdict (List X)
row read step at zero = Ok []
row read step at (suc n) = and_then (read at) (λ x. and_then (row read step (at + step) n) (λ more. Ok (x ∷ more)))

-- The word at a place, which is whole.
abbrev pub whole : List ℕ → ℕ → Verdict ℕ
whole xs at = cond (nat_lt (length xs) (at + 4)) (Err (1, at)) (Ok (value (drop at xs)))

-- The number of reels, 1 to 9.
abbrev pub reel_count : List ℕ → Verdict ℕ
reel_count xs = and_then (whole xs 0) (λ n. cond (n == 0) (Err (2, 0)) (cond (nat_lt 9 n) (Err (3, 0)) (Ok n)))

-- A reel's block count, at most 65,535.
abbrev pub block_count : List ℕ → ℕ → Verdict ℕ
block_count xs at = and_then (whole xs at) (λ n. cond (nat_lt 65535 n) (Err (3, at)) (Ok n))

-- The block counts of so many reels together.
abbrev pub block_total : List ℕ → ℕ → Verdict ℕ
block_total xs reels = and_then (row (block_count xs) 4 4 reels) (λ ns. Ok (sum ns))

-- The block with an offset and a kind word at a place: the kind is legal, the offset of a mark or a bad block is 0, and a record lies
-- behind the header and inside the image.
abbrev pub check_entry : List ℕ → ℕ → ℕ → ℕ → Option (Kind ℕ) → Verdict Block
check_entry xs head offset at None = Err (2, at)
check_entry xs head offset at (Some (Record n)) =
    cond (nat_lt offset head) (Err (4, at)) (cond (nat_lt (length xs) (offset + n)) (Err (4, at)) (Ok (block (Record n) (drop offset xs))))
check_entry xs head offset at (Some Mark) = cond (offset == 0) (Ok mark) (Err (2, at))
check_entry xs head offset at (Some Bad) = cond (offset == 0) (Ok bad) (Err (2, at))

abbrev pub entry : List ℕ → ℕ → ℕ → Verdict Block
entry xs head at = and_then (whole xs at) (λ offset. and_then (whole xs (at + 4)) (λ kind. check_entry xs head offset (at + 4) (stored kind)))

-- Blocks cut into reels of so many.
abbrev pub cut : List ℕ → List Block → TapeSet
cut [] bs = []
cut (n ∷ ns) bs = take n bs ∷ cut ns (drop n bs)

-- The entries of reels with such block counts, as a set.
abbrev pub reel_entries : List ℕ → ℕ → List ℕ → Verdict TapeSet
reel_entries xs n ns = and_then (row (entry xs (header n (sum ns))) 8 (first_entry n) (sum ns)) (λ bs. Ok (cut ns bs))

-- What an indexed image is judged to be. All counts are read before the first entry.
abbrev pub verdict : List ℕ → Verdict TapeSet
verdict xs = and_then (reel_count xs) (λ n. and_then (row (block_count xs) 4 4 n) (reel_entries xs n))

-- The set that an indexed image's bytes mean.
abbrev pub meant : List ℕ → TapeSet
meant xs = set_of (verdict xs)
