-- The listing of the blocks of a tape set.
use Rattle.std.specs.Prelude.{ℕ, ◌+◌, Bool, true, false, cond, List, [], ◌∷◌, ◌++◌, length, Some, None, codes, decimal, Option, ◌==◌}
use Rattle.deck.specs.Tape.{Block, written, mark, bad, Reel, TapeSet, from_one}
use Rattle.deck.specs.declared.Kind.{Kind}
use Rattle.deck.specs.declared.Kind.TheVariants.{Record, Mark, Bad}

-- The word for one, or that for any other number.
abbrev pub noun_for : ℕ → List ℕ → List ℕ → List ℕ
noun_for n one many = cond (n == 1) one many

-- The kind of a block, a record with its length.
abbrev pub block_kind : Block → Kind ℕ
block_kind (written bytes) = Record (length bytes)
block_kind mark = Mark
block_kind bad = Bad

-- The line of a run of `n` blocks of a kind.
abbrev pub run_text : ℕ → Kind ℕ → List ℕ
run_text n (Record size) = decimal n ++ (codes " " ++ (noun_for n (codes "record") (codes "records") ++ (codes " of " ++ (decimal size ++ codes "\n"))))
run_text n Mark = decimal n ++ (codes " " ++ (noun_for n (codes "mark") (codes "marks") ++ codes "\n"))
run_text n Bad = decimal n ++ codes " bad\n"

-- Blocks of the same kind, and records of the same length.
abbrev pub alike : Block → Block → Bool
alike (written a) (written b) = length a == length b
alike (written a) mark = false
alike (written a) bad = false
alike mark (written b) = false
alike mark mark = true
alike mark bad = false
alike bad (written b) = false
alike bad mark = false
alike bad bad = true

-- The lines of the runs of some blocks, of which the first is the `n`-th block of its run.
abbrev pub runs_text : ℕ → Reel → List ℕ
runs_text n [] = []
runs_text n (b ∷ []) = run_text n (block_kind b)
runs_text n (b ∷ c ∷ blocks) = cond (alike b c) (runs_text (n + 1) (c ∷ blocks)) (run_text n (block_kind b) ++ runs_text 1 (c ∷ blocks))

-- A reel by its number: how many blocks it has, and its runs.
abbrev pub reel_text : ℕ → Reel → List ℕ
reel_text n reel =
    codes "reel " ++ (decimal n ++ (codes ": " ++ (decimal (length reel) ++ (codes " " ++ (noun_for (length reel) (codes "block") (codes "blocks") ++ (codes "\n" ++ runs_text 1 reel))))))

-- Some reels, of which the first has the number `n`.
abbrev pub reels_text : ℕ → TapeSet → List ℕ
reels_text n [] = []
reels_text n (reel ∷ reels) = reel_text n reel ++ reels_text (n + 1) reels

-- The reels of a set, counted from 1.
abbrev pub blocks_text : TapeSet → List ℕ
blocks_text set = reels_text 1 set

-- The reel of a number, with no blocks where there is none.
abbrev pub reel_or_none : Option Reel → Reel
reel_or_none None = []
reel_or_none (Some reel) = reel

abbrev pub reel_of : TapeSet → ℕ → Reel
reel_of set n = reel_or_none (from_one set n)
