-- What a tape writer writes: a recording, and the set of reels that it becomes.
use Rattle.std.specs.Prelude.{ℕ, ◌+◌, Bool, true, false, cond, ◌||◌, List, [], ◌∷◌, ◌++◌, length, Some, None, Option, ◌==◌, nat_lt, slice_set}
use Rattle.deck.specs.Tape.{Block, written, mark, bad, Reel, TapeSet}
use Rattle.deck.specs.Words.{word}
use Rattle.records.specs.declared.layout.Layout.{Layout}

-- A body is what a record holds from its seventh byte on. A line of an image file is its body, or none where the block cannot be read.
abbrev pub Body : Type 0
Body = List ℕ

abbrev pub Line : Type 0
Line = Option Body

-- What is written into the files of one group: the bodies of its header, its ancillary and its annotation records; the lines of its image
-- file in parts, one for each reel that holds some of the file; the bodies of its trailers; and whether a further reel begins behind its
-- trailer file. An empty last part says that the image file ended with its reel, and that its trailers are on the next.
pub record Files : Type 0 where
  pub header : Body
  pub ancillaries : List Body
  pub annotations : List Body
  pub parts : List (List Line)
  pub trailers : List Body
  pub ends : Bool

-- A recording: its layout, the body of the first reel's directory, how many lines each band has, and its groups.
pub record Recording : Type 0 where
  pub layout : Layout
  pub directory : Body
  pub lines : ℕ
  pub groups : List Files

-- A record: its number in four bytes, a zero, its type, and its body.
abbrev pub record_of : ℕ → ℕ → Body → List ℕ
record_of number kind body = word number ++ 0 ∷ kind ∷ body

-- Records of one type, numbered on.
abbrev pub numbered : ℕ → ℕ → List Body → Reel
numbered kind n [] = []
numbered kind n (body ∷ bodies) = written (record_of n kind body) ∷ numbered kind (n + 1) bodies

-- Lines, numbered on. One that cannot be read is a bad block and uses up its number.
abbrev pub line_block : ℕ → Line → Block
line_block n (Some body) = written (record_of n 237 body)
line_block n None = bad

abbrev pub lines_from : ℕ → List Line → Reel
lines_from n [] = []
lines_from n (line ∷ lines) = line_block n line ∷ lines_from (n + 1) lines

-- Blocks in front of what stands on a reel, and on the reels behind it.
abbrev pub before : Reel → List Reel → List Reel
before blocks [] = blocks ∷ []
before blocks (reel ∷ reels) = (blocks ++ reel) ∷ reels

-- The attributes file: header, ancillary and annotation records, numbered through, and a mark.
abbrev pub attributes_file : Files → Reel
attributes_file g =
    written (record_of 1 18 g.header)
    ∷ numbered 36 2 g.ancillaries ++ (numbered 219 (2 + length g.ancillaries) g.annotations ++ mark ∷ [])

-- A part of an image file: its lines and a mark. An empty part is not written.
abbrev pub part : ℕ → List Line → Reel
part n [] = []
part n (line ∷ lines) = lines_from n (line ∷ lines) ++ mark ∷ []

-- An image file from its line n on: each part but the last is at the end of a reel. What comes behind the file follows its last part.
abbrev pub image_file : ℕ → List (List Line) → List Reel → List Reel
image_file n [] behind = behind
image_file n (p ∷ []) behind = before (part n p) behind
image_file n (p ∷ (q ∷ ps)) behind = part n p ∷ image_file (n + length p) (q ∷ ps) behind

-- The trailer file, and the end of its reel where that is here.
abbrev pub trailer_file : Files → Reel
trailer_file g = numbered 246 1 g.trailers ++ mark ∷ []

abbrev pub closes : Bool → List Reel → List Reel
closes true behind = [] ∷ behind
closes false behind = behind

-- The three files of each group, one group behind the other: what stands on each reel between its directory and its end.
abbrev pub stretches : List Files → List Reel
stretches [] = [] ∷ []
stretches (g ∷ gs) = before (attributes_file g) (image_file 1 g.parts (before (trailer_file g) (closes g.ends (stretches gs))))

-- How many reels a recording takes.
abbrev pub reels : Recording → ℕ
reels r = length (stretches r.groups)

-- The directory of a reel: that of the first with the reel's own digit in byte 19.
abbrev pub directory_on : Body → ℕ → List ℕ
directory_on directory reel = record_of 1 9 (slice_set directory 12 (48 + reel))

-- The marks that end a reel, behind the mark of its last file: one, but two on the last of several reels.
abbrev pub closing : ℕ → ℕ → Reel
closing reel many = cond (nat_lt reel many || many == 1) (mark ∷ []) (mark ∷ mark ∷ [])

-- Each reel: its directory and a mark, its stretch, and its end.
abbrev pub bound : Body → ℕ → ℕ → List Reel → TapeSet
bound directory many reel [] = []
bound directory many reel (stretch ∷ rest) = (written (directory_on directory reel) ∷ mark ∷ stretch ++ closing reel many) ∷ bound directory many (reel + 1) rest

-- The set that a recording is written as.
abbrev pub written_as : Recording → TapeSet
written_as r = bound r.directory (reels r) 1 (stretches r.groups)
