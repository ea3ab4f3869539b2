-- The survey's machine, as a decision table: what it expects and what comes give the machine afterwards, or the number of a fault.
use Rattle.std.specs.Prelude.{◌≡◌, ℕ, ◌+◌, ◌-◌, ◌*◌, ◌%◌, ◌≤◌, Bool, true, false, cond, not, ◌&&◌, ◌||◌, List, [], ◌∷◌, length, drop, replicate, Some, None, Ok, Err, Option, Result, ◌==◌, nat_le, nat_lt, slice_index_or, slice_set}
use Rattle.std.specs.Borrow.{Bor}
use Rattle.deck.specs.Tape.{Block, written, mark, bad}
use Rattle.deck.specs.declared.Kind.{Kind}
use Rattle.deck.specs.declared.Kind.TheVariants as kinds
use Rattle.records.specs.Bands.{present, more_bands}
use Rattle.records.specs.Directories.{first_directory, same_directory}
use Rattle.records.specs.Faults.{deck_number, set_number, number}
use Rattle.records.specs.Headers.{header}
use Rattle.records.specs.Layouts.{record_length, ancillaries, attributes, stride}
use Rattle.records.specs.Records.{byte, checked}
use Rattle.records.specs.declared.bands.Bands.{Bands}
use Rattle.records.specs.declared.fault.Cause.{Cause}
use Rattle.records.specs.declared.fault.DeckFault.{DeckFault}
use Rattle.records.specs.declared.fault.SetFault.{SetFault}
use Rattle.records.specs.declared.header.Content.{Content}
use Rattle.records.specs.declared.header.Content.TheVariants.{One, Mixed}
use Rattle.records.specs.declared.header.Header.{Header}
use Rattle.records.specs.declared.layout.Form.{Form}
use Rattle.records.specs.declared.layout.Form.TheVariants.{Interleaved, Sequential, Vidicon}
use Rattle.records.specs.declared.layout.Layout.{Layout}
use Rattle.machine.specs.declared.machine.Expect.{Expect}
use Rattle.machine.specs.declared.machine.Expect.TheVariants as expects
use Rattle.machine.specs.declared.machine.Group.{Group}
use Rattle.machine.specs.declared.machine.Machine.{Machine}
use Rattle.machine.specs.declared.machine.Onward.{Onward}
use Rattle.machine.specs.declared.machine.Onward.TheVariants as onwards
use Rattle.machine.specs.declared.machine.Place.{Place}

-- The machine with another expectation, with a first directory, with another group, and with its group among those that have been read.
abbrev pub expecting : Machine → Expect → Machine
expecting m e = record { reels = m.reels; expect = e; directory = m.directory; layout = m.layout; group = m.group; groups = m.groups; table = m.table; bands = m.bands }

abbrev pub headed_by : Machine → List ℕ → Layout → Machine
headed_by m xs l = record { reels = m.reels; expect = m.expect; directory = xs; layout = l; group = m.group; groups = m.groups; table = m.table; bands = m.bands }

abbrev pub grouped : Machine → Group → Machine
grouped m g = record { reels = m.reels; expect = m.expect; directory = m.directory; layout = m.layout; group = g; groups = m.groups; table = m.table; bands = m.bands }

abbrev pub closed : Machine → Machine
closed m =
    cond (nat_lt m.groups 5)
    record { reels = m.reels; expect = m.expect; directory = m.directory; layout = m.layout; group = m.group; groups = m.groups + 1; table = slice_set m.table m.groups m.group; bands = m.bands }
    m

abbrev pub banded : Machine → Bands → Machine
banded m b = record { reels = m.reels; expect = m.expect; directory = m.directory; layout = m.layout; group = m.group; groups = m.groups; table = m.table; bands = b }

-- What holds of a machine throughout: its directory is whole, the deck has at most nine reels, and an image file has at most 8,192 lines
-- of five bands.
abbrev pub Steady : Machine → Type 0
Steady m = (length m.directory ≡ 360) × ((m.reels ≤ 9) × (m.group.blocks ≤ 40960))

-- What a step says: the machine afterwards, or the fault's number.
abbrev pub stepped : Result (Unit {0}) Cause → Machine → Result Machine ℕ
stepped (Ok u) m = Ok m
stepped (Err c) m = Err (number c)

abbrev pub set_stepped : Result (Unit {0}) SetFault → Machine → Result Machine ℕ
set_stepped (Ok u) m = Ok m
set_stepped (Err f) m = Err (set_number f)

-- The block that a deck has shown, if it has shown one.
abbrev pub block_of : Option (Kind (Bor (List ℕ))) → Option Block
block_of None = None
block_of (Some (kinds.Record r)) = Some (written r.now)
block_of (Some kinds.Mark) = Some mark
block_of (Some kinds.Bad) = Some bad

-- The faults of the deck's layer and of the record layer, where a block is not expected.
abbrev pub decked : Result (Unit {0}) DeckFault → Option ℕ
decked (Ok u) = None
decked (Err f) = Some (deck_number f)

abbrev pub deck_says : Option Block → Option ℕ
deck_says None = Some 11
deck_says (Some bad) = Some 12
deck_says (Some mark) = None
deck_says (Some (written xs)) = None

abbrev pub record_says : Option Block → Option ℕ
record_says None = None
record_says (Some bad) = None
record_says (Some mark) = Some 21
record_says (Some (written xs)) = Some 22

abbrev pub refusal : Result (Unit {0}) Cause → Option ℕ
refusal (Ok u) = None
refusal (Err c) = Some (number c)

abbrev pub unexpected : Option Block → Option ℕ
unexpected None = Some 11
unexpected (Some bad) = Some 12
unexpected (Some mark) = Some 21
unexpected (Some (written xs)) = Some 22

-- Go on where a record has passed its checks.
abbrev pub passed : Option ℕ → Result Machine ℕ → Result Machine ℕ
passed None r = r
passed (Some n) r = Err n

abbrev pub size : Machine → ℕ
size m = record_length m.layout.form

-- A directory: the first names the layout; a later one equals it in all but its reel's digit, which is checked last.
abbrev pub first : Machine → Option Onward → List ℕ → Option Layout → Result Machine ℕ
first m on xs None = Err 31
first m on xs (Some l) = Ok (expecting (headed_by m xs l) (expects.DirectoryMark on))

abbrev pub later : Machine → Place → Option Onward → List ℕ → Result Machine ℕ
later m at on xs =
    cond (same_directory m.directory xs)
    (cond (byte xs 19 == 48 + at.reel) (Ok (expecting m (expects.DirectoryMark on))) (Err 31))
    (Err 32)

abbrev pub on_directory : Machine → Place → Option Onward → List ℕ → Result Machine ℕ
on_directory m at on xs =
    passed (checked xs 360 9 1) (cond (at.reel == 1) (first m on xs (first_directory xs m.reels)) (later m at on xs))

-- The band of the last header, or 0 behind none.
abbrev pub band_of : Content → ℕ
band_of (One c) = c
band_of (Mixed mask) = 0

-- A header begins a group.
abbrev pub fresh : Header → Place → Group
fresh h at = record { content = h.content; trailers = h.trailers; header = at; trailer = at; blocks = 0; through = replicate 9 0 }

abbrev pub begun : Machine → Place → Result Header ℕ → Result Machine ℕ
begun m at (Ok h) = Ok (expecting (banded (grouped m (fresh h at)) (more_bands h.content m.bands)) (expects.Attribute 2))
begun m at (Err n) = Err n

abbrev pub on_header : Machine → Place → List ℕ → Result Machine ℕ
on_header m at xs = passed (checked xs (size m) 18 1) (begun m at (header xs m.layout (band_of m.group.content)))

-- Ancillary records, then annotation records; all are numbered on from the header.
abbrev pub on_attribute : Machine → ℕ → List ℕ → Result Machine ℕ
on_attribute m n xs =
    passed (checked xs (size m) (cond (nat_le n (1 + ancillaries m.layout)) 36 219) n)
    (Ok (expecting m (cond (nat_lt n (attributes m.layout)) (expects.Attribute (n + 1)) expects.AttributeMark)))

-- Every byte is zero.
abbrev pub all_zero : List ℕ → Bool
all_zero [] = true
all_zero (x ∷ xs) = x == 0 && all_zero xs

-- The image blocks that a file may have: 8,192 lines, of each of the mission's bands where they are interleaved.
abbrev pub most_blocks : Form → ℕ → ℕ
most_blocks Interleaved bands = 8192 * bands
most_blocks Sequential bands = 8192
most_blocks Vidicon bands = 8192

-- The next image block is of a band that is not present.
abbrev pub missing : Content → ℕ → ℕ → Bool
missing (One c) blocks bands = false
missing (Mixed mask) blocks bands = not (present mask (blocks % bands))

-- One image block more on a reel.
abbrev pub one_more : Group → ℕ → Group
one_more g reel = record {
  content = g.content;
  trailers = g.trailers;
  header = g.header;
  trailer = g.trailer;
  blocks = g.blocks + 1;
  through = slice_set g.through (reel - 1) (g.blocks + 1);
}

-- A line: not one too many, and of a missing band only where every byte of its body is zero.
abbrev pub line : Machine → Place → Bool → Result Machine ℕ
line m at zero =
    cond (nat_le (most_blocks m.layout.form (stride m.layout)) m.group.blocks) (Err 35)
    (cond (missing m.group.content m.group.blocks (stride m.layout) && not zero) (Err 36)
    (Ok (expecting (grouped m (one_more m.group at.reel)) expects.Image)))

abbrev pub on_image : Machine → Place → List ℕ → Result Machine ℕ
on_image m at xs = passed (checked xs (size m) 237 (m.group.blocks + 1)) (line m at (all_zero (drop 6 xs)))

-- A bad block is a line, and not that of a missing band.
abbrev pub on_bad_line : Machine → Place → Result Machine ℕ
on_bad_line m at = line m at false

-- At the first trailer the image file is over: its lines are whole, and as many as those of the first band.
abbrev pub lines_agree : Form → ℕ → ℕ → ℕ → ℕ → Bool
lines_agree Interleaved bands groups first-blocks blocks = blocks % bands == 0
lines_agree Sequential bands groups first-blocks blocks = groups == 0 || blocks == first-blocks
lines_agree Vidicon bands groups first-blocks blocks = true

abbrev pub no_group : Group
no_group = record { content = One 0; trailers = 0; header = record { reel = 0; block = 0 }; trailer = record { reel = 0; block = 0 }; blocks = 0; through = [] }

abbrev pub trailed : Group → Place → Group
trailed g at = record { content = g.content; trailers = g.trailers; header = g.header; trailer = at; blocks = g.blocks; through = g.through }

abbrev pub behind_trailer : Machine → ℕ → Expect
behind_trailer m n = cond (nat_lt n m.group.trailers) (expects.Trailer (n + 1)) expects.TrailerMark

abbrev pub trailing : Machine → Place → Result Machine ℕ
trailing m at =
    cond (lines_agree m.layout.form (stride m.layout) m.groups (slice_index_or m.table 0 no_group).blocks m.group.blocks)
    (Ok (expecting (grouped m (trailed m.group at)) (behind_trailer m 1)))
    (Err 35)

abbrev pub on_first_trailer : Machine → Place → List ℕ → Result Machine ℕ
on_first_trailer m at xs = passed (checked xs (size m) 246 1) (trailing m at)

abbrev pub on_trailer : Machine → ℕ → List ℕ → Result Machine ℕ
on_trailer m n xs = passed (checked xs (size m) 246 n) (Ok (expecting m (behind_trailer m n)))

-- Behind a break in or behind an image file the record's type tells whether the file goes on.
abbrev pub on_resumed : Machine → Place → List ℕ → Result Machine ℕ
on_resumed m at xs = cond (byte xs 6 == 246) (on_first_trailer m at xs) (on_image m at xs)

-- A second mark ends a reel. Behind an image file more must come; behind a trailer file more may come only where bands follow each other.
-- The last reel of several has a third mark.
abbrev pub ends_in_image : Machine → Place → Result Machine ℕ
ends_in_image m at = cond (nat_lt at.reel m.reels) (Ok (expecting m (expects.End (Some onwards.Image)))) (Err 37)

abbrev pub goes_on : Form → Machine → Result Machine ℕ
goes_on Interleaved m = Err 37
goes_on Sequential m = Ok (expecting m (expects.End (Some onwards.Header)))
goes_on Vidicon m = Err 37

abbrev pub ends_behind_trailer : Machine → Place → Result Machine ℕ
ends_behind_trailer m at =
    cond (nat_lt at.reel m.reels) (goes_on m.layout.form m)
    (Ok (expecting m (cond (m.reels == 1) (expects.End None) expects.LastMark)))

-- Behind the mark of a trailer file a record is the next header, where bands follow each other.
abbrev pub next_group : Form → Machine → Place → List ℕ → Result Machine ℕ
next_group Interleaved m at xs = Err 22
next_group Sequential m at xs = on_header m at xs
next_group Vidicon m at xs = Err 22

-- What stands behind a directory's mark.
abbrev pub onward_expect : Option Onward → Expect
onward_expect (Some onwards.Header) = expects.Header
onward_expect (Some onwards.Image) = expects.Resumed
onward_expect None = expects.Header

-- A record comes.
abbrev pub on_record : Expect → Machine → Place → List ℕ → Result Machine ℕ
on_record (expects.Directory on) m at xs = on_directory m at on xs
on_record (expects.DirectoryMark on) m at xs = Err 22
on_record expects.Header m at xs = on_header m at xs
on_record (expects.Attribute n) m at xs = on_attribute m n xs
on_record expects.AttributeMark m at xs = Err 22
on_record expects.FirstImage m at xs = on_image m at xs
on_record expects.Image m at xs = on_image m at xs
on_record expects.BehindImage m at xs = on_first_trailer m at xs
on_record expects.Resumed m at xs = on_resumed m at xs
on_record (expects.Trailer n) m at xs = on_trailer m n xs
on_record expects.TrailerMark m at xs = Err 22
on_record expects.BehindTrailer m at xs = next_group m.layout.form m at xs
on_record expects.LastMark m at xs = Err 22
on_record (expects.End on) m at xs = Err 38

-- A mark comes.
abbrev pub on_mark : Expect → Machine → Place → Result Machine ℕ
on_mark (expects.Directory on) m at = Err 21
on_mark (expects.DirectoryMark on) m at = Ok (expecting m (onward_expect on))
on_mark expects.Header m at = Err 21
on_mark (expects.Attribute n) m at = Err 21
on_mark expects.AttributeMark m at = Ok (expecting m expects.FirstImage)
on_mark expects.FirstImage m at = Err 21
on_mark expects.Image m at = Ok (expecting m expects.BehindImage)
on_mark expects.BehindImage m at = ends_in_image m at
on_mark expects.Resumed m at = Err 21
on_mark (expects.Trailer n) m at = Err 21
on_mark expects.TrailerMark m at = Ok (expecting (closed m) expects.BehindTrailer)
on_mark expects.BehindTrailer m at = ends_behind_trailer m at
on_mark expects.LastMark m at = Ok (expecting m (expects.End None))
on_mark (expects.End on) m at = Err 38

-- A bad block comes.
abbrev pub on_bad : Expect → Machine → Place → Result Machine ℕ
on_bad (expects.Directory on) m at = Err 12
on_bad (expects.DirectoryMark on) m at = Err 12
on_bad expects.Header m at = Err 12
on_bad (expects.Attribute n) m at = Err 12
on_bad expects.AttributeMark m at = Err 12
on_bad expects.FirstImage m at = on_bad_line m at
on_bad expects.Image m at = on_bad_line m at
on_bad expects.BehindImage m at = Err 12
on_bad expects.Resumed m at = on_bad_line m at
on_bad (expects.Trailer n) m at = Err 12
on_bad expects.TrailerMark m at = Err 12
on_bad expects.BehindTrailer m at = Err 12
on_bad expects.LastMark m at = Err 12
on_bad (expects.End on) m at = Err 38

-- No block comes: the reel has no more.
abbrev pub on_absent : Expect → Machine → Result Machine ℕ
on_absent (expects.Directory on) m = Err 11
on_absent (expects.DirectoryMark on) m = Err 11
on_absent expects.Header m = Err 11
on_absent (expects.Attribute n) m = Err 11
on_absent expects.AttributeMark m = Err 11
on_absent expects.FirstImage m = Err 11
on_absent expects.Image m = Err 11
on_absent expects.BehindImage m = Err 11
on_absent expects.Resumed m = Err 11
on_absent (expects.Trailer n) m = Err 11
on_absent expects.TrailerMark m = Err 11
on_absent expects.BehindTrailer m = Err 11
on_absent expects.LastMark m = Err 11
on_absent (expects.End on) m = Ok (expecting m (expects.Directory on))

abbrev pub step : Machine → Place → Option Block → Result Machine ℕ
step m at None = on_absent m.expect m
step m at (Some (written xs)) = on_record m.expect m at xs
step m at (Some mark) = on_mark m.expect m at
step m at (Some bad) = on_bad m.expect m at
