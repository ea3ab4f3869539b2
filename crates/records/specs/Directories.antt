-- The values of a directory. Letters and digits are ASCII.
use Rattle.std.specs.Prelude.{ℕ, ◌+◌, ◌/◌, ◌%◌, Bool, true, cond, ◌&&◌, List, take, drop, Some, None, Option, ◌==◌}
use Rattle.std.specs.Str.{bytes_eq}
use Rattle.records.specs.Layouts.{record_length}
use Rattle.records.specs.Records.{byte}
use Rattle.records.specs.declared.layout.Correction.{Correction}
use Rattle.records.specs.declared.layout.Correction.TheVariants.{Corrected, Uncorrected}
use Rattle.records.specs.declared.layout.Form.{Form}
use Rattle.records.specs.declared.layout.Form.TheVariants.{Interleaved, Sequential, Vidicon}
use Rattle.records.specs.declared.layout.Layout.{Layout}

-- The form by the sensor's letter, M or R, and the order's byte, 255 or 0.
abbrev pub form_of : ℕ → ℕ → Option Form
form_of letter order =
    cond (letter == 77)
    (cond (order == 255) (Some Interleaved) (cond (order == 0) (Some Sequential) None))
    (cond (letter == 82) (cond (order == 0) (Some Vidicon) None) None)

-- The mission by its digit, 1 to 3.
abbrev pub mission_of : ℕ → Option ℕ
mission_of b = cond (b == 49) (Some 1) (cond (b == 50) (Some 2) (cond (b == 51) (Some 3) None))

-- The correction by its second letter, P or A.
abbrev pub correction_of : ℕ → Option Correction
correction_of b = cond (b == 80) (Some Corrected) (cond (b == 65) (Some Uncorrected) None)

-- The vidicon needs mission 3.
abbrev pub allowed : Form → ℕ → Bool
allowed Interleaved mission = true
allowed Sequential mission = true
allowed Vidicon mission = mission == 3

-- The layout of three values, if each is one.
abbrev pub layout_by : Option Form → Option ℕ → Option Correction → Option Layout
layout_by (Some f) (Some m) (Some c) = cond (allowed f m) (Some record { form = f; mission = m; correction = c }) None
layout_by None m c = None
layout_by (Some f) None c = None
layout_by (Some f) (Some m) None = None

-- The layout that a directory names: its form in bytes 9 and 31, its mission in byte 8, its correction in byte 11.
abbrev pub layout_of : List ℕ → Option Layout
layout_of xs = layout_by (form_of (byte xs 9) (byte xs 31)) (mission_of (byte xs 8)) (correction_of (byte xs 11))

-- Bytes 21 to 26 are blanks.
abbrev pub blank : List ℕ → Bool
blank xs = byte xs 21 == 32 && (byte xs 22 == 32 && (byte xs 23 == 32 && (byte xs 24 == 32 && (byte xs 25 == 32 && byte xs 26 == 32))))

-- The other values of a first directory: the letters L and C, the digit of reel 1 and that of the number of reels, the blanks, the type of
-- image records, and their length.
abbrev pub fixed : List ℕ → Layout → ℕ → Bool
fixed xs l reels =
    (byte xs 7 == 76)
    && (byte xs 10 == 67
    && (byte xs 19 == 49
    && (byte xs 20 == 48 + reels
    && (blank xs
    && (byte xs 30 == 237
    && (byte xs 32 == record_length l.form / 256
    && byte xs 33 == record_length l.form % 256))))))

-- The layout that a first directory names, where its other values are in order.
abbrev pub named : List ℕ → ℕ → Option Layout → Option Layout
named xs reels None = None
named xs reels (Some l) = cond (fixed xs l reels) (Some l) None

unfoldable pub first_directory : List ℕ → ℕ → Option Layout
first_directory xs reels = named xs reels (layout_of xs)

-- Two directories that are equal in all but byte 19.
unfoldable pub same_directory : List ℕ → List ℕ → Bool
same_directory first xs = bytes_eq (take 18 first) (take 18 xs) && bytes_eq (drop 19 first) (drop 19 xs)
