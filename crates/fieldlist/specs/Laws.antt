-- Laws of what is shown.
use Rattle.std.specs.Prelude.{◌≡◌, ℕ, ◌<◌, List, [], ◌∷◌, drop}
use Rattle.records.specs.Records.{byte}
use Rattle.fieldlist.specs.Records.{record_of, annotation_lines, image_lines}
use Rattle.fieldlist.specs.Shown.{quoted}

-- A record and the one that is put together from its body have the same fields.
abbrev pub SameAnnotation : Type 0
SameAnnotation = (subject xs : List ℕ) → byte xs 6 ≡ 219 → annotation_lines subject (record_of 219 (drop 6 xs)) ≡ annotation_lines subject xs

abbrev pub SameImage : Type 0
SameImage = (subject xs : List ℕ) → byte xs 6 ≡ 237 → image_lines subject (record_of 237 (drop 6 xs)) ≡ image_lines subject xs

-- Different bytes are shown differently.
abbrev pub Bytes : List ℕ → Type 0
Bytes [] = Unit {0}
Bytes (b ∷ bs) = (b < 256) × Bytes bs

abbrev pub ToldApart : Type 0
ToldApart = (xs ys : List ℕ) → Bytes xs → Bytes ys → quoted xs ≡ quoted ys → xs ≡ ys
