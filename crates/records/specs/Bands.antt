-- The bands that are present.
use Rattle.std.specs.Prelude.{ℕ, ◌+◌, ◌/◌, ◌%◌, Bool, true, false, cond, replicate, ◌==◌, nat_lt, slice_set}
use Rattle.records.specs.declared.bands.Bands.{Bands}
use Rattle.records.specs.declared.header.Content.{Content}
use Rattle.records.specs.declared.header.Content.TheVariants.{One, Mixed}

-- The bit of the band at a place, counted from 0, among 4 to 8.
abbrev pub weight : ℕ → ℕ
weight place = cond (place == 0) 16 (cond (place == 1) 8 (cond (place == 2) 4 (cond (place == 3) 2 1)))

abbrev pub present : ℕ → ℕ → Bool
present mask place = mask / weight place % 2 == 1

abbrev pub no_bands : Bands
no_bands = record { count = 0; codes = replicate 5 0 }

-- One band more. There are never more than five.
abbrev pub one_band : ℕ → Bands → Bands
one_band code b = cond (nat_lt b.count 5) record { count = b.count + 1; codes = slice_set b.codes b.count code } b

abbrev pub if_present : Bool → ℕ → Bands → Bands
if_present true code b = one_band code b
if_present false code b = b

-- The bands of an image file, after those of the files before.
abbrev pub more_bands : Content → Bands → Bands
more_bands (One code) b = one_band code b
more_bands (Mixed mask) b =
    if_present (present mask 4) 8 (if_present (present mask 3) 7 (if_present (present mask 2) 6 (if_present (present mask 1) 5 (if_present (present mask 0) 4 b))))
