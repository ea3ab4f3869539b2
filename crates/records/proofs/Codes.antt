-- The bands of an image file, place by place.
use Rattle.std.proofs.Common.{◌≡◌, ℕ, zero, suc, ◌+◌, Bool, ap, add-one}
use Rattle.records.specs.Bands.{present, if_present}
use Rattle.records.specs.declared.bands.Bands.{Bands}

-- After those of the files before, the bands that are present below a place.
abbrev pub bands_below : ℕ → ℕ → Bands → Bands
bands_below mask zero b = b
bands_below mask (suc place) b = if_present (present mask place) (4 + place) (bands_below mask place b)

pub bands_more : (mask place : ℕ) (b : Bands) (there : Bool) → there ≡ present mask place → if_present there (4 + place) (bands_below mask place b) ≡ bands_below mask (place + 1) b
bands_more mask place b there e = rw add-one (ap (λ t. if_present t (4 + place) (bands_below mask place b)) e)
