-- Values that the definitions give, and laws of them.
use Rattle.std.specs.Prelude.{◌≡◌, ℕ, ◌+◌, ◌-◌, ◌/◌, ◌%◌, ◌≤◌, Bool, true, false, [], ◌∷◌, map, ℤ, pos, negsuc, ◌≤ℤ◌, Ok, Err}
use Rattle.records.specs.Bands.{present}
use Rattle.records.specs.Layouts.{stride}
use Rattle.records.specs.declared.header.Content.TheVariants.{Mixed}
use Rattle.records.specs.declared.layout.Correction.TheVariants.{Uncorrected}
use Rattle.records.specs.declared.layout.Form.TheVariants.{Interleaved}
use Rattle.records.specs.declared.layout.Layout.{Layout}
use Rattle.machine.specs.Findings.{lines_in}
use Rattle.machine.specs.Machines.{missing}
use Rattle.fields.specs.Images.{count_by, signed_by, first_pixel, quality_by}
use Rattle.fields.specs.declared.image.Quality.TheVariants.{Q3}

abbrev pub third_mission : Layout
third_mission = record { form = Interleaved; mission = 3; correction = Uncorrected }

-- A count, a byte that has no six bits, two gains (-2 and -32,768), a byte of bands present (4 to 7 and no other), image block 6 of the third
-- mission, before which one line has ended and which is there where no band but 4 is, where band 6 begins, and the quality of octal 070.
abbrev pub Worked : Type 0
Worked =
    (count_by 50 40 ≡ Ok 3240)
    × (count_by 64 0 ≡ Err 47)
    × (signed_by 15 15 15 14 ≡ Ok (negsuc 1))
    × (signed_by 8 0 0 0 ≡ Ok (negsuc 32767))
    × (map (present 30) (0 ∷ 1 ∷ 2 ∷ 3 ∷ 4 ∷ []) ≡ true ∷ true ∷ true ∷ true ∷ false ∷ [])
    × (◌≡◌ {A = ℕ × Bool} (lines_in Interleaved (stride third_mission) (6 - 1) + 1, missing (Mixed 16) (6 - 1) (stride third_mission)) (2, false))
    × (first_pixel 6 ≡ Ok 84)
    × (quality_by 56 ≡ Ok Q3)

-- Every count from 0 to 4,095 has exactly one encoding.
abbrev pub OneCount : Type 0
OneCount =
    (n : ℕ) → n ≤ 4095
    → (count_by (n / 64) (n % 64) ≡ Ok n)
    × ((high low : ℕ) → count_by high low ≡ Ok n → (high ≡ n / 64) × (low ≡ n % 64))

-- Every signed number of 16 bits too: the four parts of its two's complement.
abbrev pub bits : ℤ → ℕ
bits (pos n) = n
bits (negsuc n) = 65535 - n

abbrev pub OneSigned : Type 0
OneSigned =
    (z : ℤ) → negsuc 32767 ≤ℤ z → z ≤ℤ pos 32767
    → (signed_by (bits z / 4096) (bits z / 256 % 16) (bits z / 16 % 16) (bits z % 16) ≡ Ok z)
    × ((a b c d : ℕ) → signed_by a b c d ≡ Ok z
    → (a ≡ bits z / 4096) × (b ≡ bits z / 256 % 16) × (c ≡ bits z / 16 % 16) × (d ≡ bits z % 16))
