-- The fields of an uncorrected image record of the scanner.
use Rattle.std.specs.Prelude.{ℕ, ◌+◌, ◌-◌, ◌*◌, Bool, cond, ◌&&◌, List, length, ℤ, pos, negsuc, Ok, Err, Result, codes, ◌==◌, nat_le, nat_lt}
use Rattle.records.specs.Records.{byte}
use Rattle.fields.specs.Faults.{part_of}
use Rattle.fields.specs.declared.image.Quality.{Quality}
use Rattle.fields.specs.declared.image.Quality.TheVariants.{Q0, Q1, Q2, Q3}

-- Its length is 3,596, and its type octal 355.
abbrev pub is_image : List ℕ → Bool
is_image xs = length xs == 3596 && byte xs 6 == 237

-- Six bits in each of two bytes.
abbrev pub count_by : ℕ → ℕ → Result ℕ ℕ
count_by high low = cond (nat_lt high 64 && nat_lt low 64) (Ok (high * 64 + low)) (Err 47)

abbrev pub pixel_count : List ℕ → Result ℕ ℕ
pixel_count xs = cond (is_image xs) (count_by (byte xs 3561) (byte xs 3562)) (Err 48)

-- Octal 000, 077, 007 and 070.
abbrev pub quality_by : ℕ → Result Quality ℕ
quality_by code = cond (code == 0) (Ok Q0) (cond (code == 63) (Ok Q1) (cond (code == 7) (Ok Q2) (cond (code == 56) (Ok Q3) (Err 47))))

abbrev pub quality_text : Quality → List ℕ
quality_text Q0 = codes "Q0"
quality_text Q1 = codes "Q1"
quality_text Q2 = codes "Q2"
quality_text Q3 = codes "Q3"

abbrev pub quality : List ℕ → Result Quality ℕ
quality xs = cond (is_image xs) (quality_by (byte xs 3563)) (Err 48)

-- Sixteen bits as a number in two's complement.
abbrev pub signed : ℕ → ℤ
signed n = cond (nat_lt n 32768) (pos n) (negsuc (65535 - n))

-- Four bits in each of four bytes.
abbrev pub signed_by : ℕ → ℕ → ℕ → ℕ → Result ℤ ℕ
signed_by a b c d = cond (nat_lt a 16 && (nat_lt b 16 && (nat_lt c 16 && nat_lt d 16))) (Ok (signed (a * 4096 + b * 256 + c * 16 + d))) (Err 47)

abbrev pub signed_at : List ℕ → ℕ → Result ℤ ℕ
signed_at xs first = cond (is_image xs) (signed_by (byte xs first) (byte xs (first + 1)) (byte xs (first + 2)) (byte xs (first + 3))) (Err 48)

abbrev pub gain : List ℕ → Result ℤ ℕ
gain xs = signed_at xs 3577

abbrev pub bias : List ℕ → Result ℤ ℕ
bias xs = signed_at xs 3581

-- Band 8 begins at byte 13, and the others behind fill of 75, 73, 71 and 69 bytes.
abbrev pub first_pixel : ℕ → Result ℕ ℕ
first_pixel band =
    cond (band == 4) (Ok (13 + 75))
    (cond (band == 5) (Ok (13 + 73))
    (cond (band == 6) (Ok (13 + 71))
    (cond (band == 7) (Ok (13 + 69))
    (cond (band == 8) (Ok 13) (Err 42)))))

-- As many pixels as the count says, which end by byte 3560.
abbrev pub pixels_on : List ℕ → ℕ → Result ℕ ℕ → Result (ℕ × List ℕ) ℕ
pixels_on xs first (Ok count) = cond (nat_le (first + count) 3561) (Ok (part_of xs first count)) (Err 47)
pixels_on xs first (Err n) = Err n

abbrev pub pixels_from : List ℕ → Result ℕ ℕ → Result (ℕ × List ℕ) ℕ
pixels_from xs (Ok first) = pixels_on xs first (count_by (byte xs 3561) (byte xs 3562))
pixels_from xs (Err n) = Err n

abbrev pub pixels : List ℕ → ℕ → Result (ℕ × List ℕ) ℕ
pixels xs band = cond (is_image xs) (pixels_from xs (first_pixel band)) (Err 48)
