-- Encodings of counts and signed numbers.
use Rattle.std.proofs.Common.{◌≡◌, ℕ, ◌+◌, ◌*◌, ◌/◌, ◌%◌, ◌<◌, ◌≤◌, ℤ, pos, negsuc, ◌≤ℤ◌, Ok, sym, refl, ap, ◌∙◌, arith}
use Rattle.std.proofs.lemmas.Bool.Decides.{nat_tests}
use Rattle.std.proofs.lemmas.Int.{ints}
use Rattle.fields.specs.Images.{count_by, signed, signed_by}
use Rattle.fields.specs.Laws.{OneCount, OneSigned, bits}

count_read : (n : ℕ) → n ≤ 4095 → count_by (n / 64) (n % 64) ≡ Ok n
count_read n h = grind (arith, nat_tests)

count_code : (high low n : ℕ) → count_by high low ≡ Ok n → (high ≡ n / 64) × (low ≡ n % 64)
count_code high low n e = (grind (arith, nat_tests), grind (arith, nat_tests))

pub one_count : OneCount
one_count n h = (count_read n h, λ high low. count_code high low n)

signed_read : (a b c d m : ℕ) → a < 16 → b < 16 → c < 16 → d < 16 → a * 4096 + b * 256 + c * 16 + d ≡ m → signed_by a b c d ≡ Ok (signed m)
signed_read a b c d m h i j k e = grind (arith, nat_tests)

-- The four parts of a number of 16 bits make it.
joined : (m p q r : ℕ) → p ≡ m / 4096 → q ≡ m / 256 → r ≡ m / 16 → p * 4096 + q % 16 * 256 + r % 16 * 16 + m % 16 ≡ m
joined m p q r e f g = omega arith

-- No other four do.
parts : (a b c d m : ℕ) → b < 16 → c < 16 → d < 16 → a * 4096 + b * 256 + c * 16 + d ≡ m → (a ≡ m / 4096) × (b ≡ m / 256 % 16) × (c ≡ m / 16 % 16) × (d ≡ m % 16)
parts a b c d m i j k e = (omega arith, omega arith, omega arith, omega arith)

signed-bits : (z : ℤ) → negsuc 32767 ≤ℤ z → z ≤ℤ pos 32767 → (bits z < 65536) × (signed (bits z) ≡ z)
signed-bits (pos n) l h = let b : n ≤ 32767 = omega (arith, ints) in (omega arith, grind (arith, nat_tests))
signed-bits (negsuc n) l h = let b : n ≤ 32767 = omega (arith, ints) in (omega arith, grind (arith, nat_tests))

bits-signed : (m : ℕ) → m < 65536 → bits (signed m) ≡ m
bits-signed m h = grind (arith, nat_tests)

-- What a number is told by.
record Coded (a b c d : ℕ) (z : ℤ) : Type 0 where
  pub first : a < 16
  pub second : b < 16
  pub third : c < 16
  pub fourth : d < 16
  pub is : signed (a * 4096 + b * 256 + c * 16 + d) ≡ z

coded : (a b c d : ℕ) (z : ℤ) → signed_by a b c d ≡ Ok z → Coded a b c d z
coded a b c d z e = record { first = grind (arith, nat_tests); second = grind (arith, nat_tests); third = grind (arith, nat_tests); fourth = grind (arith, nat_tests); is = grind (arith, nat_tests) }

pub one-signed : OneSigned
one-signed z l h =
    let f = signed-bits z l h in (
      signed_read (bits z / 4096) (bits z / 256 % 16) (bits z / 16 % 16) (bits z % 16) (bits z) (omega arith) (omega arith) (omega arith) (omega arith)
          (joined (bits z) (bits z / 4096) (bits z / 256) (bits z / 16) refl refl refl) ∙ ap Ok f.1,
      λ a b c d e.
          let t = coded a b c d z e in
          let m = a * 4096 + b * 256 + c * 16 + d in
          parts a b c d (bits z) t.second t.third t.fourth (sym (bits-signed m (omega arith)) ∙ ap bits t.is),
    )
