-- What the code of directories rests on.
use Rattle.std.proofs.Common.{◌≡◌, ℕ, zero, suc, ◌+◌, ◌<◌, Bool, ◌&&◌, ◌==◌, List, length, get_or, take, drop, ap, arith, length-drop, take_all, drop-cons}
use Rattle.std.proofs.Math.Bool.{and-true}
use Rattle.std.specs.List.{list_all}
use Rattle.records.specs.Directories.{blank}

-- Behind the first 19 bytes a directory has 341.
pub rest : (xs : List ℕ) → length xs ≡ 360 → take 341 (drop 19 xs) ≡ drop 19 xs
rest xs l = take_all 341 (drop 19 xs) (rw length-drop (omega arith))

-- One test of a byte and of so many behind it.
abbrev each : (ℕ → Bool) → List ℕ → ℕ → ℕ → Bool
each p xs i zero = p (get_or xs i 0)
each p xs i (suc n) = p (get_or xs i 0) && each p xs (suc i) n

all_each : (p : ℕ → Bool) (xs : List ℕ) (i n : ℕ) → i + n < length xs → list_all p (take (suc n) (drop i xs)) ≡ each p xs i n
all_each p xs i zero h = rw (drop-cons xs i 0 (omega arith)) (and-true (p (get_or xs i 0)))
all_each p xs i (suc n) h = rw (drop-cons xs i 0 (omega arith)) (ap (λ b. p (get_or xs i 0) && b) (all_each p xs (suc i) n (omega arith)))

pub blank_all : (xs : List ℕ) → length xs ≡ 360 → list_all (λ x. x == 32) (take 6 (drop 20 xs)) ≡ blank xs
blank_all xs l = all_each (λ x. x == 32) xs 20 5 (omega arith)
