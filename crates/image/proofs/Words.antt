-- A word and its value.
use Rattle.std.specs.Prelude.{◌≡◌, ℕ, ◌+◌, ◌/◌, ◌%◌, ◌<◌, ◌≤◌, List, [], ◌∷◌, ◌++◌, length, drop, slice_index}
use Rattle.std.proofs.Math.Nat.{div-add-mod, div-div-eq-div-mul}
use Rattle.std.proofs.Common.{arith, get_or-drop}
use Rattle.deck.specs.Words.{word, value}

-- Every element is a byte.
abbrev pub Bytes : List ℕ → Type 0
Bytes xs = (i : ℕ) → slice_index xs i < 256

pub bytes_drop : (xs : List ℕ) (n : ℕ) → Bytes xs → Bytes (drop n xs)
bytes_drop xs n h = λ i. rw get_or-drop (h (n + i))

pub value_word : (n : ℕ) (ys : List ℕ) → n < 4294967296 → value (word n ++ ys) ≡ n
value_word n ys h =
    let two : n / 256 / 256 ≡ n / 65536 = div-div-eq-div-mul n 256 256 in
    let three : n / 65536 / 256 ≡ n / 16777216 = div-div-eq-div-mul n 65536 256 in
    let top : n / 16777216 % 256 ≡ n / 16777216 = omega arith in
    omega (arith, div-add-mod n 256, rw two at (div-add-mod (n / 256) 256), rw three at (div-add-mod (n / 65536) 256), top)

pub word_value : (xs : List ℕ) → Bytes xs → 4 ≤ length xs → xs ≡ word (value xs) ++ drop 4 xs
word_value [] b l = absurd (omega arith)
word_value (p ∷ []) b l = absurd (omega arith)
word_value (p ∷ q ∷ []) b l = absurd (omega arith)
word_value (p ∷ q ∷ r ∷ []) b l = absurd (omega arith)
word_value (p ∷ q ∷ r ∷ s ∷ xs) b l =
    let hp : p < 256 = b 0 in
    let hq : q < 256 = b 1 in
    let hr : r < 256 = b 2 in
    let hs : s < 256 = b 3 in
    let v = value (p ∷ q ∷ r ∷ s ∷ xs) in
    let ep : p ≡ v / 16777216 % 256 = omega arith in
    let eq : q ≡ v / 65536 % 256 = omega arith in
    let er : r ≡ v / 256 % 256 = omega arith in
    let es : s ≡ v % 256 = omega arith in
    cc
