-- The search for a band's code, and for the reel of an image block.
use Rattle.std.proofs.Common.{◌≡◌, ℕ, zero, suc, ◌+◌, ◌-◌, Bool, true, false, cond, not, eqb, ltb, leb, List, [], ◌∷◌, length, get_or, Some, None, Option, refl, ap, arith}
use Rattle.std.specs.List.{position, position_or_len}
use Rattle.reader.specs.Finding.{index_of, spot, image_on}
use Rattle.reader.specs.declared.places.Spot.{Spot}

-- The place of a code, as the library counts it.
abbrev found : ℕ → ℕ → ℕ → Option ℕ
found n l i = cond (ltb n l) (Some (i + n)) None

index_from : (code : ℕ) (xs : List ℕ) (i : ℕ) → index_of code xs i ≡ found (position_or_len (λ x. eqb x code) xs) (length xs) i
index_from code [] i = refl
index_from code (x ∷ xs) i = either (eqb x code) (index_from code xs (i + 1))
  where
    either : (b : Bool) → index_of code xs (i + 1) ≡ found (position_or_len (λ x. eqb x code) xs) (length xs) (i + 1) → cond b (Some i) (index_of code xs (i + 1)) ≡ found (cond (not b) (1 + position_or_len (λ x. eqb x code) xs) 0) (length (x ∷ xs)) i
    either true again = grind arith
    either false again = grind (arith, again)

pub index_is : (code : ℕ) (xs : List ℕ) → position (λ x. eqb x code) xs ≡ index_of code xs 0
index_is code xs = let again = index_from code xs 0 in grind (arith, again)

-- The reel of an image block.
abbrev image_at : ℕ → ℕ → ℕ → List ℕ → ℕ → Option Spot
image_at k before reel xs n = cond (ltb n (length xs)) (Some (spot (reel + n) (k - get_or (before ∷ xs) n 0))) None

image_from : (k before reel : ℕ) (xs : List ℕ) → image_on k before reel xs ≡ image_at k before reel xs (position_or_len (leb k) xs)
image_from k before reel [] = refl
image_from k before reel (t ∷ ts) = either (leb k t) (image_from k t (reel + 1) ts)
  where
    either : (b : Bool) → image_on k t (reel + 1) ts ≡ image_at k t (reel + 1) ts (position_or_len (leb k) ts) → cond b (Some (spot reel (k - before))) (image_on k t (reel + 1) ts) ≡ image_at k before reel (t ∷ ts) (cond (not b) (1 + position_or_len (leb k) ts) 0)
    either true again = grind arith
    either false again = grind (arith, again)

pub image_none : (k : ℕ) (xs : List ℕ) → position (leb k) xs ≡ None → image_on k 0 1 xs ≡ None
image_none k xs e = let again = image_from k 0 1 xs in grind (arith, again, e)

pub image_some : (k : ℕ) (xs : List ℕ) (i : ℕ) → position (leb k) xs ≡ Some i → image_on k 0 1 xs ≡ Some (spot (i + 1) (k - get_or (0 ∷ xs) i 0))
image_some k xs i e = let again = image_from k 0 1 xs in grind (arith, again, e)

pub shifted : (x : ℕ) (xs : List ℕ) (i : ℕ) → (i ≡ 0 → ⊥) → get_or xs (i - 1) 0 ≡ get_or (x ∷ xs) i 0
shifted x xs zero some = absurd (some refl)
shifted x xs (suc i) some = let e : suc i - 1 ≡ i = omega arith in ap (λ k. get_or xs k 0) e
