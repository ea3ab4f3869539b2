-- Results read one behind the other.
use Rattle.std.specs.Prelude.{◌≡◌, ℕ, zero, suc, ◌+◌, ◌-◌, ◌*◌, ◌<◌, List, [], ◌∷◌, length, true, is_ok, Ok, Err, slice_index_or, refl}
use Rattle.std.proofs.Common.{sym, ap, ◌∙◌, mul-suc, mul-zero, add-one, arith}
use Rattle.image.specs.Stored.{Verdict}
use Rattle.image.specs.Indexed.{and_then, passed, row}

-- Where a chain of verdicts refuses nothing, none of its parts does.
pub and_then_ok : {X Y : Type 0} (v : Verdict X) (f : X → Verdict Y) (y : Y) → and_then v f ≡ Ok y → (x : X) × (v ≡ Ok x) × (f x ≡ Ok y)
and_then_ok (Ok x) f y e = (x, refl, e)
and_then_ok (Err z) f y e = let n : ◌≡◌ {A = ℕ} 0 1 = cc in absurd (omega arith)

pub passed_ok : {X : Type 0} (v : Verdict X) → passed v ≡ Ok tt → is_ok v ≡ true
passed_ok (Ok x) e = refl
passed_ok (Err z) e = let n : ◌≡◌ {A = ℕ} 0 1 = cc in absurd (omega arith)

-- And what refuses without its result refuses.
pub passed_err : {X : Type 0} (v : Verdict X) (e : ℕ × ℕ) → passed v ≡ Err e → v ≡ Err e
passed_err (Ok x) e h = let n : ◌≡◌ {A = ℕ} 0 1 = cc in absurd (omega arith)
passed_err (Err z) e h = cc

-- Verdicts one behind the other, grouped the other way.
regrouped : {X Y Z : Type 0} (v : Verdict X) (g : X → Y) (f : Y → Verdict Z) (h : X → Verdict Z) → ((x : X) → f (g x) ≡ h x) → and_then (and_then v (λ x. Ok (g x))) f ≡ and_then v h
regrouped (Ok x) g f h e = e x
regrouped (Err z) g f h e = refl

-- The next place of a row.
next_place : (at step i : ℕ) → at + step + step * i ≡ at + step * suc i
next_place at step i = omega (arith, mul-suc step i)

module _ {X : Type 0} (read : ℕ → Verdict X) (step : ℕ) where
  -- A row is its first result and the row behind it.
  row_cons : (at n : ℕ) (xs : List X) → row read step at (suc n) ≡ Ok xs → (x : X) × (more : List X) × (read at ≡ Ok x) × (row read step (at + step) n ≡ Ok more) × (xs ≡ x ∷ more)
  row_cons at n xs e =
      let f = and_then_ok (read at) (λ x. and_then (row read step (at + step) n) (λ more. Ok (x ∷ more))) xs e in
      let m = and_then_ok (row read step (at + step) n) (λ more. Ok (f.0 ∷ more)) xs f.2 in
      let is : xs ≡ f.0 ∷ m.0 = let e2 = m.2 in cc in
      (f.0, m.0, f.1, m.1, is)

  first_place : (at : ℕ) → at + step * 0 ≡ at
  first_place at = omega (arith, mul-zero step)

  -- A row has as many results as were asked for, each read at its place.
  pub row_length : (at n : ℕ) (xs : List X) → row read step at n ≡ Ok xs → length xs ≡ n
  row_length at zero xs e = let is : xs ≡ [] = cc in ap length is
  row_length at (suc n) xs e =
      let r = row_cons at n xs e in
      ap length r.4 ∙ ap suc (row_length (at + step) n r.1 r.3)

  pub row_at : (at n : ℕ) (xs : List X) (i : ℕ) (d : X) → row read step at n ≡ Ok xs → i < n → read (at + step * i) ≡ Ok (slice_index_or xs i d)
  row_at at zero xs i d e h = absurd (omega arith)
  row_at at (suc n) xs zero d e h =
      let r = row_cons at n xs e in
      ap read (first_place at) ∙ r.2 ∙ ap (λ t. Ok (slice_index_or t 0 d)) (sym r.4)
  row_at at (suc n) xs (suc i) d e h =
      let r = row_cons at n xs e in
      ap read (sym (next_place at step i)) ∙ row_at (at + step) n r.1 i d r.3 (omega arith) ∙ ap (λ t. Ok (slice_index_or t (suc i) d)) (sym r.4)

  -- A row of which each result is read.
  pub row_from : (at : ℕ) (xs : List X) (d : X) → ((i : ℕ) → i < length xs → read (at + step * i) ≡ Ok (slice_index_or xs i d)) → row read step at (length xs) ≡ Ok xs
  row_from at [] d h = refl
  row_from at (x ∷ xs) d h =
      let first : read at ≡ Ok x = ap read (sym (first_place at)) ∙ h 0 (omega arith) in
      let rest = row_from (at + step) xs d (λ i l. ap read (next_place at step i) ∙ h (suc i) (omega arith)) in
      ap (λ v. and_then v (λ y. and_then (row read step (at + step) (length xs)) (λ more. Ok (y ∷ more)))) first
      ∙ ap (λ v. and_then v (λ more. Ok (x ∷ more))) rest

  -- What is left of a row behind some of its results: the next result is read, or refused.
  pub row_on : {Y : Type 0} (f g : List X → Verdict Y) (at n i : ℕ) (x : X) → i < n → read (at + step * i) ≡ Ok x → ((more : List X) → f (x ∷ more) ≡ g more) → and_then (row read step (at + step * i) (n - i)) f ≡ and_then (row read step (at + step * (i + 1)) (n - (i + 1))) g
  row_on f g at n i x h e same =
      let here = at + step * i in
      let left : n - i ≡ suc (n - (i + 1)) = omega arith in
      let on : here + step ≡ at + step * (i + 1) = omega (arith, ap (λ k. step * k) (add-one i), mul-suc step i) in
      ap (λ k. and_then (row read step here k) f) left
      ∙ ap (λ v. and_then (and_then v (λ y. and_then (row read step (here + step) (n - (i + 1))) (λ more. Ok (y ∷ more)))) f) e
      ∙ regrouped (row read step (here + step) (n - (i + 1))) (λ more. x ∷ more) f g same
      ∙ ap (λ k. and_then (row read step k (n - (i + 1))) g) on

  pub row_stops : {Y : Type 0} (f : List X → Verdict Y) (at n i : ℕ) (e : ℕ × ℕ) → i < n → read (at + step * i) ≡ Err e → and_then (row read step (at + step * i) (n - i)) f ≡ Err e
  row_stops f at n i e h is =
      let here = at + step * i in
      let left : n - i ≡ suc (n - (i + 1)) = omega arith in
      ap (λ k. and_then (row read step here k) f) left
      ∙ ap (λ v. and_then (and_then v (λ y. and_then (row read step (here + step) (n - (i + 1))) (λ more. Ok (y ∷ more)))) f) is
