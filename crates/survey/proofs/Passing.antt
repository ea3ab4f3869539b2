-- A record passes the checks exactly when it is written with that number and type.
use Rattle.std.proofs.Common.{◌≡◌, ℕ, ◌-◌, ◌/◌, ◌%◌, ◌≤◌, Bool, true, false, cond, eqb, List, [], ◌∷◌, length, drop, Some, None, Option, refl, arith}
use Rattle.std.proofs.lemmas.Bool.{eq-eqb, eqb-true, and_parts, and_from}
use Rattle.records.specs.Records.{byte, has_number, checked}
use Rattle.survey.specs.Recordings.{Body, record_of}

-- Four tests in a row, each with its own refusal: what is not refused has passed them all.
pub four : {X : Type 0} (a b c d : Bool) {x y r s t u : X} → (r ≡ y → ⊥) → (s ≡ y → ⊥) → (t ≡ y → ⊥) → (u ≡ y → ⊥) → cond a (cond b (cond c (cond d x r) s) t) u ≡ y → (a ≡ true) × ((b ≡ true) × ((c ≡ true) × ((d ≡ true) × (x ≡ y))))
four true true true true hr hs ht hu e = (refl, (refl, (refl, (refl, e))))
four true true true false hr hs ht hu e = absurd (hr e)
four true true false d hr hs ht hu e = absurd (hs e)
four true false c d hr hs ht hu e = absurd (ht e)
four false b c d hr hs ht hu e = absurd (hu e)

four_pass : (a b c d : Bool) → a ≡ true → b ≡ true → c ≡ true → d ≡ true → cond {A = Option ℕ} a (cond b (cond c (cond d None (Some 26)) (Some 25)) (Some 24)) (Some 23) ≡ None
four_pass a b c d p q r s = rw (p, q, r, s) refl

same : (n : ℕ) → eqb n n ≡ true
same n = eq-eqb n n refl

pub passes : (n kind : ℕ) (body : Body) (len : ℕ) → length body ≡ len - 6 → 6 ≤ len → checked (record_of n kind body) len kind n ≡ None
unfolding checked
passes n kind body len e h =
    four_pass (eqb (length (record_of n kind body)) len) (eqb 0 0) (eqb kind kind) (has_number (record_of n kind body) n)
    (eq-eqb (length (record_of n kind body)) len (omega (arith, e)))
    refl (same kind)
    (and_from _ _ (same (n / 16777216 % 256)) (and_from _ _ (same (n / 65536 % 256)) (and_from _ _ (same (n / 256 % 256)) (same (n % 256)))))

-- The other way.
spelt : (a b c d e f : ℕ) (body : List ℕ) (n kind : ℕ) → a ≡ n / 16777216 % 256 → b ≡ n / 65536 % 256 → c ≡ n / 256 % 256 → d ≡ n % 256 → e ≡ 0 → f ≡ kind → a ∷ b ∷ c ∷ d ∷ e ∷ f ∷ body ≡ record_of n kind body
spelt a b c d e f body n kind pa pb pc pd pe pf = rw (pa, pb, pc, pd, pe, pf) refl

pub record Spelt (xs : List ℕ) (len kind n : ℕ) : Type 0 where
  pub is : xs ≡ record_of n kind (drop 6 xs)
  pub long : length (drop 6 xs) ≡ len - 6

parts_of : (xs : List ℕ) (len kind n : ℕ) → checked xs len kind n ≡ None → (length xs ≡ len) × ((byte xs 5 ≡ 0) × ((byte xs 6 ≡ kind) × (has_number xs n ≡ true)))
unfolding checked
parts_of xs len kind n e =
    let f = four (eqb (length xs) len) (eqb (byte xs 5) 0) (eqb (byte xs 6) kind) (has_number xs n) (λ h. cc) (λ h. cc) (λ h. cc) (λ h. cc) e in
    (eqb-true (length xs) len f.0, (eqb-true (byte xs 5) 0 f.1.0, (eqb-true (byte xs 6) kind f.1.1.0, f.1.1.1.0)))

spelt_of : (xs : List ℕ) (len kind n : ℕ) → 6 ≤ len → length xs ≡ len → byte xs 5 ≡ 0 → byte xs 6 ≡ kind → has_number xs n ≡ true → Spelt xs len kind n
spelt_of [] len kind n h l z k m = absurd (omega arith)
spelt_of (a ∷ []) len kind n h l z k m = absurd (omega arith)
spelt_of (a ∷ b ∷ []) len kind n h l z k m = absurd (omega arith)
spelt_of (a ∷ b ∷ c ∷ []) len kind n h l z k m = absurd (omega arith)
spelt_of (a ∷ b ∷ c ∷ d ∷ []) len kind n h l z k m = absurd (omega arith)
spelt_of (a ∷ b ∷ c ∷ d ∷ x ∷ []) len kind n h l z k m = absurd (omega arith)
spelt_of (a ∷ b ∷ c ∷ d ∷ x ∷ y ∷ body) len kind n h l z k m =
    let p = and_parts (eqb a (n / 16777216 % 256)) _ m in
    let q = and_parts (eqb b (n / 65536 % 256)) _ p.1 in
    let r = and_parts (eqb c (n / 256 % 256)) (eqb d (n % 256)) q.1 in
    record {
      is = spelt a b c d x y body n kind (eqb-true a _ p.0) (eqb-true b _ q.0) (eqb-true c _ r.0) (eqb-true d _ r.1) z k;
      long = omega (arith, l);
    }

pub spells : (xs : List ℕ) (len kind n : ℕ) → 6 ≤ len → checked xs len kind n ≡ None → Spelt xs len kind n
spells xs len kind n h e = let f = parts_of xs len kind n e in spelt_of xs len kind n h f.0 f.1.0 f.1.1.0 f.1.1.1
