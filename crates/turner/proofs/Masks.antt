-- The bands present, by five choices, and the byte that tells them.
use Rattle.std.proofs.Common.{◌≡◌, ℕ, ◌+◌, ◌%◌, ◌<◌, ◌≤◌, Bool, true, false, cond, eqb, ltb, List, [], ◌∷◌, ◌++◌, map, length, refl, ap, ◌∙◌, subst, ⊎_elim, arith}
use Rattle.std.proofs.lemmas.Bool.{cases_lt}
use Rattle.survey.specs.Pictures.{places_in}
use Rattle.reader.proofs.Proper.{From}
use Rattle.turner.specs.Changes.{mask_of}

abbrev pick : Bool → ℕ → List ℕ
pick b c = cond b (c ∷ []) []

-- The codes that are chosen.
abbrev pub chosen : Bool → Bool → Bool → Bool → Bool → List ℕ
chosen a b c d e = pick a 4 ++ (pick b 5 ++ (pick c 6 ++ (pick d 7 ++ pick e 8)))

-- Codes up to a bound.
abbrev pub Upto : ℕ → List ℕ → Type 0
Upto n [] = Unit {0}
Upto n (c ∷ cs) = (c ≤ n) × Upto n cs

record Picked (k n : ℕ) (cs : List ℕ) : Type 0 where
  choice : Bool
  rest : List ℕ
  is : cs ≡ pick choice k ++ rest
  from : From (k + 1) rest
  upto : Upto n rest

picked : (k n : ℕ) (cs : List ℕ) → From k cs → Upto n cs → Picked k n cs
picked k n [] f u = record { choice = false; rest = []; is = refl; from = tt; upto = tt }
picked k n (c ∷ cs) f u =
    ⊎_elim
    (λ (h : k < c). record { choice = false; rest = c ∷ cs; is = refl; from = (omega (arith, h), f.1); upto = u })
    (λ (h : c ≤ k). let low = f.0 in let same : c ≡ k = omega (arith, h, low) in record { choice = true; rest = cs; is = ap (λ x. x ∷ cs) same; from = subst (λ x. From (x + 1) cs) same f.1; upto = u.1 })
    (cases_lt k c)

none_left : (cs : List ℕ) → From 9 cs → Upto 8 cs → cs ≡ []
none_left [] f u = refl
none_left (c ∷ cs) f u = let a = f.0 in let b = u.0 in absurd (omega (arith, a, b))

pub record Chosen (cs : List ℕ) : Type 0 where
  pub four : Bool
  pub five : Bool
  pub six : Bool
  pub seven : Bool
  pub eight : Bool
  pub is : cs ≡ chosen four five six seven eight

pub choose : (cs : List ℕ) → From 4 cs → Upto 8 cs → Chosen cs
choose cs f u =
    let a = picked 4 8 cs f u in
    let b = picked 5 8 a.rest a.from a.upto in
    let c = picked 6 8 b.rest b.from b.upto in
    let d = picked 7 8 c.rest c.from c.upto in
    let e = picked 8 8 d.rest d.from d.upto in
    let end = e.is ∙ ap (λ x. pick e.choice 8 ++ x) (none_left e.rest e.from e.upto) ∙ last e.choice in
    record {
      four = a.choice;
      five = b.choice;
      six = c.choice;
      seven = d.choice;
      eight = e.choice;
      is = a.is ∙ ap (λ x. pick a.choice 4 ++ x) (b.is ∙ ap (λ x. pick b.choice 5 ++ x) (c.is ∙ ap (λ x. pick c.choice 6 ++ x) (d.is ∙ ap (λ x. pick d.choice 7 ++ x) end)));
    }
  where
    last : (b : Bool) → pick b 8 ++ [] ≡ pick b 8
    last true = refl
    last false = refl

-- The byte of these bands tells them again.
pub told_again : (a b c d e : Bool) → map (λ p. 4 + p) (places_in (mask_of (chosen a b c d e))) ≡ chosen a b c d e
told_again true true true true true = refl
told_again true true true true false = refl
told_again true true true false true = refl
told_again true true true false false = refl
told_again true true false true true = refl
told_again true true false true false = refl
told_again true true false false true = refl
told_again true true false false false = refl
told_again true false true true true = refl
told_again true false true true false = refl
told_again true false true false true = refl
told_again true false true false false = refl
told_again true false false true true = refl
told_again true false false true false = refl
told_again true false false false true = refl
told_again true false false false false = refl
told_again false true true true true = refl
told_again false true true true false = refl
told_again false true true false true = refl
told_again false true true false false = refl
told_again false true false true true = refl
told_again false true false true false = refl
told_again false true false false true = refl
told_again false true false false false = refl
told_again false false true true true = refl
told_again false false true true false = refl
told_again false false true false true = refl
told_again false false true false false = refl
told_again false false false true true = refl
told_again false false false true false = refl
told_again false false false false true = refl
told_again false false false false false = refl

-- It is below 32, above 0 where a band is present, and even where band 8 is not.
pub small_mask : (a b c d e : Bool) → ltb (mask_of (chosen a b c d e)) 32 ≡ true
small_mask true true true true true = refl
small_mask true true true true false = refl
small_mask true true true false true = refl
small_mask true true true false false = refl
small_mask true true false true true = refl
small_mask true true false true false = refl
small_mask true true false false true = refl
small_mask true true false false false = refl
small_mask true false true true true = refl
small_mask true false true true false = refl
small_mask true false true false true = refl
small_mask true false true false false = refl
small_mask true false false true true = refl
small_mask true false false true false = refl
small_mask true false false false true = refl
small_mask true false false false false = refl
small_mask false true true true true = refl
small_mask false true true true false = refl
small_mask false true true false true = refl
small_mask false true true false false = refl
small_mask false true false true true = refl
small_mask false true false true false = refl
small_mask false true false false true = refl
small_mask false true false false false = refl
small_mask false false true true true = refl
small_mask false false true true false = refl
small_mask false false true false true = refl
small_mask false false true false false = refl
small_mask false false false true true = refl
small_mask false false false true false = refl
small_mask false false false false true = refl
small_mask false false false false false = refl

pub some_mask : (a b c d e : Bool) → 1 ≤ length (chosen a b c d e) → ltb 0 (mask_of (chosen a b c d e)) ≡ true
some_mask true true true true true h = refl
some_mask true true true true false h = refl
some_mask true true true false true h = refl
some_mask true true true false false h = refl
some_mask true true false true true h = refl
some_mask true true false true false h = refl
some_mask true true false false true h = refl
some_mask true true false false false h = refl
some_mask true false true true true h = refl
some_mask true false true true false h = refl
some_mask true false true false true h = refl
some_mask true false true false false h = refl
some_mask true false false true true h = refl
some_mask true false false true false h = refl
some_mask true false false false true h = refl
some_mask true false false false false h = refl
some_mask false true true true true h = refl
some_mask false true true true false h = refl
some_mask false true true false true h = refl
some_mask false true true false false h = refl
some_mask false true false true true h = refl
some_mask false true false true false h = refl
some_mask false true false false true h = refl
some_mask false true false false false h = refl
some_mask false false true true true h = refl
some_mask false false true true false h = refl
some_mask false false true false true h = refl
some_mask false false true false false h = refl
some_mask false false false true true h = refl
some_mask false false false true false h = refl
some_mask false false false false true h = refl
some_mask false false false false false h = absurd (omega (arith, h))

pub even_mask : (a b c d : Bool) → eqb (mask_of (chosen a b c d false) % 2) 0 ≡ true
even_mask true true true true = refl
even_mask true true true false = refl
even_mask true true false true = refl
even_mask true true false false = refl
even_mask true false true true = refl
even_mask true false true false = refl
even_mask true false false true = refl
even_mask true false false false = refl
even_mask false true true true = refl
even_mask false true true false = refl
even_mask false true false true = refl
even_mask false true false false = refl
even_mask false false true true = refl
even_mask false false true false = refl
even_mask false false false true = refl
even_mask false false false false = refl
