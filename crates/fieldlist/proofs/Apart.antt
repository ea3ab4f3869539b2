-- Different bytes are shown differently.
use Rattle.std.proofs.Common.{◌≡◌, ℕ, ◌/◌, ◌%◌, ◌<◌, Bool, true, false, cond, List, [], ◌∷◌, ◌++◌, sym, refl, ap, ◌∙◌, append_assoc, arith}
use Rattle.std.proofs.lemmas.Bool.Decides.{nat_tests}
use Rattle.std.specs.Fmt.{digit_glyph}
use Rattle.fieldlist.specs.Laws.{Bytes, ToldApart}
use Rattle.fieldlist.specs.Shown.{plain, shown_byte, shown}

plain-not : (b : ℕ) → plain b ≡ true → (b ≡ 34 → ⊥) × (b ≡ 92 → ⊥)
plain-not b p = (λ e. grind (arith, nat_tests), λ e. grind (arith, nat_tests))

glyph_apart : (c d : ℕ) → c < 16 → d < 16 → digit_glyph false c ≡ digit_glyph false d → c ≡ d
glyph_apart c d h i e = grind (arith, nat_tests)

-- The text of a byte, by whether it is plain.
abbrev by : Bool → ℕ → List ℕ
by p b = cond p (b ∷ []) (92 ∷ digit_glyph false (b / 16) ∷ digit_glyph false (b % 16) ∷ [])

one : (p q : Bool) (x y : ℕ) (t u : List ℕ) → plain x ≡ p → plain y ≡ q → x < 256 → y < 256 → by p x ++ t ≡ by q y ++ u → (x ≡ y) × (t ≡ u)
one true true x y t u h i k l e = let s : ◌≡◌ {A = List ℕ} (x ∷ t) (y ∷ u) = e in (cc, cc)
one true false x y t u h i k l e =
    let s : ◌≡◌ {A = List ℕ} (x ∷ t) (92 ∷ digit_glyph false (y / 16) ∷ digit_glyph false (y % 16) ∷ u) = e in
    let z : x ≡ 92 = cc in
    absurd ((plain-not x h).1 z)
one false true x y t u h i k l e =
    let s : ◌≡◌ {A = List ℕ} (92 ∷ digit_glyph false (x / 16) ∷ digit_glyph false (x % 16) ∷ t) (y ∷ u) = e in
    let z : y ≡ 92 = cc in
    absurd ((plain-not y i).1 z)
one false false x y t u h i k l e =
    let s : ◌≡◌ {A = List ℕ} (92 ∷ digit_glyph false (x / 16) ∷ digit_glyph false (x % 16) ∷ t) (92 ∷ digit_glyph false (y / 16) ∷ digit_glyph false (y % 16) ∷ u) = e in
    let high : digit_glyph false (x / 16) ≡ digit_glyph false (y / 16) = cc in
    let low : digit_glyph false (x % 16) ≡ digit_glyph false (y % 16) = cc in
    let m : x / 16 ≡ y / 16 = glyph_apart (x / 16) (y / 16) (omega arith) (omega arith) high in
    let n : x % 16 ≡ y % 16 = glyph_apart (x % 16) (y % 16) (omega arith) (omega arith) low in
    (omega (arith, m, n), cc)

-- The closing quote is no byte's text.
no_end : (q : Bool) (y : ℕ) (u : List ℕ) → plain y ≡ q → 34 ∷ [] ≡ by q y ++ u → ⊥
no_end true y u i e =
    let s : ◌≡◌ {A = List ℕ} (34 ∷ []) (y ∷ u) = e in
    let z : y ≡ 34 = cc in
    (plain-not y i).0 z
no_end false y u i e =
    let s : ◌≡◌ {A = List ℕ} (34 ∷ []) (92 ∷ digit_glyph false (y / 16) ∷ digit_glyph false (y % 16) ∷ u) = e in
    let z : ◌≡◌ {A = ℕ} 34 92 = cc in
    omega arith

step : (x : ℕ) (xs : List ℕ) → shown (x ∷ xs) ++ (34 ∷ []) ≡ by (plain x) x ++ (shown xs ++ (34 ∷ []))
step x xs = append_assoc (shown_byte x) (shown xs) (34 ∷ [])

pub apart : (xs ys : List ℕ) → Bytes xs → Bytes ys → shown xs ++ (34 ∷ []) ≡ shown ys ++ (34 ∷ []) → xs ≡ ys
apart [] [] b c e = refl
apart [] (y ∷ ys) b c e = absurd (no_end (plain y) y (shown ys ++ (34 ∷ [])) refl (e ∙ step y ys))
apart (x ∷ xs) [] b c e = absurd (no_end (plain x) x (shown xs ++ (34 ∷ [])) refl (sym e ∙ step x xs))
apart (x ∷ xs) (y ∷ ys) b c e =
    let f = one (plain x) (plain y) x y (shown xs ++ (34 ∷ [])) (shown ys ++ (34 ∷ [])) refl refl b.0 c.0 (sym (step x xs) ∙ e ∙ step y ys) in
    ap (λ z. z ∷ xs) f.0 ∙ ap (λ zs. y ∷ zs) (apart xs ys b.1 c.1 f.1)

pub told_apart : ToldApart
told_apart xs ys b c e =
    let s : ◌≡◌ {A = List ℕ} (34 ∷ (shown xs ++ (34 ∷ []))) (34 ∷ (shown ys ++ (34 ∷ []))) = e in
    apart xs ys b c (cc)
