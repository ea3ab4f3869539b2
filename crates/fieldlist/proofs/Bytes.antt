-- Bytes as text.
use Rattle.std.proofs.Common.{◌≡◌, ℕ, ◌+◌, ◌<◌, List, [], ◌∷◌, ◌++◌, length, get_or, take, sym, refl, ap, ◌∙◌, append_assoc, append-nil}
use Rattle.std.proofs.lemmas.List.{take_more}
use Rattle.fieldlist.specs.Shown.{shown_byte, shown}

shown-append : (xs ys : List ℕ) → shown (xs ++ ys) ≡ shown xs ++ shown ys
shown-append [] ys = refl
shown-append (x ∷ xs) ys = ap (λ t. shown_byte x ++ t) (shown-append xs ys) ∙ sym (append_assoc (shown_byte x) (shown xs) (shown ys))

-- One byte more.
pub shown-take : (xs : List ℕ) (i : ℕ) → i < length xs → (34 ∷ shown (take i xs)) ++ shown_byte (get_or xs i 0) ≡ 34 ∷ shown (take (i + 1) xs)
shown-take xs i h =
    ap (λ t. 34 ∷ t)
    (ap (λ t. shown (take i xs) ++ t) (sym (append-nil (shown_byte (get_or xs i 0))))
    ∙ sym (shown-append (take i xs) (get_or xs i 0 ∷ []))
    ∙ ap shown (sym (take_more xs i 0 h)))
