-- Records that are put together from bodies.
use Rattle.std.proofs.Common.{◌≡◌, ℕ, List, [], ◌∷◌, drop, sym, refl, ap, ◌∙◌, arith}
use Rattle.records.specs.Records.{byte}
use Rattle.fieldlist.specs.Laws.{SameAnnotation, SameImage}
use Rattle.fieldlist.specs.Records.{record_of, annotation_lines, image_lines}

-- A record of a type that is not 0 has six bytes and a body.
module _ (text : List ℕ → List ℕ) (kind : ℕ) (blind : (a b c d e : ℕ) (body : List ℕ) → text (record_of kind body) ≡ text (a ∷ b ∷ c ∷ d ∷ e ∷ kind ∷ body)) where
  pub rebuilt : (xs : List ℕ) → byte xs 6 ≡ kind → (kind ≡ 0 → ⊥) → text (record_of kind (drop 6 xs)) ≡ text xs
  rebuilt [] e some = absurd (some (sym e))
  rebuilt (a ∷ []) e some = absurd (some (sym e))
  rebuilt (a ∷ b ∷ []) e some = absurd (some (sym e))
  rebuilt (a ∷ b ∷ c ∷ []) e some = absurd (some (sym e))
  rebuilt (a ∷ b ∷ c ∷ d ∷ []) e some = absurd (some (sym e))
  rebuilt (a ∷ b ∷ c ∷ d ∷ i ∷ []) e some = absurd (some (sym e))
  rebuilt (a ∷ b ∷ c ∷ d ∷ i ∷ k ∷ body) e some = blind a b c d i body ∙ ap (λ x. text (a ∷ b ∷ c ∷ d ∷ i ∷ x ∷ body)) (sym e)

pub same_annotation : SameAnnotation
same_annotation subject xs e = rebuilt (annotation_lines subject) 219 (λ a b c d i body. refl) xs e (λ z. omega arith)

pub same_image : SameImage
same_image subject xs e = rebuilt (image_lines subject) 237 (λ a b c d i body. refl) xs e (λ z. omega arith)
