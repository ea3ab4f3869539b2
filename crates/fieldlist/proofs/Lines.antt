-- Lines of fields.
use Rattle.std.proofs.Common.{◌≡◌, ℕ, Some, Ok, Err, List, IfSome, Result, ap, ◌∙◌}
use Rattle.fieldlist.specs.Records.{field_line}
use Rattle.fieldlist.specs.Values.{part_value, value, value_output}

-- A line of what a field reader answers is the line of the field of its record.
pub known : {X : Type 0} (text : X → List ℕ) (field : List ℕ → Result X ℕ) (subject name line : List ℕ) (r : Result X ℕ) (ys xs : List ℕ)
    → IfSome (value_output (λ x. Some (text x)) r) (λ v. line ≡ field_line subject name v) → r ≡ field ys → ys ≡ xs → line ≡ field_line subject name (value text (field xs))
known text field subject name line (Ok x) ys xs e f g = e ∙ ap (λ z. field_line subject name (value text z)) (f ∙ ap field g)
known text field subject name line (Err n) ys xs e f g = e ∙ ap (λ z. field_line subject name (value text z)) (f ∙ ap field g)

pub known_part : (field : List ℕ → Result (ℕ × List ℕ) ℕ) (subject name line : List ℕ) (r : Result (ℕ × List ℕ) ℕ) (ys xs : List ℕ)
    → line ≡ field_line subject name (part_value r) → r ≡ field ys → ys ≡ xs → line ≡ field_line subject name (part_value (field xs))
known_part field subject name line r ys xs e f g = e ∙ ap (λ z. field_line subject name (part_value z)) (f ∙ ap field g)
