-- The values of fields, as text.
use Rattle.std.specs.Prelude.{ℕ, List, ◌++◌, ℤ, Some, Ok, Err, codes, decimal, Option, Result}
use Rattle.std.specs.Fmt.{signed_decimal}
use Rattle.fields.specs.Annotations.{letter as processing_letter}
use Rattle.fields.specs.Images.{quality_text as quality_name}
use Rattle.fields.specs.declared.annotation.Processing.{Processing}
use Rattle.fields.specs.declared.image.Quality.{Quality}
use Rattle.fieldlist.specs.Shown.{quoted}

abbrev pub refused : ℕ → List ℕ
refused n = codes "REFUSED " ++ decimal n

-- What a field holds, written in some way, or its refusal.
abbrev pub value : {X : Type 0} → (X → List ℕ) → Result X ℕ → List ℕ
value text (Ok x) = text x
value text (Err n) = refused n

-- The same where a way of writing may say nothing.
abbrev pub value_output : {X : Type 0} → (X → Option (List ℕ)) → Result X ℕ → Option (List ℕ)
value_output text (Ok x) = text x
value_output text (Err n) = Some (refused n)

abbrev pub part_value : Result (ℕ × List ℕ) ℕ → List ℕ
part_value = value (λ p. quoted p.1)

abbrev pub letter : Processing → List ℕ
letter = processing_letter

abbrev pub letter_value : Result Processing ℕ → List ℕ
letter_value = value letter

abbrev pub count_value : Result ℕ ℕ → List ℕ
count_value = value decimal

abbrev pub quality_text : Quality → List ℕ
quality_text = quality_name

abbrev pub quality_value : Result Quality ℕ → List ℕ
quality_value = value quality_text

abbrev pub signed_value : Result ℤ ℕ → List ℕ
signed_value = value signed_decimal
