-- The fields of one record, a line for each.
use Rattle.std.specs.Prelude.{ℕ, List, ◌∷◌, ◌++◌, codes, decimal}
use Rattle.fields.specs.Annotations.{exposure_date, centre, path_and_row, nominal_centre, frame, processing}
use Rattle.fields.specs.Images.{pixel_count, quality, gain, bias}
use Rattle.fieldlist.specs.Values.{part_value, letter_value, count_value, quality_value, signed_value}

-- A record by its type and its body. Fields do not depend on its number, which is left 0.
abbrev pub record_of : ℕ → List ℕ → List ℕ
record_of kind body = 0 ∷ 0 ∷ 0 ∷ 0 ∷ 0 ∷ kind ∷ body

-- A line: the record that is spoken of, the field's name and its value.
abbrev pub field_line : List ℕ → List ℕ → List ℕ → List ℕ
field_line subject name value = subject ++ (codes " " ++ (name ++ (codes " " ++ (value ++ codes "\n"))))

abbrev pub refused_line : List ℕ → ℕ → List ℕ
refused_line subject n = subject ++ (codes " REFUSED " ++ (decimal n ++ codes "\n"))

abbrev pub annotation_lines : List ℕ → List ℕ → List ℕ
annotation_lines subject xs =
    field_line subject (codes "DATE") (part_value (exposure_date xs))
    ++ (field_line subject (codes "CENTRE") (part_value (centre xs))
    ++ (field_line subject (codes "PATH") (part_value (path_and_row xs))
    ++ (field_line subject (codes "NOMINAL") (part_value (nominal_centre xs))
    ++ (field_line subject (codes "FRAME") (part_value (frame xs)) ++ field_line subject (codes "CORRECTION") (letter_value (processing xs))))))

abbrev pub image_lines : List ℕ → List ℕ → List ℕ
image_lines subject xs =
    field_line subject (codes "PIXELS") (count_value (pixel_count xs))
    ++ (field_line subject (codes "QUALITY") (quality_value (quality xs))
    ++ (field_line subject (codes "GAIN") (signed_value (gain xs)) ++ field_line subject (codes "BIAS") (signed_value (bias xs))))
