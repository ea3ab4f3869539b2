-- The annotation records of a set.
use Rattle.std.specs.Prelude.{ℕ, zero, suc, List, [], ◌++◌, Ok, Err, codes, decimal, Option}
use Rattle.deck.specs.Tape.{TapeSet}
use Rattle.machine.specs.declared.accepted.Accepted.{Accepted}
use Rattle.reader.specs.Bodies.{Delivery, sheet_answer}
use Rattle.listing.specs.Tapes.{code_text}
use Rattle.fieldlist.specs.Records.{record_of, refused_line, annotation_lines}

-- How the record of an index of a band is called.
abbrev pub annotation_name : ℕ → ℕ → List ℕ
annotation_name code n = codes "ANNOTATION " ++ (code_text code ++ (codes " " ++ decimal n))

-- The fields of what is delivered, which is of type octal 333; or the refusal.
abbrev pub delivered_lines : List ℕ → Delivery → List ℕ
delivered_lines subject (Ok body) = annotation_lines subject (record_of 219 body)
delivered_lines subject (Err n) = refused_line subject n

-- An annotation record is a sheet of kind 3, which a reader that remembers `m` delivers into a buffer of 5,382 bytes.
abbrev pub annotation : TapeSet → Option Accepted → ℕ → ℕ → List ℕ
annotation set m code n = delivered_lines (annotation_name code n) (sheet_answer set m code 3 n 5382)

-- Those of the indexes 1 to n.
abbrev pub annotations_to : TapeSet → Option Accepted → ℕ → ℕ → List ℕ
annotations_to set m zero code = []
annotations_to set m (suc n) code = annotations_to set m n code ++ annotation set m code (suc n)
