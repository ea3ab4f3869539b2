-- What a reader's call delivered into a buffer.
use Rattle.std.proofs.Common.{◌≡◌, ℕ, zero, suc, ◌+◌, ◌-◌, ◌<◌, ◌≤◌, Bool, true, List, [], ◌∷◌, ◌++◌, length, get_or, take, drop, replicate, Some, Ok, Err, Option, Result, sym, refl, ap, ◌∙◌, append_assoc, append-nil, arith}
use lib.ListN.{length-replicate}
use Rattle.std.proofs.lemmas.List.{take_at, take_more}
use Rattle.std.proofs.lemmas.Bool.{cond-true}
use Rattle.deck.specs.Tape.{TapeSet}
use Rattle.records.specs.Layouts.{annotations}
use Rattle.machine.specs.declared.accepted.Accepted.{Accepted}
use Rattle.survey.specs.Surveys.{Fault}
use Rattle.reader.specs.Bodies.{Delivery, told, told_delivery, buffer_after, outline, survey_answer, accepted_by}
use Rattle.reader.specs.Refusals.{told_refusal}
use Rattle.reader.specs.declared.call.Outline.{Outline}
use Rattle.reader.specs.declared.refusal.Refusal.{Refusal}
use Rattle.listing.specs.Tapes.{each, present}
use Rattle.fieldlist.specs.List.{Remembered}
use Rattle.fieldlist.specs.Measured.{delivered_line, wanted_text}
use Rattle.fieldlist.specs.Records.{record_of, refused_line, image_lines}
use Rattle.fieldlist.specs.Sheets.{annotation, annotations_to}
use Rattle.fieldlist.specs.Tapes.{survey_text}
use Rattle.fieldlist.specs.declared.measured.Wanted.{Wanted}

-- A fresh buffer for a body.
abbrev pub zeros : List ℕ
zeros = replicate 5382 0

pub room : length zeros ≡ 5382
room = length-replicate {A = ℕ} 5382 0

pub record Delivered (d : Delivery) (n : ℕ) : Type 0 where
  pub body : List ℕ
  pub is : d ≡ Ok body
  pub long : length body ≡ n

pub delivered : (d : Delivery) (r : Result ℕ Refusal) (n : ℕ) → told r ≡ told_delivery d → r ≡ Ok n → Delivered d n
delivered (Ok body) r n e ok =
    let s : ◌≡◌ {A = Result ℕ Fault} (Ok n) (Ok (length body)) = sym (ap told ok) ∙ e in
    record { body = body; is = refl; long = cc }
delivered (Err k) r n e ok = let z : ◌≡◌ {A = ℕ} 0 1 = cc in absurd (omega arith)

-- It stands at the front of the buffer.
pub delivered_body : (d : Delivery) (n : ℕ) (buffer after : List ℕ) (p : Delivered d n) → after ≡ buffer_after d buffer → take n after ≡ p.body
delivered_body d n buffer after p e =
    ap (take n) (e ∙ ap (λ x. buffer_after x buffer) p.is) ∙ take_at p.body (drop (length p.body) buffer) n p.long

-- A refusal's number.
pub refused_by : (d : Delivery) (r : Result ℕ Refusal) (f : Refusal) → told r ≡ told_delivery d → r ≡ Err f → d ≡ Err (told_refusal f).0
refused_by (Ok body) r f e err = let z : ◌≡◌ {A = ℕ} 0 1 = cc in absurd (omega arith)
refused_by (Err k) r f e err =
    let s : ◌≡◌ {A = Result ℕ Fault} (Err (told_refusal f)) (Err (k, 0, 0, 0)) = sym (ap told err) ∙ e in
    let t : told_refusal f ≡ (k, 0, 0, 0) = cc in
    ap Err (sym (ap (λ (x : Fault). x.0) t))

-- The text of a record that was delivered, and of one that was refused.
pub read_text : (kind : ℕ) (lines : List ℕ → List ℕ → List ℕ) (subject name record₁ : List ℕ) (d : Delivery) (n : ℕ) (buffer after : List ℕ) (p : Delivered d n) → after ≡ buffer_after d buffer → subject ≡ name → record₁ ≡ record_of kind (take n after) → lines subject record₁ ≡ lines name (record_of kind p.body)
read_text kind lines subject name record₁ d n buffer after p e s r =
    ap (λ t. lines t record₁) s ∙ ap (lines name) (r ∙ ap (record_of kind) (delivered_body d n buffer after p e))

pub has_line : (subject body : List ℕ) (has : Bool) (d : Delivery) → has ≡ true → d ≡ Ok body → image_lines subject (record_of 237 body) ≡ delivered_line subject has d
has_line subject body has d h e =
    sym (ap (delivered_line subject has) e ∙ cond-true has (image_lines subject (record_of 237 body)) (refused_line subject 48) h)

-- One record more of a band.
pub one_more : (set : TapeSet) (m : Option Accepted) (code index : ℕ) (text lines after : List ℕ) → 1 ≤ index
    → text ≡ annotations_to set m (index - 1) code → lines ≡ annotation set m code index → after ≡ text ++ lines → after ≡ annotations_to set m index code
one_more set m code zero text lines after some so_far e a = absurd (omega arith)
one_more set m code (suc n) text lines after some so_far e a =
    let back : suc n - 1 ≡ n = omega arith in
    a ∙ ap (λ t. t ++ lines) (so_far ∙ ap (λ k. annotations_to set m k code) back) ∙ ap (λ t. annotations_to set m n code ++ t) e

each_push : (text : ℕ → List ℕ) (cs : List ℕ) (c : ℕ) → each text (cs ++ c ∷ []) ≡ each text cs ++ text c
each_push text [] c = append-nil (text c)
each_push text (x ∷ cs) c = ap (λ t. text x ++ t) (each_push text cs c) ∙ sym (append_assoc (text x) (each text cs) (text c))

-- The records of one band more.
pub each_more : (text : ℕ → List ℕ) (cs : List ℕ) (i : ℕ) (before lines after : List ℕ) → i < length cs → before ≡ each text (take i cs) → lines ≡ text (get_or cs i 0) → after ≡ before ++ lines → after ≡ each text (take (i + 1) cs)
each_more text cs i before lines after lt b e a =
    a ∙ ap (λ t. t ++ lines) b ∙ ap (λ t. each text (take i cs) ++ t) e ∙ sym (each_push text (take i cs) (get_or cs i 0)) ∙ ap (each text) (sym (take_more cs i 0 lt))

-- The whole text of a set that was accepted.
pub survey_known : (set : TapeSet) (wanted : Option Wanted) (s : Result Accepted Fault) (r : Result Outline Refusal) (o : Outline) (m : Option Accepted) → told r ≡ survey_answer s → r ≡ Ok o → m ≡ accepted_by s
    → each (annotations_to set m (annotations o.correction)) (present m) ++ wanted_text set m o wanted ≡ survey_text set wanted s
survey_known set wanted (Ok a) r o m e ok is =
    let same : ◌≡◌ {A = Result Outline Fault} (Ok o) (Ok (outline a)) = sym (ap told ok) ∙ e in
    let o_is : o ≡ outline a = cc in
    ap (λ n. each (annotations_to set n (annotations o.correction)) (present n) ++ wanted_text set n o wanted) is
    ∙ ap (λ x. each (annotations_to set (Some a) (annotations x.correction)) (present (Some a)) ++ wanted_text set (Some a) x wanted) o_is
survey_known set wanted (Err f) r o m e ok is = let z : ◌≡◌ {A = ℕ} 0 1 = cc in absurd (omega arith)

-- Its two parts, while the set and what is remembered stay.
pub both_parts : (set after : TapeSet) (wanted : Option Wanted) (s : Result Accepted Fault) (r : Result Outline Refusal) (o : Outline) (m : Option Accepted) (last : Remembered) (count : ℕ) (first second : List ℕ)
    → told r ≡ survey_answer s → r ≡ Ok o → m ≡ accepted_by s → after ≡ set → last ≡ record { set = after; accepted = m } → count ≡ annotations o.correction
    → first ≡ each (annotations_to after m count) (present m) → second ≡ wanted_text last.set last.accepted o wanted → first ++ second ≡ survey_text set wanted s
both_parts set after wanted s r o m last count first second e ok is stays same many f g =
    ap (λ t. t ++ second) (f ∙ ap (λ x. each (annotations_to x m count) (present m)) stays ∙ ap (λ k. each (annotations_to set m k) (present m)) many)
    ∙ ap (λ t. each (annotations_to set m (annotations o.correction)) (present m) ++ t) (g ∙ ap (λ (v : Remembered). wanted_text v.set v.accepted o wanted) same ∙ ap (λ x. wanted_text x m o wanted) stays)
    ∙ survey_known set wanted s r o m e ok is
