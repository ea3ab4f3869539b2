-- Two answers are equal exactly where all that they say is, and their buffers are, byte by byte.
use Rattle.std.proofs.Common.{◌≡◌, ℕ, ◌-◌, ◌/◌, ◌==◌, Bool, false, ◌&&◌, List, map, Ok, Err, Result, Decides, sym, refl, ap, subst, ◌∙◌, true≢false, vec_items, arith}
use Rattle.std.specs.Cmp.Lexicographic.{pointwise}
use Rattle.std.proofs.lemmas.Bool.Decides.{Decides-eqb}
use Rattle.std.proofs.lemmas.Slice.Eq.{slice_eq-Decides}
use denote.Enum.Bare.{Bare, sameb, same_true}
use denote.Enum.Declared.{Declared, tag_of}
use Rattle.records.specs.Faults.{deck_number, record_number, set_number, number, layer}
use Rattle.records.specs.contracts.fault.CausePartialEq.TheImpl as causes_eq
use Rattle.records.specs.contracts.fault.DeckFault.{the_type as deck_faults}
use Rattle.records.specs.contracts.fault.RecordFault.{the_type as record_faults}
use Rattle.records.specs.contracts.fault.SetFault.{the_type as set_faults}
use Rattle.records.specs.contracts.layout.Correction.{the_type as corrections}
use Rattle.records.specs.contracts.layout.Sensor.{the_type as sensors}
use Rattle.records.specs.declared.fault.Cause.{Cause}
use Rattle.records.specs.declared.fault.Cause.TheVariants.{Deck, Record, Set}
use Rattle.records.specs.declared.fault.DeckFault.{DeckFault}
use Rattle.records.specs.declared.fault.DeckFault.TheVariants as decks
use Rattle.records.specs.declared.fault.RecordFault.{RecordFault}
use Rattle.records.specs.declared.fault.RecordFault.TheVariants as records
use Rattle.records.specs.declared.fault.SetFault.{SetFault}
use Rattle.records.specs.declared.fault.SetFault.TheVariants as sets
use Rattle.records.specs.declared.layout.Correction.{Correction}
use Rattle.records.specs.declared.layout.Correction.TheVariants.{Corrected, Uncorrected}
use Rattle.records.specs.declared.layout.Sensor.{Sensor}
use Rattle.records.specs.declared.layout.Sensor.TheVariants.{Mss, Rbv}
use Rattle.survey.specs.Surveys.{Fault, told_fault}
use Rattle.survey.specs.contracts.fault.TapeFaultPartialEq.TheImpl as faults_eq
use Rattle.survey.specs.declared.fault.TapeFault.{TapeFault}
use Rattle.reader.specs.Answers.{summary, sensor_letter, correction_letter, code, delivered, counted, refused, outlined, told_answer}
use Rattle.reader.specs.Refusals.{caller_number, told_refusal}
use Rattle.reader.specs.contracts.call.OutlinePartialEq.TheImpl as outlines_eq
use Rattle.reader.specs.contracts.refusal.CallerFault.{the_type as caller_faults}
use Rattle.reader.specs.contracts.refusal.RefusalPartialEq.TheImpl as refusals_eq
use Rattle.reader.specs.declared.call.Answer.{Answer}
use Rattle.reader.specs.declared.call.Answer.TheVariants as answers
use Rattle.reader.specs.declared.call.Outline.{Outline}
use Rattle.reader.specs.declared.refusal.CallerFault.{CallerFault}
use Rattle.reader.specs.declared.refusal.CallerFault.TheVariants as callers
use Rattle.reader.specs.declared.refusal.Refusal.{Refusal}
use Rattle.reader.specs.declared.refusal.Refusal.TheVariants.{Tape, Caller}
use Rattle.witness.specs.Comparing.{same_answer, same_answered}
use Rattle.witness.specs.contracts.calls.AnsweredPartialEq.TheImpl as derived
use Rattle.witness.specs.Replies.{answered}
use Rattle.witness.specs.declared.calls.Answered.{Answered}
use Rattle.witness.proofs.Alike.{both, all_decided}
use Rattle.witness.proofs.Runs.{pair}

-- Variants without fields, each told by a number from which its place among them can be read.
module _ (D : Declared) (fieldless : Bare D.parts) (num : D.D → ℕ) (place : ℕ → ℕ) (placed : (x : D.D) → place (num x) ≡ tag_of D x) where
  by_number : (x y : D.D) → Decides (sameb D x y) (num x ≡ num y)
  by_number x y =
      (λ t. ap num (same_true D fieldless x y t), λ h. (Decides-eqb (tag_of D x) (tag_of D y)).1 (sym (placed x) ∙ ap place h ∙ placed y))

deck_placed : (z : DeckFault) → deck_number z - 11 ≡ tag_of deck_faults z
deck_placed decks.Absent = refl
deck_placed decks.Bad = refl

record_placed : (z : RecordFault) → record_number z - 21 ≡ tag_of record_faults z
record_placed records.MarkForRecord = refl
record_placed records.RecordForMark = refl
record_placed records.Length = refl
record_placed records.FifthByte = refl
record_placed records.Type = refl
record_placed records.Number = refl

set_placed : (z : SetFault) → set_number z - 31 ≡ tag_of set_faults z
set_placed sets.Directory = refl
set_placed sets.OtherDirectory = refl
set_placed sets.Header = refl
set_placed sets.Bands = refl
set_placed sets.Lines = refl
set_placed sets.MissingBand = refl
set_placed sets.Finish = refl
set_placed sets.BehindEnd = refl

caller_placed : (z : CallerFault) → caller_number z - 41 ≡ tag_of caller_faults z
caller_placed callers.NotAccepted = refl
caller_placed callers.Band = refl
caller_placed callers.Line = refl
caller_placed callers.Sheet = refl
caller_placed callers.Buffer = refl
caller_placed callers.Unreadable = refl

sensor_placed : (z : Sensor) → (sensor_letter z - 77) / 5 ≡ tag_of sensors z
sensor_placed Mss = refl
sensor_placed Rbv = refl

correction_placed : (z : Correction) → (80 - correction_letter z) / 15 ≡ tag_of corrections z
correction_placed Corrected = refl
correction_placed Uncorrected = refl

never : {P : Type 0} → (P → ⊥) → Decides false P
never n = (λ t. absurd (true≢false (sym t)), λ p. absurd (n p))

by_equal : {r : Bool} {P Q : Type 0} → Decides r P → (P → Q) → (Q → P) → Decides r Q
by_equal d to from = (λ t. to (d.0 t), λ q. d.1 (from q))

-- A cause says its number and its layer.
abbrev Said : Cause → ℕ × ℕ
Said c = (number c, layer c)

cause_decides : (x y : Cause) → Decides ((causes_eq.ghosts).eq x y) (◌≡◌ {A = ℕ × ℕ} (Said x) (Said y))
cause_decides (Deck x) (Deck y) = by_equal (by_number deck_faults tt deck_number (λ n. n - 11) deck_placed x y) (λ e. ap (λ n. (n, 1)) e) (λ e. ap (λ p. p.0) e)
cause_decides (Record x) (Record y) = by_equal (by_number record_faults tt record_number (λ n. n - 21) record_placed x y) (λ e. ap (λ n. (n, 2)) e) (λ e. ap (λ p. p.0) e)
cause_decides (Set x) (Set y) = by_equal (by_number set_faults tt set_number (λ n. n - 31) set_placed x y) (λ e. ap (λ n. (n, 3)) e) (λ e. ap (λ p. p.0) e)
cause_decides x y = never (λ e. let l = ap (λ p. p.1) e in cc)

both_and : (a b : Bool) {P Q : Type 0} → Decides a P → Decides b Q → Decides (a && b) (P × Q)
both_and a b p q = both a b p q (λ x y. (x, y)) (λ w. w.0) (λ w. w.1)

four : (a b c d a' b' c' d' : ℕ) → a ≡ a' → b ≡ b' → c ≡ c' → d ≡ d' → ◌≡◌ {A = Fault} (a, b, c, d) (a', b', c', d')
four a b c d a' b' c' d' p q r s = cc

fault_decides : (x y : TapeFault) → Decides ((faults_eq.ghosts).eq x y) (told_fault x ≡ told_fault y)
fault_decides x y =
    by_equal
    (both_and ((causes_eq.ghosts).eq x.cause y.cause) (x.reel == y.reel && x.block == y.block) (cause_decides x.cause y.cause)
    (both_and (x.reel == y.reel) (x.block == y.block) (Decides-eqb x.reel y.reel) (Decides-eqb x.block y.block)))
    (λ w. four (number x.cause) (layer x.cause) x.reel x.block (number y.cause) (layer y.cause) y.reel y.block (ap (λ (p : ℕ × ℕ). p.0) w.0) (ap (λ (p : ℕ × ℕ). p.1) w.0) w.1.0 w.1.1)
    (λ e. (pair (ap (λ (w : Fault). w.0) e) (ap (λ (w : Fault). w.1) e), (ap (λ (w : Fault). w.2) e, ap (λ (w : Fault). w.3) e)))

layer_some : (c : Cause) → layer c ≡ 0 → ⊥
layer_some (Deck f) e = omega (arith, e)
layer_some (Record f) e = omega (arith, e)
layer_some (Set f) e = omega (arith, e)

refusal_decides : (x y : Refusal) → Decides ((refusals_eq.ghosts).eq x y) (told_refusal x ≡ told_refusal y)
refusal_decides (Tape x) (Tape y) = fault_decides x y
refusal_decides (Tape x) (Caller y) = never (λ e. layer_some x.cause (ap (λ (w : Fault). w.1) e))
refusal_decides (Caller x) (Tape y) = never (λ e. layer_some y.cause (sym (ap (λ (w : Fault). w.1) e)))
refusal_decides (Caller x) (Caller y) = by_equal (by_number caller_faults tt caller_number (λ n. n - 41) caller_placed x y) (λ e. ap (λ n. (n, 0, 0, 0)) e) (λ e. ap (λ (w : Fault). w.0) e)

five : (a b c d e a' b' c' d' e' : ℕ) → (a ≡ a') × ((b ≡ b') × ((c ≡ c') × ((d ≡ d') × (e ≡ e')))) → summary a b c d e ≡ summary a' b' c' d' e'
five a b c d e a' b' c' d' e' h = let p = h.0 in let q = h.1.0 in let r = h.1.1.0 in let s = h.1.1.1.0 in let t = h.1.1.1.1 in cc

outline_decides : (x y : Outline) → Decides ((outlines_eq.ghosts).eq x y) (outlined x ≡ outlined y)
outline_decides x y =
    by_equal
    (both_and (sameb sensors x.sensor y.sensor) (x.mission == y.mission && (sameb corrections x.correction y.correction && (x.bands == y.bands && x.lines == y.lines))) (by_number sensors tt sensor_letter (λ n. (n - 77) / 5) sensor_placed x.sensor y.sensor)
    (both_and (x.mission == y.mission) (sameb corrections x.correction y.correction && (x.bands == y.bands && x.lines == y.lines)) (Decides-eqb x.mission y.mission)
    (both_and (sameb corrections x.correction y.correction) (x.bands == y.bands && x.lines == y.lines) (by_number corrections tt correction_letter (λ n. (80 - n) / 15) correction_placed x.correction y.correction)
    (both_and (x.bands == y.bands) (x.lines == y.lines) (Decides-eqb x.bands y.bands) (Decides-eqb x.lines y.lines)))))
    (five (sensor_letter x.sensor) x.mission (correction_letter x.correction) x.bands x.lines (sensor_letter y.sensor) y.mission (correction_letter y.correction) y.bands y.lines)
    (λ h. (cc, (cc, (cc, (cc, cc)))))

-- An answer is told in numbers, and two are equal exactly where these are.
abbrev Tells : Result Answer Refusal → Result Answer Refusal → Type 0
Tells x y = told_answer x ≡ told_answer y

given_decides : (x y : Answer) → Decides (same_answer (Ok x) (Ok y)) (Tells (Ok x) (Ok y))
given_decides (answers.Outline x) (answers.Outline y) = outline_decides x y
given_decides (answers.Code m) (answers.Code n) = by_equal (Decides-eqb m n) (λ e. ap code e) (λ e. cc)
given_decides (answers.Delivered m) (answers.Delivered n) = by_equal (Decides-eqb m n) (λ e. ap delivered e) (λ e. cc)
given_decides (answers.Tally m) (answers.Tally n) = by_equal (Decides-eqb m n) (λ e. ap counted e) (λ e. cc)
given_decides x y = never (λ e. cc)

not_refused : (x : Answer) (r : Refusal) → Tells (Ok x) (Err r) → ⊥
not_refused (answers.Outline x) r e = cc
not_refused (answers.Code n) r e = cc
not_refused (answers.Delivered n) r e = cc
not_refused (answers.Tally n) r e = cc

answer_decides : (x y : Result Answer Refusal) → Decides (same_answer x y) (Tells x y)
answer_decides (Ok x) (Ok y) = given_decides x y
answer_decides (Ok x) (Err r) = never (not_refused x r)
answer_decides (Err r) (Ok x) = never (λ e. not_refused x r (sym e))
answer_decides (Err r) (Err s) = by_equal (refusal_decides r s) (λ e. ap refused e) (λ e. cc)

pub answered_decides : (x y : Answered) → Decides (same_answered x y) (answered x ≡ answered y)
answered_decides x y =
    both (same_answer x.answer y.answer) (pointwise ◌==◌ (vec_items x.buffer) (vec_items y.buffer)) (answer_decides x.answer y.answer)
    (slice_eq-Decides Decides-eqb (vec_items x.buffer) (vec_items y.buffer) (pointwise ◌==◌ (vec_items x.buffer) (vec_items y.buffer)) refl)
    pair (λ e. ap (λ p. p.0) e) (λ e. ap (λ p. p.1) e)

-- Lists of answers are equal exactly where they say the same.
pub lists_decide : (r : Bool) (xs ys : List Answered) → r ≡ pointwise (derived.ghosts).eq xs ys → Decides r (map answered xs ≡ map answered ys)
lists_decide r xs ys e = subst (λ b. Decides b (map answered xs ≡ map answered ys)) (sym e) (all_decided answered same_answered answered_decides xs ys)
