-- The directory of a turned recording.
use Rattle.std.proofs.Common.{◌≡◌, ℕ, ◌+◌, ◌/◌, ◌%◌, Bool, true, false, cond, eqb, length, get_or, take, drop, set, Some, None, Option, sym, refl, ap, ◌∙◌, subst, arith, length-set}
use Rattle.std.proofs.lemmas.List.{get_or-set_same, get_or-set_other, drop-set-lt}
use Rattle.std.proofs.lemmas.Bool.{eq-eqb, and_parts, and_from, cond-true}
use Rattle.records.specs.Directories.{form_of, mission_of, correction_of, allowed, layout_by, layout_of, blank, fixed}
use Rattle.records.specs.Layouts.{record_length}
use Rattle.records.specs.Records.{byte}
use Rattle.records.specs.declared.layout.Correction.{Correction}
use Rattle.records.specs.declared.layout.Form.{Form}
use Rattle.records.specs.declared.layout.Form.TheVariants.{Interleaved, Sequential, Vidicon}
use Rattle.records.specs.declared.layout.Layout.{Layout}
use Rattle.survey.specs.Recordings.{Body, record_of}
use Rattle.turner.specs.Changes.{order_byte, directory_changed}
use Rattle.turner.specs.declared.shape.Order.{Order}
use Rattle.turner.specs.declared.shape.Order.TheVariants.{ByLine, ByBand}

-- The form of an order.
abbrev pub form_in : Order → Form
form_in ByLine = Interleaved
form_in ByBand = Sequential

module _ (d : Body) (o : Order) (whole : length d ≡ 354) where
  abbrev changed : Body
  changed = directory_changed o d

  pub changed-whole : length changed ≡ 354
  changed-whole = length-set (set (set d 12 49) 13 49) 24 (order_byte o) ∙ length-set (set d 12 49) 13 49 ∙ length-set d 12 49 ∙ whole

  kept : (j : ℕ) → (j ≡ 12 → ⊥) → (j ≡ 13 → ⊥) → (j ≡ 24 → ⊥) → get_or changed j 0 ≡ get_or d j 0
  kept j a b c = get_or-set_other (set (set d 12 49) 13 49) 24 j (order_byte o) 0 c ∙ get_or-set_other (set d 12 49) 13 j 49 0 b ∙ get_or-set_other d 12 j 49 0 a

  pub order_there : get_or changed 24 0 ≡ order_byte o
  order_there = let k = length-set (set d 12 49) 13 49 in let m = length-set d 12 49 in get_or-set_same (set (set d 12 49) 13 49) 24 (order_byte o) 0 (omega (arith, whole, k, m))

  reel_there : get_or changed 12 0 ≡ 49
  reel_there = get_or-set_other (set (set d 12 49) 13 49) 24 12 (order_byte o) 0 (λ e. omega arith) ∙ get_or-set_other (set d 12 49) 13 12 49 0 (λ e. omega arith) ∙ get_or-set_same d 12 49 0 (omega (arith, whole))

  reels-there : get_or changed 13 0 ≡ 49
  reels-there = let m = length-set d 12 49 in get_or-set_other (set (set d 12 49) 13 49) 24 13 (order_byte o) 0 (λ e. omega arith) ∙ get_or-set_same (set d 12 49) 13 49 0 (omega (arith, whole, m))

  pub ident_kept : take 18 (drop 28 changed) ≡ take 18 (drop 28 d)
  ident_kept = ap (take 18) (drop-set-lt 28 (set (set d 12 49) 13 49) 24 (order_byte o) (omega arith) ∙ drop-set-lt 28 (set d 12 49) 13 49 (omega arith) ∙ drop-set-lt 28 d 12 49 (omega arith))

-- What a layout that is named says of its three values.
some_same : {X : Type 0} {x y : X} → Some x ≡ Some y → x ≡ y
some_same e = cc

record Named (f : Option Form) (m : Option ℕ) (c : Option Correction) (l : Layout) : Type 0 where
  form : f ≡ Some l.form
  mission : m ≡ Some l.mission
  correction : c ≡ Some l.correction

by_values : (f : Option Form) (m : Option ℕ) (c : Option Correction) (l : Layout) → layout_by f m c ≡ Some l → Named f m c l
by_values (Some f) (Some m) (Some c) l e = allowed_so (allowed f m) e
  where
    allowed_so : (b : Bool) → cond b (Some record { form = f; mission = m; correction = c }) None ≡ Some l → Named (Some f) (Some m) (Some c) l
    allowed_so true e = let is : record { form = f; mission = m; correction = c } ≡ l = some_same e in record { form = ap (λ (k : Layout). Some k.form) is; mission = ap (λ (k : Layout). Some k.mission) is; correction = ap (λ (k : Layout). Some k.correction) is }
    allowed_so false e = cc
by_values None m c l e = cc
by_values (Some f) None c l e = cc
by_values (Some f) (Some m) None l e = cc

-- The scanner's letter.
scanner : (letter order : ℕ) (f : Form) → form_of letter order ≡ Some f → (f ≡ Vidicon → ⊥) → eqb letter 77 ≡ true
scanner letter order f e n = by_letter (eqb letter 77) (eqb letter 82) (eqb order 255) (eqb order 0) e
  where
    by_letter : (a b c d : Bool) → cond a (cond c (Some Interleaved) (cond d (Some Sequential) None)) (cond b (cond d (Some Vidicon) None) None) ≡ Some f → a ≡ true
    by_letter true b c d e = refl
    by_letter false true c true e = absurd (n (sym (some_same e)))
    by_letter false true c false e = cc
    by_letter false false c d e = cc

form_turned : (letter : ℕ) (o : Order) → eqb letter 77 ≡ true → form_of letter (order_byte o) ≡ Some (form_in o)
form_turned letter ByLine e = cond-true (eqb letter 77) _ _ e
form_turned letter ByBand e = cond-true (eqb letter 77) _ _ e

named-turned : (o : Order) (m : ℕ) (c : Correction) → layout_by (Some (form_in o)) (Some m) (Some c) ≡ Some record { form = form_in o; mission = m; correction = c }
named-turned ByLine m c = refl
named-turned ByBand m c = refl

scanner_length : (o : Order) → record_length (form_in o) ≡ 3596
scanner_length ByLine = refl
scanner_length ByBand = refl

module _ (d : Body) (l : Layout) (many : ℕ) (o : Order) (whole : length d ≡ 354) (names : layout_of (record_of 1 9 d) ≡ Some l) (values : fixed (record_of 1 9 d) l many ≡ true) (mss : l.form ≡ Vidicon → ⊥) where
  abbrev turned : Body
  turned = directory_changed o d

  abbrev other : Layout
  other = record { form = form_in o; mission = l.mission; correction = l.correction }

  same_at : (j : ℕ) → (j ≡ 12 → ⊥) → (j ≡ 13 → ⊥) → (j ≡ 24 → ⊥) → get_or turned j 0 ≡ get_or d j 0
  same_at j a b c = kept d o whole j a b c

  pub names_turned : layout_of (record_of 1 9 turned) ≡ Some other
  names_turned =
      let n = by_values (form_of (get_or d 2 0) (get_or d 24 0)) (mission_of (get_or d 1 0)) (correction_of (get_or d 4 0)) l names in
      let letter = scanner (get_or d 2 0) (get_or d 24 0) l.form n.form mss in
      ap (λ k. layout_by (form_of k (get_or turned 24 0)) (mission_of (get_or turned 1 0)) (correction_of (get_or turned 4 0))) (same_at 2 (λ e. omega arith) (λ e. omega arith) (λ e. omega arith))
      ∙ ap (λ k. layout_by (form_of (get_or d 2 0) k) (mission_of (get_or turned 1 0)) (correction_of (get_or turned 4 0))) (order_there d o whole)
      ∙ ap (λ k. layout_by (form_of (get_or d 2 0) (order_byte o)) (mission_of k) (correction_of (get_or turned 4 0))) (same_at 1 (λ e. omega arith) (λ e. omega arith) (λ e. omega arith))
      ∙ ap (λ k. layout_by (form_of (get_or d 2 0) (order_byte o)) (mission_of (get_or d 1 0)) (correction_of k)) (same_at 4 (λ e. omega arith) (λ e. omega arith) (λ e. omega arith))
      ∙ ap (λ k. layout_by k (mission_of (get_or d 1 0)) (correction_of (get_or d 4 0))) (form_turned (get_or d 2 0) o letter)
      ∙ ap (λ k. layout_by (Some (form_in o)) k (correction_of (get_or d 4 0))) n.mission
      ∙ ap (λ k. layout_by (Some (form_in o)) (Some l.mission) k) n.correction
      ∙ named-turned o l.mission l.correction

  -- A byte that is as it was.
  as_was : (j v : ℕ) → (j ≡ 12 → ⊥) → (j ≡ 13 → ⊥) → (j ≡ 24 → ⊥) → eqb (get_or d j 0) v ≡ true → eqb (get_or turned j 0) v ≡ true
  as_was j v a b c e = ap (λ k. eqb k v) (same_at j a b c) ∙ e

  length_so : (f : Form) → (f ≡ Vidicon → ⊥) → record_length f ≡ 3596
  length_so Interleaved n = refl
  length_so Sequential n = refl
  length_so Vidicon n = absurd (n refl)

  pub values_turned : fixed (record_of 1 9 turned) other 1 ≡ true
  values_turned =
      let xs = record_of 1 9 d in
      let p1 = and_parts (eqb (byte xs 7) 76) _ values in
      let p2 = and_parts (eqb (byte xs 10) 67) _ p1.1 in
      let p3 = and_parts (eqb (byte xs 19) 49) _ p2.1 in
      let p4 = and_parts (eqb (byte xs 20) (48 + many)) _ p3.1 in
      let p5 = and_parts (blank xs) _ p4.1 in
      let p6 = and_parts (eqb (byte xs 30) 237) _ p5.1 in
      let p7 = and_parts (eqb (byte xs 32) (record_length l.form / 256)) (eqb (byte xs 33) (record_length l.form % 256)) p6.1 in
      let b1 = and_parts (eqb (byte xs 21) 32) _ p5.0 in
      let b2 = and_parts (eqb (byte xs 22) 32) _ b1.1 in
      let b3 = and_parts (eqb (byte xs 23) 32) _ b2.1 in
      let b4 = and_parts (eqb (byte xs 24) 32) _ b3.1 in
      let b5 = and_parts (eqb (byte xs 25) 32) (eqb (byte xs 26) 32) b4.1 in
      let long : record_length l.form ≡ record_length (form_in o) = length_so l.form mss ∙ sym (scanner_length o) in
      let w = as_was in
      and_from _ _ (w 0 76 (λ e. omega arith) (λ e. omega arith) (λ e. omega arith) p1.0)
      (and_from _ _ (w 3 67 (λ e. omega arith) (λ e. omega arith) (λ e. omega arith) p2.0)
      (and_from _ _ (eq-eqb (get_or turned 12 0) 49 (reel_there d o whole))
      (and_from _ _ (eq-eqb (get_or turned 13 0) 49 (reels-there d o whole))
      (and_from _ _
      (and_from _ _ (w 14 32 (λ e. omega arith) (λ e. omega arith) (λ e. omega arith) b1.0)
      (and_from _ _ (w 15 32 (λ e. omega arith) (λ e. omega arith) (λ e. omega arith) b2.0)
      (and_from _ _ (w 16 32 (λ e. omega arith) (λ e. omega arith) (λ e. omega arith) b3.0)
      (and_from _ _ (w 17 32 (λ e. omega arith) (λ e. omega arith) (λ e. omega arith) b4.0)
      (and_from _ _ (w 18 32 (λ e. omega arith) (λ e. omega arith) (λ e. omega arith) b5.0) (w 19 32 (λ e. omega arith) (λ e. omega arith) (λ e. omega arith) b5.1))))))
      (and_from _ _ (w 23 237 (λ e. omega arith) (λ e. omega arith) (λ e. omega arith) p6.0)
      (and_from _ _ (subst (λ k. eqb (get_or turned 25 0) (k / 256) ≡ true) long (w 25 (record_length l.form / 256) (λ e. omega arith) (λ e. omega arith) (λ e. omega arith) p7.0)) (subst (λ k. eqb (get_or turned 26 0) (k % 256) ≡ true) long (w 26 (record_length l.form % 256) (λ e. omega arith) (λ e. omega arith) (λ e. omega arith) p7.1))))))))
