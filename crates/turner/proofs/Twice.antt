-- A recording interleaved by line, on one reel, is itself again when it is turned twice.
use Rattle.std.proofs.Common.{◌≡◌, ℕ, zero, suc, ◌+◌, ◌-◌, ◌*◌, ◌/◌, ◌%◌, ◌<◌, ◌≤◌, Bool, true, false, cond, not, ◌&&◌, ◌||◌, eqb, ltb, List, [], ◌∷◌, ◌++◌, map, length, get_or, set, replicate, Some, None, Option, sym, refl, ap, ◌∙◌, subst, append-nil, arith, length-set, get_or-set_same, set-set}
use lib.ListN.{length-map}
use lib.Seq.{set_comm, set-get_or}
use Rattle.std.proofs.lemmas.Bool.{eqb-true, ltb-true, and_parts, cond-true, cond-false}
use Rattle.deck.specs.Tape.{Block}
use Rattle.records.specs.Bands.{weight, present}
use Rattle.records.specs.Directories.{form_of, layout_by, allowed, fixed}
use Rattle.records.specs.Headers.{counts_fit}
use Rattle.records.specs.Layouts.{stride}
use Rattle.records.specs.Records.{byte}
use Rattle.records.specs.declared.header.Content.{Content}
use Rattle.records.specs.declared.header.Content.TheVariants.{One, Mixed}
use Rattle.records.specs.declared.layout.Correction.{Correction}
use Rattle.records.specs.declared.layout.Form.{Form}
use Rattle.records.specs.declared.layout.Form.TheVariants.{Interleaved, Sequential, Vidicon}
use Rattle.records.specs.declared.layout.Layout.{Layout}
use Rattle.machine.specs.Machines.{all_zero, missing}
use Rattle.survey.specs.Pictures.{codes_in, rows_in, all_codes, all_rows, every, if_there, places_in}
use Rattle.survey.specs.Recordings.{Body, Line, Files, Recording, record_of, attributes_file, image_file, trailer_file, before, closes, stretches, reels}
use Rattle.survey.specs.Validity.{body_length, content, header_record, all_lines, Begun, Fit, AllFit, ValidFiles, ValidGroups, Valid}
use Rattle.survey.proofs.Stretches.{length_before, length_image, length-closes}
use Rattle.turner.specs.Changes.{directory_changed, header_by_line, header_by_band, mask_of}
use Rattle.turner.specs.Turns.{row_of, line_in, across, woven, with_lines, band_by_band, turned_groups, turn}
use Rattle.turner.specs.declared.shape.Order.TheVariants.{ByLine, ByBand}

-- A value written over another is as if the other had never been.
over_two : (xs : List ℕ) (i j a b c : ℕ) → (i ≡ j → ⊥) → set (set (set xs i a) j b) i c ≡ set (set xs i c) j b
over_two xs i j a b c n =
    ap (λ k. set k i c) (set_comm xs i j a b n)
    ∙ set-set (set xs j b) i a c
    ∙ sym (set_comm xs i j c b n)

over_three : (xs : List ℕ) (i j k a b c x y z : ℕ) → (i ≡ j → ⊥) → (i ≡ k → ⊥) → (j ≡ k → ⊥) → set (set (set (set (set (set xs i a) j b) k c) i x) j y) k z ≡ set (set (set xs i x) j y) k z
over_three xs i j k a b c x y z ij ik jk =
    ap (λ w. set (set w j y) k z) (set_comm (set (set xs i a) j b) k i c x (λ e. ik (sym e)) ∙ ap (λ w. set w k c) (over_two xs i j a b x ij))
    ∙ ap (λ w. set w k z) (over_two (set xs i x) j k b c y jk)
    ∙ set-set (set (set xs i x) j y) k c z

-- A value written where it stands changes nothing.
kept : (xs : List ℕ) (i a : ℕ) → get_or xs i 0 ≡ a → set xs i a ≡ xs
kept xs i a e = ap (set xs i) (sym e) ∙ set-get_or xs i 0

-- The directory.
none_some : {X Y : Type 0} {x : X} → None ≡ Some x → Y
none_some e = cc

some_some : {X : Type 0} {x y : X} → Some x ≡ Some y → x ≡ y
some_some e = cc

named_form : (f : Option Form) (m : Option ℕ) (c : Option Correction) (l : Layout) → layout_by f m c ≡ Some l → f ≡ Some l.form
named_form None m c l e = none_some e
named_form (Some f) None c l e = none_some e
named_form (Some f) (Some m) None l e = none_some e
named_form (Some f) (Some m) (Some c) l e = is (allowed f m) e
  where
    is : (b : Bool) → cond b (Some record { form = f; mission = m; correction = c }) None ≡ Some l → Some f ≡ Some l.form
    is true e = ap (λ (k : Layout). Some k.form) (some_some e)
    is false e = none_some e

order_of : (letter order : ℕ) → form_of letter order ≡ Some Interleaved → order ≡ 255
order_of letter order e = by_letter (eqb letter 77) (eqb letter 82) e
  where
    other : {X : Type 0} → Some Sequential ≡ Some Interleaved → X
    other e = cc

    vidicon : {X : Type 0} → Some Vidicon ≡ Some Interleaved → X
    vidicon e = cc

    by_band : {X : Type 0} (b : Bool) → cond b (Some Sequential) None ≡ Some Interleaved → X
    by_band true e = other e
    by_band false e = none_some e

    by_order : (b : Bool) → eqb order 255 ≡ b → cond b (Some Interleaved) (cond (eqb order 0) (Some Sequential) None) ≡ Some Interleaved → order ≡ 255
    by_order true is e = eqb-true order 255 is
    by_order false is e = by_band (eqb order 0) e

    by_vidicon : {X : Type 0} (b : Bool) → cond b (Some Vidicon) None ≡ Some Interleaved → X
    by_vidicon true e = vidicon e
    by_vidicon false e = none_some e

    by_other : {X : Type 0} (b : Bool) → cond b (cond (eqb order 0) (Some Vidicon) None) None ≡ Some Interleaved → X
    by_other true e = by_vidicon (eqb order 0) e
    by_other false e = none_some e

    by_letter : (m r : Bool) → cond m (cond (eqb order 255) (Some Interleaved) (cond (eqb order 0) (Some Sequential) None)) (cond r (cond (eqb order 0) (Some Vidicon) None) None) ≡ Some Interleaved → order ≡ 255
    by_letter true r e = by_order (eqb order 255) refl e
    by_letter false r e = by_other r e

digits : (d : Body) (l : Layout) (many : ℕ) → fixed (record_of 1 9 d) l many ≡ true → (get_or d 12 0 ≡ 49) × (get_or d 13 0 ≡ 48 + many)
digits d l many e =
    let xs = record_of 1 9 d in
    let p = and_parts (eqb (byte xs 7) 76) _ e in
    let q = and_parts (eqb (byte xs 10) 67) _ p.1 in
    let r = and_parts (eqb (byte xs 19) 49) _ q.1 in
    let s = and_parts (eqb (byte xs 20) (48 + many)) _ r.1 in
    (eqb-true (byte xs 19) 49 r.0, eqb-true (byte xs 20) (48 + many) s.0)

directory_again : (d : Body) → get_or d 12 0 ≡ 49 → get_or d 13 0 ≡ 49 → get_or d 24 0 ≡ 255 → directory_changed ByLine (directory_changed ByBand d) ≡ d
directory_again d a b c =
    over_three d 12 13 24 49 49 0 49 49 255 (λ e. omega (arith, e)) (λ e. omega (arith, e)) (λ e. omega (arith, e))
    ∙ ap (λ k. set (set k 13 49) 24 255) (kept d 12 49 a)
    ∙ ap (λ k. set k 24 255) (kept d 13 49 b)
    ∙ kept d 24 255 c

-- The header.
header_again : (h : Body) (bands mask digit : ℕ) → get_or h 113 0 ≡ 255 → get_or h 114 0 ≡ bands → get_or h 129 0 ≡ 48 → get_or h 3579 0 ≡ mask → header_by_line bands mask (header_by_band digit h) ≡ h
header_again h bands mask digit a b c m =
    ap (λ k. set k 3579 mask) (over_three h 113 114 129 0 0 digit 255 bands 48 (λ e. omega (arith, e)) (λ e. omega (arith, e)) (λ e. omega (arith, e)))
    ∙ ap (λ k. set (set (set k 114 bands) 129 48) 3579 mask) (kept h 113 255 a)
    ∙ ap (λ k. set (set k 129 48) 3579 mask) (kept h 114 bands b)
    ∙ ap (λ k. set k 3579 mask) (kept h 129 48 c)
    ∙ kept h 3579 mask m

-- The layout of interleaved bands.
abbrev by_line : ℕ → Correction → Layout
by_line mission correction = record { form = Interleaved; mission = mission; correction = correction }

counted : (mission : ℕ) (correction : Correction) (g : Files) → counts_fit (header_record g) (by_line mission correction) ≡ true → (get_or g.header 113 0 ≡ 255) × (get_or g.header 114 0 ≡ cond (eqb mission 3) 5 4)
counted mission correction g e =
    let xs = header_record g in
    let p = and_parts (eqb (byte xs 101) 0) _ e in
    let q = and_parts (eqb (byte xs 102) _) _ p.1 in
    let r = and_parts (eqb (byte xs 105) 0) _ q.1 in
    let s = and_parts (eqb (byte xs 106) _) _ r.1 in
    let t = and_parts (eqb (byte xs 120) 255) _ s.1 in
    (eqb-true (byte xs 120) 255 t.0, eqb-true (byte xs 121) (cond (eqb mission 3) 5 4) t.1)

-- The byte of the bands present.
abbrev codes_of : List ℕ → List ℕ
codes_of ps = map (λ place. 4 + place) ps

codes_both : (xs ys : List ℕ) → mask_of (codes_of (xs ++ ys)) ≡ mask_of (codes_of xs) + mask_of (codes_of ys)
codes_both [] ys = omega arith
codes_both (x ∷ xs) ys = let r = codes_both xs ys in omega (arith, r)

bit : (q place w : ℕ) → q < 2 → weight (4 + place - 4) ≡ w → mask_of (codes_of (cond (eqb q 1) (place ∷ []) [])) ≡ w * q
bit zero place w h e = omega arith
bit (suc zero) place w h e = omega (arith, e)
bit (suc (suc q)) place w h e = absurd (omega arith)

five_bits : (mask : ℕ) → mask < 32 → 16 * (mask / 16 % 2) + (8 * (mask / 8 % 2) + (4 * (mask / 4 % 2) + (2 * (mask / 2 % 2) + 1 * (mask / 1 % 2)))) ≡ mask
five_bits mask h =
    let a : mask ≡ 2 * (mask / 2) + mask / 1 % 2 = omega arith in
    let b : mask / 2 ≡ 2 * (mask / 4) + mask / 2 % 2 = omega arith in
    let c : mask / 4 ≡ 2 * (mask / 8) + mask / 4 % 2 = omega arith in
    let d : mask / 8 ≡ 2 * (mask / 16) + mask / 8 % 2 = omega arith in
    let e : mask / 16 ≡ mask / 16 % 2 = omega arith in
    omega (arith, a, b, c, d, e)

mask_again : (mask : ℕ) → mask < 32 → mask_of (codes_of (places_in mask)) ≡ mask
mask_again mask h =
    let a = bit (mask / 16 % 2) 0 16 (omega arith) refl in
    let b = bit (mask / 8 % 2) 1 8 (omega arith) refl in
    let c = bit (mask / 4 % 2) 2 4 (omega arith) refl in
    let d = bit (mask / 2 % 2) 3 2 (omega arith) refl in
    let e = bit (mask / 1 % 2) 4 1 (omega arith) refl in
    codes_both (if_there mask 0) (if_there mask 1 ++ (if_there mask 2 ++ (if_there mask 3 ++ if_there mask 4)))
    ∙ (λ i. a i + (codes_both (if_there mask 1) (if_there mask 2 ++ (if_there mask 3 ++ if_there mask 4)) i))
    ∙ (λ i. 16 * (mask / 16 % 2) + (b i + codes_both (if_there mask 2) (if_there mask 3 ++ if_there mask 4) i))
    ∙ (λ i. 16 * (mask / 16 % 2) + (8 * (mask / 8 % 2) + (c i + codes_both (if_there mask 3) (if_there mask 4) i)))
    ∙ (λ i. 16 * (mask / 16 % 2) + (8 * (mask / 8 % 2) + (4 * (mask / 4 % 2) + (d i + e i))))
    ∙ five_bits mask h

-- The lines of a band by its code.
module _ (row : ℕ → List Line) where
  abbrev found : ℕ → List ℕ → Option (List Line)
  found code ps = row_of code (codes_of ps) (map row ps)

  passed_by : (b : Bool) (code p : ℕ) (ps : List ℕ) → eqb (4 + p) code ≡ false → found code (cond b (p ∷ []) [] ++ ps) ≡ found code ps
  passed_by true code p ps e = cond-false (eqb (4 + p) code) (Some (row p)) (found code ps) e
  passed_by false code p ps e = refl

  met : (b : Bool) (code p : ℕ) (ps : List ℕ) → eqb (4 + p) code ≡ true → found code ps ≡ None → found code (cond b (p ∷ []) [] ++ ps) ≡ cond b (Some (row p)) None
  met true code p ps e f = cond-true (eqb (4 + p) code) (Some (row p)) (found code ps) e
  met false code p ps e f = f

  abbrev last_one : ℕ → List ℕ
  last_one mask = if_there mask 4 ++ []

  abbrev last_two : ℕ → List ℕ
  last_two mask = if_there mask 3 ++ last_one mask

  abbrev last_three : ℕ → List ℕ
  last_three mask = if_there mask 2 ++ last_two mask

  abbrev last_four : ℕ → List ℕ
  last_four mask = if_there mask 1 ++ last_three mask

  abbrev all_five : ℕ → List ℕ
  all_five mask = if_there mask 0 ++ last_four mask

  places_five : (mask : ℕ) → places_in mask ≡ all_five mask
  places_five mask = ap (λ k. if_there mask 0 ++ (if_there mask 1 ++ (if_there mask 2 ++ (if_there mask 3 ++ k)))) (sym (append-nil (if_there mask 4)))

  row_in : (mask place : ℕ) → place < 5 → found (4 + place) (all_five mask) ≡ cond (present mask place) (Some (row place)) None
  row_in mask zero h =
      met (present mask 0) 4 0 (last_four mask) refl
      (passed_by (present mask 1) 4 1 (last_three mask) refl
      ∙ passed_by (present mask 2) 4 2 (last_two mask) refl
      ∙ passed_by (present mask 3) 4 3 (last_one mask) refl
      ∙ passed_by (present mask 4) 4 4 [] refl)
  row_in mask (suc zero) h =
      passed_by (present mask 0) 5 0 (last_four mask) refl
      ∙ met (present mask 1) 5 1 (last_three mask) refl
      (passed_by (present mask 2) 5 2 (last_two mask) refl
      ∙ passed_by (present mask 3) 5 3 (last_one mask) refl
      ∙ passed_by (present mask 4) 5 4 [] refl)
  row_in mask (suc (suc zero)) h =
      passed_by (present mask 0) 6 0 (last_four mask) refl
      ∙ passed_by (present mask 1) 6 1 (last_three mask) refl
      ∙ met (present mask 2) 6 2 (last_two mask) refl
      (passed_by (present mask 3) 6 3 (last_one mask) refl
      ∙ passed_by (present mask 4) 6 4 [] refl)
  row_in mask (suc (suc (suc zero))) h =
      passed_by (present mask 0) 7 0 (last_four mask) refl
      ∙ passed_by (present mask 1) 7 1 (last_three mask) refl
      ∙ passed_by (present mask 2) 7 2 (last_two mask) refl
      ∙ met (present mask 3) 7 3 (last_one mask) refl
      (passed_by (present mask 4) 7 4 [] refl)
  row_in mask (suc (suc (suc (suc zero)))) h =
      passed_by (present mask 0) 8 0 (last_four mask) refl
      ∙ passed_by (present mask 1) 8 1 (last_three mask) refl
      ∙ passed_by (present mask 2) 8 2 (last_two mask) refl
      ∙ passed_by (present mask 3) 8 3 (last_one mask) refl
      ∙ met (present mask 4) 8 4 [] refl refl
  row_in mask (suc (suc (suc (suc (suc place))))) h = absurd (omega arith)

  row_found : (mask place : ℕ) → place < 5 → found (4 + place) (places_in mask) ≡ cond (present mask place) (Some (row place)) None
  row_found mask place h = ap (found (4 + place)) (places_five mask) ∙ row_in mask place h

-- Each line of each band, by the number of the line.
every_at : (b : Bool) (xs : List Line) (n from j : ℕ) → j < n → get_or (every (cond b 5 4) from n xs) j None ≡ get_or xs (j * cond b 5 4 + from) None
every_at b xs zero from j h = absurd (omega arith)
every_at b xs (suc n) from zero h = ap (λ k. get_or xs k None) (none_yet b from)
  where
    none_yet : (b : Bool) (from : ℕ) → from ≡ 0 * cond b 5 4 + from
    none_yet true from = omega arith
    none_yet false from = omega arith
every_at b xs (suc n) from (suc j) h = every_at b xs n (from + cond b 5 4) j (omega arith) ∙ ap (λ k. get_or xs k None) (one_more b from j)
  where
    one_more : (b : Bool) (from j : ℕ) → j * cond b 5 4 + (from + cond b 5 4) ≡ suc j * cond b 5 4 + from
    one_more true from j = omega arith
    one_more false from j = omega arith

zeros_are : (body : Body) → all_zero body ≡ true → replicate (length body) 0 ≡ body
zeros_are [] e = refl
zeros_are (x ∷ xs) e =
    let p = and_parts (eqb x 0) (all_zero xs) e in
    let z : 0 ≡ x = sym (eqb-true x 0 p.0) in
    ap (λ k. 0 ∷ k) (zeros_are xs p.1) ∙ ap (λ k. k ∷ xs) z

fit_at : (l : Layout) (c : Content) (i j : ℕ) (xs : List Line) → AllFit l c i xs → j < length xs → Fit l c (i + j) (get_or xs j None)
fit_at l c i j [] a h = absurd (omega arith)
fit_at l c i zero (x ∷ xs) a h = let e : i ≡ i + 0 = omega arith in subst (λ k. Fit l c k x) e a.0
fit_at l c i (suc j) (x ∷ xs) a h = let e : i + 1 + j ≡ i + suc j = omega arith in subst (λ k. Fit l c k (get_or xs j None)) e (fit_at l c (i + 1) j xs a.1 (omega arith))

-- A line of a missing band.
missing-line : (l : Layout) (c : Content) (i : ℕ) (x : Line) → Fit l c i x → missing c i (stride l) ≡ true → Some (replicate (body_length l) 0) ≡ x
missing-line l c i None f m = let u : ◌≡◌ {A = Bool} true false = sym m ∙ f in cc
missing-line l c i (Some body) f m = ap (λ k. Some (replicate k 0)) (sym f.0) ∙ ap Some (zeros_are body (f.1 m))

place_back : (b : Bool) (n place : ℕ) → place < cond b 5 4 → (n * cond b 5 4 + place) % cond b 5 4 ≡ place
place_back true n place h = omega arith
place_back false n place h = omega arith

under_five : (b : Bool) (place : ℕ) → place < cond b 5 4 → place < 5
under_five true place h = h
under_five false place h = omega arith

within : (b : Bool) (n lines place : ℕ) → n < lines → place < cond b 5 4 → n * cond b 5 4 + place < lines * cond b 5 4
within true n lines place h p = omega arith
within false n lines place h p = omega arith

-- Lines in their order, so many from one on.
abbrev run : List Line → ℕ → ℕ → List Line
run xs i zero = []
run xs i (suc many) = get_or xs i None ∷ run xs (i + 1) many

run_behind : (x : Line) (xs : List Line) (i many : ℕ) → run (x ∷ xs) (suc i) many ≡ run xs i many
run_behind x xs i zero = refl
run_behind x xs i (suc many) =
    let e : suc i + 1 ≡ suc (i + 1) = omega arith in
    ap (λ k. get_or xs i None ∷ run (x ∷ xs) k many) e ∙ ap (λ k. get_or xs i None ∷ k) (run_behind x xs (i + 1) many)

run_all : (xs : List Line) → run xs 0 (length xs) ≡ xs
run_all [] = refl
run_all (x ∷ xs) = ap (λ k. x ∷ k) (run_behind x xs 0 (length xs) ∙ run_all xs)

run_both : (xs : List Line) (i a b : ℕ) → run xs i a ++ run xs (i + a) b ≡ run xs i (a + b)
run_both xs i zero b =
    let e : i + 0 ≡ i = omega arith in
    let f : b ≡ 0 + b = omega arith in
    ap (λ k. run xs k b) e ∙ ap (run xs i) f
run_both xs i (suc a) b =
    let e : i + suc a ≡ i + 1 + a = omega arith in
    let f : suc (a + b) ≡ suc a + b = omega arith in
    ap (λ k. get_or xs i None ∷ (run xs (i + 1) a ++ run xs k b)) e
    ∙ ap (λ k. get_or xs i None ∷ k) (run_both xs (i + 1) a b)
    ∙ ap (run xs i) f

module _ (size : ℕ) (codes : List ℕ) (rows : List (List Line)) (xs : List Line) where
  across_run : (n code at many : ℕ) → ((k : ℕ) → k < many → line_in size n (row_of (code + k) codes rows) ≡ get_or xs (at + k) None) → across size codes rows n code many ≡ run xs at many
  across_run n code at zero each = refl
  across_run n code at (suc many) each =
      let c : code ≡ code + 0 = omega arith in
      let a : at + 0 ≡ at = omega arith in
      let first = ap (λ k. line_in size n (row_of k codes rows)) c ∙ each 0 (omega arith) ∙ ap (λ k. get_or xs k None) a in
      ap (λ k. k ∷ across size codes rows n (code + 1) many) first
      ∙ ap (λ k. get_or xs at None ∷ k) (across_run n (code + 1) (at + 1) many (λ k h. ap (λ i. line_in size n (row_of i codes rows)) (next code k) ∙ each (suc k) (omega arith) ∙ ap (λ i. get_or xs i None) (sym (next at k))))
    where
      next : (i k : ℕ) → i + 1 + k ≡ i + suc k
      next i k = omega arith

  next_start : (b : Bool) (n : ℕ) → (n + 1) * cond b 5 4 ≡ n * cond b 5 4 + cond b 5 4
  next_start true n = omega arith
  next_start false n = omega arith

  one_round : (b : Bool) (many : ℕ) → cond b 5 4 + many * cond b 5 4 ≡ suc many * cond b 5 4
  one_round true many = omega arith
  one_round false many = omega arith

  woven_run : (b : Bool) (lines many n : ℕ) → n + many ≤ lines → ((i k : ℕ) → i < lines → k < cond b 5 4 → line_in size i (row_of (4 + k) codes rows) ≡ get_or xs (i * cond b 5 4 + k) None) → woven size (cond b 5 4) codes rows n many ≡ run xs (n * cond b 5 4) (many * cond b 5 4)
  woven_run b lines zero n h each = ap (run xs (n * cond b 5 4)) (none b)
    where
      none : (b : Bool) → 0 ≡ 0 * cond b 5 4
      none true = refl
      none false = refl
  woven_run b lines (suc many) n h each =
      let here : n < lines = omega arith in
      let behind : n + 1 + many ≤ lines = omega arith in
      let s : ℕ = cond b 5 4 in
      ap (λ k. k ++ woven size s codes rows (n + 1) many) (across_run n 4 (n * s) s (λ k j. each n k here j))
      ∙ ap (λ k. run xs (n * s) s ++ k) (woven_run b lines many (n + 1) behind each)
      ∙ ap (λ k. run xs (n * s) s ++ run xs k (many * s)) (next_start b n)
      ∙ run_both xs (n * s) s (many * s)
      ∙ ap (run xs (n * s)) (one_round b many)

-- The lines of a file of interleaved bands, taken apart and woven again.
module _ (mission : ℕ) (correction : Correction) (mask lines : ℕ) (xs : List Line) (fit : AllFit (by_line mission correction) (Mixed mask) 0 xs) (many : length xs ≡ lines * cond (eqb mission 3) 5 4) where
  abbrev bands : ℕ
  bands = cond (eqb mission 3) 5 4

  abbrev row : ℕ → List Line
  row place = every bands place lines xs

  line_again : (n place : ℕ) → n < lines → place < bands → line_in 3590 n (row_of (4 + place) (codes_of (places_in mask)) (map row (places_in mask))) ≡ get_or xs (n * bands + place) None
  line_again n place h p = ap (line_in 3590 n) (row_found row mask place (under_five (eqb mission 3) place p)) ∙ either (present mask place) refl
    where
      either : (b : Bool) → present mask place ≡ b → line_in 3590 n (cond b (Some (row place)) None) ≡ get_or xs (n * bands + place) None
      either true e = every_at (eqb mission 3) xs lines place n h
      either false e =
          let in_file = within (eqb mission 3) n lines place h p in
          let z : 0 + (n * bands + place) ≡ n * bands + place = omega arith in
          let f = subst (λ k. Fit (by_line mission correction) (Mixed mask) k (get_or xs (n * bands + place) None)) z (fit_at (by_line mission correction) (Mixed mask) 0 (n * bands + place) xs fit (omega (arith, in_file, many))) in
          missing-line (by_line mission correction) (Mixed mask) (n * bands + place) (get_or xs (n * bands + place) None) f (ap (λ k. not (present mask k)) (place_back (eqb mission 3) n place p) ∙ ap not e)

  woven_again : woven 3590 bands (codes_of (places_in mask)) (map row (places_in mask)) 0 lines ≡ xs
  woven_again =
      woven_run 3590 (codes_of (places_in mask)) (map row (places_in mask)) xs (eqb mission 3) lines lines 0 (omega arith) line_again
      ∙ ap (λ k. run xs k (lines * bands)) (none (eqb mission 3))
      ∙ ap (run xs 0) (sym many)
      ∙ run_all xs
    where
      none : (b : Bool) → 0 * cond b 5 4 ≡ 0
      none true = refl
      none false = refl

-- The groups of bands that follow each other have the codes and the rows that they were made of.
abbrev by_band : ℕ → Correction → Layout
by_band mission correction = record { form = Sequential; mission = mission; correction = correction }

digit-there : (h : Body) (digit : ℕ) → length h ≡ 3590 → get_or (header_by_band digit h) 129 0 ≡ digit
digit-there h digit long =
    let a = length-set h 113 0 in
    let b = length-set (set h 113 0) 114 0 in
    get_or-set_same (set (set h 113 0) 114 0) 129 digit 0 (omega (arith, a, b, long))

module _ (mission : ℕ) (correction : Correction) (lines : ℕ) (g : Files) (whole : length g.header ≡ 3590) where
  abbrev l2 : Layout
  l2 = by_band mission correction

  content-there : (code : ℕ) (row : List Line) → content l2 (with_lines g (header_by_band (48 + code) g.header) row) ≡ One code
  content-there code row =
      let e : 48 + code - 48 ≡ code = omega arith in
      ap (λ k. One (k - 48)) (digit-there g.header (48 + code) whole) ∙ ap One e

  codes-there : (codes : List ℕ) (rows : List (List Line)) → length rows ≡ length codes → all_codes l2 (band_by_band codes rows g) ≡ codes
  codes-there [] rows e = refl
  codes-there (code ∷ codes) [] e = absurd (omega (arith, e))
  codes-there (code ∷ codes) (row ∷ rows) e =
      ap (λ c. codes_in c ++ all_codes l2 (band_by_band codes rows g)) (content-there code row)
      ∙ ap (λ k. code ∷ k) (codes-there codes rows (omega (arith, e)))

  rows_there : (codes : List ℕ) (rows : List (List Line)) → length rows ≡ length codes → all_rows l2 lines (band_by_band codes rows g) ≡ rows
  rows_there [] [] e = refl
  rows_there [] (row ∷ rows) e = absurd (omega (arith, e))
  rows_there (code ∷ codes) [] e = absurd (omega (arith, e))
  rows_there (code ∷ codes) (row ∷ rows) e =
      ap (λ c. rows_in c (stride l2) lines (row ++ []) ++ all_rows l2 lines (band_by_band codes rows g)) (content-there code row)
      ∙ ap (λ k. k ∷ all_rows l2 lines (band_by_band codes rows g)) (append-nil row)
      ∙ ap (λ k. row ∷ k) (rows_there codes rows (omega (arith, e)))

  -- The groups interleaved again.
  abbrev back : List ℕ → List (List Line) → List Files
  back codes rows = turned_groups Sequential l2 lines codes rows (band_by_band codes rows g)

  back_is : (codes : List ℕ) (rows : List (List Line)) → length rows ≡ length codes → turned_groups Sequential l2 lines (all_codes l2 (band_by_band codes rows g)) (all_rows l2 lines (band_by_band codes rows g)) (band_by_band codes rows g) ≡ back codes rows
  back_is codes rows e =
      ap (λ k. turned_groups Sequential l2 lines k (all_rows l2 lines (band_by_band codes rows g)) (band_by_band codes rows g)) (codes-there codes rows e)
      ∙ ap (λ k. turned_groups Sequential l2 lines codes k (band_by_band codes rows g)) (rows_there codes rows e)

  -- With the header and the lines of the group itself.
  abbrev again : Body → List Line → List Files
  again h xs = with_lines g h xs ∷ []

  back_again : (codes : List ℕ) (rows : List (List Line)) (mask : ℕ) → 0 < mask → length rows ≡ length codes → mask_of codes ≡ mask → get_or g.header 113 0 ≡ 255 → get_or g.header 114 0 ≡ cond (eqb mission 3) 5 4 → get_or g.header 129 0 ≡ 48 → get_or g.header 3579 0 ≡ mask → back codes rows ≡ again g.header (woven 3590 (cond (eqb mission 3) 5 4) codes rows 0 lines)
  back_again [] rows mask some e m a b c d = absurd (omega (arith, m))
  back_again (code ∷ codes) [] mask some e m a b c d = absurd (omega (arith, e))
  back_again (code ∷ codes) (row ∷ rows) mask some e m a b c d =
      let file = woven 3590 (cond (eqb mission 3) 5 4) (code ∷ codes) (row ∷ rows) 0 lines in
      ap (λ k. again (header_by_line (cond (eqb mission 3) 5 4) k (header_by_band (48 + code) g.header)) file) m
      ∙ ap (λ k. again k file) (header_again g.header (cond (eqb mission 3) 5 4) mask (48 + code) a b c d)

-- The file of a group on one reel is in one part.
one-part : (ps : List (List Line)) (behind : List (List Block)) → Begun ps → 1 ≤ length behind → length (image_file 1 ps behind) ≡ 1 → all_lines ps ∷ [] ≡ ps
one-part [] behind b h e = absurd b
one-part ([] ∷ ps) behind b h e = absurd b
one-part ((x ∷ xs) ∷ []) behind b h e = ap (λ k. k ∷ []) (append-nil (x ∷ xs))
one-part ((x ∷ xs) ∷ (q ∷ ps)) behind b h e = let k = length_image 1 (x ∷ xs) (q ∷ ps) behind h in absurd (omega (arith, k, e))

parts_again : (g : Files) → Begun g.parts → length (stretches (g ∷ [])) ≡ 1 → all_lines g.parts ∷ [] ≡ g.parts
parts_again g b e =
    let tail = closes g.ends (stretches []) in
    let some = length-closes g.ends (stretches []) (omega arith) in
    let behind = before (trailer_file g) tail in
    let long = length_before (trailer_file g) tail some in
    let more : 1 ≤ length behind = omega (arith, some, long) in
    let front = length_before (attributes_file g) (image_file 1 g.parts behind) (begun_long g.parts behind b more) in
    one-part g.parts behind b more (sym front ∙ e)
  where
    begun_long : (ps : List (List Line)) (behind : List (List Block)) → Begun ps → 1 ≤ length behind → 1 ≤ length (image_file 1 ps behind)
    begun_long [] behind b h = absurd b
    begun_long (p ∷ ps) behind b h = let k = length_image 1 p ps behind h in omega (arith, k)

-- The group itself again.
module _ (mission : ℕ) (correction : Correction) (lines : ℕ) (g : Files) (v : ValidFiles (by_line mission correction) lines 0 g) (ends : g.ends ≡ false) (alone : length (stretches (g ∷ [])) ≡ 1) where
  abbrev l1 : Layout
  l1 = by_line mission correction

  abbrev twice_over : List ℕ → List (List Line) → List Files
  twice_over codes rows = turned_groups Sequential (by_band mission correction) lines (all_codes (by_band mission correction) (band_by_band codes rows g)) (all_rows (by_band mission correction) lines (band_by_band codes rows g)) (band_by_band codes rows g)

  abbrev present_mask : ℕ
  present_mask = get_or g.header 3579 0

  abbrev present_rows : List (List Line)
  present_rows = map (λ place. every (cond (eqb mission 3) 5 4) place lines (all_lines g.parts)) (places_in present_mask)

  abbrev present-codes : List ℕ
  present-codes = codes_of (places_in present_mask)

  mask_bounds : (0 < present_mask) × (present_mask < 32)
  mask_bounds =
      let p = and_parts (ltb 0 present_mask) (ltb present_mask 32 && (eqb mission 3 || eqb (present_mask % 2) 0)) v.header_bands in
      let q = and_parts (ltb present_mask 32) (eqb mission 3 || eqb (present_mask % 2) 0) p.1 in
      (ltb-true 0 present_mask p.0, ltb-true present_mask 32 q.0)

  as_many : length present_rows ≡ length present-codes
  as_many = length-map (places_in present_mask) (λ place. every (cond (eqb mission 3) 5 4) place lines (all_lines g.parts)) ∙ sym (length-map (places_in present_mask) (λ place. 4 + place))

  over_again : twice_over present-codes present_rows ≡ with_lines g g.header (all_lines g.parts) ∷ []
  over_again =
      let c = counted mission correction g v.header_counts in
      back_is mission correction lines g v.header_whole present-codes present_rows as_many
      ∙ back_again mission correction lines g v.header_whole present-codes present_rows present_mask mask_bounds.0 as_many (mask_again present_mask mask_bounds.1) c.0 c.1 (eqb-true (get_or g.header 129 0) 48 v.header_band) refl
      ∙ ap (λ k. with_lines g g.header k ∷ []) (woven_again mission correction present_mask lines (all_lines g.parts) v.lines_fit v.lines_many)

  abbrev in_parts : List (List Line) → Bool → Files
  in_parts parts ends = record { header = g.header; ancillaries = g.ancillaries; annotations = g.annotations; parts = parts; trailers = g.trailers; ends = ends }

  group_again : turned_groups Sequential (by_band mission correction) lines (all_codes (by_band mission correction) (turned_groups Interleaved l1 lines (all_codes l1 (g ∷ [])) (all_rows l1 lines (g ∷ [])) (g ∷ []))) (all_rows (by_band mission correction) lines (turned_groups Interleaved l1 lines (all_codes l1 (g ∷ [])) (all_rows l1 lines (g ∷ [])) (g ∷ []))) (turned_groups Interleaved l1 lines (all_codes l1 (g ∷ [])) (all_rows l1 lines (g ∷ [])) (g ∷ [])) ≡ g ∷ []
  group_again =
      ap (λ k. twice_over k (present_rows ++ [])) (append-nil present-codes)
      ∙ ap (twice_over present-codes) (append-nil present_rows)
      ∙ over_again
      ∙ ap (λ k. in_parts k false ∷ []) (parts_again g v.begun alone)
      ∙ ap (λ k. in_parts g.parts k ∷ []) (sym ends)

-- The recording.
abbrev recorded : Form → ℕ → Correction → Body → ℕ → List Files → Recording
recorded form mission correction d lines gs = record { layout = record { form = form; mission = mission; correction = correction }; directory = d; lines = lines; groups = gs }

-- The groups of a recording of interleaved bands, turned and turned back.
abbrev turned_twice : ℕ → Correction → ℕ → List Files → List Files
turned_twice mission correction lines gs = (turn (turn (recorded Interleaved mission correction [] lines gs))).groups

not_sequential : {X : Type 0} → Interleaved ≡ Sequential → X
not_sequential e = cc

groups_again : (mission : ℕ) (correction : Correction) (lines : ℕ) (gs : List Files) → ValidGroups (by_line mission correction) lines 0 gs → length (stretches gs) ≡ 1 → turned_twice mission correction lines gs ≡ gs
groups_again mission correction lines [] v e = absurd v
groups_again mission correction lines (g ∷ []) v e = group_again mission correction lines g v.0 v.1 e
groups_again mission correction lines (g ∷ (h ∷ gs)) v e = not_sequential v.1.0

interleaved_twice : (mission : ℕ) (correction : Correction) (d : Body) (lines : ℕ) (gs : List Files) → Valid (recorded Interleaved mission correction d lines gs) → length (stretches gs) ≡ 1 → turn (turn (recorded Interleaved mission correction d lines gs)) ≡ recorded Interleaved mission correction d lines gs
interleaved_twice mission correction d lines gs v e =
    let xs = record_of 1 9 d in
    let tens = digits d (by_line mission correction) (length (stretches gs)) v.directory_values in
    let one : 48 + length (stretches gs) ≡ 49 = omega (arith, e) in
    let order = order_of (byte xs 9) (byte xs 31) (named_form (form_of (byte xs 9) (byte xs 31)) _ _ (by_line mission correction) v.directory_names) in
    ap (λ k. recorded Interleaved mission correction k lines (turned_twice mission correction lines gs)) (directory_again d tens.0 (tens.1 ∙ one) order)
    ∙ ap (recorded Interleaved mission correction d lines) (groups_again mission correction lines gs v.groups_valid e)

-- A line-interleaved recording on one reel, turned twice, is itself.
pub twice : (r : Recording) → Valid r → r.layout.form ≡ Interleaved → reels r ≡ 1 → turn (turn r) ≡ r
twice r v form one =
    subst (λ f. Valid (recorded f r.layout.mission r.layout.correction r.directory r.lines r.groups) → turn (turn (recorded f r.layout.mission r.layout.correction r.directory r.lines r.groups)) ≡ recorded f r.layout.mission r.layout.correction r.directory r.lines r.groups)
    (sym form)
    (λ w. interleaved_twice r.layout.mission r.layout.correction r.directory r.lines r.groups w one)
    v
