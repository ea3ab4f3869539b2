-- A turned recording is valid, and shows the same picture.
use Rattle.std.proofs.Common.{◌≡◌, ℕ, ◌+◌, ◌%◌, ◌≤◌, Bool, true, false, cond, ◌&&◌, ◌||◌, eqb, ltb, leb, List, [], ◌∷◌, ◌++◌, map, length, take, drop, sym, refl, ap, ◌∙◌, subst, ⊎_elim, arith}
use Rattle.std.proofs.lemmas.Bool.{leb-true, and_parts, and_from, or_cases, true≢false}
use Rattle.records.specs.Directories.{fixed}
use Rattle.records.specs.Headers.{band_in, bands_in}
use Rattle.records.specs.Layouts.{sensor_in}
use Rattle.records.specs.Records.{byte}
use Rattle.records.specs.declared.layout.Correction.{Correction}
use Rattle.records.specs.declared.layout.Form.{Form}
use Rattle.records.specs.declared.layout.Form.TheVariants.{Interleaved, Sequential, Vidicon}
use Rattle.records.specs.declared.layout.Layout.{Layout}
use Rattle.machine.specs.Machines.{band_of}
use Rattle.survey.specs.Pictures.{Picture, picture, places_in, all_codes, all_rows}
use Rattle.survey.specs.Recordings.{Body, Line, Files, Recording, record_of, reels}
use Rattle.survey.specs.Validity.{content, header_record, ValidFiles, ValidGroups, Valid}
use Rattle.reader.proofs.Bands.{places_below}
use Rattle.reader.proofs.Proper.{From, sequential_codes, rising, head_valid, proper}
use Rattle.turner.specs.Changes.{directory_changed, mask_of}
use Rattle.turner.specs.Turns.{other_layout, turn}
use Rattle.turner.specs.declared.shape.Order.TheVariants.{ByLine, ByBand}
use Rattle.turner.proofs.Fronts.{changed-whole, ident_kept, names_turned, values_turned}
use Rattle.turner.proofs.Masks.{chosen, Upto, Chosen, choose, told_again, small_mask, some_mask, even_mask}
use Rattle.turner.proofs.Separating.{separated_groups, separated_picture, separated_reels}
use Rattle.turner.proofs.Woven.{apart, one_valid, one-codes, one_rows}

-- The codes of bands that follow each other: 4 to 8, and 8 only for mission 3.
upto_back : (n : ℕ) (xs ys : List ℕ) → Upto n (xs ++ ys) → Upto n ys
upto_back n [] ys u = u
upto_back n (x ∷ xs) ys u = upto_back n xs ys u.1

abbrev pick : Bool → ℕ → List ℕ
pick b c = cond b (c ∷ []) []

no_eight : (a b c d e : Bool) → Upto 7 (chosen a b c d e) → e ≡ false
no_eight a b c d true u =
    let w = upto_back 7 (pick d 7) (8 ∷ []) (upto_back 7 (pick c 6) (pick d 7 ++ 8 ∷ []) (upto_back 7 (pick b 5) (pick c 6 ++ (pick d 7 ++ 8 ∷ [])) (upto_back 7 (pick a 4) (pick b 5 ++ (pick c 6 ++ (pick d 7 ++ 8 ∷ []))) u))) in
    let k = w.0 in absurd (omega (arith, k))
no_eight a b c d false u = refl

module _ (mission lines : ℕ) (correction : Correction) where
  abbrev l : Layout
  l = record { form = Sequential; mission = mission; correction = correction }

  high : (last b : ℕ) → band_in Sequential mission last b ≡ true → eqb mission 3 ≡ false → b ≤ 55
  high last b e n =
      let p = and_parts (leb 52 b) ((leb b 55 || (eqb b 56 && eqb mission 3)) && ltb (last + 48) b) e in
      let q = and_parts (leb b 55 || (eqb b 56 && eqb mission 3)) (ltb (last + 48) b) p.1 in
      ⊎_elim
      (λ (h : leb b 55 ≡ true). leb-true b 55 h)
      (λ (h : (eqb b 56 && eqb mission 3) ≡ true). absurd (true≢false (sym (and_parts (eqb b 56) (eqb mission 3) h).1 ∙ n)))
      (or_cases (leb b 55) (eqb b 56 && eqb mission 3) q.0)

  pub upto : (gs : List Files) (last n : ℕ) → ValidGroups l lines last gs → ((f : Files) (last : ℕ) → ValidFiles l lines last f → byte (header_record f) 136 ≤ 48 + n) → Upto n (all_codes l gs)
  upto [] last n v h = absurd v
  upto (f ∷ []) last n v h = let k = h f last v.0 in (omega (arith, k), tt)
  upto (f ∷ (g ∷ gs)) last n v h = let k = h f last v.0 in (omega (arith, k), upto (g ∷ gs) (band_of (content l f)) n v.1.1 h)

  pub from_four : (gs : List Files) → ValidGroups l lines 0 gs → From 4 (all_codes l gs)
  from_four [] v = absurd v
  from_four (f ∷ []) v = let r = rising l lines refl f 0 v.0 in let low = r.low in (omega (arith, low), tt)
  from_four (f ∷ (g ∷ gs)) v =
      let r = rising l lines refl f 0 v.0 in
      let low = r.low in
      (omega (arith, low), (sequential_codes l lines refl (g ∷ gs) (band_of (content l f)) v.1.1).0.0)

  some_code : (gs : List Files) (last : ℕ) → ValidGroups l lines last gs → 1 ≤ length (all_codes l gs)
  some_code [] last v = absurd v
  some_code (f ∷ gs) last v = omega arith

  module _ (gs : List Files) (v : ValidGroups l lines 0 gs) where
    abbrev cs : List ℕ
    cs = all_codes l gs

    choice : Chosen cs
    choice = choose cs (from_four gs v) (upto gs 0 8 v (λ f last w. let r = rising l lines refl f last w in r.high))

    told : map (λ p. 4 + p) (places_in (mask_of cs)) ≡ cs
    told = let c = choice in subst (λ k. map (λ p. 4 + p) (places_in (mask_of k)) ≡ k) (sym c.is) (told_again c.four c.five c.six c.seven c.eight)

    fits : bands_in Interleaved mission (mask_of cs) ≡ true
    fits =
        let c = choice in
        let some = subst (λ k. 1 ≤ length k) c.is (some_code gs 0 v) in
        subst (λ k. bands_in Interleaved mission (mask_of k) ≡ true) (sym c.is)
        (and_from _ _ (some_mask c.four c.five c.six c.seven c.eight some)
        (and_from _ _ (small_mask c.four c.five c.six c.seven c.eight) (even (eqb mission 3) refl)))
      where
        even : (b : Bool) → eqb mission 3 ≡ b → (b || eqb (mask_of (chosen choice.four choice.five choice.six choice.seven choice.eight) % 2) 0) ≡ true
        even true e = refl
        even false e =
            let c = choice in
            let none = no_eight c.four c.five c.six c.seven c.eight (subst (Upto 7) c.is (upto gs 0 7 v (λ f last w. high last (byte (header_record f) 136) w.header_band e))) in
            subst (λ k. eqb (mask_of (chosen c.four c.five c.six c.seven k) % 2) 0 ≡ true) (sym none) (even_mask c.four c.five c.six c.seven)

sequential_form : Sequential ≡ Vidicon → ⊥
sequential_form e = cc

interleaved_form : Interleaved ≡ Vidicon → ⊥
interleaved_form e = cc

-- Recordings by their parts.
abbrev recorded : Form → ℕ → Correction → Body → ℕ → List Files → Recording
recorded form mission correction d lines gs = record { layout = record { form = form; mission = mission; correction = correction }; directory = d; lines = lines; groups = gs }

abbrev pictured : Layout → List ℕ → List ℕ → ℕ → List (List Line) → Picture
pictured k ident cs lines rows = record { sensor = sensor_in k.form; mission = k.mission; correction = k.correction; ident = ident; codes = cs; lines = lines; rows = rows }

-- A recording that is turned: valid, with the same picture, on one reel.
pub record Turns (r : Recording) : Type 0 where
  pub valid : Valid (turn r)
  pub same : picture (turn r) ≡ picture r
  pub one_reel : reels (turn r) ≡ 1

from_sequential : (mission : ℕ) (correction : Correction) (d : Body) (lines : ℕ) (f : Files) (fs : List Files) → Valid (recorded Sequential mission correction d lines (f ∷ fs)) → Turns (recorded Sequential mission correction d lines (f ∷ fs))
from_sequential mission correction d lines f fs v =
    let gs = f ∷ fs in
    let r = recorded Sequential mission correction d lines gs in
    let k = apart mission lines correction f 0 [] [] in
    let cs = all_codes k gs in
    let rows = all_rows k lines gs in
    let vf = head_valid k lines 0 f fs v.groups_valid in
    let p = proper r v in
    let told_so = told mission lines correction gs v.groups_valid in
    let fit = fits mission lines correction gs v.groups_valid in
    let below = places_below mission (mask_of cs) fit in
    let mss : Sequential ≡ Vidicon → ⊥ = λ e. sequential_form e in
    let CodesSame = one-codes mission lines correction f 0 cs rows vf told_so fit p.rows_whole v.lines_some in
    let rows_same = one_rows mission lines correction f 0 cs rows vf told_so fit p.rows_whole v.lines_some p.codes_rise p.rows_many below in
    let ident_same = ident_kept d ByLine v.directory_whole in record {
      valid = record {
        directory_whole = changed-whole d ByLine v.directory_whole;
        directory_names = names_turned d k (reels r) ByLine v.directory_whole v.directory_names v.directory_values mss;
        directory_values = values_turned d k (reels r) ByLine v.directory_whole v.directory_names v.directory_values mss;
        reels_few = omega arith;
        lines_some = v.lines_some;
        lines_few = v.lines_few;
        groups_valid = (one_valid mission lines correction f 0 cs rows vf told_so fit p.rows_whole v.lines_some, refl);
      };
      same =
          ap (λ x. pictured k x (all_codes (other_layout k) (turn r).groups) lines (all_rows (other_layout k) lines (turn r).groups)) ident_same
          ∙ ap (λ x. pictured k (take 18 (drop 28 d)) x lines (all_rows (other_layout k) lines (turn r).groups)) CodesSame
          ∙ ap (λ x. pictured k (take 18 (drop 28 d)) cs lines x) rows_same;
      one_reel = refl;
    }

from_interleaved : (mission : ℕ) (correction : Correction) (d : Body) (lines : ℕ) (gs : List Files) → Valid (recorded Interleaved mission correction d lines gs) → Turns (recorded Interleaved mission correction d lines gs)
from_interleaved mission correction d lines gs v =
    let r = recorded Interleaved mission correction d lines gs in
    let k = r.layout in
    let one = separated_reels r refl in
    let p = separated_picture r v refl in
    let mss : Interleaved ≡ Vidicon → ⊥ = λ e. interleaved_form e in
    let values = values_turned d k (reels r) ByBand v.directory_whole v.directory_names v.directory_values mss in record {
      valid = record {
        directory_whole = changed-whole d ByBand v.directory_whole;
        directory_names = names_turned d k (reels r) ByBand v.directory_whole v.directory_names v.directory_values mss;
        directory_values = subst (λ n. fixed (record_of 1 9 (directory_changed ByBand d)) (other_layout k) n ≡ true) (sym one) values;
        reels_few = omega (arith, one);
        lines_some = v.lines_some;
        lines_few = v.lines_few;
        groups_valid = separated_groups r v refl;
      };
      same =
          ap (λ x. pictured k x (all_codes (other_layout k) (turn r).groups) lines (all_rows (other_layout k) lines (turn r).groups)) (ident_kept d ByBand v.directory_whole)
          ∙ ap (λ x. pictured k (take 18 (drop 28 d)) x lines (all_rows (other_layout k) lines (turn r).groups)) p.codes
          ∙ ap (λ x. pictured k (take 18 (drop 28 d)) (all_codes k gs) lines x) p.rows;
      one_reel = one;
    }

by_form : (form : Form) (mission : ℕ) (correction : Correction) (d : Body) (lines : ℕ) (gs : List Files) → (form ≡ Vidicon → ⊥) → Valid (recorded form mission correction d lines gs) → Turns (recorded form mission correction d lines gs)
by_form Interleaved mission correction d lines gs n v = from_interleaved mission correction d lines gs v
by_form Sequential mission correction d lines [] n v = absurd v.groups_valid
by_form Sequential mission correction d lines (f ∷ fs) n v = from_sequential mission correction d lines f fs v
by_form Vidicon mission correction d lines gs n v = absurd (n refl)

-- Every valid recording of the scanner, turned.
pub turns : (r : Recording) → Valid r → (r.layout.form ≡ Vidicon → ⊥) → Turns r
turns r v n = by_form r.layout.form r.layout.mission r.layout.correction r.directory r.lines r.groups n v
