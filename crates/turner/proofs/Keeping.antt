-- What turning keeps.
use Rattle.std.proofs.Common.{◌≡◌, ℕ, zero, suc, length, sym, refl, ap, ◌∙◌}
use Rattle.deck.specs.Tape.{TapeSet}
use Rattle.records.specs.declared.layout.Form.{Form}
use Rattle.records.specs.declared.layout.Form.TheVariants.{Interleaved, Sequential, Vidicon}
use Rattle.records.specs.declared.layout.Layout.{Layout}
use Rattle.machine.specs.Findings.{accepted}
use Rattle.survey.specs.Recordings.{Recording, stretches, reels, written_as}
use Rattle.survey.specs.Validity.{Valid}
use Rattle.survey.proofs.Judging.{obeys}
use Rattle.survey.proofs.Starting.{done, accepts}
use Rattle.survey.proofs.Stretches.{length-bound}
use Rattle.turner.specs.Laws.{ShowsPicture, pile, Kept}
use Rattle.turner.specs.Shapes.{other_order, in_order, remembered}
use Rattle.turner.specs.Shown.{shown, turned}
use Rattle.turner.specs.Turns.{other_form, turn}
use Rattle.turner.proofs.Found.{shown-turned}
use Rattle.turner.proofs.Preserved.{turns}
use Rattle.turner.proofs.Twice.{twice}

-- A recording of the scanner.
scanner_turned : (r : Recording) → Valid r → (r.layout.form ≡ Vidicon → ⊥) → turned (written_as r) ≡ written_as (turn r)
scanner_turned r v n =
    let a = accepted (done r v).final in
    let ob = obeys r v in
    let same : r ≡ ob.recording = ob.only r v refl in
    ap (λ o. shown (remembered o) (written_as r)) (accepts r v)
    ∙ shown-turned a (written_as r) ob (λ e. n (ap (λ (k : Recording). k.layout.form) same ∙ e))
    ∙ ap (λ k. written_as (turn k)) (sym same)

vidicon_turned : (r : Recording) → Valid r → r.layout.form ≡ Vidicon → turned (written_as r) ≡ written_as r
vidicon_turned r v e =
    let a = accepted (done r v).final in
    let ob = obeys r v in
    let same : r ≡ ob.recording = ob.only r v refl in
    let form : a.summary.layout.form ≡ Vidicon = ap (λ (k : Layout). k.form) ob.layout ∙ ap (λ (k : Recording). k.layout.form) (sym same) ∙ e in
    ap (λ o. shown (remembered o) (written_as r)) (accepts r v)
    ∙ ap (λ f. shown (in_order a (other_order f)) (written_as r)) form

-- One turner more.
one_more : (r : Recording) → Valid r → (form : Form) → r.layout.form ≡ form → ShowsPicture r (turned (written_as r))
one_more r v Vidicon e = record { recording = r; valid = v; is = sym (vidicon_turned r v e); same = refl }
one_more r v Interleaved e = let n : r.layout.form ≡ Vidicon → ⊥ = λ w. not_mixed (sym e ∙ w) in let t = turns r v n in record { recording = turn r; valid = t.valid; is = sym (scanner_turned r v n); same = t.same }
  where
    not_mixed : Interleaved ≡ Vidicon → ⊥
    not_mixed w = cc
one_more r v Sequential e = let n : r.layout.form ≡ Vidicon → ⊥ = λ w. not_apart (sym e ∙ w) in let t = turns r v n in record { recording = turn r; valid = t.valid; is = sym (scanner_turned r v n); same = t.same }
  where
    not_apart : Sequential ≡ Vidicon → ⊥
    not_apart w = cc

pub piles : (n : ℕ) (set : TapeSet) (r : Recording) → Valid r → written_as r ≡ set → ShowsPicture r (pile n set)
piles zero set r v e = record { recording = r; valid = v; is = e; same = refl }
piles (suc n) set r v e =
    let p = piles n set r v e in
    let q = one_more p.recording p.valid p.recording.layout.form refl in
    record { recording = q.recording; valid = q.valid; is = q.is ∙ ap turned p.is; same = q.same ∙ p.same }

twice_turned : (r : Recording) → Valid r → r.layout.form ≡ Interleaved → reels r ≡ 1 → turned (turned (written_as r)) ≡ written_as r
twice_turned r v e one =
    let n : r.layout.form ≡ Vidicon → ⊥ = λ w. not_mixed (sym e ∙ w) in
    let t = turns r v n in
    ap turned (scanner_turned r v n)
    ∙ scanner_turned (turn r) t.valid (λ w. not_apart (sym (ap other_form e) ∙ w))
    ∙ ap written_as (twice r v e one)
  where
    not_mixed : Interleaved ≡ Vidicon → ⊥
    not_mixed w = cc

    not_apart : Sequential ≡ Vidicon → ⊥
    not_apart w = cc

pub keeps : (set : TapeSet) → Kept set
keeps set = record {
  scanner = λ r v e n. ap turned (sym e) ∙ scanner_turned r v n;
  valid = λ r v e n. (turns r v n).valid;
  vidicon = λ r v e f. ap turned (sym e) ∙ vidicon_turned r v f ∙ e;
  broken = λ f e. ap (λ o. shown (remembered o) set) e;
  piled = λ n r v e. piles n set r v e;
  twice = λ r v e f one. ap (λ s. turned (turned s)) (sym e) ∙ twice_turned r v f (sym (length-bound r.directory (reels r) 1 (stretches r.groups)) ∙ ap length e ∙ one) ∙ e;
}
