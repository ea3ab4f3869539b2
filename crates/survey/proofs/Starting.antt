-- The survey of a valid recording.
use Rattle.std.proofs.Common.{◌≡◌, ℕ, ◌*◌, ◌/◌, ◌≤◌, Bool, true, false, cond, eqb, List, [], ◌∷◌, ◌++◌, length, get_or, replicate, Some, None, Ok, Result, refl, ap, ◌∙◌, subst, inl, inr, arith}
use Rattle.std.proofs.lemmas.Bool.{eqb-true, and_parts, cond-true}
use Rattle.deck.specs.Tape.{written, mark, Reel, TapeSet}
use Rattle.records.specs.Directories.{layout_of, fixed, named, first_directory}
use Rattle.machine.specs.Machines.{passed, first, on_directory}
use Rattle.records.specs.Bands.{no_bands}
use Rattle.records.specs.Records.{byte, checked}
use Rattle.survey.specs.Surveys.{Fault, then, feed, surveyed}
use Rattle.machine.specs.Findings.{place_of, start, nothing_read, lines_in, accepted}
use Rattle.records.specs.declared.layout.Form.{Form}
use Rattle.records.specs.declared.layout.Form.TheVariants.{Interleaved, Sequential, Vidicon}
use Rattle.records.specs.declared.layout.Layout.{Layout}
use Rattle.machine.specs.declared.machine.Expect.TheVariants as expects
use Rattle.machine.specs.declared.machine.Machine.{Machine}
use Rattle.machine.specs.declared.machine.Onward.TheVariants as onwards
use Rattle.survey.specs.Recordings.{Body, Recording, record_of, directory_on, stretches, reels, closing, bound, written_as}
use Rattle.survey.specs.Validity.{width, Valid}
use Rattle.survey.proofs.Passing.{passes}
use Rattle.survey.proofs.Running.{On, onward, beginning}
use Rattle.survey.proofs.Stretches.{hd, tl, length-bound}
use Rattle.survey.proofs.Steps.{machine}
use Rattle.survey.proofs.Reels.{first_reel}
use Rattle.survey.proofs.Accepting.{length_tl, some_stretch, Done, groups_run}

-- The digit of the first reel.
pub digit-one : (d : Body) (l : Layout) (many : ℕ) → fixed (record_of 1 9 d) l many ≡ true → get_or d 12 0 ≡ 49
digit-one d l many e =
    let xs = record_of 1 9 d in
    let p = and_parts (eqb (byte xs 7) 76) _ e in
    let q = and_parts (eqb (byte xs 10) 67) _ p.1 in
    let r = and_parts (eqb (byte xs 19) 49) _ q.1 in
    eqb-true (byte xs 19) 49 r.0

-- A first directory that names its layout, and whose other values are in order.
first_is : (xs : List ℕ) (many : ℕ) (l : Layout) → layout_of xs ≡ Some l → fixed xs l many ≡ true → first_directory xs many ≡ Some l
unfolding first_directory
first_is xs many l says values = ap (named xs many) says ∙ cond-true (fixed xs l many) (Some l) None values

-- The first reel up to its first header.
module _ (d : Body) (l : Layout) (many : ℕ) (whole : length d ≡ 354) (says : layout_of (record_of 1 9 d) ≡ Some l) (values : fixed (record_of 1 9 d) l many ≡ true) where
  abbrev pub heading : Machine
  heading = machine many (record_of 1 9 d) l expects.Header nothing_read 0 (replicate 5 nothing_read) no_bands

  first_steps : (m : Machine) → m.reels ≡ many → m.expect ≡ expects.Directory (Some onwards.Header) → (xs : List ℕ) → xs ≡ record_of 1 9 d → on_directory m (place_of 1 1) (Some onwards.Header) xs ≡ first m (Some onwards.Header) xs (Some l)
  first_steps m e f xs is =
      let named : first_directory xs m.reels ≡ Some l = ap (first_directory xs) e ∙ ap (λ k. first_directory k many) is ∙ first_is (record_of 1 9 d) many l says values in
      ap (λ q. passed q (first m (Some onwards.Header) xs (first_directory xs m.reels))) (ap (λ k. checked k 360 9 1) is ∙ passes 1 9 d 360 whole (omega arith))
      ∙ ap (first m (Some onwards.Header) xs) named

  pub at_header : (tape : TapeSet) (z : Result Machine Fault) (bs : Reel) (rs : TapeSet) → On tape z (start many) 1 1 (written (directory_on d 1) ∷ mark ∷ bs) rs → On tape z heading 1 3 bs rs
  at_header tape z bs rs o =
      let is = first_reel d (digit-one d l many values) in
      let p = subst (λ k. On tape z (start many) 1 1 (written k ∷ mark ∷ bs) rs) is o in
      let m = machine many (record_of 1 9 d) l (expects.DirectoryMark (Some onwards.Header)) nothing_read 0 (replicate 5 nothing_read) no_bands in
      let q = onward tape z (start many) m 1 1 (written (record_of 1 9 d)) (mark ∷ bs) rs p (first_steps (start many) refl refl (record_of 1 9 d) refl) in
      onward tape z m heading 1 2 mark bs rs q refl

-- The lines of each band.
bands_in : (b : Bool) (lines : ℕ) → (lines * cond b 5 4) / cond b 5 4 ≡ lines
bands_in true lines = omega arith
bands_in false lines = omega arith

pub lines_back : (f : Form) (mission lines : ℕ) → lines_in f (cond (eqb mission 3) 5 4) (lines * width f (cond (eqb mission 3) 5 4)) ≡ lines
lines_back Interleaved mission lines = bands_in (eqb mission 3) lines
lines_back Sequential mission lines = omega arith
lines_back Vidicon mission lines = omega arith

module _ (r : Recording) (v : Valid r) where
  abbrev pub tape : TapeSet
  tape = written_as r

  abbrev pub outcome : Result Machine Fault
  outcome = feed (start (reels r)) 1 tape

  starts : (ss : List Reel) → 1 ≤ length ss → On (bound r.directory (reels r) 1 ss) (feed (start (reels r)) 1 (bound r.directory (reels r) 1 ss)) (start (reels r)) 1 1 (written (directory_on r.directory 1) ∷ mark ∷ (hd ss ++ closing 1 (reels r))) (bound r.directory (reels r) 2 (tl ss))
  starts [] h = absurd (omega arith)
  starts (s ∷ ss) h = beginning (start (reels r)) _ _

  some : 1 ≤ length (stretches r.groups)
  some = some_stretch r.layout r.lines 0 r.groups v.groups_valid

  pub done : Done tape outcome (reels r) r.directory r.layout v.directory_whole r.lines v.lines_few v.reels_few 0 (replicate 5 nothing_read) no_bands r.groups
  done =
      let ss = stretches r.groups in
      let o = at_header r.directory r.layout (reels r) v.directory_whole v.directory_names v.directory_values tape outcome (hd ss ++ closing 1 (reels r)) (bound r.directory (reels r) 2 (tl ss)) (starts ss some) in
      let long = length_tl ss in
      groups_run tape outcome (reels r) r.directory r.layout v.directory_whole r.lines v.lines_few v.reels_few r.groups 0 v.groups_valid expects.Header (λ g c t b p xs. refl) nothing_read 0 (replicate 5 nothing_read) no_bands 1 3 refl (omega arith) (inr refl) (inl refl) refl (omega arith) (omega (arith, long, some)) o

  -- The set is accepted.
  pub accepts : surveyed (written_as r) ≡ Ok (accepted done.final)
  accepts = ap (λ k. then (feed (start k) 1 tape) (λ m. Ok (accepted m))) (length-bound r.directory (reels r) 1 (stretches r.groups)) ∙ ap (λ k. then k (λ m. Ok (accepted m))) done.is
