-- The directories of later reels, and the way from one reel to the next.
use Rattle.std.proofs.Common.{◌≡◌, ℕ, ◌+◌, ◌<◌, ◌≤◌, true, cond, eqb, List, [], ◌∷◌, ◌++◌, length, get_or, take, drop, set, Some, None, Ok, Result, sym, refl, ap, ◌∙◌, subst, arith, length-set, Option}
use lib.Seq.{split_at, set_split}
use Rattle.std.specs.Str.{bytes_eq}
use Rattle.std.proofs.lemmas.Slice.Eq.{bytes_eq-Decides}
use Rattle.std.proofs.lemmas.List.{get_or-set_same, set-get_or, take-set-le, drop-set-lt}
use Rattle.std.proofs.lemmas.Bool.{eq-eqb, ne_eqb, and_parts, and_from, cond-true, cond-false}
use Rattle.deck.specs.Tape.{written, mark, Reel, TapeSet}
use Rattle.deck.specs.Words.{word}
use Rattle.records.specs.Directories.{first_directory, same_directory}
use Rattle.machine.specs.Machines.{step, passed, first, later, onward_expect}
use Rattle.records.specs.Records.{byte, checked}
use Rattle.survey.specs.Surveys.{Fault}
use Rattle.machine.specs.Findings.{place_of}
use Rattle.records.specs.declared.bands.Bands.{Bands}
use Rattle.records.specs.declared.layout.Layout.{Layout}
use Rattle.machine.specs.declared.machine.Expect.{Expect}
use Rattle.machine.specs.declared.machine.Expect.TheVariants as expects
use Rattle.machine.specs.declared.machine.Group.{Group}
use Rattle.machine.specs.declared.machine.Machine.{Machine}
use Rattle.machine.specs.declared.machine.Onward.{Onward}
use Rattle.survey.specs.Recordings.{Body, record_of, directory_on, closing, bound}
use Rattle.survey.proofs.Passing.{passes, spells}
use Rattle.survey.proofs.Running.{On, onward, next_reel}
use Rattle.survey.proofs.Stretches.{hd, tl, bound_more}
use Rattle.survey.proofs.Steps.{machine}

-- The directory of the first reel.
pub first_reel : (d : Body) → get_or d 12 0 ≡ 49 → directory_on d 1 ≡ record_of 1 9 d
first_reel d e = ap (record_of 1 9) (ap (set d 12) (sym e) ∙ set-get_or d 12 0)

-- The body of a reel's directory.
abbrev here_set : Body → ℕ → Body
here_set d reel = set d 12 (48 + reel)

-- A later directory is equal but for its digit.
pub later_same : (d : Body) (reel : ℕ) → length d ≡ 354 → same_directory (record_of 1 9 d) (directory_on d reel) ≡ true
unfolding same_directory
later_same d reel h =
    let front : take 12 d ≡ take 12 (set d 12 (48 + reel)) = sym (take-set-le 12 d 12 (48 + reel) (omega arith)) in
    let back : drop 13 d ≡ drop 13 (set d 12 (48 + reel)) = sym (drop-set-lt 13 d 12 (48 + reel) (omega arith)) in
    and_from (bytes_eq (take 18 (record_of 1 9 d)) (take 18 (directory_on d reel))) (bytes_eq (drop 19 (record_of 1 9 d)) (drop 19 (directory_on d reel)))
    ((bytes_eq-Decides (take 18 (record_of 1 9 d)) (take 18 (directory_on d reel))).1 (ap (λ t. word 1 ++ 0 ∷ 9 ∷ t) front))
    ((bytes_eq-Decides (drop 19 (record_of 1 9 d)) (drop 19 (directory_on d reel))).1 back)

six-alike : (a b c x y z : ℕ) (s t : List ℕ) → a ∷ b ∷ c ∷ x ∷ y ∷ z ∷ s ≡ a ∷ b ∷ c ∷ x ∷ y ∷ z ∷ t → s ≡ t
six-alike a b c x y z s t e = ap (drop 6) e

pub later_is : (d : Body) (reel : ℕ) (xs : List ℕ) → length d ≡ 354 → checked xs 360 9 1 ≡ None → same_directory (record_of 1 9 d) xs ≡ true → byte xs 19 ≡ 48 + reel → xs ≡ directory_on d reel
unfolding same_directory
later_is d reel xs h c s b =
    let p = spells xs 360 9 1 (omega arith) c in
    let body = drop 6 xs in
    let same = subst (λ t. same_directory (record_of 1 9 d) t ≡ true) p.is s in
    let q = and_parts (bytes_eq (take 18 (record_of 1 9 d)) (take 18 (record_of 1 9 body))) (bytes_eq (drop 19 (record_of 1 9 d)) (drop 19 (record_of 1 9 body))) same in
    let front : take 12 d ≡ take 12 body = ap (drop 6) ((bytes_eq-Decides (take 18 (record_of 1 9 d)) (take 18 (record_of 1 9 body))).0 q.0) in
    let back : drop 13 d ≡ drop 13 body = (bytes_eq-Decides (drop 19 (record_of 1 9 d)) (drop 19 (record_of 1 9 body))).0 q.1 in
    let digit : get_or body 12 0 ≡ 48 + reel = subst (λ t. byte t 19 ≡ 48 + reel) p.is b in
    let there : 12 < length body = omega (arith, p.long) in
    let is : body ≡ set d 12 (48 + reel) =
    split_at body 12 0 there
    ∙ ap (λ t. t ++ get_or body 12 0 ∷ drop 13 body) (sym front)
    ∙ ap (λ v. take 12 d ++ v ∷ drop 13 body) digit
    ∙ ap (λ t. take 12 d ++ (48 + reel) ∷ t) (sym back)
    ∙ sym (set_split d 12 (48 + reel) (omega (arith, h))) in
    p.is ∙ ap (record_of 1 9) is

module _ (set : TapeSet) (z : Result Machine Fault) (many : ℕ) (d : Body) (l : Layout) (whole : length d ≡ 354) where
  abbrev at : Expect → Group → ℕ → List Group → Bands → Machine
  at e g c t b = machine many (record_of 1 9 d) l e g c t b

  later_steps : (on : Option Onward) (g : Group) (c : ℕ) (t : List Group) (b : Bands) (reel : ℕ) → 1 < reel → step (at (expects.Directory on) g c t b) (place_of reel 1) (Some (written (directory_on d reel))) ≡ Ok (at (expects.DirectoryMark on) g c t b)
  later_steps on g c t b reel h =
      let m = at (expects.Directory on) g c t b in
      let xs = directory_on d reel in
      let long : length (here_set d reel) ≡ 354 = length-set d 12 (48 + reel) ∙ whole in
      let pass : checked xs 360 9 1 ≡ None = passes 1 9 (here_set d reel) 360 long (omega arith) in
      ap (λ q. passed q (cond (eqb reel 1) (first m on xs (first_directory xs many)) (later m (place_of reel 1) on xs))) pass
      ∙ cond-false (eqb reel 1) (first m on xs (first_directory xs many)) (later m (place_of reel 1) on xs) (ne_eqb reel 1 (λ e. omega arith))
      ∙ cond-true _ _ _ (later_same d reel whole)
      ∙ cond-true _ _ _ (eq-eqb (byte xs 19) (48 + reel) (get_or-set_same d 12 (48 + reel) 0 (omega (arith, whole))))

  pub next_stretch : (on : Option Onward) (g : Group) (c : ℕ) (t : List Group) (b : Bands) (reel block : ℕ) (ss : List Reel) → 1 ≤ reel → 1 ≤ length ss → On set z (at (expects.End on) g c t b) reel block [] (bound d many (reel + 1) ss) → On set z (at (onward_expect on) g c t b) (reel + 1) 3 (hd ss ++ closing (reel + 1) many) (bound d many (reel + 1 + 1) (tl ss))
  next_stretch on g c t b reel block ss h f o =
      let body = hd ss ++ closing (reel + 1) many in
      let p = subst (λ r. On set z (at (expects.End on) g c t b) reel block [] r) (bound_more d many (reel + 1) ss f) o in
      let q = next_reel set z (at (expects.End on) g c t b) (at (expects.Directory on) g c t b) reel block (written (directory_on d (reel + 1)) ∷ mark ∷ body) (bound d many (reel + 1 + 1) (tl ss)) p refl in
      let r = onward set z (at (expects.Directory on) g c t b) (at (expects.DirectoryMark on) g c t b) (reel + 1) 1 (written (directory_on d (reel + 1))) (mark ∷ body) (bound d many (reel + 1 + 1) (tl ss)) q (later_steps on g c t b (reel + 1) (omega arith)) in
      onward set z (at (expects.DirectoryMark on) g c t b) (at (onward_expect on) g c t b) (reel + 1) 2 mark body (bound d many (reel + 1 + 1) (tl ss)) r refl
