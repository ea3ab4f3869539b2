-- Every accepted set was written from a valid recording.
use Rattle.std.proofs.Common.{◌≡◌, ℕ, ◌+◌, ◌≤◌, Bool, true, false, cond, eqb, List, [], ◌∷◌, ◌++◌, length, drop, replicate, Some, None, Ok, Err, Option, Result, sym, refl, ap, ◌∙◌, subst, inl, inr, ⊎_elim, arith}
use Rattle.std.proofs.lemmas.List.{nil_from_length}
use Rattle.std.proofs.lemmas.Bool.{eqb-true}
use Rattle.deck.specs.Tape.{written, mark, bad, Reel, TapeSet}
use Rattle.records.specs.Bands.{no_bands}
use Rattle.records.specs.Directories.{layout_of, fixed, named, first_directory, same_directory}
use Rattle.records.specs.Records.{byte, checked}
use Rattle.records.specs.declared.bands.Bands.{Bands}
use Rattle.records.specs.declared.layout.Layout.{Layout}
use Rattle.machine.specs.Findings.{place_of, nothing_read, start, accepted}
use Rattle.machine.specs.Machines.{first, later, onward_expect}
use Rattle.machine.specs.declared.accepted.Accepted.{Accepted}
use Rattle.machine.specs.declared.machine.Expect.{Expect}
use Rattle.machine.specs.declared.machine.Expect.TheVariants as expects
use Rattle.machine.specs.declared.machine.Group.{Group}
use Rattle.machine.specs.declared.machine.Machine.{Machine}
use Rattle.machine.specs.declared.machine.Onward.{Onward}
use Rattle.machine.specs.declared.machine.Onward.TheVariants as onwards
use Rattle.survey.specs.Recordings.{Body, Recording, record_of, stretches, directory_on, closing, bound, written_as}
use Rattle.survey.specs.Surveys.{Fault, then, feed, surveyed}
use Rattle.survey.specs.Validity.{Valid}
use Rattle.survey.proofs.Accepting.{length_tl}
use Rattle.survey.proofs.Inverse.{after, refused, was_passed, was_either, was_true}
use Rattle.survey.proofs.Passing.{spells}
use Rattle.survey.proofs.Reels.{first_reel, later_is}
use Rattle.survey.proofs.Rests as rests
use Rattle.survey.proofs.Running.{go}
use Rattle.survey.proofs.Starting.{digit-one}
use Rattle.survey.proofs.Steps.{machine}
use Rattle.survey.proofs.Stretches.{hd, tl, bound_more}
use Rattle.survey.proofs.Understanding.{Again, block_left}

module _ (z : Machine) (many : ℕ) (d : Body) (l : Layout) (whole : length d ≡ 354) where
  abbrev at : Expect → Group → ℕ → List Group → Bands → Machine
  at e g c t b = machine many (record_of 1 9 d) l e g c t b

  -- Where a reel has ended, the next tells what is left.
  abbrev Next : ℕ → TapeSet → Type 0
  Next reel rs = (on : Option Onward) (g : Group) (c : ℕ) (t : List Group) (b : Bands) → length t ≡ 5 → reel + 1 ≤ many → rests.Known many d l (onward_expect on) g c t (reel + 1) → feed (at (expects.Directory on) g c t b) (reel + 1) rs ≡ Ok z → rests.NextRest many d l (λ k cs us. rests.Rest many d l (onward_expect on) g c t k cs us) reel rs

  ended : (reel : ℕ) (rs : TapeSet) → reel + length rs ≡ many → Next reel rs → Again z many d l reel [] rs
  ended reel rs left next (expects.Directory on) g c t b block five k q = absurd k
  ended reel rs left next (expects.DirectoryMark on) g c t b block five k q = absurd k
  ended reel rs left next expects.Header g c t b block five k q = refused _ z q
  ended reel rs left next (expects.Attribute n) g c t b block five k q = refused _ z q
  ended reel rs left next expects.AttributeMark g c t b block five k q = refused _ z q
  ended reel rs left next expects.FirstImage g c t b block five k q = refused _ z q
  ended reel rs left next expects.Image g c t b block five k q = refused _ z q
  ended reel rs left next expects.BehindImage g c t b block five k q = refused _ z q
  ended reel rs left next expects.Resumed g c t b block five k q = refused _ z q
  ended reel rs left next (expects.Trailer n) g c t b block five k q = refused _ z q
  ended reel rs left next expects.TrailerMark g c t b block five k q = refused _ z q
  ended reel rs left next expects.BehindTrailer g c t b block five k q = refused _ z q
  ended reel rs left next expects.LastMark g c t b block five k q = refused _ z q
  ended reel rs left next (expects.End (Some onwards.Header)) g c t b block five k q = (refl, next (Some onwards.Header) g c t b five k.0 (inl k.1) q)
  ended reel rs left next (expects.End (Some onwards.Image)) g c t b block five k q = (refl, next (Some onwards.Image) g c t b five k.0 k.1 q)
  ended reel rs left next (expects.End None) g c t b block five k q = (refl, nil_from_length rs (omega (arith, left, k)))

  -- The rest of a reel.
  pub along : (bs : Reel) (reel : ℕ) (rs : TapeSet) → 1 ≤ reel → reel + length rs ≡ many → Next reel rs → Again z many d l reel bs rs
  along [] reel rs r left next = ended reel rs left next
  along (b0 ∷ bs) reel rs r left next = λ e g c t b block five k q. block_left z many d l reel bs rs (along bs reel rs r left next) g c t b block five b0 e r left k q

  -- A later reel.
  record Entered (on : Option Onward) (g : Group) (c : ℕ) (t : List Group) (b : Bands) (reel : ℕ) (bs : Reel) (rs : TapeSet) : Type 0 where
    rest : Reel
    is : bs ≡ written (directory_on d reel) ∷ mark ∷ rest
    on_it : go (at (onward_expect on) g c t b) reel 3 rest rs ≡ Ok z

  marked : (on : Option Onward) (g : Group) (c : ℕ) (t : List Group) (b : Bands) (reel : ℕ) (xs : List ℕ) (bs : Reel) (rs : TapeSet) → xs ≡ directory_on d reel → go (at (expects.DirectoryMark on) g c t b) reel 2 bs rs ≡ Ok z → Entered on g c t b reel (written xs ∷ bs) rs
  marked on g c t b reel xs [] rs e q = refused _ z q
  marked on g c t b reel xs (written ys ∷ bs) rs e q = refused _ z q
  marked on g c t b reel xs (mark ∷ bs) rs e q = record { rest = bs; is = ap (λ k. written k ∷ mark ∷ bs) e; on_it = q }
  marked on g c t b reel xs (bad ∷ bs) rs e q = refused _ z q

  entered : (on : Option Onward) (g : Group) (c : ℕ) (t : List Group) (b : Bands) (reel : ℕ) (bs : Reel) (rs : TapeSet) → 2 ≤ reel → go (at (expects.Directory on) g c t b) reel 1 bs rs ≡ Ok z → Entered on g c t b reel bs rs
  entered on g c t b reel [] rs h q = refused _ z q
  entered on g c t b reel (mark ∷ bs) rs h q = refused _ z q
  entered on g c t b reel (bad ∷ bs) rs h q = refused _ z q
  entered on g c t b reel (written xs ∷ bs) rs h q =
      let m = at (expects.Directory on) g c t b in
      let p = was_passed reel 1 bs rs z (checked xs 360 9 1) (cond (eqb reel 1) (first m on xs (first_directory xs many)) (later m (place_of reel 1) on xs)) q in
      ⊎_elim
      (λ (w : (eqb reel 1 ≡ true) × (after reel 1 bs rs (first m on xs (first_directory xs many)) ≡ Ok z)). let u = eqb-true reel 1 w.0 in absurd (omega (arith, u)))
      (λ (w : (eqb reel 1 ≡ false) × (after reel 1 bs rs (later m (place_of reel 1) on xs) ≡ Ok z)).
      let s = was_true reel 1 bs rs z (same_directory (record_of 1 9 d) xs) (cond (eqb (byte xs 19) (48 + reel)) (Ok (at (expects.DirectoryMark on) g c t b)) (Err 31)) 32 w.1 in
      let v = was_true reel 1 bs rs z (eqb (byte xs 19) (48 + reel)) (Ok (at (expects.DirectoryMark on) g c t b)) 31 s.1 in
      marked on g c t b reel xs bs rs (later_is d reel xs whole p.0 s.0 (eqb-true (byte xs 19) (48 + reel) v.0)) v.1)
      (was_either reel 1 bs rs z (eqb reel 1) (first m on xs (first_directory xs many)) (later m (place_of reel 1) on xs) p.1)

  pub next : (rs : TapeSet) (reel : ℕ) → 1 ≤ reel → reel + length rs ≡ many → Next reel rs
  next [] reel r left on g c t b five h k q = absurd (omega (arith, left))
  next (r0 ∷ rs) reel r left on g c t b five h k q =
      let p = entered on g c t b (reel + 1) r0 rs (omega arith) q in record {
        blocks = p.rest;
        reels = rs;
        is = ap (λ y. y ∷ rs) p.is;
        rest = along p.rest (reel + 1) rs (omega arith) (omega (arith, left)) (next rs (reel + 1) (omega arith) (omega (arith, left))) (onward_expect on) g c t b 3 five k p.on_it;
      }

-- The recording of a set.
pub record Recorded (set : TapeSet) : Type 0 where
  pub recording : Recording
  pub valid : Valid recording
  pub is : written_as recording ≡ set

-- The first directory names the layout.
pub named_is : (xs : List ℕ) (many : ℕ) (l : Layout) → first_directory xs many ≡ Some l → (layout_of xs ≡ Some l) × (fixed xs l many ≡ true)
unfolding first_directory
named_is xs many l e = by_option (layout_of xs) e
  where
    by_cond : (k : Layout) (b : Bool) → fixed xs k many ≡ b → cond b (Some k) None ≡ Some l → (Some k ≡ Some l) × (fixed xs l many ≡ true)
    by_cond k true f e = (e, let same : k ≡ l = cc in subst (λ y. fixed xs y many ≡ true) same f)
    by_cond k false f e = cc

    by_option : (o : Option Layout) → named xs many o ≡ Some l → (o ≡ Some l) × (fixed xs l many ≡ true)
    by_option None e = cc
    by_option (Some k) e = by_cond k (fixed xs k many) refl e

-- The first reel.
module _ (z : Machine) (many : ℕ) (rs : TapeSet) (nine : many ≤ 9) (left : 1 + length rs ≡ many) where
  written_from : (xs : List ℕ) (l : Layout) (bs : Reel) → length (drop 6 xs) ≡ 354 → xs ≡ record_of 1 9 (drop 6 xs) → first_directory xs many ≡ Some l → rests.GroupsRest many (drop 6 xs) l 0 0 nothing_read.blocks 1 bs rs → Recorded ((written xs ∷ mark ∷ bs) ∷ rs)
  written_from xs l bs whole is says g =
      let d = drop 6 xs in
      let ss = stretches g.groups in
      let rem = g.rem in
      let some = rem.some in
      let over = rem.left in
      let long = length_tl ss in
      let many_is : length ss ≡ many = omega (arith, some, over, long) in
      let n = named_is xs many l says in
      let names : layout_of (record_of 1 9 d) ≡ Some l = ap layout_of (sym is) ∙ n.0 in
      let values : fixed (record_of 1 9 d) l many ≡ true = ap (λ y. fixed y l many) (sym is) ∙ n.1 in record {
        recording = record { layout = l; directory = d; lines = g.lines; groups = g.groups };
        valid = record {
          directory_whole = whole;
          directory_names = names;
          directory_values = subst (λ k. fixed (record_of 1 9 d) l k ≡ true) (sym many_is) values;
          reels_few = omega (arith, many_is, nine);
          lines_some = g.some;
          lines_few = g.few;
          groups_valid = g.valid;
        };
        is =
            ap (λ k. bound d k 1 ss) many_is
            ∙ bound_more d many 1 ss some
            ∙ ap (λ k. (written k ∷ mark ∷ hd ss ++ closing 1 many) ∷ bound d many 2 (tl ss)) (first_reel d (digit-one d l many values) ∙ sym is)
            ∙ ap (λ k. (written xs ∷ mark ∷ k) ∷ bound d many 2 (tl ss)) (sym rem.here)
            ∙ ap (λ k. (written xs ∷ mark ∷ bs) ∷ k) (sym rem.rest);
      }

  from_mark : (xs : List ℕ) (l : Layout) (bs : Reel) → length (drop 6 xs) ≡ 354 → xs ≡ record_of 1 9 (drop 6 xs) → first_directory xs many ≡ Some l → go (machine many xs l (expects.DirectoryMark (Some onwards.Header)) nothing_read 0 (replicate 5 nothing_read) no_bands) 1 2 bs rs ≡ Ok z → Recorded ((written xs ∷ bs) ∷ rs)
  from_mark xs l [] whole is says q = refused _ z q
  from_mark xs l (written ys ∷ bs) whole is says q = refused _ z q
  from_mark xs l (bad ∷ bs) whole is says q = refused _ z q
  from_mark xs l (mark ∷ bs) whole is says q =
      let d = drop 6 xs in
      let p : go (machine many (record_of 1 9 d) l expects.Header nothing_read 0 (replicate 5 nothing_read) no_bands) 1 3 bs rs ≡ Ok z = subst (λ y. go (machine many y l expects.Header nothing_read 0 (replicate 5 nothing_read) no_bands) 1 3 bs rs ≡ Ok z) is q in
      written_from xs l bs whole is says (along z many d l whole bs 1 rs (omega arith) left (next z many d l whole rs 1 (omega arith) left) expects.Header nothing_read 0 (replicate 5 nothing_read) no_bands 3 refl (inr refl) p)

  from_layout : (xs : List ℕ) (bs : Reel) (o : Option Layout) → length (drop 6 xs) ≡ 354 → xs ≡ record_of 1 9 (drop 6 xs) → first_directory xs many ≡ o → after 1 1 bs rs (first (start many) (Some onwards.Header) xs o) ≡ Ok z → Recorded ((written xs ∷ bs) ∷ rs)
  from_layout xs bs None whole is says q = refused _ z q
  from_layout xs bs (Some l) whole is says q = from_mark xs l bs whole is says q

  from_reel : (bs : Reel) → go (start many) 1 1 bs rs ≡ Ok z → Recorded (bs ∷ rs)
  from_reel [] q = refused _ z q
  from_reel (mark ∷ bs) q = refused _ z q
  from_reel (bad ∷ bs) q = refused _ z q
  from_reel (written xs ∷ bs) q =
      let p = was_passed 1 1 bs rs z (checked xs 360 9 1) (first (start many) (Some onwards.Header) xs (first_directory xs many)) q in
      let s = spells xs 360 9 1 (omega arith) p.0 in
      from_layout xs bs (first_directory xs many) s.long s.is refl p.1

-- What the machine was at the end.
record Ended (o : Result Machine Fault) (a : Accepted) : Type 0 where
  final : Machine
  is : o ≡ Ok final
  says : accepted final ≡ a

ended_with : (o : Result Machine Fault) (a : Accepted) → then o (λ m. Ok (accepted m)) ≡ Ok a → Ended o a
ended_with (Ok m) a e = record { final = m; is = refl; says = cc }
ended_with (Err f) a e = cc

pub recorded : (set : TapeSet) (a : Accepted) → 1 ≤ length set → length set ≤ 9 → surveyed set ≡ Ok a → Recorded set
recorded [] a some nine e = absurd (omega arith)
recorded (r ∷ rs) a some nine e =
    let f = ended_with (feed (start (length (r ∷ rs))) 1 (r ∷ rs)) a e in
    from_reel f.final (length (r ∷ rs)) rs nine (omega arith) r f.is
