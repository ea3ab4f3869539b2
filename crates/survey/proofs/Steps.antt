-- The machine's steps over what a writer writes.
use Rattle.std.proofs.Common.{◌≡◌, ℕ, ◌+◌, ◌<◌, ◌≤◌, Bool, true, false, cond, not, ◌&&◌, ltb, leb, List, [], ◌∷◌, ◌++◌, length, Some, None, Ok, Result, sym, refl, ap, ◌∙◌, subst, arith}
use Rattle.std.proofs.lemmas.Bool.{lt-ltb, lt-leb, cond-true, cond-false, true≢false}
use Rattle.deck.specs.Tape.{written, Reel, TapeSet}
use Rattle.records.specs.Layouts.{record_length, ancillaries, attributes, stride}
use Rattle.machine.specs.Machines.{step, passed, one_more, most_blocks, missing, all_zero, line, on_image, on_bad_line}
use Rattle.records.specs.Records.{checked}
use Rattle.survey.specs.Surveys.{Fault}
use Rattle.machine.specs.Findings.{place_of}
use Rattle.records.specs.declared.bands.Bands.{Bands}
use Rattle.records.specs.declared.layout.Form.{Form}
use Rattle.records.specs.declared.layout.Form.TheVariants.{Interleaved, Sequential, Vidicon}
use Rattle.records.specs.declared.layout.Layout.{Layout}
use Rattle.machine.specs.declared.machine.Expect.{Expect}
use Rattle.machine.specs.declared.machine.Expect.TheVariants as expects
use Rattle.machine.specs.declared.machine.Group.{Group}
use Rattle.machine.specs.declared.machine.Machine.{Machine}
use Rattle.machine.specs.declared.machine.Place.{Place}
use Rattle.survey.specs.Recordings.{Body, Line, record_of, numbered, line_block, lines_from}
use Rattle.survey.specs.Validity.{body_length, Whole, Fit, AllFit}
use Rattle.survey.proofs.Passing.{passes}
use Rattle.survey.proofs.Running.{On, onward, moved}

pub six : (f : Form) → 6 ≤ record_length f
six Interleaved = omega arith
six Sequential = omega arith
six Vidicon = omega arith

quiet : (absent blank : Bool) → (absent ≡ true → blank ≡ true) → (absent && not blank) ≡ false
quiet true true h = refl
quiet true false h = absurd (true≢false (sym (h refl)))
quiet false blank h = refl

-- A machine by its parts.
abbrev pub machine : ℕ → List ℕ → Layout → Expect → Group → ℕ → List Group → Bands → Machine
machine many directory l e g c t b = record { reels = many; expect = e; directory = directory; layout = l; group = g; groups = c; table = t; bands = b }

-- The lines of a part, one by one.
abbrev pub lined : Group → ℕ → List Line → Group
lined g reel [] = g
lined g reel (x ∷ xs) = lined (one_more g reel) reel xs

module _ (set : TapeSet) (z : Result Machine Fault) (many : ℕ) (directory : List ℕ) (l : Layout) where
  abbrev at : Expect → Group → ℕ → List Group → Bands → Machine
  at e g c t b = machine many directory l e g c t b

  -- What is expected behind the attribute record of number n.
  abbrev pub attribute_next : ℕ → Expect
  attribute_next n = cond (ltb n (attributes l)) (expects.Attribute (n + 1)) expects.AttributeMark

  pub attributes_run : (bodies : List Body) (kind n : ℕ) (g : Group) (c : ℕ) (t : List Group) (b : Bands) (reel block : ℕ) (more : Reel) (rs : TapeSet) → Whole (body_length l) bodies → n + length bodies ≤ attributes l → ((i : ℕ) → n < i → i ≤ n + length bodies → cond (leb i (1 + ancillaries l)) 36 219 ≡ kind) → On set z (at (attribute_next n) g c t b) reel block (numbered kind (n + 1) bodies ++ more) rs → On set z (at (attribute_next (n + length bodies)) g c t b) reel (block + length bodies) more rs
  attributes_run [] kind n g c t b reel block more rs w f k o =
      moved (omega arith) (subst (λ i. On set z (at (attribute_next i) g c t b) reel block more rs) (omega arith) o)
  attributes_run (body ∷ bodies) kind n g c t b reel block more rs w f k o =
      let expected : attribute_next n ≡ expects.Attribute (n + 1) = cond-true (ltb n (attributes l)) _ _ (lt-ltb n (attributes l) (omega (arith, f))) in
      let p : On set z (at (expects.Attribute (n + 1)) g c t b) reel block (written (record_of (n + 1) kind body) ∷ (numbered kind (n + 1 + 1) bodies ++ more)) rs = subst (λ e. On set z (at e g c t b) reel block (written (record_of (n + 1) kind body) ∷ (numbered kind (n + 1 + 1) bodies ++ more)) rs) expected o in
      let type : cond (leb (n + 1) (1 + ancillaries l)) 36 219 ≡ kind = k (n + 1) (omega arith) (omega arith) in
      let passing : checked (record_of (n + 1) kind body) (record_length l.form) (cond (leb (n + 1) (1 + ancillaries l)) 36 219) (n + 1) ≡ None = subst (λ y. checked (record_of (n + 1) kind body) (record_length l.form) y (n + 1) ≡ None) (sym type) (passes (n + 1) kind body (record_length l.form) w.0 (six l.form)) in
      let stepped : step (at (expects.Attribute (n + 1)) g c t b) (place_of reel block) (Some (written (record_of (n + 1) kind body))) ≡ Ok (at (attribute_next (n + 1)) g c t b) = ap (λ q. passed q (Ok (at (attribute_next (n + 1)) g c t b))) passing in
      let q = onward set z (at (expects.Attribute (n + 1)) g c t b) (at (attribute_next (n + 1)) g c t b) reel block (written (record_of (n + 1) kind body)) (numbered kind (n + 1 + 1) bodies ++ more) rs p stepped in
      let r = attributes_run bodies kind (n + 1) g c t b reel (block + 1) more rs w.1 (omega (arith, f)) (λ i a h. k i (omega arith) (omega arith)) q in
      moved (omega arith) (subst (λ i. On set z (at (attribute_next i) g c t b) reel (block + 1 + length bodies) more rs) (omega arith) r)

  -- What is expected behind the trailer of number n.
  abbrev pub trailer_next : ℕ → ℕ → Expect
  trailer_next many-trailers n = cond (ltb n many-trailers) (expects.Trailer (n + 1)) expects.TrailerMark

  pub trailers_run : (bodies : List Body) (n : ℕ) (g : Group) (c : ℕ) (t : List Group) (b : Bands) (reel block : ℕ) (more : Reel) (rs : TapeSet) → Whole (body_length l) bodies → n + length bodies ≤ g.trailers → On set z (at (trailer_next g.trailers n) g c t b) reel block (numbered 246 (n + 1) bodies ++ more) rs → On set z (at (trailer_next g.trailers (n + length bodies)) g c t b) reel (block + length bodies) more rs
  trailers_run [] n g c t b reel block more rs w f o =
      moved (omega arith) (subst (λ i. On set z (at (trailer_next g.trailers i) g c t b) reel block more rs) (omega arith) o)
  trailers_run (body ∷ bodies) n g c t b reel block more rs w f o =
      let expected : trailer_next g.trailers n ≡ expects.Trailer (n + 1) = cond-true (ltb n g.trailers) _ _ (lt-ltb n g.trailers (omega (arith, f))) in
      let p : On set z (at (expects.Trailer (n + 1)) g c t b) reel block (written (record_of (n + 1) 246 body) ∷ (numbered 246 (n + 1 + 1) bodies ++ more)) rs = subst (λ e. On set z (at e g c t b) reel block (written (record_of (n + 1) 246 body) ∷ (numbered 246 (n + 1 + 1) bodies ++ more)) rs) expected o in
      let stepped : step (at (expects.Trailer (n + 1)) g c t b) (place_of reel block) (Some (written (record_of (n + 1) 246 body))) ≡ Ok (at (trailer_next g.trailers (n + 1)) g c t b) = ap (λ q. passed q (Ok (at (trailer_next g.trailers (n + 1)) g c t b))) (passes (n + 1) 246 body (record_length l.form) w.0 (six l.form)) in
      let q = onward set z (at (expects.Trailer (n + 1)) g c t b) (at (trailer_next g.trailers (n + 1)) g c t b) reel block (written (record_of (n + 1) 246 body)) (numbered 246 (n + 1 + 1) bodies ++ more) rs p stepped in
      let r = trailers_run bodies (n + 1) g c t b reel (block + 1) more rs w.1 (omega (arith, f)) q in
      moved (omega arith) (subst (λ i. On set z (at (trailer_next g.trailers i) g c t b) reel (block + 1 + length bodies) more rs) (omega arith) r)

  -- A line.
  abbrev pub most : ℕ
  most = most_blocks l.form (stride l)

  abbrev pub line_step : Machine → Place → ℕ → Line → Result Machine ℕ
  line_step m p n (Some body) = on_image m p (record_of n 237 body)
  line_step m p n None = on_bad_line m p

  line_ok : (e : Expect) (g : Group) (c : ℕ) (t : List Group) (b : Bands) (p : Place) (blank : Bool) → g.blocks < most → (missing g.content g.blocks (stride l) && not blank) ≡ false → line (at e g c t b) p blank ≡ Ok (at expects.Image (one_more g p.reel) c t b)
  line_ok e g c t b p blank h q = cond-false (leb most g.blocks) _ _ (lt-leb most g.blocks h) ∙ cond-false _ _ _ q

  pub line-passes : (e : Expect) (g : Group) (c : ℕ) (t : List Group) (b : Bands) (p : Place) (x : Line) → g.blocks < most → Fit l g.content g.blocks x → line_step (at e g c t b) p (g.blocks + 1) x ≡ Ok (at expects.Image (one_more g p.reel) c t b)
  line-passes e g c t b p (Some body) h f =
      ap (λ q. passed q (line (at e g c t b) p (all_zero body))) (passes (g.blocks + 1) 237 body (record_length l.form) f.0 (six l.form))
      ∙ line_ok e g c t b p (all_zero body) h (quiet (missing g.content g.blocks (stride l)) (all_zero body) f.1)
  line-passes e g c t b p None h f = line_ok e g c t b p false h (ap (λ y. y && true) f)

  line_expected : (g : Group) (c : ℕ) (t : List Group) (b : Bands) (p : Place) (n : ℕ) (x : Line) → step (at expects.Image g c t b) p (Some (line_block n x)) ≡ line_step (at expects.Image g c t b) p n x
  line_expected g c t b p n (Some body) = refl
  line_expected g c t b p n None = refl

  pub lines_run : (xs : List Line) (g : Group) (c : ℕ) (t : List Group) (b : Bands) (reel block : ℕ) (more : Reel) (rs : TapeSet) → AllFit l g.content g.blocks xs → g.blocks + length xs ≤ most → On set z (at expects.Image g c t b) reel block (lines_from (g.blocks + 1) xs ++ more) rs → On set z (at expects.Image (lined g reel xs) c t b) reel (block + length xs) more rs
  lines_run [] g c t b reel block more rs a f o = moved (omega arith) o
  lines_run (x ∷ xs) g c t b reel block more rs a f o =
      let stepped = line_expected g c t b (place_of reel block) (g.blocks + 1) x ∙ line-passes expects.Image g c t b (place_of reel block) x (omega (arith, f)) a.0 in
      let q = onward set z (at expects.Image g c t b) (at expects.Image (one_more g reel) c t b) reel block (line_block (g.blocks + 1) x) (lines_from (g.blocks + 1 + 1) xs ++ more) rs o stepped in
      moved (omega arith) (lines_run xs (one_more g reel) c t b reel (block + 1) more rs a.1 (omega (arith, f)) q)
