-- The survey judges rightly.
use Rattle.std.proofs.Common.{◌≡◌, ℕ, ◌+◌, ◌-◌, ◌<◌, ◌≤◌, Bool, true, false, cond, ltb, ◌⊎◌, List, [], ◌∷◌, ◌++◌, map, length, take, drop, set, Ok, Err, Result, sym, refl, ap, ◌∙◌, subst, inl, inr, ⊎_elim, append_assoc, append-nil, arith, length-append, length-set, zero, suc}
use Rattle.records.proofs.Codes.{bands_below}
use mathlib.Core.List.{map-append}
use Rattle.std.proofs.lemmas.List.{take_more_set, nil_from_length}
use Rattle.std.proofs.lemmas.Bool.{lt-ltb, cond-true}
use Rattle.deck.specs.Tape.{TapeSet, Sound}
use Rattle.records.specs.Bands.{present, no_bands, one_band, if_present, more_bands}
use Rattle.records.specs.declared.bands.Bands.{Bands}
use Rattle.records.specs.declared.header.Content.TheVariants.{Mixed}
use Rattle.records.specs.Headers.{content_of}
use Rattle.records.specs.Layouts.{stride}
use Rattle.records.specs.Records.{byte}
use Rattle.records.specs.declared.layout.Form.{Form}
use Rattle.records.specs.declared.layout.Form.TheVariants.{Interleaved, Sequential, Vidicon}
use Rattle.records.specs.declared.layout.Layout.{Layout}
use Rattle.machine.specs.Machines.{band_of}
use Rattle.machine.specs.Findings.{lines_in, accepted}
use Rattle.machine.specs.declared.accepted.Accepted.{Accepted}
use Rattle.survey.specs.Laws.{Obeys, Judged}
use Rattle.survey.specs.Pictures.{if_there, codes_in, all_codes}
use Rattle.survey.specs.Recordings.{Files, Recording, written_as}
use Rattle.survey.specs.Surveys.{Fault, surveyed}
use Rattle.survey.specs.Validity.{content, header_record, ValidGroups, Valid}
use Rattle.survey.proofs.Accepting.{bands_after, five_at_most, next_band}
use Rattle.survey.proofs.Final.{final}
use Rattle.survey.proofs.Recorded.{Recorded, recorded}
use Rattle.survey.proofs.Starting.{lines_back, done, accepts}
use Rattle.survey.proofs.Unique.{unique}

-- The codes that a list of bands shows.
pub record Shows (b : Bands) (codes : List ℕ) : Type 0 where
  pub is : take b.count b.codes ≡ codes
  pub count : b.count ≡ length codes
  pub five : length b.codes ≡ 5

one_shows : (code : ℕ) (b : Bands) (codes : List ℕ) → Shows b codes → length codes < 5 → Shows (one_band code b) (codes ++ code ∷ [])
one_shows code b codes s h =
    let many = s.count in
    let five = s.five in
    let room : b.count < 5 = omega (arith, many) in
    let long = length-append codes (code ∷ []) in
    subst (λ (k : Bands). Shows k (codes ++ code ∷ [])) (sym (cond-true (ltb b.count 5) record { count = b.count + 1; codes = set b.codes b.count code } b (lt-ltb b.count 5 room)))
    record {
      is = take_more_set b.codes b.count code (omega (arith, five)) ∙ ap (λ k. k ++ code ∷ []) s.is;
      count = omega (arith, many, long);
      five = length-set b.codes b.count code ∙ five;
    }

if_shows : (p : Bool) (place : ℕ) (b : Bands) (codes : List ℕ) → Shows b codes → length codes < 5 → Shows (if_present p (4 + place) b) (codes ++ map (λ k. 4 + k) (cond p (place ∷ []) []))
if_shows true place b codes s h = one_shows (4 + place) b codes s h
if_shows false place b codes s h = subst (Shows b) (sym (append-nil codes)) s

one_at_most : (p : Bool) (place : ℕ) → length (map (λ k. 4 + k) (cond p (place ∷ []) [])) ≤ 1
one_at_most true place = omega arith
one_at_most false place = omega arith

abbrev code_if : ℕ → ℕ → List ℕ
code_if mask place = map (λ k. 4 + k) (if_there mask place)

-- The codes of the bands that are present below a place.
abbrev codes_below : ℕ → ℕ → List ℕ
codes_below mask zero = []
codes_below mask (suc n) = codes_below mask n ++ code_if mask n

few_below : (mask n : ℕ) → length (codes_below mask n) ≤ n
few_below mask zero = omega arith
few_below mask (suc n) = omega (arith, few_below mask n, one_at_most (present mask n) n, length-append (codes_below mask n) (code_if mask n))

below_show : (mask n : ℕ) (b : Bands) → n ≤ 5 → Shows b [] → Shows (bands_below mask n b) (codes_below mask n)
below_show mask zero b h s = s
below_show mask (suc n) b h s = if_shows (present mask n) n (bands_below mask n b) (codes_below mask n) (below_show mask n b (omega arith) s) (omega (arith, few_below mask n))

mixed_shows : (mask : ℕ) (b : Bands) → Shows b [] → Shows (more_bands (Mixed mask) b) (codes_in (Mixed mask))
mixed_shows mask b s =
    let together : codes_below mask 5 ≡ codes_in (Mixed mask) = simp (map-append, append_assoc) in
    subst (Shows (more_bands (Mixed mask) b)) together (below_show mask 5 b (omega arith) s)

-- The bands of a group.
content_shows : (f : Form) (band mask : ℕ) (b : Bands) (codes : List ℕ) → Shows b codes → length codes < 5 → ((f ≡ Sequential) ⊎ (length codes ≡ 0)) → Shows (more_bands (content_of band mask f) b) (codes ++ codes_in (content_of band mask f))
content_shows Interleaved band mask b codes s h alone =
    ⊎_elim
    (λ (e : Interleaved ≡ Sequential). cc)
    (λ (e : length codes ≡ 0). let none = nil_from_length codes e in subst (λ k. Shows (more_bands (Mixed mask) b) (k ++ codes_in (Mixed mask))) (sym none) (mixed_shows mask b (subst (Shows b) none s)))
    alone
content_shows Sequential band mask b codes s h alone = one_shows (band - 48) b codes s h
content_shows Vidicon band mask b codes s h alone = one_shows band b codes s h

code_of : (f : Form) (band mask : ℕ) → f ≡ Sequential → length (codes_in (content_of band mask f)) ≡ 1
code_of Interleaved band mask e = cc
code_of Sequential band mask e = refl
code_of Vidicon band mask e = refl

all_show : (l : Layout) (lines last : ℕ) (gs : List Files) → ValidGroups l lines last gs → (b : Bands) (codes : List ℕ) → Shows b codes → length codes ≤ last - 3 → ((l.form ≡ Sequential) ⊎ (length codes ≡ 0)) → Shows (bands_after l b gs) (codes ++ all_codes l gs)
all_show l lines last [] v b codes s low alone = absurd v
all_show l lines last (f ∷ []) v b codes s low alone =
    let five = five_at_most l lines last f v.0 (length codes) low alone in
    subst (λ k. Shows (more_bands (content l f) b) (codes ++ k)) (sym (append-nil (codes_in (content l f)))) (content_shows l.form (byte (header_record f) 136) (byte (header_record f) 3586) b codes s five alone)
all_show l lines last (f ∷ (g ∷ gs)) v b codes s low alone =
    let five = five_at_most l lines last f v.0 (length codes) low alone in
    let here = content_shows l.form (byte (header_record f) 136) (byte (header_record f) 3586) b codes s five alone in
    let joint = length-append codes (codes_in (content l f)) in
    let one = code_of l.form (byte (header_record f) 136) (byte (header_record f) 3586) v.1.0 in
    let rise = next_band l lines last f v.0 (length codes) low v.1.0 in
    let rest = all_show l lines (band_of (content l f)) (g ∷ gs) v.1.1 (more_bands (content l f) b) (codes ++ codes_in (content l f)) here (omega (arith, joint, one, rise)) (inl v.1.0) in
    subst (Shows (bands_after l b (f ∷ (g ∷ gs)))) (append_assoc codes (codes_in (content l f)) (all_codes l (g ∷ gs))) rest

-- An accepted set.
module _ (r : Recording) (v : Valid r) where
  abbrev found : Accepted
  found = accepted (done r v).final

  shown : Shows (done r v).final.bands (all_codes r.layout r.groups)
  shown = subst (λ (k : Bands). Shows k (all_codes r.layout r.groups)) (sym (done r v).bands) (all_show r.layout r.lines 0 r.groups v.groups_valid no_bands [] record { is = refl; count = refl; five = refl } (omega arith) (inr refl))

  pub obeys : Obeys found (written_as r)
  obeys =
      let f = done r v in record {
        recording = r;
        valid = v;
        is = refl;
        only = λ s w e. unique s r w v e;
        layout = f.layout;
        ident = ap (λ k. take 18 (drop 34 k)) f.directory;
        codes = shown.is;
        lines = ap (λ (k : Layout). lines_in k.form (stride k) f.final.group.blocks) f.layout ∙ ap (lines_in r.layout.form (stride r.layout)) f.blocks ∙ lines_back r.layout.form r.layout.mission r.lines;
        groups = let n = f.groups in omega (arith, n);
        places = f.stood;
      }

obeys_set : (set : TapeSet) (a : Accepted) → Recorded set → surveyed set ≡ Ok a → Obeys a set
obeys_set set a s e =
    let is = accepts s.recording s.valid in
    let there : surveyed set ≡ Ok (found s.recording s.valid) = sym (ap surveyed s.is) ∙ is in
    let same : found s.recording s.valid ≡ a = cc in
    subst (λ k. Obeys k set) same (subst (λ k. Obeys (found s.recording s.valid) k) s.is (obeys s.recording s.valid))

-- What a survey says of a sound set is right.
pub judged : (set : TapeSet) (o : Result Accepted Fault) → Sound set → o ≡ surveyed set → Judged o set
judged set (Ok a) sound e = obeys_set set a (recorded set a sound.some sound.few (sym e)) (sym e)
judged set (Err f) sound e = record {
  not_written = λ r v is. let there : surveyed set ≡ Ok (found r v) = sym (ap surveyed is) ∙ accepts r v in cc;
  final = λ other long same. final set other f (sym e) long same;
}
