-- Bands that follow each other, interleaved.
use Rattle.std.proofs.Common.{◌≡◌, ℕ, zero, suc, ◌+◌, ◌-◌, ◌*◌, ◌/◌, ◌%◌, ◌<◌, ◌≤◌, Bool, true, false, cond, not, ◌&&◌, eqb, leb, ◌⊎◌, List, [], ◌∷◌, ◌++◌, map, length, get_or, set, replicate, Some, None, Option, sym, refl, ap, ◌∙◌, subst, inl, inr, ⊎_elim, append-nil, arith, length-set}
use lib.ListN.{length-map, length-replicate}
use Rattle.std.proofs.lemmas.List.{get_or-set_same, get_or-set_other}
use Rattle.std.proofs.lemmas.Bool.{eq-eqb, eqb-true, and_parts, and_from}
use Rattle.records.specs.Bands.{present}
use Rattle.records.specs.Headers.{counts_fit, trailers_fit, bands_in}
use Rattle.records.specs.Layouts.{stride, ancillaries, annotations}
use Rattle.records.specs.Records.{byte}
use Rattle.records.specs.declared.header.Content.TheVariants.{Mixed}
use Rattle.records.specs.declared.layout.Correction.{Correction}
use Rattle.records.specs.declared.layout.Form.TheVariants.{Interleaved, Sequential}
use Rattle.records.specs.declared.layout.Layout.{Layout}
use Rattle.machine.specs.Machines.{all_zero, missing}
use Rattle.survey.specs.Pictures.{if_there, places_in, codes_in, rows_in, every, all_codes, all_rows}
use Rattle.survey.specs.Recordings.{Body, Line, Files}
use Rattle.survey.specs.Validity.{body_length, content, header_record, Begun, Fit, AllFit, ValidFiles}
use Rattle.reader.specs.Finding.{index_of}
use Rattle.reader.proofs.Bands.{every_at, Below}
use Rattle.reader.proofs.Proper.{From, own_place, Sized, SizedAll, sized_at, Rows, length-every}
use Rattle.turner.specs.Changes.{header_by_line, mask_of}
use Rattle.turner.specs.Turns.{row_of, line_in, across, woven, interleaved}
use Rattle.turner.proofs.Weaving.{length-across, length-woven, getD_woven}

-- A row by its band.
pub row_found : (code i0 i : ℕ) (cs : List ℕ) (rs : List (List Line)) → length rs ≡ length cs → index_of code cs i0 ≡ Some i → (i0 ≤ i) × (row_of code cs rs ≡ Some (get_or rs (i - i0) []))
row_found code i0 i [] rs h e = cc
row_found code i0 i (c ∷ cs) [] h e = absurd (omega (arith, h))
row_found code i0 i (c ∷ cs) (r ∷ rs) h e = found (eqb c code) (row_found code (i0 + 1) i cs rs (omega (arith, h))) e
  where
    found : (b : Bool) → (index_of code cs (i0 + 1) ≡ Some i → (i0 + 1 ≤ i) × (row_of code cs rs ≡ Some (get_or rs (i - (i0 + 1)) []))) → cond b (Some i0) (index_of code cs (i0 + 1)) ≡ Some i → (i0 ≤ i) × (cond b (Some r) (row_of code cs rs) ≡ Some (get_or (r ∷ rs) (i - i0) []))
    found true again e = let same : i0 ≡ i = cc in let z : 0 ≡ i - i0 = omega (arith, same) in (omega (arith, same), ap (λ k. Some (get_or (r ∷ rs) k [])) z)
    found false again e =
        let w = again e in
        let under = w.0 in
        let z : suc (i - (i0 + 1)) ≡ i - i0 = omega (arith, under) in
        (omega (arith, under), w.1 ∙ ap (λ k. Some (get_or (r ∷ rs) k [])) z)

-- A row that is found is one of them, and its band is among the codes.
abbrev Elem : ℕ → List ℕ → Type 0
Elem x [] = ⊥
Elem x (y ∷ ys) = (y ≡ x) ⊎ Elem x ys

row_known : (size lines code : ℕ) (cs : List ℕ) (rs : List (List Line)) (row : List Line) → Rows size lines rs → row_of code cs rs ≡ Some row → Elem code cs × SizedAll size row
row_known size lines code [] rs row w e = cc
row_known size lines code (c ∷ cs) [] row w e = cc
row_known size lines code (c ∷ cs) (r ∷ rs) row w e = found (eqb c code) refl (row_known size lines code cs rs row w.1) e
  where
    found : (b : Bool) → eqb c code ≡ b → (row_of code cs rs ≡ Some row → Elem code cs × SizedAll size row) → cond b (Some r) (row_of code cs rs) ≡ Some row → Elem code (c ∷ cs) × SizedAll size row
    found true same again e = let is : r ≡ row = cc in (inl (eqb-true c code same), subst (SizedAll size) is w.0.1)
    found false same again e = let k = again e in (inr k.0, k.1)

-- A place among those present is present.
elem_map : (j : ℕ) (ps : List ℕ) → Elem (4 + j) (map (λ p. 4 + p) ps) → Elem j ps
elem_map j [] e = e
elem_map j (p ∷ ps) e = ⊎_elim (λ (h : 4 + p ≡ 4 + j). inl (omega (arith, h))) (λ (h : Elem (4 + j) (map (λ q. 4 + q) ps)). inr (elem_map j ps h)) e

elem_either : (x : ℕ) (xs ys : List ℕ) → Elem x (xs ++ ys) → Elem x xs ⊎ Elem x ys
elem_either x [] ys e = inr e
elem_either x (y ∷ xs) ys e = ⊎_elim (λ (h : y ≡ x). inl (inl h)) (λ (h : Elem x (xs ++ ys)). ⊎_elim (λ (k : Elem x xs). inl (inr k)) (λ (k : Elem x ys). inr k) (elem_either x xs ys h)) e

elem_if : (mask j place : ℕ) → Elem j (if_there mask place) → present mask j ≡ true
elem_if mask j place e = either (present mask place) refl e
  where
    either : (b : Bool) → present mask place ≡ b → Elem j (cond b (place ∷ []) []) → present mask j ≡ true
    either true h e = ⊎_elim (λ (k : place ≡ j). subst (λ x. present mask x ≡ true) k h) (λ (k : ⊥). absurd k) e
    either false h e = absurd e

elem_present : (mask j : ℕ) → Elem j (places_in mask) → present mask j ≡ true
elem_present mask j e =
    ⊎_elim (elem_if mask j 0)
    (λ (h : Elem j (if_there mask 1 ++ (if_there mask 2 ++ (if_there mask 3 ++ if_there mask 4)))).
    ⊎_elim (elem_if mask j 1)
    (λ (h : Elem j (if_there mask 2 ++ (if_there mask 3 ++ if_there mask 4))).
    ⊎_elim (elem_if mask j 2)
    (λ (h : Elem j (if_there mask 3 ++ if_there mask 4)). ⊎_elim (elem_if mask j 3) (elem_if mask j 4) (elem_either j (if_there mask 3) (if_there mask 4) h))
    (elem_either j (if_there mask 2) (if_there mask 3 ++ if_there mask 4) h))
    (elem_either j (if_there mask 1) (if_there mask 2 ++ (if_there mask 3 ++ if_there mask 4)) h))
    (elem_either j (if_there mask 0) (if_there mask 1 ++ (if_there mask 2 ++ (if_there mask 3 ++ if_there mask 4))) e)

-- Zeros.
zero_bytes : (n : ℕ) → all_zero (replicate n 0) ≡ true
zero_bytes zero = refl
zero_bytes (suc n) = zero_bytes n

module _ (size : ℕ) (cs : List ℕ) (rs : List (List Line)) where
  some_of : (b : Bool) → 0 < cond b 5 4
  some_of true = omega arith
  some_of false = omega arith

  place_of : (b : Bool) (j q : ℕ) → j < cond b 5 4 → ((j + q * cond b 5 4) / cond b 5 4 ≡ q) × ((j + q * cond b 5 4) % cond b 5 4 ≡ j)
  place_of true j q h = (omega arith, omega arith)
  place_of false j q h = (omega arith, omega arith)

  under_all : (b : Bool) (j q many : ℕ) → j < cond b 5 4 → q < many → j + q * cond b 5 4 < many * cond b 5 4
  under_all true j q many h k = omega arith
  under_all false j q many h k = omega arith

  -- Line q of the band at place j.
  pub woven_at : (b : Bool) (n many j q : ℕ) → j < cond b 5 4 → q < many → get_or (woven size (cond b 5 4) cs rs n many) (j + q * cond b 5 4) None ≡ line_in size (n + q) (row_of (4 + j) cs rs)
  woven_at b n many j q h k =
      let at = place_of b j q h in
      getD_woven size cs rs (cond b 5 4) n many (j + q * cond b 5 4) (some_of b) (under_all b j q many h k)
      ∙ ap (λ i. line_in size (n + i) (row_of (4 + (j + q * cond b 5 4) % cond b 5 4) cs rs)) at.0
      ∙ ap (λ i. line_in size (n + q) (row_of (4 + i) cs rs)) at.1

-- Every line fits.
module _ (l : Layout) (lines mask : ℕ) (cs : List ℕ) (rs : List (List Line)) (whole : Rows (body_length l) lines rs) (told : map (λ p. 4 + p) (places_in mask) ≡ cs) where
  line-fits : (i j n : ℕ) (o : Option (List Line)) → row_of (4 + j) cs rs ≡ o → i % stride l ≡ j → Fit l (Mixed mask) i (line_in (body_length l) n o)
  line-fits i j n None e h = (length-replicate {A = ℕ} (body_length l) 0, λ k. zero_bytes (body_length l))
  line-fits i j n (Some row) e h =
      let k = row_known (body_length l) lines (4 + j) cs rs row whole e in
      let there : present mask j ≡ true = elem_present mask j (elem_map j (places_in mask) (subst (Elem (4 + j)) (sym told) k.0)) in
      let found : missing (Mixed mask) i (stride l) ≡ false = ap (λ x. not (present mask x)) h ∙ ap not there in
      fits (get_or row n None) (sized_at (body_length l) n row k.1) found
    where
      fits : (x : Line) → Sized (body_length l) x → missing (Mixed mask) i (stride l) ≡ false → Fit l (Mixed mask) i x
      fits (Some body) s f = (s, λ (t : missing (Mixed mask) i (stride l) ≡ true). cc)
      fits None s f = f

  across-fits : (i n j many : ℕ) → ((k : ℕ) → k < many → (i + k) % stride l ≡ j + k) → AllFit l (Mixed mask) i (across (body_length l) cs rs n (4 + j) many)
  across-fits i n j zero h = tt
  across-fits i n j (suc many) h =
      let e : 4 + j + 1 ≡ 4 + (j + 1) = omega arith in
      let z : i + 0 ≡ i = omega arith in
      let z2 : j + 0 ≡ j = omega arith in (
        line-fits i j n (row_of (4 + j) cs rs) refl (ap (λ x. x % stride l) (sym z) ∙ h 0 (omega arith) ∙ z2),
        subst (λ x. AllFit l (Mixed mask) (i + 1) (across (body_length l) cs rs n x many)) (sym e)
            (across-fits (i + 1) n (j + 1) many (λ k w. let a : i + 1 + k ≡ i + suc k = omega arith in let c : j + suc k ≡ j + 1 + k = omega arith in ap (λ x. x % stride l) a ∙ h (suc k) (omega (arith, w)) ∙ c)),
      )

  fit_both : (i : ℕ) (xs ys : List Line) → AllFit l (Mixed mask) i xs → AllFit l (Mixed mask) (i + length xs) ys → AllFit l (Mixed mask) i (xs ++ ys)
  fit_both i [] ys a b = let e : i + 0 ≡ i = omega arith in subst (λ x. AllFit l (Mixed mask) x ys) e b
  fit_both i (x ∷ xs) ys a b = let e : i + suc (length xs) ≡ i + 1 + length xs = omega arith in (a.0, fit_both (i + 1) xs ys a.1 (subst (λ z. AllFit l (Mixed mask) z ys) e b))

  turns : (b : Bool) (n k : ℕ) → k < cond b 5 4 → (n * cond b 5 4 + k) % cond b 5 4 ≡ 0 + k
  turns true n k h = omega arith
  turns false n k h = omega arith

  after_one : (b : Bool) (n : ℕ) → n * cond b 5 4 + cond b 5 4 ≡ (n + 1) * cond b 5 4
  after_one true n = omega arith
  after_one false n = omega arith

  pub woven-fits : (n many : ℕ) → AllFit l (Mixed mask) (n * stride l) (woven (body_length l) (stride l) cs rs n many)
  woven-fits n zero = tt
  woven-fits n (suc many) =
      let b = eqb l.mission 3 in
      fit_both (n * stride l) (across (body_length l) cs rs n 4 (stride l)) (woven (body_length l) (stride l) cs rs (n + 1) many)
      (across-fits (n * stride l) n 0 (stride l) (λ k w. turns b n k w))
      (subst (λ x. AllFit l (Mixed mask) x (woven (body_length l) (stride l) cs rs (n + 1) many)) (sym (ap (λ x. n * stride l + x) (length-across (body_length l) cs rs n 4 (stride l)) ∙ after_one b n)) (woven-fits (n + 1) many))

-- The rows come back.
get_map : {X Y : Type 0} (f : X → Y) (xs : List X) (i : ℕ) (d : X) (e : Y) → i < length xs → get_or (map f xs) i e ≡ f (get_or xs i d)
get_map f [] i d e h = absurd (omega arith)
get_map f (x ∷ xs) zero d e h = refl
get_map f (x ∷ xs) (suc i) d e h = get_map f xs i d e (omega arith)

same_get : {X : Type 0} (d : X) (xs ys : List X) → length xs ≡ length ys → ((k : ℕ) → k < length xs → get_or xs k d ≡ get_or ys k d) → xs ≡ ys
same_get d [] [] e h = refl
same_get d [] (y ∷ ys) e h = absurd (omega (arith, e))
same_get d (x ∷ xs) [] e h = absurd (omega (arith, e))
same_get d (x ∷ xs) (y ∷ ys) e h = ap (λ k. k ∷ xs) (h 0 (omega arith)) ∙ ap (λ k. y ∷ k) (same_get d xs ys (omega (arith, e)) (λ k w. h (suc k) (omega (arith, w))))

below_at : (bound i : ℕ) (ps : List ℕ) → Below bound ps → i < length ps → get_or ps i 0 < bound
below_at bound i [] b h = absurd (omega arith)
below_at bound zero (p ∷ ps) b h = b.0
below_at bound (suc i) (p ∷ ps) b h = below_at bound i ps b.1 (omega arith)

pub row_long : (size lines i : ℕ) (rs : List (List Line)) → Rows size lines rs → i < length rs → length (get_or rs i []) ≡ lines
row_long size lines i [] w h = absurd (omega arith)
row_long size lines zero (r ∷ rs) w h = w.0.0
row_long size lines (suc i) (r ∷ rs) w h = row_long size lines i rs w.1 (omega arith)

module _ (b : Bool) (size lines : ℕ) (ps : List ℕ) (cs : List ℕ) (rs : List (List Line)) (told : map (λ p. 4 + p) ps ≡ cs) (rise : From 0 cs) (many : length rs ≡ length cs) (below : Below (cond b 5 4) ps) (whole : Rows size lines rs) where
  abbrev file : List Line
  file = woven size (cond b 5 4) cs rs 0 lines

  places_many : length ps ≡ length cs
  places_many = sym (length-map ps (λ p. 4 + p)) ∙ ap length told

  row_back : (i : ℕ) → i < length ps → every (cond b 5 4) (get_or ps i 0) lines file ≡ get_or rs i []
  row_back i h =
      let p = get_or ps i 0 in
      let under = below_at (cond b 5 4) i ps below h in
      let pm = places_many in
      let code : 4 + p ≡ get_or cs i 0 = sym (get_map (λ q. 4 + q) ps i 0 0 h) ∙ ap (λ x. get_or x i 0) told in
      let place = own_place 0 0 i cs rise (omega (arith, pm, h)) in
      let z : 0 + i ≡ i = omega arith in
      let z2 : i - 0 ≡ i = omega arith in
      let found : row_of (4 + p) cs rs ≡ Some (get_or rs i []) = ap (λ x. row_of x cs rs) code ∙ (row_found (get_or cs i 0) 0 i cs rs many (place ∙ ap Some z)).1 ∙ ap (λ x. Some (get_or rs x [])) z2 in
      let long = row_long size lines i rs whole (omega (arith, many, pm, h)) in
      same_get None (every (cond b 5 4) p lines file) (get_or rs i []) (length-every (cond b 5 4) p lines file ∙ sym long) (λ j w. line_back i h p under found j (let l = length-every (cond b 5 4) p lines file in omega (arith, l, w)))
    where
      line_back : (i : ℕ) → i < length ps → (p : ℕ) → p < cond b 5 4 → row_of (4 + p) cs rs ≡ Some (get_or rs i []) → (j : ℕ) → j < lines → get_or (every (cond b 5 4) p lines file) j None ≡ get_or (get_or rs i []) j None
      line_back i h p under found j w =
          let z : 0 + j ≡ j = omega arith in
          every_at b file lines p j w ∙ woven_at size cs rs b 0 lines p j under w ∙ ap (λ x. line_in size x (row_of (4 + p) cs rs)) z ∙ ap (line_in size j) found

  pub rows_back : map (λ p. every (cond b 5 4) p lines file) ps ≡ rs
  rows_back =
      let pm = places_many in
      let long = length-map ps (λ p. every (cond b 5 4) p lines file) in
      same_get [] (map (λ p. every (cond b 5 4) p lines file) ps) rs (long ∙ pm ∙ sym many) (λ i h. get_map (λ p. every (cond b 5 4) p lines file) ps i 0 [] (omega (arith, long, h)) ∙ row_back i (omega (arith, long, h)))

-- The header of interleaved bands.
module _ (h : Body) (bands mask : ℕ) (whole : length h ≡ 3590) where
  abbrev changed : Body
  changed = header_by_line bands mask h

  h1 : length (set h 113 255) ≡ 3590
  h1 = length-set h 113 255 ∙ whole

  h2 : length (set (set h 113 255) 114 bands) ≡ 3590
  h2 = length-set (set h 113 255) 114 bands ∙ h1

  h3 : length (set (set (set h 113 255) 114 bands) 129 48) ≡ 3590
  h3 = length-set (set (set h 113 255) 114 bands) 129 48 ∙ h2

  header_long : length changed ≡ 3590
  header_long = length-set (set (set (set h 113 255) 114 bands) 129 48) 3579 mask ∙ h3

  header-kept : (j : ℕ) → (j ≡ 113 → ⊥) → (j ≡ 114 → ⊥) → (j ≡ 129 → ⊥) → (j ≡ 3579 → ⊥) → get_or changed j 0 ≡ get_or h j 0
  header-kept j a b c d =
      get_or-set_other (set (set (set h 113 255) 114 bands) 129 48) 3579 j mask 0 d
      ∙ get_or-set_other (set (set h 113 255) 114 bands) 129 j 48 0 c
      ∙ get_or-set_other (set h 113 255) 114 j bands 0 b
      ∙ get_or-set_other h 113 j 255 0 a

  order_is : get_or changed 113 0 ≡ 255
  order_is =
      get_or-set_other (set (set (set h 113 255) 114 bands) 129 48) 3579 113 mask 0 (λ e. omega arith)
      ∙ get_or-set_other (set (set h 113 255) 114 bands) 129 113 48 0 (λ e. omega arith)
      ∙ get_or-set_other (set h 113 255) 114 113 bands 0 (λ e. omega arith)
      ∙ get_or-set_same h 113 255 0 (omega (arith, whole))

  bands_are : get_or changed 114 0 ≡ bands
  bands_are =
      let w = h1 in
      get_or-set_other (set (set (set h 113 255) 114 bands) 129 48) 3579 114 mask 0 (λ e. omega arith)
      ∙ get_or-set_other (set (set h 113 255) 114 bands) 129 114 48 0 (λ e. omega arith)
      ∙ get_or-set_same (set h 113 255) 114 bands 0 (omega (arith, w))

  band_is : get_or changed 129 0 ≡ 48
  band_is =
      let w = h2 in
      get_or-set_other (set (set (set h 113 255) 114 bands) 129 48) 3579 129 mask 0 (λ e. omega arith)
      ∙ get_or-set_same (set (set h 113 255) 114 bands) 129 48 0 (omega (arith, w))

  mask_is : get_or changed 3579 0 ≡ mask
  mask_is = let w = h3 in get_or-set_same (set (set (set h 113 255) 114 bands) 129 48) 3579 mask 0 (omega (arith, w))

begun_of : (xs : List Line) → 1 ≤ length xs → Begun (xs ∷ [])
begun_of [] h = absurd (omega arith)
begun_of (x ∷ xs) h = tt

some_bands : (b : Bool) (lines : ℕ) → 1 ≤ lines → 1 ≤ lines * cond b 5 4
some_bands true lines h = omega arith
some_bands false lines h = omega arith

-- The one group.
module _ (mission lines : ℕ) (correction : Correction) (f : Files) (last : ℕ) (cs : List ℕ) (rs : List (List Line)) where
  abbrev pub apart : Layout
  apart = record { form = Sequential; mission = mission; correction = correction }

  abbrev pub joined : Layout
  joined = record { form = Interleaved; mission = mission; correction = correction }

  abbrev mask : ℕ
  mask = mask_of cs

  abbrev one : Files
  one = interleaved apart lines cs rs f

  module _ (v : ValidFiles apart lines last f) (told : map (λ p. 4 + p) (places_in mask) ≡ cs) (fits : bands_in Interleaved mission mask ≡ true) (whole : Rows 3590 lines rs) (some : 1 ≤ lines) where
    kept : (j : ℕ) → (j ≡ 113 → ⊥) → (j ≡ 114 → ⊥) → (j ≡ 129 → ⊥) → (j ≡ 3579 → ⊥) → get_or one.header j 0 ≡ get_or f.header j 0
    kept j a b c d = header-kept f.header (stride apart) mask v.header_whole j a b c d

    as_was : (j value : ℕ) → (j ≡ 113 → ⊥) → (j ≡ 114 → ⊥) → (j ≡ 129 → ⊥) → (j ≡ 3579 → ⊥) → eqb (get_or f.header j 0) value ≡ true → eqb (get_or one.header j 0) value ≡ true
    as_was j value a b c d e = ap (λ k. eqb k value) (kept j a b c d) ∙ e

    content_is : content joined one ≡ Mixed mask
    content_is = ap Mixed (mask_is f.header (stride apart) mask v.header_whole)

    counts : counts_fit (header_record one) joined ≡ true
    counts =
        let xs = header_record f in
        let p1 = and_parts (eqb (byte xs 101) 0) _ v.header_counts in
        let p2 = and_parts (eqb (byte xs 102) (annotations correction)) _ p1.1 in
        let p3 = and_parts (eqb (byte xs 105) 0) _ p2.1 in
        let p4 = and_parts (eqb (byte xs 106) (ancillaries apart)) _ p3.1 in
        and_from _ _ (as_was 94 0 (λ e. omega arith) (λ e. omega arith) (λ e. omega arith) (λ e. omega arith) p1.0)
        (and_from _ _ (as_was 95 (annotations correction) (λ e. omega arith) (λ e. omega arith) (λ e. omega arith) (λ e. omega arith) p2.0)
        (and_from _ _ (as_was 98 0 (λ e. omega arith) (λ e. omega arith) (λ e. omega arith) (λ e. omega arith) p3.0)
        (and_from _ _ (as_was 99 (ancillaries apart) (λ e. omega arith) (λ e. omega arith) (λ e. omega arith) (λ e. omega arith) p4.0)
        (and_from _ _ (eq-eqb (get_or one.header 113 0) 255 (order_is f.header (stride apart) mask v.header_whole)) (eq-eqb (get_or one.header 114 0) (stride joined) (bands_are f.header (stride apart) mask v.header_whole))))))

    trailers_same : get_or one.header 138 0 ≡ get_or f.header 138 0
    trailers_same = kept 138 (λ e. omega arith) (λ e. omega arith) (λ e. omega arith) (λ e. omega arith)

    trailers : trailers_fit (header_record one) ≡ true
    trailers =
        ap (λ k. eqb k 0 && (leb 1 (get_or one.header 138 0) && leb (get_or one.header 138 0) 5)) (kept 137 (λ e. omega arith) (λ e. omega arith) (λ e. omega arith) (λ e. omega arith))
        ∙ ap (λ k. eqb (get_or f.header 137 0) 0 && (leb 1 k && leb k 5)) trailers_same
        ∙ v.header_trailers

    abbrev weave : List Line
    weave = woven 3590 (stride apart) cs rs 0 lines

    nothing : (b : Bool) → 0 * cond b 5 4 ≡ 0
    nothing true = omega arith
    nothing false = omega arith

    pub one_valid : ValidFiles joined lines 0 one
    one_valid =
        let long = length-woven 3590 cs rs (stride apart) 0 lines in
        let flat : weave ++ [] ≡ weave = append-nil weave in record {
          header_whole = header_long f.header (stride apart) mask v.header_whole;
          header_counts = counts;
          header_band = eq-eqb (get_or one.header 129 0) 48 (band_is f.header (stride apart) mask v.header_whole);
          header_trailers = trailers;
          header_bands = ap (λ k. bands_in Interleaved mission k) (mask_is f.header (stride apart) mask v.header_whole) ∙ fits;
          ancillaries_many = v.ancillaries_many;
          ancillaries_whole = v.ancillaries_whole;
          annotations_many = v.annotations_many;
          annotations_whole = v.annotations_whole;
          begun = begun_of weave (subst (λ k. 1 ≤ k) (sym long) (some_bands (eqb mission 3) lines some));
          lines_fit = subst (λ k. AllFit joined k 0 (weave ++ [])) (sym content_is) (subst (λ k. AllFit joined (Mixed mask) 0 k) (sym flat) (subst (λ k. AllFit joined (Mixed mask) k weave) (nothing (eqb mission 3)) (woven-fits joined lines mask cs rs whole told 0 lines)));
          lines_many = ap length flat ∙ long;
          trailers_many = v.trailers_many ∙ sym trailers_same;
          trailers_whole = v.trailers_whole;
        }

    pub one-codes : all_codes joined (one ∷ []) ≡ cs
    one-codes = append-nil (codes_in (content joined one)) ∙ ap codes_in content_is ∙ told

    pub one_rows : From 0 cs → length rs ≡ length cs → Below (stride joined) (places_in mask) → all_rows joined lines (one ∷ []) ≡ rs
    one_rows rise many below =
        append-nil (rows_in (content joined one) (stride joined) lines (weave ++ []))
        ∙ ap (λ k. rows_in k (stride joined) lines (weave ++ [])) content_is
        ∙ ap (λ k. rows_in (Mixed mask) (stride joined) lines k) (append-nil weave)
        ∙ rows_back (eqb mission 3) 3590 lines (places_in mask) cs rs told rise many below whole
