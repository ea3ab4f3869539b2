-- The piece at a block, by its number.
use Rattle.std.specs.Prelude.{◌≡◌, ℕ, zero, suc, ◌+◌, ◌-◌, ◌*◌, ◌/◌, ◌%◌, ◌<◌, ◌≤◌, cond, List, [], ◌∷◌, ◌++◌, length, Some, None, ◌==◌, nat_lt, refl}
use Rattle.std.proofs.Common.{sym, ap, ◌∙◌, ⊎_elim, add_comm, suc-mul, mod-eq_of_lt, arith, length-append}
use Rattle.std.proofs.Math.Nat.{mod-eq-sub-mod, div-eq_of_lt, div-eq-sub-div}
use Rattle.std.proofs.lemmas.Nat.{div_below, le-div}
use Rattle.std.proofs.lemmas.Bool.{cases_lt, cases_eq, cond-true, cond-false, lt-ltb, le-ltb, eq-eqb, ne_eqb}
use Rattle.std.proofs.lemmas.Bool.Decides.{nat_tests}
use Rattle.deck.specs.Tape.{nth, from_one}
use Rattle.deck.proofs.Looks.{nth_past}
use Rattle.turner.specs.Pieces.{series, group_pieces, groups_from, pieces, piece_in, group_length, piece_behind, piece_at}
use Rattle.turner.specs.Shapes.{Plan, groups, images, sheets, trailers}
use Rattle.turner.specs.declared.piece.Piece.{Piece}
use Rattle.turner.specs.declared.piece.Piece.TheVariants.{Mark, Header, Attribute, Image, Trailer}

-- Of two lists, one behind the other.
pub nth_left : {X : Type 0} (xs ys : List X) (i : ℕ) → i < length xs → nth (xs ++ ys) i ≡ nth xs i
nth_left [] ys i h = absurd (omega arith)
nth_left (x ∷ xs) ys zero h = refl
nth_left (x ∷ xs) ys (suc i) h = nth_left xs ys i (omega arith)

pub nth_right : {X : Type 0} (xs ys : List X) (i : ℕ) → length xs ≤ i → nth (xs ++ ys) i ≡ nth ys (i - length xs)
nth_right [] ys i h = ap (nth ys) (omega arith)
nth_right (x ∷ xs) ys zero h = absurd (omega arith)
nth_right (x ∷ xs) ys (suc i) h = nth_right xs ys i (omega arith) ∙ ap (nth ys) (omega arith)

-- Of a series.
pub length_series : {X : Type 0} (f : ℕ → X) (n many : ℕ) → length (series f n many) ≡ many
length_series f n zero = refl
length_series f n (suc many) = ap suc (length_series f (n + 1) many)

nth_series : {X : Type 0} (f : ℕ → X) (n many i : ℕ) → i < many → nth (series f n many) i ≡ Some (f (n + i))
nth_series f n zero i h = absurd (omega arith)
nth_series f n (suc many) zero h = ap (λ k. Some (f k)) (omega arith)
nth_series f n (suc many) (suc i) h = nth_series f (n + 1) many i (omega arith) ∙ ap (λ k. Some (f k)) (omega arith)

-- Of a file: a series and a mark.
abbrev file : (ℕ → Piece) → ℕ → ℕ → List Piece
file f n many = series f n many ++ Mark ∷ []

pub length_file : (f : ℕ → Piece) (n many : ℕ) → length (file f n many) ≡ many + 1
length_file f n many = length-append (series f n many) (Mark ∷ []) ∙ ap (λ k. k + 1) (length_series f n many)

in_file : (f : ℕ → Piece) (n many i : ℕ) → i < many → nth (file f n many) i ≡ Some (f (n + i))
in_file f n many i h = nth_left (series f n many) (Mark ∷ []) i (omega (arith, length_series f n many)) ∙ nth_series f n many i h

file_mark : (f : ℕ → Piece) (n many i : ℕ) → i ≡ many → nth (file f n many) i ≡ Some Mark
file_mark f n many i e =
    nth_right (series f n many) (Mark ∷ []) i (omega (arith, length_series f n many))
    ∙ ap (nth (Mark ∷ [])) {y = 0} (omega (arith, length_series f n many))

-- Of a group with so many sheets, images and trailers.
module _ (i a m n : ℕ) (some : 1 ≤ a) where
  abbrev sheets_file : List Piece
  sheets_file = Header i ∷ file Attribute 2 (a - 1)

  abbrev group_of : List Piece
  group_of = sheets_file ++ (file (Image i) 1 m ++ file Trailer 1 n)

  length_sheets : length sheets_file ≡ a + 1
  length_sheets = omega (arith, length_file Attribute 2 (a - 1))

  pub length_group : length group_of ≡ a + 1 + m + 1 + n + 1
  length_group =
      omega (arith, length-append sheets_file (file (Image i) 1 m ++ file Trailer 1 n), length-append (file (Image i) 1 m) (file Trailer 1 n), length_sheets, length_file (Image i) 1 m, length_file Trailer 1 n)

  abbrev piece_of : ℕ → Piece
  piece_of q =
      cond (q == 0) (Header i)
      (cond (nat_lt q a) (Attribute (q + 1))
      (cond (q == a) Mark
      (cond (nat_lt q (a + 1 + m)) (Image i (q - a))
      (cond (q == a + 1 + m) Mark
      (cond (nat_lt q (a + 1 + m + 1 + n)) (Trailer (q - (a + 1 + m)))
      Mark)))))

  is_header : piece_of 0 ≡ Header i
  is_header = refl

  is_attribute : (q : ℕ) → 0 < q → q < a → piece_of q ≡ Attribute (q + 1)
  is_attribute q l h = grind (arith, nat_tests)

  is_mark : (q : ℕ) → q ≡ a → piece_of q ≡ Mark
  is_mark q e = grind (arith, nat_tests)

  is_image : (q : ℕ) → a < q → q < a + 1 + m → piece_of q ≡ Image i (q - a)
  is_image q l h = grind (arith, nat_tests)

  is_image_mark : (q : ℕ) → q ≡ a + 1 + m → piece_of q ≡ Mark
  is_image_mark q e = grind (arith, nat_tests)

  is_trailer : (q : ℕ) → a + 1 + m < q → q < a + 1 + m + 1 + n → piece_of q ≡ Trailer (q - (a + 1 + m))
  is_trailer q l h = grind (arith, nat_tests)

  is_last_mark : (q : ℕ) → a + 1 + m + 1 + n ≤ q → piece_of q ≡ Mark
  is_last_mark q l = grind (arith, nat_tests)

  in_sheets : (q : ℕ) → q < a + 1 → nth sheets_file q ≡ Some (piece_of q)
  in_sheets zero h = refl
  in_sheets (suc q) h =
      ⊎_elim
      (λ (l : suc q < a). in_file Attribute 2 (a - 1) q (omega arith) ∙ ap (λ k. Some (Attribute k)) (omega arith) ∙ sym (ap Some (is_attribute (suc q) (omega arith) l)))
      (λ (l : a ≤ suc q). file_mark Attribute 2 (a - 1) q (omega arith) ∙ sym (ap Some (is_mark (suc q) (omega arith))))
      (cases_lt (suc q) a)

  in_images : (q : ℕ) → a < q → q < a + 1 + m + 1 → nth (file (Image i) 1 m) (q - (a + 1)) ≡ Some (piece_of q)
  in_images q l h =
      ⊎_elim
      (λ (k : q < a + 1 + m). in_file (Image i) 1 m (q - (a + 1)) (omega arith) ∙ ap (λ k. Some (Image i k)) (omega arith) ∙ sym (ap Some (is_image q l k)))
      (λ (k : a + 1 + m ≤ q). file_mark (Image i) 1 m (q - (a + 1)) (omega arith) ∙ sym (ap Some (is_image_mark q (omega arith))))
      (cases_lt q (a + 1 + m))

  in_trailers : (q : ℕ) → a + 1 + m < q → q < a + 1 + m + 1 + n + 1 → nth (file Trailer 1 n) (q - (a + 1) - (m + 1)) ≡ Some (piece_of q)
  in_trailers q l h =
      ⊎_elim
      (λ (k : q < a + 1 + m + 1 + n). in_file Trailer 1 n (q - (a + 1) - (m + 1)) (omega arith) ∙ ap (λ k. Some (Trailer k)) (omega arith) ∙ sym (ap Some (is_trailer q l k)))
      (λ (k : a + 1 + m + 1 + n ≤ q). file_mark Trailer 1 n (q - (a + 1) - (m + 1)) (omega arith) ∙ sym (ap Some (is_last_mark q k)))
      (cases_lt q (a + 1 + m + 1 + n))

  behind_sheets : (q : ℕ) → a < q → q < a + 1 + m + 1 + n + 1 → nth (file (Image i) 1 m ++ file Trailer 1 n) (q - (a + 1)) ≡ Some (piece_of q)
  behind_sheets q l h =
      let long = length_file (Image i) 1 m in
      ⊎_elim
      (λ (k : q < a + 1 + m + 1). nth_left (file (Image i) 1 m) (file Trailer 1 n) (q - (a + 1)) (omega (arith, long)) ∙ in_images q l k)
      (λ (k : a + 1 + m + 1 ≤ q).
      nth_right (file (Image i) 1 m) (file Trailer 1 n) (q - (a + 1)) (omega (arith, long))
      ∙ ap (λ k. nth (file Trailer 1 n) (q - (a + 1) - k)) long
      ∙ in_trailers q (omega arith) h)
      (cases_lt q (a + 1 + m + 1))

  pub in_group : (q : ℕ) → q < a + 1 + m + 1 + n + 1 → nth group_of q ≡ Some (piece_of q)
  in_group q h =
      let rest = file (Image i) 1 m ++ file Trailer 1 n in
      ⊎_elim
      (λ (k : q < a + 1). nth_left sheets_file rest q (omega (arith, length_sheets)) ∙ in_sheets q k)
      (λ (k : a + 1 ≤ q).
      nth_right sheets_file rest q (omega (arith, length_sheets))
      ∙ ap (λ k. nth rest (q - k)) length_sheets
      ∙ behind_sheets q (omega arith) h)
      (cases_lt q (a + 1))

-- Of so many groups.
suc_times : (many len : ℕ) → suc many * len ≡ len + many * len
suc_times many len = suc-mul many len ∙ add_comm (many * len) len

closing : (p many : ℕ) → many ≤ p → nth (Mark ∷ []) (p - many) ≡ cond (p == many) (Some Mark) None
closing p many h =
    ⊎_elim
    (λ (e : p ≡ many). ap (nth (Mark ∷ [])) {y = 0} (omega arith) ∙ sym (cond-true (p == many) (Some Mark) None (eq-eqb p many e)))
    (λ (n : p ≡ many → ⊥). nth_past (Mark ∷ []) (p - many) (omega arith) ∙ sym (cond-false (p == many) (Some Mark) None (ne_eqb p many n)))
    (cases_eq p many)

far : (t : Plan) (p : ℕ) → piece_at t (suc (suc (suc p))) ≡ piece_behind t (suc (suc (suc p)) - 3)
far t p = grind (arith, nat_tests)

sheets_some : (t : Plan) → 1 ≤ sheets t
sheets_some t = omega arith

pub length_groups : (t : Plan) (i many : ℕ) → length (groups_from t i many) ≡ many * group_length t
length_groups t i zero = omega arith
length_groups t i (suc many) =
    length-append (group_pieces t i) (groups_from t (i + 1) many)
    ∙ ap (λ k. k + length (groups_from t (i + 1) many)) (length_group i (sheets t) (images t) (trailers t) (sheets_some t))
    ∙ ap (λ k. group_length t + k) (length_groups t (i + 1) many)
    ∙ sym (suc_times many (group_length t))

pub in_groups : (t : Plan) (i many p : ℕ) → p < many * group_length t → nth (groups_from t i many) p ≡ Some (piece_in t (i + p / group_length t) (p % group_length t))
in_groups t i zero p h = absurd (omega arith)
in_groups t i (suc many) p h =
    let len = group_length t in
    let rest = groups_from t (i + 1) many in
    let long = length_group i (sheets t) (images t) (trailers t) (sheets_some t) in
    let more : suc many * len ≡ len + many * len = suc_times many len in
    let positive : 0 < len = omega arith in
    ⊎_elim
    (λ (k : p < len).
    nth_left (group_pieces t i) rest p (omega (arith, long))
    ∙ in_group i (sheets t) (images t) (trailers t) (sheets_some t) p k
    ∙ ap (λ j. Some (piece_in t j p)) (omega (arith, div-eq_of_lt k))
    ∙ sym (ap (λ q. Some (piece_in t (i + p / len) q)) (mod-eq_of_lt k)))
    (λ (k : len ≤ p).
    nth_right (group_pieces t i) rest p (omega (arith, long))
    ∙ ap (λ j. nth rest (p - j)) long
    ∙ in_groups t (i + 1) many (p - len) (omega (arith, more))
    ∙ ap (λ j. Some (piece_in t j ((p - len) % len))) (omega (arith, div-eq-sub-div positive k))
    ∙ sym (ap (λ q. Some (piece_in t (i + p / len) q)) (mod-eq-sub-mod k)))
    (cases_lt p len)

-- Behind the directory's mark.
behind : (t : Plan) (p : ℕ) → nth (groups_from t 0 (groups t) ++ Mark ∷ []) p ≡ piece_behind t p
behind t p =
    let len = group_length t in
    let all = groups_from t 0 (groups t) in
    let long = length_groups t 0 (groups t) in
    let positive : 0 < len = omega arith in
    let after = cond (p == groups t * len) (Some Mark) None in
    let here = Some (piece_in t (p / len) (p % len)) in
    ⊎_elim
    (λ (h : p < groups t * len).
    nth_left all (Mark ∷ []) p (omega (arith, long))
    ∙ in_groups t 0 (groups t) p h
    ∙ ap (λ j. Some (piece_in t j (p % len))) (omega arith)
    ∙ sym (cond-true (nat_lt (p / len) (groups t)) here after (lt-ltb (p / len) (groups t) (div_below p len (groups t) positive h))))
    (λ (h : groups t * len ≤ p).
    nth_right all (Mark ∷ []) p (omega (arith, long))
    ∙ ap (λ j. nth (Mark ∷ []) (p - j)) long
    ∙ closing p (groups t * len) h
    ∙ sym (cond-false (nat_lt (p / len) (groups t)) here after (le-ltb (p / len) (groups t) (le-div (groups t) p len positive h))))
    (cases_lt p (groups t * len))

pub at_block : (t : Plan) (block : ℕ) → from_one (pieces t) block ≡ piece_at t block
at_block t zero = refl
at_block t (suc zero) = refl
at_block t (suc (suc zero)) = refl
at_block t (suc (suc (suc p))) = behind t p ∙ ap (piece_behind t) (omega arith) ∙ sym (far t p)
