-- The lines of interleaved bands, by their places.
use Rattle.std.proofs.Common.{◌≡◌, ℕ, zero, suc, ◌+◌, ◌-◌, ◌*◌, ◌/◌, ◌%◌, ◌<◌, ◌≤◌, List, length, get_or, None, sym, refl, ap, ◌∙◌, ⊎_elim, mod-eq_of_lt, suc-mul, add_comm, arith, length-append}
use native.Mathlib.Nat.{mod-eq-sub-mod, div-eq_of_lt, div-eq-sub-div}
use Rattle.std.proofs.lemmas.List.{get_or_append_left, get_or-append_right}
use Rattle.std.proofs.lemmas.Bool.{cases_lt}
use Rattle.survey.specs.Recordings.{Line}
use Rattle.turner.specs.Turns.{row_of, line_in, across, woven}

module _ (size : ℕ) (codes : List ℕ) (rows : List (List Line)) where
  pub length-across : (n code many : ℕ) → length (across size codes rows n code many) ≡ many
  length-across n code zero = refl
  length-across n code (suc many) = ap suc (length-across n (code + 1) many)

  getD_across : (n code many j : ℕ) → j < many → get_or (across size codes rows n code many) j None ≡ line_in size n (row_of (code + j) codes rows)
  getD_across n code zero j h = absurd (omega arith)
  getD_across n code (suc many) zero h = ap (λ c. line_in size n (row_of c codes rows)) (omega arith)
  getD_across n code (suc many) (suc j) h = getD_across n (code + 1) many j (omega arith) ∙ ap (λ c. line_in size n (row_of c codes rows)) (omega arith)

  pub length-woven : (bands n many : ℕ) → length (woven size bands codes rows n many) ≡ many * bands
  length-woven bands n zero = omega arith
  length-woven bands n (suc many) =
      length-append (across size codes rows n 4 bands) (woven size bands codes rows (n + 1) many)
      ∙ ap (λ k. k + length (woven size bands codes rows (n + 1) many)) (length-across n 4 bands)
      ∙ ap (λ k. bands + k) (length-woven bands (n + 1) many)
      ∙ add_comm bands (many * bands)
      ∙ sym (suc-mul many bands)

  pub getD_woven : (bands n many k : ℕ) → 0 < bands → k < many * bands → get_or (woven size bands codes rows n many) k None ≡ line_in size (n + k / bands) (row_of (4 + k % bands) codes rows)
  getD_woven bands n zero k b h = absurd (omega arith)
  getD_woven bands n (suc many) k b h =
      let first = across size codes rows n 4 bands in
      let rest = woven size bands codes rows (n + 1) many in
      let long = length-across n 4 bands in
      let more = suc-mul many bands in
      ⊎_elim
      (λ (l : k < bands).
      get_or_append_left first rest None k (omega (arith, long))
      ∙ getD_across n 4 bands k l
      ∙ ap (λ m. line_in size m (row_of (4 + k) codes rows)) (omega (arith, div-eq_of_lt l))
      ∙ sym (ap (λ c. line_in size (n + k / bands) (row_of (4 + c) codes rows)) (mod-eq_of_lt l)))
      (λ (l : bands ≤ k).
      get_or-append_right first rest bands k None long l
      ∙ getD_woven bands (n + 1) many (k - bands) b (omega (arith, more))
      ∙ ap (λ m. line_in size m (row_of (4 + (k - bands) % bands) codes rows)) (omega (arith, div-eq-sub-div b l))
      ∙ sym (ap (λ c. line_in size (n + k / bands) (row_of (4 + c) codes rows)) (mod-eq-sub-mod l)))
      (cases_lt k bands)
