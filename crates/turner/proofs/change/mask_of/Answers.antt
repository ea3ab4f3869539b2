use Rattle.std.proofs.Common.{◌≡◌, ℕ, ◌+◌, ◌-◌, List, [], ◌∷◌, refl, ap, ◌∙◌, rules}
use Rattle.std.specs.List.{sum_by}
use Rattle.std.proofs.lemmas.List.Sums.{sum_by-cons}
use Rattle.records.specs.Bands.{weight}
use Rattle.turner.specs.Changes.{mask_of}
use Rattle.turner.proofs.change.mask_of.Goals as goal

abbrev bit : ℕ → ℕ
bit code = weight (code - 4)

mask_sum : (codes : List ℕ) → sum_by bit codes ≡ mask_of codes
mask_sum [] = refl
mask_sum (code ∷ codes) = sum_by-cons bit code codes ∙ ap (λ rest. bit code + rest) (mask_sum codes)

pub returns : goal.returns
returns c =
    let summed : c.sum.result ≡ sum_by bit c.args.codes.now = search rules in
    summed ∙ mask_sum c.args.codes.now
