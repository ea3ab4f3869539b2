-- The bits of some bytes, gathered: none is set where every byte is zero.
use Rattle.std.proofs.Common.{◌≡◌, ℕ, zero, suc, ◌&&◌, eqb, List, [], ◌∷◌, ◌++◌, sym, ap, ◌∙◌, arith}
use Rattle.std.proofs.Math.Bool.{and-true, and_assoc}
use lib.Bits.{bit_or, or_zero_l, or_add_and, and_le_r}
use Rattle.std.proofs.lemmas.Bool.{ne_eqb}
use Rattle.machine.specs.Machines.{all_zero}

none_of : (a b : ℕ) → eqb (bit_or a b) 0 ≡ (eqb a 0 && eqb b 0)
none_of zero b = ap (λ n. eqb n 0) (or_zero_l b)
none_of (suc a) b =
    ne_eqb (bit_or (suc a) b) 0 (λ e. omega (arith, e, or_add_and (suc a) b, and_le_r (suc a) b))
    ∙ ap (λ t. t && eqb b 0) (sym (ne_eqb (suc a) 0 (λ e. omega (arith, e))))

pub zero_push : (ys : List ℕ) (x : ℕ) → all_zero (ys ++ x ∷ []) ≡ (all_zero ys && eqb x 0)
zero_push [] x = and-true (eqb x 0)
zero_push (y ∷ ys) x = ap (λ b. eqb y 0 && b) (zero_push ys x) ∙ sym (and_assoc (eqb y 0) (all_zero ys) (eqb x 0))

pub zero_step : (ys : List ℕ) (a x b : ℕ) → eqb a 0 ≡ all_zero ys → b ≡ bit_or a x → eqb b 0 ≡ all_zero (ys ++ x ∷ [])
zero_step ys a x b j e = ap (λ n. eqb n 0) e ∙ none_of a x ∙ ap (λ t. t && eqb x 0) j ∙ sym (zero_push ys x)
