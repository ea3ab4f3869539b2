-- The machine on its way along a set: where it stands, and what is still before it.
use Rattle.std.proofs.Common.{◌≡◌, ℕ, zero, suc, ◌+◌, ◌<◌, List, [], ◌∷◌, ◌++◌, length, Some, None, Ok, Result, sym, refl, ap, ◌∙◌, subst, arith}
use Rattle.deck.specs.Tape.{Block, Reel, TapeSet, nth, look_on, look}
use Rattle.machine.specs.Machines.{step}
use Rattle.survey.specs.Surveys.{Fault, placed, then, feed_reel, feed}
use Rattle.machine.specs.Findings.{place_of}
use Rattle.machine.specs.declared.machine.Machine.{Machine}

-- The rest of a reel, and the reels behind it.
abbrev pub go : Machine → ℕ → ℕ → Reel → TapeSet → Result Machine Fault
go m reel block bs rs = then (feed_reel m reel block bs) (λ n. feed n (reel + 1) rs)

pub record On (set : TapeSet) (z : Result Machine Fault) (m : Machine) (reel block : ℕ) (bs : Reel) (rs : TapeSet) : Type 0 where
  pub run : go m reel block bs rs ≡ z
  pub here : (i : ℕ) → look set reel (block + i) ≡ nth bs i
  pub rest : (j i : ℕ) → look set (reel + 1 + j) i ≡ look_on (nth rs j) i

module _ (set : TapeSet) (z : Result Machine Fault) (m n : Machine) (reel block : ℕ) where
  pub onward : (b : Block) (bs : Reel) (rs : TapeSet) → On set z m reel block (b ∷ bs) rs → step m (place_of reel block) (Some b) ≡ Ok n → On set z n reel (block + 1) bs rs
  onward b bs rs o e = record {
    run = sym (ap (λ s. then (then (placed (place_of reel block) s) (λ k. feed_reel k reel (block + 1) bs)) (λ k. feed k (reel + 1) rs)) e) ∙ o.run;
    here = λ i. ap (look set reel) (omega arith) ∙ o.here (suc i);
    rest = o.rest;
  }

  pub next_reel : (r : Reel) (rs : TapeSet) → On set z m reel block [] (r ∷ rs) → step m (place_of reel block) None ≡ Ok n → On set z n (reel + 1) 1 r rs
  next_reel r rs o e = record {
    run = sym (ap (λ s. then (placed (place_of reel block) s) (λ k. feed k (reel + 1) (r ∷ rs))) e) ∙ o.run;
    here = λ i. ap (λ k. look set k (1 + i)) (omega arith) ∙ ap (look set (reel + 1 + 0)) (omega arith) ∙ o.rest 0 (suc i);
    rest = λ j i. ap (λ k. look set k i) (omega arith) ∙ o.rest (suc j) i;
  }

  pub last_reel : On set z m reel block [] [] → step m (place_of reel block) None ≡ Ok n → z ≡ Ok n
  last_reel o e = sym o.run ∙ ap (λ s. then (placed (place_of reel block) s) (λ k. feed k (reel + 1) [])) e

-- At the first block.
pub beginning : (m : Machine) (r : Reel) (rs : TapeSet) → On (r ∷ rs) (feed m 1 (r ∷ rs)) m 1 1 r rs
beginning m r rs = record {
  run = refl;
  here = λ i. let one : 1 + i ≡ suc i = omega arith in ap (look (r ∷ rs) 1) one;
  rest = λ j i. let two : 1 + 1 + j ≡ suc (suc j) = omega arith in ap (λ k. look (r ∷ rs) k i) two;
}

-- What stands in front of other blocks.
pub nth-front : {X : Type 0} (xs ys : List X) (i : ℕ) → i < length xs → nth (xs ++ ys) i ≡ nth xs i
nth-front [] ys i h = absurd (omega arith)
nth-front (x ∷ xs) ys zero h = refl
nth-front (x ∷ xs) ys (suc i) h = nth-front xs ys i (omega arith)

-- The same place, told otherwise.
pub moved : {set : TapeSet} {z : Result Machine Fault} {m : Machine} {reel a b : ℕ} {bs : Reel} {rs : TapeSet} → a ≡ b → On set z m reel a bs rs → On set z m reel b bs rs
moved {set} {z} {m} {reel} {a} {b} {bs} {rs} e o = subst (λ k. On set z m reel k bs rs) e o

pub before-blocks : {set : TapeSet} {z : Result Machine Fault} {m : Machine} {reel block : ℕ} {bs cs : Reel} {rs : TapeSet} → bs ≡ cs → On set z m reel block bs rs → On set z m reel block cs rs
before-blocks {set} {z} {m} {reel} {block} {bs} {cs} {rs} e o = subst (λ k. On set z m reel block k rs) e o
