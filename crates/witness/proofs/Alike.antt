-- Lists of copies, and of answers that are compared one by one.
use Rattle.std.proofs.Common.{◌≡◌, Bool, true, false, ◌&&◌, List, [], ◌∷◌, map, Decides, vec_items, sym, refl, true≢false}
use Rattle.std.specs.Cmp.Lexicographic.{pointwise}
use Rattle.std.specs.List.{AllZip, each_same}
use Rattle.witness.specs.Replies.{asked}
use Rattle.witness.specs.contracts.calls.AskedClone.TheImpl as clones
use Rattle.witness.specs.declared.calls.Asked.{Asked}
use Rattle.witness.proofs.Runs.{pair}

cons : {Y : Type 0} {x y : Y} {xs ys : List Y} → x ≡ y → xs ≡ ys → x ∷ xs ≡ y ∷ ys
cons p q = cc

-- Copies mean what the originals mean.
pub copied : {X Y : Type 0} (f : X → Y) {R : X → X → Type 0} → ((x y : X) → R x y → f y ≡ f x) → (xs ys : List X) → AllZip R xs ys → map f ys ≡ map f xs
copied f same [] [] e = refl
copied f same [] (y ∷ ys) e = absurd e
copied f same (x ∷ xs) [] e = absurd e
copied f same (x ∷ xs) (y ∷ ys) e = cons (same x y e.0) (copied f same xs ys e.1)

-- Clones of calls ask the same.
pub cloned : (calls again : List Asked) → AllZip (clones.ghosts).is_clone calls again → map asked again ≡ map asked calls
cloned calls again e = copied asked (λ x y h. pair h.0 (each_same (vec_items x.buffer) (vec_items y.buffer) h.1.0)) calls again e

pub both : (a b : Bool) {P Q R : Type 0} → Decides a P → Decides b Q → (P → Q → R) → (R → P) → (R → Q) → Decides (a && b) R
both true true p q r one other = (λ _. r (p.0 refl) (q.0 refl), λ _. refl)
both true false p q r one other = (λ t. absurd (true≢false (sym t)), λ h. absurd (true≢false (sym (q.1 (other h)))))
both false b p q r one other = (λ t. absurd (true≢false (sym t)), λ h. absurd (true≢false (sym (p.1 (one h)))))

-- Where the comparison of elements decides whether they mean the same, so does that of lists.
pub all_decided : {X Y : Type 0} (f : X → Y) (E : X → X → Bool) → ((x y : X) → Decides (E x y) (f x ≡ f y)) → (xs ys : List X) → Decides (pointwise E xs ys) (map f xs ≡ map f ys)
all_decided f E d [] [] = (λ _. refl, λ _. refl)
all_decided f E d [] (y ∷ ys) = (λ t. absurd (true≢false (sym t)), λ e. cc)
all_decided f E d (x ∷ xs) [] = (λ t. absurd (true≢false (sym t)), λ e. cc)
all_decided f E d (x ∷ xs) (y ∷ ys) = both (E x y) (pointwise E xs ys) (d x y) (all_decided f E d xs ys) cons (λ e. cc) (λ e. cc)
