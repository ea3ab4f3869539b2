-- Lists of stretches: the first one, the others, and what is put before them.
use Rattle.std.proofs.Common.{◌≡◌, ℕ, ◌+◌, ◌<◌, ◌≤◌, true, false, cond, ◌||◌, eqb, List, [], ◌∷◌, ◌++◌, length, sym, refl, ap, ◌∙◌, append-nil, arith}
use Rattle.std.proofs.lemmas.Bool.{lt-ltb, le-ltb, ne_eqb}
use Rattle.deck.specs.Tape.{written, mark, Reel}
use Rattle.survey.specs.Recordings.{Body, Line, part, before, image_file, closes, directory_on, closing, bound}

abbrev pub hd : List Reel → Reel
hd [] = []
hd (r ∷ rs) = r

abbrev pub tl : List Reel → List Reel
tl [] = []
tl (r ∷ rs) = rs

pub hd_before : (bs : Reel) (ss : List Reel) → hd (before bs ss) ≡ bs ++ hd ss
hd_before bs [] = sym (append-nil bs)
hd_before bs (s ∷ ss) = refl

pub tl_before : (bs : Reel) (ss : List Reel) → tl (before bs ss) ≡ tl ss
tl_before bs [] = refl
tl_before bs (s ∷ ss) = refl

pub before_nil : (ss : List Reel) → 1 ≤ length ss → before [] ss ≡ ss
before_nil [] h = absurd (omega arith)
before_nil (s ∷ ss) h = refl

pub length_before : (bs : Reel) (ss : List Reel) → 1 ≤ length ss → length (before bs ss) ≡ length ss
length_before bs [] h = absurd (omega arith)
length_before bs (s ∷ ss) h = refl

pub length_image : (n : ℕ) (p : List Line) (ps : List (List Line)) (behind : List Reel) → 1 ≤ length behind → length (image_file n (p ∷ ps) behind) ≡ length ps + length behind
length_image n p [] behind h = let rest = length_before (part n p) behind h in omega (arith, rest)
length_image n p (q ∷ ps) behind h = let rest = length_image (n + length p) q ps behind h in omega (arith, rest)

pub length-closes : (e : _) (ss : List Reel) → 1 ≤ length ss → 1 ≤ length (closes e ss)
length-closes true ss h = omega arith
length-closes false ss h = h

pub bound_more : (d : Body) (many reel : ℕ) (ss : List Reel) → 1 ≤ length ss → bound d many reel ss ≡ (written (directory_on d reel) ∷ mark ∷ hd ss ++ closing reel many) ∷ bound d many (reel + 1) (tl ss)
bound_more d many reel [] h = absurd (omega arith)
bound_more d many reel (s ∷ ss) h = refl

pub length-bound : (d : Body) (many reel : ℕ) (ss : List Reel) → length (bound d many reel ss) ≡ length ss
length-bound d many reel [] = refl
length-bound d many reel (s ∷ ss) = let rest = length-bound d many (reel + 1) ss in omega (arith, rest)

-- The marks at a reel's end.
pub closing-before : (reel many : ℕ) → reel < many → closing reel many ≡ mark ∷ []
closing-before reel many h = ap (λ b. cond (b || eqb many 1) (mark ∷ []) (mark ∷ mark ∷ [])) (lt-ltb reel many h)

pub closing_only : closing 1 1 ≡ mark ∷ []
closing_only = refl

pub closing_last : (many : ℕ) → 1 < many → closing many many ≡ mark ∷ mark ∷ []
closing_last many h =
    ap (λ b. cond (b || eqb many 1) (mark ∷ []) (mark ∷ mark ∷ [])) (le-ltb many many (omega arith))
    ∙ ap (λ b. cond b (mark ∷ []) (mark ∷ mark ∷ [])) (ne_eqb many 1 (λ e. omega arith))
