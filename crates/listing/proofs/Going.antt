-- How far a reel's runs have been written.
use Rattle.std.proofs.Common.{◌≡◌, ℕ, zero, suc, ◌+◌, ◌≤◌, ◌<◌, cond, List, [], ◌∷◌, ◌++◌, length, drop, Some, None, Option, sym, refl, ap, ◌∙◌, append_assoc, append-nil, add-one, arith}
use Rattle.deck.specs.Answers.{kind_of}
use Rattle.deck.specs.Tape.{Reel, nth, from_one}
use Rattle.deck.specs.declared.Kind.{Kind}
use Rattle.listing.specs.Blocks.{block_kind, run_text, runs_text}
use Rattle.listing.proofs.Reels.{behind, some_kind, inside, past, alike_same, alike_differ}

same_run : (xs : Reel) (i n : ℕ) (k : Kind ℕ) → kind_of (nth xs i) ≡ Some k → kind_of (nth xs (suc i)) ≡ Some k → runs_text n (drop i xs) ≡ runs_text (n + 1) (drop (suc i) xs)
same_run [] i n k here next = cc
same_run (b ∷ []) zero n k here next = cc
same_run (b ∷ c ∷ xs) zero n k here next =
    let j = some_kind b in
    let h = some_kind c in
    ap (λ t. cond t (runs_text (n + 1) (c ∷ xs)) (run_text n (block_kind b) ++ runs_text 1 (c ∷ xs))) (alike_same b c (cc))
same_run (b ∷ []) (suc i) n k here next = cc
same_run (b ∷ c ∷ xs) (suc i) n k here next = same_run (c ∷ xs) i n k here next

run_ends : (xs : Reel) (i n : ℕ) (k : Kind ℕ) → kind_of (nth xs i) ≡ Some k → (kind_of (nth xs (suc i)) ≡ Some k → ⊥) → runs_text n (drop i xs) ≡ run_text n k ++ runs_text 1 (drop (suc i) xs)
run_ends [] i n k here ne = cc
run_ends (b ∷ []) zero n k here ne =
    let j = some_kind b in
    let is : block_kind b ≡ k = cc in
    ap (run_text n) is ∙ sym (append-nil (run_text n k))
run_ends (b ∷ c ∷ xs) zero n k here ne =
    let j = some_kind b in
    let is : block_kind b ≡ k = cc in
    ap (λ t. cond t (runs_text (n + 1) (c ∷ xs)) (run_text n (block_kind b) ++ runs_text 1 (c ∷ xs))) (alike_differ b c (λ e. ne (some_kind c ∙ ap Some (e ∙ is)))) ∙ ap (λ x. run_text n x ++ runs_text 1 (c ∷ xs)) is
run_ends (b ∷ []) (suc i) n k here ne = cc
run_ends (b ∷ c ∷ xs) (suc i) n k here ne = run_ends (c ∷ xs) i n k here ne

ended : (xs : Reel) (i n : ℕ) → length xs ≤ i → runs_text n (drop i xs) ≡ []
ended [] zero n h = refl
ended [] (suc i) n h = refl
ended (b ∷ xs) zero n h = absurd (omega arith)
ended (b ∷ xs) (suc i) n h = ended xs i n (omega arith)

-- The text has the runs of the first `blocks` blocks, but for the last `count` of them, whose run goes on. The block behind them, if there is one, is of the kind `kind`.
pub record Going (xs : Reel) (blocks count : ℕ) (kind : Option (Kind ℕ)) (text : List ℕ) : Type 0 where
  pub within : blocks ≤ length xs
  pub few : count ≤ blocks
  pub next : kind ≡ kind_of (from_one xs (blocks + 1))
  pub so_far : text ++ runs_text (count + 1) (drop blocks xs) ≡ runs_text 1 xs

pub going_start : (xs : Reel) (kind : Option (Kind ℕ)) (text : List ℕ) → kind ≡ kind_of (from_one xs 1) → text ≡ [] → Going xs 0 0 kind text
going_start xs kind text e none = record { within = omega arith; few = omega arith; next = e; so_far = ap (λ t. t ++ runs_text 1 xs) none }

-- A block is next.
pub going_inside : (xs : Reel) (blocks count : ℕ) (kind : Option (Kind ℕ)) (text : List ℕ) (k : Kind ℕ) → Going xs blocks count kind text → kind ≡ Some k → blocks < length xs
going_inside xs blocks count kind text k g e = inside xs blocks k (ap kind_of (sym (behind xs blocks)) ∙ sym g.next ∙ e)

-- The block behind it goes on with its run.
pub going_same : (xs : Reel) (blocks count : ℕ) (kind after : Option (Kind ℕ)) (text : List ℕ) (k : Kind ℕ) → Going xs blocks count kind text → kind ≡ Some k → after ≡ kind_of (from_one xs (blocks + 1 + 1)) → after ≡ Some k → Going xs (blocks + 1) (count + 1) after text
going_same xs blocks count kind after text k g e a same =
    let here : kind_of (nth xs blocks) ≡ Some k = ap kind_of (sym (behind xs blocks)) ∙ sym g.next ∙ e in
    let next : kind_of (nth xs (suc blocks)) ≡ Some k = ap kind_of (ap (nth xs) (sym (add-one blocks)) ∙ sym (behind xs (blocks + 1))) ∙ sym a ∙ same in
    let left = inside xs blocks k here in
    record {
      within = omega arith;
      few = omega (arith, g.few);
      next = a;
      so_far = ap (λ i. text ++ runs_text (count + 1 + 1) (drop i xs)) (add-one blocks) ∙ ap (λ t. text ++ t) (sym (same_run xs blocks (count + 1) k here next)) ∙ g.so_far;
    }

-- Its run ends with it.
pub going_next : (xs : Reel) (blocks count : ℕ) (kind after : Option (Kind ℕ)) (text more : List ℕ) (k : Kind ℕ) → Going xs blocks count kind text → kind ≡ Some k → after ≡ kind_of (from_one xs (blocks + 1 + 1)) → (after ≡ Some k → ⊥) → more ≡ text ++ run_text (count + 1) k → Going xs (blocks + 1) 0 after more
going_next xs blocks count kind after text more k g e a other m =
    let here : kind_of (nth xs blocks) ≡ Some k = ap kind_of (sym (behind xs blocks)) ∙ sym g.next ∙ e in
    let next : after ≡ kind_of (nth xs (suc blocks)) = a ∙ ap kind_of (behind xs (blocks + 1) ∙ ap (nth xs) (add-one blocks)) in
    let left = inside xs blocks k here in
    let rest = runs_text 1 (drop (suc blocks) xs) in
    record {
      within = omega arith;
      few = omega arith;
      next = a;
      so_far = ap (λ i. more ++ runs_text 1 (drop i xs)) (add-one blocks) ∙ ap (λ t. t ++ rest) m ∙ append_assoc text (run_text (count + 1) k) rest
          ∙ ap (λ t. text ++ t) (sym (run_ends xs blocks (count + 1) k here (λ o. other (next ∙ o)))) ∙ g.so_far;
    }

-- No block is next.
pub going_done : (xs : Reel) (blocks count : ℕ) (kind : Option (Kind ℕ)) (text : List ℕ) → Going xs blocks count kind text → kind ≡ None → (blocks ≡ length xs) × (text ≡ runs_text 1 xs)
going_done xs blocks count kind text g e =
    let all = past xs blocks (ap kind_of (sym (behind xs blocks)) ∙ sym g.next ∙ e) in (
      omega (arith, g.within),
      sym (append-nil text) ∙ ap (λ t. text ++ t) (sym (ended xs blocks (count + 1) all)) ∙ g.so_far,
    )
