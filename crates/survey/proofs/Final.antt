-- A fault is final: a set with the same blocks up to the fault has the same fault.
use Rattle.std.proofs.Common.{◌≡◌, ℕ, suc, ◌+◌, ◌<◌, ◌≤◌, List, [], ◌∷◌, length, Some, None, Ok, Err, Result, sym, refl, ap, ◌∙◌, subst, arith}
use Rattle.deck.specs.Tape.{Reel, TapeSet, nth, look_on, look}
use Rattle.machine.specs.Findings.{place_of, start, accepted}
use Rattle.machine.specs.Machines.{step}
use Rattle.machine.specs.declared.machine.Machine.{Machine}
use Rattle.survey.specs.Laws.{fault_reel, fault_block, SameThrough}
use Rattle.survey.specs.Surveys.{Fault, fault_at, placed, then, feed_reel, feed, surveyed}

-- A step that fails, fails at its own place.
placed_at : (reel block : ℕ) (s : Result Machine ℕ) (f : Fault) → placed (place_of reel block) s ≡ Err f → (fault_reel f ≡ reel) × (fault_block f ≡ block)
placed_at reel block (Ok m) f e = cc
placed_at reel block (Err n) f e = let is : f ≡ fault_at n (place_of reel block) = cc in (ap fault_reel is, ap fault_block is)

-- Lists with the same elements.
same_all : {X : Type 0} (xs ys : List X) → ((k : ℕ) → nth xs k ≡ nth ys k) → xs ≡ ys
same_all [] [] h = refl
same_all [] (y ∷ ys) h = let e = h 0 in cc
same_all (x ∷ xs) [] h = let e = h 0 in cc
same_all (x ∷ xs) (y ∷ ys) h = let e = h 0 in let rest = same_all xs ys (λ k. h (suc k)) in cc

-- Where a fault of a reel is.
module _ (f : Fault) where
  place-behind : (bs : Reel) (reel block : ℕ) (s : Result Machine ℕ) → ((n : Machine) → feed_reel n reel (block + 1) bs ≡ Err f → (fault_reel f ≡ reel) × (block + 1 ≤ fault_block f)) → then (placed (place_of reel block) s) (λ n. feed_reel n reel (block + 1) bs) ≡ Err f → (fault_reel f ≡ reel) × (block ≤ fault_block f)
  place-behind bs reel block (Ok n) again e = let r = again n e in let u = r.1 in (r.0, omega (arith, u))
  place-behind bs reel block (Err n) again e = let r = placed_at reel block (Err n) f e in let u = r.1 in (r.0, omega (arith, u))

  place_on : (bs : Reel) (m : Machine) (reel block : ℕ) → feed_reel m reel block bs ≡ Err f → (fault_reel f ≡ reel) × (block ≤ fault_block f)
  place_on [] m reel block e = let r = placed_at reel block (step m (place_of reel block) None) f e in let u = r.1 in (r.0, omega (arith, u))
  place_on (b ∷ bs) m reel block e = place-behind bs reel block (step m (place_of reel block) (Some b)) (λ n q. place_on bs n reel (block + 1) q) e

  -- The same blocks up to the fault give the same fault, on one reel.
  on_reel : (bs cs : Reel) (m : Machine) (reel block : ℕ) → feed_reel m reel block bs ≡ Err f → ((k : ℕ) → block + k ≤ fault_block f → nth bs k ≡ nth cs k) → feed_reel m reel block cs ≡ Err f
  on_reel [] [] m reel block e h = e
  on_reel [] (c ∷ cs) m reel block e h = let u = (placed_at reel block (step m (place_of reel block) None) f e).1 in let o = h 0 (omega (arith, u)) in cc
  on_reel (b ∷ bs) [] m reel block e h = let u = (place_on (b ∷ bs) m reel block e).1 in let o = h 0 (omega (arith, u)) in cc
  on_reel (b ∷ bs) (c ∷ cs) m reel block e h =
      let u = (place_on (b ∷ bs) m reel block e).1 in
      let o = h 0 (omega (arith, u)) in
      let same : b ≡ c = cc in
      ap (λ k. then (placed (place_of reel block) (step m (place_of reel block) (Some k))) (λ n. feed_reel n reel (block + 1) cs)) (sym same)
      ∙ follow (λ n. on_reel bs cs n reel (block + 1)) (step m (place_of reel block) (Some b)) e
    where
      follow : ((n : Machine) → feed_reel n reel (block + 1) bs ≡ Err f → ((k : ℕ) → block + 1 + k ≤ fault_block f → nth bs k ≡ nth cs k) → feed_reel n reel (block + 1) cs ≡ Err f) → (s : Result Machine ℕ) → then (placed (place_of reel block) s) (λ n. feed_reel n reel (block + 1) bs) ≡ Err f → then (placed (place_of reel block) s) (λ n. feed_reel n reel (block + 1) cs) ≡ Err f
      follow again (Ok n) q = again n q (λ k w. h (suc k) (omega (arith, w)))
      follow again (Err n) q = q

  -- Where a fault of several reels is.
  reel_of : (rs : TapeSet) (m : Machine) (reel : ℕ) → feed m reel rs ≡ Err f → reel ≤ fault_reel f
  reel_of [] m reel e = cc
  reel_of (r ∷ rs) m reel e = follow (λ n. reel_of rs n (reel + 1)) (feed_reel m reel 1 r) refl e
    where
      follow : ((n : Machine) → feed n (reel + 1) rs ≡ Err f → reel + 1 ≤ fault_reel f) → (o : Result Machine Fault) → feed_reel m reel 1 r ≡ o → then o (λ n. feed n (reel + 1) rs) ≡ Err f → reel ≤ fault_reel f
      follow again (Ok n) p q = let u = again n q in omega (arith, u)
      follow again (Err g) p q = let u = (place_on r m reel 1 (p ∙ q)).0 in omega (arith, u)

  over_reels : (rs us : TapeSet) (m : Machine) (reel : ℕ) → feed m reel rs ≡ Err f → length rs ≡ length us → ((j k : ℕ) → reel + j < fault_reel f → look_on (nth rs j) k ≡ look_on (nth us j) k) → ((j k : ℕ) → reel + j ≡ fault_reel f → k ≤ fault_block f → look_on (nth rs j) k ≡ look_on (nth us j) k) → feed m reel us ≡ Err f
  over_reels [] us m reel e long before upon = cc
  over_reels (r ∷ rs) [] m reel e long before upon = absurd (omega (arith, long))
  over_reels (r ∷ rs) (u ∷ us) m reel e long before upon = follow (λ n. over_reels rs us n (reel + 1)) (feed_reel m reel 1 r) refl e
    where
      follow : ((n : Machine) → feed n (reel + 1) rs ≡ Err f → length rs ≡ length us → ((j k : ℕ) → reel + 1 + j < fault_reel f → look_on (nth rs j) k ≡ look_on (nth us j) k) → ((j k : ℕ) → reel + 1 + j ≡ fault_reel f → k ≤ fault_block f → look_on (nth rs j) k ≡ look_on (nth us j) k) → feed n (reel + 1) us ≡ Err f) → (o : Result Machine Fault) → feed_reel m reel 1 r ≡ o → then o (λ n. feed n (reel + 1) rs) ≡ Err f → feed m reel (u ∷ us) ≡ Err f
      follow again (Ok n) p q =
          let w = reel_of rs n (reel + 1) q in
          let same : r ≡ u = same_all r u (λ k. before 0 (suc k) (omega (arith, w))) in
          ap (λ t. then (feed_reel m reel 1 t) (λ x. feed x (reel + 1) us)) (sym same)
          ∙ ap (λ o. then o (λ x. feed x (reel + 1) us)) p
          ∙ again n q (omega (arith, long)) (λ j k h. before (suc j) k (omega (arith, h))) (λ j k h i. upon (suc j) k (omega (arith, h)) i)
      follow again (Err g) p q =
          let w = place_on r m reel 1 (p ∙ q) in
          let at = w.0 in
          let there = on_reel r u m reel 1 (p ∙ q) (λ k h. upon 0 (suc k) (omega (arith, at)) (omega (arith, h))) in
          ap (λ o. then o (λ x. feed x (reel + 1) us)) there

-- The fault of a survey.
fed : (o : Result Machine Fault) (f : Fault) → then o (λ m. Ok (accepted m)) ≡ Err f → o ≡ Err f
fed (Ok m) f e = cc
fed (Err g) f e = let is : g ≡ f = cc in ap Err is

pub final : (a b : TapeSet) (f : Fault) → surveyed a ≡ Err f → length a ≡ length b → SameThrough (fault_reel f) (fault_block f) a b → surveyed b ≡ Err f
final a b f e long same =
    let run = fed (feed (start (length a)) 1 a) f e in
    let there = over_reels f a b (start (length a)) 1 run long (λ j k h. seen-before j k h) (λ j k h i. seen_upon j k h i) in
    ap (λ n. then (feed (start n) 1 b) (λ m. Ok (accepted m))) (sym long) ∙ ap (λ o. then o (λ m. Ok (accepted m))) there
  where
    seen-before : (j k : ℕ) → 1 + j < fault_reel f → look_on (nth a j) k ≡ look_on (nth b j) k
    seen-before j k h = same.before (suc j) k (omega (arith, h))

    seen_upon : (j k : ℕ) → 1 + j ≡ fault_reel f → k ≤ fault_block f → look_on (nth a j) k ≡ look_on (nth b j) k
    seen_upon j k h i = let one : fault_reel f ≡ suc j = omega (arith, h) in subst (λ r. look a r k ≡ look b r k) one (same.upon k i)
