-- The survey's reading, block by block and reel by reel.
use Rattle.std.proofs.Common.{◌≡◌, ℕ, ◌+◌, ◌-◌, ◌<◌, ◌≤◌, Bool, true, false, [], length, get_or, drop, is_some, Some, None, Ok, Err, sym, refl, ap, ◌∙◌, ⊎_elim, arith}
use Rattle.std.proofs.lemmas.List.{at_drop_more, at_drop_all}
use Rattle.std.proofs.lemmas.Bool.{cases_lt, cases_Bool, true≢false, false≢true}
use Rattle.deck.specs.Tape.{mark, Reel, TapeSet, look}
use Rattle.deck.proofs.Looks.{look-there, look_no_block}
use Rattle.machine.specs.Findings.{place_of, start, accepted}
use Rattle.machine.specs.Machines.{Steady, step}
use Rattle.survey.specs.Surveys.{Fault, placed, then, feed_reel, feed, surveyed}
use Rattle.machine.specs.declared.machine.Machine.{Machine}

-- What is on a reel from a block on.
abbrev pub from_block : TapeSet → ℕ → ℕ → Reel
from_block set reel block = drop (block - 1) (get_or set (reel - 1) [])

module _ (set : TapeSet) (m : Machine) (reel block : ℕ) (r : 1 ≤ reel) (there : reel ≤ length set) (b : 1 ≤ block) where
  on_reel : reel - 1 < length set
  on_reel = omega arith

  pub block-there : is_some (look set reel block) ≡ true → block ≤ length (get_or set (reel - 1) [])
  block-there e =
      ⊎_elim
      (λ (h : block - 1 < length (get_or set (reel - 1) [])). omega arith)
      (λ (h : length (get_or set (reel - 1) []) ≤ block - 1).
      let none : look set reel block ≡ None = look_no_block set reel block r b on_reel h in
      absurd (true≢false (sym e ∙ ap is_some none)))
      (cases_lt (block - 1) (length (get_or set (reel - 1) [])))

  off_block : is_some (look set reel block) ≡ false → length (get_or set (reel - 1) []) ≤ block - 1
  off_block e =
      ⊎_elim
      (λ (h : block - 1 < length (get_or set (reel - 1) [])).
      let some : look set reel block ≡ Some (get_or (get_or set (reel - 1) []) (block - 1) mark) = look-there set reel block r b on_reel h in
      absurd (false≢true (sym e ∙ ap is_some some)))
      (λ (h : length (get_or set (reel - 1) []) ≤ block - 1). h)
      (cases_lt (block - 1) (length (get_or set (reel - 1) [])))

  -- Where there is a block, it is read and the next one follows.
  feed-block : is_some (look set reel block) ≡ true → feed_reel m reel block (from_block set reel block) ≡ then (placed (place_of reel block) (step m (place_of reel block) (look set reel block))) (λ n. feed_reel n reel (block + 1) (from_block set reel (block + 1)))
  feed-block e =
      let blocks = get_or set (reel - 1) [] in
      let here : block - 1 < length blocks = omega (arith, block-there e) in
      let some : look set reel block ≡ Some (get_or blocks (block - 1) mark) = look-there set reel block r b on_reel here in
      let next : block - 1 + 1 ≡ block + 1 - 1 = omega arith in
      at_drop_more (feed_reel m reel block) blocks (block - 1) mark here
      ∙ ap (λ k. then (placed (place_of reel block) (step m (place_of reel block) (Some (get_or blocks (block - 1) mark)))) (λ n. feed_reel n reel (block + 1) (drop k blocks))) next
      ∙ ap (λ o. then (placed (place_of reel block) (step m (place_of reel block) o)) (λ n. feed_reel n reel (block + 1) (from_block set reel (block + 1)))) (sym some)

  -- Where there is none, the reel is over.
  feed_end : is_some (look set reel block) ≡ false → feed_reel m reel block (from_block set reel block) ≡ placed (place_of reel block) (step m (place_of reel block) (look set reel block))
  feed_end e =
      let none : look set reel block ≡ None = look_no_block set reel block r b on_reel (off_block e) in
      at_drop_all (feed_reel m reel block) (get_or set (reel - 1) []) (block - 1) (off_block e)
      ∙ ap (λ o. placed (place_of reel block) (step m (place_of reel block) o)) (sym none)

  pub feed_fault : (e : Fault) → Err e ≡ placed (place_of reel block) (step m (place_of reel block) (look set reel block)) → Err e ≡ feed_reel m reel block (from_block set reel block)
  feed_fault e h =
      ⊎_elim
      (λ (t : is_some (look set reel block) ≡ true). ap (λ v. then v (λ n. feed_reel n reel (block + 1) (from_block set reel (block + 1)))) h ∙ sym (feed-block t))
      (λ (f : is_some (look set reel block) ≡ false). h ∙ sym (feed_end f))
      (cases_Bool (is_some (look set reel block)))

  pub feed_more : (n : Machine) → is_some (look set reel block) ≡ true → Ok n ≡ placed (place_of reel block) (step m (place_of reel block) (look set reel block)) → feed_reel n reel (block + 1) (from_block set reel (block + 1)) ≡ feed_reel m reel block (from_block set reel block)
  feed_more n t h = ap (λ v. then v (λ k. feed_reel k reel (block + 1) (from_block set reel (block + 1)))) h ∙ sym (feed-block t)

  pub feed_last : (n : Machine) → is_some (look set reel block) ≡ false → Ok n ≡ placed (place_of reel block) (step m (place_of reel block) (look set reel block)) → Ok n ≡ feed_reel m reel block (from_block set reel block)
  feed_last n f h = h ∙ sym (feed_end f)

-- The reels of a set from one on.
abbrev pub from_reel : TapeSet → ℕ → TapeSet
from_reel set reel = drop (reel - 1) set

feed-next : (set : TapeSet) (m : Machine) (reel : ℕ) → 1 ≤ reel → reel ≤ length set → feed m reel (from_reel set reel) ≡ then (feed_reel m reel 1 (get_or set (reel - 1) [])) (λ n. feed n (reel + 1) (from_reel set (reel + 1)))
feed-next set m reel r there =
    let here : reel - 1 < length set = omega arith in
    let next : reel - 1 + 1 ≡ reel + 1 - 1 = omega arith in
    at_drop_more (feed m reel) set (reel - 1) [] here
    ∙ ap (λ k. then (feed_reel m reel 1 (get_or set (reel - 1) [])) (λ n. feed n (reel + 1) (drop k set))) next

pub feed_over : (set : TapeSet) (m : Machine) (reel : ℕ) → length set < reel → feed m reel (from_reel set reel) ≡ Ok m
feed_over set m reel h = at_drop_all (feed m reel) set (reel - 1) (omega arith)

-- What was said of a deck holds of the set that it still means.
pub same_look : (s t : TapeSet) (reel block : ℕ) (b c : Bool) → s ≡ t → b ≡ is_some (look s reel block) → b ≡ c → is_some (look t reel block) ≡ c
same_look s t reel block b c e p q = ap (λ u. is_some (look u reel block)) (sym e) ∙ sym p ∙ q

-- The same for the reading of one reel.
module _ (set : TapeSet) (m : Machine) (reel : ℕ) (r : 1 ≤ reel) (there : reel ≤ length set) where
  pub reel_fault : (e : Fault) → Err e ≡ feed_reel m reel 1 (get_or set (reel - 1) []) → Err e ≡ feed m reel (from_reel set reel)
  reel_fault e h = ap (λ v. then v (λ n. feed n (reel + 1) (from_reel set (reel + 1)))) h ∙ sym (feed-next set m reel r there)

  pub reel_more : (n : Machine) → Ok n ≡ feed_reel m reel 1 (get_or set (reel - 1) []) → feed n (reel + 1) (from_reel set (reel + 1)) ≡ feed m reel (from_reel set reel)
  reel_more n h = ap (λ v. then v (λ k. feed k (reel + 1) (from_reel set (reel + 1)))) h ∙ sym (feed-next set m reel r there)

-- What the whole reading says.
pub fault_of_set : (set : TapeSet) (e : Fault) → Err e ≡ feed (start (length set)) 1 set → Err e ≡ surveyed set
fault_of_set set e h = ap (λ v. then v (λ m. Ok (accepted m))) h

pub accepted_of_set : (set : TapeSet) (m : Machine) → Ok m ≡ feed (start (length set)) 1 set → Ok (accepted m) ≡ surveyed set
accepted_of_set set m h = ap (λ v. then v (λ n. Ok (accepted n))) h

-- The machine before the first block is steady.
pub steady_start : (n : ℕ) → n ≤ 9 → Steady (start n)
steady_start n h = (refl, (h, omega arith))
