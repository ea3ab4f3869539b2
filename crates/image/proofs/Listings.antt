-- What lies at the entry of a block of an indexed image.
use Rattle.std.specs.Prelude.{◌≡◌, ℕ, ◌+◌, ◌-◌, ◌*◌, ◌<◌, ◌≤◌, true, List, [], ◌++◌, length, get_or, take, drop, is_ok, Some, None, Ok, Err, nat_lt, slice_index_or, refl}
use Rattle.std.proofs.Common.{sym, ap, subst, ◌∙◌, arith, length-append, vec_items}
use Rattle.std.proofs.lemmas.List.{get_or_append_left, get_or-append-add}
use Rattle.std.proofs.lemmas.Bool.{le-ltb, cond-false}
use Rattle.deck.specs.Tape.{Block, written, mark, bad, Reel, TapeSet, Sound, SoundBlock, look}
use Rattle.deck.specs.Words.{value}
use Rattle.image.specs.Cursor.{stored_at}
use Rattle.image.specs.Found.{lent, lent_if, block_listed}
use Rattle.image.specs.Indexed.{blocks, first_entry, header, Entry, Encodes, passed, verdict, meant}
use Rattle.image.specs.Opened.{Exactly, indexed_set}
use Rattle.image.specs.Stored.{stored_as}
use Rattle.image.specs.declared.indexed.Indexed.{Indexed}
use Rattle.image.proofs.Indices.{judged, exactly_judged}
use Rattle.image.proofs.Rows.{passed_ok, passed_err}
use Rattle.image.specs.Stored.{is_set}
use Rattle.deck.proofs.Looks.{block_sound, reel_sound}
use Rattle.image.proofs.Places.{joined_at, stored_there, looked}

-- An opened image is the image of the set that it means.
pub opened : (xs : List ℕ) → is_ok (verdict xs) ≡ true → Sound (meant xs) × Encodes xs (meant xs)
opened xs o = judged xs (meant xs) (is_set (verdict xs) o)

pub is_image : (i : Indexed) → Sound (indexed_set i) × Encodes (vec_items i.bytes) (indexed_set i)
is_image i = opened (vec_items i.bytes) i.judged

-- A block of a reel among all blocks of the set.
module _ (set : TapeSet) (r b : ℕ) (on_reel : r < length set) (on_block : b < length (slice_index_or set r [])) where
  split : blocks set ≡ blocks (take r set) ++ (slice_index_or set r [] ++ blocks (drop (r + 1) set))
  split = joined_at (λ (reel : Reel). reel) set r [] on_reel

  pub block_within : length (blocks (take r set)) + b < length (blocks set)
  block_within = omega (arith, simp length-append at (ap length split))

  pub block_among : get_or (blocks set) (length (blocks (take r set)) + b) mark ≡ slice_index_or (slice_index_or set r []) b mark
  block_among =
      ap (λ bs. get_or bs (length (blocks (take r set)) + b) mark) split
      ∙ get_or-append-add (blocks (take r set)) (slice_index_or set r [] ++ blocks (drop (r + 1) set)) b mark
      ∙ get_or_append_left (slice_index_or set r []) (blocks (drop (r + 1) set)) mark b on_block

-- What an entry leads to is its block.
listed_as : (xs : List ℕ) (head at : ℕ) (b : Block) → Entry xs head at b → lent xs (value (drop at xs)) (stored_as b) ≡ Some b
listed_as xs head at (written bytes) l =
    let n = length bytes in
    cond-false (nat_lt (length xs) (value (drop at xs) + n)) None (Some (written (take n (drop (value (drop at xs)) xs)))) (le-ltb (length xs) (value (drop at xs) + n) (omega (arith, l.leads.1, l.inside)))
    ∙ ap (λ k. Some (written (take n (drop k xs)))) l.leads.1
    ∙ ap (λ t. Some (written t)) l.there
listed_as xs head at mark l = refl
listed_as xs head at bad l = refl

kind_whole : (xs : List ℕ) (head at : ℕ) (b : Block) → SoundBlock b → Entry xs head at b → (at + 8 ≤ length xs) × (stored_at xs (at + 4) ≡ Some (stored_as b))
kind_whole xs head at (written bytes) s l = (omega (arith, l.kind.0), stored_there xs (at + 4) (written bytes) s l.kind.0 l.kind.1)
kind_whole xs head at mark s l = (omega (arith, l.1.0), stored_there xs (at + 4) mark s l.1.0 l.1.1)
kind_whole xs head at bad s l = (omega (arith, l.1.0), stored_there xs (at + 4) bad s l.1.0 l.1.1)

pub record Listed (xs : List ℕ) (at reel block : ℕ) : Type 0 where
  pub whole : at + 8 ≤ length xs
  pub finds : block_listed xs at ≡ look (meant xs) reel block

-- The entry that the counts lead to is that of the block that was asked for.
pub listed_there : (i : Indexed) (reel block r b reels before : ℕ) → (1 ≤ reel) × (r ≡ reel - 1) → (1 ≤ block) × (b ≡ block - 1) → r < length (indexed_set i) → b < length (slice_index_or (indexed_set i) r []) → reels ≡ length (indexed_set i) → before ≡ length (blocks (take r (indexed_set i))) → Listed (vec_items i.bytes) (4 + 4 * reels + 8 * (before + b)) reel block
listed_there i reel block r b reels before hr hb on_reel on_block many is =
    let xs = vec_items i.bytes in
    let set = indexed_set i in
    let e = is_image i in
    let it = get_or (slice_index_or set r []) b mark in
    let entry = before + b in
    let at = 4 + 4 * reels + 8 * entry in
    let head = header (length set) (length (blocks set)) in
    let same : get_or (blocks set) entry mark ≡ it = ap (λ k. get_or (blocks set) (k + b) mark) is ∙ block_among set r b on_reel on_block in
    let within : entry < length (blocks set) = omega (arith, is, block_within set r b on_reel on_block) in
    let lies : Entry xs head at it = subst (λ n. Entry xs head (4 + 4 * n + 8 * entry) it) (sym many) (subst (Entry xs head (first_entry (length set) + 8 * entry)) same (e.1.entries entry within)) in
    let sound : SoundBlock it = block_sound (slice_index_or set r []) b (reel_sound set r e.0.reels).1 in
    let k = kind_whole xs head at it sound lies in
    let found = ap (lent_if xs (value (drop at xs))) k.1 ∙ listed_as xs head at it lies in
    record { whole = k.0; finds = found ∙ sym (looked set reel block r b hr hb on_reel on_block) }

-- What opening says of an image that is not refused, and of one that is.
pub exactly_passed : (xs : List ℕ) → passed (verdict xs) ≡ Ok tt → Exactly (Encodes xs) (Ok (meant xs))
exactly_passed xs e = subst (Exactly (Encodes xs)) (is_set (verdict xs) (passed_ok (verdict xs) e)) (exactly_judged xs)

pub exactly_stopped : (xs : List ℕ) (e : ℕ × ℕ) → passed (verdict xs) ≡ Err e → Exactly (Encodes xs) (Err e)
exactly_stopped xs e h = subst (Exactly (Encodes xs)) (passed_err (verdict xs) e h) (exactly_judged xs)
