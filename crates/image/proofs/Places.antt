-- What lies at the place of a block of a strip.
use Rattle.std.specs.Prelude.{◌≡◌, ℕ, zero, suc, ◌+◌, ◌-◌, ◌<◌, ◌≤◌, List, [], ◌∷◌, ◌++◌, length, get_or, take, drop, Some, None, nat_lt, slice_index_or, refl}
use Rattle.std.proofs.Common.{vec_items, sym, ap, subst, ◌∙◌, append_assoc, arith, add-one, lit≤, length-append, length-drop}
use Rattle.std.proofs.Math.Seq.{drop-append-add, drop-append_seam}
use Rattle.std.specs.List.{flat_map}
use Rattle.std.proofs.lemmas.List.{drop_at, drop-drop}
use Rattle.std.proofs.lemmas.Bool.{le-ltb, cond-false}
use Rattle.std.proofs.lemmas.Bool.Decides.{nat_tests}
use Rattle.deck.specs.Tape.{Block, written, mark, bad, TapeSet, SoundBlock, look_on, look}
use Rattle.deck.specs.Words.{word, value}
use Rattle.deck.proofs.Looks.{block_sound, reel_sound, nth-there}
use Rattle.image.specs.Opened.{strip_set}
use Rattle.image.specs.Stored.{is_set, stored, stored_as}
use Rattle.image.specs.Strip.{block_bytes, reel_bytes, encoded, size, verdict, meant, place}
use Rattle.image.specs.Cursor.{stored_at, Reads, Stands}
use Rattle.image.specs.declared.cursor.Cursor.{Cursor}
use Rattle.image.specs.declared.strip.Strip.{Strip}
use Rattle.image.specs.Found.{lent, lent_if, block_at_word}
use Rattle.deck.specs.declared.Kind.{Kind}
use Rattle.image.proofs.Words.{value_word}
use Rattle.image.proofs.Strips.{word_of, size_of, block_of, judged_sound}

-- One part of what is joined, with what stands before it and behind it.
pub joined_at : {X A : Type 0} (f : X → List A) (xs : List X) (i : ℕ) (d : X) → i < length xs → flat_map f xs ≡ flat_map f (take i xs) ++ (f (slice_index_or xs i d) ++ flat_map f (drop (i + 1) xs))
joined_at f [] i d h = absurd (omega arith)
joined_at f (x ∷ xs) zero d h = refl
joined_at f (x ∷ xs) (suc i) d h =
    let further : drop (suc i + 1) (x ∷ xs) ≡ drop (i + 1) xs = ap (λ k. drop k (x ∷ xs)) (add-one (suc i)) ∙ ap (λ k. drop k xs) (sym (add-one i)) in
    ap (λ t. f x ++ t) (joined_at f xs i d (omega arith) ∙ ap (λ t. flat_map f (take i xs) ++ (f (slice_index_or xs i d) ++ flat_map f t)) (sym further))
    ∙ sym (append_assoc (f x) (flat_map f (take i xs)) (f (slice_index_or xs i d) ++ flat_map f (drop (suc i + 1) (x ∷ xs))))

pub joined_length : {X A : Type 0} (f : X → List A) (xs : List X) (i : ℕ) (d : X) → i < length xs → length (flat_map f (take (i + 1) xs)) ≡ length (flat_map f (take i xs)) + length (f (slice_index_or xs i d))
joined_length f [] i d h = absurd (omega arith)
joined_length f (x ∷ xs) zero d h = simp length-append (omega arith)
joined_length f (x ∷ xs) (suc i) d h =
    let further : take (suc i + 1) (x ∷ xs) ≡ x ∷ take (i + 1) xs = ap (λ k. take k (x ∷ xs)) (add-one (suc i)) ∙ ap (λ k. x ∷ take k xs) (sym (add-one i)) in
    ap (λ t. length (flat_map f t)) further ∙ length-append (f x) (flat_map f (take (i + 1) xs)) ∙ ap (λ n. length (f x) + n) (joined_length f xs i d (omega arith)) ∙ simp length-append (omega arith)

-- What lies behind a block on the strip.
abbrev pub behind : TapeSet → ℕ → ℕ → List ℕ
behind set r b = flat_map block_bytes (drop (b + 1) (slice_index_or set r [])) ++ (word 4294967294 ++ flat_map reel_bytes (drop (r + 1) set))

-- From the place of a block on, the strip holds the block and what lies behind it.
pub at_place : (set : TapeSet) (r b : ℕ) → r < length set → b < length (slice_index_or set r []) → drop (place set r b) (encoded set) ≡ block_bytes (slice_index_or (slice_index_or set r []) b mark) ++ behind set r b
at_place set r b hr hb =
    let reel = get_or set r [] in
    let inner = length (flat_map block_bytes (take b reel)) in
    let rest = encoded (drop (r + 1) set) in
    let block = block_bytes (slice_index_or reel b mark) in
    let before = flat_map block_bytes (take b reel) in
    let after = flat_map block_bytes (drop (b + 1) reel) in
    let there : (flat_map block_bytes reel ++ word 4294967294) ++ rest ≡ before ++ (block ++ (after ++ (word 4294967294 ++ rest))) =
    ap (λ t. (t ++ word 4294967294) ++ rest) (joined_at block_bytes reel b mark hb) ∙ simp append_assoc in
    ap (drop (place set r b)) (joined_at reel_bytes set r [] hr)
    ∙ drop-append-add (encoded (take r set)) (reel_bytes reel ++ rest) inner
    ∙ ap (drop inner) there
    ∙ drop-append_seam before (block ++ (after ++ (word 4294967294 ++ rest)))

-- The place of the next block.
pub place_on : (set : TapeSet) (r b : ℕ) → b < length (slice_index_or set r []) → place set r (b + 1) ≡ place set r b + length (block_bytes (slice_index_or (slice_index_or set r []) b mark))
place_on set r b h = omega (arith, joined_length block_bytes (slice_index_or set r []) b mark h)

-- What a sound block's kind word says, at the block's front.
pub front_word : (b : Block) (ys : List ℕ) → SoundBlock b → value (block_bytes b ++ ys) ≡ word_of (stored_as b)
front_word (written bytes) ys s = value_word (length bytes) ((bytes ++ word (length bytes)) ++ ys) (omega (arith, s.1))
front_word mark ys s = refl
front_word bad ys s = refl

pub stored_word : (b : Block) → SoundBlock b → stored (word_of (stored_as b)) ≡ Some (stored_as b)
stored_word (written bytes) s = let l = s.0 in let u = s.1 in grind (arith, nat_tests)
stored_word mark s = refl
stored_word bad s = refl

-- And at its back.
pub back_word : (b : Block) (ys : List ℕ) → SoundBlock b → value (drop (size (stored_as b) - 4) (block_bytes b ++ ys)) ≡ word_of (stored_as b)
back_word (written bytes) ys s =
    let n = length bytes in
    let split : block_bytes (written bytes) ++ ys ≡ (word n ++ bytes) ++ (word n ++ ys) = simp append_assoc in
    ap (λ t. value (drop (n + 8 - 4) t)) split ∙ ap value (drop_at (word n ++ bytes) (word n ++ ys) (n + 8 - 4) (omega arith)) ∙ value_word n ys (omega (arith, s.1))
back_word mark ys s = refl
back_word bad ys s = refl

pub size_four : (b : Block) → 4 ≤ size (stored_as b)
size_four (written bytes) = omega arith
size_four mark = lit≤ tt
size_four bad = lit≤ tt

-- A kind word at a place within the strip.
pub stored_there : (xs : List ℕ) (at : ℕ) (b : Block) → SoundBlock b → at + 4 ≤ length xs → value (drop at xs) ≡ word_of (stored_as b) → stored_at xs at ≡ Some (stored_as b)
stored_there xs at b s l v = cond-false (nat_lt (length xs) (at + 4)) None (stored (value (drop at xs))) (le-ltb (length xs) (at + 4) l) ∙ ap stored v ∙ stored_word b s

-- What is known of a place of a strip at which a block stands.
pub record BlockAt (xs : List ℕ) (at : ℕ) (b : Block) : Type 0 where
  pub sound : SoundBlock b
  pub bytes : (rest : List ℕ) × (drop at xs ≡ block_bytes b ++ rest)
  pub fits : at + size (stored_as b) ≤ length xs

pub stands_block : (xs : List ℕ) (r b : ℕ) → Reads xs → r < length (meant xs) → b < length (slice_index_or (meant xs) r []) → BlockAt xs (place (meant xs) r b) (slice_index_or (slice_index_or (meant xs) r []) b mark)
stands_block xs r b reads hr hb =
    let s = judged_sound xs (meant xs) reads.judged in
    let blk = get_or (slice_index_or (meant xs) r []) b mark in
    let at = place (meant xs) r b in
    let there : drop at xs ≡ block_bytes blk ++ behind (meant xs) r b = ap (drop at) (sym reads.spells) ∙ at_place (meant xs) r b hr hb in
    let long : length xs - at ≡ size (stored_as blk) + length (behind (meant xs) r b) = sym (length-drop at xs) ∙ ap length there ∙ length-append (block_bytes blk) (behind (meant xs) r b) ∙ ap (λ n. n + length (behind (meant xs) r b)) (sym (size_of blk)) in
    record {
      sound = block_sound (slice_index_or (meant xs) r []) b (reel_sound (meant xs) r s.reels).1;
      bytes = (behind (meant xs) r b, there);
      fits = omega (arith, long, size_four blk);
    }

pub front_kind : (xs : List ℕ) (at : ℕ) (b : Block) → BlockAt xs at b → stored_at xs at ≡ Some (stored_as b)
front_kind xs at b h = stored_there xs at b h.sound (omega (arith, h.fits, size_four b)) (ap value h.bytes.1 ∙ front_word b h.bytes.0 h.sound)

pub back_kind : (xs : List ℕ) (at : ℕ) (b : Block) → BlockAt xs at b → stored_at xs (at + size (stored_as b) - 4) ≡ Some (stored_as b)
back_kind xs at b h =
    let e : at + size (stored_as b) - 4 ≡ at + (size (stored_as b) - 4) = omega (arith, size_four b) in
    let tail : value (drop (at + (size (stored_as b) - 4)) xs) ≡ word_of (stored_as b) = ap value (sym (drop-drop (size (stored_as b) - 4) at xs)) ∙ ap (λ t. value (drop (size (stored_as b) - 4) t)) h.bytes.1 ∙ back_word b h.bytes.0 h.sound in
    ap (stored_at xs) e ∙ stored_there xs (at + (size (stored_as b) - 4)) b h.sound (omega (arith, h.fits, size_four b)) tail

-- The cursor over a block, and back over it.
abbrev pub moved_on : Cursor → Kind ℕ → Cursor
moved_on c s = record { reel = c.reel; block = c.block + 1; at = c.at + size s }

abbrev pub moved_back : Cursor → Kind ℕ → Cursor
moved_back c s = record { reel = c.reel; block = c.block - 1; at = c.at - size s }

pub record On (xs : List ℕ) (c : Cursor) (b : Block) : Type 0 where
  pub kind : stored_at xs c.at ≡ Some (stored_as b)
  pub stands : Stands xs (moved_on c (stored_as b))
  pub there : BlockAt xs c.at b

abbrev pub block_on : List ℕ → Cursor → Block
block_on xs c = slice_index_or (slice_index_or (meant xs) c.reel []) c.block mark

pub stands_on : (xs : List ℕ) (c : Cursor) → Reads xs → Stands xs c → c.block < length (slice_index_or (meant xs) c.reel []) → On xs c (block_on xs c)
stands_on xs c reads s h =
    let b = block_on xs c in
    let there : BlockAt xs c.at b = subst (λ n. BlockAt xs n b) (sym s.here) (stands_block xs c.reel c.block reads s.on_reel h) in
    record {
      kind = front_kind xs c.at b there;
      stands = record { on_reel = s.on_reel; on_block = omega (arith, h); here = omega (arith, s.here, place_on (meant xs) c.reel c.block h, size_of b) };
      there = there;
    }

pub record Behind (xs : List ℕ) (c : Cursor) (b : Block) : Type 0 where
  pub kind : stored_at xs (c.at - 4) ≡ Some (stored_as b)
  pub fits : size (stored_as b) ≤ c.at
  pub stands : Stands xs (moved_back c (stored_as b))
  pub sound : SoundBlock b

abbrev pub block_behind : List ℕ → Cursor → Block
block_behind xs c = slice_index_or (slice_index_or (meant xs) c.reel []) (c.block - 1) mark

pub stands_behind : (xs : List ℕ) (c : Cursor) → Reads xs → Stands xs c → 0 < c.block → Behind xs c (block_behind xs c)
stands_behind xs c reads s h =
    let k = c.block - 1 in
    let reel = get_or (meant xs) c.reel [] in
    let b = get_or reel k mark in
    let inside : k < length reel = omega (arith, s.on_block) in
    let at = place (meant xs) c.reel k in
    let there = stands_block xs c.reel k reads s.on_reel inside in
    let same : k + 1 ≡ c.block = omega arith in
    let next : c.at ≡ at + size (stored_as b) = s.here ∙ ap (place (meant xs) c.reel) (sym same) ∙ place_on (meant xs) c.reel k inside ∙ ap (λ n. at + n) (sym (size_of b)) in
    record {
      kind = ap (λ n. stored_at xs (n - 4)) next ∙ back_kind xs at b there;
      fits = omega (arith, next);
      stands = record { on_reel = s.on_reel; on_block = omega (arith, inside); here = omega (arith, next) };
      sound = there.sound;
    }

-- What an opened strip's own facts say of its cursor.
pub reads : (s : Strip) → Reads (vec_items s.bytes)
reads s = record { judged = is_set (verdict (vec_items s.bytes)) s.judged; spells = s.spells }

pub stands : (s : Strip) → Stands (vec_items s.bytes) s.cursor
stands s = record { on_reel = s.on_reel; on_block = s.on_block; here = s.here }

pub on_there : (s : Strip) (c : Cursor) → Stands (vec_items s.bytes) c → c.block < length (slice_index_or (strip_set s) c.reel []) → On (vec_items s.bytes) c (block_on (vec_items s.bytes) c)
on_there s c h = stands_on (vec_items s.bytes) c (reads s) h

pub behind_there : (s : Strip) (c : Cursor) → Stands (vec_items s.bytes) c → 0 < c.block → Behind (vec_items s.bytes) c (block_behind (vec_items s.bytes) c)
behind_there s c h = stands_behind (vec_items s.bytes) c (reads s) h

-- What is found at a block's place is the block.
found_as : (xs : List ℕ) (at : ℕ) (b : Block) → BlockAt xs at b → lent xs (at + 4) (stored_as b) ≡ Some b
found_as xs at (written bytes) h =
    let there : drop (at + 4) xs ≡ drop 4 (block_bytes (written bytes) ++ h.bytes.0) = sym (drop-drop 4 at xs) ∙ ap (drop 4) h.bytes.1 in
    cond-false (nat_lt (length xs) (at + 4 + length bytes)) None (Some (written (take (length bytes) (drop (at + 4) xs)))) (le-ltb (length xs) (at + 4 + length bytes) (omega (arith, h.fits)))
    ∙ ap (λ t. Some (written (take (length bytes) t))) there
    ∙ ap Some (block_of (written bytes) h.bytes.0)
found_as xs at mark h = refl
found_as xs at bad h = refl

pub found_block : (xs : List ℕ) (at : ℕ) (b : Block) → BlockAt xs at b → block_at_word xs at ≡ Some b
found_block xs at b h = ap (lent_if xs (at + 4)) (front_kind xs at b h) ∙ found_as xs at b h

-- The block of a set at a place that is counted from 1, and so from 0.
pub looked : (set : TapeSet) (reel block r b : ℕ) → (1 ≤ reel) × (r ≡ reel - 1) → (1 ≤ block) × (b ≡ block - 1) → r < length set → b < length (slice_index_or set r []) → look set reel block ≡ Some (slice_index_or (slice_index_or set r []) b mark)
looked set reel block r b hr hb on_reel on_block =
    let er : reel ≡ suc r = omega arith in
    let eb : block ≡ suc b = omega arith in
    ap (λ n. look set n block) er
    ∙ ap (look set (suc r)) eb
    ∙ ap (λ o. look_on o (suc b)) (nth-there set r [] on_reel)
    ∙ nth-there (slice_index_or set r []) b mark on_block

-- What is found where the cursor stands is the block that was asked for.
pub found_there : (s : Strip) (reel block : ℕ) → (1 ≤ reel) × (s.cursor.reel ≡ reel - 1) → (1 ≤ block) × (s.cursor.block ≡ block - 1) → s.cursor.block < length (slice_index_or (strip_set s) s.cursor.reel []) → block_at_word (vec_items s.bytes) s.cursor.at ≡ look (strip_set s) reel block
found_there s reel block hr hb inside =
    found_block (vec_items s.bytes) s.cursor.at (block_on (vec_items s.bytes) s.cursor) (on_there s s.cursor (stands s) inside).there
    ∙ sym (looked (strip_set s) reel block s.cursor.reel s.cursor.block hr hb s.on_reel inside)
