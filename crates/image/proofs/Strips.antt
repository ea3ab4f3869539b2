-- The strip's laws: it is judged to be a set exactly where it is that set's encoding.
use Rattle.std.specs.Prelude.{◌≡◌, ℕ, zero, suc, ◌+◌, ◌<◌, ◌≤◌, Bool, true, false, cond, ◌&&◌, List, [], ◌∷◌, ◌++◌, length, take, drop, Some, None, Ok, Err, Option, ◌==◌, ◌≢◌, nat_le, nat_lt, refl}
use Rattle.std.proofs.Common.{sym, ap, subst, ◌∙◌, append_assoc, append-nil, arith, lit≤, length-append, length-take, length-drop}
use Rattle.std.specs.List.{flat_map}
use Rattle.std.proofs.lemmas.List.{flat_map_more, take-append-drop, drop-drop, nil_from_length, take_at, drop_at}
use Rattle.std.proofs.lemmas.Bool.{ltb-false, leb-false, eqb-true, lt-leb, lt-ltb, ne_eqb, cond-false, cond-true, and_from}
use Rattle.std.proofs.lemmas.Bool.Decides.{nat_tests}
use Rattle.deck.specs.Tape.{Block, written, mark, bad, Reel, TapeSet, Sound, SoundBlock, SoundBlocks, SoundReels}
use Rattle.deck.specs.Words.{word, value}
use Rattle.image.specs.Stored.{Verdict, stored, block, stored_as}
use Rattle.image.specs.Strip.{block_bytes, reel_bytes, encoded, size, next, check_closed, check_kind, check_word, check_whole, follow, judge, verdict}
use Rattle.deck.specs.declared.Kind.{Kind}
use Rattle.deck.specs.declared.Kind.TheVariants.{Record, Mark, Bad}
use Rattle.image.specs.declared.next.Next.{Next}
use Rattle.image.specs.declared.next.Next.TheVariants.{ReelEnds, Holds}
use Rattle.image.proofs.Words.{Bytes, bytes_drop, value_word, word_value}

-- What is known where a word ends a strip, ends a reel, or is a block's.
pub finished : (at reels blocks : ℕ) (xs : List ℕ) → next at reels blocks xs ≡ Ok None → (length xs ≡ 0) × (0 < reels) × (blocks ≡ 0)
finished at reels blocks xs e = grind (arith, nat_tests)

pub ends : (at reels blocks : ℕ) (xs : List ℕ) → next at reels blocks xs ≡ Ok (Some ReelEnds) → (reels < 9) × (4 ≤ length xs) × (value xs ≡ 4294967294)
ends at reels blocks xs e = grind (arith, nat_tests)

-- A check that lets a result through has passed, and so have those behind it.
pub past : {X : Type 0} (b : Bool) (e : ℕ × ℕ) (v : Verdict X) (x : X) → cond b (Err e) v ≡ Ok x → (b ≡ false) × (v ≡ Ok x)
past true e v x h = let z : ◌≡◌ {A = ℕ} 0 1 = cc in absurd (omega arith)
past false e v x h = (refl, h)

other : {X : Type 0} (b : Bool) (w v : Verdict X) (x : X) → (w ≢ Ok x) → cond b w v ≡ Ok x → (b ≡ false) × (v ≡ Ok x)
other true w v x n h = absurd (n h)
other false w v x n h = (refl, h)

pub chosen : {X : Type 0} (b : Bool) (e : ℕ × ℕ) (y x : X) → cond {A = Verdict X} b (Ok y) (Err e) ≡ Ok x → (b ≡ true) × (y ≡ x)
chosen true e y x h = (refl, cc)
chosen false e y x h = let z : ◌≡◌ {A = ℕ} 0 1 = cc in absurd (omega arith)

-- What is known of the bytes of a stored block.
abbrev pub Closed : Kind ℕ → List ℕ → Type 0
Closed (Record n) xs = (n + 8 ≤ length xs) × (value (drop (n + 4) xs) ≡ n)
Closed Mark xs = Unit {0}
Closed Bad xs = Unit {0}

closed : (at : ℕ) (s : Kind ℕ) (xs : List ℕ) (t : Kind ℕ) → check_closed at s xs ≡ Ok (Some (Holds t)) → (s ≡ t) × Closed s xs
closed at (Record n) xs t e =
    let last = cond {A = Verdict (Option Next)} (value (drop (n + 4) xs) == n) (Ok (Some (Holds (Record n)))) (Err (2, at + (n + 4))) in
    let fit = past (nat_lt (length xs) (n + 8)) (1, at) last (Some (Holds t)) e in
    let same = chosen (value (drop (n + 4) xs) == n) (2, at + (n + 4)) (Some (Holds (Record n))) (Some (Holds t)) fit.1 in
    (cc, (ltb-false _ _ fit.0, eqb-true _ _ same.0))
closed at Mark xs t e = (cc, tt)
closed at Bad xs t e = (cc, tt)

kept : (at blocks : ℕ) (o : Option (Kind ℕ)) (xs : List ℕ) (t : Kind ℕ) → check_kind at blocks o xs ≡ Ok (Some (Holds t)) → (blocks < 65535) × (o ≡ Some t) × Closed t xs
kept at blocks None xs t e = let z : ◌≡◌ {A = ℕ} 0 1 = cc in absurd (omega arith)
kept at blocks (Some s) xs t e =
    let room = past (nat_le 65535 blocks) (3, at) (check_closed at s xs) (Some (Holds t)) e in
    let is = closed at s xs t room.1 in
    (leb-false _ _ room.0, ap Some is.0, subst (λ u. Closed u xs) is.0 is.1)

-- What is known where a block stands.
pub record Held (reels blocks : ℕ) (xs : List ℕ) (s : Kind ℕ) : Type 0 where
  pub blocks_left : blocks < 65535
  pub whole : 4 ≤ length xs
  pub kind : stored (value xs) ≡ Some s
  pub closing : Closed s xs

pub held : (at reels blocks : ℕ) (xs : List ℕ) (s : Kind ℕ) → next at reels blocks xs ≡ Ok (Some (Holds s)) → Held reels blocks xs s
held at reels blocks xs s e =
    let go = other (length xs == 0 && (nat_lt 0 reels && blocks == 0)) (Ok None) (check_whole at reels blocks xs) (Some (Holds s)) (λ h. let z : ◌≡◌ {A = ℕ} 0 1 = cc in omega arith) e in
    let left = past (nat_le 9 reels) (3, at) (cond (nat_lt (length xs) 4) (Err (1, at)) (check_word at blocks (value xs) xs)) (Some (Holds s)) go.1 in
    let long = past (nat_lt (length xs) 4) (1, at) (check_word at blocks (value xs) xs) (Some (Holds s)) left.1 in
    let word = other (value xs == 4294967294) (Ok (Some ReelEnds)) (check_kind at blocks (stored (value xs)) xs) (Some (Holds s)) (λ h. let z : ◌≡◌ {A = ℕ} 0 1 = cc in omega arith) long.1 in
    let k = kept at blocks (stored (value xs)) xs s word.1 in
    record {
      blocks_left = k.0;
      whole = ltb-false _ _ long.0;
      kind = k.1;
      closing = k.2;
    }

-- A kind word is the length of its record, and what else it can be.
abbrev pub word_of : Kind ℕ → ℕ
word_of (Record n) = n
word_of Mark = 0
word_of Bad = 4294967295

abbrev pub Proper : Kind ℕ → Type 0
Proper (Record n) = (1 ≤ n) × (n ≤ 5388)
Proper Mark = Unit {0}
Proper Bad = Unit {0}

pub stored_is : (w : ℕ) (s : Kind ℕ) → stored w ≡ Some s → (w ≡ word_of s) × Proper s
stored_is w (Record n) e = grind (arith, nat_tests)
stored_is w Mark e = grind (arith, nat_tests)
stored_is w Bad e = grind (arith, nat_tests)

-- A block that stands at the front of some bytes is written there as a strip writes it.
spelt : (xs : List ℕ) (w : ℕ) → Bytes xs → 4 ≤ length xs → value xs ≡ w → xs ≡ word w ++ drop 4 xs
spelt xs w b l e = subst (λ v. xs ≡ word v ++ drop 4 xs) e (word_value xs b l)

record_bytes : (xs : List ℕ) (n : ℕ) → Bytes xs → value xs ≡ n → Closed (Record n) xs → xs ≡ block_bytes (written (take n (drop 4 xs))) ++ drop (n + 8) xs
record_bytes xs n b v c =
    let long : length (take n (drop 4 xs)) ≡ n = simp (length-take, length-drop) (omega (arith, c.0)) in
    let front : xs ≡ word n ++ drop 4 xs = spelt xs n b (omega (arith, c.0)) v in
    let ys = drop (n + 4) xs in
    let left : 4 ≤ length ys = simp length-drop (omega (arith, c.0)) in
    let back : ys ≡ word n ++ drop 4 ys = spelt ys n (bytes_drop xs (n + 4) b) left c.1 in
    let rest : drop 4 ys ≡ drop (n + 8) xs = drop-drop 4 (n + 4) xs ∙ ap (λ k. drop k xs) (omega arith) in
    let tail : drop n (drop 4 xs) ≡ ys = drop-drop n 4 xs ∙ ap (λ k. drop k xs) (omega arith) in
    let bytes = take n (drop 4 xs) in
    let middle : drop 4 xs ≡ bytes ++ ys = sym (take-append-drop n (drop 4 xs)) ∙ ap (λ t. bytes ++ t) tail in
    let whole : xs ≡ word n ++ (bytes ++ (word n ++ drop (n + 8) xs)) = front ∙ ap (λ t. word n ++ t) (middle ∙ ap (λ t. bytes ++ t) (back ∙ ap (λ t. word n ++ t) rest)) in
    subst (λ m. xs ≡ (word m ++ (bytes ++ word m)) ++ drop (n + 8) xs) (sym long) (whole ∙ sym (simp append_assoc))

pub held_bytes : (s : Kind ℕ) (xs : List ℕ) → Bytes xs → 4 ≤ length xs → value xs ≡ word_of s → Closed s xs → xs ≡ block_bytes (block s (drop 4 xs)) ++ drop (size s) xs
held_bytes (Record n) xs b l v c = record_bytes xs n b v c
held_bytes Mark xs b l v c = spelt xs 0 b l v
held_bytes Bad xs b l v c = spelt xs 4294967295 b l v

-- One more at the end of what is sound.
pub sound_block : (s : Kind ℕ) (xs : List ℕ) → Proper s → Closed s xs → SoundBlock (block s (drop 4 xs))
sound_block (Record n) xs p c =
    let long : length (take n (drop 4 xs)) ≡ n = simp (length-take, length-drop) (omega (arith, c.0)) in
    (omega (arith, long, p.0), omega (arith, long, p.1))
sound_block Mark xs p c = tt
sound_block Bad xs p c = tt

pub sound_blocks_more : (reel : Reel) (b : Block) → SoundBlocks reel → SoundBlock b → SoundBlocks (reel ++ b ∷ [])
sound_blocks_more [] b r s = (s, tt)
sound_blocks_more (a ∷ reel) b r s = (r.0, sound_blocks_more reel b r.1 s)

pub sound_reels_more : (set : TapeSet) (reel : Reel) → SoundReels set → length reel ≤ 65535 → SoundBlocks reel → SoundReels (set ++ reel ∷ [])
sound_reels_more [] reel s l r = ((l, r), tt)
sound_reels_more (a ∷ set) reel s l r = (s.0, sound_reels_more set reel s.1 l r)

-- What is known of the part of a strip that has been read, and what a verdict says of the whole.
pub record Read (reels : TapeSet) (reel : Reel) : Type 0 where
  pub few : length reels ≤ 9
  pub sound : SoundReels reels
  pub short : length reel ≤ 65535
  pub blocks : SoundBlocks reel

pub record Means (reels : TapeSet) (reel : Reel) (xs : List ℕ) (set : TapeSet) : Type 0 where
  pub sound : Sound set
  pub spells : Bytes xs → encoded reels ++ (flat_map block_bytes reel ++ xs) ≡ encoded set

means_finished : (at : ℕ) (reels : TapeSet) (reel : Reel) (xs : List ℕ) (set : TapeSet) → Read reels reel → next at (length reels) (length reel) xs ≡ Ok None → reels ≡ set → Means reels reel xs set
means_finished at reels reel xs set r n e =
    let f = finished at (length reels) (length reel) xs n in
    let no_bytes : xs ≡ [] = nil_from_length xs f.0 in
    let no_blocks : reel ≡ [] = nil_from_length reel f.2 in
    subst (λ t. Means reels reel xs t) e record {
      sound = record { some = f.1; few = r.few; reels = r.sound };
      spells = λ b. rw (no_bytes, no_blocks) (append-nil (encoded reels));
    }

-- The encoding of one reel, and of one block, more.
pub encoded_more : (reels : TapeSet) (reel : Reel) → encoded (reels ++ reel ∷ []) ≡ encoded reels ++ reel_bytes reel
encoded_more reels reel = sym (flat_map_more reel_bytes [] reels reel)

pub blocks_more : (reel : Reel) (b : Block) → flat_map block_bytes (reel ++ b ∷ []) ≡ flat_map block_bytes reel ++ block_bytes b
blocks_more reel b = sym (flat_map_more block_bytes [] reel b)

means_ends : (at : ℕ) (reels : TapeSet) (reel : Reel) (xs : List ℕ) (set : TapeSet) → Read reels reel → next at (length reels) (length reel) xs ≡ Ok (Some ReelEnds) → Means (reels ++ reel ∷ []) [] (drop 4 xs) set → Means reels reel xs set
means_ends at reels reel xs set r n m =
    let f = ends at (length reels) (length reel) xs n in
    record {
      sound = m.sound;
      spells = λ b.
          let word_there : xs ≡ word 4294967294 ++ drop 4 xs = spelt xs 4294967294 b f.1 f.2 in
          ap (λ t. encoded reels ++ (flat_map block_bytes reel ++ t)) word_there
          ∙ sym (ap (λ t. t ++ drop 4 xs) (encoded_more reels reel) ∙ simp append_assoc)
          ∙ m.spells (bytes_drop xs 4 b);
    }

read_ends : (at : ℕ) (reels : TapeSet) (reel : Reel) (xs : List ℕ) → Read reels reel → next at (length reels) (length reel) xs ≡ Ok (Some ReelEnds) → Read (reels ++ reel ∷ []) []
read_ends at reels reel xs r n =
    let f = ends at (length reels) (length reel) xs n in
    record {
      few = rw length-append (omega (arith, f.0));
      sound = sound_reels_more reels reel r.sound r.short r.blocks;
      short = lit≤ tt;
      blocks = tt;
    }

means_holds : (at : ℕ) (reels : TapeSet) (reel : Reel) (xs : List ℕ) (set : TapeSet) (s : Kind ℕ) → next at (length reels) (length reel) xs ≡ Ok (Some (Holds s)) → Means reels (reel ++ block s (drop 4 xs) ∷ []) (drop (size s) xs) set → Means reels reel xs set
means_holds at reels reel xs set s n m =
    let h = held at (length reels) (length reel) xs s n in
    let b = block s (drop 4 xs) in
    record {
      sound = m.sound;
      spells = λ bytes.
          let there : xs ≡ block_bytes b ++ drop (size s) xs = held_bytes s xs bytes h.whole (stored_is (value xs) s h.kind).0 h.closing in
          ap (λ t. encoded reels ++ (flat_map block_bytes reel ++ t)) there
          ∙ sym (ap (λ t. encoded reels ++ (t ++ drop (size s) xs)) (blocks_more reel b) ∙ simp append_assoc)
          ∙ m.spells (bytes_drop xs (size s) bytes);
    }

read_holds : (at : ℕ) (reels : TapeSet) (reel : Reel) (xs : List ℕ) (s : Kind ℕ) → Read reels reel → next at (length reels) (length reel) xs ≡ Ok (Some (Holds s)) → Read reels (reel ++ block s (drop 4 xs) ∷ [])
read_holds at reels reel xs s r n =
    let h = held at (length reels) (length reel) xs s n in
    record {
      few = r.few;
      sound = r.sound;
      short = rw length-append (omega (arith, h.blocks_left));
      blocks = sound_blocks_more reel (block s (drop 4 xs)) r.blocks (sound_block s xs (stored_is (value xs) s h.kind).1 h.closing);
    }

-- A strip that is judged to be a set is its encoding, and the set is sound.
means_on : (words : ℕ) (set : TapeSet) → ((reels : TapeSet) (reel : Reel) (at : ℕ) (xs : List ℕ) → Read reels reel → judge words reels reel at xs ≡ Ok set → Means reels reel xs set) → (reels : TapeSet) (reel : Reel) (at : ℕ) (xs : List ℕ) (v : Verdict (Option Next)) → Read reels reel → next at (length reels) (length reel) xs ≡ v → follow (judge words) reels reel at xs v ≡ Ok set → Means reels reel xs set
means_on words set rest reels reel at xs (Err e) r n f = let z : ◌≡◌ {A = ℕ} 0 1 = cc in absurd (omega arith)
means_on words set rest reels reel at xs (Ok None) r n f = means_finished at reels reel xs set r n (cc)
means_on words set rest reels reel at xs (Ok (Some ReelEnds)) r n f =
    means_ends at reels reel xs set r n (rest (reels ++ reel ∷ []) [] (at + 4) (drop 4 xs) (read_ends at reels reel xs r n) f)
means_on words set rest reels reel at xs (Ok (Some (Holds s))) r n f =
    means_holds at reels reel xs set s n (rest reels (reel ++ block s (drop 4 xs) ∷ []) (at + size s) (drop (size s) xs) (read_holds at reels reel xs s r n) f)

pub means : (words : ℕ) (set : TapeSet) (reels : TapeSet) (reel : Reel) (at : ℕ) (xs : List ℕ) → Read reels reel → judge words reels reel at xs ≡ Ok set → Means reels reel xs set
means zero set reels reel at xs r e = let z : ◌≡◌ {A = ℕ} 0 1 = cc in absurd (omega arith)
means (suc words) set reels reel at xs r e = means_on words set (means words set) reels reel at xs (next at (length reels) (length reel) xs) r refl e

pub nothing_read : Read [] []
nothing_read = record { few = lit≤ tt; sound = tt; short = lit≤ tt; blocks = tt }

pub judged_sound : (xs : List ℕ) (set : TapeSet) → verdict xs ≡ Ok set → Sound set
judged_sound xs set e = (means (length xs + 1) set [] [] 0 xs nothing_read e).sound

pub judged_spells : (xs : List ℕ) (set : TapeSet) → Bytes xs → verdict xs ≡ Ok set → encoded set ≡ xs
judged_spells xs set b e = sym ((means (length xs + 1) set [] [] 0 xs nothing_read e).spells b)

-- A block that is stored is read back.
passes : (at reels blocks : ℕ) (xs : List ℕ) → reels < 9 → 4 ≤ length xs → next at reels blocks xs ≡ check_word at blocks (value xs) xs
passes at reels blocks xs r l = grind (arith, nat_tests)

room : (at blocks : ℕ) (s : Kind ℕ) (xs : List ℕ) → blocks < 65535 → check_kind at blocks (Some s) xs ≡ check_closed at s xs
room at blocks s xs l = cond-false (nat_le 65535 blocks) (Err (3, at)) (check_closed at s xs) (lt-leb 65535 blocks l)

next_end : (at reels blocks : ℕ) (ys : List ℕ) → reels < 9 → next at reels blocks (word 4294967294 ++ ys) ≡ Ok (Some ReelEnds)
next_end at reels blocks ys r = passes at reels blocks (word 4294967294 ++ ys) r (omega arith)

stored_record : (n : ℕ) → 1 ≤ n → n ≤ 5388 → stored n ≡ Some (Record n)
stored_record n l u = grind (arith, nat_tests)

word_record : (at blocks n : ℕ) (xs : List ℕ) → blocks < 65535 → 1 ≤ n → n ≤ 5388 → check_word at blocks n xs ≡ check_closed at (Record n) xs
word_record at blocks n xs b l u =
    cond-false (n == 4294967294) (Ok (Some ReelEnds)) (check_kind at blocks (stored n) xs) (ne_eqb n 4294967294 (λ e. omega arith))
    ∙ ap (λ o. check_kind at blocks o xs) (stored_record n l u)
    ∙ room at blocks (Record n) xs b

closing_record : (at n : ℕ) (xs : List ℕ) → n + 8 ≤ length xs → value (drop (n + 4) xs) ≡ n → check_closed at (Record n) xs ≡ Ok (Some (Holds (Record n)))
closing_record at n xs l e = grind (arith, nat_tests)

next_written : (at reels blocks : ℕ) (bytes ys : List ℕ) → reels < 9 → blocks < 65535 → 1 ≤ length bytes → length bytes ≤ 5388 → next at reels blocks (block_bytes (written bytes) ++ ys) ≡ Ok (Some (Holds (Record (length bytes))))
next_written at reels blocks bytes ys r b l u =
    let n = length bytes in
    let xs = block_bytes (written bytes) ++ ys in
    let regrouped : xs ≡ word n ++ (bytes ++ (word n ++ ys)) = simp append_assoc in
    let long : length xs ≡ n + 8 + length ys = simp length-append (omega arith) in
    let says : value xs ≡ n = value_word n ((bytes ++ word n) ++ ys) (omega arith) in
    let tail : drop (n + 4) xs ≡ word n ++ ys = ap (drop (n + 4)) (regrouped ∙ sym (append_assoc (word n) bytes (word n ++ ys))) ∙ drop_at (word n ++ bytes) (word n ++ ys) (n + 4) (omega arith) in
    let closes : value (drop (n + 4) xs) ≡ n = ap value tail ∙ value_word n ys (omega arith) in
    passes at reels blocks xs r (omega arith)
    ∙ ap (λ w. check_word at blocks w xs) says
    ∙ word_record at blocks n xs b l u
    ∙ closing_record at n xs (omega arith) closes

pub next_block : (at reels blocks : ℕ) (b : Block) (ys : List ℕ) → reels < 9 → blocks < 65535 → SoundBlock b → next at reels blocks (block_bytes b ++ ys) ≡ Ok (Some (Holds (stored_as b)))
next_block at reels blocks (written bytes) ys r l s = next_written at reels blocks bytes ys r l s.0 s.1
next_block at reels blocks mark ys r l s = passes at reels blocks (word 0 ++ ys) r (omega arith) ∙ room at blocks Mark (word 0 ++ ys) l
next_block at reels blocks bad ys r l s = passes at reels blocks (word 4294967295 ++ ys) r (omega arith) ∙ room at blocks Bad (word 4294967295 ++ ys) l

pub size_of : (b : Block) → size (stored_as b) ≡ length (block_bytes b)
size_of (written bytes) = simp length-append (omega arith)
size_of mark = refl
size_of bad = refl

stored_some : (b : Block) → 1 ≤ size (stored_as b)
stored_some (written bytes) = omega arith
stored_some mark = lit≤ tt
stored_some bad = lit≤ tt

pub block_of : (b : Block) (ys : List ℕ) → block (stored_as b) (drop 4 (block_bytes b ++ ys)) ≡ b
block_of (written bytes) ys = ap written (ap (take (length bytes)) (append_assoc bytes (word (length bytes)) ys) ∙ take_at bytes (word (length bytes) ++ ys) (length bytes) refl)
block_of mark ys = refl
block_of bad ys = refl

-- What is left of a strip behind some of its blocks.
abbrev pub strip_left : Reel → TapeSet → List ℕ
strip_left todo rest = flat_map block_bytes todo ++ (word 4294967294 ++ encoded rest)

judge_block : (words : ℕ) (reels : TapeSet) (reel : Reel) (at : ℕ) (b : Block) (ys : List ℕ) → length reels < 9 → length reel < 65535 → SoundBlock b → judge (suc words) reels reel at (block_bytes b ++ ys) ≡ judge words reels (reel ++ b ∷ []) (at + size (stored_as b)) ys
judge_block words reels reel at b ys r l s =
    let xs = block_bytes b ++ ys in
    let rest : drop (size (stored_as b)) xs ≡ ys = drop_at (block_bytes b) ys (size (stored_as b)) (sym (size_of b)) in
    ap (follow (judge words) reels reel at xs) (next_block at (length reels) (length reel) b ys r l s)
    ∙ ap (λ c. judge words reels (reel ++ c ∷ []) (at + size (stored_as b)) (drop (size (stored_as b)) xs)) (block_of b ys)
    ∙ ap (judge words reels (reel ++ b ∷ []) (at + size (stored_as b))) rest

judge_end : (words : ℕ) (reels : TapeSet) (reel : Reel) (at : ℕ) (ys : List ℕ) → length reels < 9 → judge (suc words) reels reel at (word 4294967294 ++ ys) ≡ judge words (reels ++ reel ∷ []) [] (at + 4) ys
judge_end words reels reel at ys r = ap (follow (judge words) reels reel at (word 4294967294 ++ ys)) (next_end at (length reels) (length reel) ys r)

judge_finished : (words : ℕ) (reels : TapeSet) (at : ℕ) → 0 < length reels → judge (suc words) reels [] at [] ≡ Ok reels
judge_finished words reels at h = ap (follow (judge words) reels [] at []) (cond-true (nat_lt 0 (length reels) && 0 == 0) (Ok None) (check_whole at (length reels) 0 []) (and_from (nat_lt 0 (length reels)) (0 == 0) (lt-ltb 0 (length reels) h) refl))

judge_reads : (words : ℕ) (reels : TapeSet) (reel todo : Reel) (rest : TapeSet) (at : ℕ) → SoundBlocks todo → length reel + length todo ≤ 65535 → SoundReels rest → length reels + length rest < 9 → length (strip_left todo rest) < words → judge words reels reel at (strip_left todo rest) ≡ Ok (reels ++ (reel ++ todo) ∷ rest)
judge_reads zero reels reel todo rest at s l r f w = absurd (omega arith)
judge_reads (suc words) reels reel (b ∷ todo) rest at s l r f w =
    let ys = strip_left todo rest in
    let split : strip_left (b ∷ todo) rest ≡ block_bytes b ++ ys = append_assoc (block_bytes b) (flat_map block_bytes todo) (word 4294967294 ++ encoded rest) in
    let grown : length (reel ++ b ∷ []) + length todo ≤ 65535 = simp length-append (omega arith) in
    let some : 1 ≤ size (stored_as b) = stored_some b in
    let fewer : length ys < words = omega (arith, ap length split, length-append (block_bytes b) ys, size_of b) in
    ap (judge (suc words) reels reel at) split
    ∙ judge_block words reels reel at b ys (omega arith) (omega arith) s.0
    ∙ judge_reads words reels (reel ++ b ∷ []) todo rest (at + size (stored_as b)) s.1 grown r f fewer
    ∙ ap (λ t. Ok (reels ++ t ∷ rest)) (append_assoc reel (b ∷ []) todo)
judge_reads (suc zero) reels reel [] rest at s l r f w = absurd (omega arith)
judge_reads (suc (suc words)) reels reel [] [] at s l r f w =
    judge_end (suc words) reels reel at [] (omega arith)
    ∙ judge_finished words (reels ++ reel ∷ []) (at + 4) (rw length-append (omega arith))
    ∙ ap (λ t. Ok (reels ++ t ∷ [])) (sym (append-nil reel))
judge_reads (suc (suc words)) reels reel [] (next_reel ∷ rest) at s l r f w =
    let split : encoded (next_reel ∷ rest) ≡ strip_left next_reel rest = append_assoc (flat_map block_bytes next_reel) (word 4294967294) (encoded rest) in
    let few : length (reels ++ reel ∷ []) + length rest < 9 = rw length-append (omega arith) in
    let fewer : length (strip_left next_reel rest) < suc words = omega (arith, ap length split) in
    judge_end (suc words) reels reel at (encoded (next_reel ∷ rest)) (omega arith)
    ∙ ap (judge (suc words) (reels ++ reel ∷ []) [] (at + 4)) split
    ∙ judge_reads (suc words) (reels ++ reel ∷ []) [] next_reel rest (at + 4) r.0.1 (omega (arith, r.0.0)) r.1 few fewer
    ∙ ap Ok (append_assoc reels (reel ∷ []) (next_reel ∷ rest) ∙ ap (λ t. reels ++ t ∷ (next_reel ∷ rest)) (sym (append-nil reel)))

-- The encoding of a sound set is judged to be that set.
pub judged_encoded : (set : TapeSet) → Sound set → verdict (encoded set) ≡ Ok set
judged_encoded [] s = absurd (omega (arith, s.some))
judged_encoded (reel ∷ rest) s =
    let split : encoded (reel ∷ rest) ≡ strip_left reel rest = append_assoc (flat_map block_bytes reel) (word 4294967294) (encoded rest) in
    let enough : length (strip_left reel rest) < length (encoded (reel ∷ rest)) + 1 = omega (arith, ap length split) in
    ap (judge (length (encoded (reel ∷ rest)) + 1) [] [] 0) split
    ∙ judge_reads (length (encoded (reel ∷ rest)) + 1) [] [] reel rest 0 s.reels.0.1 (omega (arith, s.reels.0.0)) s.reels.1 (omega (arith, s.few)) enough
