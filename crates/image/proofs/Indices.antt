-- The indexed image's laws: it is judged to be a set exactly where it is that set's image.
use Rattle.std.specs.Prelude.{◌≡◌, ℕ, zero, suc, ◌+◌, ◌*◌, ◌<◌, ◌≤◌, cond, List, [], ◌∷◌, ◌++◌, map, length, take, drop, Some, None, Ok, Err, sum, Option, ◌==◌, nat_lt, slice_index, slice_index_or, refl}
use Rattle.std.proofs.Common.{sym, ap, subst, ◌∙◌, arith, length-append, length-take, length-drop}
use Rattle.std.proofs.lemmas.List.{take-append-drop, length-take-le, nil_from_length, length-map, get_or-map, take_at, drop_at}
use Rattle.std.proofs.lemmas.List.Sums.{sum_by-cons}
use Rattle.std.proofs.lemmas.Bool.{ltb-false, eqb-true, eqb-false, le-ltb, cond-false}
use Rattle.std.proofs.lemmas.Bool.Decides.{nat_tests}
use Rattle.deck.specs.Tape.{Block, written, mark, bad, TapeSet, Sound, SoundBlock, SoundBlocks, SoundReels}
use Rattle.deck.specs.Words.{value}
use Rattle.image.specs.Indexed.{blocks, first_entry, header, says, Lies, Entry, Encodes, and_then, row, whole, reel_count, block_count, check_entry, entry, cut, reel_entries, verdict}
use Rattle.image.specs.Opened.{Exactly}
use Rattle.image.specs.Stored.{Verdict, stored, stored_as}
use Rattle.deck.specs.declared.Kind.{Kind}
use Rattle.deck.specs.declared.Kind.TheVariants.{Record, Mark, Bad}
use Rattle.image.proofs.Rows.{and_then_ok, row_length, row_at, row_from}
use Rattle.deck.proofs.Looks.{block_sound, reel_sound}
use Rattle.image.proofs.Places.{stored_word}
use Rattle.image.proofs.Strips.{past, chosen, word_of, stored_is}

-- A word that is read, and one that is there.
pub whole_says : (xs : List ℕ) (at n : ℕ) → whole xs at ≡ Ok n → says xs at n
whole_says xs at n e = grind (arith, nat_tests)

pub says_whole : (xs : List ℕ) (at n : ℕ) → says xs at n → whole xs at ≡ Ok n
says_whole xs at n s = cond-false (nat_lt (length xs) (at + 4)) (Err (1, at)) (Ok (value (drop at xs))) (le-ltb (length xs) (at + 4) s.0) ∙ ap Ok s.1

reels_say : (xs : List ℕ) (n : ℕ) → reel_count xs ≡ Ok n → says xs 0 n × (1 ≤ n) × (n ≤ 9)
reels_say xs n e =
    let w = and_then_ok (whole xs 0) (λ m. cond (m == 0) (Err (2, 0)) (cond (nat_lt 9 m) (Err (3, 0)) (Ok m))) n e in
    let some = past (w.0 == 0) (2, 0) (cond (nat_lt 9 w.0) (Err (3, 0)) (Ok w.0)) n w.2 in
    let few = past (nat_lt 9 w.0) (3, 0) (Ok w.0) n some.1 in
    let is : w.0 ≡ n = let h = few.1 in cc in
    let ne : w.0 ≡ 0 → ⊥ = eqb-false w.0 0 some.0 in
    (subst (says xs 0) is (whole_says xs 0 w.0 w.1), omega (arith, ltb-false 9 w.0 few.0), omega (arith, ltb-false 9 w.0 few.0))

say_reels : (xs : List ℕ) (n : ℕ) → says xs 0 n → 1 ≤ n → n ≤ 9 → reel_count xs ≡ Ok n
say_reels xs n s l u =
    let rest : cond {A = Verdict ℕ} (n == 0) (Err (2, 0)) (cond (nat_lt 9 n) (Err (3, 0)) (Ok n)) ≡ Ok n = grind (arith, nat_tests) in
    ap (λ v. and_then v (λ m. cond (m == 0) (Err (2, 0)) (cond (nat_lt 9 m) (Err (3, 0)) (Ok m)))) (says_whole xs 0 n s) ∙ rest

pub count_says : (xs : List ℕ) (at n : ℕ) → block_count xs at ≡ Ok n → says xs at n × (n ≤ 65535)
count_says xs at n e =
    let w = and_then_ok (whole xs at) (λ m. cond (nat_lt 65535 m) (Err (3, at)) (Ok m)) n e in
    let few = past (nat_lt 65535 w.0) (3, at) (Ok w.0) n w.2 in
    let is : w.0 ≡ n = let h = few.1 in cc in
    (subst (says xs at) is (whole_says xs at w.0 w.1), omega (arith, ltb-false 65535 w.0 few.0))

say_count : (xs : List ℕ) (at n : ℕ) → says xs at n → n ≤ 65535 → block_count xs at ≡ Ok n
say_count xs at n s u =
    ap (λ v. and_then v (λ m. cond (nat_lt 65535 m) (Err (3, at)) (Ok m))) (says_whole xs at n s)
    ∙ cond-false (nat_lt 65535 n) (Err (3, at)) (Ok n) (le-ltb 65535 n u)

-- An entry that is read is its block's.
checked_entry : (xs : List ℕ) (head at offset kind : ℕ) (b : Block) (o : Option (Kind ℕ)) → says xs at offset → says xs (at + 4) kind → stored kind ≡ o → check_entry xs head offset (at + 4) o ≡ Ok b → Entry xs head at b × SoundBlock b
checked_entry xs head at offset kind b None s k is e = let z : ◌≡◌ {A = ℕ} 0 1 = cc in absurd (omega arith)
checked_entry xs head at offset kind b (Some (Record n)) s k is e =
    let bytes = take n (drop offset xs) in
    let behind = past (nat_lt offset head) (4, at + 4) (cond (nat_lt (length xs) (offset + n)) (Err (4, at + 4)) (Ok (written bytes))) b e in
    let inside = past (nat_lt (length xs) (offset + n)) (4, at + 4) (Ok (written bytes)) b behind.1 in
    let block_is : written bytes ≡ b = let h = inside.1 in cc in
    let fits : offset + n ≤ length xs = ltb-false _ _ inside.0 in
    let long : length bytes ≡ n = simp (length-take, length-drop) (omega arith) in
    let word = stored_is kind (Record n) is in
    let lies : Lies xs head at bytes = record {
      offset = offset;
      leads = s;
      kind = subst (says xs (at + 4)) (word.0 ∙ sym long) k;
      behind = ltb-false _ _ behind.0;
      inside = omega (arith, long, fits);
      there = ap (λ m. take m (drop offset xs)) long;
    } in
    subst (λ c. Entry xs head at c × SoundBlock c) block_is (lies, (omega (arith, long, word.1.0), omega (arith, long, word.1.1)))
checked_entry xs head at offset kind b (Some Mark) s k is e =
    let m = chosen (offset == 0) (2, at + 4) mark b e in
    subst (λ c. Entry xs head at c × SoundBlock c) m.1 ((subst (says xs at) (eqb-true _ _ m.0) s, subst (says xs (at + 4)) (stored_is kind Mark is).0 k), tt)
checked_entry xs head at offset kind b (Some Bad) s k is e =
    let m = chosen (offset == 0) (2, at + 4) bad b e in
    subst (λ c. Entry xs head at c × SoundBlock c) m.1 ((subst (says xs at) (eqb-true _ _ m.0) s, subst (says xs (at + 4)) (stored_is kind Bad is).0 k), tt)

entry_is : (xs : List ℕ) (head at : ℕ) (b : Block) → entry xs head at ≡ Ok b → Entry xs head at b × SoundBlock b
entry_is xs head at b e =
    let o = and_then_ok (whole xs at) (λ offset. and_then (whole xs (at + 4)) (λ kind. check_entry xs head offset (at + 4) (stored kind))) b e in
    let k = and_then_ok (whole xs (at + 4)) (λ kind. check_entry xs head o.0 (at + 4) (stored kind)) b o.2 in
    checked_entry xs head at o.0 k.0 b (stored k.0) (whole_says xs at o.0 o.1) (whole_says xs (at + 4) k.0 k.1) refl k.2

-- One count more.
pub sum_on : (total n : ℕ) (ns : List ℕ) → ◌≡◌ {A = Verdict ℕ} (Ok (total + sum (n ∷ ns))) (Ok (total + n + sum ns))
sum_on total n ns = ap Ok (omega (arith, sum_by-cons (λ x. x) n ns))

-- And an entry that is a sound block's is read as that block.
read_entry : (xs : List ℕ) (head at offset : ℕ) (b : Block) → SoundBlock b → says xs at offset → says xs (at + 4) (word_of (stored_as b)) → entry xs head at ≡ check_entry xs head offset (at + 4) (Some (stored_as b))
read_entry xs head at offset b s o k =
    ap (λ v. and_then v (λ offset. and_then (whole xs (at + 4)) (λ kind. check_entry xs head offset (at + 4) (stored kind)))) (says_whole xs at offset o)
    ∙ ap (λ v. and_then v (λ kind. check_entry xs head offset (at + 4) (stored kind))) (says_whole xs (at + 4) (word_of (stored_as b)) k)
    ∙ ap (check_entry xs head offset (at + 4)) (stored_word b s)

is_entry : (xs : List ℕ) (head at : ℕ) (b : Block) → SoundBlock b → Entry xs head at b → entry xs head at ≡ Ok b
is_entry xs head at (written bytes) s l =
    let n = length bytes in
    let there = cond {A = Verdict Block} (nat_lt (length xs) (l.offset + n)) (Err (4, at + 4)) (Ok (written (take n (drop l.offset xs)))) in
    read_entry xs head at l.offset (written bytes) s l.leads l.kind
    ∙ cond-false (nat_lt l.offset head) (Err (4, at + 4)) there (le-ltb l.offset head l.behind)
    ∙ cond-false (nat_lt (length xs) (l.offset + n)) (Err (4, at + 4)) (Ok (written (take n (drop l.offset xs)))) (le-ltb (length xs) (l.offset + n) l.inside)
    ∙ ap (λ t. Ok (written t)) l.there
is_entry xs head at mark s l = read_entry xs head at 0 mark s l.0 l.1
is_entry xs head at bad s l = read_entry xs head at 0 bad s l.0 l.1

-- Blocks cut into reels, and put together again.
abbrev pub lengths : TapeSet → List ℕ
lengths set = map length set

cut_length : (ns : List ℕ) (bs : List Block) → length (cut ns bs) ≡ length ns
cut_length [] bs = refl
cut_length (n ∷ ns) bs = ap suc (cut_length ns (drop n bs))

rest_length : (n : ℕ) (ns : List ℕ) (bs : List Block) → length bs ≡ sum (n ∷ ns) → (n ≤ length bs) × (length (drop n bs) ≡ sum ns)
rest_length n ns bs e = let s = sum_by-cons (λ x. x) n ns in (omega (arith, e, s), length-drop n bs ∙ omega (arith, e, s))

cut_blocks : (ns : List ℕ) (bs : List Block) → length bs ≡ sum ns → blocks (cut ns bs) ≡ bs
cut_blocks [] bs e = sym (nil_from_length bs e)
cut_blocks (n ∷ ns) bs e = ap (λ t. take n bs ++ t) (cut_blocks ns (drop n bs) (rest_length n ns bs e).1) ∙ take-append-drop n bs

cut_at : (ns : List ℕ) (bs : List Block) (i : ℕ) → length bs ≡ sum ns → i < length ns → length (slice_index_or (cut ns bs) i []) ≡ slice_index ns i
cut_at [] bs i e h = absurd (omega arith)
cut_at (n ∷ ns) bs zero e h = length-take-le n bs (rest_length n ns bs e).0
cut_at (n ∷ ns) bs (suc i) e h = cut_at ns (drop n bs) i (rest_length n ns bs e).1 (omega arith)

cut_set : (set : TapeSet) → cut (lengths set) (blocks set) ≡ set
cut_set [] = refl
cut_set (reel ∷ set) =
    ap (λ r. r ∷ cut (lengths set) (drop (length reel) (reel ++ blocks set))) (take_at reel (blocks set) (length reel) refl)
    ∙ ap (λ bs. reel ∷ cut (lengths set) bs) (drop_at reel (blocks set) (length reel) refl)
    ∙ ap (λ s. reel ∷ s) (cut_set set)

sum_lengths : (set : TapeSet) → sum (lengths set) ≡ length (blocks set)
sum_lengths [] = refl
sum_lengths (reel ∷ set) = sum_by-cons (λ x. x) (length reel) (lengths set) ∙ ap (λ n. length reel + n) (sum_lengths set) ∙ sym (length-append reel (blocks set))

-- A set is sound where its reels are short and its blocks are sound.
sound_places : (bs : List Block) → ((i : ℕ) → i < length bs → SoundBlock (slice_index_or bs i mark)) → SoundBlocks bs
sound_places [] h = tt
sound_places (b ∷ bs) h = (h 0 (omega arith), sound_places bs (λ i l. h (suc i) (omega arith)))

sound_parts : (fs bs : List Block) → SoundBlocks (fs ++ bs) → SoundBlocks fs × SoundBlocks bs
sound_parts [] bs s = (tt, s)
sound_parts (a ∷ fs) bs s = let p = sound_parts fs bs s.1 in ((s.0, p.0), p.1)

sound_joined : (fs bs : List Block) → SoundBlocks fs → SoundBlocks bs → SoundBlocks (fs ++ bs)
sound_joined [] bs s t = t
sound_joined (a ∷ fs) bs s t = (s.0, sound_joined fs bs s.1 t)

sound_reels : (set : TapeSet) → ((i : ℕ) → i < length set → length (slice_index_or set i []) ≤ 65535) → SoundBlocks (blocks set) → SoundReels set
sound_reels [] h s = tt
sound_reels (reel ∷ set) h s =
    let p = sound_parts reel (blocks set) s in
    ((h 0 (omega arith), p.0), sound_reels set (λ i l. h (suc i) (omega arith)) p.1)

reels_sound : (set : TapeSet) → SoundReels set → SoundBlocks (blocks set)
reels_sound [] s = tt
reels_sound (reel ∷ set) s = sound_joined reel (blocks set) s.0.1 (reels_sound set s.1)

-- The counts and the entries that are read are those of the set that they are cut into.
module _ (xs : List ℕ) (n : ℕ) (ns : List ℕ) (bs : List Block) (reels_read : reel_count xs ≡ Ok n) (counts_read : row (block_count xs) 4 4 n ≡ Ok ns) (entries_read : row (entry xs (header n (sum ns))) 8 (first_entry n) (sum ns) ≡ Ok bs) where
  many : length ns ≡ n
  many = row_length (block_count xs) 4 4 n ns counts_read

  long : length bs ≡ sum ns
  long = row_length (entry xs (header n (sum ns))) 8 (first_entry n) (sum ns) bs entries_read

  reels_are : length (cut ns bs) ≡ n
  reels_are = cut_length ns bs ∙ many

  blocks_are : blocks (cut ns bs) ≡ bs
  blocks_are = cut_blocks ns bs long

  count : (i : ℕ) → i < length (cut ns bs) → says xs (4 + 4 * i) (length (slice_index_or (cut ns bs) i [])) × (length (slice_index_or (cut ns bs) i []) ≤ 65535)
  count i h =
      subst (λ m. says xs (4 + 4 * i) m × (m ≤ 65535)) (sym (cut_at ns bs i long (omega (arith, reels_are, many))))
      (count_says xs (4 + 4 * i) (slice_index ns i) (row_at (block_count xs) 4 4 n ns i 0 counts_read (omega (arith, reels_are))))

  listed : (i : ℕ) → i < length bs → Entry xs (header n (sum ns)) (first_entry n + 8 * i) (slice_index_or bs i mark) × SoundBlock (slice_index_or bs i mark)
  listed i h =
      entry_is xs (header n (sum ns)) (first_entry n + 8 * i) (slice_index_or bs i mark)
      (row_at (entry xs (header n (sum ns))) 8 (first_entry n) (sum ns) bs i mark entries_read (omega (arith, long)))

  cut_sound : Sound (cut ns bs)
  cut_sound = record {
    some = omega (arith, reels_are, (reels_say xs n reels_read).1);
    few = omega (arith, reels_are, (reels_say xs n reels_read).2);
    reels = sound_reels (cut ns bs) (λ i h. (count i h).1) (subst SoundBlocks (sym blocks_are) (sound_places bs (λ i h. (listed i h).1)));
  }

  cut_entries : (i : ℕ) → i < length bs → Entry xs (header (length (cut ns bs)) (length bs)) (first_entry (length (cut ns bs)) + 8 * i) (slice_index_or bs i mark)
  cut_entries i h =
      subst (λ m. Entry xs (header m (length bs)) (first_entry m + 8 * i) (slice_index_or bs i mark)) (sym reels_are)
      (subst (λ m. Entry xs (header n m) (first_entry n + 8 * i) (slice_index_or bs i mark)) (sym long) (listed i h).0)

  cut_encodes : Encodes xs (cut ns bs)
  cut_encodes = record {
    reels = subst (says xs 0) (sym reels_are) (reels_say xs n reels_read).0;
    counts = λ i h. (count i h).0;
    entries = subst (λ cs. (i : ℕ) → i < length cs → Entry xs (header (length (cut ns bs)) (length cs)) (first_entry (length (cut ns bs)) + 8 * i) (slice_index_or cs i mark)) (sym blocks_are) cut_entries;
  }

  cut_judged : (set : TapeSet) → cut ns bs ≡ set → Sound set × Encodes xs set
  cut_judged set is = subst (λ s. Sound s × Encodes xs s) is (cut_sound, cut_encodes)

-- What is judged to be a set is the image of that set, and the set is sound.
pub judged : (xs : List ℕ) (set : TapeSet) → verdict xs ≡ Ok set → Sound set × Encodes xs set
judged xs set e =
    let r = and_then_ok (reel_count xs) (λ n. and_then (row (block_count xs) 4 4 n) (reel_entries xs n)) set e in
    let c = and_then_ok (row (block_count xs) 4 4 r.0) (reel_entries xs r.0) set r.2 in
    let b = and_then_ok (row (entry xs (header r.0 (sum c.0))) 8 (first_entry r.0) (sum c.0)) (λ bs. Ok (cut c.0 bs)) set c.2 in
    let is : cut c.0 b.0 ≡ set = let h = b.2 in cc in
    cut_judged xs r.0 c.0 b.0 r.1 c.1 b.1 set is

-- And the image of a sound set is judged to be that set.
pub judged_so : (xs : List ℕ) (set : TapeSet) → Sound set → Encodes xs set → verdict xs ≡ Ok set
judged_so xs set s e =
    let n = length set in
    let head = header n (length (blocks set)) in
    let reels : reel_count xs ≡ Ok n = say_reels xs n e.reels s.some s.few in
    let count : (i : ℕ) → i < length (lengths set) → block_count xs (4 + 4 * i) ≡ Ok (slice_index (lengths set) i) = λ i h.
    let inside : i < length set = omega (arith, h, length-map set length) in
    say_count xs (4 + 4 * i) (length (slice_index_or set i [])) (e.counts i inside) (reel_sound set i s.reels).0
    ∙ ap Ok (sym (get_or-map length set i [] 0 inside)) in
    let counts : row (block_count xs) 4 4 n ≡ Ok (lengths set) = ap (row (block_count xs) 4 4) (sym (length-map set length)) ∙ row_from (block_count xs) 4 4 (lengths set) 0 count in
    let entries : row (entry xs head) 8 (first_entry n) (length (blocks set)) ≡ Ok (blocks set) =
    row_from (entry xs head) 8 (first_entry n) (blocks set) mark
    (λ i h. is_entry xs head (first_entry n + 8 * i) (slice_index_or (blocks set) i mark) (block_sound (blocks set) i (reels_sound set s.reels)) (e.entries i h)) in
    ap (λ v. and_then v (λ m. and_then (row (block_count xs) 4 4 m) (reel_entries xs m))) reels
    ∙ ap (λ v. and_then v (reel_entries xs n)) counts
    ∙ ap (λ m. and_then (row (entry xs (header n m)) 8 (first_entry n) m) (λ bs. Ok (cut (lengths set) bs))) (sum_lengths set)
    ∙ ap (λ v. and_then v (λ bs. Ok (cut (lengths set) bs))) entries
    ∙ ap Ok (cut_set set)

pub exactly_judged : (xs : List ℕ) → Exactly (Encodes xs) (verdict xs)
exactly_judged xs = record { only = judged xs; every = judged_so xs }
