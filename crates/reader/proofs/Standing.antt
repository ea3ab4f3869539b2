-- The table of places leads to every line of a recording.
use Rattle.std.proofs.Common.{◌≡◌, ℕ, zero, suc, ◌+◌, ◌-◌, ◌<◌, ◌≤◌, Bool, true, false, cond, eqb, leb, List, [], ◌∷◌, ◌++◌, length, get_or, drop, Some, None, Ok, Err, sym, refl, ap, ◌∙◌, subst, ⊎_elim, arith, length-append}
use Rattle.std.proofs.lemmas.List.{get_or_past, get_or_append_left, get_or-append_right, drop_more}
use Rattle.std.proofs.lemmas.Bool.{le-leb, lt-leb, eq-eqb, ne_eqb, cases_lt, cond-true, cond-false}
use Rattle.deck.specs.Tape.{TapeSet, nth, look}
use Rattle.records.specs.Layouts.{record_length, attributes}
use Rattle.records.specs.declared.header.Content.{Content}
use Rattle.records.specs.declared.layout.Layout.{Layout}
use Rattle.machine.specs.declared.machine.Group.{Group}
use Rattle.survey.specs.Placed.{Lain, Stood}
use Rattle.survey.specs.Recordings.{Line, Files, record_of, line_block, lines_from}
use Rattle.survey.specs.Validity.{body_length, Going, Begun, AllFit, all_lines}
use Rattle.reader.specs.Bodies.{body_of, body_at}
use Rattle.reader.specs.Finding.{spot, image_on, image_spot}
use Rattle.reader.specs.Pictured.{line_or}
use Rattle.reader.proofs.Proper.{Sized, sized_at, sized_fit}

-- Lines in a row.
pub nth_lines : (n : ℕ) (xs : List Line) (i : ℕ) → i < length xs → nth (lines_from n xs) i ≡ Some (line_block (n + i) (get_or xs i None))
nth_lines n [] i h = absurd (omega arith)
nth_lines n (x ∷ xs) zero h = let e : n ≡ n + 0 = omega arith in ap (λ k. Some (line_block k x)) e
nth_lines n (x ∷ xs) (suc i) h = let e : n + 1 + i ≡ n + suc i = omega arith in nth_lines (n + 1) xs i (omega arith) ∙ ap (λ k. Some (line_block k (get_or xs i None))) e

-- No image block is on the reels before the file.
skip : (k : ℕ) (through : List ℕ) (n reel : ℕ) → 1 ≤ k → ((i : ℕ) → i < n → get_or through i 0 ≡ 0) → image_on k 0 reel through ≡ image_on k 0 (reel + n) (drop n through)
skip k through zero reel h z = let e : reel ≡ reel + 0 = omega arith in ap (λ r. image_on k 0 r through) e
skip k [] (suc n) reel h z = refl
skip k (t ∷ through) (suc n) reel h z =
    let none : t ≡ 0 = z 0 (omega arith) in
    let e : reel + 1 + n ≡ reel + suc n = omega arith in
    cond-false (leb k t) _ _ (lt-leb k t (omega (arith, none)))
    ∙ ap (λ b. image_on k b (reel + 1) through) none
    ∙ skip k through n (reel + 1) h (λ i w. z (suc i) (omega arith))
    ∙ ap (λ r. image_on k 0 r (drop n through)) e

-- The block of an image block: on the header's reel behind the attributes file, else behind the directory's mark.
abbrev first_block : Group → Layout → ℕ → ℕ
first_block g l reel = cond (eqb reel g.header.reel) (g.header.block + attributes l + 1) 3

record Stands (tape : TapeSet) (g : Group) (l : Layout) (k before reel : ℕ) (through : List ℕ) (x : Line) : Type 0 where
  on_reel : ℕ
  nth-there : ℕ
  is : image_on k before reel through ≡ Some (spot on_reel nth-there)
  shows : look tape on_reel (cond (eqb on_reel g.header.reel) (g.header.block + attributes l + nth-there) (2 + nth-there)) ≡ Some (line_block k x)

module _ (tape : TapeSet) (g : Group) (l : Layout) (nine : length g.through ≡ 9) where
  abbrev all : List ℕ
  all = g.through

  block_is : (reel m : ℕ) → first_block g l reel + m ≡ cond (eqb reel g.header.reel) (g.header.block + attributes l + (m + 1)) (2 + (m + 1))
  block_is reel m = either (eqb reel g.header.reel)
    where
      either : (b : Bool) → cond b (g.header.block + attributes l + 1) 3 + m ≡ cond b (g.header.block + attributes l + (m + 1)) (2 + (m + 1))
      either true = omega arith
      either false = omega arith

  module _ (x : Line) (xs : List Line) (ps : List (List Line)) (reel n k : ℕ) (r : 1 ≤ reel) (la : Lain tape all reel (first_block g l reel) n ((x ∷ xs) ∷ ps)) (a : n < k) where
    abbrev p : List Line
    p = x ∷ xs

    -- The reel's own entry, and those behind it.
    entries : drop (reel - 1) all ≡ (n + length p) ∷ drop reel all
    entries =
        let full : get_or all (reel - 1) 0 ≡ n + length p = la.1.0 in
        let there : reel - 1 < length all =
        ⊎_elim
        (λ (h : reel - 1 < length all). h)
        (λ (h : length all ≤ reel - 1). let w = get_or_past all (reel - 1) 0 h in absurd (omega (arith, w, full)))
        (cases_lt (reel - 1) (length all)) in
        let next : reel - 1 + 1 ≡ reel = omega arith in
        drop_more all (reel - 1) 0 there ∙ ap (λ t. t ∷ drop (reel - 1 + 1) all) full ∙ ap (λ t. (n + length p) ∷ drop t all) next

    -- On this reel.
    near : k ≤ n + length p → Stands tape g l k n reel (drop (reel - 1) all) (get_or (all_lines (p ∷ ps)) (k - n - 1) None)
    near h =
        let i = k - n - 1 in
        let inside : i < length p = omega arith in
        let look_is = la.0 i inside ∙ nth_lines (n + 1) p i inside in
        let number : n + 1 + i ≡ k = omega arith in
        let off : i + 1 ≡ k - n = omega arith in
        let row : get_or (p ++ all_lines ps) i None ≡ get_or p i None = get_or_append_left p (all_lines ps) None i inside in record {
          on_reel = reel;
          nth-there = k - n;
          is = ap (image_on k n reel) entries ∙ cond-true (leb k (n + length p)) _ _ (le-leb k (n + length p) h);
          shows =
              ap (look tape reel) (sym (block_is reel i ∙ ap (λ m. cond (eqb reel g.header.reel) (g.header.block + attributes l + m) (2 + m)) off))
              ∙ look_is
              ∙ ap (λ m. Some (line_block m (get_or p i None))) number
              ∙ ap (λ y. Some (line_block k y)) (sym row);
        }

    -- On a later reel.
    far : n + length p < k → Stands tape g l k (n + length p) (reel + 1) (drop (reel + 1 - 1) all) (get_or (all_lines ps) (k - (n + length p) - 1) None) → Stands tape g l k n reel (drop (reel - 1) all) (get_or (all_lines (p ∷ ps)) (k - n - 1) None)
    far h s =
        let same : reel + 1 - 1 ≡ reel = omega arith in
        let index : k - n - 1 - length p ≡ k - (n + length p) - 1 = omega arith in
        let row : get_or (p ++ all_lines ps) (k - n - 1) None ≡ get_or (all_lines ps) (k - (n + length p) - 1) None = get_or-append_right p (all_lines ps) (length p) (k - n - 1) None refl (omega arith) ∙ ap (λ m. get_or (all_lines ps) m None) index in record {
          on_reel = s.on_reel;
          nth-there = s.nth-there;
          is = ap (image_on k n reel) entries ∙ cond-false (leb k (n + length p)) _ _ (lt-leb k (n + length p) h) ∙ ap (λ m. image_on k (n + length p) (reel + 1) (drop m all)) (sym same) ∙ s.is;
          shows = s.shows ∙ ap (λ y. Some (line_block k y)) (sym row);
        }

  image_stands : (ps : List (List Line)) (p : List Line) (reel n k : ℕ) → 1 ≤ reel → g.header.reel ≤ reel → Going (p ∷ ps) → Lain tape all reel (first_block g l reel) n (p ∷ ps) → n < k → k ≤ n + length (all_lines (p ∷ ps)) → Stands tape g l k n reel (drop (reel - 1) all) (get_or (all_lines (p ∷ ps)) (k - n - 1) None)
  image_stands [] [] reel n k r hr go la a b = absurd (omega (arith, b))
  image_stands (q ∷ ps) [] reel n k r hr go la a b = absurd go
  image_stands [] (x ∷ xs) reel n k r hr go la a b = let joint = length-append (x ∷ xs) [] in near x xs [] reel n k r la a (omega (arith, b, joint))
  image_stands (q ∷ ps) (x ∷ xs) reel n k r hr go la a b =
      let joint = length-append (x ∷ xs) (all_lines (q ∷ ps)) in
      let third : 3 ≡ first_block g l (reel + 1) = sym (cond-false (eqb (reel + 1) g.header.reel) (g.header.block + attributes l + 1) 3 (ne_eqb (reel + 1) g.header.reel (λ e. omega (arith, hr)))) in
      let rest = subst (λ m. Lain tape all (reel + 1) m (n + length (x ∷ xs)) (q ∷ ps)) third la.1.1 in
      ⊎_elim
      (λ (h : n + length (x ∷ xs) < k). far x xs (q ∷ ps) reel n k r la a h (image_stands ps q (reel + 1) (n + length (x ∷ xs)) k (omega arith) (omega (arith, hr)) go rest h (omega (arith, b, joint))))
      (λ (h : k ≤ n + length (x ∷ xs)). near x xs (q ∷ ps) reel n k r la a h)
      (cases_lt (n + length (x ∷ xs)) k)

going_of : (ps : List (List Line)) → Begun ps → Going ps
going_of [] b = absurd b
going_of ([] ∷ ps) b = absurd b
going_of ((x ∷ xs) ∷ []) b = tt
going_of ((x ∷ xs) ∷ (q ∷ ps)) b = b

-- A line that can be read is whole.
line_read : (l : Layout) (k : ℕ) (x : Line) → 6 ≤ record_length l.form → Sized (body_length l) x → body_of (record_length l.form) (Some (line_block k x)) ≡ line_or x
line_read l k (Some body) h s = cond-true (eqb (length (record_of k 237 body)) (record_length l.form)) (Ok body) (Err 46) (eq-eqb (length (record_of k 237 body)) (record_length l.form) (omega (arith, s)))
line_read l k None h s = refl

-- Image block k of a group.
pub line_stands : (tape : TapeSet) (l : Layout) (f : Files) (g : Group) (c : Content) (k : ℕ) → 6 ≤ record_length l.form → Stood tape l f g → Begun f.parts → AllFit l c 0 (all_lines f.parts) → 1 ≤ k → k ≤ length (all_lines f.parts) → body_at tape (image_spot g l (image_on k 0 1 g.through)) (record_length l.form) ≡ line_or (get_or (all_lines f.parts) (k - 1) None)
line_stands tape l f g c k six st begun fits a b = by_parts f.parts refl
  where
    by_parts : (ps : List (List Line)) → ps ≡ f.parts → body_at tape (image_spot g l (image_on k 0 1 g.through)) (record_length l.form) ≡ line_or (get_or (all_lines f.parts) (k - 1) None)
    by_parts [] e = let w = ap (λ ps. length (all_lines ps)) e in absurd (omega (arith, w, b))
    by_parts (p ∷ ps) e =
        let reel = g.header.reel in
        let r = st.first_reel in
        let own : g.header.block + attributes l + 1 ≡ first_block g l reel = sym (cond-true (eqb reel reel) (g.header.block + attributes l + 1) 3 (eq-eqb reel reel refl)) in
        let la = subst (λ m. Lain tape g.through reel m 0 (p ∷ ps)) own (subst (λ y. Lain tape g.through reel (g.header.block + attributes l + 1) 0 y) (sym e) st.lines_lie) in
        let go = going_of (p ∷ ps) (subst Begun (sym e) begun) in
        let long = ap (λ y. length (all_lines y)) e in
        let s = image_stands tape g l st.nine ps p reel 0 k r (omega arith) go la (omega arith) (omega (arith, b, long)) in
        let from : 1 + (reel - 1) ≡ reel = omega (arith, r) in
        let skipped = skip k g.through (reel - 1) 1 a (λ i h. st.before_it i h) ∙ ap (λ m. image_on k 0 m (drop (reel - 1) g.through)) from in
        let index : k - 0 - 1 ≡ k - 1 = omega arith in
        let x = get_or (all_lines f.parts) (k - 1) None in
        let line_is : get_or (all_lines (p ∷ ps)) (k - 0 - 1) None ≡ x = ap (λ m. get_or (all_lines (p ∷ ps)) m None) index ∙ ap (λ y. get_or (all_lines y) (k - 1) None) e in
        ap (λ o. body_at tape (image_spot g l o) (record_length l.form)) (skipped ∙ s.is)
        ∙ ap (body_of (record_length l.form)) (s.shows ∙ ap (λ y. Some (line_block k y)) line_is)
        ∙ line_read l k x six (sized_at (body_length l) (k - 1) (all_lines f.parts) (sized_fit l c 0 (all_lines f.parts) fits))
