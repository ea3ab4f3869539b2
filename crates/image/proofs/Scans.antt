-- What a scan of a strip keeps from word to word.
use Rattle.std.proofs.Common.{◌≡◌, ℕ, zero, suc, ◌+◌, ◌<◌, ◌≤◌, List, [], ◌∷◌, ◌++◌, length, take, drop, Some, None, Ok, Err, Option, sym, refl, ap, ◌∙◌, subst, arith, lit≤, length-append, length-drop, length-take}
use Rattle.std.specs.List.{flat_map}
use Rattle.std.proofs.lemmas.List.{drop-drop}
use Rattle.deck.specs.Tape.{Reel, TapeSet}
use Rattle.image.specs.Stored.{Verdict, set_of, block}
use Rattle.image.specs.Strip.{block_bytes, encoded, size, next, follow, judge, verdict, meant}
use Rattle.image.specs.Chart.{span, spans, Charts}
use Rattle.image.specs.Scan.{Scanned}
use Rattle.image.specs.declared.chart.Span.{Span}
use Rattle.deck.specs.declared.Kind.{Kind}
use Rattle.deck.specs.declared.Kind.TheVariants.{Record, Mark, Bad}
use Rattle.image.specs.declared.next.Next.{Next}
use Rattle.image.specs.declared.next.Next.TheVariants.{ReelEnds, Holds}
use Rattle.image.proofs.Charts.{spans_more, spans_length}
use Rattle.image.proofs.Words.{Bytes}
use Rattle.image.proofs.Strips.{ends, held, Closed, encoded_more, blocks_more, judged_spells}

-- Some reels and blocks of the next have been read, and what is left decides.
pub record Going (xs : List ℕ) (chart : List Span) (start blocks at : ℕ) : Type 0 where
  pub reels : TapeSet
  pub reel : Reel
  pub words : ℕ
  pub enough : length xs < at + words
  pub inside : at ≤ length xs
  pub judged : judge words reels reel at (drop at xs) ≡ verdict xs
  pub begins : start ≡ length (encoded reels)
  pub here : at ≡ start + length (flat_map block_bytes reel)
  pub counted : blocks ≡ length reel
  pub charted : Charts reels chart

pub going_start : (xs : List ℕ) → Going xs [] 0 0 0
going_start xs = record {
  reels = [];
  reel = [];
  words = length xs + 1;
  enough = omega arith;
  inside = omega arith;
  judged = refl;
  begins = refl;
  here = refl;
  counted = refl;
  charted = refl;
}

-- One word more is read.
unrolled : (xs : List ℕ) (reels : TapeSet) (reel : Reel) (at words : ℕ) (v : Verdict (Option Next)) → length xs < at + words → at ≤ length xs → judge words reels reel at (drop at xs) ≡ verdict xs → next at (length reels) (length reel) (drop at xs) ≡ v → (left : ℕ) × (words ≡ suc left) × (follow (judge left) reels reel at (drop at xs) v ≡ verdict xs)
unrolled xs reels reel at zero v enough inside judged n = absurd (omega arith)
unrolled xs reels reel at (suc words) v enough inside judged n = (words, refl, ap (follow (judge words) reels reel at (drop at xs)) (sym n) ∙ judged)

-- The word that is read, at the counts that the code has.
at_counts : (xs : List ℕ) (chart : List Span) (start blocks at n : ℕ) (v : Verdict (Option Next)) → n ≡ length chart → (g : Going xs chart start blocks at) → next at n blocks (drop at xs) ≡ v → next at (length g.reels) (length g.reel) (drop at xs) ≡ v
at_counts xs chart start blocks at n v many g h = subst (λ m. next at (length g.reels) m (drop at xs) ≡ v) g.counted (subst (λ m. next at m blocks (drop at xs) ≡ v) (many ∙ ap length g.charted ∙ spans_length 0 g.reels) h)

pub going_refused : (xs : List ℕ) (chart : List Span) (start blocks at n : ℕ) (e : ℕ × ℕ) → n ≡ length chart → Going xs chart start blocks at → next at n blocks (drop at xs) ≡ Err e → verdict xs ≡ Err e
going_refused xs chart start blocks at n e many g h =
    let u = unrolled xs g.reels g.reel at g.words (Err e) g.enough g.inside g.judged (at_counts xs chart start blocks at n (Err e) many g h) in
    sym u.2

pub going_finished : (xs : List ℕ) (chart : List Span) (start blocks at n : ℕ) → Bytes xs → n ≡ length chart → Going xs chart start blocks at → next at n blocks (drop at xs) ≡ Ok None → Scanned xs chart
going_finished xs chart start blocks at n b many g h =
    let u = unrolled xs g.reels g.reel at g.words (Ok None) g.enough g.inside g.judged (at_counts xs chart start blocks at n (Ok None) many g h) in
    let is : verdict xs ≡ Ok g.reels = sym u.2 in
    let meant_is : meant xs ≡ g.reels = ap set_of is in
    record {
      reads = record { judged = is ∙ ap Ok (sym meant_is); spells = ap encoded meant_is ∙ judged_spells xs g.reels b is };
      charted = g.charted ∙ ap (spans 0) (sym meant_is);
    }

pub going_ends : (xs : List ℕ) (chart : List Span) (start blocks at n : ℕ) → n ≡ length chart → Going xs chart start blocks at → next at n blocks (drop at xs) ≡ Ok (Some ReelEnds) → Going xs (chart ++ span start blocks ∷ []) (at + 4) 0 (at + 4)
going_ends xs chart start blocks at n many g h =
    let h' = at_counts xs chart start blocks at n (Ok (Some ReelEnds)) many g h in
    let u = unrolled xs g.reels g.reel at g.words (Ok (Some ReelEnds)) g.enough g.inside g.judged h' in
    let e = ends at (length g.reels) (length g.reel) (drop at xs) h' in
    let more : length (encoded (g.reels ++ g.reel ∷ [])) ≡ length (encoded g.reels) + (length (flat_map block_bytes g.reel) + 4) = ap length (encoded_more g.reels g.reel) ∙ simp length-append in
    record {
      reels = g.reels ++ g.reel ∷ [];
      reel = [];
      words = u.0;
      enough = omega (arith, g.enough, u.1);
      inside = omega (arith, e.1, length-drop at xs);
      judged = ap (judge u.0 (g.reels ++ g.reel ∷ []) [] (at + 4)) (sym (drop-drop 4 at xs)) ∙ u.2;
      begins = omega (arith, more, g.begins, g.here);
      here = omega arith;
      counted = refl;
      charted =
          ap (λ t. t ++ span start blocks ∷ []) g.charted
          ∙ ap (λ s. spans 0 g.reels ++ span s blocks ∷ []) (omega (arith, g.begins))
          ∙ ap (λ m. spans 0 g.reels ++ span (0 + length (encoded g.reels)) m ∷ []) g.counted
          ∙ sym (spans_more 0 g.reels g.reel);
    }

pub size_some : (s : Kind ℕ) → 1 ≤ size s
size_some (Record n) = omega arith
size_some Mark = lit≤ tt
size_some Bad = lit≤ tt

pub size_inside : (s : Kind ℕ) (xs : List ℕ) → 4 ≤ length xs → Closed s xs → size s ≤ length xs
size_inside (Record n) xs l h = h.0
size_inside Mark xs l h = l
size_inside Bad xs l h = l

pub block-length : (s : Kind ℕ) (xs : List ℕ) → Closed s xs → length (block_bytes (block s (drop 4 xs))) ≡ size s
block-length (Record n) xs c =
    let long : length (take n (drop 4 xs)) ≡ n = simp (length-take, length-drop) (omega (arith, c.0)) in
    simp length-append (omega (arith, long))
block-length Mark xs c = refl
block-length Bad xs c = refl

pub going_holds : (xs : List ℕ) (chart : List Span) (start blocks at n : ℕ) (s : Kind ℕ) → n ≡ length chart → Going xs chart start blocks at → next at n blocks (drop at xs) ≡ Ok (Some (Holds s)) → Going xs chart start (blocks + 1) (at + size s)
going_holds xs chart start blocks at n s many g h =
    let h' = at_counts xs chart start blocks at n (Ok (Some (Holds s))) many g h in
    let u = unrolled xs g.reels g.reel at g.words (Ok (Some (Holds s))) g.enough g.inside g.judged h' in
    let is = held at (length g.reels) (length g.reel) (drop at xs) s h' in
    let b = block s (drop 4 (drop at xs)) in
    let fits = size_inside s (drop at xs) is.whole is.closing in
    record {
      reels = g.reels;
      reel = g.reel ++ b ∷ [];
      words = u.0;
      enough = omega (arith, g.enough, u.1, size_some s);
      inside = omega (arith, fits, length-drop at xs);
      judged = ap (judge u.0 g.reels (g.reel ++ b ∷ []) (at + size s)) (sym (drop-drop (size s) at xs)) ∙ u.2;
      begins = g.begins;
      here = omega (arith, g.here, simp length-append at (ap length (blocks_more g.reel b)), block-length s (drop at xs) is.closing);
      counted = ap (λ m. m + 1) g.counted ∙ sym (length-append g.reel (b ∷ []));
      charted = g.charted;
    }
