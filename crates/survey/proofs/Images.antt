-- The machine over the parts of an image file.
use Rattle.std.proofs.Common.{◌≡◌, ℕ, ◌+◌, ◌-◌, ◌<◌, ◌≤◌, ltb, List, [], ◌∷◌, ◌++◌, length, get_or, Some, None, Ok, Err, Result, sym, refl, ap, ◌∙◌, subst, append_assoc, arith, length-append, length-set}
use Rattle.std.proofs.lemmas.List.{get_or-set_same, get_or-set_other}
use Rattle.std.proofs.lemmas.Bool.{lt-ltb, cond-true}
use Rattle.deck.specs.Tape.{written, mark, Reel, TapeSet, nth, look}
use Rattle.machine.specs.Machines.{step, one_more, on_first_trailer}
use Rattle.survey.specs.Surveys.{Fault}
use Rattle.machine.specs.Findings.{place_of}
use Rattle.records.specs.declared.bands.Bands.{Bands}
use Rattle.records.specs.declared.layout.Layout.{Layout}
use Rattle.machine.specs.declared.machine.Expect.{Expect}
use Rattle.machine.specs.declared.machine.Expect.TheVariants as expects
use Rattle.machine.specs.declared.machine.Group.{Group}
use Rattle.machine.specs.declared.machine.Machine.{Machine}
use Rattle.machine.specs.declared.machine.Onward.TheVariants as onwards
use Rattle.machine.specs.declared.machine.Place.{Place}
use Rattle.survey.specs.Recordings.{Body, Line, record_of, line_block, lines_from, part, before, image_file, closing, bound}
use Rattle.survey.specs.Validity.{Going, AllFit, all_lines}
use Rattle.survey.specs.Placed.{Lain}
use Rattle.survey.proofs.Running.{On, onward, moved, before-blocks, nth-front}
use Rattle.survey.proofs.Stretches.{hd, tl, hd_before, tl_before, before_nil, length_image, closing-before}
use Rattle.survey.proofs.Steps.{machine, lined, most, line_step, line-passes, lines_run}
use Rattle.survey.proofs.Reels.{next_stretch}

-- What a group keeps while its lines are read.
pub record Kept (g h : Group) : Type 0 where
  pub content : h.content ≡ g.content
  pub trailers : h.trailers ≡ g.trailers
  pub header : h.header ≡ g.header
  pub nine : length h.through ≡ length g.through

kept_self : (g : Group) → Kept g g
kept_self g = record { content = refl; trailers = refl; header = refl; nine = refl }

kept_both : (g h k : Group) → Kept g h → Kept h k → Kept g k
kept_both g h k p q = record { content = q.content ∙ p.content; trailers = q.trailers ∙ p.trailers; header = q.header ∙ p.header; nine = q.nine ∙ p.nine }

-- A part's lines in the group.
lined_kept : (g : Group) (reel : ℕ) (xs : List Line) → Kept g (lined g reel xs)
lined_kept g reel [] = kept_self g
lined_kept g reel (x ∷ xs) =
    let rest = lined_kept (one_more g reel) reel xs in
    record { content = rest.content; trailers = rest.trailers; header = rest.header; nine = rest.nine ∙ length-set g.through (reel - 1) (g.blocks + 1) }

lined_blocks : (g : Group) (reel : ℕ) (xs : List Line) → (lined g reel xs).blocks ≡ g.blocks + length xs
lined_blocks g reel [] = omega arith
lined_blocks g reel (x ∷ xs) = let rest = lined_blocks (one_more g reel) reel xs in omega (arith, rest)

lined_other : (g : Group) (reel : ℕ) (xs : List Line) (i : ℕ) → (i ≡ reel - 1 → ⊥) → get_or (lined g reel xs).through i 0 ≡ get_or g.through i 0
lined_other g reel [] i h = refl
lined_other g reel (x ∷ xs) i h = lined_other (one_more g reel) reel xs i h ∙ get_or-set_other g.through (reel - 1) i (g.blocks + 1) 0 h

lined_same : (g : Group) (reel : ℕ) (x : Line) (xs : List Line) → reel - 1 < length g.through → get_or (lined g reel (x ∷ xs)).through (reel - 1) 0 ≡ g.blocks + length (x ∷ xs)
lined_same g reel x [] h = get_or-set_same g.through (reel - 1) (g.blocks + 1) 0 h ∙ omega arith
lined_same g reel x (y ∷ ys) h =
    let long = length-set g.through (reel - 1) (g.blocks + 1) in
    let rest = lined_same (one_more g reel) reel y ys (omega (arith, long)) in
    omega (arith, rest)

length_lines : (n : ℕ) (xs : List Line) → length (lines_from n xs) ≡ length xs
length_lines n [] = refl
length_lines n (x ∷ xs) = let rest = length_lines (n + 1) xs in omega (arith, rest)

fit_front : (l : Layout) (c : _) (i : ℕ) (xs ys : List Line) → AllFit l c i (xs ++ ys) → AllFit l c i xs
fit_front l c i [] ys a = tt
fit_front l c i (x ∷ xs) ys a = (a.0, fit_front l c (i + 1) xs ys a.1)

fit_back : (l : Layout) (c : _) (i : ℕ) (xs ys : List Line) → AllFit l c i (xs ++ ys) → AllFit l c (i + length xs) ys
fit_back l c i [] ys a = subst (λ k. AllFit l c k ys) (omega arith) a
fit_back l c i (x ∷ xs) ys a = subst (λ k. AllFit l c k ys) (omega arith) (fit_back l c (i + 1) xs ys a.1)

module _ (set : TapeSet) (z : Result Machine Fault) (many : ℕ) (d : Body) (l : Layout) (whole : length d ≡ 354) (c : ℕ) (t : List Group) (b : Bands) (behind : List Reel) (more : 1 ≤ length behind) where
  abbrev at : Expect → Group → Machine
  at e g = machine many (record_of 1 9 d) l e g c t b

  -- A place from which an image file begins or goes on.
  abbrev pub Opens : Expect → Type 0
  Opens e = (g : Group) (p : Place) (n : ℕ) (x : Line) → step (at e g) p (Some (line_block n x)) ≡ line_step set z many (record_of 1 9 d) l (at e g) p n x

  pub first_opens : Opens expects.FirstImage
  first_opens g p n (Some body) = refl
  first_opens g p n None = refl

  resumed_opens : Opens expects.Resumed
  resumed_opens g p n (Some body) = refl
  resumed_opens g p n None = refl

  -- A place at which the first trailer may come.
  abbrev pub Ready : Expect → Type 0
  Ready e = (g : Group) (p : Place) (n : ℕ) (body : Body) → step (at e g) p (Some (written (record_of n 246 body))) ≡ on_first_trailer (at e g) p (record_of n 246 body)

  -- The image file is read.
  pub record Imaged (g : Group) (reel block : ℕ) (ps : List (List Line)) : Type 0 where
    pub expect : Expect
    pub ready : Ready expect
    pub group : Group
    pub reel_then : ℕ
    pub block-then : ℕ
    pub on : On set z (at expect group) reel_then block-then (hd behind ++ closing reel_then many) (bound d many (reel_then + 1) (tl behind))
    pub on_reel : 1 ≤ reel_then
    pub reels_left : reel_then + length (tl behind) ≡ many
    pub kept : Kept g group
    pub blocks : group.blocks ≡ g.blocks + length (all_lines ps)
    pub before_it : (i : ℕ) → i < reel - 1 → get_or group.through i 0 ≡ get_or g.through i 0
    pub lain : Lain set group.through reel block g.blocks ps

  -- A part with its mark.
  part_run : (e : Expect) → Opens e → (x : Line) (xs : List Line) (g : Group) (reel block : ℕ) (rest : Reel) (rs : TapeSet) → AllFit l g.content g.blocks (x ∷ xs) → g.blocks + length (x ∷ xs) ≤ most set z many (record_of 1 9 d) l → On set z (at e g) reel block (lines_from (g.blocks + 1) (x ∷ xs) ++ mark ∷ rest) rs → On set z (at expects.BehindImage (lined g reel (x ∷ xs))) reel (block + length (x ∷ xs) + 1) rest rs
  part_run e opens x xs g reel block rest rs a f o =
      let stepped = opens g (place_of reel block) (g.blocks + 1) x ∙ line-passes set z many (record_of 1 9 d) l e g c t b (place_of reel block) x (omega (arith, f)) a.0 in
      let p = onward set z (at e g) (at expects.Image (one_more g reel)) reel block (line_block (g.blocks + 1) x) (lines_from (g.blocks + 1 + 1) xs ++ mark ∷ rest) rs o stepped in
      let q = lines_run set z many (record_of 1 9 d) l xs (one_more g reel) c t b reel (block + 1) (mark ∷ rest) rs a.1 (omega (arith, f)) p in
      moved (omega arith) (onward set z (at expects.Image (lined g reel (x ∷ xs))) (at expects.BehindImage (lined g reel (x ∷ xs))) reel (block + 1 + length xs) mark rest rs q refl)

  -- Its lines where they lie.
  part_lies : (m : Machine) (n : ℕ) (xs : List Line) (reel block : ℕ) (rest : Reel) (rs : TapeSet) → On set z m reel block (lines_from n xs ++ rest) rs → (i : ℕ) → i < length xs → look set reel (block + i) ≡ nth (lines_from n xs) i
  part_lies m n xs reel block rest rs o i h = let long = length_lines n xs in o.here i ∙ nth-front (lines_from n xs) rest i (omega (arith, long))

  -- One part more in front of a file that is read.
  with_part : (x : Line) (xs : List Line) (g : Group) (reel block : ℕ) (ps : List (List Line)) → 1 ≤ reel → reel ≤ length g.through → ((i : ℕ) → i < length (x ∷ xs) → look set reel (block + i) ≡ nth (lines_from (g.blocks + 1) (x ∷ xs)) i) → Imaged (lined g reel (x ∷ xs)) (reel + 1) 3 ps → Imaged g reel block ((x ∷ xs) ∷ ps)
  with_part x xs g reel block ps h r lies f =
      let long = lined_blocks g reel (x ∷ xs) in
      let joint = length-append (x ∷ xs) (all_lines ps) in record {
        expect = f.expect;
        ready = f.ready;
        group = f.group;
        reel_then = f.reel_then;
        block-then = f.block-then;
        on = f.on;
        on_reel = f.on_reel;
        reels_left = f.reels_left;
        kept = kept_both g (lined g reel (x ∷ xs)) f.group (lined_kept g reel (x ∷ xs)) f.kept;
        blocks = omega (arith, f.blocks, long, joint);
        before_it = λ i k. f.before_it i (omega arith) ∙ lined_other g reel (x ∷ xs) i (λ e. omega arith);
        lain = (
          lies,
          (
            f.before_it (reel - 1) (omega arith) ∙ lined_same g reel x xs (omega arith),
            subst (λ k. Lain set f.group.through (reel + 1) 3 k ps) long f.lain,
          ),
        );
      }

  -- Where an image file goes on, or has ended with the reel before.
  resumed : (q : List Line) (qs : List (List Line)) (g : Group) (reel : ℕ) → ((x : Line) (xs : List Line) → Going qs → AllFit l g.content g.blocks (all_lines ((x ∷ xs) ∷ qs)) → g.blocks + length (all_lines ((x ∷ xs) ∷ qs)) ≤ most set z many (record_of 1 9 d) l → 1 ≤ reel → reel + length qs + length (tl behind) ≡ many → many ≤ length g.through → On set z (at expects.Resumed g) reel 3 (hd (image_file (g.blocks + 1) ((x ∷ xs) ∷ qs) behind) ++ closing reel many) (bound d many (reel + 1) (tl (image_file (g.blocks + 1) ((x ∷ xs) ∷ qs) behind))) → Imaged g reel 3 ((x ∷ xs) ∷ qs)) → Going (q ∷ qs) → AllFit l g.content g.blocks (all_lines (q ∷ qs)) → g.blocks + length (all_lines (q ∷ qs)) ≤ most set z many (record_of 1 9 d) l → 1 ≤ reel → reel + length qs + length (tl behind) ≡ many → many ≤ length g.through → On set z (at expects.Resumed g) reel 3 (hd (image_file (g.blocks + 1) (q ∷ qs) behind) ++ closing reel many) (bound d many (reel + 1) (tl (image_file (g.blocks + 1) (q ∷ qs) behind))) → Imaged g reel 3 (q ∷ qs)
  resumed [] [] g reel again going a f h left nine o = record {
    expect = expects.Resumed;
    ready = λ g p n body. refl;
    group = g;
    reel_then = reel;
    block-then = 3;
    on = subst (λ k. On set z (at expects.Resumed g) reel 3 (hd k ++ closing reel many) (bound d many (reel + 1) (tl k))) (before_nil behind more) o;
    on_reel = h;
    reels_left = omega (arith, left);
    kept = kept_self g;
    blocks = omega arith;
    before_it = λ i k. refl;
    lain = (λ i k. absurd (omega arith), (tt, tt));
  }
  resumed [] (q ∷ qs) g reel again going a f h left nine o = absurd going
  resumed (x ∷ xs) [] g reel again going a f h left nine o = again x xs tt a f h left nine o
  resumed (x ∷ xs) (q ∷ qs) g reel again going a f h left nine o = again x xs going a f h left nine o

  pub full_run : (ps : List (List Line)) (x : Line) (xs : List Line) (e : Expect) → Opens e → (g : Group) (reel block : ℕ) → Going ps → AllFit l g.content g.blocks (all_lines ((x ∷ xs) ∷ ps)) → g.blocks + length (all_lines ((x ∷ xs) ∷ ps)) ≤ most set z many (record_of 1 9 d) l → 1 ≤ reel → reel + length ps + length (tl behind) ≡ many → many ≤ length g.through → On set z (at e g) reel block (hd (image_file (g.blocks + 1) ((x ∷ xs) ∷ ps) behind) ++ closing reel many) (bound d many (reel + 1) (tl (image_file (g.blocks + 1) ((x ∷ xs) ∷ ps) behind))) → Imaged g reel block ((x ∷ xs) ∷ ps)
  full_run [] x xs e opens g reel block going a f h left nine o =
      let n = g.blocks + 1 in
      let joint = length-append (x ∷ xs) [] in
      let blocks = ap (λ k. k ++ closing reel many) (hd_before (part n (x ∷ xs)) behind) ∙ append_assoc (part n (x ∷ xs)) (hd behind) (closing reel many) ∙ append_assoc (lines_from n (x ∷ xs)) (mark ∷ []) (hd behind ++ closing reel many) in
      let p = before-blocks blocks (subst (λ k. On set z (at e g) reel block (hd (before (part n (x ∷ xs)) behind) ++ closing reel many) (bound d many (reel + 1) k)) (tl_before (part n (x ∷ xs)) behind) o) in
      let fits = fit_front l g.content g.blocks (x ∷ xs) [] a in
      let q = part_run e opens x xs g reel block (hd behind ++ closing reel many) (bound d many (reel + 1) (tl behind)) fits (omega (arith, f, joint)) p in record {
        expect = expects.BehindImage;
        ready = λ g p n body. refl;
        group = lined g reel (x ∷ xs);
        reel_then = reel;
        block-then = block + length (x ∷ xs) + 1;
        on = q;
        on_reel = h;
        reels_left = omega (arith, left);
        kept = lined_kept g reel (x ∷ xs);
        blocks = let long = lined_blocks g reel (x ∷ xs) in omega (arith, long, joint);
        before_it = λ i k. lined_other g reel (x ∷ xs) i (λ e. omega arith);
        lain = (part_lies (at e g) n (x ∷ xs) reel block (mark ∷ (hd behind ++ closing reel many)) (bound d many (reel + 1) (tl behind)) p, (lined_same g reel x xs (omega (arith, left, nine)), tt));
      }
  full_run (q ∷ qs) x xs e opens g reel block going a f h left nine o =
      let n = g.blocks + 1 in
      let ss = image_file (n + length (x ∷ xs)) (q ∷ qs) behind in
      let joint = length-append (x ∷ xs) (all_lines (q ∷ qs)) in
      let file = lined g reel (x ∷ xs) in
      let long = lined_blocks g reel (x ∷ xs) in
      let kept = lined_kept g reel (x ∷ xs) in
      let under : reel < many = omega (arith, left) in
      let blocks = ap (λ k. part n (x ∷ xs) ++ k) (closing-before reel many under) ∙ append_assoc (lines_from n (x ∷ xs)) (mark ∷ []) (mark ∷ []) in
      let p = before-blocks blocks o in
      let fits = fit_front l g.content g.blocks (x ∷ xs) (all_lines (q ∷ qs)) a in
      let lies = part_lies (at e g) n (x ∷ xs) reel block (mark ∷ mark ∷ []) (bound d many (reel + 1) ss) p in
      let r = part_run e opens x xs g reel block (mark ∷ []) (bound d many (reel + 1) ss) fits (omega (arith, f, joint)) p in
      let ended : step (at expects.BehindImage file) (place_of reel (block + length (x ∷ xs) + 1)) (Some mark) ≡ Ok (at (expects.End (Some onwards.Image)) file) = cond-true (ltb reel many) (Ok (at (expects.End (Some onwards.Image)) file)) (Err 37) (lt-ltb reel many under) in
      let s = onward set z (at expects.BehindImage file) (at (expects.End (Some onwards.Image)) file) reel (block + length (x ∷ xs) + 1) mark [] (bound d many (reel + 1) ss) r ended in
      let some : 1 ≤ length ss = let k = length_image (n + length (x ∷ xs)) q qs behind more in omega (arith, k, more) in
      let u = next_stretch set z many d l whole (Some onwards.Image) file c t b reel (block + length (x ∷ xs) + 1 + 1) ss h some s in
      let number : n + length (x ∷ xs) ≡ file.blocks + 1 = omega (arith, long) in
      let v = subst (λ k. On set z (at expects.Resumed file) (reel + 1) 3 (hd (image_file k (q ∷ qs) behind) ++ closing (reel + 1) many) (bound d many (reel + 1 + 1) (tl (image_file k (q ∷ qs) behind)))) number u in
      let rest_fits = subst (λ k. AllFit l file.content k (all_lines (q ∷ qs))) (sym long) (subst (λ k. AllFit l k (g.blocks + length (x ∷ xs)) (all_lines (q ∷ qs))) (sym kept.content) (fit_back l g.content g.blocks (x ∷ xs) (all_lines (q ∷ qs)) a)) in
      with_part x xs g reel block (q ∷ qs) h (omega (arith, under, nine)) lies
      (resumed q qs file (reel + 1) (λ y ys. full_run qs y ys expects.Resumed resumed_opens file (reel + 1) 3) going rest_fits (omega (arith, long, f, joint)) (omega arith) (omega (arith, left)) (subst (λ k. many ≤ k) (sym kept.nine) nine) v)
