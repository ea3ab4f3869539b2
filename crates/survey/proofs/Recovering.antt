-- From a run that was accepted, what a writer wrote: step by step, from the end.
use Rattle.std.proofs.Common.{◌≡◌, ℕ, ◌+◌, ◌*◌, ◌/◌, ◌%◌, ◌<◌, ◌≤◌, Bool, true, false, cond, ◌&&◌, eqb, leb, ◌⊎◌, List, [], ◌∷◌, ◌++◌, length, drop, None, sym, refl, ap, ◌∙◌, subst, inl, inr, ⊎_elim, arith}
use Rattle.std.proofs.lemmas.List.{nil_from_length}
use Rattle.std.proofs.lemmas.Bool.{leb-true, leb-false, eqb-true, and_parts, or_cases}
use Rattle.deck.specs.Tape.{Block, written, mark, Reel, TapeSet}
use Rattle.records.specs.Headers.{trailers_fit}
use Rattle.records.specs.Layouts.{record_length, ancillaries}
use Rattle.records.specs.Records.{byte, checked}
use Rattle.records.specs.declared.header.Header.{Header}
use Rattle.records.specs.declared.layout.Form.{Form}
use Rattle.records.specs.declared.layout.Form.TheVariants.{Interleaved, Sequential, Vidicon}
use Rattle.records.specs.declared.layout.Layout.{Layout}
use Rattle.machine.specs.Machines.{fresh, band_of, one_more, most_blocks, trailed, lines_agree}
use Rattle.machine.specs.declared.machine.Group.{Group}
use Rattle.machine.specs.declared.machine.Place.{Place}
use Rattle.survey.specs.Recordings.{Body, Line, Files, record_of, numbered, line_block, before, image_file, trailer_file, closes, stretches, directory_on, closing}
use Rattle.survey.specs.Validity.{content, header_record, Going, Fit, AllFit, all_lines, width, bands_wide, ValidFiles, ValidGroups}
use Rattle.survey.proofs.Passing.{Spelt, spells}
use Rattle.survey.proofs.Stretches.{before_nil}
use Rattle.survey.proofs.Steps.{six}
use Rattle.survey.proofs.Groups.{files}
use Rattle.survey.proofs.Rests as rests
use Rattle.survey.proofs.Rests.{open_file, behind-part, before_cons, open_more, open_over, open_file_is}
use Rattle.survey.proofs.Inverse.{Headed}

-- Lines are whole.
divides : (b : Bool) (n : ℕ) → n % cond b 5 4 ≡ 0 → n ≡ (n / cond b 5 4) * cond b 5 4
divides true n e = omega (arith, e)
divides false n e = omega (arith, e)

pub record WholeLines (f : Form) (mission n : ℕ) : Type 0 where
  pub lines : ℕ
  pub full : n ≡ lines * width f (cond (eqb mission 3) 5 4)
  pub some : 1 ≤ lines
  pub few : lines ≤ 8192

quotient_some : (b : Bool) (n : ℕ) → n % cond b 5 4 ≡ 0 → 1 ≤ n → 1 ≤ n / cond b 5 4
quotient_some true n e h = omega (arith, e)
quotient_some false n e h = omega (arith, e)

quotient_few : (b : Bool) (n : ℕ) → n ≤ 8192 * cond b 5 4 → n / cond b 5 4 ≤ 8192
quotient_few true n h = omega arith
quotient_few false n h = omega arith

pub whole_lines : (f : Form) (mission c first n : ℕ) → lines_agree f (cond (eqb mission 3) 5 4) c first n ≡ true → 1 ≤ n → n ≤ most_blocks f (cond (eqb mission 3) 5 4) → WholeLines f mission n
whole_lines Interleaved mission c first n e h k =
    let z = eqb-true (n % cond (eqb mission 3) 5 4) 0 e in
    record { lines = n / cond (eqb mission 3) 5 4; full = divides (eqb mission 3) n z; some = quotient_some (eqb mission 3) n z h; few = quotient_few (eqb mission 3) n k }
whole_lines Sequential mission c first n e h k = record { lines = n; full = omega arith; some = h; few = k }
whole_lines Vidicon mission c first n e h k = record { lines = n; full = omega arith; some = h; few = k }

pub agreed : (f : Form) (bands c first n : ℕ) → f ≡ Sequential → lines_agree f bands c first n ≡ true → (c ≡ 0) ⊎ (first ≡ n)
agreed f bands c first n s e =
    ⊎_elim
    (λ (k : eqb c 0 ≡ true). inl (eqb-true c 0 k))
    (λ (k : eqb n first ≡ true). inr (sym (eqb-true n first k)))
    (or_cases (eqb c 0) (eqb n first) (subst (λ k. lines_agree k bands c first n ≡ true) s e))

-- An empty list.
pub some_trailer : (xs : List ℕ) → trailers_fit xs ≡ true → 1 ≤ byte xs 145
some_trailer xs e = leb-true 1 (byte xs 145) (and_parts (leb 1 (byte xs 145)) (leb (byte xs 145) 5) (and_parts (eqb (byte xs 144) 0) (leb 1 (byte xs 145) && leb (byte xs 145) 5) e).1).0

-- One record more in front of what is left of an attributes file.
module _ (many : ℕ) (d : Body) (l : Layout) (reel : ℕ) (bs : Reel) (rs : TapeSet) (g : Group) (c : ℕ) (t : List Group) (n : ℕ) (xs : List ℕ) where
  abbrev Attributes : ℕ → Reel → Type 0
  Attributes k cs = rests.AttributesRest many d l g c t k reel cs rs

  first_kind : n ≤ 1 + ancillaries l → Spelt xs (record_length l.form) 36 n → Attributes (n + 1) bs → Attributes n (written xs ∷ bs)
  first_kind h s r =
      let body = drop 6 xs in
      let behind = rests.behind many d l r.content in
      let image = image_file (g.blocks + 1) r.parts behind in
      let i = r.first_count in
      let j = r.second_count in
      let number : n + 1 + length r.first ≡ n + length (body ∷ r.first) = omega arith in
      let blocks = before_cons (written xs) (numbered 36 (n + 1) r.first ++ (numbered 219 (n + 1 + length r.first) r.second ++ mark ∷ [])) image ∙ ap (λ k. before (written k ∷ (numbered 36 (n + 1) r.first ++ (numbered 219 (n + 1 + length r.first) r.second ++ mark ∷ []))) image) s.is ∙ ap (λ k. before (written (record_of n 36 body) ∷ (numbered 36 (n + 1) r.first ++ (numbered 219 k r.second ++ mark ∷ []))) image) number in record {
        first = body ∷ r.first;
        first-whole = (s.long, r.first-whole);
        first_count = omega (arith, i);
        second = r.second;
        second_whole = r.second_whole;
        second_count = omega (arith, j);
        parts = r.parts;
        begun = r.begun;
        content = r.content;
        rem = rests.rem_as many d l reel (written xs ∷ bs) rs _ _ blocks (rests.rem_cons many d l reel (written xs) bs rs _ r.rem);
      }

  second_kind : 1 + ancillaries l < n → Spelt xs (record_length l.form) 219 n → Attributes (n + 1) bs → Attributes n (written xs ∷ bs)
  second_kind h s r =
      let body = drop 6 xs in
      let behind = rests.behind many d l r.content in
      let image = image_file (g.blocks + 1) r.parts behind in
      let i = r.first_count in
      let j = r.second_count in
      let none : r.first ≡ [] = nil_from_length r.first (omega (arith, i)) in
      let none_long = ap length none in
      let rem1 = subst (λ k. rests.Rem many d l reel bs rs (before (numbered 36 (n + 1) k ++ (numbered 219 (n + 1 + length k) r.second ++ mark ∷ [])) image)) none r.rem in
      let number : n + 1 + length {A = Body} [] ≡ n + length {A = Body} [] + 1 = omega arith in
      let same : n ≡ n + length {A = Body} [] = omega arith in
      let blocks = before_cons (written xs) (numbered 219 (n + 1 + length {A = Body} []) r.second ++ mark ∷ []) image ∙ ap (λ k. before (written k ∷ (numbered 219 (n + 1 + length {A = Body} []) r.second ++ mark ∷ [])) image) s.is ∙ ap (λ k. before (written (record_of n 219 body) ∷ (numbered 219 k r.second ++ mark ∷ [])) image) number ∙ ap (λ k. before (written (record_of k 219 body) ∷ (numbered 219 (n + length {A = Body} [] + 1) r.second ++ mark ∷ [])) image) same in record {
        first = [];
        first-whole = tt;
        first_count = omega arith;
        second = body ∷ r.second;
        second_whole = (s.long, r.second_whole);
        second_count = omega (arith, j, none_long);
        parts = r.parts;
        begun = r.begun;
        content = r.content;
        rem = rests.rem_as many d l reel (written xs ∷ bs) rs _ _ blocks (rests.rem_cons many d l reel (written xs) bs rs _ rem1);
      }

  pub attribute_more : (b : Bool) → leb n (1 + ancillaries l) ≡ b → checked xs (record_length l.form) (cond b 36 219) n ≡ None → Attributes (n + 1) bs → Attributes n (written xs ∷ bs)
  attribute_more true e k r = first_kind (leb-true n (1 + ancillaries l) e) (spells xs (record_length l.form) 36 n (six l.form) k) r
  attribute_more false e k r = second_kind (leb-false n (1 + ancillaries l) e) (spells xs (record_length l.form) 219 n (six l.form) k) r

  -- One trailer more.
  pub trailer_more : Spelt xs (record_length l.form) 246 n → rests.TrailersRest many d l g (n + 1) reel bs rs → rests.TrailersRest many d l g n reel (written xs ∷ bs) rs
  trailer_more s r =
      let tail = closes r.ends (stretches r.groups) in
      let j = r.count in record {
        lines = r.lines;
        some = r.some;
        few = r.few;
        full = r.full;
        bodies = drop 6 xs ∷ r.bodies;
        whole = (s.long, r.whole);
        count = omega (arith, j);
        ends = r.ends;
        groups = r.groups;
        more = r.more;
        rem = rests.rem_as many d l reel (written xs ∷ bs) rs _ _ (before_cons (written xs) (numbered 246 (n + 1) r.bodies ++ mark ∷ []) tail ∙ ap (λ k. before (written k ∷ (numbered 246 (n + 1) r.bodies ++ mark ∷ [])) tail) s.is) (rests.rem_cons many d l reel (written xs) bs rs _ r.rem);
      }

-- One line more in front of what a group still has.
module _ (many : ℕ) (d : Body) (l : Layout) (g : Group) (c : ℕ) (t : List Group) (reel : ℕ) where
  line_more : (x : Line) (p : List Line) (ps : List (List Line)) → Fit l g.content g.blocks x → rests.ContentRest many d l (one_more g reel) c t (p ∷ ps) → rests.ContentRest many d l g c t ((x ∷ p) ∷ ps)
  line_more x p ps f r =
      let j = r.total in record {
        lines = r.lines;
        some = r.some;
        few = r.few;
        fits = (f, r.fits);
        total = omega (arith, j);
        agrees = r.agrees;
        bodies = r.bodies;
        whole = r.whole;
        count = r.count;
        ends = r.ends;
        groups = r.groups;
        more = r.more;
      }

  -- The first trailer ends the image file.
  no_lines : (p : Place) (bs : Reel) (rs : TapeSet) → ((c ≡ 0) ⊎ (rests.first-blocks many d l t ≡ g.blocks)) → rests.TrailersRest many d l (trailed g p) 1 reel bs rs → rests.ContentRest many d l g c t []
  no_lines p bs rs a r =
      let j = r.count in
      let k = r.full in record {
        lines = r.lines;
        some = r.some;
        few = r.few;
        fits = tt;
        total = omega (arith, k);
        agrees = ⊎_elim (λ (e : c ≡ 0). inl e) (λ (e : rests.first-blocks many d l t ≡ g.blocks). inr (e ∙ k)) a;
        bodies = r.bodies;
        whole = r.whole;
        count = omega (arith, j);
        ends = r.ends;
        groups = r.groups;
        more = r.more;
      }

module _ (many : ℕ) (d : Body) (l : Layout) (g : Group) (c : ℕ) (t : List Group) (reel : ℕ) (bs : Reel) (rs : TapeSet) where
  -- A line in the middle of a part, and one that begins a part.
  pub image_more : (b : Block) (x : Line) → b ≡ line_block (g.blocks + 1) x → Fit l g.content g.blocks x → rests.ImageRest many d l (one_more g reel) c t reel bs rs → rests.ImageRest many d l g c t reel (b ∷ bs) rs
  unfolding line_more
  image_more b x e f r =
      let behind = rests.behind many d l r.content in
      let n = g.blocks + 1 in record {
        part_rest = x ∷ r.part_rest;
        parts = r.parts;
        going = r.going;
        content = line_more many d l g c t reel x r.part_rest r.parts f r.content;
        rem = rests.rem_as many d l reel (b ∷ bs) rs _ _ (ap (λ k. before (k ∷ []) (open_file (n + 1) r.part_rest r.parts behind)) e ∙ open_more n x r.part_rest r.parts behind) (rests.rem_cons many d l reel b bs rs _ r.rem);
      }

  going_more : (x : Line) (p : List Line) (ps : List (List Line)) → Going ps → Going ((x ∷ p) ∷ ps)
  going_more x p [] h = tt
  going_more x p (q ∷ qs) h = h

  pub resumed_more : (b : Block) (x : Line) → b ≡ line_block (g.blocks + 1) x → Fit l g.content g.blocks x → rests.ImageRest many d l (one_more g reel) c t reel bs rs → rests.ResumedRest many d l g c t reel (b ∷ bs) rs
  unfolding image_more
  resumed_more b x e f r =
      let i = image_more b x e f r in record {
        part_rest = x ∷ r.part_rest;
        parts = r.parts;
        going = going_more x r.part_rest r.parts r.going;
        content = i.content;
        rem = rests.rem_as many d l reel (b ∷ bs) rs _ _ (open_file_is (g.blocks + 1) x r.part_rest r.parts (rests.behind many d l i.content)) i.rem;
      }

  pub first_more : (b : Block) (x : Line) → b ≡ line_block (g.blocks + 1) x → Fit l g.content g.blocks x → rests.ImageRest many d l (one_more g reel) c t reel bs rs → rests.FirstRest many d l g c t reel (b ∷ bs) rs
  unfolding image_more
  first_more b x e f r =
      let i = image_more b x e f r in record {
        parts = (x ∷ r.part_rest) ∷ r.parts;
        begun = r.going;
        content = i.content;
        rem = rests.rem_as many d l reel (b ∷ bs) rs _ _ (open_file_is (g.blocks + 1) x r.part_rest r.parts (rests.behind many d l i.content)) i.rem;
      }

  -- The mark behind a part.
  abbrev empty_part : (ps : List (List Line)) → rests.ContentRest many d l g c t ps → rests.ContentRest many d l g c t ([] ∷ ps)
  empty_part ps r = record { lines = r.lines; some = r.some; few = r.few; fits = r.fits; total = r.total; agrees = r.agrees; bodies = r.bodies; whole = r.whole; count = r.count; ends = r.ends; groups = r.groups; more = r.more }

  pub image_over : rests.AfterRest many d l g c t reel bs rs → rests.ImageRest many d l g c t reel (mark ∷ bs) rs
  image_over r = record {
    part_rest = [];
    parts = r.parts;
    going = r.going;
    content = empty_part r.parts r.content;
    rem = rests.rem_as many d l reel (mark ∷ bs) rs _ _ (open_over (g.blocks + 1) r.parts (rests.behind many d l r.content)) (rests.rem_cons many d l reel mark bs rs _ r.rem);
  }

  -- The end of a reel behind a part.
  pub after_break : (cs : Reel) → cs ≡ [] → rests.NextRest many d l (rests.ResumedRest many d l g c t) reel rs → rests.AfterRest many d l g c t reel (mark ∷ cs) rs
  after_break cs e n =
      let r = n.rest in record {
        parts = r.part_rest ∷ r.parts;
        going = r.going;
        content = r.content;
        rem = subst (λ k. rests.Rem many d l reel (mark ∷ cs) k ([] ∷ image_file (g.blocks + 1) (r.part_rest ∷ r.parts) (rests.behind many d l r.content))) (sym n.is) (subst (λ k. rests.Rem many d l reel (mark ∷ k) ((written (directory_on d (reel + 1)) ∷ mark ∷ n.blocks) ∷ n.reels) ([] ∷ image_file (g.blocks + 1) (r.part_rest ∷ r.parts) (rests.behind many d l r.content))) (sym e) (rests.rem_break many d l reel n.blocks n.reels (image_file (g.blocks + 1) (r.part_rest ∷ r.parts) (rests.behind many d l r.content)) r.rem));
      }

  -- The first trailer, behind a part or where a file has ended with its reel.
  pub after_trailer : (p : Place) → ((c ≡ 0) ⊎ (rests.first-blocks many d l t ≡ g.blocks)) → rests.TrailersRest many d l (trailed g p) 1 reel bs rs → rests.AfterRest many d l g c t reel bs rs
  unfolding no_lines
  after_trailer p a r = record { parts = []; going = tt; content = no_lines many d l g c t reel p bs rs a r; rem = r.rem }

  pub resumed_trailer : (p : Place) → ((c ≡ 0) ⊎ (rests.first-blocks many d l t ≡ g.blocks)) → rests.TrailersRest many d l (trailed g p) 1 reel bs rs → rests.ResumedRest many d l g c t reel bs rs
  unfolding no_lines
  resumed_trailer p a r =
      let tail = closes r.ends (stretches r.groups) in
      let trailers = numbered 246 1 r.bodies ++ mark ∷ [] in record {
        part_rest = [];
        parts = [];
        going = tt;
        content = empty_part [] (no_lines many d l g c t reel p bs rs a r);
        rem = rests.rem_as many d l reel bs rs _ _ (sym (before_nil (before trailers tail) r.rem.some)) r.rem;
      }

-- A group in front of others.
module _ (many : ℕ) (d : Body) (l : Layout) where
  valid_cons : (gs : List Files) (lines last : ℕ) (f : Files) → ValidFiles l lines last f → rests.ValidMore many d l lines (band_of (content l f)) f.ends gs → ValidGroups l lines last (f ∷ gs)
  valid_cons [] lines last f v m = (v, m)
  valid_cons (h ∷ gs) lines last f v m = (v, m)

  pub group_more : (xs : List ℕ) (last : ℕ) (h : Header) (p : Place) (c : ℕ) (t : List Group) (reel : ℕ) (bs : Reel) (rs : TapeSet) → Spelt xs (record_length l.form) 18 1 → Headed xs l last h → rests.AttributesRest many d l (fresh h p) c t 2 reel bs rs → rests.GroupsRest many d l last c (rests.first-blocks many d l t) reel (written xs ∷ bs) rs
  group_more xs last h p c t reel bs rs s w r =
      let k = r.content in
      let body = drop 6 xs in
      let f = files body r.first r.second r.parts k.bodies k.ends in
      let w1 : Headed (header_record f) l last h = subst (λ (y : List ℕ). Headed y l last h) s.is w in
      let i = r.first_count in
      let j = r.second_count in
      let image = image_file 1 r.parts (before (trailer_file f) (closes k.ends (stretches k.groups))) in
      let v : ValidFiles l k.lines last f = record {
        header_whole = s.long;
        header_counts = w1.counts;
        header_band = w1.band;
        header_trailers = w1.trailers;
        header_bands = w1.bands;
        ancillaries_many = omega (arith, i);
        ancillaries_whole = r.first-whole;
        annotations_many = omega (arith, i, j);
        annotations_whole = r.second_whole;
        begun = r.begun;
        lines_fit = subst (λ y. AllFit l y 0 (all_lines r.parts)) w1.content_is k.fits;
        lines_many = let u = k.total in omega (arith, u);
        trailers_many = k.count ∙ w1.trailers_are;
        trailers_whole = k.whole;
      } in record {
        lines = k.lines;
        some = k.some;
        few = k.few;
        groups = f ∷ k.groups;
        valid = valid_cons k.groups k.lines last f v (subst (λ y. rests.ValidMore many d l k.lines (band_of y) k.ends k.groups) w1.content_is k.more);
        agrees = k.agrees;
        rem = rests.rem_as many d l reel (written xs ∷ bs) rs _ _ (before_cons (written xs) (numbered 36 2 r.first ++ (numbered 219 (2 + length r.first) r.second ++ mark ∷ [])) image ∙ ap (λ y. before (written y ∷ (numbered 36 2 r.first ++ (numbered 219 (2 + length r.first) r.second ++ mark ∷ []))) image) s.is) (rests.rem_cons many d l reel (written xs) bs rs _ r.rem);
      }

  -- The groups that follow a trailer file: on this reel, on the next, or none.
  module _ (g : Group) (c : ℕ) (t : List Group) (reel : ℕ) (bs : Reel) (rs : TapeSet) (seen : 1 ≤ c) (same : rests.first-blocks many d l t ≡ g.blocks) where
    count_of : (lines : ℕ) → ((c ≡ 0) ⊎ (rests.first-blocks many d l t ≡ lines * bands_wide l)) → g.blocks ≡ lines * bands_wide l
    count_of lines a = ⊎_elim (λ (e : c ≡ 0). absurd (omega (arith, seen))) (λ (e : rests.first-blocks many d l t ≡ lines * bands_wide l). sym same ∙ e) a

    more_of : (lines : ℕ) (ends : Bool) (gs : List Files) → l.form ≡ Sequential → ValidGroups l lines (band_of g.content) gs → rests.ValidMore many d l lines (band_of g.content) ends gs
    more_of lines ends [] e v = absurd v
    more_of lines ends (f ∷ fs) e v = (e, v)

    pub behind-header : l.form ≡ Sequential → rests.GroupsRest many d l (band_of g.content) c (rests.first-blocks many d l t) reel bs rs → rests.BehindRest many d l g reel bs rs
    behind-header e r = record {
      lines = r.lines;
      some = r.some;
      few = r.few;
      full = count_of r.lines r.agrees;
      ends = false;
      groups = r.groups;
      more = more_of r.lines false r.groups e r.valid;
      rem = r.rem;
    }

    pub behind_end : l.form ≡ Sequential → bs ≡ [] → rests.NextRest many d l (rests.GroupsRest many d l (band_of g.content) c (rests.first-blocks many d l t)) reel rs → rests.BehindRest many d l g reel (mark ∷ bs) rs
    behind_end e b n =
        let r = n.rest in record {
          lines = r.lines;
          some = r.some;
          few = r.few;
          full = count_of r.lines r.agrees;
          ends = true;
          groups = r.groups;
          more = more_of r.lines true r.groups e r.valid;
          rem = subst (λ k. rests.Rem many d l reel (mark ∷ bs) k ([] ∷ stretches r.groups)) (sym n.is) (subst (λ k. rests.Rem many d l reel (mark ∷ k) ((written (directory_on d (reel + 1)) ∷ mark ∷ n.blocks) ∷ n.reels) ([] ∷ stretches r.groups)) (sym b) (rests.rem_break many d l reel n.blocks n.reels (stretches r.groups) r.rem));
        }

  -- The end of the set.
  pub over : (g : Group) (reel : ℕ) (bs : Reel) (rs : TapeSet) → rests.Counted many d l g → bs ≡ closing reel many → rs ≡ [] → reel ≡ many → rests.BehindRest many d l g reel bs rs
  over g reel bs rs k b r e = record {
    lines = k.lines;
    some = k.some;
    few = k.few;
    full = k.full;
    ends = false;
    groups = [];
    more = refl;
    rem = record { here = b; rest = r; left = omega (arith, e); some = omega arith };
  }
