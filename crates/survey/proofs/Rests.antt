-- What is still to come, as a writer would have written it, wherever the machine stands.
use Rattle.std.proofs.Common.{◌≡◌, ℕ, ◌+◌, ◌-◌, ◌*◌, ◌≤◌, Bool, false, ◌⊎◌, List, [], ◌∷◌, ◌++◌, length, get_or, sym, refl, ap, ◌∙◌, subst, arith, Some, None, Option}
use Rattle.deck.specs.Tape.{Block, written, mark, Reel, TapeSet}
use Rattle.records.specs.Layouts.{ancillaries, attributes, stride}
use Rattle.machine.specs.Machines.{band_of, no_group, most_blocks}
use Rattle.records.specs.declared.layout.Form.TheVariants.{Sequential}
use Rattle.records.specs.declared.layout.Layout.{Layout}
use Rattle.machine.specs.declared.machine.Expect.{Expect}
use Rattle.machine.specs.declared.machine.Expect.TheVariants as expects
use Rattle.machine.specs.declared.machine.Group.{Group}
use Rattle.machine.specs.declared.machine.Onward.{Onward}
use Rattle.machine.specs.declared.machine.Onward.TheVariants as onwards
use Rattle.survey.specs.Recordings.{Body, Line, Files, numbered, line_block, lines_from, before, image_file, closes, stretches, directory_on, closing, bound}
use Rattle.survey.specs.Validity.{body_length, Whole, Going, Begun, AllFit, all_lines, bands_wide, ValidGroups}
use Rattle.survey.proofs.Stretches.{hd, tl, bound_more, closing-before}
use Rattle.survey.proofs.Accepting.{length_tl}

-- An image file in the middle of a part, and behind a part.
abbrev pub open_file : ℕ → List Line → List (List Line) → List Reel → List Reel
open_file n p [] behind = before (lines_from n p ++ mark ∷ []) behind
open_file n p (q ∷ qs) behind = (lines_from n p ++ mark ∷ []) ∷ image_file (n + length p) (q ∷ qs) behind

abbrev pub behind-part : ℕ → List (List Line) → List Reel → List Reel
behind-part n [] behind = behind
behind-part n (q ∷ qs) behind = [] ∷ image_file n (q ∷ qs) behind

pub before_cons : (b : Block) (bs : Reel) (ss : List Reel) → before (b ∷ []) (before bs ss) ≡ before (b ∷ bs) ss
before_cons b bs [] = refl
before_cons b bs (s ∷ ss) = refl

pub open_more : (n : ℕ) (x : Line) (p : List Line) (ps : List (List Line)) (behind : List Reel) → before (line_block n x ∷ []) (open_file (n + 1) p ps behind) ≡ open_file n (x ∷ p) ps behind
open_more n x p [] behind = before_cons (line_block n x) (lines_from (n + 1) p ++ mark ∷ []) behind
open_more n x p (q ∷ qs) behind = let e : n + 1 + length p ≡ n + length (x ∷ p) = omega arith in ap (λ k. (line_block n x ∷ (lines_from (n + 1) p ++ mark ∷ [])) ∷ image_file k (q ∷ qs) behind) e

pub open_over : (n : ℕ) (ps : List (List Line)) (behind : List Reel) → before (mark ∷ []) (behind-part n ps behind) ≡ open_file n [] ps behind
open_over n [] behind = refl
open_over n (q ∷ qs) behind = let e : n ≡ n + length {A = Line} [] = omega arith in ap (λ k. (mark ∷ []) ∷ image_file k (q ∷ qs) behind) e

pub open_file_is : (n : ℕ) (x : Line) (p : List Line) (ps : List (List Line)) (behind : List Reel) → open_file n (x ∷ p) ps behind ≡ image_file n ((x ∷ p) ∷ ps) behind
open_file_is n x p [] behind = refl
open_file_is n x p (q ∷ qs) behind = refl

module _ (many : ℕ) (d : Body) (l : Layout) where
  -- What is left of the set is these stretches.
  pub record Rem (reel : ℕ) (bs : Reel) (rs : TapeSet) (ss : List Reel) : Type 0 where
    pub here : bs ≡ hd ss ++ closing reel many
    pub rest : rs ≡ bound d many (reel + 1) (tl ss)
    pub left : reel + length (tl ss) ≡ many
    pub some : 1 ≤ length ss

  pub rem_cons : (reel : ℕ) (b : Block) (bs : Reel) (rs : TapeSet) (ss : List Reel) → Rem reel bs rs ss → Rem reel (b ∷ bs) rs (before (b ∷ []) ss)
  rem_cons reel b bs rs [] r = let s = r.some in absurd (omega (arith, s))
  rem_cons reel b bs rs (s ∷ ss) r = record { here = ap (λ k. b ∷ k) r.here; rest = r.rest; left = r.left; some = omega arith }

  pub rem_as : (reel : ℕ) (bs : Reel) (rs : TapeSet) (ss us : List Reel) → ss ≡ us → Rem reel bs rs ss → Rem reel bs rs us
  rem_as reel bs rs ss us e r = subst (λ k. Rem reel bs rs k) e r

  -- The end of a reel, before another one.
  pub rem_break : (reel : ℕ) (bs : Reel) (rs : TapeSet) (ss : List Reel) → Rem (reel + 1) bs rs ss → Rem reel (mark ∷ []) ((written (directory_on d (reel + 1)) ∷ mark ∷ bs) ∷ rs) ([] ∷ ss)
  rem_break reel bs rs ss r =
      let left = r.left in
      let some = r.some in
      let long = length_tl ss in record {
        here = sym (closing-before reel many (omega (arith, left)));
        rest = ap (λ k. (written (directory_on d (reel + 1)) ∷ mark ∷ k) ∷ rs) r.here ∙ ap (λ k. (written (directory_on d (reel + 1)) ∷ mark ∷ hd ss ++ closing (reel + 1) many) ∷ k) r.rest ∙ sym (bound_more d many (reel + 1) ss some);
        left = omega (arith, left, some, long);
        some = omega arith;
      }

  -- Groups behind a group.
  abbrev pub ValidMore : ℕ → ℕ → Bool → List Files → Type 0
  ValidMore lines last ends [] = ends ≡ false
  ValidMore lines last ends (f ∷ fs) = (l.form ≡ Sequential) × ValidGroups l lines last (f ∷ fs)

  abbrev pub first-blocks : List Group → ℕ
  first-blocks t = (get_or t 0 no_group).blocks

  -- At a header.
  pub record GroupsRest (last c first reel : ℕ) (bs : Reel) (rs : TapeSet) : Type 0 where
    pub lines : ℕ
    pub some : 1 ≤ lines
    pub few : lines ≤ 8192
    pub groups : List Files
    pub valid : ValidGroups l lines last groups
    pub agrees : (c ≡ 0) ⊎ (first ≡ lines * bands_wide l)
    pub rem : Rem reel bs rs (stretches groups)

  -- In a trailer file, before trailer n; behind the last before its mark.
  pub record TrailersRest (g : Group) (n reel : ℕ) (bs : Reel) (rs : TapeSet) : Type 0 where
    pub lines : ℕ
    pub some : 1 ≤ lines
    pub few : lines ≤ 8192
    pub full : g.blocks ≡ lines * bands_wide l
    pub bodies : List Body
    pub whole : Whole (body_length l) bodies
    pub count : n + length bodies ≡ g.trailers + 1
    pub ends : Bool
    pub groups : List Files
    pub more : ValidMore lines (band_of g.content) ends groups
    pub rem : Rem reel bs rs (before (numbered 246 n bodies ++ mark ∷ []) (closes ends (stretches groups)))

  -- Behind the mark of a trailer file.
  pub record BehindRest (g : Group) (reel : ℕ) (bs : Reel) (rs : TapeSet) : Type 0 where
    pub lines : ℕ
    pub some : 1 ≤ lines
    pub few : lines ≤ 8192
    pub full : g.blocks ≡ lines * bands_wide l
    pub ends : Bool
    pub groups : List Files
    pub more : ValidMore lines (band_of g.content) ends groups
    pub rem : Rem reel bs rs (closes ends (stretches groups))

  -- What a group still has, from the lines that are left of its image file on.
  pub record ContentRest (g : Group) (c : ℕ) (t : List Group) (parts : List (List Line)) : Type 0 where
    pub lines : ℕ
    pub some : 1 ≤ lines
    pub few : lines ≤ 8192
    pub fits : AllFit l g.content g.blocks (all_lines parts)
    pub total : g.blocks + length (all_lines parts) ≡ lines * bands_wide l
    pub agrees : (c ≡ 0) ⊎ (first-blocks t ≡ lines * bands_wide l)
    pub bodies : List Body
    pub whole : Whole (body_length l) bodies
    pub count : length bodies ≡ g.trailers
    pub ends : Bool
    pub groups : List Files
    pub more : ValidMore lines (band_of g.content) ends groups

  abbrev pub behind : {g : Group} {c : ℕ} {t : List Group} {parts : List (List Line)} → ContentRest g c t parts → List Reel
  behind r = before (numbered 246 1 r.bodies ++ mark ∷ []) (closes r.ends (stretches r.groups))

  -- In an image file; behind a part of it; where it goes on or has ended; where it begins.
  pub record ImageRest (g : Group) (c : ℕ) (t : List Group) (reel : ℕ) (bs : Reel) (rs : TapeSet) : Type 0 where
    pub part_rest : List Line
    pub parts : List (List Line)
    pub going : Going parts
    pub content : ContentRest g c t (part_rest ∷ parts)
    pub rem : Rem reel bs rs (open_file (g.blocks + 1) part_rest parts (behind content))

  pub record AfterRest (g : Group) (c : ℕ) (t : List Group) (reel : ℕ) (bs : Reel) (rs : TapeSet) : Type 0 where
    pub parts : List (List Line)
    pub going : Going parts
    pub content : ContentRest g c t parts
    pub rem : Rem reel bs rs (behind-part (g.blocks + 1) parts (behind content))

  pub record ResumedRest (g : Group) (c : ℕ) (t : List Group) (reel : ℕ) (bs : Reel) (rs : TapeSet) : Type 0 where
    pub part_rest : List Line
    pub parts : List (List Line)
    pub going : Going (part_rest ∷ parts)
    pub content : ContentRest g c t (part_rest ∷ parts)
    pub rem : Rem reel bs rs (image_file (g.blocks + 1) (part_rest ∷ parts) (behind content))

  -- In an attributes file, before record n; behind the last before its mark; and behind this.
  pub record AttributesRest (g : Group) (c : ℕ) (t : List Group) (n reel : ℕ) (bs : Reel) (rs : TapeSet) : Type 0 where
    pub first : List Body
    pub first-whole : Whole (body_length l) first
    pub first_count : length first ≡ 2 + ancillaries l - n
    pub second : List Body
    pub second_whole : Whole (body_length l) second
    pub second_count : n + length first + length second ≡ attributes l + 1
    pub parts : List (List Line)
    pub begun : Begun parts
    pub content : ContentRest g c t parts
    pub rem : Rem reel bs rs (before (numbered 36 n first ++ (numbered 219 (n + length first) second ++ mark ∷ [])) (image_file (g.blocks + 1) parts (behind content)))

  pub record FirstRest (g : Group) (c : ℕ) (t : List Group) (reel : ℕ) (bs : Reel) (rs : TapeSet) : Type 0 where
    pub parts : List (List Line)
    pub begun : Begun parts
    pub content : ContentRest g c t parts
    pub rem : Rem reel bs rs (image_file (g.blocks + 1) parts (behind content))

  -- On the next reel, behind its directory.
  pub record NextRest (P : ℕ → Reel → TapeSet → Type 0) (reel : ℕ) (rs : TapeSet) : Type 0 where
    pub blocks : Reel
    pub reels : TapeSet
    pub is : rs ≡ (written (directory_on d (reel + 1)) ∷ mark ∷ blocks) ∷ reels
    pub rest : P (reel + 1) blocks reels

  abbrev pub EndRest : Option Onward → Group → ℕ → List Group → ℕ → TapeSet → Type 0
  EndRest (Some onwards.Header) g c t reel rs = NextRest (GroupsRest (band_of g.content) c (first-blocks t)) reel rs
  EndRest (Some onwards.Image) g c t reel rs = NextRest (ResumedRest g c t) reel rs
  EndRest None g c t reel rs = rs ≡ []

  -- What is left where the machine expects something.
  abbrev pub Rest : Expect → Group → ℕ → List Group → ℕ → Reel → TapeSet → Type 0
  Rest (expects.Directory on) g c t reel bs rs = ⊥
  Rest (expects.DirectoryMark on) g c t reel bs rs = ⊥
  Rest expects.Header g c t reel bs rs = GroupsRest (band_of g.content) c (first-blocks t) reel bs rs
  Rest (expects.Attribute n) g c t reel bs rs = AttributesRest g c t n reel bs rs
  Rest expects.AttributeMark g c t reel bs rs = AttributesRest g c t (attributes l + 1) reel bs rs
  Rest expects.FirstImage g c t reel bs rs = FirstRest g c t reel bs rs
  Rest expects.Image g c t reel bs rs = ImageRest g c t reel bs rs
  Rest expects.BehindImage g c t reel bs rs = AfterRest g c t reel bs rs
  Rest expects.Resumed g c t reel bs rs = ResumedRest g c t reel bs rs
  Rest (expects.Trailer n) g c t reel bs rs = TrailersRest g n reel bs rs
  Rest expects.TrailerMark g c t reel bs rs = TrailersRest g (g.trailers + 1) reel bs rs
  Rest expects.BehindTrailer g c t reel bs rs = BehindRest g reel bs rs
  Rest expects.LastMark g c t reel bs rs = (bs ≡ mark ∷ []) × (rs ≡ [])
  Rest (expects.End on) g c t reel bs rs = (bs ≡ []) × EndRest on g c t reel rs

  -- What is known of the machine there.
  pub record Counted (g : Group) : Type 0 where
    pub lines : ℕ
    pub some : 1 ≤ lines
    pub few : lines ≤ 8192
    pub full : g.blocks ≡ lines * bands_wide l

  abbrev pub most : ℕ
  most = most_blocks l.form (stride l)

  -- More than one group only where bands follow each other.
  abbrev pub Alone : ℕ → Type 0
  Alone c = (l.form ≡ Sequential) ⊎ (c ≡ 0)

  -- A group whose image file is to come, and one of which some lines have come.
  abbrev pub Ahead : Group → ℕ → Type 0
  Ahead g c = Alone c × ((1 ≤ g.trailers) × (g.blocks ≡ 0))

  abbrev pub Within : Group → ℕ → Type 0
  Within g c = Alone c × ((1 ≤ g.trailers) × ((1 ≤ g.blocks) × (g.blocks ≤ most)))

  abbrev pub Agreed : Group → ℕ → List Group → Type 0
  Agreed g c t = Counted g × ((c ≡ 0) ⊎ (first-blocks t ≡ g.blocks))

  abbrev pub Known : Expect → Group → ℕ → List Group → ℕ → Type 0
  Known (expects.Directory on) g c t reel = ⊥
  Known (expects.DirectoryMark on) g c t reel = ⊥
  Known expects.Header g c t reel = Alone c
  Known (expects.Attribute n) g c t reel = (n ≤ attributes l) × Ahead g c
  Known expects.AttributeMark g c t reel = Ahead g c
  Known expects.FirstImage g c t reel = Ahead g c
  Known expects.Image g c t reel = Within g c
  Known expects.BehindImage g c t reel = Within g c
  Known expects.Resumed g c t reel = Within g c
  Known (expects.Trailer n) g c t reel = (n ≤ g.trailers) × Agreed g c t
  Known expects.TrailerMark g c t reel = Agreed g c t
  Known expects.BehindTrailer g c t reel = Counted g × ((1 ≤ c) × (first-blocks t ≡ g.blocks))
  Known expects.LastMark g c t reel = many ≤ reel
  Known (expects.End None) g c t reel = many ≤ reel
  Known (expects.End (Some onwards.Header)) g c t reel = (reel + 1 ≤ many) × (l.form ≡ Sequential)
  Known (expects.End (Some onwards.Image)) g c t reel = (reel + 1 ≤ many) × Within g c
