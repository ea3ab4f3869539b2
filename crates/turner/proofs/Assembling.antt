-- The reel that is shown is what a recording on one reel is written as, where each piece shows what is written at its place.
use Rattle.std.proofs.Common.{◌≡◌, ℕ, zero, suc, ◌+◌, ◌-◌, ◌<◌, false, List, [], ◌∷◌, ◌++◌, map, length, get_or, Some, None, sym, refl, ap, ◌∙◌, subst, append_assoc, arith}
use Rattle.std.proofs.lemmas.List.{map-append}
use Rattle.deck.specs.Tape.{Block, written, mark, Reel, TapeSet}
use Rattle.survey.specs.Recordings.{Body, Line, Files, Recording, record_of, numbered, line_block, lines_from, before, attributes_file, part, image_file, trailer_file, closes, stretches, directory_on, bound, written_as}
use Rattle.turner.specs.Pieces.{series, attribute_pieces, image_pieces, trailer_pieces, group_pieces, groups_from}
use Rattle.turner.specs.Shapes.{Plan, groups, images, sheets, trailers}
use Rattle.turner.specs.Shown.{piece_block, shown}
use Rattle.turner.specs.declared.piece.Piece.{Piece}
use Rattle.turner.specs.declared.piece.Piece.TheVariants.{Mark, Directory, Header, Attribute, Image, Trailer}

-- Series.
map-series : {X Y : Type 0} (f : X → Y) (g : ℕ → X) (n many : ℕ) → map f (series g n many) ≡ series (λ k. f (g k)) n many
map-series f g n zero = refl
map-series f g n (suc many) = ap (λ ys. f (g n) ∷ ys) (map-series f g (n + 1) many)

series_split : {X : Type 0} (f : ℕ → X) (n a b : ℕ) → series f n (a + b) ≡ series f n a ++ series f (n + a) b
series_split f n zero b = ap (λ k. series f n k) {y = b} (omega arith) ∙ ap (λ k. series f k b) (omega arith)
series_split f n (suc a) b =
    ap (series f n) {y = suc (a + b)} (omega arith)
    ∙ ap (λ ys. f n ∷ ys) (series_split f (n + 1) a b)
    ∙ ap (λ k. f n ∷ series f (n + 1) a ++ series f k b) (omega arith)

-- Records and lines, numbered on.
numbered_is : (f : ℕ → Block) (kind n : ℕ) (bodies : List Body) → ((k : ℕ) → k < length bodies → f (n + k) ≡ written (record_of (n + k) kind (get_or bodies k []))) → series f n (length bodies) ≡ numbered kind n bodies
numbered_is f kind n [] h = refl
numbered_is f kind n (body ∷ bodies) h =
    let here : n + 0 ≡ n = omega arith in
    let first : f n ≡ written (record_of n kind body) = subst (λ m. f m ≡ written (record_of m kind body)) here (h 0 (omega arith)) in
    ap (λ b. b ∷ series f (n + 1) (length bodies)) first
    ∙ ap (λ bs. written (record_of n kind body) ∷ bs) (numbered_is f kind (n + 1) bodies (λ k l. let on : n + suc k ≡ n + 1 + k = omega arith in subst (λ m. f m ≡ written (record_of m kind (get_or bodies k []))) on (h (suc k) (omega arith))))

lines_are : (f : ℕ → Block) (n : ℕ) (lines : List Line) → ((k : ℕ) → k < length lines → f (n + k) ≡ line_block (n + k) (get_or lines k None)) → series f n (length lines) ≡ lines_from n lines
lines_are f n [] h = refl
lines_are f n (line ∷ lines) h =
    let here : n + 0 ≡ n = omega arith in
    let first : f n ≡ line_block n line = subst (λ m. f m ≡ line_block m line) here (h 0 (omega arith)) in
    ap (λ b. b ∷ series f (n + 1) (length lines)) first
    ∙ ap (λ bs. line_block n line ∷ bs) (lines_are f (n + 1) lines (λ k l. let on : n + suc k ≡ n + 1 + k = omega arith in subst (λ m. f m ≡ line_block m (get_or lines k None)) on (h (suc k) (omega arith))))

regroup : (a b c d : Reel) → a ++ (b ++ (c ++ d)) ≡ (a ++ (b ++ c)) ++ d
regroup a b c d = simp append_assoc

-- What each piece of a group shows.
pub record GroupShown (t : Plan) (set : TapeSet) (i : ℕ) (g : Files) (line : Line) (lines : List Line) : Type 0 where
  pub one-part : g.parts ≡ (line ∷ lines) ∷ []
  pub no_end : g.ends ≡ false
  pub header : piece_block t set (Header i) ≡ written (record_of 1 18 g.header)
  pub sheets_many : sheets t ≡ 1 + (length g.ancillaries + length g.annotations)
  pub ancillaries : (k : ℕ) → k < length g.ancillaries → piece_block t set (Attribute (2 + k)) ≡ written (record_of (2 + k) 36 (get_or g.ancillaries k []))
  pub annotations : (k : ℕ) → k < length g.annotations → piece_block t set (Attribute (2 + length g.ancillaries + k)) ≡ written (record_of (2 + length g.ancillaries + k) 219 (get_or g.annotations k []))
  pub images_many : images t ≡ length (line ∷ lines)
  pub image_lines : (k : ℕ) → k < length (line ∷ lines) → piece_block t set (Image i (1 + k)) ≡ line_block (1 + k) (get_or (line ∷ lines) k None)
  pub trailers_many : trailers t ≡ length g.trailers
  pub trailer_bodies : (k : ℕ) → k < length g.trailers → piece_block t set (Trailer (1 + k)) ≡ written (record_of (1 + k) 246 (get_or g.trailers k []))

module _ (t : Plan) (set : TapeSet) (i : ℕ) (g : Files) (line : Line) (lines : List Line) (s : GroupShown t set i g line lines) where
  abbrev show : Piece → Block
  show = piece_block t set

  show_file : (p : ℕ → Piece) (n many : ℕ) → map show (series p n many ++ Mark ∷ []) ≡ series (λ k. show (p k)) n many ++ mark ∷ []
  show_file p n many = map-append show (series p n many) (Mark ∷ []) ∙ ap (λ bs. bs ++ mark ∷ []) (map-series show p n many)

  attributes-shown : map show (attribute_pieces t i) ≡ attributes_file g
  attributes-shown =
      let a = g.ancillaries in
      let n = g.annotations in
      let many : sheets t - 1 ≡ length a + length n = omega (arith, s.sheets_many) in
      let f = λ (k : ℕ). show (Attribute k) in
      ap (λ b. b ∷ map show (series Attribute 2 (sheets t - 1) ++ Mark ∷ [])) s.header
      ∙ ap (λ bs. written (record_of 1 18 g.header) ∷ bs)
      (show_file Attribute 2 (sheets t - 1)
      ∙ ap (λ k. series f 2 k ++ mark ∷ []) many
      ∙ ap (λ bs. bs ++ mark ∷ []) (series_split f 2 (length a) (length n))
      ∙ append_assoc (series f 2 (length a)) (series f (2 + length a) (length n)) (mark ∷ [])
      ∙ ap (λ bs. bs ++ (series f (2 + length a) (length n) ++ mark ∷ [])) (numbered_is f 36 2 a s.ancillaries)
      ∙ ap (λ bs. numbered 36 2 a ++ (bs ++ mark ∷ [])) (numbered_is f 219 (2 + length a) n s.annotations))

  images-shown : map show (image_pieces t i) ≡ part 1 (line ∷ lines)
  images-shown =
      show_file (Image i) 1 (images t)
      ∙ ap (λ k. series (λ j. show (Image i j)) 1 k ++ mark ∷ []) s.images_many
      ∙ ap (λ bs. bs ++ mark ∷ []) (lines_are (λ j. show (Image i j)) 1 (line ∷ lines) s.image_lines)

  trailers-shown : map show (trailer_pieces t) ≡ trailer_file g
  trailers-shown =
      show_file Trailer 1 (trailers t)
      ∙ ap (λ k. series (λ j. show (Trailer j)) 1 k ++ mark ∷ []) s.trailers_many
      ∙ ap (λ bs. bs ++ mark ∷ []) (numbered_is (λ j. show (Trailer j)) 246 1 g.trailers s.trailer_bodies)

  group_shown : map show (group_pieces t i) ≡ attributes_file g ++ (part 1 (line ∷ lines) ++ trailer_file g)
  group_shown =
      map-append show (attribute_pieces t i) (image_pieces t i ++ trailer_pieces t)
      ∙ ap (λ bs. bs ++ map show (image_pieces t i ++ trailer_pieces t)) attributes-shown
      ∙ ap (λ bs. attributes_file g ++ bs) (map-append show (image_pieces t i) (trailer_pieces t) ∙ ap (λ bs. bs ++ map show (trailer_pieces t)) images-shown ∙ ap (λ bs. part 1 (line ∷ lines) ++ bs) trailers-shown)

  -- A group in one part, with no end behind it, stands in front of what follows on its reel.
  group_written : (reel : Reel) (gs : List Files) → stretches gs ≡ reel ∷ [] → stretches (g ∷ gs) ≡ ((attributes_file g ++ (part 1 (line ∷ lines) ++ trailer_file g)) ++ reel) ∷ []
  group_written reel gs e =
      ap (λ ps. before (attributes_file g) (image_file 1 ps (before (trailer_file g) (closes g.ends (stretches gs))))) s.one-part
      ∙ ap (λ b. before (attributes_file g) (before (part 1 (line ∷ lines)) (before (trailer_file g) (closes b (stretches gs))))) s.no_end
      ∙ ap (λ ss. before (attributes_file g) (before (part 1 (line ∷ lines)) (before (trailer_file g) ss))) e
      ∙ ap (λ r. r ∷ []) (regroup (attributes_file g) (part 1 (line ∷ lines)) (trailer_file g) reel)

-- All groups.
pub record EachShown (t : Plan) (set : TapeSet) (i : ℕ) (g : Files) : Type 0 where
  pub line : Line
  pub lines : List Line
  pub shows : GroupShown t set i g line lines

abbrev pub AllShown : Plan → TapeSet → ℕ → List Files → Type 0
AllShown t set i [] = Unit {0}
AllShown t set i (g ∷ gs) = EachShown t set i g × AllShown t set (i + 1) gs

all_written : (t : Plan) (set : TapeSet) (i : ℕ) (gs : List Files) → AllShown t set i gs → stretches gs ≡ map (piece_block t set) (groups_from t i (length gs)) ∷ []
all_written t set i [] s = refl
all_written t set i (g ∷ gs) s =
    let e = s.0 in
    let rest = map (piece_block t set) (groups_from t (i + 1) (length gs)) in
    group_written t set i g e.line e.lines e.shows rest gs (all_written t set (i + 1) gs s.1)
    ∙ ap (λ bs. (bs ++ rest) ∷ []) (sym (group_shown t set i g e.line e.lines e.shows))
    ∙ ap (λ bs. bs ∷ []) (sym (map-append (piece_block t set) (group_pieces t i) (groups_from t (i + 1) (length gs))))

-- A recording that takes one reel.
written_one : (r : Recording) (reel : Reel) → stretches r.groups ≡ reel ∷ [] → written_as r ≡ (written (directory_on r.directory 1) ∷ mark ∷ reel ++ mark ∷ []) ∷ []
written_one r reel e = ap (λ ss. bound r.directory (length ss) 1 ss) e

-- A set is shown as a recording is written.
pub shown_as_written : (t : Plan) (set : TapeSet) (r : Recording) → piece_block t set Directory ≡ written (directory_on r.directory 1) → groups t ≡ length r.groups → AllShown t set 0 r.groups → shown (Some t) set ≡ written_as r
shown_as_written t set r d many s =
    let one = all_written t set 0 r.groups s in
    let show = piece_block t set in
    let all = groups_from t 0 (length r.groups) in
    ap (λ k. map show (Directory ∷ Mark ∷ groups_from t 0 k ++ Mark ∷ []) ∷ []) many
    ∙ ap (λ bs. (show Directory ∷ mark ∷ bs) ∷ []) (map-append show all (Mark ∷ []))
    ∙ ap (λ b. (b ∷ mark ∷ map show all ++ mark ∷ []) ∷ []) d
    ∙ sym (written_one r (map show all) one)
