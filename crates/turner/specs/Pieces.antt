-- The pieces of the reel that is shown, in their order.
use Rattle.std.specs.Prelude.{ℕ, zero, suc, ◌+◌, ◌-◌, ◌*◌, ◌/◌, ◌%◌, cond, List, [], ◌∷◌, ◌++◌, Some, None, Option, ◌==◌, nat_lt}
use Rattle.turner.specs.Shapes.{Plan, groups, images, sheets, trailers}
use Rattle.turner.specs.declared.piece.Piece.{Piece}
use Rattle.turner.specs.declared.piece.Piece.TheVariants.{Mark, Directory, Header, Attribute, Image, Trailer}

-- So many things, numbered on from n.
abbrev pub series : {X : Type 0} → (ℕ → X) → ℕ → ℕ → List X
series f n zero = []
series f n (suc many) = f n ∷ series f (n + 1) many

-- The three files of the group at a place, counted from 0, each with its mark.
abbrev pub attribute_pieces : Plan → ℕ → List Piece
attribute_pieces t i = Header i ∷ series Attribute 2 (sheets t - 1) ++ Mark ∷ []

abbrev pub image_pieces : Plan → ℕ → List Piece
image_pieces t i = series (Image i) 1 (images t) ++ Mark ∷ []

abbrev pub trailer_pieces : Plan → List Piece
trailer_pieces t = series Trailer 1 (trailers t) ++ Mark ∷ []

abbrev pub group_pieces : Plan → ℕ → List Piece
group_pieces t i = attribute_pieces t i ++ (image_pieces t i ++ trailer_pieces t)

-- So many groups from one on.
abbrev pub groups_from : Plan → ℕ → ℕ → List Piece
groups_from t i zero = []
groups_from t i (suc many) = group_pieces t i ++ groups_from t (i + 1) many

-- The reel: its directory and a mark, the groups, and a mark that closes it.
abbrev pub pieces : Plan → List Piece
pieces t = Directory ∷ Mark ∷ groups_from t 0 (groups t) ++ Mark ∷ []

-- The same by numbers: the piece at the place q, counted from 0, of a group; at the place p behind the directory's mark; and at a block.
abbrev pub piece_in : Plan → ℕ → ℕ → Piece
piece_in t i q =
    cond (q == 0) (Header i)
    (cond (nat_lt q (sheets t)) (Attribute (q + 1))
    (cond (q == sheets t) Mark
    (cond (nat_lt q (sheets t + 1 + images t)) (Image i (q - sheets t))
    (cond (q == sheets t + 1 + images t) Mark
    (cond (nat_lt q (sheets t + 1 + images t + 1 + trailers t)) (Trailer (q - (sheets t + 1 + images t)))
    Mark)))))

abbrev pub group_length : Plan → ℕ
group_length t = sheets t + 1 + images t + 1 + trailers t + 1

abbrev pub piece_behind : Plan → ℕ → Option Piece
piece_behind t p =
    cond (nat_lt (p / group_length t) (groups t)) (Some (piece_in t (p / group_length t) (p % group_length t)))
    (cond (p == groups t * group_length t) (Some Mark) None)

abbrev pub piece_at : Plan → ℕ → Option Piece
piece_at t block = cond (block == 0) None (cond (block == 1) (Some Directory) (cond (block == 2) (Some Mark) (piece_behind t (block - 3))))

-- There is one reel.
abbrev pub piece_on : Plan → ℕ → ℕ → Option Piece
piece_on t reel block = cond (reel == 1) (piece_at t block) None
