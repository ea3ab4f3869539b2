-- The promise over two sets: what their readers' answers tell of their pictures and sheets.
use Rattle.std.specs.Prelude.{◌≡◌, ℕ, ◌<◌, List, [], ◌∷◌, ◌++◌, length}
use Rattle.deck.specs.Tape.{TapeSet}
use Rattle.survey.specs.Laws.{Judged}
use Rattle.survey.specs.Pictures.{picture, sheets}
use Rattle.survey.specs.Recordings.{Recording, written_as}
use Rattle.survey.specs.Surveys.{surveyed}
use Rattle.survey.specs.Validity.{Valid}
use Rattle.turner.specs.Laws.{ShowsPicture, pile}
use Rattle.reader.specs.declared.call.Call.{Call}
use Rattle.reader.specs.declared.call.Call.TheVariants.{Survey, Band, Ident, Line, Sheet, Tally}
use Rattle.witness.specs.Replies.{Question, replies_behind, replies}

-- A call that a program can make: band codes and kinds are bytes; k, lines and indexes are words of 32 bits.
abbrev pub Callable : Call → Type 0
Callable Survey = Unit {0}
Callable (Band k) = k < 4294967296
Callable Ident = Unit {0}
Callable (Line band n) = (band < 256) × (n < 4294967296)
Callable (Sheet band kind index) = (band < 256) × ((kind < 256) × (index < 4294967296))
Callable Tally = Unit {0}

-- A buffer holds bytes, and no more of them than an address space.
abbrev pub AllBytes : List ℕ → Type 0
AllBytes [] = Unit {0}
AllBytes (b ∷ bs) = (b < 256) × AllBytes bs

abbrev pub Buffer : List ℕ → Type 0
Buffer bs = AllBytes bs × (length bs < 9223372036854775808)

abbrev pub Possible : List Question → Type 0
Possible [] = Unit {0}
Possible (q ∷ qs) = (Callable q.0 × Buffer q.1) × Possible qs

-- The five calls that speak of the picture: all but the sheets'.
abbrev pub OfPicture : Call → Type 0
OfPicture Survey = Unit {0}
OfPicture (Band k) = Unit {0}
OfPicture Ident = Unit {0}
OfPicture (Line band n) = Unit {0}
OfPicture (Sheet band kind index) = ⊥
OfPicture Tally = Unit {0}

abbrev pub Five : List Question → Type 0
Five [] = Unit {0}
Five (q ∷ qs) = OfPicture q.0 × Five qs

-- After the same earlier calls, fresh readers over the two sets answer every list of the five calls alike, and every list of all six.
abbrev pub AlikeFive : TapeSet → TapeSet → List Question → Type 0
AlikeFive a b past = (qs : List Question) → Possible qs → Five qs → replies_behind a past qs ≡ replies_behind b past qs

abbrev pub AlikeSix : TapeSet → TapeSet → List Question → Type 0
AlikeSix a b past = (qs : List Question) → Possible qs → replies_behind a past qs ≡ replies_behind b past qs

-- Two accepted sets, after any common list of earlier calls: their pictures are equal exactly when every list of the five calls is answered alike;
-- their pictures and their sheets exactly when every list of all six is.
pub record ToldApart (a b : TapeSet) : Type 0 where
  pub five_if : (r s : Recording) → Valid r → written_as r ≡ a → Valid s → written_as s ≡ b → picture r ≡ picture s → (past : List Question) → AlikeFive a b past
  pub five_only : (r s : Recording) → Valid r → written_as r ≡ a → Valid s → written_as s ≡ b → (past : List Question) → AlikeFive a b past → picture r ≡ picture s
  pub six_if : (r s : Recording) → Valid r → written_as r ≡ a → Valid s → written_as s ≡ b → picture r ≡ picture s → sheets r ≡ sheets s → (past : List Question) → AlikeSix a b past
  pub six_only : (r s : Recording) → Valid r → written_as r ≡ a → Valid s → written_as s ≡ b → (past : List Question) → AlikeSix a b past → (picture r ≡ picture s) × (sheets r ≡ sheets s)

-- Any number of turners over an accepted set show an accepted set with the same picture, and after any earlier calls readers over the pile and over
-- the set answer every list of the five calls alike.
pub record UnderTurners (set : TapeSet) : Type 0 where
  pub shows : (n : ℕ) (r : Recording) → Valid r → written_as r ≡ set → ShowsPicture r (pile n set)
  pub answers : (n : ℕ) (r : Recording) → Valid r → written_as r ≡ set → (past : List Question) → AlikeFive set (pile n set) past

-- The promise over any two sets. What the survey says of each is right: it accepts exactly those that a valid recording is written as.
-- A list of calls that begins with others is answered as these are, and then as after them.
pub record Promise (a b : TapeSet) : Type 0 where
  pub first_judged : Judged (surveyed a) a
  pub second_judged : Judged (surveyed b) b
  pub joined : (set : TapeSet) (past qs : List Question) → replies set (past ++ qs) ≡ replies set past ++ replies_behind set past qs
  pub apart : ToldApart a b
  pub first_turned : UnderTurners a
  pub second_turned : UnderTurners b
