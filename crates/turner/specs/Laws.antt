-- What turning does to a set, in the layout's words.
use Rattle.std.specs.Prelude.{◌≡◌, ℕ, zero, suc, length, Err, ◌≢◌}
use Rattle.deck.specs.Tape.{TapeSet}
use Rattle.records.specs.declared.layout.Form.TheVariants.{Interleaved, Vidicon}
use Rattle.survey.specs.Pictures.{picture}
use Rattle.survey.specs.Recordings.{Recording, written_as}
use Rattle.survey.specs.Surveys.{Fault, surveyed}
use Rattle.survey.specs.Validity.{Valid}
use Rattle.turner.specs.Shown.{turned}
use Rattle.turner.specs.Turns.{turn}

-- A set that is accepted, with the picture of a recording.
pub record ShowsPicture (r : Recording) (set : TapeSet) : Type 0 where
  pub recording : Recording
  pub valid : Valid recording
  pub is : written_as recording ≡ set
  pub same : picture recording ≡ picture r

-- Turners piled on a set, so many.
abbrev pub pile : ℕ → TapeSet → TapeSet
pile zero set = set
pile (suc n) set = turned (pile n set)

-- What turning keeps of a set. One of the scanner that is accepted becomes what its recording, turned, is written
-- as, and that one is valid. Turned any number of times,
-- an accepted set is accepted, with the same picture. One of the vidicon, and one with a fault, stay as they are. An interleaved set on one reel,
-- turned twice, is itself, block for block.
pub record Kept (set : TapeSet) : Type 0 where
  pub scanner : (r : Recording) → Valid r → written_as r ≡ set → (r.layout.form ≢ Vidicon) → turned set ≡ written_as (turn r)
  pub valid : (r : Recording) → Valid r → written_as r ≡ set → (r.layout.form ≢ Vidicon) → Valid (turn r)
  pub vidicon : (r : Recording) → Valid r → written_as r ≡ set → r.layout.form ≡ Vidicon → turned set ≡ set
  pub broken : (f : Fault) → surveyed set ≡ Err f → turned set ≡ set
  pub piled : (n : ℕ) (r : Recording) → Valid r → written_as r ≡ set → ShowsPicture r (pile n set)
  pub twice : (r : Recording) → Valid r → written_as r ≡ set → r.layout.form ≡ Interleaved → length set ≡ 1 → turned (turned set) ≡ set
