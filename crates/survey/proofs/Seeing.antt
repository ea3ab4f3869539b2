-- What a fetch shows is the block that stands there.
use Rattle.std.proofs.Common.{◌≡◌, ℕ, ◌/◌, Bool, true, false, cond, ltb, List, ◌++◌, length, drop, is_some, Some, None, Ok, Err, Option, Result, refl, ap, subst}
use Rattle.std.proofs.lemmas.List.{take_at}
use Rattle.deck.specs.Answers.{fetched, filled}
use Rattle.deck.specs.Tape.{Block, written, mark, bad}
use Rattle.deck.specs.declared.Kind.{Kind}
use Rattle.deck.specs.declared.Kind.TheVariants as kinds
use Rattle.deck.specs.declared.Short.{Short}
use Rattle.records.specs.Faults.{number, layer}
use Rattle.survey.specs.Surveys.{fault_at, told_fault, shown_in}
use Rattle.machine.specs.declared.machine.Place.{Place}
use Rattle.records.specs.declared.fault.Cause.{Cause}
use Rattle.records.specs.declared.fault.Cause.TheVariants.{Deck, Record, Set}
use Rattle.records.specs.declared.fault.DeckFault.TheVariants as decks
use Rattle.records.specs.declared.fault.RecordFault.TheVariants as records
use Rattle.records.specs.declared.fault.SetFault.TheVariants as sets

-- A record that fits, and one that does not.
shown_record : (xs buffer : List ℕ) (kind : Option (Kind ℕ)) (b : Bool) → cond {A = Result (Option (Kind ℕ)) Short} b (Err record {}) (Ok (Some (kinds.Record (length xs)))) ≡ Ok kind → (shown_in kind (cond b buffer (xs ++ drop (length xs) buffer)) ≡ Some (written xs)) × (is_some kind ≡ true)
shown_record xs buffer kind true e = cc
shown_record xs buffer kind false e =
    let is : Some (kinds.Record (length xs)) ≡ kind = cc in
    subst (λ k. (shown_in k (xs ++ drop (length xs) buffer) ≡ Some (written xs)) × (is_some k ≡ true)) is
    (ap (λ t. Some (written t)) (take_at xs (drop (length xs) buffer) (length xs) refl), refl)

pub shown-fetched : (o : Option Block) (buffer : List ℕ) (kind : Option (Kind ℕ)) → fetched o (length buffer) ≡ Ok kind → (shown_in kind (filled o buffer) ≡ o) × (is_some kind ≡ is_some o)
shown-fetched None buffer kind e = let is : None ≡ kind = cc in subst (λ k. (shown_in k buffer ≡ None) × (is_some k ≡ false)) is (refl, refl)
shown-fetched (Some (written xs)) buffer kind e = shown_record xs buffer kind (ltb (length buffer) (length xs)) e
shown-fetched (Some mark) buffer kind e = let is : Some kinds.Mark ≡ kind = cc in subst (λ k. (shown_in k buffer ≡ Some mark) × (is_some k ≡ true)) is (refl, refl)
shown-fetched (Some bad) buffer kind e = let is : Some kinds.Bad ≡ kind = cc in subst (λ k. (shown_in k buffer ≡ Some bad) × (is_some k ≡ true)) is (refl, refl)

-- The first digit of a fault's number is its layer.
layer-digit : (c : Cause) → layer c ≡ number c / 10
layer-digit (Deck decks.Absent) = refl
layer-digit (Deck decks.Bad) = refl
layer-digit (Record records.MarkForRecord) = refl
layer-digit (Record records.RecordForMark) = refl
layer-digit (Record records.Length) = refl
layer-digit (Record records.FifthByte) = refl
layer-digit (Record records.Type) = refl
layer-digit (Record records.Number) = refl
layer-digit (Set sets.Directory) = refl
layer-digit (Set sets.OtherDirectory) = refl
layer-digit (Set sets.Header) = refl
layer-digit (Set sets.Bands) = refl
layer-digit (Set sets.Lines) = refl
layer-digit (Set sets.MissingBand) = refl
layer-digit (Set sets.Finish) = refl
layer-digit (Set sets.BehindEnd) = refl

pub told_is : (c : Cause) (at : Place) → told_fault record { cause = c; reel = at.reel; block = at.block } ≡ fault_at (number c) at
told_is c at = ap (λ (l : ℕ). (number c, l, at.reel, at.block)) (layer-digit c)
