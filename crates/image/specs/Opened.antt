-- What opening an image says.
use Rattle.std.specs.Prelude.{◌≡◌, ℕ, Ok, Err, vec_items, Result, Vec}
use Rattle.std.specs.declared.alloc.Global.{Global}
use Rattle.deck.specs.Tape.{TapeSet, Sound}
use Rattle.image.specs.Stored.{Verdict, number}
use Rattle.image.specs.Strip as strips
use Rattle.image.specs.Indexed as indices
use Rattle.image.specs.declared.indexed.Indexed.{Indexed}
use Rattle.image.specs.declared.refusal.Unopened.{Unopened}
use Rattle.image.specs.declared.strip.Strip.{Strip}

-- The set that an image means.
abbrev pub strip_set : Strip → TapeSet
strip_set s = strips.meant (vec_items s.bytes)

abbrev pub indexed_set : Indexed → TapeSet
indexed_set i = indices.meant (vec_items i.bytes)

-- What opening says: the set, or the refusal's number and place.
abbrev pub told : {X : Type 0} → Result X Unopened → (X → TapeSet) → Verdict TapeSet
told (Ok x) set_on = Ok (set_on x)
told (Err e) set_on = Err (number e.refusal.cause, e.refusal.offset)

-- Where the bytes went: into the image, or back.
abbrev pub held : {X : Type 0} → Result X Unopened → (X → Vec ℕ Global) → Vec ℕ Global
held (Ok x) bytes-in = bytes-in x
held (Err e) bytes-in = e.bytes

-- A verdict is a set exactly where that set is sound and the image encodes it.
pub record Exactly (Encodes : TapeSet → Type 0) (v : Verdict TapeSet) : Type 0 where
  pub only : (set : TapeSet) → v ≡ Ok set → Sound set × Encodes set
  pub every : (set : TapeSet) → Sound set → Encodes set → v ≡ Ok set
