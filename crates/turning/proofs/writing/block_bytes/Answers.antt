use Rattle.std.proofs.Common.{◌≡◌, ℕ, ◌≤◌, Err, length, replicate, sym, arith}
use Rattle.deck.specs.Answers.{fetched}
use Rattle.deck.specs.Tape.{TapeSet, Sound, look}
use Rattle.deck.specs.declared.Short.{Short}
use Rattle.deck.proofs.Looks.{look_sound, never_short}
use Rattle.turning.proofs.writing.block_bytes.Goals as goal

-- No block is too long for a buffer of 5,388 bytes.
not_short : (set : TapeSet) (reel block room : ℕ) (e : Short) → Sound set → 5388 ≤ room → fetched (look set reel block) room ≡ Err e → ⊥
not_short set reel block room e s r f = never_short (look set reel block) room e (λ xs is. omega (arith, (look_sound set reel block xs s.reels is).1, r)) f

pub returns-in-Err-clause-bytes : goal.returns-in-Err-clause-bytes
returns-in-Err-clause-bytes g c =
    absurd (not_short (g.D.Deck.meaning c.args.deck.now) c.args.reel c.args.block (length {A = ℕ} (replicate 5388 0)) c.in-Err.field-0 (g.met.D.Deck.sound c.args.deck.now) (omega arith) (sym c.in-Err.ensures.value))
