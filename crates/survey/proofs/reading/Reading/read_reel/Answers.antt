use Rattle.std.proofs.Common.{◌≡◌, ℕ, ◌+◌, ◌-◌, ◌≤◌, true, false, Result, ◌∙◌, arith}
use Rattle.std.proofs.lemmas.Result.{err_from_is_err_and}
use Rattle.deck.specs.Tape.{TapeSet}
use Rattle.deck.proofs.Looks.{reel_sound}
use Rattle.machine.specs.declared.machine.Machine.{Machine}
use Rattle.survey.specs.Surveys.{Fault, feed_reel, told_fault}
use Rattle.survey.proofs.Feeding.{from_block, block-there, feed_fault, feed_more, feed_last, same_look}
use Rattle.survey.proofs.reading.Reading.read_reel.Goals as goal

-- What is left of a reel from the block that is read.
from_here : (set : TapeSet) (m : Machine) (reel block next : ℕ) {z : Result Machine Fault} → block ≡ next → feed_reel m reel next (from_block set reel next) ≡ z → feed_reel m reel block (from_block set reel block) ≡ z
from_here set m reel block next e h = rw e h

pub returns-in_err-take-clause-says : goal.returns-in_err-take-clause-says
returns-in_err-take-clause-says g c =
    let set = g.D.Deck.meaning c.args.deck.now in
    let inv = c.loop-block.invariant in
    let p = err_from_is_err_and c.from_residual.result c.from_residual.ensures.1 in
    let says = rw inv.0 at c.in_err-take.ensures.says in
    let fault = feed_fault set c.loop-block.self.machine c.args.reel c.in-Some.block c.requires.0 c.requires.1 (omega (arith, c.in-Some.ensures.steps.0)) (told_fault c.in_err-take.field-0.0) says in
    rw (p.1, p.2) (fault ∙ from_here set c.loop-block.self.machine c.args.reel c.in-Some.block c.loop-block.block-iterator.start c.in-Some.ensures.steps.0 inv.1.1.1.1)

pub loop-block-preserved : goal.loop-block-preserved
loop-block-preserved g c =
    let set = g.D.Deck.meaning c.args.deck.now in
    let inv = c.loop-block.invariant in
    let first : 1 ≤ c.in-Some.block = omega (arith, c.in-Some.ensures.steps.0) in
    let says = rw inv.0 at c.in_ok-take.ensures.says in
    let more = same_look (g.D.Deck.meaning c.loop-block.deck) set c.args.reel c.in-Some.block c.in_ok-take.field-0 true inv.0 c.in_ok-take.ensures.more c.if-not-branch.false in
    let there = block-there set c.loop-block.self.machine c.args.reel c.in-Some.block c.requires.0 c.requires.1 first more in
    let next = feed_more set c.loop-block.self.machine c.args.reel c.in-Some.block c.requires.0 c.requires.1 first c.take.new.self.machine more says in (
      c.take.ensures.stays ∙ inv.0,
      (
        (λ s. c.in_ok-take.ensures.stays_steady (inv.1.0 s)),
        (
          omega (arith, c.in-Some.ensures.steps.1),
          (
            omega (arith, c.in-Some.ensures.steps.1, there),
            from_here set c.take.new.self.machine c.args.reel c.next.new.self.start (c.in-Some.block + 1) c.in-Some.ensures.steps.1 next
                ∙ from_here set c.loop-block.self.machine c.args.reel c.in-Some.block c.loop-block.block-iterator.start c.in-Some.ensures.steps.0 inv.1.1.1.1,
          ),
        ),
      ),
    )

-- No reel has so many blocks that the numbers end.
pub returns-in-None-clause-says : goal.returns-in-None-clause-says
returns-in-None-clause-says g c =
    absurd (omega (arith, c.in-None.ensures.steps.0, c.loop-block.invariant.1.1.1.0, (reel_sound (g.D.Deck.meaning c.args.deck.now) (c.args.reel - 1) (g.met.D.Deck.sound c.args.deck.now).reels).0))

pub returns-then-not-branch-clause-says : goal.returns-then-not-branch-clause-says
returns-then-not-branch-clause-says g c =
    let set = g.D.Deck.meaning c.args.deck.now in
    let inv = c.loop-block.invariant in
    let none = same_look (g.D.Deck.meaning c.loop-block.deck) set c.args.reel c.in-Some.block c.in_ok-take.field-0 false inv.0 c.in_ok-take.ensures.more c.if-not-branch.true in
    let says = rw inv.0 at c.in_ok-take.ensures.says in
    feed_last set c.loop-block.self.machine c.args.reel c.in-Some.block c.requires.0 c.requires.1 (omega (arith, c.in-Some.ensures.steps.0)) c.take.new.self.machine none says
    ∙ from_here set c.loop-block.self.machine c.args.reel c.in-Some.block c.loop-block.block-iterator.start c.in-Some.ensures.steps.0 inv.1.1.1.1
