use Rattle.std.proofs.Common.{◌+◌, length, vec_items, refl, ap, ◌∙◌, arith}
use Rattle.std.proofs.lemmas.Slice.{pushed}
use Rattle.image.specs.Strip.{encoded}
use Rattle.turning.proofs.Strips.{written_next, written_all}
use Rattle.turning.proofs.writing.strip_bytes.Goals as goal
use Rattle.turning.proofs.writing.strip_bytes.Goals.{else-loop-reel-test, then-loop-reel-test+in_ok-written+in_ok-extend_from_slice+else-reel-reel-end}

pub loop-reel-preserved : goal.loop-reel-preserved
loop-reel-preserved g c =
    let set = g.D.Deck.meaning c.reels-reel-end.new.self in (
      c.reel_bytes.ensures.stays ∙ c.loop-reel.invariant.0,
      written_next set (g.D.Deck.meaning c.loop-reel.deck) c.loop-reel.reel (vec_items c.loop-reel.bytes) c.as_slice.result.now (vec_items c.extend_from_slice.new.self)
          c.loop-reel.invariant.1 (omega (arith, c.reels-reel-end.ensures.value, ap length c.reels-reel-end.ensures.stays)) c.loop-reel.invariant.0
          (c.as_slice.ensures.value ∙ c.in_ok-written.ensures.bytes)
          (pushed c.as_slice.result.now refl c.in_ok-extend_from_slice.was c.extend_from_slice.ensures.items),
    )

pub returns-clause-bytes : goal.returns-clause-bytes
returns-clause-bytes g c =
    let set = g.D.Deck.meaning c.reels-reel-end.new.self in
    let same = c.reels-reel-end.ensures.stays in
    elim c.loop-reel-test.branch [
      | else-loop-reel-test w ↦
          ap vec_items w.bytes-is
          ∙ written_all set c.loop-reel.reel (vec_items c.loop-reel.bytes) c.loop-reel.invariant.1 (omega (arith, w.loop-reel-test.false, c.reels-reel-end.ensures.value, ap length same))
          ∙ ap encoded same
      | then-loop-reel-test+in_ok-written+in_ok-extend_from_slice+else-reel-reel-end w ↦
          let last = written_next set (g.D.Deck.meaning c.loop-reel.deck) c.loop-reel.reel (vec_items c.loop-reel.bytes) w.as_slice.result.now (vec_items w.extend_from_slice.new.self)
          c.loop-reel.invariant.1 (omega (arith, w.loop-reel-test.true, c.reels-reel-end.ensures.value, ap length same)) c.loop-reel.invariant.0
          (w.as_slice.ensures.value ∙ w.in_ok-written.ensures.bytes)
          (pushed w.as_slice.result.now refl w.in_ok-extend_from_slice.was w.extend_from_slice.ensures.items) in
          ap vec_items w.bytes-is
          ∙ written_all set (c.loop-reel.reel + 1) (vec_items w.extend_from_slice.new.self) last (omega (arith, c.reels-reel-end.ensures.value, ap length same))
          ∙ ap encoded same
    ]
