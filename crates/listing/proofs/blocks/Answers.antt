use Rattle.std.proofs.Common.{◌+◌, length, string_bytes, refl, ap, ◌∙◌, arith}
use Rattle.std.proofs.lemmas.Slice.{pushed}
use Rattle.listing.specs.Blocks.{blocks_text}
use Rattle.listing.proofs.Listed.{listed_next, listed_all}
use Rattle.listing.proofs.blocks.Goals as goal
use Rattle.listing.proofs.blocks.Goals.{else-loop-reel-test, then-loop-reel-test+in_ok-listing+in_ok-push_str+else-reel-reel-end}

pub loop-reel-preserved : goal.loop-reel-preserved
loop-reel-preserved g c =
    let set = g.D.Deck.meaning c.reels-reel-end.new.self in (
      c.reel_listing.ensures.stays ∙ c.loop-reel.invariant.0,
      listed_next set (g.D.Deck.meaning c.loop-reel.deck) c.loop-reel.reel (string_bytes c.loop-reel.text) c.as_str.result.now (string_bytes c.push_str.new.self)
          c.loop-reel.invariant.1 (omega (arith, c.reels-reel-end.ensures.value, ap length c.reels-reel-end.ensures.stays)) c.loop-reel.invariant.0
          (c.as_str.ensures.value ∙ c.in_ok-listing.ensures.text)
          (pushed c.as_str.result.now refl c.in_ok-push_str.was c.push_str.ensures.bytes),
    )

pub returns : goal.returns
returns g c =
    let set = g.D.Deck.meaning c.reels-reel-end.new.self in
    let same = c.reels-reel-end.ensures.stays in
    elim c.loop-reel-test.branch [
      | else-loop-reel-test w ↦ record {
        stays = ap g.D.Deck.meaning w.deck-is ∙ c.loop-reel.invariant.0 ∙ same;
        text = ap string_bytes w.text-is
            ∙ listed_all set c.loop-reel.reel (string_bytes c.loop-reel.text) c.loop-reel.invariant.1 (omega (arith, w.loop-reel-test.false, c.reels-reel-end.ensures.value, ap length same))
            ∙ ap blocks_text same;
      }
      | then-loop-reel-test+in_ok-listing+in_ok-push_str+else-reel-reel-end w ↦
          let last = listed_next set (g.D.Deck.meaning c.loop-reel.deck) c.loop-reel.reel (string_bytes c.loop-reel.text) w.as_str.result.now (string_bytes w.push_str.new.self)
          c.loop-reel.invariant.1 (omega (arith, w.loop-reel-test.true, c.reels-reel-end.ensures.value, ap length same)) c.loop-reel.invariant.0
          (w.as_str.ensures.value ∙ w.in_ok-listing.ensures.text)
          (pushed w.as_str.result.now refl w.in_ok-push_str.was w.push_str.ensures.bytes) in
          record {
            stays = ap g.D.Deck.meaning w.deck-is ∙ w.reel_listing.ensures.stays ∙ c.loop-reel.invariant.0 ∙ same;
            text = ap string_bytes w.text-is
                ∙ listed_all set (c.loop-reel.reel + 1) (string_bytes w.push_str.new.self) last (omega (arith, c.reels-reel-end.ensures.value, ap length same))
                ∙ ap blocks_text same;
          }
    ]
