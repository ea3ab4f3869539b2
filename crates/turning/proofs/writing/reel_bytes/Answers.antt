use Rattle.std.proofs.Common.{◌≡◌, ◌++◌, Some, None, vec_items, sym, refl, ap, ◌∙◌, arith, rules}
use Rattle.std.specs.List.{flat_map}
use Rattle.std.proofs.lemmas.Slice.{pushed}
use Rattle.deck.specs.Tape.{from_one}
use Rattle.deck.specs.Words.{word}
use Rattle.image.specs.Strip.{block_bytes}
use Rattle.listing.specs.Blocks.{reel_of}
use Rattle.listing.proofs.Reels.{few-blocks}
use Rattle.turning.specs.Written.{block_at, told_bytes}
use Rattle.turning.proofs.Strips.{on, going_next, going_done, going_all}
use Rattle.turning.proofs.writing.reel_bytes.Goals as goal
use Rattle.turning.proofs.writing.reel_bytes.Goals.{else-loop-block-test, then-loop-block-test+in_ok-stored+in_default}

pub loop-block-preserved : goal.loop-block-preserved
loop-block-preserved g c =
    let set = g.D.Deck.meaning c.args.deck.now in
    let xs = reel_of set c.args.reel in
    let stored : Some (vec_items c.in-Some.stored) ≡ block_at (from_one xs c.loop-block.block) =
    on (g.D.Deck.meaning c.loop-block.deck) set c.args.reel c.loop-block.block (Some (vec_items c.in-Some.stored)) c.loop-block.invariant.0 (sym (ap told_bytes c.in-Some.is) ∙ c.in_ok-stored.ensures.bytes) in
    let after = pushed c.as_slice.result.now refl c.in_ok-extend_from_slice.was c.extend_from_slice.ensures.items ∙ ap (λ t. vec_items c.loop-block.bytes ++ t) c.as_slice.ensures.value in (
      c.block_bytes.ensures.stays ∙ c.loop-block.invariant.0,
      going_next xs c.loop-block.block (vec_items c.loop-block.bytes) (vec_items c.in-Some.stored) (vec_items c.extend_from_slice.new.self) c.loop-block.invariant.1 stored after,
    )

pub returns-clause-bytes : goal.returns-clause-bytes
returns-clause-bytes g c =
    let set = g.D.Deck.meaning c.args.deck.now in
    let xs = reel_of set c.args.reel in
    let bytes = vec_items c.loop-block.bytes in
    let all : bytes ≡ flat_map block_bytes xs =
    elim c.loop-block-test.branch [
      | else-loop-block-test w ↦ going_all xs c.loop-block.block bytes c.loop-block.invariant.1 (omega (arith, w.loop-block-test.false, few-blocks set c.args.reel (g.met.D.Deck.sound c.args.deck.now)))
      | then-loop-block-test+in_ok-stored+in_default w ↦
          going_done xs c.loop-block.block bytes c.loop-block.invariant.1
          (on (g.D.Deck.meaning c.loop-block.deck) set c.args.reel c.loop-block.block None c.loop-block.invariant.0 (sym (ap told_bytes w.in_default.is) ∙ w.in_ok-stored.ensures.bytes))
    ] in
    let end : c.to_be_bytes.result ≡ word 4294967294 = search rules in
    pushed c.to_be_bytes.result refl c.in_ok-extend_from_slice-2.was c.extend_from_slice-2.ensures.items ∙ ap (λ t. bytes ++ t) end ∙ ap (λ t. t ++ word 4294967294) all
