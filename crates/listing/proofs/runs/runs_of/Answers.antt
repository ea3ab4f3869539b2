use Rattle.std.proofs.Common.{◌≡◌, ◌+◌, ◌++◌, string_bytes, Some, refl, ap, ◌∙◌, arith, rules}
use Rattle.std.proofs.lemmas.Slice.{pushed}
use Rattle.listing.specs.Blocks.{run_text, reel_of}
use Rattle.listing.proofs.Going.{going_start, going_inside, going_same, going_next, going_done}
use Rattle.listing.proofs.Reels.{few-blocks, kind_on}
use Rattle.listing.proofs.runs.runs_of.Goals as goal

pub loop-kind-init : goal.loop-kind-init
loop-kind-init g c =
    let set = g.D.Deck.meaning c.args.deck.now in
    let kind = kind_on set set c.args.reel 1 c.kind-kind.result refl c.kind-kind.ensures.value in
    (c.kind-kind.ensures.stays, going_start (reel_of set c.args.reel) c.kind-kind.result (string_bytes c.new-text.result) kind c.new-text.ensures.bytes)

pub overflow_add-blocks : goal.overflow_add-blocks
overflow_add-blocks g c =
    omega (arith, going_inside _ _ _ _ _ _ c.loop-kind.invariant.1 c.in-Some.is, few-blocks (g.D.Deck.meaning c.args.deck.now) c.args.reel (g.met.D.Deck.sound c.args.deck.now))

pub overflow_add-blocks-in-Some : goal.overflow_add-blocks-in-Some
overflow_add-blocks-in-Some g c =
    omega (arith, going_inside _ _ _ _ _ _ c.loop-kind.invariant.1 c.in-Some.is, few-blocks (g.D.Deck.meaning c.args.deck.now) c.args.reel (g.met.D.Deck.sound c.args.deck.now))

pub loop-kind-smaller-then-ne : goal.loop-kind-smaller-then-ne
loop-kind-smaller-then-ne g c = omega (arith, going_inside _ _ _ _ _ _ c.loop-kind.invariant.1 c.in-Some.is)

pub loop-kind-preserved-then-ne : goal.loop-kind-preserved-then-ne
loop-kind-preserved-then-ne g c =
    let kind = kind_on _ _ c.args.reel (c.loop-kind.blocks + 1 + 1) c.kind-kind-in-Some.result c.loop-kind.invariant.0 c.kind-kind-in-Some.ensures.value in
    let other : (c.kind-kind-in-Some.result ≡ Some c.in-Some.run') → ⊥ = search rules in
    let line : c.as_str.result.now ≡ run_text (c.loop-kind.count + 1) c.in-Some.run' = cc (c.in_ok-line.ensures) in
    let text = pushed c.as_str.result.now refl c.in_ok-push_str.was c.push_str.ensures.bytes ∙ ap (λ t. string_bytes c.loop-kind.text ++ t) line in
    (c.kind-kind-in-Some.ensures.stays ∙ c.loop-kind.invariant.0, going_next _ _ _ _ _ _ _ _ c.loop-kind.invariant.1 c.in-Some.is kind other text)

pub loop-kind-smaller : goal.loop-kind-smaller
loop-kind-smaller g c = omega (arith, going_inside _ _ _ _ _ _ c.loop-kind.invariant.1 c.in-Some.is)

pub loop-kind-preserved : goal.loop-kind-preserved
loop-kind-preserved g c =
    let kind = kind_on _ _ c.args.reel (c.loop-kind.blocks + 1 + 1) c.kind-kind-in-Some.result c.loop-kind.invariant.0 c.kind-kind-in-Some.ensures.value in
    let same : c.kind-kind-in-Some.result ≡ Some c.in-Some.run' = search rules in
    (c.kind-kind-in-Some.ensures.stays ∙ c.loop-kind.invariant.0, going_same _ _ _ _ _ _ _ c.loop-kind.invariant.1 c.in-Some.is kind same)

pub returns-clause-blocks : goal.returns-clause-blocks
returns-clause-blocks g c = omega (arith, (going_done _ _ _ _ _ c.loop-kind.invariant.1 c.in_default.is).0)

pub returns-clause-text : goal.returns-clause-text
returns-clause-text g c = (going_done _ _ _ _ _ c.loop-kind.invariant.1 c.in_default.is).1
