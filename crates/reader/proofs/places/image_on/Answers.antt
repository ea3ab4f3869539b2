use Rattle.std.proofs.Common.{◌≡◌, ◌+◌, ◌-◌, leb, ◌∷◌, get_or, Some, sym, ap, ◌∙◌, rules, tests}
use Rattle.std.proofs.lemmas.Iterator.{YieldsList-from_slice}
use Rattle.std.proofs.lemmas.Iterator.Search.{position_from_yields_List}
use Rattle.reader.specs.Finding.{spot}
use Rattle.reader.proofs.Indexes.{image_none, image_some, shifted}
use Rattle.reader.proofs.places.image_on.Goals as goal
use Rattle.reader.proofs.places.image_on.Goals.{then-i-eq0, else-i-eq0}

pub returns-in_err-i-clause-finds : goal.returns-in_err-i-clause-finds
returns-in_err-i-clause-finds c =
    let ran = position_from_yields_List (leb c.args.k) _ _ c.position.result c.position.ensures.ran (YieldsList-from_slice c.args.through.now cc) (λ x b q k. search (rules, tests)) in
    c.from_residual.ensures ∙ sym (image_none c.args.k c.args.through.now (sym ran ∙ c.in_err-i.was))

pub returns-clause-finds : goal.returns-clause-finds
returns-clause-finds c =
    let ran = position_from_yields_List (leb c.args.k) _ _ c.position.result c.position.ensures.ran (YieldsList-from_slice c.args.through.now cc) (λ x b q k. search (rules, tests)) in
    let is = image_some c.args.k c.args.through.now c.in_ok-i.i (sym ran ∙ c.in_ok-i.was) in
    let before : c.if-i-eq0.before ≡ get_or (0 ∷ c.args.through.now) c.in_ok-i.i 0 =
    elim c.if-i-eq0.branch [
      | then-i-eq0 w ↦ w.before-is ∙ ap (λ n. get_or (0 ∷ c.args.through.now) n 0) (sym w.if-i-eq0.true)
      | else-i-eq0 w ↦ w.before-is ∙ shifted 0 c.args.through.now c.in_ok-i.i w.if-i-eq0.false
    ] in
    ap (λ n. Some (spot (c.in_ok-i.i + 1) (c.args.k - n))) before ∙ sym is
