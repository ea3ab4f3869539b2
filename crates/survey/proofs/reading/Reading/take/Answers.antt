use Rattle.std.proofs.Common.{rules, ◌≡◌, ℕ, Bool, Option, Ok, Err, Result, sym, refl, ap, ◌∙◌, arith}
use Rattle.std.specs.Result.{IsOk, MatchResult}
use Rattle.std.proofs.lemmas.Result.{err_from_is_err_and}
use Rattle.deck.specs.Tape.{look}
use Rattle.deck.specs.declared.Kind.{Kind}
use Rattle.deck.specs.declared.Short.{Short}
use Rattle.deck.proofs.Looks.{never_short, look_sound}
use Rattle.machine.specs.Machines.{step, stepped}
use Rattle.machine.specs.declared.machine.Machine.{Machine}
use Rattle.machine.specs.declared.machine.Place.{Place}
use Rattle.records.specs.declared.fault.Cause.{Cause}
use Rattle.survey.specs.declared.fault.TapeFault.{TapeFault}
use Rattle.survey.specs.Surveys.{shown_in, placed, told_step, told_fault}
use Rattle.survey.proofs.Seeing.{shown-fetched, told_is}
use Rattle.survey.proofs.reading.Reading.take.Goals as goal

is_shown : (r : Result (Option (Kind ℕ)) Short) → ((e : Short) → r ≡ Err e → ⊥) → IsOk r
is_shown (Ok kind) never = refl
is_shown (Err e) never = absurd (never e refl)

pub unwrap-kind-requires : goal.unwrap-kind-requires
unwrap-kind-requires g c =
    let set = g.D.Deck.meaning c.args.deck.now in
    is_shown c.fetch.result
    (λ s is. never_short (look set c.args.at.reel c.args.at.block) _ s
    (λ xs e. omega (arith, (look_sound set c.args.at.reel c.args.at.block xs (g.met.D.Deck.sound c.args.deck.now).reels e).1))
    (sym c.fetch.ensures.value ∙ is))

failed : (s : Result (Unit {0}) Cause) {P : Unit {0} → Type 0} {Q : Cause → Type 0} (m : Machine) (at : Place) (f : TapeFault) → MatchResult s P Q → ((u : Unit {0}) → P u → ⊥) → ((e : Cause) → Q e → f ≡ record { cause = e; reel = at.reel; block = at.block }) → told_step {X = Bool} (Err f) m ≡ placed at (stepped s m)
failed (Ok u) m at f cases never is = absurd (never u cases)
failed (Err e) m at f cases never is = ap Err (ap told_fault (is e cases) ∙ told_is e at)

pub returns-in_err-map_err-clause-says : goal.returns-in_err-map_err-clause-says
returns-in_err-map_err-clause-says g c =
    let set = g.D.Deck.meaning c.args.deck.now in
    let o = look set c.args.at.reel c.args.at.block in
    let f = shown-fetched o c.args.self.now.scratch c.unwrap-kind.result (sym c.fetch.ensures.value ∙ c.unwrap-kind.ensures) in
    let saw = c.seen_as.ensures ∙ ap (shown_in c.unwrap-kind.result) c.fetch.ensures.bytes ∙ f.0 in
    let p = err_from_is_err_and c.from_residual.result c.from_residual.ensures.1 in
    let q = c.in_err-map_err.ensures.cases in
    let says = c.step.ensures.says ∙ ap (step c.args.self.now.machine c.args.at) saw in
    rw (p.1, p.2) (failed c.step.result c.step.new.self c.args.at c.in_err-map_err.field-0.0 q (λ u z. search rules) (λ e z. search rules) ∙ ap (placed c.args.at) says)
