use Rattle.std.proofs.Common.{◌≡◌, ◌+◌, ◌-◌, ◌<◌, ◌≤◌, [], length, get_or, Ok, Err, sym, ap, ◌∙◌, subst, arith}
use Rattle.std.proofs.lemmas.Result.{err_from_is_err_and}
use Rattle.machine.specs.Findings.{start}
use Rattle.survey.specs.declared.reading.Reading.{Reading}
use Rattle.survey.specs.Surveys.{feed_reel, feed, surveyed, told_fault}
use Rattle.survey.proofs.Feeding.{feed_over, reel_fault, reel_more, fault_of_set, accepted_of_set}
use Rattle.survey.proofs.Judging.{judged}
use Rattle.survey.proofs.reading.survey.Given.{Over}
use Rattle.survey.proofs.reading.survey.Goals as goal
use Rattle.survey.proofs.reading.survey.Goals.{else-loop-reel-test, then-loop-reel-test+in_ok-read_reel+else-reel-reels}

pub returns-in_err-read_reel : goal.returns-in_err-read_reel
returns-in_err-read_reel g c =
    let set = g.D.Deck.meaning c.reels-reels.new.self in
    let inv = c.loop-reel.invariant in
    let p = err_from_is_err_and c.from_residual.result c.from_residual.ensures.1 in
    let e = told_fault c.in_err-read_reel.field-0.0 in
    let says = subst (λ s. Err e ≡ feed_reel c.loop-reel.reading.machine c.loop-reel.reel 1 (get_or s (c.loop-reel.reel - 1) [])) inv.0 c.in_err-read_reel.ensures.says in
    let there : c.loop-reel.reel ≤ length set = omega (arith, c.loop-reel-test.true, c.reels-reels.ensures.value, ap length c.reels-reels.ensures.stays) in
    let fault = reel_fault set c.loop-reel.reading.machine c.loop-reel.reel c.loop-reel.auto.reel there e says in
    let is : Err e ≡ surveyed (g.D.Deck.meaning c.args.deck.now) = fault_of_set set e (fault ∙ inv.1) ∙ ap surveyed c.reels-reels.ensures.stays in
    record {
      stays = c.read_reel.ensures.stays ∙ inv.0 ∙ c.reels-reels.ensures.stays;
      says = rw (p.1, p.2) is;
      judges = rw (p.1, p.2) (judged (g.D.Deck.meaning c.args.deck.now) (Err e) (g.met.D.Deck.sound c.args.deck.now) is);
    }

pub loop-reel-preserved : goal.loop-reel-preserved
loop-reel-preserved g c =
    let set = g.D.Deck.meaning c.reels-reels.new.self in
    let inv = c.loop-reel.invariant in
    let says = subst (λ s. Ok c.read_reel.new.self.machine ≡ feed_reel c.loop-reel.reading.machine c.loop-reel.reel 1 (get_or s (c.loop-reel.reel - 1) [])) inv.0 c.in_ok-read_reel.ensures.says in
    let there : c.loop-reel.reel ≤ length set = omega (arith, c.loop-reel-test.true, c.reels-reels.ensures.value, ap length c.reels-reels.ensures.stays) in
    let more = reel_more set c.loop-reel.reading.machine c.loop-reel.reel c.loop-reel.auto.reel there c.read_reel.new.self.machine says in
    (c.read_reel.ensures.stays ∙ inv.0, more ∙ inv.1)

-- All reels have been read: there was none, or the last one has just been.
read : (g : Over) (c : goal.After-accepted g) → let set = g.D.Deck.meaning c.reels-reels.new.self in (g.D.Deck.meaning c.loop-reel-test.deck ≡ set) × (Ok c.loop-reel-test.reading.machine ≡ feed (start (length set)) 1 set)
read g c =
    let set = g.D.Deck.meaning c.reels-reels.new.self in
    let inv = c.loop-reel.invariant in
    elim c.loop-reel-test.branch [
      | else-loop-reel-test w ↦
          let over : length set < c.loop-reel.reel = omega (arith, c.reels-reels.ensures.value, ap length c.reels-reels.ensures.stays) in
          (ap g.D.Deck.meaning w.deck-is ∙ inv.0, ap (λ (r : Reading). Ok r.machine) w.reading-is ∙ sym (feed_over set c.loop-reel.reading.machine c.loop-reel.reel over) ∙ inv.1)
      | then-loop-reel-test+in_ok-read_reel+else-reel-reels w ↦
          let there : c.loop-reel.reel ≤ length set = omega (arith, c.reels-reels.ensures.value, ap length c.reels-reels.ensures.stays) in
          let over : length set < c.loop-reel.reel + 1 = omega (arith, c.reels-reels.ensures.value, ap length c.reels-reels.ensures.stays) in
          let says = subst (λ s. Ok w.read_reel.new.self.machine ≡ feed_reel c.loop-reel.reading.machine c.loop-reel.reel 1 (get_or s (c.loop-reel.reel - 1) [])) inv.0 w.in_ok-read_reel.ensures.says in
          let more = reel_more set c.loop-reel.reading.machine c.loop-reel.reel c.loop-reel.auto.reel there w.read_reel.new.self.machine says in
          (ap g.D.Deck.meaning w.deck-is ∙ w.read_reel.ensures.stays ∙ inv.0, ap (λ (r : Reading). Ok r.machine) w.reading-is ∙ sym (feed_over set w.read_reel.new.self.machine (c.loop-reel.reel + 1) over) ∙ more ∙ inv.1)
    ]

pub returns : goal.returns
returns g c =
    let set = g.D.Deck.meaning c.reels-reels.new.self in
    let all = read g c in
    let is : Ok c.accepted.result ≡ surveyed (g.D.Deck.meaning c.args.deck.now) = ap Ok c.accepted.ensures ∙ accepted_of_set set c.loop-reel-test.reading.machine all.1 ∙ ap surveyed c.reels-reels.ensures.stays in
    record {
      stays = all.0 ∙ c.reels-reels.ensures.stays;
      says = is;
      judges = judged (g.D.Deck.meaning c.args.deck.now) (Ok c.accepted.result) (g.met.D.Deck.sound c.args.deck.now) is;
    }
