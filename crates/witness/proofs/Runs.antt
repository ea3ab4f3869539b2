-- What a reader remembers after a list of calls is what the definition of replies says.
use Rattle.std.proofs.Common.{◌≡◌, ℕ, ◌+◌, min, Bool, true, false, cond, ◌||◌, List, [], ◌∷◌, ◌++◌, map, length, None, Ok, Err, vec_items, Option, sym, refl, ap, ◌∙◌, append_assoc, append-nil, arith}
use Rattle.std.proofs.lemmas.List.{map_push}
use Rattle.std.proofs.lemmas.Bool.Decides.{nat_tests}
use Rattle.deck.specs.Tape.{TapeSet}
use Rattle.machine.specs.declared.accepted.Accepted.{Accepted}
use Rattle.survey.specs.Surveys.{surveyed}
use Rattle.reader.specs.Answers.{Memory, Outcome, answer, told_answer}
use Rattle.reader.specs.Bodies.{Delivery, line_answer, accepted_by, raised}
use Rattle.reader.specs.declared.call.Call.{Call}
use Rattle.reader.specs.declared.call.Call.TheVariants.{Survey, Band, Ident, Line, Sheet, Tally}
use Rattle.witness.specs.Replies.{Question, is_survey, has_survey, accepted_after, one_if, delivers, lines_behind, remembered, reply_of, reply, replies_behind, replies, asked, answered}
use Rattle.witness.specs.declared.calls.Answered.{Answered}
use Rattle.witness.specs.declared.calls.Asked.{Asked}

pub pair : {X Y : Type 0} {a b : X} {c d : Y} → a ≡ b → c ≡ d → ◌≡◌ {A = X × Y} (a, c) (b, d)
pair p q = cc

same_memory : {a b : Option Accepted} {s t : ℕ} → a ≡ b → s ≡ t → ◌≡◌ {A = Memory} record { accepted = a; tally = s } record { accepted = b; tally = t }
same_memory p q = cc

or_false : (b : Bool) → (b || false) ≡ b
or_false true = refl
or_false false = refl

or_true : (b : Bool) → (b || true) ≡ true
or_true true = refl
or_true false = refl

or_assoc : (a b c : Bool) → ((a || b) || c) ≡ (a || (b || c))
or_assoc true b c = refl
or_assoc false b c = refl

-- One call more at the end.
survey_more : (past : List Question) (q : Question) → has_survey (past ++ q ∷ []) ≡ (has_survey past || is_survey q.0)
survey_more [] q = or_false (is_survey q.0)
survey_more (p ∷ past) q = ap (λ b. is_survey p.0 || b) (survey_more past q) ∙ sym (or_assoc (is_survey p.0) (has_survey past) (is_survey q.0))

lines_more : (set : TapeSet) (before past : List Question) (q : Question) → lines_behind set before (past ++ q ∷ []) ≡ lines_behind set before past + delivers set (before ++ past) q.0 (length q.1)
lines_more set before [] q = omega (arith, ap (λ b. delivers set b q.0 (length q.1)) (append-nil before))
lines_more set before (p ∷ past) q =
    let rest = lines_more set (before ++ p ∷ []) past q in
    let same : delivers set ((before ++ p ∷ []) ++ past) q.0 (length q.1) ≡ delivers set (before ++ p ∷ past) q.0 (length q.1) = ap (λ b. delivers set b q.0 (length q.1)) (append_assoc before (p ∷ []) past) in
    omega (arith, rest, same)

-- Accepted is what a survey among the calls accepts.
accepted_more : (set : TapeSet) (past : List Question) (q : Question) → is_survey q.0 ≡ false → accepted_after set (past ++ q ∷ []) ≡ accepted_after set past
accepted_more set past q e =
    ap (λ b. cond b (accepted_by (surveyed set)) None) (survey_more past q ∙ ap (λ b. has_survey past || b) e ∙ or_false (has_survey past))

accepted_survey : (set : TapeSet) (past : List Question) (buffer : List ℕ) → accepted_after set (past ++ (Survey, buffer) ∷ []) ≡ accepted_by (surveyed set)
accepted_survey set past buffer = ap (λ b. cond b (accepted_by (surveyed set)) None) (survey_more past (Survey, buffer) ∙ or_true (has_survey past))

-- The tally after a delivery.
tally_raised : (d : Delivery) (n : ℕ) → raised d (min n 9223372036854775807) ≡ min (n + one_if d) 9223372036854775807
tally_raised (Ok body) n = grind (arith, nat_tests)
tally_raised (Err e) n = ap (λ k. min k 9223372036854775807) (omega arith)

-- What is remembered after one call more.
module _ (set : TapeSet) (past : List Question) where
  quiet : (q : Question) → is_survey q.0 ≡ false → delivers set past q.0 (length q.1) ≡ 0 → remembered set past ≡ remembered set (past ++ q ∷ [])
  quiet q s d =
      let lines : lines_behind set [] past ≡ lines_behind set [] (past ++ q ∷ []) = omega (arith, lines_more set [] past q, d) in
      same_memory (sym (accepted_more set past q s)) (ap (λ n. min n 9223372036854775807) lines)

  pub memory_more : (c : Call) (buffer : List ℕ) → (answer set (remembered set past) c buffer).memory ≡ remembered set (past ++ (c, buffer) ∷ [])
  memory_more Survey buffer =
      let lines : lines_behind set [] past ≡ lines_behind set [] (past ++ (Survey, buffer) ∷ []) = omega (arith, lines_more set [] past (Survey, buffer)) in
      same_memory (sym (accepted_survey set past buffer)) (ap (λ n. min n 9223372036854775807) lines)
  memory_more (Band k) buffer = quiet (Band k, buffer) refl refl
  memory_more Ident buffer = quiet (Ident, buffer) refl refl
  memory_more (Line band n) buffer =
      let d = line_answer set (accepted_after set past) band n (length buffer) in
      let lines : lines_behind set [] past + one_if d ≡ lines_behind set [] (past ++ (Line band n, buffer) ∷ []) = sym (lines_more set [] past (Line band n, buffer)) in
      same_memory (sym (accepted_more set past (Line band n, buffer) refl)) (tally_raised d (lines_behind set [] past) ∙ ap (λ k. min k 9223372036854775807) lines)
  memory_more (Sheet band kind index) buffer = quiet (Sheet band kind index, buffer) refl refl
  memory_more Tally buffer = quiet (Tally, buffer) refl refl

-- The replies to one call more.
replies_more : (set : TapeSet) (before qs : List Question) (q : Question) → replies_behind set before (qs ++ q ∷ []) ≡ replies_behind set before qs ++ reply set (before ++ qs) q ∷ []
replies_more set before [] q = ap (λ b. reply set b q ∷ []) (sym (append-nil before))
replies_more set before (p ∷ qs) q =
    ap (λ rs. reply set before p ∷ rs) (replies_more set (before ++ p ∷ []) qs q ∙ ap (λ b. replies_behind set (before ++ p ∷ []) qs ++ reply set b q ∷ []) (append_assoc before (p ∷ []) qs))

-- A turn of the loop: the reader was asked one call more, and the answer was put at the end.
module _ (set was now : TapeSet) (m n : Memory) (calls : List Asked) (a : Asked) (answers later : List Answered) (r : Answered) where
  pub turn : was ≡ set → m ≡ remembered set (map asked calls) → map answered answers ≡ replies set (map asked calls) → now ≡ was → ◌≡◌ {A = Outcome} record { said = told_answer r.answer; buffer = vec_items r.buffer; memory = n } (answer was m a.call (vec_items a.buffer)) → later ≡ answers ++ r ∷ [] → (now ≡ set) × ((n ≡ remembered set (map asked (calls ++ a ∷ []))) × (map answered later ≡ replies set (map asked (calls ++ a ∷ []))))
  turn e em er stays outcome pushed =
      let past = map asked calls in
      let more : map asked (calls ++ a ∷ []) ≡ past ++ asked a ∷ [] = map_push asked calls a in
      let at : answer was m a.call (vec_items a.buffer) ≡ answer set (remembered set past) a.call (vec_items a.buffer) = ap (λ s. answer s m a.call (vec_items a.buffer)) e ∙ ap (λ k. answer set k a.call (vec_items a.buffer)) em in (
        stays ∙ e,
        (
          ap (λ o. o.memory) (outcome ∙ at) ∙ memory_more set past a.call (vec_items a.buffer) ∙ ap (remembered set) (sym more),
          ap (map answered) pushed ∙ map_push answered answers r
              ∙ ap (λ rs. rs ++ answered r ∷ []) er
              ∙ ap (λ x. replies set past ++ x ∷ []) (ap reply_of (outcome ∙ at))
              ∙ sym (replies_more set [] past (asked a))
              ∙ ap (replies set) (sym more),
        ),
      )
