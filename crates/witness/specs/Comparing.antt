-- What `==` says of two answers: whether they are the same answer, and leave the same bytes in their buffers.
use Rattle.std.specs.Prelude.{◌≡◌, ◌==◌, Bool, true, Result, Ok, Err, refl}
use Rattle.std.proofs.Common.{true≢false, sym}
use Rattle.std.specs.Cmp.{IsPartialEquivalence}
use Rattle.std.specs.Cmp.Lexicographic.{pointwise}
use Rattle.std.specs.Ordering.{on, eq_of_both}
use Rattle.std.specs.Result.{result_eq}
use Rattle.reader.specs.declared.call.Answer.{Answer}
use Rattle.reader.specs.declared.refusal.Refusal.{Refusal}
use Rattle.reader.specs.contracts.call.AnswerPartialEq.TheImpl as answers
use Rattle.reader.specs.contracts.refusal.RefusalPartialEq.TheImpl as refusals
use Rattle.witness.specs.contracts.calls.AnsweredPartialEq.TheImpl.Laws as answered_laws
use Rattle.witness.specs.declared.calls.Answered.{Answered}

abbrev pub same_answer : Result Answer Refusal → Result Answer Refusal → Bool
same_answer = result_eq (answers.ghosts).eq (refusals.ghosts).eq

abbrev pub same_answered : Answered → Answered → Bool
same_answered = eq_of_both (on (λ a. a.answer) same_answer) (on (λ a. a.buffer.items) (pointwise ◌==◌))

-- It holds both ways round, and along a chain. Of results, where it does so of both of their sides:
module _ {T X : Type 0} {E : T → T → Bool} {F : X → X → Bool} (e : IsPartialEquivalence E) (f : IsPartialEquivalence F) where
  both_ways : (x y : Result T X) → result_eq E F x y ≡ result_eq E F y x
  both_ways (Ok x) (Ok y) = e.symm x y
  both_ways (Ok x) (Err y) = refl
  both_ways (Err x) (Ok y) = refl
  both_ways (Err x) (Err y) = f.symm x y

  along : (x y z : Result T X) → result_eq E F x y ≡ true → result_eq E F y z ≡ true → result_eq E F x z ≡ true
  along (Ok x) (Ok y) (Ok z) p q = e.trans x y z p q
  along (Ok x) (Ok y) (Err z) p q = q
  along (Ok x) (Err y) (Ok z) p q = absurd (true≢false (sym p))
  along (Ok x) (Err y) (Err z) p q = p
  along (Err x) (Ok y) (Ok z) p q = p
  along (Err x) (Ok y) (Err z) p q = absurd (true≢false (sym p))
  along (Err x) (Err y) (Ok z) p q = q
  along (Err x) (Err y) (Err z) p q = f.trans x y z p q

  results_per : IsPartialEquivalence (result_eq E F)
  results_per = record { symm = both_ways; trans = along }

-- and of answers, by the law of their derived `==`.
pub compares : IsPartialEquivalence same_answered
compares = answered_laws.laws-law
