-- The promise over two sets.
use Rattle.std.proofs.Common.{◌≡◌, ℕ, List, [], ◌∷◌, ◌++◌, sym, refl, ap, ◌∙◌, append_assoc, append-nil}
use Rattle.deck.specs.Tape.{TapeSet, Sound}
use Rattle.survey.specs.Pictures.{Picture, Sheets, picture, sheets}
use Rattle.survey.specs.Surveys.{surveyed}
use Rattle.survey.proofs.Judging.{judged}
use Rattle.reader.specs.declared.call.Call.{Call}
use Rattle.reader.specs.declared.call.Call.TheVariants.{Survey, Band, Ident, Line, Sheet, Tally}
use Rattle.turner.specs.Laws.{pile}
use Rattle.turner.proofs.Keeping.{piles}
use Rattle.witness.specs.Pictured.{pictured_reply, pictured_behind}
use Rattle.witness.specs.Promises.{OfPicture, Five, ToldApart, UnderTurners, Promise}
use Rattle.witness.specs.Replies.{Question, reply, replies_behind}
use Rattle.witness.proofs.Apart.{pictures_same, both_same}
use Rattle.reader.proofs.Proper.{proper}
use Rattle.witness.proofs.Telling.{told_after}

-- The five calls say nothing of the sheets.
no_sheet : (p : Picture) (s u : List Sheets) (past : List Question) (c : Call) (buffer : List ℕ) → OfPicture c → pictured_reply p s past (c, buffer) ≡ pictured_reply p u past (c, buffer)
no_sheet p s u past Survey buffer f = refl
no_sheet p s u past (Band k) buffer f = refl
no_sheet p s u past Ident buffer f = refl
no_sheet p s u past (Line band n) buffer f = refl
no_sheet p s u past (Sheet band kind index) buffer f = absurd f
no_sheet p s u past Tally buffer f = refl

no_sheets : (p : Picture) (s u : List Sheets) (past qs : List Question) → Five qs → pictured_behind p s past qs ≡ pictured_behind p u past qs
no_sheets p s u past [] f = refl
no_sheets p s u past (q ∷ qs) f =
    ap (λ x. x ∷ pictured_behind p s (past ++ q ∷ []) qs) (no_sheet p s u past q.0 q.1 f.0)
    ∙ ap (λ xs. pictured_reply p u past q ∷ xs) (no_sheets p s u (past ++ q ∷ []) qs f.1)

pub told_apart : (a b : TapeSet) → ToldApart a b
told_apart a b = record {
  five_if = λ r s v e w f same past qs k five.
      told_after a r v e past qs
      ∙ no_sheets (picture r) (sheets r) (sheets s) past qs five
      ∙ ap (λ p. pictured_behind p (sheets s) past qs) same
      ∙ sym (told_after b s w f past qs);
  five_only = λ r s v e w f past hear.
      pictures_same (picture r) (picture s) (sheets r) (sheets s) (proper r v) (proper s w) past
      (λ qs k five. sym (told_after a r v e past qs) ∙ hear qs k five ∙ told_after b s w f past qs);
  six_if = λ r s v e w f same-p same_s past qs k.
      told_after a r v e past qs
      ∙ ap (λ p. pictured_behind p (sheets r) past qs) same-p
      ∙ ap (λ u. pictured_behind (picture s) u past qs) same_s
      ∙ sym (told_after b s w f past qs);
  six_only = λ r s v e w f past hear.
      both_same (picture r) (picture s) (sheets r) (sheets s) (proper r v) (proper s w) past
      (λ qs k. sym (told_after a r v e past qs) ∙ hear qs k ∙ told_after b s w f past qs);
}

-- Turners, piled on an accepted set.
pub piled : (a : TapeSet) → UnderTurners a
piled a = record {
  shows = λ n r v e. piles n a r v e;
  answers = λ n r v e past.
      let p = piles n a r v e in
      (told_apart a (pile n a)).five_if r p.recording v e p.valid p.is (sym p.same) past;
}

-- Calls after calls.
after_calls : (set : TapeSet) (before past qs : List Question) → replies_behind set before (past ++ qs) ≡ replies_behind set before past ++ replies_behind set (before ++ past) qs
after_calls set before [] qs = ap (λ b. replies_behind set b qs) (sym (append-nil before))
after_calls set before (p ∷ past) qs =
    ap (λ rs. reply set before p ∷ rs) (after_calls set (before ++ p ∷ []) past qs ∙ ap (λ b. replies_behind set (before ++ p ∷ []) past ++ replies_behind set b qs) (append_assoc before (p ∷ []) past))

pub promised : (a b : TapeSet) → Sound a → Sound b → Promise a b
promised a b sa sb = record { first_judged = judged a (surveyed a) sa refl; second_judged = judged b (surveyed b) sb refl; joined = λ set past qs. after_calls set [] past qs; apart = told_apart a b; first_turned = piled a; second_turned = piled b }
