-- Lists of calls over an accepted set, and over one with a fault.
use Rattle.std.proofs.Common.{◌≡◌, ℕ, min, Bool, true, false, cond, List, [], ◌∷◌, ◌++◌, map, length, IfOk, Some, None, Ok, Err, Option, Result, sym, refl, ap, ◌∙◌, arith}
use Rattle.deck.specs.Tape.{TapeSet, Sound, from_one}
use Rattle.records.specs.Layouts.{sensor_in}
use Rattle.records.specs.declared.layout.Layout.{Layout}
use Rattle.machine.specs.Findings.{accepted}
use Rattle.machine.specs.declared.accepted.Accepted.{Accepted}
use Rattle.survey.specs.Laws.{Obeys}
use Rattle.survey.specs.Pictures.{Picture, Sheets, picture, sheets, all_codes}
use Rattle.survey.specs.Recordings.{Recording, written_as}
use Rattle.survey.specs.Surveys.{Fault, surveyed}
use Rattle.survey.specs.Validity.{Valid}
use Rattle.survey.proofs.Judging.{judged, obeys}
use Rattle.survey.proofs.Starting.{done, accepts}
use Rattle.reader.specs.Answers.{summary, sensor_letter, correction_letter, code, counted, outlined, told_by}
use Rattle.reader.specs.Finding.{codes}
use Rattle.reader.specs.Bodies.{code_of, outline, line_answer, sheet_answer, ident_answer, band_answer, survey_answer, accepted_by}
use Rattle.reader.specs.declared.call.Call.{Call}
use Rattle.reader.specs.declared.call.Call.TheVariants.{Survey, Band, Ident, Line, Sheet, Tally}
use Rattle.reader.specs.Pictured.{pictured_line, pictured_sheet, pictured_ident}
use Rattle.witness.specs.Pictured.{outline_of, if_known, code_if_known, delivery, brings, lines_brought, pictured_reply, pictured_behind, pictured_replies, faulty, Shown}
use Rattle.witness.specs.Replies.{Question, Reply, has_survey, accepted_after, one_if, delivers, lines_behind, reply, replies_behind, replies}
use Rattle.reader.proofs.Showing.{line-pictured, sheet_pictured, ident_pictured}

module _ (a : Accepted) (tape : TapeSet) (ob : Obeys a tape) where
  abbrev r : Recording
  r = ob.recording

  abbrev l : Layout
  l = ob.recording.layout

  band_pictured : (k : ℕ) → told_by code (band_answer (Some a) k) ≡ code_if_known true (picture r) k
  band_pictured k = ap (λ cs. told_by code (code_of (from_one cs k))) ob.codes

  outline-pictured : outlined (outline a) ≡ outline_of (picture r)
  outline-pictured =
      ap (λ (k : Layout). summary (sensor_letter (sensor_in k.form)) k.mission (correction_letter k.correction) (length (codes a)) a.summary.lines) ob.layout
      ∙ ap (λ cs. summary (sensor_letter (sensor_in l.form)) l.mission (correction_letter l.correction) (length cs) a.summary.lines) ob.codes
      ∙ ap (λ n. summary (sensor_letter (sensor_in l.form)) l.mission (correction_letter l.correction) (length (all_codes l r.groups)) n) ob.lines

module _ (tape : TapeSet) (a : Accepted) (ob : Obeys a tape) (is : surveyed tape ≡ Ok a) where
  abbrev p : Picture
  p = picture ob.recording

  abbrev s : List Sheets
  s = sheets ob.recording

  known : (past : List Question) → accepted_after tape past ≡ cond (has_survey past) (Some a) None
  known past = ap (λ o. cond (has_survey past) (accepted_by o) None) is

  line_known : (b : Bool) (band n room : ℕ) → line_answer tape (cond b (Some a) None) band n room ≡ if_known b (pictured_line p band n room)
  line_known true band n room = line-pictured a tape ob band n room
  line_known false band n room = refl

  sheet_known : (b : Bool) (band kind index room : ℕ) → sheet_answer tape (cond b (Some a) None) band kind index room ≡ if_known b (pictured_sheet p s band kind index room)
  sheet_known true band kind index room = sheet_pictured a tape ob band kind index room
  sheet_known false band kind index room = refl

  ident_known : (b : Bool) (room : ℕ) → ident_answer (cond b (Some a) None) room ≡ if_known b (pictured_ident p room)
  ident_known true room = ident_pictured a tape ob room
  ident_known false room = refl

  band_known : (b : Bool) (k : ℕ) → told_by code (band_answer (cond b (Some a) None) k) ≡ code_if_known b p k
  band_known true k = band_pictured a tape ob k
  band_known false k = refl

  brought : (past : List Question) (c : Call) (room : ℕ) → delivers tape past c room ≡ brings p (has_survey past) c room
  brought past Survey room = refl
  brought past (Band k) room = refl
  brought past Ident room = refl
  brought past (Line band n) room = ap one_if (ap (λ o. line_answer tape o band n room) (known past) ∙ line_known (has_survey past) band n room)
  brought past (Sheet band kind index) room = refl
  brought past Tally room = refl

  all_brought : (past qs : List Question) → lines_behind tape past qs ≡ lines_brought p past qs
  all_brought past [] = refl
  all_brought past (q ∷ qs) =
      let here = brought past q.0 (length q.1) in
      let rest = all_brought (past ++ q ∷ []) qs in omega (arith, here, rest)

  told-reply : (past : List Question) (c : Call) (buffer : List ℕ) → reply tape past (c, buffer) ≡ pictured_reply p s past (c, buffer)
  told-reply past Survey buffer = ap (λ o. (told_by outlined (survey_answer o), buffer)) is ∙ ap (λ t. (t, buffer)) (outline-pictured a tape ob)
  told-reply past (Band k) buffer = ap (λ o. (told_by code (band_answer o k), buffer)) (known past) ∙ ap (λ t. (t, buffer)) (band_known (has_survey past) k)
  told-reply past Ident buffer = ap (λ d. delivery d buffer) (ap (λ o. ident_answer o (length buffer)) (known past) ∙ ident_known (has_survey past) (length buffer))
  told-reply past (Line band n) buffer = ap (λ d. delivery d buffer) (ap (λ o. line_answer tape o band n (length buffer)) (known past) ∙ line_known (has_survey past) band n (length buffer))
  told-reply past (Sheet band kind index) buffer = ap (λ d. delivery d buffer) (ap (λ o. sheet_answer tape o band kind index (length buffer)) (known past) ∙ sheet_known (has_survey past) band kind index (length buffer))
  told-reply past Tally buffer = ap (λ n. (counted (min n 9223372036854775807), buffer)) (all_brought [] past)

  told-behind : (past qs : List Question) → replies_behind tape past qs ≡ pictured_behind p s past qs
  told-behind past [] = refl
  told-behind past (q ∷ qs) = ap (λ x. x ∷ replies_behind tape (past ++ q ∷ []) qs) (told-reply past q.0 q.1) ∙ ap (λ xs. pictured_reply p s past q ∷ xs) (told-behind (past ++ q ∷ []) qs)

-- Over an accepted set.
pub told_after : (tape : TapeSet) (r : Recording) → Valid r → written_as r ≡ tape → (past qs : List Question) → replies_behind tape past qs ≡ pictured_behind (picture r) (sheets r) past qs
told_after tape r v e past qs =
    let ob = obeys r v in
    let same : r ≡ ob.recording = ob.only r v refl in
    ap (λ t. replies_behind t past qs) (sym e)
    ∙ told-behind (written_as r) (accepted (done r v).final) ob (accepts r v) past qs
    ∙ ap (λ k. pictured_behind (picture k) (sheets k) past qs) (sym same)

pub told_by-picture : (tape : TapeSet) (r : Recording) → Valid r → written_as r ≡ tape → (qs : List Question) → replies tape qs ≡ pictured_replies (picture r) (sheets r) qs
told_by-picture tape r v e qs = told_after tape r v e [] qs

-- Over a set with a fault.
module _ (tape : TapeSet) (f : Fault) (is : surveyed tape ≡ Err f) where
  unknown : (past : List Question) → accepted_after tape past ≡ None
  unknown past = ap (λ o. cond (has_survey past) (accepted_by o) None) is ∙ either (has_survey past)
    where
      either : (b : Bool) → cond {A = Option Accepted} b None None ≡ None
      either true = refl
      either false = refl

  none_brought : (past : List Question) (c : Call) (room : ℕ) → delivers tape past c room ≡ 0
  none_brought past Survey room = refl
  none_brought past (Band k) room = refl
  none_brought past Ident room = refl
  none_brought past (Line band n) room = ap (λ o. one_if (line_answer tape o band n room)) (unknown past)
  none_brought past (Sheet band kind index) room = refl
  none_brought past Tally room = refl

  nothing_brought : (past qs : List Question) → lines_behind tape past qs ≡ 0
  nothing_brought past [] = refl
  nothing_brought past (q ∷ qs) =
      let here = none_brought past q.0 (length q.1) in
      let rest = nothing_brought (past ++ q ∷ []) qs in omega (arith, here, rest)

  faulty-reply : (past : List Question) (c : Call) (buffer : List ℕ) → reply tape past (c, buffer) ≡ faulty f (c, buffer)
  faulty-reply past Survey buffer = ap (λ o. (told_by outlined (survey_answer o), buffer)) is
  faulty-reply past (Band k) buffer = ap (λ o. (told_by code (band_answer o k), buffer)) (unknown past)
  faulty-reply past Ident buffer = ap (λ o. delivery (ident_answer o (length buffer)) buffer) (unknown past)
  faulty-reply past (Line band n) buffer = ap (λ o. delivery (line_answer tape o band n (length buffer)) buffer) (unknown past)
  faulty-reply past (Sheet band kind index) buffer = ap (λ o. delivery (sheet_answer tape o band kind index (length buffer)) buffer) (unknown past)
  faulty-reply past Tally buffer = ap (λ n. (counted (min n 9223372036854775807), buffer)) (nothing_brought [] past)

  faulty-behind : (past qs : List Question) → replies_behind tape past qs ≡ map (faulty f) qs
  faulty-behind past [] = refl
  faulty-behind past (q ∷ qs) = ap (λ x. x ∷ replies_behind tape (past ++ q ∷ []) qs) (faulty-reply past q.0 q.1) ∙ ap (λ xs. faulty f q ∷ xs) (faulty-behind (past ++ q ∷ []) qs)

  pub told_by_fault : (qs : List Question) → replies tape qs ≡ map (faulty f) qs
  told_by_fault qs = faulty-behind [] qs

pub shown : (tape : TapeSet) (qs : List Question) (rs : List Reply) → Sound tape → rs ≡ replies tape qs → Shown tape qs rs
shown tape qs rs sound e = record { judges = judged tape (surveyed tape) sound refl; accepted = λ r v is. e ∙ told_by-picture tape r v is qs; broken = λ f is. e ∙ told_by_fault tape f is qs }

pub made_more : {X E : Type 0} (r : Result X E) (P Q : X → Type 0) → ((x : X) → P x → Q x) → IfOk r P → IfOk r Q
made_more (Ok x) P Q f m = f x m
made_more (Err e) P Q f m = m
