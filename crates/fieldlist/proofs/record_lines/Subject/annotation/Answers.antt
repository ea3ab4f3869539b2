use Rattle.std.proofs.Common.{◌≡◌, ◌++◌, IfOk, string_bytes, codes, subst}
use Rattle.fields.specs.Annotations.{exposure_date, centre, path_and_row, nominal_centre, frame, letter, processing}
use Rattle.fields.specs.Faults.{told, told_part}
use Rattle.fieldlist.specs.Records.{annotation_lines}
use Rattle.fieldlist.proofs.Lines.{known, known_part}
use Rattle.fieldlist.proofs.record_lines.Subject.annotation.Goals as goal

pub returns : goal.returns
returns c =
    let s = c.args.self.now.name.now in
    let ys = c.new-fields.result.record.now in
    let xs = c.args.record.now in
    let same = c.new-fields.ensures in
    let d = string_bytes c.in_ok-date.date in
    let m = string_bytes c.in_ok-centre.centre in
    let p = string_bytes c.in_ok-path.path in
    let n = string_bytes c.in_ok-nominal.nominal in
    let f = string_bytes c.in_ok-frame.frame in
    let l = string_bytes c.in_ok-correction.correction in
    let d_is = known_part exposure_date s (codes "DATE") d (told_part c.exposure_date.result) ys xs c.in_ok-date.ensures c.exposure_date.ensures same in
    let m_is = known_part centre s (codes "CENTRE") m (told_part c.centre.result) ys xs c.in_ok-centre.ensures c.centre.ensures same in
    let p_is = known_part path_and_row s (codes "PATH") p (told_part c.path_and_row.result) ys xs c.in_ok-path.ensures c.path_and_row.ensures same in
    let n_is = known_part nominal_centre s (codes "NOMINAL") n (told_part c.nominal_centre.result) ys xs c.in_ok-nominal.ensures c.nominal_centre.ensures same in
    let f_is = known_part frame s (codes "FRAME") f (told_part c.frame.result) ys xs c.in_ok-frame.ensures c.frame.ensures same in
    let l_is = known letter processing s (codes "CORRECTION") l (told c.processing.result) ys xs c.in_ok-correction.ensures c.processing.ensures same in
    let all : d ++ (m ++ (p ++ (n ++ (f ++ l)))) ≡ annotation_lines s xs = cc in
    subst (λ t. IfOk c.format.result (λ s. string_bytes s ≡ t)) all c.format.ensures.ok
