use Rattle.std.proofs.Common.{◌≡◌, length, IfOk, string_bytes, sym, ap, ◌∙◌, subst}
use Rattle.reader.specs.Bodies.{Delivery, sheet_answer}
use Rattle.fieldlist.specs.List.{Remembered}
use Rattle.fieldlist.specs.Records.{annotation_lines, refused_line}
use Rattle.fieldlist.specs.Sheets.{annotation_name, delivered_lines, annotation}
use Rattle.fieldlist.proofs.Deliveries.{zeros, room, delivered, refused_by, read_text}
use Rattle.fieldlist.proofs.list.FieldList.annotation.Goals as goal

pub returns-in-Ok-clause-text : goal.returns-in-Ok-clause-text
returns-in-Ok-clause-text g c =
    let set = g.D.Deck.meaning c.self.inside.reader.deck in
    let m = c.self.inside.reader.accepted in
    let name = annotation_name c.args.code c.args.index in
    let d : Delivery = sheet_answer set m c.args.code 3 c.args.index (length zeros) in
    let p = delivered d c.sheet.result c.in-Ok.length c.sheet.ensures.says c.in-Ok.is in
    let subject = c.as_str.ensures.value ∙ c.in_ok-name.ensures in
    let record₁ = c.as_slice.ensures.value ∙ c.in_ok-record-in-Ok.ensures in
    let is = read_text 219 annotation_lines c.as_str.result.now name c.as_slice.result.now d c.in-Ok.length zeros c.sheet.new.buffer p c.sheet.ensures.writes subject record₁ in
    subst (λ t. IfOk c.annotation.result (λ s. string_bytes s ≡ t))
    (is ∙ ap (delivered_lines name) (sym p.is) ∙ ap (λ n. delivered_lines name (sheet_answer set m c.args.code 3 c.args.index n)) room
    ∙ ap (λ (v : Remembered). annotation v.set v.accepted c.args.code c.args.index) c.self.view_is)
    c.annotation.ensures

pub returns-clause-text : goal.returns-clause-text
returns-clause-text g c =
    let set = g.D.Deck.meaning c.self.inside.reader.deck in
    let m = c.self.inside.reader.accepted in
    let name = annotation_name c.args.code c.args.index in
    let d : Delivery = sheet_answer set m c.args.code 3 c.args.index (length zeros) in
    let subject = c.as_str.ensures.value ∙ c.in_ok-name.ensures in
    let no = refused_by d c.sheet.result c.in-Err.refusal c.sheet.ensures.says c.in-Err.is in
    subst (λ t. IfOk c.refused.result (λ s. string_bytes s ≡ t))
    (ap (λ t. refused_line t c.report.result.number) subject ∙ ap (λ r. refused_line name r.0) c.report.ensures ∙ ap (delivered_lines name) (sym no) ∙ ap (λ n. delivered_lines name (sheet_answer set m c.args.code 3 c.args.index n)) room
    ∙ ap (λ (v : Remembered). annotation v.set v.accepted c.args.code c.args.index) c.self.view_is)
    c.refused.ensures
