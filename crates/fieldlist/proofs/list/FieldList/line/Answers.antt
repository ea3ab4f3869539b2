use Rattle.std.proofs.Common.{◌≡◌, true, length, IfOk, string_bytes, sym, ap, ◌∙◌, subst, rules}
use Rattle.reader.specs.Bodies.{Delivery, line_answer}
use Rattle.fieldlist.specs.List.{Remembered}
use Rattle.fieldlist.specs.Records.{image_lines, refused_line}
use Rattle.fieldlist.specs.Measured.{measured, line_name, delivered_line, line_text}
use Rattle.fieldlist.proofs.Deliveries.{zeros, room, delivered, refused_by, read_text, has_line}
use Rattle.fieldlist.proofs.list.FieldList.line.Goals as goal

pub returns-in-Ok : goal.returns-in-Ok
returns-in-Ok g c =
    let set = g.D.Deck.meaning c.self.inside.reader.deck in
    let m = c.self.inside.reader.accepted in
    let w = c.args.wanted in
    let has = measured c.args.outline.sensor c.args.outline.correction in
    let name = line_name w.band w.line in
    let d : Delivery = line_answer set m w.band w.line (length zeros) in
    let yes : has ≡ true = sym c.is_measured.ensures ∙ search rules in
    let p = delivered d c.line.result c.in-Ok.length c.line.ensures.says c.in-Ok.is in
    let subject = c.as_str.ensures.value ∙ c.in_ok-name.ensures in
    let record₁ = c.as_slice.ensures.value ∙ c.in_ok-record-in-Ok.ensures in
    let is = read_text 237 image_lines c.as_str.result.now name c.as_slice.result.now d c.in-Ok.length zeros c.line.new.buffer p c.line.ensures.writes subject record₁ in
    subst (λ t. IfOk c.image.result (λ s. string_bytes s ≡ t))
    (is ∙ has_line name p.body has d yes p.is ∙ ap (λ n. delivered_line name has (line_answer set m w.band w.line n)) room
    ∙ ap (λ (v : Remembered). line_text v.set v.accepted c.args.outline w) c.self.view_is)
    c.image.ensures

pub returns : goal.returns
returns g c =
    let set = g.D.Deck.meaning c.self.inside.reader.deck in
    let m = c.self.inside.reader.accepted in
    let w = c.args.wanted in
    let has = measured c.args.outline.sensor c.args.outline.correction in
    let name = line_name w.band w.line in
    let d : Delivery = line_answer set m w.band w.line (length zeros) in
    let subject = c.as_str.ensures.value ∙ c.in_ok-name.ensures in
    let no = refused_by d c.line.result c.in-Err.refusal c.line.ensures.says c.in-Err.is in
    subst (λ t. IfOk c.refused-in-Err.result (λ s. string_bytes s ≡ t))
    (ap (λ t. refused_line t c.report.result.number) subject ∙ ap (λ r. refused_line name r.0) c.report.ensures ∙ ap (delivered_line name has) (sym no) ∙ ap (λ n. delivered_line name has (line_answer set m w.band w.line n)) room
    ∙ ap (λ (v : Remembered). line_text v.set v.accepted c.args.outline w) c.self.view_is)
    c.refused-in-Err.ensures
