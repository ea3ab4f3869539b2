use Rattle.std.proofs.Common.{string_bytes, get_or, refl, ap, ◌∙◌}
use Rattle.std.proofs.lemmas.Slice.{pushed}
use Rattle.fieldlist.specs.List.{Remembered}
use Rattle.fieldlist.specs.Sheets.{annotations_to}
use Rattle.fieldlist.proofs.Deliveries.{each_more}
use Rattle.fieldlist.proofs.list.FieldList.annotations.Goals as goal

pub loop-code-preserved : goal.loop-code-preserved
loop-code-preserved g c =
    let all = c.codes-code-items.result.now in
    let code = get_or all c.loop-code.code-index 0 in
    let i = c.loop-code.invariant in (
      c.band_annotations.ensures.stays ∙ i.0,
      each_more (annotations_to c.args.self.now.set c.args.self.now.accepted c.args.count) all c.loop-code.code-index (string_bytes c.loop-code.text) c.as_str.result.now (string_bytes c.push_str.new.self) c.loop-code-test.true i.1
          (c.as_str.ensures.value ∙ c.in_ok-lines.ensures.text ∙ ap (λ (v : Remembered). annotations_to v.set v.accepted c.args.count code) i.0)
          (pushed c.as_str.result.now refl c.in_ok-push_str.was c.push_str.ensures.bytes),
    )
