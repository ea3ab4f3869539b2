use Rattle.std.proofs.Common.{◌≡◌, ◌+◌, ◌-◌, string_bytes, refl, ap, ◌∙◌, arith}
use Rattle.std.proofs.lemmas.Slice.{pushed}
use Rattle.fieldlist.specs.List.{Remembered}
use Rattle.fieldlist.specs.Sheets.{annotation, annotations_to}
use Rattle.fieldlist.proofs.Deliveries.{one_more}
use Rattle.fieldlist.proofs.list.FieldList.band_annotations.Goals as goal
use Rattle.fieldlist.proofs.list.FieldList.band_annotations.Goals.{else-loop-index-test, then-loop-index-test+in_ok-lines+in_ok-push_str+else-index-count}

pub loop-index-preserved : goal.loop-index-preserved
loop-index-preserved g c =
    let set = c.args.self.now.set in
    let m = c.args.self.now.accepted in
    let i = c.loop-index.invariant in
    let back : c.loop-index.index ≡ c.loop-index.index + 1 - 1 = omega arith in (
      c.annotation.ensures.stays ∙ i.0,
      omega arith,
      omega arith,
      one_more set m c.args.code c.loop-index.index (string_bytes c.loop-index.text) c.as_str.result.now (string_bytes c.push_str.new.self) i.1 i.3
          (c.as_str.ensures.value ∙ c.in_ok-lines.ensures.text ∙ ap (λ (v : Remembered). annotation v.set v.accepted c.args.code c.loop-index.index) i.0)
          (pushed c.as_str.result.now refl c.in_ok-push_str.was c.push_str.ensures.bytes)
          ∙ ap (λ k. annotations_to set m k c.args.code) back,
    )

pub returns-clause-text : goal.returns-clause-text
returns-clause-text g c =
    let set = c.args.self.now.set in
    let m = c.args.self.now.accepted in
    let i = c.loop-index.invariant in
    elim c.loop-index-test.branch [
      | else-loop-index-test w ↦
          let end : c.loop-index.index - 1 ≡ c.args.count = omega arith in
          ap string_bytes w.text-is ∙ i.3 ∙ ap (λ k. annotations_to set m k c.args.code) end
      | then-loop-index-test+in_ok-lines+in_ok-push_str+else-index-count w ↦
          let end : c.loop-index.index ≡ c.args.count = omega arith in
          ap string_bytes w.text-is
          ∙ one_more set m c.args.code c.loop-index.index (string_bytes c.loop-index.text) w.as_str.result.now (string_bytes w.push_str.new.self) i.1 i.3
          (w.as_str.ensures.value ∙ w.in_ok-lines.ensures.text ∙ ap (λ (v : Remembered). annotation v.set v.accepted c.args.code c.loop-index.index) i.0)
          (pushed w.as_str.result.now refl w.in_ok-push_str.was w.push_str.ensures.bytes)
          ∙ ap (λ k. annotations_to set m k c.args.code) end
    ]
