use Rattle.std.proofs.Common.{◌≡◌, ◌++◌, IfOk, string_bytes, codes, decimal, subst}
use Rattle.std.specs.Fmt.{signed_decimal}
use Rattle.fields.specs.Faults.{told}
use Rattle.fields.specs.Images.{pixel_count, quality, gain, bias, quality_text}
use Rattle.fieldlist.specs.Records.{image_lines}
use Rattle.fieldlist.proofs.Lines.{known}
use Rattle.fieldlist.proofs.record_lines.Subject.image.Goals as goal

pub returns : goal.returns
returns c =
    let s = c.args.self.now.name.now in
    let ys = c.new-fields.result.record.now in
    let xs = c.args.record.now in
    let same = c.new-fields.ensures in
    let p = string_bytes c.in_ok-pixels.pixels in
    let q = string_bytes c.in_ok-quality.quality in
    let g = string_bytes c.in_ok-gain.gain in
    let b = string_bytes c.in_ok-bias.bias in
    let p_is = known decimal pixel_count s (codes "PIXELS") p (told c.pixel_count.result) ys xs c.in_ok-pixels.ensures c.pixel_count.ensures same in
    let q_is = known quality_text quality s (codes "QUALITY") q (told c.quality.result) ys xs c.in_ok-quality.ensures c.quality.ensures same in
    let g_is = known signed_decimal gain s (codes "GAIN") g (told c.gain.result) ys xs c.in_ok-gain.ensures c.gain.ensures same in
    let b_is = known signed_decimal bias s (codes "BIAS") b (told c.bias.result) ys xs c.in_ok-bias.ensures c.bias.ensures same in
    let all : p ++ (q ++ (g ++ b)) ≡ image_lines s xs = cc in
    subst (λ t. IfOk c.format.result (λ s. string_bytes s ≡ t)) all c.format.ensures.ok
