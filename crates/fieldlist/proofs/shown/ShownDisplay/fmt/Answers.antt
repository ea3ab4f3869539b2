use Rattle.std.proofs.Common.{◌≡◌, ◌/◌, ◌%◌, ◌^◌, ◌-◌, false, Some, [], ◌∷◌, sym, ap, ◌∙◌, subst, arith}
use Rattle.std.proofs.lemmas.Bool.{cond-false}
use Rattle.std.proofs.lemmas.Fmt.{hex_byte}
use Rattle.std.specs.Fmt.{digit_glyph, format_spec, padded_integral, styled_digits_output, DisplaysOnOk, HasWritten, ◌++?◌}
use Rattle.std.specs.Option.{option_map}
use Rattle.fieldlist.specs.Shown.{plain, shown_byte}
use Rattle.fieldlist.proofs.shown.ShownDisplay.fmt.Goals as goal

pub returns-else-is_plain-clause-writes : goal.returns-else-is_plain-clause-writes
returns-else-is_plain-clause-writes g c =
    let b = c.args.self.now.0 in
    let took = g.W.Write.write_str_gives in
    let f = c.args.f.now in
    let after = c.write.new.self in
    let two = digit_glyph false (b / 16) ∷ digit_glyph false (b % 16) ∷ [] in
    let spec = format_spec 32 0 4 2 (2 ^ 64 - 1) in
    let written : styled_digits_output c.in_radix.result c.laid_out.result ≡ Some two =
    ap (styled_digits_output c.in_radix.result) {y = spec} c.laid_out.ensures
    ∙ ap (option_map (padded_integral spec false [])) c.in_radix.ensures
    ∙ ap Some (hex_byte false b (omega arith)) in
    let text : shown_byte b ≡ 92 ∷ two = cond-false (plain b) (b ∷ []) (92 ∷ two) (sym c.is_plain.ensures ∙ c.if-is_plain.false) in
    λ whole ok. subst (λ t. HasWritten took f t after) (sym text)
    (subst (λ o. DisplaysOnOk took f c.write.result (Some (92 ∷ []) ++? o) after) written c.write.ensures.writes whole ok)
