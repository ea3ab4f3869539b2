-- The spans of the reels of a strip.
use Rattle.std.proofs.Common.{◌≡◌, ℕ, zero, suc, ◌+◌, ◌<◌, [], ◌∷◌, ◌++◌, length, get_or, take, sym, refl, ap, ◌∙◌, add-zero, arith, length-append}
use Rattle.deck.specs.Tape.{Reel, TapeSet}
use Rattle.image.specs.Chart.{span, spans}
use Rattle.image.specs.Opened.{strip_set}
use Rattle.image.specs.Strip.{reel_bytes, encoded, place}
use Rattle.image.specs.declared.chart.Span.{Span}
use Rattle.image.specs.declared.strip.Strip.{Strip}

-- The chart with one reel more is that of the set with one reel more.
pub spans_more : (at : ℕ) (set : TapeSet) (reel : Reel) → spans at (set ++ reel ∷ []) ≡ spans at set ++ span (at + length (encoded set)) (length reel) ∷ []
spans_more at [] reel = ap (λ n. span n (length reel) ∷ []) (sym (add-zero at))
spans_more at (first ∷ set) reel =
    ap (λ t. span at (length first) ∷ t)
    (spans_more (at + length (reel_bytes first)) set reel
    ∙ ap (λ n. spans (at + length (reel_bytes first)) set ++ span n (length reel) ∷ []) (omega (arith, length-append (reel_bytes first) (encoded set))))

pub spans_length : (at : ℕ) (set : TapeSet) → length (spans at set) ≡ length set
spans_length at [] = refl
spans_length at (reel ∷ set) = ap suc (spans_length (at + length (reel_bytes reel)) set)

-- The span of a reel.
pub span_at : (at : ℕ) (set : TapeSet) (i : ℕ) (d : Span) → i < length set → get_or (spans at set) i d ≡ span (at + length (encoded (take i set))) (length (get_or set i []))
span_at at [] i d h = absurd (omega arith)
span_at at (reel ∷ set) zero d h = ap (λ n. span n (length reel)) (sym (add-zero at))
span_at at (reel ∷ set) (suc i) d h =
    span_at (at + length (reel_bytes reel)) set i d (omega arith)
    ∙ ap (λ n. span n (length (get_or set i []))) (omega (arith, length-append (reel_bytes reel) (encoded (take i set))))

-- What an opened strip's chart says of its set.
pub reels_counted : (s : Strip) → length s.chart.items ≡ length (strip_set s)
reels_counted s = ap length s.charted ∙ spans_length 0 (strip_set s)

pub charted_span : (s : Strip) (r : ℕ) (d : Span) → r < length (strip_set s) → get_or s.chart.items r d ≡ span (place (strip_set s) r 0) (length (get_or (strip_set s) r []))
charted_span s r d h =
    ap (λ t. get_or t r d) s.charted
    ∙ span_at 0 (strip_set s) r d h
    ∙ ap (λ n. span n (length (get_or (strip_set s) r []))) (omega arith)
