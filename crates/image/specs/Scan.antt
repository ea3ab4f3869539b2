-- What a scan finds.
use Rattle.std.specs.Prelude.{ℕ, List}
use Rattle.image.specs.Chart.{Charts}
use Rattle.image.specs.Cursor.{Reads}
use Rattle.image.specs.Strip.{meant}
use Rattle.image.specs.declared.chart.Span.{Span}

-- The bytes are a strip, and the chart is that of its set.
pub record Scanned (xs : List ℕ) (chart : List Span) : Type 0 where
  pub reads : Reads xs
  pub charted : Charts (meant xs) chart
