-- What a turner remembers of an accepted set of the scanner, and how large the set is that it shows.
use Rattle.std.specs.Prelude.{ℕ, ◌*◌, Bool, true, cond, length, Some, None, Ok, Err, Option, Result}
use Rattle.records.specs.Layouts.{record_length, attributes, stride}
use Rattle.records.specs.declared.layout.Form.{Form}
use Rattle.records.specs.declared.layout.Form.TheVariants.{Interleaved, Sequential, Vidicon}
use Rattle.records.specs.declared.layout.Layout.{Layout}
use Rattle.machine.specs.declared.accepted.Accepted.{Accepted}
use Rattle.survey.specs.Surveys.{Fault}
use Rattle.reader.specs.Finding.{codes}
use Rattle.turner.specs.Bounds.{first_group, small}
use Rattle.turner.specs.declared.shape.Order.{Order}
use Rattle.turner.specs.declared.shape.Order.TheVariants.{ByLine, ByBand}
use Rattle.turner.specs.declared.shape.Turning.{Turning}

-- What a turner shows by: an accepted set, and the order in which it is shown. The definitions, and most of what is proved of them, are of
-- every plan. A `Turning`, which a turner remembers, is one whose set keeps to the bounds.
pub record Plan : Type 0 where
  pub accepted : Accepted
  pub order : Order

abbrev pub plan : Turning → Plan
plan t = record { accepted = t.accepted; order = t.order }

abbrev pub planned : Option Turning → Option Plan
planned None = None
planned (Some t) = Some (plan t)

-- The order in which a set of some form is shown: the other one. The vidicon's sets have none.
abbrev pub other_order : Form → Option Order
other_order Interleaved = Some ByBand
other_order Sequential = Some ByLine
other_order Vidicon = None

abbrev pub layout_of : Plan → Layout
layout_of t = t.accepted.summary.layout

-- The length of every record shown but the directory.
abbrev pub size : Plan → ℕ
size t = record_length t.accepted.summary.layout.form

-- How many groups are shown, and how many image blocks, attribute and trailer records each has.
abbrev pub groups_in : Order → Accepted → ℕ
groups_in ByLine a = 1
groups_in ByBand a = length (codes a)

abbrev pub images_in : Order → Accepted → ℕ
images_in ByLine a = a.summary.lines * stride a.summary.layout
images_in ByBand a = a.summary.lines

abbrev pub groups : Plan → ℕ
groups t = groups_in t.order t.accepted

abbrev pub images : Plan → ℕ
images t = images_in t.order t.accepted

abbrev pub sheets : Plan → ℕ
sheets t = attributes t.accepted.summary.layout

abbrev pub trailers : Plan → ℕ
trailers t = (first_group t.accepted).trailers

-- The bounds of every accepted set, where there is a plan.
abbrev pub fits : Option Plan → Bool
fits None = true
fits (Some t) = small t.accepted

-- What is remembered of an accepted set, and of the outcome of a survey.
abbrev pub in_order : Accepted → Option Order → Option Plan
in_order a None = None
in_order a (Some o) = cond (small a) (Some record { accepted = a; order = o }) None

abbrev pub turning_of : Accepted → Option Plan
turning_of a = in_order a (other_order a.summary.layout.form)

abbrev pub remembered : Result Accepted Fault → Option Plan
remembered (Ok a) = turning_of a
remembered (Err f) = None
