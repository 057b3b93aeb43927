-- The flow scalar at a place of a text, which counts bytes from 0.
use Rattle.std.specs.Prelude.{◌≡◌, ℕ, ◌<◌, ◌≤◌, false, true, List, length, Some, None}
use Rattle.yaml_flow.specs.Prelude.{cow_str_bytes, IsBorrowedStr, IsCharBoundary, chars, rest, Event, Scalar, style_of, line_starts}
use Rattle.yaml_flow.specs.{Prelude.{BorrowsPlain, unbroken_between}, declared.scalar.FlowScalar.FlowScalar}
use Rattle.yaml_recognizers.specs.FlowScalars.{read_scalar}
use Rattle.yaml_grammar.specs.FlowScalars as flow

-- the event of a flow scalar that starts at the place
abbrev pub scalar_event_at : ℕ → FlowScalar → Event
scalar_event_at at found = Scalar found.style (record { start = at; end = found.end }) found.value

-- The recognizer finds this flow scalar at the place.
pub record FlowScalarRead (n : ℕ) (c : flow.FlowContext) (text : List ℕ) (at : ℕ) (found : FlowScalar) : Type 0 where
  pub above : at < found.end
  pub boundary : IsCharBoundary text found.end
  pub within : found.end ≤ length text
  pub inside_line : line_starts text found.end ≡ false
  pub scalar : flow.Scalar
  pub reads : read_scalar n c (line_starts text at) (rest text at) ≡ Some (scalar, rest text found.end)
  pub styled : style_of found.style ≡ flow.style_of scalar
  pub means : chars (cow_str_bytes found.value) ≡ flow.scalar_value scalar
  pub borrows : BorrowsPlain text (scalar_event_at at found)
  pub unbroken : IsBorrowedStr found.value → unbroken_between text at found.end ≡ true

-- the recognizer finds no flow scalar at the place
abbrev pub NoFlowScalar : ℕ → flow.FlowContext → List ℕ → ℕ → Type 0
NoFlowScalar n c text at = read_scalar n c (line_starts text at) (rest text at) ≡ None
