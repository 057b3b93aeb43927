-- The two markers of documents (YAML 1.2.2, 9.1.2).
use Rattle.std.specs.Prelude.{ℕ}
use Rattle.yaml_scan.specs.{Prelude.{dash, dot}, declared.signs.Marker.{Marker, TheVariants.{DirectivesEnd, DocumentEnd}}}

-- the sign that is there three times
abbrev pub sign_of : Marker → ℕ
sign_of DirectivesEnd = dash
sign_of DocumentEnd = dot
