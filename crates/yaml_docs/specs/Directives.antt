-- The `%YAML` directive at a place of a text.
use Rattle.std.specs.Prelude.{◌≡◌, ℕ, ◌+◌, Bool, false, List, ◌++◌, Some, None, codes}
use Rattle.yaml_docs.specs.Prelude.{IsCharBoundary, rest, Node, LineEnd, directed, directive_text, Version, version_text, byte_len}
use Rattle.yaml_docs.specs.Prelude.{all_comments, Read, on, directed_with, read_directed, read_explicit, IsLineStart}
use Rattle.yaml_scan.specs.declared.lines.Line.{Line}

-- `%YAML`, whitespace and a version, from a place up to another
pub record IsVersion (text : List ℕ) (at end : ℕ) : Type 0 where
  pub boundary : IsCharBoundary text end
  pub blank : List ℕ
  pub version : Version
  pub spells : rest text at ≡ codes "%YAML" ++ (blank ++ (version_text version ++ rest text end))
  pub reads : (node_at : Bool → List ℕ → Read Node)
      → read_directed node_at (rest text at) ≡ directed_with node_at blank version (all_comments false (rest text end))

-- whatever the nodes are, no document with a directive begins there
abbrev pub NoDirective : List ℕ → Type 0
NoDirective text = (node_at : Bool → List ℕ → Read Node) → read_directed node_at text ≡ None

-- the directive from a place up to a line, and the comments after it
pub record IsDirective (text : List ℕ) (at : ℕ) (line : Line) : Type 0 where
  pub boundary : IsCharBoundary text line.start
  pub starts : IsLineStart text line.start
  pub first : IsCharBoundary text line.first
  pub blank : List ℕ
  pub version : Version
  pub comments : List LineEnd
  pub place : line.start ≡ at + byte_len (directive_text blank version comments)
  pub reads : (node_at : Bool → List ℕ → Read Node) → read_directed node_at (rest text at)
      ≡ on (read_explicit node_at (rest text line.start)) (λ x after. Some (directed blank version comments x, after))
