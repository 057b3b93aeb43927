-- The stream, as the grammar nests it, that a flat stream means: after the start of the stream and after a `...` come
-- lines, and perhaps a document.
use Rattle.std.specs.Prelude.{List, [], ◌∷◌, Option, Some, None}
use Rattle.yaml_recognizers.specs.Prelude.{LineEnd, Document, bare, explicit, directed, Part, suffixes, further, Stream}
use Rattle.yaml_recognizers.specs.CanonicalStreams.{Section, suffix, line, document, FlatStream}
use Rattle.yaml_grammar.specs.Streams.{line as line_part}

-- lines, perhaps a document, and what follows
pub record Opened : Type 0 where
  pub prefix : List LineEnd
  pub document : Option Document
  pub parts : List Part

abbrev mutual
  -- where a document may come without `---`
  pub opened_sections : List Section → Opened
  opened_sections [] = record { prefix = []; document = None; parts = [] }
  opened_sections (line e ∷ ps) =
      let more = opened_sections ps in record { prefix = e ∷ more.prefix; document = more.document; parts = more.parts }
  opened_sections (document d ∷ ps) = record { prefix = []; document = Some d; parts = closed_sections ps }
  opened_sections (suffix comments ∷ ps) =
      let more = opened_sections ps in
      record { prefix = []; document = None; parts = suffixes comments [] more.prefix more.document ∷ more.parts }

  -- after a document; a bare document and a directive come there in no stream that fits
  pub closed_sections : List Section → List Part
  closed_sections [] = []
  closed_sections (line e ∷ ps) = line_part e ∷ closed_sections ps
  closed_sections (document (explicit x) ∷ ps) = further x ∷ closed_sections ps
  closed_sections (document (bare n) ∷ ps) = closed_sections ps
  closed_sections (document (directed blank version comments x) ∷ ps) = further x ∷ closed_sections ps
  closed_sections (suffix comments ∷ ps) =
      let more = opened_sections ps in suffixes comments [] more.prefix more.document ∷ more.parts

-- the stream of a flat stream
abbrev pub nested_stream : FlatStream → Stream
nested_stream s = let o = opened_sections s.sections in record
    { mark = s.mark; prefix = o.prefix; document = o.document; parts = o.parts }
