-- What a presentation and its canonical form have in common.
use Rattle.std.specs.Prelude.{◌≡◌, IsTrue}
use Rattle.yaml_recognizers.specs.{Prelude.{Stream, stream_text, fits, stream_events}, CanonicalStreams.{FlatStream, flat_text}}
use Rattle.yaml_recognizers.specs.CanonicalStreams.{canonical_stream, flat_events}

-- it is canonical, and has the same text and the same meaning
pub record IsCanonicalFormOf (s : Stream) (c : FlatStream) : Type 0 where
  pub canonical : IsTrue (canonical_stream c)
  pub text : flat_text c ≡ stream_text s
  pub meaning : flat_events c ≡ stream_events s

-- each presentation that fits has one
abbrev pub HaveCanonicalForms : Type 0
HaveCanonicalForms = (s : Stream) → IsTrue (fits s) → (c : FlatStream) × IsCanonicalFormOf s c
