-- Streams, from recognizers of scalars alone: complete, sound, and so unique.
use Rattle.std.{proofs.Common.{ap, sym, ◌∙◌, ◌≡◌}, specs.Prelude.{Bool, List, None, Option, Some, false, true, ℕ}}
use Rattle.yaml_recognizers.proofs.{Prelude.{Node, BlockScalar, FlowContext, Scalar}, Basics.Reading.none_some}
use Rattle.yaml_recognizers.proofs.{Documents.{StreamsComplete.stream_read, StreamsSound.stream_is}, Block.BlockNodesWhole.whole_node_read}
use Rattle.yaml_recognizers.{proofs.Block.BlockNodesWhole.whole_node_sound, specs.{BlockNodes.whole_node, Reading.Read}}
use Rattle.yaml_recognizers.specs.{Scalars.{ReadsBlocks, ReadsScalars}, Streams.read_stream, CanonicalStreams.FlatStream}
use Rattle.yaml_recognizers.specs.CanonicalStreams.{canonical_stream, flat_text}

module _ (read_scalar : ℕ → FlowContext → Bool → List ℕ → Read Scalar) (scalars : ReadsScalars read_scalar)
    (read_block : ℕ → List ℕ → Read BlockScalar) (blocks : ReadsBlocks read_block) where
  abbrev node_at : Bool → List ℕ → Read Node
  node_at bol text = whole_node read_scalar read_block 0 false bol text

  -- a canonical stream is read
  pub whole_stream_read : (s : FlatStream) → canonical_stream s ≡ true → read_stream read_scalar read_block (flat_text s) ≡ Some s
  whole_stream_read s h = stream_read node_at (λ n bol after c e.
      whole_node_read read_scalar scalars read_block blocks n 0 false bol after c e) s h

  -- a stream that is read is canonical
  pub whole_stream_is : (text : List ℕ) (s : FlatStream) → read_stream read_scalar read_block text ≡ Some s
      → (text ≡ flat_text s) × (canonical_stream s ≡ true)
  whole_stream_is text s e = stream_is node_at (λ bol t. whole_node_sound read_scalar scalars read_block blocks 0 false bol t) text s e

  -- if none is read, the text has no canonical stream
  pub no_stream : (text : List ℕ) (s : FlatStream) → read_stream read_scalar read_block text ≡ None
      → canonical_stream s ≡ true → flat_text s ≡ text → ⊥
  no_stream text s n h t = none_some s (sym n ∙ (ap (read_stream read_scalar read_block) (sym t) ∙ whole_stream_read s h))

  -- two canonical streams of one text are the same
  pub stream_once : (s s' : FlatStream) → canonical_stream s ≡ true → canonical_stream s' ≡ true → flat_text s ≡ flat_text s' → s ≡ s'
  stream_once s s' h h' t =
      let e : ◌≡◌ {A = Option FlatStream} (Some s) (Some s') = sym (whole_stream_read s h)
      ∙ (ap (read_stream read_scalar read_block) t ∙ whole_stream_read s' h') in
      cc
