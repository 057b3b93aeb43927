-- A text has at most one meaning, whatever its presentations; and the recognizer of streams finds it.
use Rattle.std.{proofs.Common.{ap, sym, ◌∙◌, ◌≡◌}, specs.Prelude.{Bool, List, None, Option, Some, true, ℕ}}
use Rattle.yaml_recognizers.proofs.Prelude.{BlockScalar, Event, FlowContext, Scalar, CanRead, Presents, Reads, Stream, stream_events}
use Rattle.yaml_recognizers.proofs.{Prelude.IsText, Documents.{NestedStreams.can_read, StreamsForm.{stream_form, stream_form_is}}}
use Rattle.yaml_recognizers.{proofs.Documents.StreamsWhole.{whole_stream_is, whole_stream_read}, specs.CanonicalForms.IsCanonicalFormOf}
use Rattle.yaml_recognizers.specs.{Reading.Read, Streams.read_stream, CanonicalStreams.{FlatStream, canonical_stream, flat_events}}
use Rattle.yaml_recognizers.specs.{CanonicalStreams.flat_text, Scalars.{ReadsBlocks, ReadsScalars}}

module _ (read_scalar : ℕ → FlowContext → Bool → List ℕ → Read Scalar) (scalars : ReadsScalars read_scalar)
    (read_block : ℕ → List ℕ → Read BlockScalar) (blocks : ReadsBlocks read_block) where
  -- the canonical form of a presentation is found, and means the same
  pub form_found : (text : List ℕ) (p : Stream) → Presents p text
      → (read_stream read_scalar read_block text ≡ Some (stream_form p)) × (flat_events (stream_form p) ≡ stream_events p)
  form_found text p h =
      let c : IsCanonicalFormOf p (stream_form p) = stream_form_is p h.fits in (
        ap (read_stream read_scalar read_block) (sym (c.text ∙ h.spells))
            ∙ whole_stream_read read_scalar scalars read_block blocks (stream_form p) c.canonical,
        c.meaning,
      )

  some_is : (s t : FlatStream) → ◌≡◌ {A = Option FlatStream} (Some s) (Some t) → s ≡ t
  some_is s t e = cc

  -- what is found means what each presentation means
  pub found_means : (text : List ℕ) (s : FlatStream) (p : Stream) → read_stream read_scalar read_block text ≡ Some s
      → Presents p text → stream_events p ≡ flat_events s
  found_means text s p e h =
      let f = form_found text p h in
      sym f.1 ∙ ap flat_events (some_is (stream_form p) s (sym f.0 ∙ e))

  -- two presentations of one text mean the same
  pub same_meaning : (text : List ℕ) (one other : Stream) → Presents one text → Presents other text
      → stream_events one ≡ stream_events other
  same_meaning text one other h k =
      let f = form_found text one h in
      sym f.1 ∙ sym (found_means text (stream_form one) other f.0 k)

  -- if no stream is read, the text has no presentation
  pub no_presentation : (text : List ℕ) (p : Stream) → read_stream read_scalar read_block text ≡ None → Presents p text → ⊥
  no_presentation text p n h = none_is_some (stream_form p) (sym n ∙ (form_found text p h).0)
    where
      none_is_some : (s : FlatStream) → ◌≡◌ {A = Option FlatStream} None (Some s) → ⊥
      none_is_some s e = cc

  -- if a stream is read, the text reads as what it means
  pub text_reads : (text : List ℕ) (s : FlatStream) → IsText text → read_stream read_scalar read_block text ≡ Some s
      → Reads text (flat_events s)
  text_reads text s t e =
      let w : (text ≡ flat_text s) × (canonical_stream s ≡ true) = whole_stream_is read_scalar scalars read_block blocks text s e in
      record { source = t; some = can_read text s w.0 w.1; every = λ p h. found_means text s p e h }

  -- if a text can be read as events, a stream is read that means them
  pub reading_found : (text : List ℕ) (events : List Event) → CanRead text events
      → (s : FlatStream) × (read_stream read_scalar read_block text ≡ Some s) × (flat_events s ≡ events)
  reading_found text events r =
      let f = form_found text r.presentation r.presents in
      (stream_form r.presentation, f.0, f.1 ∙ r.means)
