-- A scalar as a node.
use Rattle.std.{proofs.Common.{◌≡◌, ap, refl, subst, sym, ◌∙◌, ℕ, ◌+◌, length}, specs.Prelude.{false, ◌==◌, List, [], ◌∷◌, ◌++◌, None}}
use Rattle.std.specs.Prelude.{Some}
use Rattle.yaml_flow.proofs.Prelude.{cow_str_bytes, IsUtf8, IsCharBoundary, chars, rest, flow_events, is_plain, scalar, byte_len, first}
use Rattle.yaml_flow.proofs.{Prelude.{style_of, line_starts, on, read_scalar, flow_node_at, is_scalar}, Appends.appended_one}
use Rattle.yaml_flow.{proofs.NodeSteps.node_length, specs.declared.{collection.{NodeEnd.NodeEnd, Open.Open}, scalar.FlowScalar.FlowScalar}}
use Rattle.yaml_flow.specs.{Scalars.{FlowScalarRead, scalar_event_at}, FlowNodes.{Appended, FlowNodeRead}, Frames.{AtNode, Collection}}
use Rattle.yaml_flow.specs.Frames.{EventList, NodeRead, ends_plain, is_plain_style}
use Rattle.yaml_grammar.specs.Events as grammar
use Rattle.yaml_grammar.specs.FlowScalars as flow

plain_by_style : (s : flow.Scalar) → is_plain (scalar s) ≡ is_plain_style (flow.style_of s)
plain_by_style (flow.plain prefix more) = refl
plain_by_style (flow.single prefix more) = refl
plain_by_style (flow.double prefix more) = refl

module _ (n : ℕ) (d : flow.FlowContext) (text : List ℕ) where
  -- a scalar without a bracket at its start is a flow node
  pub scalar_found : (at end : ℕ) (s : flow.Scalar) → first (λ x. x == 91) (rest text at) ≡ false
      → first (λ x. x == 123) (rest text at) ≡ false
      → read_scalar n d (line_starts text at) (rest text at) ≡ Some (s, rest text end)
      → flow_node_at n d (line_starts text at) (rest text at) ≡ Some (scalar s, rest text end)
  scalar_found at end s h k e =
      is_scalar n d (line_starts text at) (rest text at) h k ∙ ap (λ r. on r (λ x t. Some (scalar x, t))) e

  -- if there is none, there is no flow node
  pub scalar_missing : (at : ℕ) → first (λ x. x == 91) (rest text at) ≡ false → first (λ x. x == 123) (rest text at) ≡ false
      → read_scalar n d (line_starts text at) (rest text at) ≡ None → flow_node_at n d (line_starts text at) (rest text at) ≡ None
  scalar_missing at h k e = is_scalar n d (line_starts text at) (rest text at) h k ∙ ap (λ r. on r (λ x t. Some (scalar x, t))) e

  -- its event is appended
  pub scalar_appended : (at : ℕ) (found : FlowScalar) (old new : EventList) → IsUtf8 text → IsCharBoundary text at
      → first (λ x. x == 91) (rest text at) ≡ false
      → first (λ x. x == 123) (rest text at) ≡ false → (read : FlowScalarRead n d text at found)
      → new ≡ old ++ scalar_event_at at found ∷ []
      → Appended text old new (flow_events (scalar read.scalar) at)
  scalar_appended at found old new u b h k read e =
      let long : at + byte_len (flow.scalar_text read.scalar) ≡ found.end =
      node_length n d text at found.end (scalar read.scalar) u b read.boundary (scalar_found at found.end read.scalar h k read.reads) in
      appended_one text old new (scalar_event_at at found)
      (grammar.scalar_event (flow.style_of read.scalar) at (at + byte_len (flow.scalar_text read.scalar))
      (flow.scalar_value read.scalar)) e
      (ap (λ x. grammar.scalar_event x at found.end (chars (cow_str_bytes found.value))) read.styled
      ∙ (ap (λ x. grammar.scalar_event (flow.style_of read.scalar) at x (chars (cow_str_bytes found.value))) (sym long)
      ∙ ap (λ x. grammar.scalar_event (flow.style_of read.scalar) at (at + byte_len (flow.scalar_text read.scalar)) x) read.means))
      read.borrows

  -- a flow scalar that is read, with its event appended, is a flow node that is read
  pub scalar_node_read : (at end : ℕ) (found : FlowScalar) (old new : EventList) → IsUtf8 text
      → IsCharBoundary text at → first (λ x. x == 91) (rest text at) ≡ false
      → first (λ x. x == 123) (rest text at) ≡ false → FlowScalarRead n d text at found → end ≡ found.end
      → new ≡ old ++ scalar_event_at at found ∷ []
      → FlowNodeRead n d text at end old new
  scalar_node_read at end found old new u b h k read e w = subst (λ x. FlowNodeRead n d text at x old new) (sym e) (record {
    above = read.above;
    boundary = read.boundary;
    within = read.within;
    inside_line = read.inside_line;
    node = scalar read.scalar;
    found = scalar_found at found.end read.scalar h k read.reads;
    appended = scalar_appended at found old new u b h k read w;
  })

  -- so it is the node of the entry
  pub scalar_node : (w : Collection) (top : Open) (node_end : NodeEnd) (found : FlowScalar) (events new : EventList)
      → IsUtf8 text → IsCharBoundary text top.start
      → first (λ x. x == 91) (rest text top.start) ≡ false → first (λ x. x == 123) (rest text top.start) ≡ false
      → top.before ≡ length events
      → FlowScalarRead n d text top.start found → ends_plain node_end ≡ is_plain_style (style_of found.style)
      → new ≡ events ++ scalar_event_at top.start found ∷ []
      → AtNode n d text w top top.start events → NodeRead n d text w top node_end found.end new
  scalar_node w top node_end found events new u b h k count read p e here = record {
    before = events;
    waits = here;
    count = sym count;
    node = scalar read.scalar;
    plain = plain_by_style read.scalar ∙ (ap is_plain_style (sym read.styled) ∙ sym p);
    found = scalar_found top.start found.end read.scalar h k read.reads;
    written = scalar_appended top.start found events new u b h k read e;
  }
