-- The recognizer of flow nodes with all the depth that a text may need: complete, sound, and so unique.
use Rattle.std.{proofs.Common.{arith, length-append, ◌≡◌, ◌≤◌}, specs.Prelude.{Bool, List, Some, codes, length, true, ℕ, ◌*◌, ◌++◌, ◌+◌}}
use Rattle.yaml_recognizers.proofs.Prelude.{Entries, Entry, Flow, Value, absent, asked_text, empty, entries_text, entry, entry_text}
use Rattle.yaml_recognizers.proofs.Prelude.{flow_text, given, is_plain, last, map, next, none, scalar, seq, value_text, FlowContext, Scalar}
use Rattle.yaml_recognizers.proofs.{Prelude.gap_text, Flow.FlowNodesComplete.{entries_size, entry_size, flow_read, flow_size, stops_flow}}
use Rattle.yaml_recognizers.proofs.{Flow.{FlowNodesComplete.value_size, FlowNodesSound.{FlowOfAt, flow_sound}}, Basics.Reading.Sound}
use Rattle.yaml_recognizers.{proofs.Basics.Reading.sound_of, specs.{CanonicalFlowNodes.canonical_flow, Ends.Stops, Reading.Read}}
use Rattle.yaml_recognizers.specs.{Scalars.ReadsScalars, FlowNodes.{flow_ends, read_flow, whole_flow}}

-- ---- a node goes no deeper than four times its length

-- a node goes no deeper than four times its length
mutual
  unfolding flow_size

  -- a node is no larger than its text
  flow_small : (f : Flow) → flow_size f ≤ 4 * length (flow_text f) + 1
  flow_small (scalar s) = omega arith
  flow_small (seq gap es) =
      omega (
        arith,
        entries_small es,
        length-append (codes "[" ++ gap_text gap ++ entries_text es) (codes "]"),
        length-append (codes "[" ++ gap_text gap) (entries_text es),
        length-append (codes "[") (gap_text gap),
      )
  flow_small (map gap es) =
      omega (
        arith,
        entries_small es,
        length-append (codes "{" ++ gap_text gap ++ entries_text es) (codes "}"),
        length-append (codes "{" ++ gap_text gap) (entries_text es),
        length-append (codes "{") (gap_text gap),
      )

  -- nor are entries
  entries_small : (es : Entries) → entries_size es ≤ 4 * length (entries_text es) + 4
  entries_small none = omega arith
  entries_small (last e gap) = omega (arith, entry_small e, length-append (entry_text e) (gap_text gap))
  entries_small (next e before after es) =
      omega (
        arith,
        entry_small e,
        entries_small es,
        length-append (entry_text e ++ gap_text before ++ codes "," ++ gap_text after) (entries_text es),
        length-append (entry_text e ++ gap_text before ++ codes ",") (gap_text after),
        length-append (entry_text e ++ gap_text before) (codes ","),
        length-append (entry_text e) (gap_text before),
      )

  -- nor is an entry
  entry_small : (e : Entry) → entry_size e ≤ 4 * length (entry_text e) + 3
  entry_small (entry ask key value) =
      omega (
        arith,
        flow_small key,
        value_small value,
        length-append (asked_text ask ++ flow_text key) (value_text value),
        length-append (asked_text ask) (flow_text key),
      )

  -- nor is a value
  value_small : (v : Value) → value_size v ≤ 4 * length (value_text v) + 1
  value_small absent = omega arith
  value_small (empty gap) = omega arith
  value_small (given before after f) =
      omega (
        arith,
        flow_small f,
        length-append (gap_text before ++ codes ":" ++ gap_text after) (flow_text f),
        length-append (gap_text before ++ codes ":") (gap_text after),
        length-append (gap_text before) (codes ":"),
      )

module _ (read_scalar : ℕ → FlowContext → Bool → List ℕ → Read Scalar) (scalars : ReadsScalars read_scalar) where
  abbrev ends : ℕ → FlowContext → Flow → List ℕ → Bool
  ends n c f after = flow_ends scalars.ends n c f after

  -- a canonical flow node is read
  pub flow_found : (f : Flow) (n : ℕ) (c : FlowContext) (bol : Bool) (after : List ℕ)
      → canonical_flow f n c bol after ≡ true → ends n c f after ≡ true
      → whole_flow read_scalar n c bol (flow_text f ++ after) ≡ Some (f, after)
  flow_found f n c bol after h e =
      flow_read read_scalar scalars f (4 * length (flow_text f ++ after) + 1) n c bol after
      (omega (arith, flow_small f, length-append (flow_text f) after)) h e

  -- the same, over a recognizer of scalars
  pub whole_flow_read : (f : Flow) (n : ℕ) (c : FlowContext) (bol : Bool) (after : List ℕ)
      → canonical_flow f n c bol after ≡ true → Stops n c (is_plain f) after
      → whole_flow read_scalar n c bol (flow_text f ++ after) ≡ Some (f, after)
  whole_flow_read f n c bol after h s = flow_found f n c bol after h (stops_flow read_scalar scalars n c f after s)

  -- a flow node that is read is canonical
  pub flow_is : (fuel n : ℕ) (c : FlowContext) (bol : Bool) (text : List ℕ) (f : Flow) (rest : List ℕ)
      → read_flow read_scalar fuel n c bol text ≡ Some (f, rest)
      → (text ≡ flow_text f ++ rest) × (canonical_flow f n c bol rest ≡ true) × (ends n c f rest ≡ true)
  flow_is fuel n c bol text f rest e = flow_sound read_scalar scalars fuel n c bol text f rest e

  -- the same, with all levels
  pub whole_flow_sound : (n : ℕ) (c : FlowContext) (bol : Bool) (text : List ℕ)
      → Sound (FlowOfAt n c bol text) (whole_flow read_scalar n c bol text)
  whole_flow_sound n c bol text =
      sound_of (FlowOfAt n c bol text) (whole_flow read_scalar n c bol text)
      (λ y e. let p = flow_is (4 * length text + 1) n c bol text y.0 y.1 e in (p.0, p.1))
