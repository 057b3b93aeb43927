-- The keys of block mappings, from a recognizer of flow scalars alone: complete and sound, and where none is.
use Rattle.std.{proofs.Common.{ap, append_assoc, subst, ◌∙◌, ◌≡◌}, specs.Prelude.{Bool, List, None, Some, codes, false, true, ℕ, ◌++◌, ◌∷◌}}
use Rattle.yaml_recognizers.proofs.Prelude.{ns, white, Flow, flow_text, short_key, FlowContext, Scalar, block_key, outer, LineEnd}
use Rattle.yaml_recognizers.proofs.{Prelude.{comments_text, list_all, first}, Flow.FlowNodesWhole.{whole_flow_read, whole_flow_sound}}
use Rattle.yaml_recognizers.proofs.{Basics.Reading.sound_is, Block.BlockKeys.{WholeKey, flow_no_key, keys_read, whole_key}}
use Rattle.yaml_recognizers.specs.{BlockNodes.block_key_at, CanonicalComments.canonical_comments, CanonicalFlowNodes.canonical_flow}
use Rattle.yaml_recognizers.specs.{Ends.less_deep, FlowNodes.whole_flow, Reading.Read, Recognizers.IsBlockKey, Scalars.ReadsScalars}

module _ (read_scalar : ℕ → FlowContext → Bool → List ℕ → Read Scalar) (scalars : ReadsScalars read_scalar) where
  abbrev key_in : Bool → List ℕ → Read (Flow × List ℕ)
  key_in bol text = block_key_at (whole_flow read_scalar) bol text

  key_regrouped : (key : Flow) (gap rest : List ℕ) → flow_text key ++ gap ++ codes ":" ++ rest ≡ flow_text key ++ (gap ++ (58 ∷ rest))
  key_regrouped key gap rest = simp append_assoc

  -- a key that fits is read
  pub block_key_read : (key : Flow) (gap : List ℕ) (bol : Bool) (rest : List ℕ)
      → canonical_flow key 0 block_key bol (gap ++ codes ":" ++ rest) ≡ true → list_all white gap ≡ true
      → short_key key gap ≡ true → first ns rest ≡ false → key_in bol (flow_text key ++ gap ++ codes ":" ++ rest) ≡ Some ((key, gap), rest)
  block_key_read key gap bol rest h w s n =
      let fit : canonical_flow key 0 block_key bol (gap ++ (58 ∷ rest)) ≡ true =
      subst (λ (t : List ℕ). canonical_flow key 0 block_key bol t ≡ true) (append_assoc gap (codes ":") rest) h in
      ap (key_in bol) (key_regrouped key gap rest)
      ∙ keys_read (whole_flow read_scalar) (whole_flow_read read_scalar scalars)
      (whole_flow_sound read_scalar scalars) key gap bol rest fit w s n

  -- what is read is a key, as the grammar says it
  pub block_key_is : (bol : Bool) (text : List ℕ) (key : Flow) (gap rest : List ℕ)
      → key_in bol text ≡ Some ((key, gap), rest) → IsBlockKey bol text key gap rest
  block_key_is bol text key gap rest e =
      let w : WholeKey bol text (key, gap) rest =
      sound_is (WholeKey bol text) (key_in bol text) ((key, gap), rest)
      (whole_key (whole_flow read_scalar) (whole_flow_read read_scalar scalars)
      (whole_flow_sound read_scalar scalars) bol text) e in
      record { spells = (w.0).0; fits = (w.0).1; gap_white = (w.0).2; short = (w.0).3; apart = w.1 }

  -- a flow node before comments is no key
  pub no_block_key : (f : Flow) (m : ℕ) (bol start : Bool) (comments : List LineEnd) (after : List ℕ)
      → canonical_flow f m outer bol (comments_text comments ++ after) ≡ true
      → canonical_comments false comments after ≡ true → less_deep m after ≡ true
      → key_in start (flow_text f ++ (comments_text comments ++ after)) ≡ None
  no_block_key f m bol start comments after h c d =
      flow_no_key (whole_flow read_scalar) (whole_flow_read read_scalar scalars)
      (whole_flow_sound read_scalar scalars) f m bol start comments after h c d
