-- Nodes in whatever form are found where they are: what is found is their canonical form.
use Rattle.std.{proofs.{Common.{ap, append_assoc, inl, inr, refl, subst, sym, ◌∙◌, ◌≡◌}, Math.Logic.◌⊎◌}, specs.Prelude.{Bool, List, None}}
use Rattle.std.specs.Prelude.{Some, [], true, ℕ, ◌++◌, ◌||◌, ◌∷◌}
use Rattle.yaml_recognizers.proofs.Prelude.{and_from, and_parts, cases_Bool, not_from_false, or_left, or_right, Node, node_end, node_events}
use Rattle.yaml_recognizers.proofs.Prelude.{node_fits, node_text, Flow, flow_events, flow_text, map, scalar, seq, FlowContext, LineEnd}
use Rattle.yaml_recognizers.proofs.Prelude.{comments_fit, comments_text, line_end_text, is_empty, marker}
use Rattle.yaml_recognizers.proofs.Block.{BlockNodesWhole.{whole_node_is, whole_node_read}, BlockNodesForm.{node_before, node_form}}
use Rattle.yaml_recognizers.proofs.Block.BlockNodesForm.{node_form_end, node_form_events, node_form_fits, node_open}
use Rattle.yaml_recognizers.proofs.BlockScalars.{BlockScalarFacts.blocks_read, BlockScalarsForm.{takes, takes_not}}
use Rattle.yaml_recognizers.proofs.{Meanings.CanonicalFits.{flow_fits_too, node_fits_too}, Separation.CommentsComplete.comments_all}
use Rattle.yaml_recognizers.proofs.{Separation.CommentsSound.line_is_end, Flow.{FlowNodesFound.{found, stands}, FlowNodesForm.flow_form}}
use Rattle.yaml_recognizers.proofs.{Flow.FlowNodesForm.{flow_form_events, flow_form_fits, flow_form_text}, Basics.Reading.none_some}
use Rattle.yaml_recognizers.{proofs.{Basics.Reading.some_parts, Scalars.ScalarsInNodes.reads_scalars}, specs.BlockScalars.read_block}
use Rattle.yaml_recognizers.specs.{CanonicalBlockNodes.canonical_node, CanonicalComments.is_line_end, Comments.all_comments}
use Rattle.yaml_recognizers.specs.{Ends.block_node_stops, FlowScalars.read_scalar, Recognizers.{StandsFlow, block_node_at, flow_node_at}}
use Rattle.yaml_recognizers.specs.{Recognizers.flow_node_stops, StandingNodes.{BlockNodeStands, EndsNode, FlowNodeStands, IsBlockNode}}
use Rattle.yaml_recognizers.specs.StandingNodes.{IsFlowNode, NoBlockNode, NoFlowNode, SameBlockNode, SameFlowNode}

-- ---- flow nodes

-- the canonical form ends where the node does
form_stops : (f : Flow) (n : ℕ) (c : FlowContext) (rest : List ℕ) → flow_node_stops n c f rest ≡ true
    → flow_node_stops n c (flow_form f) rest ≡ true
form_stops (scalar s) n c rest h = h
form_stops (seq gap es) n c rest h = refl
form_stops (map gap es) n c rest h = refl

-- the canonical form of a flow node that stands there is found
form_found : (n : ℕ) (c : FlowContext) (bol : Bool) (text : List ℕ) (f : Flow) (rest : List ℕ)
    → FlowNodeStands n c bol text f rest → flow_node_at n c bol text ≡ Some (flow_form f, rest)
form_found n c bol text f rest h =
    found n c bol text (flow_form f) rest
    (record {
      spells = rw (flow_form_text f) h.spells;
      canonical = flow_form_fits f n c bol rest h.fits;
      ends = form_stops f n c rest h.ends;
    })

-- it is the same flow node
form_same : (f : Flow) → SameFlowNode (flow_form f) f
form_same f = record { spells = flow_form_text f; means = flow_form_events f }

-- a flow node that is there is read in its canonical form
pub flow_found : (n : ℕ) (c : FlowContext) (bol : Bool) (text : List ℕ) (f : Flow) (rest : List ℕ) → FlowNodeStands n c bol text f rest
    → (g : Flow) × (flow_node_at n c bol text ≡ Some (g, rest)) × SameFlowNode g f
flow_found n c bol text f rest h = (flow_form f, form_found n c bol text f rest h, form_same f)

-- if none is read, none is there
pub flow_missing : (n : ℕ) (c : FlowContext) (bol : Bool) (text : List ℕ) → flow_node_at n c bol text ≡ None → NoFlowNode n c bol text
flow_missing n c bol text e = λ f rest h. none_some (flow_form f, rest) (sym e ∙ form_found n c bol text f rest h)

-- a flow node that is read is each one there
pub flow_only : (n : ℕ) (c : FlowContext) (bol : Bool) (text : List ℕ) (f : Flow) (rest : List ℕ)
    → flow_node_at n c bol text ≡ Some (f, rest) → IsFlowNode n c bol text f rest
flow_only n c bol text f rest e =
    let s : StandsFlow n c bol text f rest = stands n c bol text f rest e in
    record {
      stands = record { spells = s.spells; fits = flow_fits_too f n c bol rest s.canonical; ends = s.ends };
      only = λ other after h. let p : (flow_form other ≡ f) × (after ≡ rest) =
          some_parts (flow_form other) f after rest (sym (form_found n c bol text other after h) ∙ e) in (
            record {
              spells = sym (flow_form_text other) ∙ ap flow_text p.0;
              means = λ at. sym (flow_form_events other at) ∙ ap (λ (g : Flow). flow_events g at) p.0;
            },
            p.1,
          );
    }

-- ---- block nodes

-- lines of comments that are there end a node
lines_end : (m : ℕ) (shallow : Bool) (e : LineEnd) (es : List LineEnd) (after : List ℕ) → comments_fit true (e ∷ es) after ≡ true
    → block_node_stops m shallow (comments_text (e ∷ es) ++ after) ≡ true
lines_end m shallow e es after h =
    let text : List ℕ = comments_text (e ∷ es) ++ after in
    let line : is_line_end (line_end_text e ++ (comments_text es ++ after)) ≡ true =
    line_is_end true e (comments_text es ++ after) (and_parts _ _ h).0 in
    let regrouped : text ≡ line_end_text e ++ (comments_text es ++ after) = append_assoc (line_end_text e) (comments_text es) after in
    or_left _ _ (or_right (is_empty text || marker text) _ (subst (λ (t : List ℕ). is_line_end t ≡ true) (sym regrouped) line))

-- where a node ends, it ends before comment lines too
left_ended : (m : ℕ) (shallow : Bool) (ls : List LineEnd) (after : List ℕ) → comments_fit true ls after ≡ true
    → block_node_stops m shallow after ≡ true
    → block_node_stops m shallow (comments_text ls ++ after) ≡ true
left_ended m shallow [] after l e = e
left_ended m shallow (l' ∷ ls) after l e = lines_end m shallow l' ls after l

-- a canonical node that ends there is read
read_at : (g : Node) (m : ℕ) (shallow bol : Bool) (left : List ℕ) → canonical_node g m shallow bol left ≡ true
    → block_node_stops m shallow left ≡ true
    → block_node_at m shallow bol (node_text g ++ left) ≡ Some (g, left)
read_at = whole_node_read read_scalar reads_scalars read_block blocks_read

-- what is found for a node
record FoundFor (m : ℕ) (shallow bol : Bool) (text : List ℕ) (node : Node) (after rest : List ℕ) : Type 0 where
  lines : List LineEnd
  left : List ℕ
  is : block_node_at m shallow bol text ≡ Some (node_form node lines, left)
  leaves : (left ≡ after) ⊎ (left ≡ rest)

-- the canonical form of a block node that stands there is found
node_found : (m : ℕ) (shallow bol : Bool) (text : List ℕ) (node : Node) (rest : List ℕ) (h : BlockNodeStands m shallow bol text node rest)
    → FoundFor m shallow bol text node h.after.after rest
node_found m shallow bol text node rest h =
    let e : EndsNode m shallow rest = h.after in
    let more : List ℕ = comments_text e.lines ++ e.after in
    let fit : node_fits node m shallow bol more ≡ true = subst (λ (t : List ℕ). node_fits node m shallow bol t ≡ true) e.is h.fits in
    let text_is : text ≡ node_text node ++ more = h.spells ∙ ap (λ (t : List ℕ). node_text node ++ t) e.is in
    elim (cases_Bool (takes (node_open node) e.lines e.after)) [
      | inl t ↦ (let c : canonical_node (node_form node e.lines) m shallow bol e.after ≡ true =
          node_form_fits node m shallow bol e.lines e.after fit e.fit t in
          record {
            lines = e.lines;
            left = e.after;
            is = ap (block_node_at m shallow bol) (text_is ∙ sym (node_before node e.lines e.after))
                ∙ read_at (node_form node e.lines) m shallow bol e.after c e.ends;
            leaves = inl refl;
          })
      | inr t ↦ (let still : takes (node_open node) [] more ≡ true = takes_not (node_open node) e.lines e.after e.fit e.whole t in
          let c : canonical_node (node_form node []) m shallow bol more ≡ true = node_form_fits node m shallow bol [] more fit refl still in
          record {
            lines = [];
            left = more;
            is = ap (block_node_at m shallow bol) (text_is ∙ sym (node_before node [] more))
                ∙ read_at (node_form node []) m shallow bol more c (left_ended m shallow e.lines e.after e.fit e.ends);
            leaves = inr (sym e.is);
          })
    ]

-- it is the same block node
form_means : (node : Node) (ls : List LineEnd) → SameBlockNode (node_form node ls) node
form_means node ls = record { means = node_form_events node ls; ends = node_form_end node ls }

-- a block node that is there is read in its canonical form
pub block_found : (m : ℕ) (shallow bol : Bool) (text : List ℕ) (node : Node) (rest : List ℕ)
    (h : BlockNodeStands m shallow bol text node rest)
    → (g : Node) × (left : List ℕ) × (block_node_at m shallow bol text ≡ Some (g, left)) × SameBlockNode g node
    × ((left ≡ h.after.after) ⊎ (left ≡ rest))
block_found m shallow bol text node rest h =
    let f = node_found m shallow bol text node rest h in
    (node_form node f.lines, f.left, f.is, form_means node f.lines, f.leaves)

-- if none is read, none is there
pub block_missing : (m : ℕ) (shallow bol : Bool) (text : List ℕ) → block_node_at m shallow bol text ≡ None → NoBlockNode m shallow bol text
block_missing m shallow bol text e = λ node rest h. let f = node_found m shallow bol text node rest h in
    none_some (node_form node f.lines, f.left) (sym e ∙ f.is)

-- a block node that is read is each one there
pub block_only : (m : ℕ) (shallow bol : Bool) (text : List ℕ) (node : Node) (rest : List ℕ)
    → block_node_at m shallow bol text ≡ Some (node, rest) → IsBlockNode m shallow bol text node rest
block_only m shallow bol text node rest e =
    let is : (text ≡ node_text node ++ rest) × (canonical_node node m shallow bol rest ≡ true) =
    whole_node_is read_scalar reads_scalars read_block blocks_read m shallow bol text node rest e in
    record {
      spells = is.0;
      fits = node_fits_too node m shallow bol rest is.1;
      only = λ other after h.
          let f = node_found m shallow bol text other after h in
          let p : (node_form other f.lines ≡ node) × (f.left ≡ rest) =
          some_parts (node_form other f.lines) node f.left rest (sym f.is ∙ e) in
          let same : SameBlockNode (node_form other f.lines) other = form_means other f.lines in (
            record {
              means = λ at. sym (same.means at) ∙ ap (λ (n : Node). node_events n at) p.0;
              ends = λ at. sym (same.ends at) ∙ ap (λ (n : Node). node_end n at) p.0;
            },
            subst (λ (t : List ℕ). (t ≡ h.after.after) ⊎ (t ≡ after)) p.1 f.leaves,
          );
    }

-- what comes after all comment lines is the same, whether they are left or not
past_lines : (m : ℕ) (shallow : Bool) (rest left : List ℕ) (e : EndsNode m shallow rest)
    → (left ≡ e.after) ⊎ (left ≡ rest) → (all_comments true left).1 ≡ e.after
past_lines m shallow rest left e (inl i) = rw i
    (ap (λ (p : List LineEnd × List ℕ). p.1) (comments_all true [] e.after (and_from _ _ refl (not_from_false _ e.whole))))
past_lines m shallow rest left e (inr i) = rw (i, e.is)
    (ap (λ (p : List LineEnd × List ℕ). p.1) (comments_all true e.lines e.after (and_from _ _ e.fit (not_from_false _ e.whole))))

-- two that are there have the same events and end
pub block_once : (m : ℕ) (shallow bol : Bool) (text : List ℕ) (one other : Node) (rest rest' : List ℕ)
    (h : BlockNodeStands m shallow bol text one rest)
    (k : BlockNodeStands m shallow bol text other rest') → SameBlockNode one other × (h.after.after ≡ k.after.after)
block_once m shallow bol text one other rest rest' h k =
    let f = node_found m shallow bol text one rest h in
    let g = node_found m shallow bol text other rest' k in
    let p : (node_form one f.lines ≡ node_form other g.lines) × (f.left ≡ g.left) =
    some_parts (node_form one f.lines) (node_form other g.lines) f.left g.left (sym f.is ∙ g.is) in (
      record {
        means = λ at. sym (node_form_events one f.lines at) ∙ (ap (λ (n : Node). node_events n at) p.0 ∙ node_form_events other g.lines at);
        ends = λ at. sym (node_form_end one f.lines at) ∙ (ap (λ (n : Node). node_end n at) p.0 ∙ node_form_end other g.lines at);
      },
      sym (past_lines m shallow rest f.left h.after f.leaves)
          ∙ (ap (λ (t : List ℕ). (all_comments true t).1) p.1 ∙ past_lines m shallow rest' g.left k.after g.leaves),
    )
