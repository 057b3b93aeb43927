-- Each node of a presentation of a whole text is at its place in the bytes of the text.
use Rattle.std.{proofs.Common.{ap, append_assoc, refl, subst, sym, zero-add, ◌∙◌, ◌≡◌}, specs.Prelude.{Bool, List, None, Option, Some, []}}
use Rattle.std.specs.Prelude.{drop, false, true, ℕ, ◌++◌, ◌+◌, ◌∷◌, if◌then◌else◌}
use Rattle.yaml_docs.proofs.Prelude.{All, IsCharBoundary, IsUtf8, chars, append_cancel_right, IsCharBoundary-start, rest, rest-start}
use Rattle.yaml_docs.proofs.Prelude.{node_text, Presents, Stream, mark_text, stream_text, byte_len, first, starts_line, read_block}
use Rattle.yaml_docs.proofs.Prelude.{FlatStream, Section, read_scalar, stream_at, sections_at, order_mark, with_mark, blocks_read}
use Rattle.yaml_docs.proofs.{Prelude.{form_found, stream_steps, reads_scalars, line_starts, without_mark}, TextPlaces.StandsUpTo}
use Rattle.{yaml_docs.{proofs.TextPlaces.place_after, specs.NodesInBytes.NodeIsAt}, yaml_grammar.specs.FlowNodes.flow_text}
use Rattle.yaml_recognizers.specs.NodePlaces.{NodePlace, NodeSpelled, NodeStands, NodeStarts, SpelledAt, StartsAt, block_at, flow_at}
use Rattle.yaml_recognizers.specs.{NodePlaces.stream_places, StandingNodes.{BlockNodeStands, FlowNodeStands}}
use Rattle.yaml_recognizers.proofs.{Documents.StreamsForm.stream_form, Meanings.{NodePlaces.stream_stand, NodesSpelled.stream_spelled}}
use Rattle.yaml_recognizers.proofs.Meanings.NodesStart.{stream_starts}

-- ---- a presentation has a byte order mark exactly if its text begins with one

marked : (mark : Bool) (sections : Option (List Section)) (s : FlatStream) → with_mark mark sections ≡ Some s → s.mark ≡ mark
marked mark None s e = cc
marked mark (Some ps) s e = let is : ◌≡◌ {A = FlatStream} (record { mark = mark; sections = ps }) s = cc in sym (ap (λ f. f.mark) is)

marked_by_test : (test : Bool) (one other : Option (List Section)) (s : FlatStream)
    → (if test then with_mark true one else with_mark false other) ≡ Some s → s.mark ≡ test
marked_by_test true one other s e = marked true one s e
marked_by_test false one other s e = marked false other s e

mark_is_first : (text : List ℕ) (p : Stream) → Presents p text → p.mark ≡ first order_mark text
mark_is_first text p h =
    let found : stream_at text ≡ Some (stream_form p) = (form_found read_scalar reads_scalars read_block blocks_read text p h).0 in
    marked_by_test (first order_mark text) (sections_at true true (drop 1 text)) (sections_at true true text)
    (stream_form p) (sym (stream_steps text) ∙ found)

-- ---- what comes before a node, without the mark

-- without the byte order mark of a presentation, where one that has none begins with another character
unmarked : (mark : Bool) (before after : List ℕ) → first order_mark (mark_text mark ++ (before ++ after)) ≡ mark
    → without_mark (mark_text mark ++ before) ≡ before
unmarked true before after e = refl
unmarked false [] after e = refl
unmarked false (c ∷ before) after e = let no : order_mark c ≡ false = e in rw no refl

-- a place with its part there: a line starts there as is said of it
pub record PartIsAt (bytes : List ℕ) (at : ℕ) (bol : Bool) (part after : List ℕ) : Type 0 where
  pub boundary : IsCharBoundary bytes at
  pub starts : line_starts bytes at ≡ bol
  pub is : rest bytes at ≡ part ++ after

part_is_at : (bytes : List ℕ) (p : Stream) (at : ℕ) (bol : Bool) (part after : List ℕ) → IsUtf8 bytes → Presents p (chars bytes)
    → SpelledAt (stream_text p) at part after → StartsAt p.mark (stream_text p) bol part after → PartIsAt bytes at bol part after
part_is_at bytes p at bol part after u h spelled starts =
    let all : List ℕ = part ++ after in
    let same : spelled.before ≡ mark_text p.mark ++ starts.before =
    append_cancel_right spelled.before (mark_text p.mark ++ starts.before) all
    (sym spelled.is ∙ starts.is ∙ sym (append_assoc (mark_text p.mark) starts.before all)) in
    let whole : rest bytes 0 ≡ spelled.before ++ all = rest-start bytes ∙ sym h.spells ∙ spelled.is in
    let here : StandsUpTo bytes 0 spelled.before all (0 + byte_len spelled.before) =
    place_after bytes 0 spelled.before all u (IsCharBoundary-start bytes u) whole in
    let there : StandsUpTo bytes 0 spelled.before all at =
    subst (λ (k : ℕ). StandsUpTo bytes 0 spelled.before all k) (zero-add (byte_len spelled.before) ∙ spelled.place) here in
    let marks : first order_mark (mark_text p.mark ++ (starts.before ++ all)) ≡ p.mark =
    ap (first order_mark) (sym starts.is ∙ h.spells) ∙ sym (mark_is_first (chars bytes) p h) in
    let begins : without_mark spelled.before ≡ starts.before = ap without_mark same ∙ unmarked p.mark starts.before all marks in
    record {
      boundary = there.boundary;
      starts = ap (λ t. starts_line true (without_mark t)) there.is ∙ ap (starts_line true) begins ∙ starts.starts;
      is = there.leaves;
    }

-- ---- each node

node_is_at : (bytes : List ℕ) (p : Stream) (place : NodePlace) → IsUtf8 bytes → Presents p (chars bytes)
    → NodeSpelled (stream_text p) place → NodeStarts p.mark (stream_text p) place → NodeStands place → NodeIsAt bytes place
node_is_at bytes p (flow_at n c bol at f after) u h spelled starts stands =
    let here : PartIsAt bytes at bol (flow_text f) after = part_is_at bytes p at bol (flow_text f) after u h spelled starts in
    let bols : FlowNodeStands n c (line_starts bytes at) (flow_text f ++ after) f after =
    subst (λ (b : Bool). FlowNodeStands n c b (flow_text f ++ after) f after) (sym here.starts) stands in
    (here.boundary, subst (λ (t : List ℕ). FlowNodeStands n c (line_starts bytes at) t f after) (sym here.is) bols)
node_is_at bytes p (block_at m shallow bol at node after) u h spelled starts stands =
    let here : PartIsAt bytes at bol (node_text node) after = part_is_at bytes p at bol (node_text node) after u h spelled starts in
    let bols : BlockNodeStands m shallow (line_starts bytes at) (node_text node ++ after) node after =
    subst (λ (b : Bool). BlockNodeStands m shallow b (node_text node ++ after) node after) (sym here.starts) stands in
    (here.boundary, subst (λ (t : List ℕ). BlockNodeStands m shallow (line_starts bytes at) t node after) (sym here.is) bols)

-- the law `nodes_are_at_their_places`
pub nodes_at_their_places : (bytes : List ℕ) (p : Stream) → IsUtf8 bytes → Presents p (chars bytes) → All (NodeIsAt bytes) (stream_places p)
nodes_at_their_places bytes p u h k d l =
    node_is_at bytes p _ u h (stream_spelled p k d l) (stream_starts p h.fits k d l) (stream_stand p h.fits k d l)
