-- What the node of a document and the sections of a stream begin with, and what ends a document.
use Rattle.std.{proofs.Common.{ap, append_assoc, arith, inl, inr, length-append, refl, subst, sym, ◌∙◌, ◌≡◌, ◌≤◌}, specs.Prelude.Bool}
use Rattle.std.specs.Prelude.{List, [], codes, false, flat_map, if◌then◌else◌, length, nat_le, not, suc, true, zero, ℕ, ◌&&◌, ◌++◌, ◌==◌}
use Rattle.std.specs.Prelude.{◌||◌, ◌∷◌}
use Rattle.yaml_recognizers.proofs.Prelude.{and_left, and_parts, and_right, eqb-true, false≢true, le-ltb, or_cases, or_from, or_left}
use Rattle.yaml_recognizers.proofs.Prelude.{or_right, white, Items, Node, Pairs, block, flow, item, item_and, items, items_text, node_text}
use Rattle.yaml_recognizers.proofs.Prelude.{pair, pair_and, pair_text, pairs, pairs_text, BlockScalar, block_text, spaces_before, Flow}
use Rattle.yaml_recognizers.proofs.Prelude.{flow_text, map, scalar, seq, FlowContext, double, line_text, lines_after, outer, plain}
use Rattle.yaml_recognizers.proofs.Prelude.{plain_kind, plain_line, plain_text, single, LineEnd, Sep, comment_line_fits, comments_text}
use Rattle.yaml_recognizers.proofs.Prelude.{indents, inline, line_end_text, lines, sep_text, Explicit, bare, content, directed, explicit}
use Rattle.yaml_recognizers.proofs.Prelude.{explicit_text, nothing, list_all, ends_word, first, is_empty, marker, spaces, starts_line}
use Rattle.yaml_recognizers.proofs.Separation.{CommentsSound.line_is_end, CommentsComplete.{comments_all, no_comments, no_line}}
use Rattle.yaml_recognizers.proofs.{Separation.CommentsComplete.not_line_end, Basics.{Prefixes.every_space, LineStarts.comments_start}}
use Rattle.yaml_recognizers.proofs.Basics.{LineStarts.{line_not_end, starts_joined}, Solid.{dash_solid, dash_unmarked, marker_first}}
use Rattle.yaml_recognizers.proofs.{Basics.Solid.sign_head, Scalars.PlainScalars.plain_texts, Block.BlockNodesBegin.{Prefix, append_some}}
use Rattle.yaml_recognizers.proofs.{Block.BlockNodesBegin.{block_prefix, items_start, pair_long, pairs_prefix}, Flow.FlowNodesBegin.Opens}
use Rattle.yaml_recognizers.{proofs.Flow.FlowNodesBegin.{flow_opens, key_unmarked, plain_prefix, reserved}, specs.BlockNodes.{bar, omits}}
use Rattle.yaml_recognizers.specs.{CanonicalBlockScalars.canonical_block, CanonicalFlowNodes.canonical_flow, Comments.all_comments}
use Rattle.yaml_recognizers.specs.{Ends.{block_node_stops, solid}, Prefixes.sign, CanonicalBlockNodes.{canonical_items, canonical_node}}
use Rattle.yaml_recognizers.specs.{CanonicalBlockNodes.canonical_pairs, CanonicalComments.{canonical_comments, canonical_sep, is_line_end}}
use Rattle.yaml_recognizers.specs.CanonicalStreams.{Section, canonical_explicit, canonical_sections, document, line, section_text}
use Rattle.yaml_recognizers.specs.CanonicalStreams.{sections_text, suffix}

-- ---- where lines start

-- after comments a line starts, where something is there
line_after : (bol : Bool) (es : List LineEnd) (after : List ℕ) → canonical_comments bol es after ≡ true
    → is_empty after ≡ false → starts_line bol (comments_text es) ≡ true
line_after bol es after h n = line_not_end (starts_line bol (comments_text es)) after (comments_start bol es after (and_parts _ _ h).0) n

-- ---- nodes

-- after its comments a node has neither a marker, nor the sign of a directive, nor a byte order mark
pub record NodePrefix (bol : Bool) (text : List ℕ) : Type 0 where
  pub comments : List LineEnd
  pub rest : List ℕ
  pub all : all_comments bol text ≡ (comments, rest)
  pub some : is_empty rest ≡ false
  pub no_line_end : is_line_end rest ≡ false
  pub unmarked : bol || not (is_empty comments) ≡ true → marker rest ≡ false
  pub unreserved : first reserved rest ≡ false

-- what holds of one test or of nothing holds of the test
or_none : (b : Bool) → b || false ≡ true → b ≡ true
or_none true h = refl
or_none false h = h

-- whitespace starts no marker, and is not reserved
white_prefix : (x : ℕ) (xs : List ℕ) → white x ≡ true → (marker (x ∷ xs) ≡ false) × (reserved x ≡ false)
white_prefix x xs h = elim (or_cases (x == 32) (x == 9) h) [
  | inl e ↦ subst (λ (y : ℕ). (marker (y ∷ xs) ≡ false) × (reserved y ≡ false)) (sym (eqb-true x 32 e)) (marker_first 32 xs refl refl, refl)
  | inr e ↦ subst (λ (y : ℕ). (marker (y ∷ xs) ≡ false) × (reserved y ≡ false)) (sym (eqb-true x 9 e)) (marker_first 9 xs refl refl, refl)
]

-- a leaf after its separation
leaf_prefix : (bol : Bool) (sep : Sep) (rest : List ℕ) → canonical_sep 0 false bol sep rest ≡ true
    → first solid rest ≡ true → first reserved rest ≡ false
    → (starts_line bol (sep_text sep) ≡ true → marker rest ≡ false) → NodePrefix bol (sep_text sep ++ rest)
leaf_prefix bol (inline []) rest h s r u =
    record {
      comments = [];
      rest = rest;
      all = no_comments bol [] rest refl s;
      some = append_some [] rest s;
      no_line_end = not_line_end [] rest refl s;
      unmarked = λ b. u (or_none bol b);
      unreserved = r;
    }
leaf_prefix bol (inline (x ∷ xs)) rest h s r u =
    let w : list_all white (x ∷ xs) ≡ true = (and_parts _ _ h).0 in
    let f : (marker (x ∷ (xs ++ rest)) ≡ false) × (reserved x ≡ false) = white_prefix x (xs ++ rest) (and_parts _ _ w).0 in
    record {
      comments = [];
      rest = x ∷ (xs ++ rest);
      all = no_comments bol (x ∷ xs) rest w s;
      some = refl;
      no_line_end = not_line_end (x ∷ xs) rest w s;
      unmarked = λ _. f.0;
      unreserved = f.1;
    }
leaf_prefix bol (lines [] lead) rest h s r u = absurd (false≢true h)
leaf_prefix bol (lines (e ∷ es) []) rest h s r u =
    let p : (canonical_comments bol (e ∷ es) rest ≡ true) × (indents 0 [] ≡ true) = and_parts _ _ h in
    let regrouped : sep_text (lines (e ∷ es) []) ++ rest ≡ comments_text (e ∷ es) ++ rest = simp append_assoc in
    let some : is_empty rest ≡ false = append_some [] rest s in
    record {
      comments = e ∷ es;
      rest = rest;
      all = ap (all_comments bol) regrouped ∙ comments_all bol (e ∷ es) rest p.0;
      some = some;
      no_line_end = not_line_end [] rest refl s;
      unmarked = λ _. u (starts_joined bol (comments_text (e ∷ es)) [] ∙ line_after bol (e ∷ es) rest p.0 some);
      unreserved = r;
    }
leaf_prefix bol (lines (e ∷ es) (x ∷ xs)) rest h s r u =
    let p : (canonical_comments bol (e ∷ es) (x ∷ (xs ++ rest)) ≡ true) × (indents 0 (x ∷ xs) ≡ true) = and_parts _ _ h in
    let w : list_all white (x ∷ xs) ≡ true = (and_parts _ _ p.1).0 in
    let f : (marker (x ∷ (xs ++ rest)) ≡ false) × (reserved x ≡ false) = white_prefix x (xs ++ rest) (and_parts _ _ w).0 in
    let regrouped : sep_text (lines (e ∷ es) (x ∷ xs)) ++ rest ≡ comments_text (e ∷ es) ++ (x ∷ (xs ++ rest)) = simp append_assoc in
    record {
      comments = e ∷ es;
      rest = x ∷ (xs ++ rest);
      all = ap (all_comments bol) regrouped ∙ comments_all bol (e ∷ es) (x ∷ (xs ++ rest)) p.0;
      some = refl;
      no_line_end = not_line_end (x ∷ xs) rest w s;
      unmarked = λ _. f.0;
      unreserved = f.1;
    }

-- a block scalar starts no marker, and is not reserved
bar_prefix : (text : List ℕ) → first bar text ≡ true → (marker text ≡ false) × (first reserved text ≡ false)
bar_prefix [] h = absurd (false≢true h)
bar_prefix (c ∷ cs) h = elim (or_cases (c == 124) (c == 62) h) [
  | inl e ↦ subst (λ (y : ℕ). (marker (y ∷ cs) ≡ false) × (reserved y ≡ false)) (sym (eqb-true c 124 e))
      (marker_first 124 cs refl refl, refl)
  | inr e ↦ subst (λ (y : ℕ). (marker (y ∷ cs) ≡ false) × (reserved y ≡ false)) (sym (eqb-true c 62 e)) (marker_first 62 cs refl refl, refl)
]

-- after the spaces of an indentation
spaces_prefix : (bol : Bool) (comments : List LineEnd) (k : ℕ) (rest text : List ℕ)
    → text ≡ comments_text comments ++ (spaces k ++ rest) → canonical_comments bol comments (spaces k ++ rest) ≡ true
    → first solid rest ≡ true → (k == 0 ≡ true → marker rest ≡ false) → first reserved rest ≡ false → NodePrefix bol text
spaces_prefix bol comments zero rest text t h s u r =
    record {
      comments = comments;
      rest = rest;
      all = ap (all_comments bol) t ∙ comments_all bol comments rest h;
      some = append_some [] rest s;
      no_line_end = not_line_end [] rest refl s;
      unmarked = λ _. u refl;
      unreserved = r;
    }
spaces_prefix bol comments (suc k) rest text t h s u r =
    record {
      comments = comments;
      rest = spaces (suc k) ++ rest;
      all = ap (all_comments bol) t ∙ comments_all bol comments (spaces (suc k) ++ rest) h;
      some = refl;
      no_line_end = not_line_end (spaces (suc k)) rest (every_space (suc k)) s;
      unmarked = λ _. marker_first 32 (spaces k ++ rest) refl refl;
      unreserved = refl;
    }

-- a dash is not reserved
dash_unreserved : (text : List ℕ) → sign 45 text ≡ true → first reserved text ≡ false
dash_unreserved text h = let p = sign_head 45 text h in subst (λ (t : List ℕ). first reserved t ≡ false) (sym p.1) refl

-- a node of a document starts so
pub node_prefix : (n : Node) (bol : Bool) (after : List ℕ) → canonical_node n 0 false bol after ≡ true
    → NodePrefix bol (node_text n ++ after)
node_prefix (block sep b) bol after h =
    let p : (canonical_sep 0 false bol sep (block_text b ++ after) ≡ true) × (canonical_block 0 b after ≡ true) = and_parts _ _ h in
    let f = block_prefix b after in
    let g : (marker (block_text b ++ after) ≡ false) × (first reserved (block_text b ++ after) ≡ false) =
    bar_prefix (block_text b ++ after) f.0 in
    subst (NodePrefix bol) (sym (append_assoc (sep_text sep) (block_text b) after))
    (leaf_prefix bol sep (block_text b ++ after) p.0 f.1 g.1 (λ _. g.0))
node_prefix (flow sep f comments) bol after h =
    let more : List ℕ = comments_text comments ++ after in
    let rest : List ℕ = flow_text f ++ more in
    let start : Bool = starts_line bol (sep_text sep) in
    let p : (canonical_sep 0 false bol sep rest && canonical_flow f 0 outer start more ≡ true)
    × (canonical_comments false comments after ≡ true) = and_parts _ _ h in
    let q : (canonical_sep 0 false bol sep rest ≡ true) × (canonical_flow f 0 outer start more ≡ true) = and_parts _ _ p.0 in
    let o : Opens rest = (flow_opens f 0 outer start more refl q.1).0 in
    let regrouped : node_text (flow sep f comments) ++ after ≡ sep_text sep ++ rest = simp append_assoc in
    subst (NodePrefix bol) (sym regrouped)
    (leaf_prefix bol sep rest q.0 o.solid_first o.unreserved
    (λ e. key_unmarked f 0 outer more (subst (λ (b : Bool). canonical_flow f 0 outer b more ≡ true) e q.1)))
node_prefix (items comments k is) bol after h =
    let rest : List ℕ = items_text is k ++ after in
    let p : (canonical_comments bol comments (spaces k ++ rest) && nat_le 0 k ≡ true)
    × (canonical_items is k after ≡ true) = and_parts _ _ h in
    let s : sign 45 rest ≡ true = items_start is k after p.1 in
    let regrouped : node_text (items comments k is) ++ after ≡ comments_text comments ++ (spaces k ++ rest) = simp append_assoc in
    spaces_prefix bol comments k rest (node_text (items comments k is) ++ after) regrouped (and_parts _ _ p.0).0
    (dash_solid rest s) (λ _. dash_unmarked rest s) (dash_unreserved rest s)
node_prefix (pairs comments k ps) bol after h =
    let rest : List ℕ = pairs_text ps k ++ after in
    let p : (canonical_comments bol comments (spaces k ++ rest) && nat_le 0 k ≡ true)
    × (canonical_pairs ps k (k == 0) after ≡ true) = and_parts _ _ h in
    let s : Prefix (k == 0) rest = pairs_prefix ps k (k == 0) after p.1 in
    let regrouped : node_text (pairs comments k ps) ++ after ≡ comments_text comments ++ (spaces k ++ rest) = simp append_assoc in
    spaces_prefix bol comments k rest (node_text (pairs comments k ps) ++ after) regrouped
    (and_parts _ _ p.0).0 s.solid_first s.unmarked s.unreserved

-- ---- a node after `---`, and a bare one

-- at the top nothing but a marker or a comment line ends a node
goes_on_at_top : (rest : List ℕ) → is_empty rest ≡ false → marker rest ≡ false → is_line_end rest ≡ false
    → block_node_stops 0 false rest ≡ false
goes_on_at_top rest e u l = or_from _ _ (or_from _ _ (or_from _ _ e u) l) (and_left _ _ (le-ltb (spaces_before rest) 0 (omega arith)))

-- at the top a node is given, and not comments alone
given_at_top : (comments : List LineEnd) (rest : List ℕ) → is_empty rest ≡ false → is_line_end rest ≡ false
    → (not (is_empty comments) ≡ true → marker rest ≡ false) → omits 0 false (comments, rest) ≡ false
given_at_top [] rest e l u = and_left _ _ (and_left _ _ e)
given_at_top (c ∷ cs) rest e l u = and_right _ _ (goes_on_at_top rest e (u refl) l)

-- so there is a node, and not comments alone
pub content_given : (text : List ℕ) → NodePrefix false text → omits 0 false (all_comments false text) ≡ false
content_given text f = ap (omits 0 false) f.all ∙ given_at_top f.comments f.rest f.some f.no_line_end f.unmarked

-- what a node without comments before it starts with
pub record Bare (bol : Bool) (text : List ℕ) : Type 0 where
  pub some : is_empty text ≡ false
  pub unmarked : bol ≡ true → marker text ≡ false
  pub unreserved : first reserved text ≡ false

-- where no comments come before a node, the text starts as one without them
same_prefix : (bol : Bool) (text : List ℕ) (comments : List LineEnd) (rest : List ℕ)
    → ◌≡◌ {A = List LineEnd × List ℕ} ([], text) (comments, rest) → is_empty rest ≡ false
    → (bol || not (is_empty comments) ≡ true → marker rest ≡ false) → first reserved rest ≡ false → Bare bol text
same_prefix bol text comments rest p e u r =
    let c : [] ≡ comments = ap (λ (x : List LineEnd × List ℕ). x.0) p in
    let t : text ≡ rest = ap (λ (x : List LineEnd × List ℕ). x.1) p in
    record {
      some = ap is_empty t ∙ e;
      unmarked = λ b. ap marker t ∙ u (subst (λ (es : List LineEnd). bol || not (is_empty es) ≡ true) c (or_left bol false b));
      unreserved = ap (first reserved) t ∙ r;
    }

-- such a node starts so
pub bare_prefix : (bol : Bool) (text : List ℕ) → NodePrefix bol text → is_line_end text ≡ false → Bare bol text
bare_prefix bol text f l =
    let none : all_comments bol text ≡ ([], text) = rw (no_line bol text l) refl in
    same_prefix bol text f.comments f.rest (sym none ∙ f.all) f.some f.unmarked f.unreserved

-- ---- how long nodes are

-- the first line of a plain scalar has a character
plain_long : (c : FlowContext) (prefix after : List ℕ) → plain_line c prefix after ≡ true → 1 ≤ length prefix
plain_long c [] after h = absurd (false≢true h)
plain_long c (x ∷ xs) after h = omega arith

-- a flow node isn't empty
pub flow_long : (f : Flow) (n : ℕ) (c : FlowContext) (bol : Bool) (after : List ℕ)
    → canonical_flow f n c bol after ≡ true → 1 ≤ length (flow_text f)
flow_long (scalar (plain prefix more)) n c bol after h =
    let l : 1 ≤ length prefix = plain_long c prefix (lines_after plain_kind more after) (plain_prefix n c bol prefix more after h).0 in
    omega (arith, l, length-append (flat_map plain_text prefix) (flat_map (line_text plain_text) more), ap length (plain_texts prefix))
flow_long (scalar (single prefix more)) n c bol after h = omega arith
flow_long (scalar (double prefix more)) n c bol after h = omega arith
flow_long (seq gap es) n c bol after h = omega arith
flow_long (map gap es) n c bol after h = omega arith

-- a text that starts with `|` or `>` has a character
block_first_long : (folded : Bool) (a b c d : List ℕ) → 1 ≤ length (((((if folded then codes ">" else codes "|") ++ a) ++ b) ++ c) ++ d)
block_first_long true a b c d = omega arith
block_first_long false a b c d = omega arith

-- a block scalar isn't empty
pub block_long : (b : BlockScalar) → 1 ≤ length (block_text b)
block_long b = block_first_long (b.header).folded _ _ _ _

-- items aren't empty
pub items_long : (is : Items) (k : ℕ) → 1 ≤ length (items_text is k)
items_long (item i) k = omega arith
items_long (item_and i is) k = omega arith

-- pairs aren't empty
pub pairs_long : (ps : Pairs) (k : ℕ) → 1 ≤ length (pairs_text ps k)
pairs_long (pair p) k = pair_long p k
pairs_long (pair_and p ps) k = omega (
  arith,
  pair_long p k,
  length-append (pair_text p k ++ spaces k) (pairs_text ps k),
  length-append (pair_text p k) (spaces k),
)

-- a node isn't empty
pub node_long : (n : Node) (m : ℕ) (shallow bol : Bool) (after : List ℕ) → canonical_node n m shallow bol after ≡ true
    → 1 ≤ length (node_text n)
node_long (block sep b) m shallow bol after h =
    omega (arith, block_long b, length-append (sep_text sep) (block_text b))
node_long (flow sep f comments) m shallow bol after h =
    let l : 1 ≤ length (flow_text f) = flow_long f m outer (starts_line bol (sep_text sep))
    (comments_text comments ++ after) (and_parts _ _ (and_parts _ _ h).0).1 in
    omega (arith, l, length-append (sep_text sep ++ flow_text f) (comments_text comments), length-append (sep_text sep) (flow_text f))
node_long (items comments k is) m shallow bol after h =
    omega (arith, items_long is k, length-append (comments_text comments ++ spaces k) (items_text is k))
node_long (pairs comments k ps) m shallow bol after h =
    omega (arith, pairs_long ps k, length-append (comments_text comments ++ spaces k) (pairs_text ps k))

-- ---- what comes after a document ends it

-- a marker ends a node
pub marked : (m : ℕ) (shallow : Bool) (text : List ℕ) → marker text ≡ true → block_node_stops m shallow text ≡ true
marked m shallow text h = or_left _ _ (or_left _ _ (or_right (is_empty text) _ h))

-- `---` is a marker
explicit_ends : (x : Explicit) (bol : Bool) (rest : List ℕ) → canonical_explicit x bol rest ≡ true → marker (explicit_text x ++ rest) ≡ true
explicit_ends (content n) bol rest h =
    let p : (bol && ends_word (node_text n ++ rest) ≡ true) × (canonical_node n 0 false false rest ≡ true) = and_parts _ _ h in
    (and_parts _ _ p.0).1
explicit_ends (nothing comments) bol rest h =
    let p : (bol && ends_word (comments_text comments ++ rest) ≡ true)
    × (canonical_comments false comments rest ≡ true) = and_parts _ _ h in
    (and_parts _ _ p.0).1

-- after a document comes the end, a marker, or a line of whitespace or a comment
pub document_ended : (ps : List Section) (bol : Bool) → canonical_sections ps false bol ≡ true
    → block_node_stops 0 false (sections_text ps) ≡ true
document_ended [] bol h = refl
document_ended (suffix comments ∷ ps) bol h =
    let p : (bol && ends_word (comments_text comments ++ sections_text ps) && canonical_comments false comments (sections_text ps) ≡ true)
    × (canonical_sections ps true (starts_line bol (section_text (suffix comments))) ≡ true) = and_parts _ _ h in
    let q : (bol && ends_word (comments_text comments ++ sections_text ps) ≡ true)
    × (canonical_comments false comments (sections_text ps) ≡ true) = and_parts _ _ p.0 in
    marked 0 false (sections_text (suffix comments ∷ ps)) (and_parts _ _ q.0).1
document_ended (line e ∷ ps) bol h =
    let p : (comment_line_fits bol e (sections_text ps) ≡ true)
    × (canonical_sections ps false (starts_line bol (line_end_text e)) ≡ true) = and_parts _ _ h in
    or_left _ _ (or_right (is_empty (sections_text (line e ∷ ps)) || marker (sections_text (line e ∷ ps))) _
    (line_is_end bol e (sections_text ps) p.0))
document_ended (document (bare n) ∷ ps) bol h = absurd (false≢true h)
document_ended (document (explicit x) ∷ ps) bol h =
    let p : (canonical_explicit x bol (sections_text ps) ≡ true)
    × (canonical_sections ps false (starts_line bol (explicit_text x)) ≡ true) = and_parts _ _ h in
    marked 0 false (sections_text (document (explicit x) ∷ ps)) (explicit_ends x bol (sections_text ps) p.0)
document_ended (document (directed blank version comments x) ∷ ps) bol h = absurd (false≢true h)
