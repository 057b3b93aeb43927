-- What block nodes start with.
use Rattle.std.{proofs.Common.{append_assoc, arith, length-append, refl, subst, sym, ◌≡◌, ◌≤◌}, specs.Prelude.{Bool, List, [], codes, cond}}
use Rattle.std.specs.Prelude.{false, if◌then◌else◌, length, nat_le, not, suc, true, zero, ℕ, ◌&&◌, ◌++◌, ◌==◌, ◌||◌, ◌∷◌}
use Rattle.yaml_recognizers.proofs.Prelude.{and_from, and_parts, false≢true, not_from_false, ns, white, Indented, Items, Node, Pair, Pairs}
use Rattle.yaml_recognizers.proofs.Prelude.{asked, asked_alone, block, compact_items, compact_pairs, flow, indented_text, item, item_and}
use Rattle.yaml_recognizers.proofs.Prelude.{items, items_text, keyed, keyed_alone, node, node_text, omitted, pair, pair_and, pair_text}
use Rattle.yaml_recognizers.proofs.Prelude.{pairs, pairs_text, BlockScalar, block_text, past_spaces, spaces_before, Flow, flow_text}
use Rattle.yaml_recognizers.proofs.Prelude.{short_key, block_key, outer, LineEnd, Sep, comments_text, indents, inline, lines, sep_text}
use Rattle.yaml_recognizers.proofs.{Prelude.{list_all, begins, first, is_empty, marker, spaces, starts_line}, Flow.FlowNodesBegin.Opens}
use Rattle.yaml_recognizers.proofs.{Flow.FlowNodesBegin.{flow_opens, key_unmarked, reserved}, Separation.LineEnds.comments_no_ns}
use Rattle.yaml_recognizers.proofs.{Separation.LineEnds.{comments_unsolid, fits_end, no_comments_parts}, Basics.Solid.marker_first}
use Rattle.yaml_recognizers.{proofs.Basics.Solid.white_no_ns, specs.{BlockNodes.bar, CanonicalFlowNodes.canonical_flow}}
use Rattle.yaml_recognizers.specs.{Comments.closes_line, Ends.solid, Prefixes.sign, CanonicalBlockNodes.canonical_indented}
use Rattle.yaml_recognizers.specs.CanonicalBlockNodes.{canonical_items, canonical_node, canonical_pair, canonical_pairs}
use Rattle.yaml_recognizers.specs.CanonicalComments.{canonical_comments, canonical_sep}

-- ---- white before something solid

-- whitespace that starts with n spaces is at least n spaces deep
pub lead_deep : (n : ℕ) (lead rest : List ℕ) → begins (spaces n) lead ≡ true → n ≤ spaces_before (lead ++ rest)
lead_deep zero lead rest h = omega arith
lead_deep (suc n) [] rest h = absurd (false≢true h)
lead_deep (suc n) (c ∷ cs) rest h =
    let p : (c == 32 ≡ true) × (begins (spaces n) cs ≡ true) = and_parts _ _ h in
    let more : n ≤ spaces_before (cs ++ rest) = lead_deep n cs rest p.1 in
    rw p.0 (omega arith)

-- a text with something solid isn't empty
pub append_some : (lead rest : List ℕ) → first solid rest ≡ true → is_empty (lead ++ rest) ≡ false
append_some [] [] h = absurd (false≢true h)
append_some [] (c ∷ cs) h = refl
append_some (x ∷ xs) rest h = refl

-- ---- comments

-- there are comments, or the text ends
some_or_end : (comments : List LineEnd) (after : List ℕ) → canonical_comments false comments after ≡ true
    → not (is_empty comments) || is_empty after ≡ true
some_or_end [] after h = (no_comments_parts false after h).0
some_or_end (c ∷ cs) after h = refl

-- comments that fit after something close its line
pub closes : (comments : List LineEnd) (after : List ℕ) → canonical_comments false comments after ≡ true
    → closes_line (comments, after) ≡ true
closes comments after h = and_from _ _ (some_or_end comments after h) (not_from_false _ (fits_end false comments after h))

-- and nothing solid comes after the spaces at their start
pub comments_closed : (comments : List LineEnd) (after : List ℕ) → canonical_comments false comments after ≡ true
    → first solid (past_spaces (comments_text comments ++ after)) ≡ false
comments_closed [] [] h = refl
comments_closed [] (c ∷ cs) h = absurd (false≢true h)
comments_closed (c ∷ cs) after h = comments_unsolid false c cs after h

-- ---- block scalars

-- what starts with `|` or `>` is solid, and no sign of a block collection
block_first : (folded : Bool) (a b c d e : List ℕ)
    → (first bar ((((((if folded then codes ">" else codes "|") ++ a) ++ b) ++ c) ++ d) ++ e) ≡ true)
    × (first solid ((((((if folded then codes ">" else codes "|") ++ a) ++ b) ++ c) ++ d) ++ e) ≡ true)
    × (sign 45 ((((((if folded then codes ">" else codes "|") ++ a) ++ b) ++ c) ++ d) ++ e) ≡ false)
    × (sign 63 ((((((if folded then codes ">" else codes "|") ++ a) ++ b) ++ c) ++ d) ++ e) ≡ false)
block_first true a b c d e = (refl, refl, refl, refl)
block_first false a b c d e = (refl, refl, refl, refl)

-- a block scalar starts with `|` or `>`
pub block_prefix : (b : BlockScalar) (after : List ℕ)
    → (first bar (block_text b ++ after) ≡ true) × (first solid (block_text b ++ after) ≡ true)
    × (sign 45 (block_text b ++ after) ≡ false) × (sign 63 (block_text b ++ after) ≡ false)
block_prefix b after = block_first (b.header).folded _ _ _ _ _

-- ---- no ns comes after a sign

-- after a sign no ns comes before a node
sep_apart : (m : ℕ) (sep : Sep) (rest : List ℕ) → canonical_sep m false false sep rest ≡ true → first ns (sep_text sep ++ rest) ≡ false
sep_apart m (inline []) rest h = absurd (false≢true h)
sep_apart m (inline (c ∷ cs)) rest h =
    let p : (list_all white (c ∷ cs) ≡ true) × (true ≡ true) = and_parts _ _ h in white_no_ns c (and_parts _ _ p.0).0
sep_apart m (lines comments lead) rest h =
    let p : (not (is_empty comments) && canonical_comments false comments (lead ++ rest) ≡ true)
    × (indents m lead ≡ true) = and_parts _ _ h in
    let regrouped : sep_text (lines comments lead) ++ rest ≡ comments_text comments ++ (lead ++ rest) = simp append_assoc in
    subst (λ (t : List ℕ). first ns t ≡ false) (sym regrouped) (comments_no_ns comments (lead ++ rest) (and_parts _ _ p.0).1)

-- no ns comes right after a sign before a node
pub node_apart : (n : Node) (m : ℕ) (shallow : Bool) (after : List ℕ) → canonical_node n m shallow false after ≡ true
    → first ns (node_text n ++ after) ≡ false
node_apart (block sep b) m shallow after h =
    subst (λ (t : List ℕ). first ns t ≡ false) (sym (append_assoc (sep_text sep) (block_text b) after))
    (sep_apart m sep (block_text b ++ after) (and_parts _ _ h).0)
node_apart (flow sep f comments) m shallow after h =
    let rest : List ℕ = flow_text f ++ (comments_text comments ++ after) in
    let p : (canonical_sep m false false sep rest
    && canonical_flow f m outer (starts_line false (sep_text sep)) (comments_text comments ++ after) ≡ true)
    × (canonical_comments false comments after ≡ true) = and_parts _ _ h in
    let regrouped : node_text (flow sep f comments) ++ after ≡ sep_text sep ++ rest = simp append_assoc in
    subst (λ (t : List ℕ). first ns t ≡ false) (sym regrouped) (sep_apart m sep rest (and_parts _ _ p.0).0)
node_apart (items comments k is) m shallow after h =
    let rest : List ℕ = spaces k ++ (items_text is k ++ after) in
    let p : (canonical_comments false comments rest && nat_le m (cond shallow (suc k) k) ≡ true)
    × (canonical_items is k after ≡ true) = and_parts _ _ h in
    let regrouped : node_text (items comments k is) ++ after ≡ comments_text comments ++ rest = simp append_assoc in
    subst (λ (t : List ℕ). first ns t ≡ false) (sym regrouped) (comments_no_ns comments rest (and_parts _ _ p.0).0)
node_apart (pairs comments k ps) m shallow after h =
    let rest : List ℕ = spaces k ++ (pairs_text ps k ++ after) in
    let p : (canonical_comments false comments rest && nat_le m k ≡ true)
    × (canonical_pairs ps k (k == 0) after ≡ true) = and_parts _ _ h in
    let regrouped : node_text (pairs comments k ps) ++ after ≡ comments_text comments ++ rest = simp append_assoc in
    subst (λ (t : List ℕ). first ns t ≡ false) (sym regrouped) (comments_no_ns comments rest (and_parts _ _ p.0).0)

-- nor before an item or a value
pub indented_apart : (i : Indented) (k : ℕ) (shallow : Bool) (after : List ℕ)
    → canonical_indented i k shallow after ≡ true → first ns (indented_text i k ++ after) ≡ false
indented_apart (compact_items zero is) k shallow after h = absurd (false≢true h)
indented_apart (compact_items (suc m) is) k shallow after h = refl
indented_apart (compact_pairs zero ps) k shallow after h = absurd (false≢true h)
indented_apart (compact_pairs (suc m) ps) k shallow after h = refl
indented_apart (node n) k shallow after h = node_apart n (suc k) shallow after h
indented_apart (omitted comments) k shallow after h = comments_no_ns comments after h

-- ---- items and pairs

-- items start with `-`
pub items_start : (is : Items) (k : ℕ) (after : List ℕ) → canonical_items is k after ≡ true → sign 45 (items_text is k ++ after) ≡ true
items_start (item i) k after h = (and_parts _ _ h).0
items_start (item_and i is) k after h =
    let rest : List ℕ = spaces k ++ (items_text is k ++ after) in
    let p : (not (first ns (indented_text i k ++ rest)) && canonical_indented i k false rest ≡ true)
    × (canonical_items is k after ≡ true) = and_parts _ _ h in
    let regrouped : items_text (item_and i is) k ++ after ≡ 45 ∷ (indented_text i k ++ rest) = simp append_assoc in
    subst (λ (t : List ℕ). sign 45 t ≡ true) (sym regrouped) (and_parts _ _ p.0).0

-- what a key on one line starts with
pub record KeyParts (key : Flow) (gap : List ℕ) (bol : Bool) (rest : List ℕ) : Type 0 where
  pub fit : canonical_flow key 0 block_key bol (gap ++ (58 ∷ rest)) ≡ true
  pub gap_white : list_all white gap ≡ true
  pub short : short_key key gap ≡ true

-- a key on one line that fits starts so
pub key_parts : (key : Flow) (gap : List ℕ) (bol : Bool) (rest : List ℕ) (more : Bool)
    → canonical_flow key 0 block_key bol (gap ++ (58 ∷ rest)) && list_all white gap && short_key key gap && more
    ≡ true → KeyParts key gap bol rest × (more ≡ true)
key_parts key gap bol rest more h =
    let p : (canonical_flow key 0 block_key bol (gap ++ (58 ∷ rest)) && list_all white gap && short_key key gap
    ≡ true) × (more ≡ true) = and_parts _ _ h in
    let q : (canonical_flow key 0 block_key bol (gap ++ (58 ∷ rest)) && list_all white gap ≡ true)
    × (short_key key gap ≡ true) = and_parts _ _ p.0 in
    let r : (canonical_flow key 0 block_key bol (gap ++ (58 ∷ rest)) ≡ true) × (list_all white gap ≡ true) = and_parts _ _ q.0 in
    (record { fit = r.0; gap_white = r.1; short = q.1 }, p.1)

-- what the first line of a mapping starts with
pub record Prefix (bol : Bool) (text : List ℕ) : Type 0 where
  pub solid_first : first solid text ≡ true
  pub no_dash : sign 45 text ≡ false
  pub no_colon : sign 58 text ≡ false
  pub unmarked : bol ≡ true → marker text ≡ false
  pub unreserved : first reserved text ≡ false

-- `?` may start a pair
asked_prefix : (bol : Bool) (rest : List ℕ) → Prefix bol (63 ∷ rest)
asked_prefix bol rest =
    record { solid_first = refl; no_dash = refl; no_colon = refl; unmarked = λ _. marker_first 63 rest refl refl; unreserved = refl }

-- a key may start a pair
key_prefix : (key : Flow) (gap : List ℕ) (bol : Bool) (rest : List ℕ)
    → canonical_flow key 0 block_key bol (gap ++ (58 ∷ rest)) ≡ true → Prefix bol (flow_text key ++ (gap ++ (58 ∷ rest)))
key_prefix key gap bol rest h =
    let o : Opens (flow_text key ++ (gap ++ (58 ∷ rest))) = (flow_opens key 0 block_key bol (gap ++ (58 ∷ rest)) refl h).0 in
    record {
      solid_first = o.solid_first;
      no_dash = o.no_dash;
      no_colon = o.no_colon;
      unmarked = λ e. key_unmarked key 0 block_key (gap ++ (58 ∷ rest))
          (subst (λ (b : Bool). canonical_flow key 0 block_key b (gap ++ (58 ∷ rest)) ≡ true) e h);
      unreserved = o.unreserved;
    }

-- a pair may start a mapping
pair_prefix : (p : Pair) (k : ℕ) (bol : Bool) (after : List ℕ) → canonical_pair p k bol after ≡ true → Prefix bol (pair_text p k ++ after)
pair_prefix (asked key value) k bol after h =
    let regrouped : pair_text (asked key value) k ++ after
    ≡ 63 ∷ (indented_text key k ++ (spaces k ++ (58 ∷ (indented_text value k ++ after)))) = simp append_assoc in
    subst (Prefix bol) (sym regrouped) (asked_prefix bol (indented_text key k ++ (spaces k ++ (58 ∷ (indented_text value k ++ after)))))
pair_prefix (asked_alone key) k bol after h = asked_prefix bol (indented_text key k ++ after)
pair_prefix (keyed key gap value) k bol after h =
    let rest : List ℕ = node_text value ++ after in
    let regrouped : pair_text (keyed key gap value) k ++ after ≡ flow_text key ++ (gap ++ (58 ∷ rest)) = simp append_assoc in
    subst (Prefix bol) (sym regrouped) (key_prefix key gap bol rest (key_parts key gap bol rest _ h).0.fit)
pair_prefix (keyed_alone key gap comments) k bol after h =
    let rest : List ℕ = comments_text comments ++ after in
    let regrouped : pair_text (keyed_alone key gap comments) k ++ after ≡ flow_text key ++ (gap ++ (58 ∷ rest)) = simp append_assoc in
    subst (Prefix bol) (sym regrouped) (key_prefix key gap bol rest (key_parts key gap bol rest _ h).0.fit)

-- pairs that fit start so
pub pairs_prefix : (ps : Pairs) (k : ℕ) (bol : Bool) (after : List ℕ) → canonical_pairs ps k bol after ≡ true
    → Prefix bol (pairs_text ps k ++ after)
pairs_prefix (pair p) k bol after h = pair_prefix p k bol after h
pairs_prefix (pair_and p ps) k bol after h =
    let rest : List ℕ = spaces k ++ (pairs_text ps k ++ after) in
    let regrouped : pairs_text (pair_and p ps) k ++ after ≡ pair_text p k ++ rest = simp append_assoc in
    subst (Prefix bol) (sym regrouped) (pair_prefix p k bol rest (and_parts _ _ h).0)

-- a pair isn't empty
pub pair_long : (p : Pair) (k : ℕ) → 1 ≤ length (pair_text p k)
pair_long (asked key value) k = omega arith
pair_long (asked_alone key) k = omega arith
pair_long (keyed key gap value) k = omega (
  arith,
  length-append (flow_text key ++ gap ++ codes ":") (node_text value),
  length-append (flow_text key ++ gap) (codes ":"),
)
pair_long (keyed_alone key gap comments) k =
    omega (
      arith,
      length-append (flow_text key ++ gap ++ codes ":") (comments_text comments),
      length-append (flow_text key ++ gap) (codes ":"),
    )
