-- A node at the start of a line, divided into the comment lines that it starts with and what comes after them.
use Rattle.std.{proofs.Common.{append_assoc, refl, subst, sym, ◌∙◌, ◌≡◌}, specs.Prelude.{Bool, List, [], cond, false, nat_le, suc, true, ℕ}}
use Rattle.std.specs.Prelude.{◌&&◌, ◌++◌, ◌+◌, ◌==◌, ◌∷◌}
use Rattle.yaml_recognizers.proofs.Prelude.{add-zero, add_assoc, and_from, and_parts, white, Items, Node, Pair, Pairs, asked, asked_alone}
use Rattle.yaml_recognizers.proofs.Prelude.{block, flow, item, item_and, items, items_fit, items_text, keyed, keyed_alone, node_events}
use Rattle.yaml_recognizers.proofs.Prelude.{node_fits, node_text, pair, pair_and, pair_fits, pair_text, pairs, pairs_fit, pairs_text}
use Rattle.yaml_recognizers.proofs.Prelude.{block_fits, block_text, Flow, flow_fits, flow_text, short_key, block_key, outer, LineEnd, Sep}
use Rattle.yaml_recognizers.proofs.Prelude.{comments_fit, comments_text, indents, inline, lines, sep_fits, sep_text, list_all, byte_len}
use Rattle.yaml_recognizers.proofs.{Prelude.{first, is_empty, spaces, starts_line}, Separation.CommentsComplete.not_line_end}
use Rattle.yaml_recognizers.proofs.Basics.{Prefixes.every_space, LineStarts.{byte_len_joined, comments_start, line_not_end, starts_joined}}
use Rattle.yaml_recognizers.proofs.{Block.BlockNodesBegin.{append_some, block_prefix}, Flow.FlowNodesForm.{flow_form_fits, form_solid}}
use Rattle.yaml_recognizers.specs.{CanonicalComments.is_line_end, Ends.solid}

-- ---- the parts

-- the comments of a separation
abbrev sep_comments : Sep → List LineEnd
sep_comments (inline blank) = []
sep_comments (lines comments lead) = comments

-- what comes after them
abbrev sep_lead : Sep → List ℕ
sep_lead (inline blank) = blank
sep_lead (lines comments lead) = lead

-- the comment lines that a node starts with
abbrev pub leading : Node → List LineEnd
leading (block sep b) = sep_comments sep
leading (flow sep f comments) = sep_comments sep
leading (items comments k is) = comments
leading (pairs comments k ps) = comments

-- the node without them
abbrev pub unled : Node → Node
unled (block sep b) = block (inline (sep_lead sep)) b
unled (flow sep f comments) = flow (inline (sep_lead sep)) f comments
unled (items comments k is) = items [] k is
unled (pairs comments k ps) = pairs [] k ps

-- ---- text and meaning

-- a separation is its comments and what comes after them
sep_parted : (sep : Sep) → sep_text sep ≡ comments_text (sep_comments sep) ++ sep_lead sep
sep_parted (inline blank) = refl
sep_parted (lines comments lead) = refl

-- both together spell the node
pub parted_text : (n : Node) → node_text n ≡ comments_text (leading n) ++ node_text (unled n)
parted_text (block sep b) = simp (sep_parted sep, append_assoc)
parted_text (flow sep f comments) = simp (sep_parted sep, append_assoc)
parted_text (items comments k is) = simp append_assoc
parted_text (pairs comments k ps) = simp append_assoc

-- its length is that of both
sep_length : (sep : Sep) (at : ℕ) → at + byte_len (sep_text sep)
    ≡ at + byte_len (comments_text (sep_comments sep)) + byte_len (sep_lead sep)
sep_length sep at = rw (sep_parted sep, byte_len_joined (comments_text (sep_comments sep)) (sep_lead sep)) (sym (add_assoc at _ _))

-- what comes after the comment lines means the same at its place
pub parted_events : (n : Node) (at : ℕ) → node_events n at ≡ node_events (unled n) (at + byte_len (comments_text (leading n)))
parted_events (block sep b) at = rw (sep_length sep at)
parted_events (flow sep f comments) at = rw (sep_length sep at)
parted_events (items comments k is) at = rw add-zero
parted_events (pairs comments k ps) at = rw add-zero

-- ---- it fits

-- both parts fit
pub record Parted (n : Node) (m : ℕ) (shallow : Bool) (after : List ℕ) : Type 0 where
  pub comments : comments_fit true (leading n) (node_text (unled n) ++ after) ≡ true
  pub node : node_fits (unled n) m shallow true after ≡ true
  pub begun : is_line_end (node_text (unled n) ++ after) ≡ false
  pub some : is_empty (node_text (unled n) ++ after) ≡ false

-- separation before something solid
record PartedSep (n : ℕ) (sep : Sep) (rest : List ℕ) : Type 0 where
  comments : comments_fit true (sep_comments sep) (sep_lead sep ++ rest) ≡ true
  lead : list_all white (sep_lead sep) ≡ true
  bol : starts_line true (sep_text sep) ≡ starts_line true (sep_lead sep)

-- where something solid comes next, a separation is comments and an indentation
sep_part : (n : ℕ) (sep : Sep) (rest : List ℕ) → sep_fits n false true sep rest ≡ true → first solid rest ≡ true → PartedSep n sep rest
sep_part n (inline blank) rest h s = record { comments = refl; lead = (and_parts _ _ h).0; bol = refl }
sep_part n (lines comments lead) rest h s =
    let p : (comments_fit true comments (lead ++ rest) ≡ true) × (indents n lead ≡ true) = and_parts _ _ h in
    let b : starts_line true (comments_text comments) ≡ true =
    line_not_end _ (lead ++ rest) (comments_start true comments (lead ++ rest) p.0) (append_some lead rest s) in
    record { comments = p.0; lead = (and_parts _ _ p.1).0; bol = starts_joined true (comments_text comments) lead ∙ rw b }

-- items start with something solid
items_solid : (is : Items) (k : ℕ) (after : List ℕ) → first solid (items_text is k ++ after) ≡ true
items_solid (item i) k after = refl
items_solid (item_and i is) k after = refl

-- a key starts with something solid
key_solid : (key : Flow) (gap : List ℕ) (bol more : Bool) (rest : List ℕ)
    → flow_fits key 0 block_key bol (gap ++ (58 ∷ rest)) && list_all white gap && short_key key gap && more ≡ true
    → first solid (flow_text key ++ (gap ++ (58 ∷ rest))) ≡ true
key_solid key gap bol more rest h =
    form_solid key 0 block_key bol (gap ++ (58 ∷ rest))
    (flow_form_fits key 0 block_key bol (gap ++ (58 ∷ rest)) (and_parts _ _ (and_parts _ _ (and_parts _ _ h).0).0).0)

-- so does a pair
pair_solid : (p : Pair) (k : ℕ) (bol : Bool) (after : List ℕ) → pair_fits p k bol after ≡ true → first solid (pair_text p k ++ after) ≡ true
pair_solid (asked key value) k bol after h = refl
pair_solid (asked_alone key) k bol after h = refl
pair_solid (keyed key gap value) k bol after h =
    let regrouped : pair_text (keyed key gap value) k ++ after
    ≡ flow_text key ++ (gap ++ (58 ∷ (node_text value ++ after))) = simp append_assoc in
    rw regrouped (key_solid key gap bol _ (node_text value ++ after) h)
pair_solid (keyed_alone key gap comments) k bol after h =
    let regrouped : pair_text (keyed_alone key gap comments) k ++ after
    ≡ flow_text key ++ (gap ++ (58 ∷ (comments_text comments ++ after))) = simp append_assoc in
    rw regrouped (key_solid key gap bol _ (comments_text comments ++ after) h)

-- so do pairs
pairs_solid : (ps : Pairs) (k : ℕ) (bol : Bool) (after : List ℕ) → pairs_fit ps k bol after ≡ true
    → first solid (pairs_text ps k ++ after) ≡ true
pairs_solid (pair p) k bol after h = pair_solid p k bol after h
pairs_solid (pair_and p ps) k bol after h =
    let rest : List ℕ = spaces k ++ (pairs_text ps k ++ after) in
    let regrouped : pairs_text (pair_and p ps) k ++ after ≡ pair_text p k ++ rest = simp append_assoc in
    rw regrouped (pair_solid p k bol rest (and_parts _ _ h).0)

-- if the node fits, both parts do
pub node_parted : (n : Node) (m : ℕ) (shallow : Bool) (after : List ℕ) → node_fits n m shallow true after ≡ true → Parted n m shallow after
node_parted (block sep b) m shallow after h =
    let p : (sep_fits m false true sep (block_text b ++ after) ≡ true) × (block_fits m b after ≡ true) = and_parts _ _ h in
    let s : first solid (block_text b ++ after) ≡ true = (block_prefix b after).1 in
    let l : PartedSep m sep (block_text b ++ after) = sep_part m sep (block_text b ++ after) p.0 s in
    let regrouped : node_text (unled (block sep b)) ++ after ≡ sep_lead sep ++ (block_text b ++ after) =
    append_assoc (sep_lead sep) (block_text b) after in
    record {
      comments = rw regrouped l.comments;
      node = and_from _ _ (and_from _ _ l.lead refl) p.1;
      begun = rw regrouped (not_line_end (sep_lead sep) (block_text b ++ after) l.lead s);
      some = rw regrouped (append_some (sep_lead sep) (block_text b ++ after) s);
    }
node_parted (flow sep f comments) m shallow after h =
    let rest : List ℕ = comments_text comments ++ after in
    let p : (sep_fits m false true sep (flow_text f ++ rest)
    && flow_fits f m outer (starts_line true (sep_text sep)) rest ≡ true)
    × (comments_fit false comments after ≡ true) = and_parts _ _ h in
    let q : (sep_fits m false true sep (flow_text f ++ rest) ≡ true)
    × (flow_fits f m outer (starts_line true (sep_text sep)) rest ≡ true) = and_parts _ _ p.0 in
    let s : first solid (flow_text f ++ rest) ≡ true = form_solid f m outer _ rest (flow_form_fits f m outer _ rest q.1) in
    let l : PartedSep m sep (flow_text f ++ rest) = sep_part m sep (flow_text f ++ rest) q.0 s in
    let regrouped : node_text (unled (flow sep f comments)) ++ after ≡ sep_lead sep ++ (flow_text f ++ rest) = simp append_assoc in
    record {
      comments = rw regrouped l.comments;
      node = and_from _ _ (and_from _ _ (and_from _ _ l.lead refl) (subst (λ (b : Bool). flow_fits f m outer b rest ≡ true) l.bol q.1)) p.1;
      begun = rw regrouped (not_line_end (sep_lead sep) (flow_text f ++ rest) l.lead s);
      some = rw regrouped (append_some (sep_lead sep) (flow_text f ++ rest) s);
    }
node_parted (items comments k is) m shallow after h =
    let p : (comments_fit true comments (spaces k ++ (items_text is k ++ after)) && nat_le m (cond shallow (suc k) k)
    ≡ true) × (items_fit is k after ≡ true) = and_parts _ _ h in
    let q : (comments_fit true comments (spaces k ++ (items_text is k ++ after)) ≡ true)
    × (nat_le m (cond shallow (suc k) k) ≡ true) = and_parts _ _ p.0 in
    let s : first solid (items_text is k ++ after) ≡ true = items_solid is k after in
    let regrouped : node_text (unled (items comments k is)) ++ after ≡ spaces k ++ (items_text is k ++ after) =
    append_assoc (spaces k) (items_text is k) after in
    record {
      comments = rw regrouped q.0;
      node = and_from _ _ (and_from _ _ refl q.1) p.1;
      begun = rw regrouped (not_line_end (spaces k) (items_text is k ++ after) (every_space k) s);
      some = rw regrouped (append_some (spaces k) (items_text is k ++ after) s);
    }
node_parted (pairs comments k ps) m shallow after h =
    let p : (comments_fit true comments (spaces k ++ (pairs_text ps k ++ after)) && nat_le m k ≡ true)
    × (pairs_fit ps k (k == 0) after ≡ true) = and_parts _ _ h in
    let q : (comments_fit true comments (spaces k ++ (pairs_text ps k ++ after)) ≡ true) × (nat_le m k ≡ true) = and_parts _ _ p.0 in
    let s : first solid (pairs_text ps k ++ after) ≡ true = pairs_solid ps k (k == 0) after p.1 in
    let regrouped : node_text (unled (pairs comments k ps)) ++ after ≡ spaces k ++ (pairs_text ps k ++ after) =
    append_assoc (spaces k) (pairs_text ps k) after in
    record {
      comments = rw regrouped q.0;
      node = and_from _ _ (and_from _ _ refl q.1) p.1;
      begun = rw regrouped (not_line_end (spaces k) (pairs_text ps k ++ after) (every_space k) s);
      some = rw regrouped (append_some (spaces k) (pairs_text ps k ++ after) s);
    }
