-- What the recognizer of block nodes reads is at the start of the text, and fits.
use Rattle.std.{proofs.Common.{ap, append_assoc, inl, inr, refl, subst, sym, ◌∙◌, ◌≡◌}, specs.Prelude.{Bool, List, None, Option, Some, []}}
use Rattle.std.specs.Prelude.{false, if◌then◌else◌, is_some, nat_le, not, suc, true, zero, ℕ, ◌&&◌, ◌++◌, ◌+◌, ◌==◌, ◌||◌, ◌∷◌}
use Rattle.yaml_recognizers.proofs.Prelude.{and_from, and_parts, cond_both, eqb-true, false≢true, not-true, not_from_false, or_cases}
use Rattle.yaml_recognizers.proofs.Prelude.{or_right, ns, white, Indented, Items, Node, Pair, Pairs, asked, asked_alone, block}
use Rattle.yaml_recognizers.proofs.Prelude.{compact_items, compact_pairs, flow, indented_text, is_omitted, item, item_and, items}
use Rattle.yaml_recognizers.proofs.Prelude.{items_text, keyed, keyed_alone, node, node_text, omitted, pair, pair_and, pair_text, pairs}
use Rattle.yaml_recognizers.proofs.Prelude.{pairs_text, BlockScalar, block_text, past_spaces, spaces_before, Flow, flow_text, short_key}
use Rattle.yaml_recognizers.proofs.Prelude.{block_key, outer, LineEnd, Sep, comments_text, indents, inline, lines, sep_text, list_all}
use Rattle.yaml_recognizers.proofs.{Prelude.{first, is_empty, spaces, starts_line}, Separation.CommentsComplete.not_line_end}
use Rattle.yaml_recognizers.proofs.{Separation.CommentsSound.{CommentsOf, all_sound}, Flow.FlowNodesBegin.flow_opens, Basics.Reading.Sound}
use Rattle.yaml_recognizers.proofs.Basics.{Reading.sound_on, Solid.{dash_solid, head_of, sign_solid}, Prefixes.{every_space, spaces_split}}
use Rattle.yaml_recognizers.{proofs.Basics.Prefixes.{take_while_every, take_while_split}, specs.CanonicalBlockScalars.canonical_block}
use Rattle.yaml_recognizers.specs.{CanonicalFlowNodes.canonical_flow, Comments.{all_comments, closes_line}, Ends.{block_node_stops, solid}}
use Rattle.yaml_recognizers.specs.{Reading.{Read, on}, BlockNodes.{asked_key, bar, flow_with, indented_node, key_value, leaf_at}}
use Rattle.yaml_recognizers.specs.BlockNodes.{leaf_after, more_items, more_pairs, node_below, omits, opens_pair, read_indented, read_items}
use Rattle.yaml_recognizers.specs.{BlockNodes.{read_node, read_pair, read_pairs, sep_at}, CanonicalBlockNodes.canonical_indented}
use Rattle.yaml_recognizers.specs.CanonicalBlockNodes.{canonical_items, canonical_node, canonical_pair, canonical_pairs}
use Rattle.yaml_recognizers.specs.{CanonicalComments.{canonical_comments, canonical_sep, is_line_end}, Prefixes.{drop_while, past, sign}}
use Rattle.yaml_recognizers.specs.Prefixes.{take_while}

-- after a node
pub tail_fit : (cs : List LineEnd) (rest : List ℕ)
    → (not (is_empty cs) ≡ true → is_line_end rest ≡ false → canonical_comments false cs rest ≡ true)
    → closes_line (cs, rest) ≡ true → canonical_comments false cs rest ≡ true
tail_fit [] rest f h = h
tail_fit (c ∷ cs) rest f h = f refl (not-true _ h)

-- `|` and `>` are solid
bar_solid : (text : List ℕ) → first bar text ≡ true → first solid text ≡ true
bar_solid [] h = absurd (false≢true h)
bar_solid (c ∷ cs) h = elim (or_cases (c == 124) (c == 62) h) [ inl e ↦ ap solid (eqb-true c 124 e) | inr e ↦ ap solid (eqb-true c 62 e) ]

-- the node is canonical at the start of the text, before the rest
abbrev pub NodeOf : ℕ → Bool → Bool → List ℕ → Node → List ℕ → Type 0
NodeOf m shallow bol text n rest = (text ≡ node_text n ++ rest) × (canonical_node n m shallow bol rest ≡ true)

-- the same of items
abbrev pub ItemsOf : ℕ → List ℕ → Items → List ℕ → Type 0
ItemsOf k text is rest = (text ≡ items_text is k ++ rest) × (canonical_items is k rest ≡ true)

-- the same of pairs
abbrev pub PairsOf : ℕ → Bool → List ℕ → Pairs → List ℕ → Type 0
PairsOf k bol text ps rest = (text ≡ pairs_text ps k ++ rest) × (canonical_pairs ps k bol rest ≡ true)

-- the same of a pair
abbrev pub PairOf : ℕ → Bool → List ℕ → Pair → List ℕ → Type 0
PairOf k bol text p rest = (text ≡ pair_text p k ++ rest) × (canonical_pair p k bol rest ≡ true)

-- the same of what comes after a sign
abbrev pub IndentedOf : ℕ → Bool → List ℕ → Indented → List ℕ → Type 0
IndentedOf k shallow text i rest = (text ≡ indented_text i k ++ rest) × (canonical_indented i k shallow rest ≡ true)

-- the same of a flow node
abbrev pub FlowOf : ℕ → Bool → List ℕ → Flow → List ℕ → Type 0
FlowOf m bol text f rest = (text ≡ flow_text f ++ rest) × (canonical_flow f m outer bol rest ≡ true)

-- the same of a block scalar
abbrev pub BlockOf : ℕ → List ℕ → BlockScalar → List ℕ → Type 0
BlockOf m text b rest = (text ≡ block_text b ++ rest) × (canonical_block m b rest ≡ true)

-- the same of a key
abbrev pub KeyOf : Bool → List ℕ → Flow × List ℕ → List ℕ → Type 0
KeyOf bol text key rest =
    (text ≡ flow_text key.0 ++ (key.1 ++ (58 ∷ rest))) × (canonical_flow key.0 0 block_key bol (key.1 ++ (58 ∷ rest)) ≡ true)
    × (list_all white key.1 ≡ true) × (short_key key.0 key.1 ≡ true)

module _ (read_key : Bool → List ℕ → Read (Flow × List ℕ)) (read_flow : ℕ → Bool → List ℕ → Read Flow)
    (read_block : ℕ → List ℕ → Read BlockScalar)
    (key_sound : (bol : Bool) (text : List ℕ) → Sound (KeyOf bol text) (read_key bol text))
    (flow_sound : (m : ℕ) (bol : Bool) (text : List ℕ) → Sound (FlowOf m bol text) (read_flow m bol text))
    (block_sound : (m : ℕ) (text : List ℕ) → Sound (BlockOf m text) (read_block m text)) where
  leaf_sound : (m : ℕ) (shallow bol : Bool) (sep : Sep) (rest text : List ℕ) → text ≡ sep_text sep ++ rest
      → (first solid rest ≡ true → canonical_sep m false bol sep rest ≡ true)
      → Sound (NodeOf m shallow bol text) (leaf_after read_key read_flow read_block m bol sep rest)
  leaf_sound m shallow bol sep rest text t f =
      cond_both (first bar rest) (on (read_block m rest) (λ b rest'. Some (block sep b, rest')))
      (on (read_flow m (starts_line bol (sep_text sep)) rest) (λ g rest'. flow_with sep g (all_comments false rest')))
      (Sound (NodeOf m shallow bol text))
      (λ s. sound_on (BlockOf m rest) (NodeOf m shallow bol text) (read_block m rest)
      (λ b rest'. Some (block sep b, rest')) (block_sound m rest)
      (λ b rest' p. (
        t ∙ (ap (λ u. sep_text sep ++ u) p.0 ∙ sym (append_assoc (sep_text sep) (block_text b) rest')),
        and_from _ _ (subst (λ (u : List ℕ). canonical_sep m false bol sep u ≡ true) p.0 (f (bar_solid rest s))) p.1,
      )))
      (λ _. sound_on (FlowOf m (starts_line bol (sep_text sep)) rest) (NodeOf m shallow bol text)
      (read_flow m (starts_line bol (sep_text sep)) rest)
      (λ g rest'. flow_with sep g (all_comments false rest')) (flow_sound m (starts_line bol (sep_text sep)) rest)
      (λ g rest' p.
      let c : List LineEnd × List ℕ = all_comments false rest' in
      let cs : CommentsOf false rest' c = all_sound false rest' in
      cond_both (closes_line c) (Some (flow sep g c.0, c.1)) None (Sound (NodeOf m shallow bol text))
      (λ h.
      let e : rest ≡ flow_text g ++ (comments_text c.0 ++ c.1) = p.0 ∙ ap (λ u. flow_text g ++ u) cs.0 in
      let s : first solid rest ≡ true = subst (λ (u : List ℕ). first solid u ≡ true) (sym p.0)
      (flow_opens g m outer (starts_line bol (sep_text sep)) rest' refl p.1).0.solid_first in
      let regrouped : node_text (flow sep g c.0) ++ c.1
      ≡ sep_text sep ++ (flow_text g ++ (comments_text c.0 ++ c.1)) = simp append_assoc in (
        t ∙ (ap (λ u. sep_text sep ++ u) e ∙ sym regrouped),
        and_from _ _ (and_from _ _ (subst (λ (u : List ℕ). canonical_sep m false bol sep u ≡ true) e (f s))
            (subst (λ (u : List ℕ). canonical_flow g m outer (starts_line bol (sep_text sep)) u ≡ true) cs.0 p.1))
            (tail_fit c.0 c.1 cs.1 h),
      ))
      (λ _. tt)))

  sep_sound : (m : ℕ) (shallow bol : Bool) (cs : List LineEnd) (lead rest text : List ℕ) → list_all white lead ≡ true
      → text ≡ comments_text cs ++ (lead ++ rest)
      → (bol || not (is_empty cs) ≡ true → is_line_end (lead ++ rest) ≡ false → canonical_comments bol cs (lead ++ rest) ≡ true)
      → Sound (NodeOf m shallow bol text) (leaf_at read_key read_flow read_block m bol (sep_at m bol cs lead) rest)
  sep_sound m shallow bol [] lead rest text w t f =
      cond_both (bol || not (is_empty lead)) (Some (inline lead)) None
      (λ (s : Option Sep). Sound (NodeOf m shallow bol text) (leaf_at read_key read_flow read_block m bol s rest))
      (λ b. leaf_sound m shallow bol (inline lead) rest text t (λ _. and_from _ _ w b))
      (λ _. tt)
  sep_sound m shallow bol (e ∷ es) lead rest text w t f =
      cond_both (indents m lead) (Some (lines (e ∷ es) lead)) None
      (λ (s : Option Sep). Sound (NodeOf m shallow bol text) (leaf_at read_key read_flow read_block m bol s rest))
      (λ i. leaf_sound m shallow bol (lines (e ∷ es) lead) rest text (t ∙ sym (append_assoc (comments_text (e ∷ es)) lead rest))
      (λ s. and_from _ _ (f (or_right bol true refl) (not_line_end lead rest w s)) i))
      (λ _. tt)

  abbrev opens : Bool → List ℕ → Bool
  opens bol text = opens_pair read_key read_flow read_block bol text

  key_solid : (bol : Bool) (text : List ℕ) (r : Read (Flow × List ℕ)) → Sound (KeyOf bol text) r → is_some r ≡ true
      → first solid text ≡ true
  key_solid bol text None s h = absurd (false≢true h)
  key_solid bol text (Some r) s h =
      subst (λ (u : List ℕ). first solid u ≡ true) (sym s.0) (flow_opens r.0.0 0 block_key bol (r.0.1 ++ (58 ∷ r.1)) refl s.1).0.solid_first

  opens_solid : (bol : Bool) (text : List ℕ) → opens bol text ≡ true → first solid text ≡ true
  opens_solid bol text h = elim (or_cases (sign 63 text) (is_some (read_key bol text)) h) [
    | inl e ↦ sign_solid 63 text refl e
    | inr e ↦ key_solid bol text (read_key bol text) (key_sound bol text) e
  ]

  no_line_here : (text : List ℕ) → first solid (past_spaces text) ≡ true → is_line_end text ≡ false
  no_line_here text h =
      subst (λ (u : List ℕ). is_line_end u ≡ false) (sym (spaces_split text))
      (not_line_end (spaces (spaces_before text)) (past_spaces text) (every_space (spaces_before text)) h)

  -- ---- the steps, over what sounds

  after_node : (ia : ℕ → List ℕ → Read Items) (pa : ℕ → Bool → List ℕ → Read Pairs) → ((k : ℕ) (t : List ℕ) → Sound (ItemsOf k t) (ia k t))
      → ((k : ℕ) (b : Bool) (t : List ℕ) → Sound (PairsOf k b t) (pa k b t))
      → (m : ℕ) (shallow bol : Bool) (text : List ℕ) (c : List LineEnd × List ℕ) → CommentsOf bol text c
      → Sound (NodeOf m shallow bol text) (node_below read_key read_flow read_block ia pa m shallow bol c)
  after_node ia pa si sp m shallow bol text c cs =
      let s : ℕ = spaces_before c.1 in
      let rest : List ℕ = past_spaces c.1 in
      cond_both ((bol || not (is_empty c.0)) && sign 45 rest && nat_le m (if shallow then suc s else s))
      (on (ia s rest) (λ is rest'. Some (items c.0 s is, rest')))
      (if (bol || not (is_empty c.0)) && nat_le m s && opens (s == 0) rest
      then on (pa s (s == 0) rest) (λ ps rest'. Some (pairs c.0 s ps, rest'))
      else leaf_at read_key read_flow read_block m bol (sep_at m bol c.0 (take_while white c.1)) (drop_while white c.1))
      (Sound (NodeOf m shallow bol text))
      (λ h.
      let p : ((bol || not (is_empty c.0)) && sign 45 rest ≡ true) × (nat_le m (if shallow then suc s else s) ≡ true) = and_parts _ _ h in
      let q : (bol || not (is_empty c.0) ≡ true) × (sign 45 rest ≡ true) = and_parts _ _ p.0 in
      sound_on (ItemsOf s rest) (NodeOf m shallow bol text) (ia s rest) (λ is rest'. Some (items c.0 s is, rest')) (si s rest)
      (λ is rest' r.
      let e : c.1 ≡ spaces s ++ (items_text is s ++ rest') = spaces_split c.1 ∙ ap (λ u. spaces s ++ u) r.0 in
      let regrouped : node_text (items c.0 s is) ++ rest'
      ≡ comments_text c.0 ++ (spaces s ++ (items_text is s ++ rest')) = simp append_assoc in (
        cs.0 ∙ (ap (λ u. comments_text c.0 ++ u) e ∙ sym regrouped),
        and_from _ _ (and_from _ _ (subst (λ (u : List ℕ). canonical_comments bol c.0 u ≡ true) e
            (cs.1 q.0 (no_line_here c.1 (dash_solid rest q.1)))) p.1) r.1,
      )))
      (λ _. cond_both ((bol || not (is_empty c.0)) && nat_le m s && opens (s == 0) rest)
      (on (pa s (s == 0) rest) (λ ps rest'. Some (pairs c.0 s ps, rest')))
      (leaf_at read_key read_flow read_block m bol (sep_at m bol c.0 (take_while white c.1)) (drop_while white c.1))
      (Sound (NodeOf m shallow bol text))
      (λ h.
      let p : ((bol || not (is_empty c.0)) && nat_le m s ≡ true) × (opens (s == 0) rest ≡ true) = and_parts _ _ h in
      let q : (bol || not (is_empty c.0) ≡ true) × (nat_le m s ≡ true) = and_parts _ _ p.0 in
      sound_on (PairsOf s (s == 0) rest) (NodeOf m shallow bol text) (pa s (s == 0) rest)
      (λ ps rest'. Some (pairs c.0 s ps, rest')) (sp s (s == 0) rest)
      (λ ps rest' r.
      let e : c.1 ≡ spaces s ++ (pairs_text ps s ++ rest') = spaces_split c.1 ∙ ap (λ u. spaces s ++ u) r.0 in
      let regrouped : node_text (pairs c.0 s ps) ++ rest'
      ≡ comments_text c.0 ++ (spaces s ++ (pairs_text ps s ++ rest')) = simp append_assoc in (
        cs.0 ∙ (ap (λ u. comments_text c.0 ++ u) e ∙ sym regrouped),
        and_from _ _ (and_from _ _ (subst (λ (u : List ℕ). canonical_comments bol c.0 u ≡ true) e
            (cs.1 q.0 (no_line_here c.1 (opens_solid (s == 0) rest p.1)))) q.1) r.1,
      )))
      (λ _.
      let e : c.1 ≡ take_while white c.1 ++ drop_while white c.1 = take_while_split white c.1 in
      sep_sound m shallow bol c.0 (take_while white c.1) (drop_while white c.1) text (take_while_every white c.1)
      (cs.0 ∙ ap (λ u. comments_text c.0 ++ u) e)
      (λ b l. subst (λ (u : List ℕ). canonical_comments bol c.0 u ≡ true) e
      (cs.1 b (subst (λ (u : List ℕ). is_line_end u ≡ false) (sym e) l)))))

  -- the line at k that goes on
  line_split : (k : ℕ) (text next : List ℕ) → spaces_before text == k ≡ true → past_spaces text ≡ next → text ≡ spaces k ++ next
  line_split k text next h e =
      spaces_split text ∙ (ap (λ j. spaces j ++ past_spaces text) (eqb-true (spaces_before text) k h) ∙ ap (λ u. spaces k ++ u) e)

  items_more : (k : ℕ) (text : List ℕ) (again : List ℕ → Read Items) → ((t : List ℕ) → Sound (ItemsOf k t) (again t)) → sign 45 text ≡ true
      → (i : Indented) (rest : List ℕ) → IndentedOf k false (past text) i rest → Sound (ItemsOf k text) (more_items k again i rest)
  items_more k text again s h i rest p =
      let hd : (text ≡ 45 ∷ past text) × (first ns (past text) ≡ false) = head_of 45 text h in
      cond_both ((spaces_before rest == k) && sign 45 (past_spaces rest))
      (on (again (past_spaces rest)) (λ is rest'. Some (item_and i is, rest'))) (Some (item i, rest)) (Sound (ItemsOf k text))
      (λ g. sound_on (ItemsOf k (past_spaces rest)) (ItemsOf k text) (again (past_spaces rest))
      (λ is rest'. Some (item_and i is, rest')) (s (past_spaces rest))
      (λ is rest' q.
      let a : (spaces_before rest == k ≡ true) × (sign 45 (past_spaces rest) ≡ true) = and_parts _ _ g in
      let e : rest ≡ spaces k ++ (items_text is k ++ rest') = line_split k rest (items_text is k ++ rest') a.0 q.0 in
      let t : past text ≡ indented_text i k ++ (spaces k ++ (items_text is k ++ rest')) = p.0 ∙ ap (λ u. indented_text i k ++ u) e in
      let regrouped : items_text (item_and i is) k ++ rest'
      ≡ 45 ∷ (indented_text i k ++ (spaces k ++ (items_text is k ++ rest'))) = simp append_assoc in (
        hd.0 ∙ (ap (λ u. 45 ∷ u) t ∙ sym regrouped),
        and_from _ _ (and_from _ _ (not_from_false _ (subst (λ (u : List ℕ). first ns u ≡ false) t hd.1))
            (subst (λ (u : List ℕ). canonical_indented i k false u ≡ true) e p.1)) q.1,
      )))
      (λ _. (hd.0 ∙ ap (λ u. 45 ∷ u) p.0, and_from _ _ (not_from_false _ (subst (λ (u : List ℕ). first ns u ≡ false) p.0 hd.1)) p.1))

  pairs_more : (k : ℕ) (bol : Bool) (text : List ℕ) (again : List ℕ → Read Pairs) → ((t : List ℕ) → Sound (PairsOf k (k == 0) t) (again t))
      → (x : Pair) (rest : List ℕ) → PairOf k bol text x rest → Sound (PairsOf k bol text) (more_pairs k again x rest)
  pairs_more k bol text again s x rest p =
      cond_both ((spaces_before rest == k) && not (block_node_stops k false rest))
      (on (again (past_spaces rest)) (λ ps rest'. Some (pair_and x ps, rest'))) (Some (pair x, rest))
      (Sound (PairsOf k bol text))
      (λ g. sound_on (PairsOf k (k == 0) (past_spaces rest)) (PairsOf k bol text) (again (past_spaces rest))
      (λ ps rest'. Some (pair_and x ps, rest')) (s (past_spaces rest))
      (λ ps rest' q.
      let a : (spaces_before rest == k ≡ true) × (not (block_node_stops k false rest) ≡ true) = and_parts _ _ g in
      let e : rest ≡ spaces k ++ (pairs_text ps k ++ rest') = line_split k rest (pairs_text ps k ++ rest') a.0 q.0 in
      let regrouped : pairs_text (pair_and x ps) k ++ rest'
      ≡ pair_text x k ++ (spaces k ++ (pairs_text ps k ++ rest')) = simp append_assoc in (
        p.0 ∙ (ap (λ u. pair_text x k ++ u) e ∙ sym regrouped),
        and_from _ _ (subst (λ (u : List ℕ). canonical_pair x k bol u ≡ true) e p.1) q.1,
      )))
      (λ _. p)

  asked_more : (k : ℕ) (bol : Bool) (text : List ℕ) (again : List ℕ → Read Indented)
      → ((t : List ℕ) → Sound (IndentedOf k true t) (again t)) → sign 63 text ≡ true
      → (key : Indented) (rest : List ℕ) → IndentedOf k true (past text) key rest → Sound (PairOf k bol text) (asked_key k again key rest)
  asked_more k bol text again s h key rest p =
      let hd : (text ≡ 63 ∷ past text) × (first ns (past text) ≡ false) = head_of 63 text h in
      let after : List ℕ = past (past_spaces rest) in
      cond_both (is_omitted key) None
      (if (spaces_before rest == k) && sign 58 (past_spaces rest)
      then on (again after) (λ value rest'. Some (asked key value, rest')) else Some (asked_alone key, rest))
      (Sound (PairOf k bol text))
      (λ _. tt)
      (λ o. cond_both ((spaces_before rest == k) && sign 58 (past_spaces rest))
      (on (again after) (λ value rest'. Some (asked key value, rest'))) (Some (asked_alone key, rest))
      (Sound (PairOf k bol text))
      (λ g. sound_on (IndentedOf k true after) (PairOf k bol text) (again after) (λ value rest'. Some (asked key value, rest')) (s after)
      (λ value rest' q.
      let a : (spaces_before rest == k ≡ true) × (sign 58 (past_spaces rest) ≡ true) = and_parts _ _ g in
      let c : (past_spaces rest ≡ 58 ∷ after) × (first ns after ≡ false) = head_of 58 (past_spaces rest) a.1 in
      let e : rest ≡ spaces k ++ (58 ∷ (indented_text value k ++ rest')) =
      line_split k rest (58 ∷ (indented_text value k ++ rest')) a.0 (c.0 ∙ ap (λ u. 58 ∷ u) q.0) in
      let t : past text ≡ indented_text key k ++ (spaces k ++ (58 ∷ (indented_text value k ++ rest'))) = p.0
      ∙ ap (λ u. indented_text key k ++ u) e in
      let regrouped : pair_text (asked key value) k ++ rest'
      ≡ 63 ∷ (indented_text key k ++ (spaces k ++ (58 ∷ (indented_text value k ++ rest')))) = simp append_assoc in (
        hd.0 ∙ (ap (λ u. 63 ∷ u) t ∙ sym regrouped),
        and_from _ _ (and_from _ _ (and_from _ _ (not_from_false _
            (subst (λ (u : List ℕ). first ns u ≡ false) t hd.1)) (not_from_false _ o))
            (subst (λ (u : List ℕ). canonical_indented key k true u ≡ true) e p.1)) q.1,
      )))
      (λ _. (
        hd.0 ∙ ap (λ u. 63 ∷ u) p.0,
        and_from _ _
            (and_from _ _ (not_from_false _ (subst (λ (u : List ℕ). first ns u ≡ false) p.0 hd.1)) (not_from_false _ o)) p.1,
      )))

  key_more : (k : ℕ) (bol : Bool) (text : List ℕ) (again : List ℕ → Read Node)
      → ((t : List ℕ) → Sound (NodeOf (suc k) true false t) (again t))
      → (key : Flow × List ℕ) (rest : List ℕ) → KeyOf bol text key rest
      → Sound (PairOf k bol text) (key_value k again key rest (all_comments false rest))
  key_more k bol text again s key rest p =
      let c : List LineEnd × List ℕ = all_comments false rest in
      let cs : CommentsOf false rest c = all_sound false rest in
      cond_both (omits (suc k) true c) (Some (keyed_alone key.0 key.1 c.0, c.1))
      (on (again rest) (λ n rest'. Some (keyed key.0 key.1 n, rest'))) (Sound (PairOf k bol text))
      (λ h.
      let a : (closes_line c ≡ true) × (block_node_stops (suc k) true c.1 ≡ true) = and_parts _ _ h in
      let regrouped : pair_text (keyed_alone key.0 key.1 c.0) k ++ c.1
      ≡ flow_text key.0 ++ (key.1 ++ (58 ∷ (comments_text c.0 ++ c.1))) = simp append_assoc in (
        p.0 ∙ (ap (λ u. flow_text key.0 ++ (key.1 ++ (58 ∷ u))) cs.0 ∙ sym regrouped),
        and_from _ _ (and_from _ _ (and_from _ _ (subst
            (λ (u : List ℕ). canonical_flow key.0 0 block_key bol (key.1 ++ (58 ∷ u)) ≡ true) cs.0 p.1) p.2) p.3)
            (tail_fit c.0 c.1 cs.1 a.0),
      ))
      (λ _. sound_on (NodeOf (suc k) true false rest) (PairOf k bol text) (again rest)
      (λ n rest'. Some (keyed key.0 key.1 n, rest')) (s rest)
      (λ n rest' q.
      let regrouped : pair_text (keyed key.0 key.1 n) k ++ rest'
      ≡ flow_text key.0 ++ (key.1 ++ (58 ∷ (node_text n ++ rest'))) = simp append_assoc in (
        p.0 ∙ (ap (λ u. flow_text key.0 ++ (key.1 ++ (58 ∷ u))) q.0 ∙ sym regrouped),
        and_from _ _ (and_from _ _ (and_from _ _ (subst
            (λ (u : List ℕ). canonical_flow key.0 0 block_key bol (key.1 ++ (58 ∷ u)) ≡ true) q.0 p.1) p.2) p.3) q.1,
      )))

  indented_more : (k : ℕ) (shallow : Bool) (text : List ℕ) (again : List ℕ → Read Node)
      → ((t : List ℕ) → Sound (NodeOf (suc k) shallow false t) (again t))
      → Sound (IndentedOf k shallow text) (indented_node k shallow again text (all_comments false text))
  indented_more k shallow text again s =
      let c : List LineEnd × List ℕ = all_comments false text in
      let cs : CommentsOf false text c = all_sound false text in
      cond_both (omits (suc k) shallow c) (Some (omitted c.0, c.1))
      (on (again text) (λ n rest'. Some (node n, rest'))) (Sound (IndentedOf k shallow text))
      (λ h.
      let a : (closes_line c ≡ true) × (block_node_stops (suc k) shallow c.1 ≡ true) = and_parts _ _ h in
      (cs.0, tail_fit c.0 c.1 cs.1 a.0))
      (λ _. sound_on (NodeOf (suc k) shallow false text) (IndentedOf k shallow text) (again text)
      (λ n rest'. Some (node n, rest')) (s text) (λ n rest' q. q))

  -- ---- what is read fits

  abbrev node_at : ℕ → ℕ → Bool → Bool → List ℕ → Read Node
  node_at fuel m shallow bol text = read_node read_key read_flow read_block fuel m shallow bol text

  abbrev items_at : ℕ → ℕ → List ℕ → Read Items
  items_at fuel k text = read_items read_key read_flow read_block fuel k text

  abbrev pairs_at : ℕ → ℕ → Bool → List ℕ → Read Pairs
  pairs_at fuel k bol text = read_pairs read_key read_flow read_block fuel k bol text

  abbrev pair_at : ℕ → ℕ → Bool → List ℕ → Read Pair
  pair_at fuel k bol text = read_pair read_key read_flow read_block fuel k bol text

  abbrev indented_at : ℕ → ℕ → Bool → List ℕ → Read Indented
  indented_at fuel k shallow text = read_indented read_key read_flow read_block fuel k shallow text

  mutual
    unfolding read_node

    -- a node that is read is canonical there
    pub node_sound : (fuel m : ℕ) (shallow bol : Bool) (text : List ℕ) → Sound (NodeOf m shallow bol text) (node_at fuel m shallow bol text)
    node_sound zero m shallow bol text = tt
    node_sound (suc fuel) m shallow bol text =
        after_node (λ k rest. items_at fuel k rest) (λ k b rest. pairs_at fuel k b rest) (λ k t. items_sound fuel k t)
        (λ k b t. pairs_sound fuel k b t) m shallow bol text
        (all_comments bol text) (all_sound bol text)

    -- so are items
    pub items_sound : (fuel k : ℕ) (text : List ℕ) → Sound (ItemsOf k text) (items_at fuel k text)
    items_sound zero k text = tt
    items_sound (suc fuel) k text =
        cond_both (sign 45 text) (on (indented_at fuel k false (past text))
        (λ i rest. more_items k (λ t. items_at fuel k t) i rest)) None (Sound (ItemsOf k text))
        (λ h. sound_on (IndentedOf k false (past text)) (ItemsOf k text) (indented_at fuel k false (past text))
        (λ i rest. more_items k (λ t. items_at fuel k t) i rest)
        (indented_sound fuel k false (past text))
        (λ i rest p. items_more k text (λ t. items_at fuel k t) (λ t. items_sound fuel k t) h i rest p))
        (λ _. tt)

    -- so are pairs
    pub pairs_sound : (fuel k : ℕ) (bol : Bool) (text : List ℕ) → Sound (PairsOf k bol text) (pairs_at fuel k bol text)
    pairs_sound zero k bol text = tt
    pairs_sound (suc fuel) k bol text =
        sound_on (PairOf k bol text) (PairsOf k bol text) (pair_at fuel k bol text)
        (λ p rest. more_pairs k (λ t. pairs_at fuel k (k == 0) t) p rest) (pair_sound fuel k bol text)
        (λ p rest q. pairs_more k bol text (λ t. pairs_at fuel k (k == 0) t) (λ t. pairs_sound fuel k (k == 0) t) p rest q)

    -- so is a pair
    pub pair_sound : (fuel k : ℕ) (bol : Bool) (text : List ℕ) → Sound (PairOf k bol text) (pair_at fuel k bol text)
    pair_sound zero k bol text = tt
    pair_sound (suc fuel) k bol text =
        cond_both (sign 63 text) (on (indented_at fuel k true (past text))
        (λ key rest. asked_key k (λ t. indented_at fuel k true t) key rest))
        (on (read_key bol text) (λ key rest. key_value k (λ t. node_at fuel (suc k) true false t) key rest
        (all_comments false rest))) (Sound (PairOf k bol text))
        (λ h. sound_on (IndentedOf k true (past text)) (PairOf k bol text) (indented_at fuel k true (past text))
        (λ key rest. asked_key k (λ t. indented_at fuel k true t) key rest)
        (indented_sound fuel k true (past text)) (λ key rest p.
        asked_more k bol text (λ t. indented_at fuel k true t) (λ t. indented_sound fuel k true t) h key rest p))
        (λ _. sound_on (KeyOf bol text) (PairOf k bol text) (read_key bol text)
        (λ key rest. key_value k (λ t. node_at fuel (suc k) true false t) key rest (all_comments false rest))
        (key_sound bol text) (λ key rest p. key_more k bol text (λ t. node_at fuel (suc k) true false t)
        (λ t. node_sound fuel (suc k) true false t) key rest p))

    -- so is what comes after a sign
    pub indented_sound : (fuel k : ℕ) (shallow : Bool) (text : List ℕ) → Sound (IndentedOf k shallow text) (indented_at fuel k shallow text)
    indented_sound zero k shallow text = tt
    indented_sound (suc fuel) k shallow text =
        let s : ℕ = spaces_before text in
        let rest : List ℕ = past_spaces text in
        cond_both (nat_le 1 s && sign 45 rest) (on (items_at fuel (k + 1 + s) rest) (λ is rest'. Some (compact_items s is, rest')))
        (if nat_le 1 s && opens false rest then on (pairs_at fuel (k + 1 + s) false rest) (λ ps rest'. Some (compact_pairs s ps, rest'))
        else indented_node k shallow (λ t. node_at fuel (suc k) shallow false t) text (all_comments false text))
        (Sound (IndentedOf k shallow text))
        (λ h. sound_on (ItemsOf (k + 1 + s) rest) (IndentedOf k shallow text) (items_at fuel (k + 1 + s) rest)
        (λ is rest'. Some (compact_items s is, rest')) (items_sound fuel (k + 1 + s) rest)
        (λ is rest' p. (
          spaces_split text ∙ (ap (λ u. spaces s ++ u) p.0
              ∙ sym (append_assoc (spaces s) (items_text is (k + 1 + s)) rest')),
          and_from _ _ (and_parts _ _ h).0 p.1,
        )))
        (λ _. cond_both (nat_le 1 s && opens false rest)
        (on (pairs_at fuel (k + 1 + s) false rest) (λ ps rest'. Some (compact_pairs s ps, rest')))
        (indented_node k shallow (λ t. node_at fuel (suc k) shallow false t) text (all_comments false text))
        (Sound (IndentedOf k shallow text))
        (λ h. sound_on (PairsOf (k + 1 + s) false rest) (IndentedOf k shallow text)
        (pairs_at fuel (k + 1 + s) false rest) (λ ps rest'. Some (compact_pairs s ps, rest'))
        (pairs_sound fuel (k + 1 + s) false rest)
        (λ ps rest' p. (
          spaces_split text ∙ (ap (λ u. spaces s ++ u) p.0
              ∙ sym (append_assoc (spaces s) (pairs_text ps (k + 1 + s)) rest')),
          and_from _ _ (and_parts _ _ h).0 p.1,
        )))
        (λ _. indented_more k shallow text (λ t. node_at fuel (suc k) shallow false t) (λ t. node_sound fuel (suc k) shallow false t)))
