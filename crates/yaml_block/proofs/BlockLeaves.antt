-- A leaf or the first key of a mapping, from one reading of a flow node in the widest context.
use Rattle.std.{proofs.Common.{ap, inl, inr, refl, subst, sym, ◌∙◌, ◌≡◌}, specs.Prelude.{Bool, List, None, Option, Some, [], false}}
use Rattle.std.specs.Prelude.{if◌then◌else◌, is_some, true, ℕ, ◌&&◌, ◌++◌, ◌==◌, ◌∷◌}
use Rattle.yaml_block.proofs.Prelude.{and_left, and_right, eqb-true, false≢true, or_cases, white, Indented, Node, Pair, block, flow, node}
use Rattle.yaml_block.proofs.Prelude.{Flow, flow_text, short_key, block_key, outer, LineEnd, Sep, first, Sits, close_pairs, key_on_line}
use Rattle.yaml_block.proofs.Prelude.{keyed_part, plug, waits_key, waits_value, bar, flow_with, key_after, opens_pair, read_block}
use Rattle.yaml_block.proofs.Prelude.{all_comments, closes_line, solid, drop_while, past, sign, take_while, Read, on, StandsFlow}
use Rattle.yaml_block.proofs.Prelude.{block_indented_at, block_key_in, block_pairs_at, flow_leaf_at, flow_node_at, asked_opens, key_opens}
use Rattle.yaml_block.proofs.Prelude.{no_key, no_comments, stands, take_while_every, take_while_split, is_key, leaf_is_key, leaf_no_key}
use Rattle.yaml_block.{proofs.Prelude.{no_leaf_no_key, flow_one_line, unbroken, head_of}, specs.BlockParts.{as_part, leaf_part, part_at}}
use Rattle.yaml_recognizers.{specs.OneLine.on_one_line, proofs.Flow.FlowNodesBegin.{Opens, flow_opens}}

-- ---- where there is no leaf

unread : {A : Type 0} (r : Read A) → ((a : A) (rest : List ℕ) → r ≡ Some (a, rest) → ⊥) → r ≡ None
unread None g = refl
unread (Some y) g = absurd (g y.0 y.1 refl)

leaf_opens : (m : ℕ) (bol : Bool) (text : List ℕ) (f : Flow) (rest : List ℕ)
    → flow_leaf_at m bol text ≡ Some (f, rest) → Opens text × (first bar text ≡ false)
leaf_opens m bol text f rest e =
    let s : StandsFlow m outer bol text f rest = stands m outer bol text f rest e in
    subst (λ (t : List ℕ). Opens t × (first bar t ≡ false)) (sym s.spells)
    (flow_opens f m outer bol rest refl s.canonical)

-- it is on one line where its text has no break
pub leaf_one_line : (m : ℕ) (bol : Bool) (text : List ℕ) (f : Flow) (rest : List ℕ)
    → flow_leaf_at m bol text ≡ Some (f, rest) → on_one_line f ≡ unbroken (flow_text f)
leaf_one_line m bol text f rest e = flow_one_line f m outer bol rest (stands m outer bol text f rest e).canonical

-- no flow node starts with `|` or `>`
pub no_leaf_bar : (m : ℕ) (bol : Bool) (text : List ℕ) → first bar text ≡ true → flow_leaf_at m bol text ≡ None
no_leaf_bar m bol text h = unread (flow_leaf_at m bol text)
    (λ f rest e. false≢true (sym (leaf_opens m bol text f rest e).1 ∙ h))

-- nor with the `:` of a value
pub no_leaf_colon : (m : ℕ) (bol : Bool) (text : List ℕ) → sign 58 text ≡ true → flow_leaf_at m bol text ≡ None
no_leaf_colon m bol text h = unread (flow_leaf_at m bol text)
    (λ f rest e. false≢true (sym ((leaf_opens m bol text f rest e).0).no_colon ∙ h))

-- at white, a break, a `#` or the text's end
pub no_leaf_unsolid : (m : ℕ) (bol : Bool) (text : List ℕ) → first solid text ≡ false → flow_leaf_at m bol text ≡ None
no_leaf_unsolid m bol text h = unread (flow_leaf_at m bol text)
    (λ f rest e. false≢true (sym h ∙ ((leaf_opens m bol text f rest e).0).solid_first))

-- ---- what distinguishes them

bar_no_question : (text : List ℕ) → first bar text ≡ true → sign 63 text ≡ false
bar_no_question [] h = refl
bar_no_question (c ∷ cs) h = elim (or_cases (c == 124) (c == 62) h) [
  | inl e ↦ rw (eqb-true c 124 e) refl
  | inr e ↦ rw (eqb-true c 62 e) refl
]

sign_first : (x : ℕ) (text : List ℕ) → sign x text ≡ true → text ≡ x ∷ past text
sign_first x text h = (head_of x text h).0

colon_no_question : (text : List ℕ) → sign 58 text ≡ true → sign 63 text ≡ false
colon_no_question text h = ap (sign 63) (sign_first 58 text h)

colon_no_bar : (text : List ℕ) → sign 58 text ≡ true → first bar text ≡ false
colon_no_bar text h = ap (first bar) (sign_first 58 text h)

-- no pair opens where no `?` and no key is
no_pair : (bol : Bool) (text : List ℕ) → sign 63 text ≡ false → block_key_in bol text ≡ None
    → opens_pair block_key_in flow_leaf_at read_block bol text ≡ false
no_pair bol text s k = rw (s, k) refl

-- the part where no pair opens
no_mapping : (p : Option (Sits × ℕ)) (m : ℕ) (bol : Bool) (sep : Sep) (text : List ℕ)
    → is_some p && opens_pair block_key_in flow_leaf_at read_block bol text ≡ false
    → part_at p m bol sep text ≡ leaf_part m bol sep text
no_mapping None m bol sep text h = refl
no_mapping (Some p) m bol sep text h = rw h refl

unmapped : (p : Option (Sits × ℕ)) (b : Bool) → b ≡ false → is_some p && b ≡ false
unmapped None b h = refl
unmapped (Some p) b h = h

as_part_on : {A : Type 0} (r : Read A) (g : A → Node)
    → as_part (on r (λ a rest. Some (g a, rest))) ≡ on r (λ a rest. Some (node (g a), rest))
as_part_on None g = refl
as_part_on (Some r) g = refl

-- ---- a block scalar

-- at `|` or `>` the part is a block scalar
pub bar_part : (p : Option (Sits × ℕ)) (m : ℕ) (bol : Bool) (sep : Sep) (text : List ℕ) → first bar text ≡ true
    → part_at p m bol sep text ≡ on (read_block m text) (λ b rest. Some (node (block sep b), rest))
bar_part p m bol sep text h =
    no_mapping p m bol sep text (unmapped p _ (no_pair bol text (bar_no_question text h)
    (no_leaf_no_key 0 bol text (no_leaf_bar 0 bol text h))))
    ∙ (ap as_part (choose (on (read_block m text) (λ b rest. Some (block sep b, rest)))
    (on (flow_leaf_at m bol text) (λ f rest. flow_with sep f (all_comments false rest))))
    ∙ as_part_on (read_block m text) (λ b. block sep b))
  where
    choose : (r s : Read Node) → (if first bar text then r else s) ≡ r
    choose r s = rw h refl

-- ---- a `?`

-- at `?` a mapping is opened
pub question_opens : (sits : Sits) (k m : ℕ) (bol : Bool) (sep : Sep) (text : List ℕ) → sign 63 text ≡ true
    → part_at (Some (sits, k)) m bol sep text ≡ on (block_indented_at k true (past text))
    (λ i rest. plug (waits_key sits k []) i rest)
question_opens sits k m bol sep text h = choose (close_pairs sits [] (block_pairs_at k bol text))
    (leaf_part m bol sep text) ∙ asked_opens sits k bol [] text h
  where
    choose : (r s : Read Indented) → (if opens_pair block_key_in flow_leaf_at read_block bol text then r else s) ≡ r
    choose r s = rw h refl

-- ---- no leaf

leaf_refused : (m : ℕ) (bol : Bool) (sep : Sep) (text : List ℕ) → first bar text ≡ false
    → flow_leaf_at m bol text ≡ None → leaf_part m bol sep text ≡ None
leaf_refused m bol sep text h e = rw (h, e) refl

-- neither a leaf nor, where a mapping may begin, a `?`
pub leaf_missing : (p : Option (Sits × ℕ)) (m : ℕ) (bol : Bool) (sep : Sep) (text : List ℕ) → first bar text ≡ false
    → is_some p && sign 63 text ≡ false → flow_leaf_at m bol text ≡ None
    → part_at p m bol sep text ≡ None
leaf_missing None m bol sep text h s e = leaf_refused m bol sep text h e
leaf_missing (Some p) m bol sep text h s e =
    no_mapping (Some p) m bol sep text (no_pair bol text s (no_leaf_no_key m bol text e))
    ∙ leaf_refused m bol sep text h e

-- a `:` with no key before it
pub colon_refused : (p : Option (Sits × ℕ)) (m : ℕ) (bol : Bool) (sep : Sep) (text : List ℕ) → sign 58 text ≡ true
    → part_at p m bol sep text ≡ None
colon_refused p m bol sep text h = leaf_missing p m bol sep text (colon_no_bar text h)
    (unmapped p _ (colon_no_question text h)) (no_leaf_colon m bol text h)

-- ---- a leaf

-- it is the first key
pub first_key_opens : (sits : Sits) (k m : ℕ) (bol : Bool) (sep : Sep) (text : List ℕ) (f : Flow) (rest : List ℕ)
    → flow_leaf_at m bol text ≡ Some (f, rest) → is_key f rest ≡ true
    → part_at (Some (sits, k)) m bol sep text
    ≡ on (keyed_part k (past (drop_while white rest)))
    (λ i rest'. plug (waits_value sits k [] (key_on_line f (take_while white rest))) i rest')
first_key_opens sits k m bol sep text f rest e h =
    let found : block_key_in bol text ≡ Some ((f, take_while white rest), past (drop_while white rest)) =
    leaf_is_key m bol text f rest e h in
    let unasked : sign 63 text ≡ false = ((leaf_opens m bol text f rest e).0).no_ask in
    choose found unasked (close_pairs sits [] (block_pairs_at k bol text)) (leaf_part m bol sep text)
    ∙ key_opens sits k bol [] text f (take_while white rest) (past (drop_while white rest)) unasked found
  where
    choose : block_key_in bol text ≡ Some ((f, take_while white rest), past (drop_while white rest)) → sign 63 text ≡ false
        → (r s : Read Indented)
        → (if opens_pair block_key_in flow_leaf_at read_block bol text then r else s) ≡ r
    choose found unasked r s = rw (unasked, found) refl

-- it is no key
leaf_no_mapping : (p : Option (Sits × ℕ)) (m : ℕ) (bol : Bool) (sep : Sep) (text : List ℕ) (f : Flow) (rest : List ℕ)
    → flow_leaf_at m bol text ≡ Some (f, rest) → is_some p && is_key f rest ≡ false
    → part_at p m bol sep text ≡ as_part (flow_with sep f (all_comments false rest))
leaf_no_mapping p m bol sep text f rest e n =
    no_mapping p m bol sep text (unpaired p n) ∙ ap as_part
    (choose (on (read_block m text) (λ b rest'. Some (block sep b, rest'))))
  where
    unpaired : (q : Option (Sits × ℕ)) → is_some q && is_key f rest ≡ false
        → is_some q && opens_pair block_key_in flow_leaf_at read_block bol text ≡ false
    unpaired None n = refl
    unpaired (Some q) n = no_pair bol text ((leaf_opens m bol text f rest e).0).no_ask
        (leaf_no_key m bol text f rest e n)

    choose : (r : Read Node) → (if first bar text then r
        else on (flow_leaf_at m bol text) (λ f' rest'. flow_with sep f' (all_comments false rest'))) ≡ flow_with sep f
        (all_comments false rest)
    choose r = rw ((leaf_opens m bol text f rest e).1, e) refl

-- a `:` comes after it, and no line is closed
colon_unclosed : (rest : List ℕ) → sign 58 (drop_while white rest) ≡ true → closes_line (all_comments false rest) ≡ false
colon_unclosed rest h =
    let i : rest ≡ take_while white rest ++ (58 ∷ past (drop_while white rest)) = take_while_split white rest
    ∙ ap (λ t. take_while white rest ++ t) (sign_first 58 (drop_while white rest) h) in
    ap closes_line (ap (all_comments false) i ∙ no_comments false (take_while white rest) (58 ∷ past (drop_while white rest))
    (take_while_every white rest) refl) ∙ some (take_while white rest) (past (drop_while white rest))
  where
    some : (xs ys : List ℕ) → closes_line ([], xs ++ (58 ∷ ys)) ≡ false
    some [] ys = refl
    some (x ∷ xs) ys = refl

flow_refused : (sep : Sep) (f : Flow) (c : List LineEnd × List ℕ) → closes_line c ≡ false
    → as_part (flow_with sep f c) ≡ None
flow_refused sep f c h = rw h refl

flow_closed : (sep : Sep) (f : Flow) (c : List LineEnd × List ℕ) → closes_line c ≡ true
    → as_part (flow_with sep f c) ≡ Some (node (flow sep f c.0), c.1)
flow_closed sep f c h = rw h refl

no_key_without : (f : Flow) (rest : List ℕ) → sign 58 (drop_while white rest) ≡ false → is_key f rest ≡ false
no_key_without f rest h = and_right (on_one_line f) _ (and_left (sign 58 (drop_while white rest)) _ h)

-- a `:` after a leaf that is no key, or where no mapping may begin
pub leaf_before_colon : (p : Option (Sits × ℕ)) (m : ℕ) (bol : Bool) (sep : Sep) (text : List ℕ) (f : Flow)
    (rest : List ℕ) → flow_leaf_at m bol text ≡ Some (f, rest)
    → sign 58 (drop_while white rest) ≡ true → is_some p && is_key f rest ≡ false → part_at p m bol sep text ≡ None
leaf_before_colon p m bol sep text f rest e h n = leaf_no_mapping p m bol sep text f rest e n
    ∙ flow_refused sep f (all_comments false rest) (colon_unclosed rest h)

-- no `:` after it: the leaf is the part where its line closes
pub leaf_closes : (p : Option (Sits × ℕ)) (m : ℕ) (bol : Bool) (sep : Sep) (text : List ℕ) (f : Flow) (rest : List ℕ)
    → flow_leaf_at m bol text ≡ Some (f, rest)
    → sign 58 (drop_while white rest) ≡ false → closes_line (all_comments false rest) ≡ true
    → part_at p m bol sep text ≡ Some (node (flow sep f (all_comments false rest).0), (all_comments false rest).1)
leaf_closes p m bol sep text f rest e h c = leaf_no_mapping p m bol sep text f rest e
    (unmapped p _ (no_key_without f rest h)) ∙ flow_closed sep f (all_comments false rest) c

-- a flow node and what follows it are the part, if it is no key
pub leaf_goes_on : (p : Option (Sits × ℕ)) (m : ℕ) (bol : Bool) (sep : Sep) (text : List ℕ) (f : Flow) (rest : List ℕ)
    → flow_leaf_at m bol text ≡ Some (f, rest)
    → sign 58 (drop_while white rest) ≡ false → closes_line (all_comments false rest) ≡ false
    → part_at p m bol sep text ≡ None
leaf_goes_on p m bol sep text f rest e h c = leaf_no_mapping p m bol sep text f rest e
    (unmapped p _ (no_key_without f rest h)) ∙ flow_refused sep f (all_comments false rest) c

-- ---- a further pair

-- what a key starts with
pub key_node_opens : (bol : Bool) (text : List ℕ) (f : Flow) (rest : List ℕ)
    → flow_node_at 0 block_key bol text ≡ Some (f, rest) → Opens text × (first bar text ≡ false)
key_node_opens bol text f rest e =
    let s : StandsFlow 0 block_key bol text f rest = stands 0 block_key bol text f rest e in
    subst (λ (t : List ℕ). Opens t × (first bar t ≡ false)) (sym s.spells)
    (flow_opens f 0 block_key bol rest refl s.canonical)

-- a key of a further pair is read, and its value is awaited
pub next_key_opens : (sits : Sits) (k : ℕ) (bol : Bool) (done : List Pair) (text : List ℕ) (f : Flow) (rest : List ℕ)
    → flow_node_at 0 block_key bol text ≡ Some (f, rest)
    → sign 58 (drop_while white rest) ≡ true → short_key f (take_while white rest) ≡ true
    → close_pairs sits done (block_pairs_at k bol text)
    ≡ on (keyed_part k (past (drop_while white rest)))
    (λ i rest'. plug (waits_value sits k done (key_on_line f (take_while white rest))) i rest')
next_key_opens sits k bol done text f rest e c s =
    key_opens sits k bol done text f (take_while white rest) (past (drop_while white rest))
    ((key_node_opens bol text f rest e).0).no_ask
    (ap (λ r. on r (λ key rest'. key_after key (take_while white rest') (drop_while white rest'))) e ∙ rw (c, s) refl)

-- a key begins a mapping, where one may begin
pub key_begins : (sits : Sits) (k m : ℕ) (bol : Bool) (sep : Sep) (text : List ℕ) (f : Flow) (rest : List ℕ)
    → flow_node_at 0 block_key bol text ≡ Some (f, rest)
    → sign 58 (drop_while white rest) ≡ true → short_key f (take_while white rest) ≡ true
    → part_at (Some (sits, k)) m bol sep text ≡ close_pairs sits [] (block_pairs_at k bol text)
key_begins sits k m bol sep text f rest e c s =
    let found : block_key_in bol text ≡ Some ((f, take_while white rest), past (drop_while white rest)) =
    ap (λ r. on r (λ key rest'. key_after key (take_while white rest') (drop_while white rest'))) e ∙ rw (c, s) refl in
    choose found ((key_node_opens bol text f rest e).0).no_ask (close_pairs sits [] (block_pairs_at k bol text))
    (leaf_part m bol sep text)
  where
    choose : block_key_in bol text ≡ Some ((f, take_while white rest), past (drop_while white rest)) → sign 63 text ≡ false
        → (r s : Read Indented)
        → (if opens_pair block_key_in flow_leaf_at read_block bol text then r else s) ≡ r
    choose found unasked r s = rw (unasked, found) refl

-- a flow node that is no key starts no further pair
pub next_key_unfit : (sits : Sits) (k : ℕ) (bol : Bool) (done : List Pair) (text : List ℕ) (f : Flow) (rest : List ℕ)
    → flow_node_at 0 block_key bol text ≡ Some (f, rest)
    → sign 58 (drop_while white rest) && short_key f (take_while white rest) ≡ false
    → close_pairs sits done (block_pairs_at k bol text) ≡ None
next_key_unfit sits k bol done text f rest e h =
    no_key sits k bol done text ((key_node_opens bol text f rest e).0).no_ask
    (ap (λ r. on r (λ key rest'. key_after key (take_while white rest') (drop_while white rest'))) e ∙ rw h refl)

-- without a flow node there is no further pair
pub next_key_missing : (sits : Sits) (k : ℕ) (bol : Bool) (done : List Pair) (text : List ℕ) → sign 63 text ≡ false
    → flow_node_at 0 block_key bol text ≡ None
    → close_pairs sits done (block_pairs_at k bol text) ≡ None
next_key_missing sits k bol done text h e =
    no_key sits k bol done text h
    (ap (λ r. on r (λ key rest'. key_after key (take_while white rest') (drop_while white rest'))) e)
