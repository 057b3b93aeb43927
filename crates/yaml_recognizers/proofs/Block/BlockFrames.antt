-- One step of the reading of a block node over its open collections.
use Rattle.std.{proofs.Common.{ap, refl, sym, ◌∙◌, ◌≡◌}, specs.Prelude.{Bool, List, None, Some, [], false, true, suc, nat_le}}
use Rattle.std.specs.Prelude.{if◌then◌else◌, not, ℕ, ◌&&◌, ◌++◌, ◌+◌, ◌==◌, ◌∷◌}
use Rattle.yaml_recognizers.proofs.Prelude.{LineEnd, Flow, Indented, Items, Node, Pair, Pairs, asked_alone, is_omitted, item, item_and}
use Rattle.yaml_recognizers.proofs.Prelude.{items, keyed, keyed_alone, node, omitted, pair, pair_and, pairs, past_spaces, spaces_before}
use Rattle.yaml_recognizers.{proofs.Meanings.Steps.{indented_steps, items_steps, pair_steps, pairs_steps}, specs.BlockScalars.read_block}
use Rattle.yaml_recognizers.specs.{Comments.all_comments, Ends.block_node_stops, Prefixes.{past, sign}, Reading.{Read, on}}
use Rattle.yaml_recognizers.specs.BlockFrames.{BlockFrame, Sits, close_items, close_pairs, items_part, joined_items, joined_pairs}
use Rattle.yaml_recognizers.specs.BlockFrames.{key_asked, key_on_line, keyed_part, on_lines, on_sign_line, pair_with, pairs_after}
use Rattle.yaml_recognizers.specs.{BlockFrames.{pairs_part, plug, unwind, waits_item, waits_key, waits_value}, BlockNodes.asked_key}
use Rattle.yaml_recognizers.specs.BlockNodes.{indented_node, key_value, more_items, more_pairs, omits, opens_pair}
use Rattle.yaml_recognizers.specs.Recognizers.{block_indented_at, block_items_at, block_key_in, block_node_at, block_pair_at}
use Rattle.yaml_recognizers.specs.Recognizers.{block_pairs_at, flow_leaf_at}

-- two steps after what was read are one step of both
on_on : {A B C : Type 0} (r : Read A) (f : A → List ℕ → Read B) (g : B → List ℕ → Read C) → on (on r f) g ≡ on r (λ a t. on (f a t) g)
on_on None f g = refl
on_on (Some r) f g = refl

-- a refusal inside is a refusal of the whole
pub unwind_none : (fs : List BlockFrame) → unwind fs None ≡ None
unwind_none [] = refl
unwind_none (f ∷ fs) = unwind_none fs

-- one item more at the end of those that are read
pub more_joined_items : (done : List Indented) (i : Indented) (is : Items)
    → joined_items (done ++ i ∷ []) is ≡ joined_items done (item_and i is)
more_joined_items [] i is = refl
more_joined_items (d ∷ done) i is = ap (item_and d) (more_joined_items done i is)

-- one pair more at the end of those that are read
pub more_joined_pairs : (done : List Pair) (p : Pair) (ps : Pairs) → joined_pairs (done ++ p ∷ []) ps ≡ joined_pairs done (pair_and p ps)
more_joined_pairs [] p ps = refl
more_joined_pairs (d ∷ done) p ps = ap (pair_and d) (more_joined_pairs done p ps)

-- ---- items

-- at a `-` a sequence waits for an item
pub items_open : (sits : Sits) (k : ℕ) (done : List Indented) (text : List ℕ) → sign 45 text ≡ true
    → close_items sits done (block_items_at k text)
    ≡ on (block_indented_at k false (past text)) (λ i rest. plug (waits_item sits k done) i rest)
items_open sits k done text h =
    ap (close_items sits done) (items_steps k text ∙ rw h refl)
    ∙ on_on {A = Indented} {B = Items} (block_indented_at k false (past text))
    (λ i rest. more_items k (λ t. block_items_at k t) i rest) (λ is rest. Some (items_part sits (joined_items done is), rest))

-- an item before the others is one more that is read
item_goes_on : (sits : Sits) (done : List Indented) (i : Indented) (r : Read Items)
    → close_items sits done (on r (λ is rest. Some (item_and i is, rest))) ≡ close_items sits (done ++ i ∷ []) r
item_goes_on sits done i None = refl
item_goes_on sits done i (Some r) = ap (λ is. Some (items_part sits is, r.1)) (sym (more_joined_items done i r.0))

-- after an item at the same indentation comes the next one
pub item_next : (sits : Sits) (k : ℕ) (done : List Indented) (i : Indented) (rest : List ℕ)
    → spaces_before rest == k ≡ true → sign 45 (past_spaces rest) ≡ true
    → plug (waits_item sits k done) i rest ≡ on (block_indented_at k false (past (past_spaces rest)))
    (λ i' rest'. plug (waits_item sits k (done ++ i ∷ [])) i' rest')
item_next sits k done i rest h s =
    ap (close_items sits done) (goes_on (λ t. block_items_at k t))
    ∙ (item_goes_on sits done i (block_items_at k (past_spaces rest))
    ∙ items_open sits k (done ++ i ∷ []) (past_spaces rest) s)
  where
    goes_on : (again : List ℕ → Read Items) → more_items k again i rest
        ≡ on (again (past_spaces rest)) (λ is rest'. Some (item_and i is, rest'))
    goes_on again = rw (h, s) refl

-- after the last item the sequence is closed
pub item_last : (sits : Sits) (k : ℕ) (done : List Indented) (i : Indented) (rest : List ℕ)
    → (spaces_before rest == k) && sign 45 (past_spaces rest) ≡ false
    → plug (waits_item sits k done) i rest ≡ Some (items_part sits (joined_items done (item i)), rest)
item_last sits k done i rest h = ap (close_items sits done) (ends (λ t. block_items_at k t))
  where
    ends : (again : List ℕ → Read Items) → more_items k again i rest ≡ Some (item i, rest)
    ends again = rw h refl

-- ---- pairs

-- pairs are read by their first one
pairs_open : (sits : Sits) (k : ℕ) (bol : Bool) (done : List Pair) (text : List ℕ)
    → close_pairs sits done (block_pairs_at k bol text) ≡ on (block_pair_at k bol text) (λ p rest. pairs_after sits k done p rest)
pairs_open sits k bol done text =
    ap (close_pairs sits done) (pairs_steps k bol text)
    ∙ on_on {A = Pair} {B = Pairs} (block_pair_at k bol text)
    (λ p rest. more_pairs k (λ t. block_pairs_at k (k == 0) t) p rest)
    (λ ps rest. Some (pairs_part sits (joined_pairs done ps), rest))

-- at a `?` a mapping waits for a key
pub asked_opens : (sits : Sits) (k : ℕ) (bol : Bool) (done : List Pair) (text : List ℕ) → sign 63 text ≡ true
    → close_pairs sits done (block_pairs_at k bol text)
    ≡ on (block_indented_at k true (past text)) (λ i rest. plug (waits_key sits k done) i rest)
asked_opens sits k bol done text h =
    pairs_open sits k bol done text
    ∙ (ap (λ r. on r (λ p rest. pairs_after sits k done p rest)) (pair_steps k bol text ∙ rw h refl)
    ∙ on_on {A = Indented} {B = Pair} (block_indented_at k true (past text))
    (λ key rest. asked_key k (λ t. block_indented_at k true t) key rest) (λ p rest. pairs_after sits k done p rest))

-- after the `:` of a key on its line
key_value_is : (k : ℕ) (key : Flow) (gap : List ℕ) (again : List ℕ → Read Node) (rest : List ℕ) (c : List LineEnd × List ℕ)
    → key_value k again (key, gap) rest c ≡ on (indented_node k true again rest c) (λ i rest'. pair_with (key_on_line key gap) i rest')
key_value_is k key gap again rest c = by_cases (omits (suc k) true c) (again rest)
  where
    by_cases : (b : Bool) (r : Read Node)
        → (if b then Some (keyed_alone key gap c.0, c.1) else on r (λ n rest'. Some (keyed key gap n, rest')))
        ≡ on (if b then Some (omitted c.0, c.1) else on r (λ n rest'. Some (node n, rest')))
        (λ i rest'. pair_with (key_on_line key gap) i rest')
    by_cases true r = refl
    by_cases false None = refl
    by_cases false (Some r) = refl

-- at a key on one line a mapping waits for its value
pub key_opens : (sits : Sits) (k : ℕ) (bol : Bool) (done : List Pair) (text : List ℕ) (key : Flow) (gap rest : List ℕ)
    → sign 63 text ≡ false
    → block_key_in bol text ≡ Some ((key, gap), rest)
    → close_pairs sits done (block_pairs_at k bol text)
    ≡ on (keyed_part k rest) (λ i rest'. plug (waits_value sits k done (key_on_line key gap)) i rest')
key_opens sits k bol done text key gap rest h e =
    let here : block_pair_at k bol text ≡ key_value k (λ t. block_node_at (suc k) true false t) (key, gap) rest (all_comments false rest) =
    pair_steps k bol text ∙ (rw h refl ∙ ap (λ r.
    on r (λ key' rest'. key_value k (λ t. block_node_at (suc k) true false t) key' rest' (all_comments false rest'))) e) in
    pairs_open sits k bol done text
    ∙ (ap (λ r. on r (λ p rest'. pairs_after sits k done p rest'))
    (here ∙ key_value_is k key gap (λ t. block_node_at (suc k) true false t) rest (all_comments false rest))
    ∙ on_on {A = Indented} {B = Pair} (keyed_part k rest) (λ i rest'. pair_with (key_on_line key gap) i rest')
    (λ p rest'. pairs_after sits k done p rest'))

-- without a `?` or a key there is no pair
pub no_key : (sits : Sits) (k : ℕ) (bol : Bool) (done : List Pair) (text : List ℕ) → sign 63 text ≡ false → block_key_in bol text ≡ None
    → close_pairs sits done (block_pairs_at k bol text) ≡ None
no_key sits k bol done text h e =
    let here : block_pair_at k bol text ≡ None =
    pair_steps k bol text ∙ (rw h refl ∙ ap (λ r.
    on r (λ key' rest'. key_value k (λ t. block_node_at (suc k) true false t) key' rest' (all_comments false rest'))) e) in
    pairs_open sits k bol done text ∙ ap (λ r. on r (λ p rest'. pairs_after sits k done p rest')) here

-- a key after `?`: left out; with a value after `:`; alone
pub asked_for_nothing : (sits : Sits) (k : ℕ) (done : List Pair) (i : Indented) (rest : List ℕ) → is_omitted i ≡ true
    → plug (waits_key sits k done) i rest ≡ None
asked_for_nothing sits k done i rest o = ap (λ r. on r (λ p rest'. pairs_after sits k done p rest'))
    (refused (λ t. block_indented_at k true t))
  where
    refused : (again : List ℕ → Read Indented) → asked_key k again i rest ≡ None
    refused again = rw o refl

-- at a `:` after an asked key its value is awaited
pub value_opens : (sits : Sits) (k : ℕ) (done : List Pair) (i : Indented) (rest : List ℕ) → is_omitted i ≡ false
    → spaces_before rest == k ≡ true → sign 58 (past_spaces rest) ≡ true
    → plug (waits_key sits k done) i rest ≡ on (block_indented_at k true (past (past_spaces rest)))
    (λ i' rest'. plug (waits_value sits k done (key_asked i)) i' rest')
value_opens sits k done i rest o h s =
    ap (λ r. on r (λ p rest'. pairs_after sits k done p rest')) (goes_on (λ t. block_indented_at k true t))
    ∙ on_on {A = Indented} {B = Pair} (block_indented_at k true (past (past_spaces rest)))
    (λ i' rest'. pair_with (key_asked i) i' rest') (λ p rest'. pairs_after sits k done p rest')
  where
    goes_on : (again : List ℕ → Read Indented) → asked_key k again i rest
        ≡ on (again (past (past_spaces rest))) (λ i' rest'. pair_with (key_asked i) i' rest')
    goes_on again = rw (o, h, s) refl

-- without a `:` the pair has no value
pub asked_for_alone : (sits : Sits) (k : ℕ) (done : List Pair) (i : Indented) (rest : List ℕ) → is_omitted i ≡ false
    → (spaces_before rest == k) && sign 58 (past_spaces rest) ≡ false
    → plug (waits_key sits k done) i rest ≡ pairs_after sits k done (asked_alone i) rest
asked_for_alone sits k done i rest o h = ap (λ r. on r (λ p rest'. pairs_after sits k done p rest'))
    (ends (λ t. block_indented_at k true t))
  where
    ends : (again : List ℕ → Read Indented) → asked_key k again i rest ≡ Some (asked_alone i, rest)
    ends again = rw (o, h) refl

-- after a pair
pair_goes_on : (sits : Sits) (done : List Pair) (p : Pair) (r : Read Pairs)
    → close_pairs sits done (on r (λ ps rest. Some (pair_and p ps, rest))) ≡ close_pairs sits (done ++ p ∷ []) r
pair_goes_on sits done p None = refl
pair_goes_on sits done p (Some r) = ap (λ ps. Some (pairs_part sits ps, r.1)) (sym (more_joined_pairs done p r.0))

-- after a pair at the same indentation comes the next one
pub pair_next : (sits : Sits) (k : ℕ) (done : List Pair) (p : Pair) (rest : List ℕ)
    → (spaces_before rest == k) && not (block_node_stops k false rest) ≡ true
    → pairs_after sits k done p rest ≡ close_pairs sits (done ++ p ∷ []) (block_pairs_at k (k == 0) (past_spaces rest))
pair_next sits k done p rest h = ap (close_pairs sits done) (goes_on (λ t. block_pairs_at k (k == 0) t))
    ∙ pair_goes_on sits done p (block_pairs_at k (k == 0) (past_spaces rest))
  where
    goes_on : (again : List ℕ → Read Pairs) → more_pairs k again p rest
        ≡ on (again (past_spaces rest)) (λ ps rest'. Some (pair_and p ps, rest'))
    goes_on again = rw h refl

-- after the last pair the mapping is closed
pub pair_last : (sits : Sits) (k : ℕ) (done : List Pair) (p : Pair) (rest : List ℕ)
    → (spaces_before rest == k) && not (block_node_stops k false rest) ≡ false
    → pairs_after sits k done p rest ≡ Some (pairs_part sits (joined_pairs done (pair p)), rest)
pair_last sits k done p rest h = ap (close_pairs sits done) (ends (λ t. block_pairs_at k (k == 0) t))
  where
    ends : (again : List ℕ → Read Pairs) → more_pairs k again p rest ≡ Some (pair p, rest)
    ends again = rw h refl

-- ---- after a sign

-- a compact sequence after a sign
pub sequence_on_sign_line : (k : ℕ) (shallow : Bool) (text : List ℕ) → nat_le 1 (spaces_before text) && sign 45 (past_spaces text) ≡ true
    → block_indented_at k shallow text ≡ close_items (on_sign_line (spaces_before text)) []
    (block_items_at (k + 1 + spaces_before text) (past_spaces text))
sequence_on_sign_line k shallow text h = indented_steps k shallow text ∙ rw h refl

-- a node, or nothing, after a sign
pub node_after_sign : (k : ℕ) (shallow : Bool) (text : List ℕ) → nat_le 1 (spaces_before text) && sign 45 (past_spaces text) ≡ false
    → nat_le 1 (spaces_before text) && opens_pair block_key_in flow_leaf_at read_block false (past_spaces text) ≡ false
    → block_indented_at k shallow text ≡ indented_node k shallow (λ t. block_node_at (suc k) shallow false t) text (all_comments false text)
node_after_sign k shallow text h p = indented_steps k shallow text ∙ rw (h, p) refl

-- ---- a node, as a part

-- a node as what comes after a sign
abbrev as_part : Read Node → Read Indented
as_part r = on r (λ n rest. Some (node n, rest))

-- items on further lines are such a part
items_as_part : (comments : List LineEnd) (k : ℕ) (r : Read Items)
    → as_part (on r (λ is rest. Some (items comments k is, rest))) ≡ close_items (on_lines comments k) [] r
items_as_part comments k None = refl
items_as_part comments k (Some r) = refl

-- and so are pairs
pairs_as_part : (comments : List LineEnd) (k : ℕ) (r : Read Pairs)
    → as_part (on r (λ ps rest. Some (pairs comments k ps, rest))) ≡ close_pairs (on_lines comments k) [] r
pairs_as_part comments k None = refl
pairs_as_part comments k (Some r) = refl
