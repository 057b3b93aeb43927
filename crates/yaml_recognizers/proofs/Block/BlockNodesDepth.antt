-- The recognizer of block nodes finds the same at each depth that is enough for the text; so its parts can be said by
-- one another.
use Rattle.std.{proofs.Common.{ap, arith, length-append, refl, sym, ◌∙◌, ◌≡◌, ◌≤◌}, specs.Prelude.{Bool, List, None, Some, [], false}}
use Rattle.std.specs.Prelude.{if◌then◌else◌, length, nat_le, not, suc, true, zero, ℕ, ◌&&◌, ◌*◌, ◌++◌, ◌+◌, ◌==◌, ◌||◌, ◌∷◌}
use Rattle.yaml_recognizers.proofs.Prelude.{and_parts, Indented, Items, Node, Pair, Pairs, asked, compact_items, compact_pairs}
use Rattle.yaml_recognizers.proofs.Prelude.{indented_text, is_omitted, item_and, items, keyed, node, pair_and, pair_text, pairs}
use Rattle.yaml_recognizers.proofs.Prelude.{BlockScalar, past_spaces, spaces_before, Flow, flow_text, LineEnd, comments_text, is_empty}
use Rattle.yaml_recognizers.proofs.{Prelude.spaces, Block.{BlockNodesBegin.pair_long, BlockNodesSound.{BlockOf, FlowOf, IndentedOf, KeyOf}}}
use Rattle.yaml_recognizers.proofs.{Block.BlockNodesSound.{PairOf, indented_sound, pair_sound}, Separation.CommentsSound.all_sound}
use Rattle.yaml_recognizers.proofs.Basics.{Prefixes.spaces_split, Solid.head_of, Reading.{Sound, cond_same, on_same, sound_is}}
use Rattle.yaml_recognizers.specs.{Comments.all_comments, Ends.block_node_stops, Prefixes.{past, sign}, Reading.{Read, on}}
use Rattle.yaml_recognizers.specs.BlockNodes.{asked_key, deep_indented, deep_items, deep_node, deep_pair, deep_pairs, indented_node}
use Rattle.yaml_recognizers.specs.BlockNodes.{key_value, more_items, more_pairs, node_below, omits, opens_pair, read_indented, read_items}
use Rattle.yaml_recognizers.specs.BlockNodes.{read_node, read_pair, read_pairs}

-- ---- what is left of a text

-- what comes after the spaces is no longer than the text
spaces_left : (text : List ℕ) → length (past_spaces text) ≤ length text
spaces_left text = omega (arith, ap length (spaces_split text), length-append (spaces (spaces_before text)) (past_spaces text))

-- a sign takes one character of the text
sign_left : (k : ℕ) (text : List ℕ) → sign k text ≡ true → suc (length (past text)) ≡ length text
sign_left k text h = sym (ap length (head_of k text h).0)

-- comments leave no more than the text
comments_left : (bol : Bool) (text : List ℕ) → length (all_comments bol text).1 ≤ length text
comments_left bol text =
    let c : List LineEnd × List ℕ = all_comments bol text in
    omega (arith, ap length (all_sound bol text).0, length-append (comments_text c.0) c.1)

-- two recognizers that find the same in texts of at most so many characters
abbrev Same : {A : Type 0} → ℕ → (List ℕ → Read A) → (List ℕ → Read A) → Type 0
Same most f g = (text : List ℕ) → length text ≤ most → f text ≡ g text

-- what is left is no longer
abbrev Leaves : {A : Type 0} → (List ℕ → Read A) → Type 0
Leaves {A} f = (text : List ℕ) (a : A) (rest : List ℕ) → f text ≡ Some (a, rest) → length rest ≤ length text

-- ---- the steps go on alike

-- recognizers that agree on shorter texts read the same items
items_alike : (most k : ℕ) (text : List ℕ) (i i' : List ℕ → Read Indented) (again again' : List ℕ → Read Items)
    → length text ≤ suc most → Same most i i' → Leaves i' → Same most again again'
    → (if sign 45 text then on (i (past text)) (λ a rest. more_items k again a rest) else None)
    ≡ (if sign 45 text then on (i' (past text)) (λ a rest. more_items k again' a rest) else None)
items_alike most k text i i' again again' l s v s' =
    cond_same (sign 45 text) _ _ _ _
    (λ h. let p : suc (length (past text)) ≡ length text = sign_left 45 text h in
    ap (λ r. on r (λ a rest. more_items k again a rest)) (s (past text) (omega arith))
    ∙ on_same (i' (past text)) _ _ (λ a rest q.
    let r : length rest ≤ length (past text) = v (past text) a rest q in
    let t : length (past_spaces rest) ≤ length rest = spaces_left rest in
    cond_same ((spaces_before rest == k) && sign 45 (past_spaces rest)) _ _ _ _
    (λ _. ap (λ x. on x (λ is rest'. Some (item_and a is, rest'))) (s' (past_spaces rest) (omega arith))) (λ _. refl)))
    (λ _. refl)

-- and the same pairs
pairs_alike : (most k : ℕ) (text : List ℕ) (p p' : List ℕ → Read Pair) (again again' : List ℕ → Read Pairs)
    → length text ≤ suc most → p text ≡ p' text
    → ((a : Pair) (rest : List ℕ) → p' text ≡ Some (a, rest) → suc (length rest) ≤ length text) → Same most again again'
    → on (p text) (λ a rest. more_pairs k again a rest) ≡ on (p' text) (λ a rest. more_pairs k again' a rest)
pairs_alike most k text p p' again again' l s v s' =
    ap (λ r. on r (λ a rest. more_pairs k again a rest)) s
    ∙ on_same (p' text) _ _ (λ a rest q.
    let r : suc (length rest) ≤ length text = v a rest q in
    let t : length (past_spaces rest) ≤ length rest = spaces_left rest in
    cond_same ((spaces_before rest == k) && not (block_node_stops k false rest)) _ _ _ _
    (λ _. ap (λ x. on x (λ ps rest'. Some (pair_and a ps, rest'))) (s' (past_spaces rest) (omega arith))) (λ _. refl))

module _ (read_key : Bool → List ℕ → Read (Flow × List ℕ)) (read_flow : ℕ → Bool → List ℕ → Read Flow)
    (read_block : ℕ → List ℕ → Read BlockScalar)
    (key_sound : (bol : Bool) (text : List ℕ) → Sound (KeyOf bol text) (read_key bol text))
    (flow_sound : (m : ℕ) (bol : Bool) (text : List ℕ) → Sound (FlowOf m bol text) (read_flow m bol text))
    (block_sound : (m : ℕ) (text : List ℕ) → Sound (BlockOf m text) (read_block m text)) where
  abbrev opens : Bool → List ℕ → Bool
  opens bol text = opens_pair read_key read_flow read_block bol text

  -- after a key and its `:` less is left
  key_left : (bol : Bool) (text : List ℕ) (key : Flow × List ℕ) (rest : List ℕ) → read_key bol text ≡ Some (key, rest)
      → suc (length rest) ≤ length text
  key_left bol text key rest e =
      let p : KeyOf bol text key rest = sound_is (KeyOf bol text) (read_key bol text) (key, rest) (key_sound bol text) e in
      omega (arith, ap length p.0, length-append (flow_text key.0) (key.1 ++ (58 ∷ rest)), length-append key.1 (58 ∷ rest))

  indented_left : (fuel k : ℕ) (shallow : Bool) → Leaves (λ t. read_indented read_key read_flow read_block fuel k shallow t)
  indented_left fuel k shallow text i rest e =
      let p : IndentedOf k shallow text i rest =
      sound_is (IndentedOf k shallow text) (read_indented read_key read_flow read_block fuel k shallow text) (i, rest)
      (indented_sound read_key read_flow read_block key_sound flow_sound block_sound fuel k shallow text) e in
      omega (arith, ap length p.0, length-append (indented_text i k) rest)

  pair_left : (fuel k : ℕ) (bol : Bool) (text : List ℕ) (a : Pair) (rest : List ℕ)
      → read_pair read_key read_flow read_block fuel k bol text ≡ Some (a, rest) → suc (length rest) ≤ length text
  pair_left fuel k bol text a rest e =
      let p : PairOf k bol text a rest =
      sound_is (PairOf k bol text) (read_pair read_key read_flow read_block fuel k bol text) (a, rest)
      (pair_sound read_key read_flow read_block key_sound flow_sound block_sound fuel k bol text) e in
      omega (arith, ap length p.0, length-append (pair_text a k) rest, pair_long a k)

  node_alike : (m : ℕ) (shallow bol : Bool) (text : List ℕ) (ia ia' : ℕ → List ℕ → Read Items) (pa pa' : ℕ → Bool → List ℕ → Read Pairs)
      → ((k : ℕ) → Same (length text) (ia k) (ia' k)) → ((k : ℕ) (b : Bool) → Same (length text) (pa k b) (pa' k b))
      → node_below read_key read_flow read_block ia pa m shallow bol (all_comments bol text)
      ≡ node_below read_key read_flow read_block ia' pa' m shallow bol (all_comments bol text)
  node_alike m shallow bol text ia ia' pa pa' si sp =
      let c : List LineEnd × List ℕ = all_comments bol text in
      let s : ℕ = spaces_before c.1 in
      let rest : List ℕ = past_spaces c.1 in
      let a : length c.1 ≤ length text = comments_left bol text in
      let b : length rest ≤ length c.1 = spaces_left c.1 in
      cond_same ((bol || not (is_empty c.0)) && sign 45 rest && nat_le m (if shallow then suc s else s)) _ _ _ _
      (λ _. ap (λ r. on r (λ is rest'. Some (items c.0 s is, rest'))) (si s rest (omega arith)))
      (λ _. cond_same ((bol || not (is_empty c.0)) && nat_le m s && opens (s == 0) rest) _ _ _ _
      (λ _. ap (λ r. on r (λ ps rest'. Some (pairs c.0 s ps, rest'))) (sp s (s == 0) rest (omega arith)))
      (λ _. refl))

  pair_alike : (most k : ℕ) (bol : Bool) (text : List ℕ) (i i' : List ℕ → Read Indented) (n n' : List ℕ → Read Node)
      → length text ≤ suc most → Same most i i' → Leaves i' → Same most n n'
      → (if sign 63 text then on (i (past text)) (λ key rest. asked_key k i key rest)
      else on (read_key bol text) (λ key rest. key_value k n key rest (all_comments false rest)))
      ≡ (if sign 63 text then on (i' (past text)) (λ key rest. asked_key k i' key rest)
      else on (read_key bol text) (λ key rest. key_value k n' key rest (all_comments false rest)))
  pair_alike most k bol text i i' n n' l s v s' =
      cond_same (sign 63 text) _ _ _ _
      (λ h. let p : suc (length (past text)) ≡ length text = sign_left 63 text h in
      ap (λ r. on r (λ key rest. asked_key k i key rest)) (s (past text) (omega arith))
      ∙ on_same (i' (past text)) _ _ (λ key rest q.
      let r : length rest ≤ length (past text) = v (past text) key rest q in
      let t : length (past_spaces rest) ≤ length rest = spaces_left rest in
      cond_same (is_omitted key) _ _ _ _ (λ _. refl)
      (λ _. cond_same ((spaces_before rest == k) && sign 58 (past_spaces rest)) _ _ _ _
      (λ g. let u : suc (length (past (past_spaces rest))) ≡ length (past_spaces rest) =
      sign_left 58 (past_spaces rest) (and_parts _ _ g).1 in
      ap (λ x. on x (λ value rest'. Some (asked key value, rest'))) (s (past (past_spaces rest)) (omega arith)))
      (λ _. refl))))
      (λ _. on_same (read_key bol text) _ _ (λ key rest q.
      let r : suc (length rest) ≤ length text = key_left bol text key rest q in
      cond_same (omits (suc k) true (all_comments false rest)) _ _ _ _ (λ _. refl)
      (λ _. ap (λ x. on x (λ a rest'. Some (keyed key.0 key.1 a, rest'))) (s' rest (omega arith)))))

  indented_alike : (k : ℕ) (shallow : Bool) (text : List ℕ) (ia ia' : ℕ → List ℕ → Read Items)
      (pa pa' : ℕ → Bool → List ℕ → Read Pairs) (n n' : List ℕ → Read Node)
      → ((j : ℕ) → Same (length text) (ia j) (ia' j)) → ((j : ℕ) (b : Bool) → Same (length text) (pa j b) (pa' j b)) → n text ≡ n' text
      → (if nat_le 1 (spaces_before text) && sign 45 (past_spaces text)
      then on (ia (k + 1 + spaces_before text) (past_spaces text)) (λ is rest. Some (compact_items (spaces_before text) is, rest))
      else if nat_le 1 (spaces_before text) && opens false (past_spaces text)
      then on (pa (k + 1 + spaces_before text) false (past_spaces text)) (λ ps rest. Some (compact_pairs (spaces_before text) ps, rest))
      else indented_node k shallow n text (all_comments false text))
      ≡ (if nat_le 1 (spaces_before text) && sign 45 (past_spaces text)
      then on (ia' (k + 1 + spaces_before text) (past_spaces text)) (λ is rest. Some (compact_items (spaces_before text) is, rest))
      else if nat_le 1 (spaces_before text) && opens false (past_spaces text)
      then on (pa' (k + 1 + spaces_before text) false (past_spaces text)) (λ ps rest. Some (compact_pairs (spaces_before text) ps, rest))
      else indented_node k shallow n' text (all_comments false text))
  indented_alike k shallow text ia ia' pa pa' n n' si sp sn =
      let s : ℕ = spaces_before text in
      let b : length (past_spaces text) ≤ length text = spaces_left text in
      cond_same (nat_le 1 s && sign 45 (past_spaces text)) _ _ _ _
      (λ _. ap (λ r. on r (λ is rest. Some (compact_items s is, rest))) (si (k + 1 + s) (past_spaces text) b))
      (λ _. cond_same (nat_le 1 s && opens false (past_spaces text)) _ _ _ _
      (λ _. ap (λ r. on r (λ ps rest. Some (compact_pairs s ps, rest))) (sp (k + 1 + s) false (past_spaces text) b))
      (λ _. cond_same (omits (suc k) shallow (all_comments false text)) _ _ _ _ (λ _. refl)
      (λ _. ap (λ r. on r (λ a rest'. Some (node a, rest'))) sn)))

  -- ---- depth is no matter

  mutual
    unfolding read_node

    -- two depths that are enough for the text find the same node
    pub node_same : (fuel fuel' m : ℕ) (shallow bol : Bool) (text : List ℕ) → 4 * length text + 4 ≤ fuel → 4 * length text + 4 ≤ fuel'
        → read_node read_key read_flow read_block fuel m shallow bol text ≡ read_node read_key read_flow read_block fuel' m shallow bol text
    node_same zero fuel' m shallow bol text l l' = absurd (omega arith)
    node_same (suc fuel) zero m shallow bol text l l' = absurd (omega arith)
    node_same (suc fuel) (suc fuel') m shallow bol text l l' =
        node_alike m shallow bol text _ _ _ _ (λ k t b. items_same fuel fuel' k t (omega arith) (omega arith))
        (λ k c t b. pairs_same fuel fuel' k c t (omega arith) (omega arith))

    -- and the same items
    pub items_same : (fuel fuel' k : ℕ) (text : List ℕ) → 4 * length text + 3 ≤ fuel → 4 * length text + 3 ≤ fuel'
        → read_items read_key read_flow read_block fuel k text ≡ read_items read_key read_flow read_block fuel' k text
    items_same zero fuel' k text l l' = absurd (omega arith)
    items_same (suc fuel) zero k text l l' = absurd (omega arith)
    items_same (suc fuel) (suc fuel') k [] l l' = refl
    items_same (suc fuel) (suc fuel') k (x ∷ xs) l l' =
        items_alike (length xs) k (x ∷ xs) _ _ _ _ (omega arith)
        (λ t b. indented_same fuel fuel' k false t (omega arith) (omega arith)) (indented_left fuel' k false)
        (λ t b. items_same fuel fuel' k t (omega arith) (omega arith))

    -- and the same pairs
    pub pairs_same : (fuel fuel' k : ℕ) (bol : Bool) (text : List ℕ) → 4 * length text + 3 ≤ fuel → 4 * length text + 3 ≤ fuel'
        → read_pairs read_key read_flow read_block fuel k bol text ≡ read_pairs read_key read_flow read_block fuel' k bol text
    pairs_same zero fuel' k bol text l l' = absurd (omega arith)
    pairs_same (suc fuel) zero k bol text l l' = absurd (omega arith)
    pairs_same (suc fuel) (suc fuel') k bol [] l l' =
        ap (λ r. on r (λ p rest. more_pairs k (λ t. read_pairs read_key read_flow read_block fuel k (k == 0) t) p
        rest)) (pair_same fuel fuel' k bol [] (omega arith) (omega arith))
        ∙ on_same (read_pair read_key read_flow read_block fuel' k bol []) _ _
        (λ a rest q. let r : suc (length rest) ≤ 0 = pair_left fuel' k bol [] a rest q in absurd (omega arith))
    pairs_same (suc fuel) (suc fuel') k bol (x ∷ xs) l l' =
        pairs_alike (length xs) k (x ∷ xs) (λ t. read_pair read_key read_flow read_block fuel k bol t)
        (λ t. read_pair read_key read_flow read_block fuel' k bol t) _ _ (omega arith)
        (pair_same fuel fuel' k bol (x ∷ xs) (omega arith) (omega arith)) (λ a rest q. pair_left fuel' k bol (x ∷ xs) a rest q)
        (λ t b. pairs_same fuel fuel' k (k == 0) t (omega arith) (omega arith))

    -- and the same pair
    pub pair_same : (fuel fuel' k : ℕ) (bol : Bool) (text : List ℕ) → 4 * length text + 2 ≤ fuel → 4 * length text + 2 ≤ fuel'
        → read_pair read_key read_flow read_block fuel k bol text ≡ read_pair read_key read_flow read_block fuel' k bol text
    pair_same zero fuel' k bol text l l' = absurd (omega arith)
    pair_same (suc fuel) zero k bol text l l' = absurd (omega arith)
    pair_same (suc fuel) (suc fuel') k bol [] l l' =
        on_same (read_key bol []) _ _ (λ key rest q. let r : suc (length rest) ≤ 0 = key_left bol [] key rest q in absurd (omega arith))
    pair_same (suc fuel) (suc fuel') k bol (x ∷ xs) l l' =
        pair_alike (length xs) k bol (x ∷ xs) _ _ _ _ (omega arith)
        (λ t b. indented_same fuel fuel' k true t (omega arith) (omega arith)) (indented_left fuel' k true)
        (λ t b. node_same fuel fuel' (suc k) true false t (omega arith) (omega arith))

    -- and the same after a sign
    pub indented_same : (fuel fuel' k : ℕ) (shallow : Bool) (text : List ℕ) → 4 * length text + 5 ≤ fuel → 4 * length text + 5 ≤ fuel'
        → read_indented read_key read_flow read_block fuel k shallow text ≡ read_indented read_key read_flow read_block fuel' k shallow text
    indented_same zero fuel' k shallow text l l' = absurd (omega arith)
    indented_same (suc fuel) zero k shallow text l l' = absurd (omega arith)
    indented_same (suc fuel) (suc fuel') k shallow text l l' =
        indented_alike k shallow text _ _ _ _ (λ t.
        read_node read_key read_flow read_block fuel (suc k) shallow false t)
        (λ t. read_node read_key read_flow read_block fuel' (suc k) shallow false t)
        (λ j t b. items_same fuel fuel' j t (omega arith) (omega arith))
        (λ j c t b. pairs_same fuel fuel' j c t (omega arith) (omega arith))
        (node_same fuel fuel' (suc k) shallow false text (omega arith) (omega arith))

  -- ---- the recognizers by one another, where depth is no matter

  abbrev whole_at : ℕ → Bool → Bool → List ℕ → Read Node
  whole_at m shallow bol text = deep_node read_key read_flow read_block m shallow bol text

  abbrev items_in : ℕ → List ℕ → Read Items
  items_in k text = deep_items read_key read_flow read_block k text

  abbrev pairs_in : ℕ → Bool → List ℕ → Read Pairs
  pairs_in k bol text = deep_pairs read_key read_flow read_block k bol text

  abbrev pair_in : ℕ → Bool → List ℕ → Read Pair
  pair_in k bol text = deep_pair read_key read_flow read_block k bol text

  abbrev indented_in : ℕ → Bool → List ℕ → Read Indented
  indented_in k shallow text = deep_indented read_key read_flow read_block k shallow text

  -- a node, from its parts
  pub node_step : (m : ℕ) (shallow bol : Bool) (text : List ℕ) → whole_at m shallow bol text
      ≡ node_below read_key read_flow read_block (λ k rest. items_in k rest)
      (λ k b rest. pairs_in k b rest) m shallow bol (all_comments bol text)
  unfolding read_node
  node_step m shallow bol text =
      let deep : 4 * length text + 4 ≡ suc (4 * length text + 3) = omega arith in
      ap (λ d. read_node read_key read_flow read_block d m shallow bol text) deep
      ∙ node_alike m shallow bol text _ _ _ _ (λ k t b. items_same (4 * length text + 3) (4 * length t + 3) k t (omega arith) (omega arith))
      (λ k c t b. pairs_same (4 * length text + 3) (4 * length t + 3) k c t (omega arith) (omega arith))

  -- items, from their parts
  pub items_step : (k : ℕ) (text : List ℕ) → items_in k text
      ≡ (if sign 45 text then on (indented_in k false (past text)) (λ i rest. more_items k (λ t. items_in k t) i rest) else None)
  unfolding read_node
  items_step k [] = refl
  items_step k (x ∷ xs) =
      let text : List ℕ = x ∷ xs in
      let deep : 4 * length text + 3 ≡ suc (4 * length text + 2) = omega arith in
      ap (λ d. read_items read_key read_flow read_block d k text) deep
      ∙ items_alike (length xs) k text _ _ _ _ (omega arith)
      (λ t b. indented_same (4 * length text + 2) (4 * length t + 5) k false t (omega arith) (omega arith))
      (λ t i rest q. indented_left (4 * length t + 5) k false t i rest q)
      (λ t b. items_same (4 * length text + 2) (4 * length t + 3) k t (omega arith) (omega arith))

  -- pairs, from their parts
  pub pairs_step : (k : ℕ) (bol : Bool) (text : List ℕ)
      → pairs_in k bol text ≡ on (pair_in k bol text) (λ p rest. more_pairs k (λ t. pairs_in k (k == 0) t) p rest)
  unfolding read_node
  pairs_step k bol text =
      let deep : 4 * length text + 3 ≡ suc (4 * length text + 2) = omega arith in
      ap (λ d. read_pairs read_key read_flow read_block d k bol text) deep
      ∙ on_same (pair_in k bol text) _ _ (λ p rest q.
      let r : suc (length rest) ≤ length text = pair_left (4 * length text + 2) k bol text p rest q in
      let t : length (past_spaces rest) ≤ length rest = spaces_left rest in
      cond_same ((spaces_before rest == k) && not (block_node_stops k false rest)) _ _ _ _
      (λ _. ap (λ x. on x (λ ps rest'. Some (pair_and p ps, rest')))
      (pairs_same (4 * length text + 2) (4 * length (past_spaces rest) + 3) k (k == 0) (past_spaces rest)
      (omega arith) (omega arith)))
      (λ _. refl))

  -- a pair, from its parts
  pub pair_step : (k : ℕ) (bol : Bool) (text : List ℕ) → pair_in k bol text
      ≡ (if sign 63 text
      then on (indented_in k true (past text)) (λ key rest. asked_key k (λ t. indented_in k true t) key rest)
      else on (read_key bol text) (λ key rest. key_value k (λ t. whole_at (suc k) true false t) key rest (all_comments false rest)))
  unfolding read_node
  pair_step k bol [] = on_same (read_key bol []) _ _
      (λ key rest q. let r : suc (length rest) ≤ 0 = key_left bol [] key rest q in absurd (omega arith))
  pair_step k bol (x ∷ xs) =
      let text : List ℕ = x ∷ xs in
      let deep : 4 * length text + 2 ≡ suc (4 * length text + 1) = omega arith in
      ap (λ d. read_pair read_key read_flow read_block d k bol text) deep
      ∙ pair_alike (length xs) k bol text _ _ _ _ (omega arith)
      (λ t b. indented_same (4 * length text + 1) (4 * length t + 5) k true t (omega arith) (omega arith))
      (λ t i rest q. indented_left (4 * length t + 5) k true t i rest q)
      (λ t b. node_same (4 * length text + 1) (4 * length t + 4) (suc k) true false t (omega arith) (omega arith))

  -- what comes after a sign, from its parts
  pub indented_step : (k : ℕ) (shallow : Bool) (text : List ℕ) → indented_in k shallow text
      ≡ (if nat_le 1 (spaces_before text) && sign 45 (past_spaces text)
      then on (items_in (k + 1 + spaces_before text) (past_spaces text)) (λ is rest. Some (compact_items (spaces_before text) is, rest))
      else if nat_le 1 (spaces_before text) && opens false (past_spaces text)
      then on (pairs_in (k + 1 + spaces_before text) false (past_spaces text))
      (λ ps rest. Some (compact_pairs (spaces_before text) ps, rest))
      else indented_node k shallow (λ t. whole_at (suc k) shallow false t) text (all_comments false text))
  unfolding read_node
  indented_step k shallow text =
      let deep : 4 * length text + 5 ≡ suc (4 * length text + 4) = omega arith in
      ap (λ d. read_indented read_key read_flow read_block d k shallow text) deep
      ∙ indented_alike k shallow text (λ j t. read_items read_key read_flow read_block (4 * length text + 4) j t) (λ j t. items_in j t)
      (λ j b t. read_pairs read_key read_flow read_block (4 * length text + 4) j b t) (λ j b t. pairs_in j b t)
      (λ t. read_node read_key read_flow read_block (4 * length text + 4) (suc k) shallow false t) (λ t. whole_at (suc k) shallow false t)
      (λ j t b. items_same (4 * length text + 4) (4 * length t + 3) j t (omega arith) (omega arith))
      (λ j c t b. pairs_same (4 * length text + 4) (4 * length t + 3) j c t (omega arith) (omega arith))
      refl
