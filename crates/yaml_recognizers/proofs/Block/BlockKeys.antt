-- The keys of block mappings, read as flow nodes on one line; and a flow node is no key where comments come after it.
use Rattle.std.{proofs.Common.{ap, append_assoc, inl, inr, refl, subst, sym, ◌∙◌, ◌≡◌}, specs.Prelude.{Bool, List, None, Some, [], false}}
use Rattle.std.specs.Prelude.{not, true, ℕ, ◌&&◌, ◌++◌, ◌||◌, ◌∷◌}
use Rattle.yaml_recognizers.proofs.Prelude.{and_from, and_parts, cond_both, false≢true, ns, white, Flow, flow_text, is_plain, map, scalar}
use Rattle.yaml_recognizers.proofs.Prelude.{seq, short_key, FlowContext, block_key, double, lines_after, lines_text, one_line, outer, plain}
use Rattle.yaml_recognizers.proofs.Prelude.{plain_kind, plain_line, plain_lines, plain_text, single, LineEnd, comment_line_fits}
use Rattle.yaml_recognizers.proofs.Prelude.{comments_text, line_end_text, list_all, first, is_empty, no_marker}
use Rattle.yaml_recognizers.proofs.{Block.{BlockNodesComplete.KeySound, BlockNodesSound.KeyOf}, Flow.FlowNodesBegin.plain_prefix}
use Rattle.yaml_recognizers.proofs.{Flow.{FlowNodesSound.FlowOfAt, FlowNodesWider.flow_wider}, Basics.Solid.head_of}
use Rattle.yaml_recognizers.proofs.Basics.{Prefixes.{drop_while_all, take_while_all, take_while_every, take_while_split}, Reading.Sound}
use Rattle.yaml_recognizers.proofs.{Basics.Reading.{none_some, some_parts, sound_is, sound_on}, Separation.CommentsComplete.line_end_read}
use Rattle.yaml_recognizers.proofs.Separation.{CommentsComplete.{no_line, not_line_end}, LineEnds.{comments_parts, no_comments_parts}}
use Rattle.yaml_recognizers.specs.{BlockNodes.{block_key_at, key_after}, CanonicalComments.canonical_comments}
use Rattle.yaml_recognizers.specs.{CanonicalFlowNodes.canonical_flow, Comments.read_line_end, Reading.{Read, on}, Ends.Stops}
use Rattle.yaml_recognizers.specs.{Ends.{between_brackets, less_deep}, Prefixes.{drop_while, past, sign, take_while}}

-- a node that fits at the start of a line fits within one
start_dropped : (f : Flow) (n : ℕ) (c : FlowContext) (after : List ℕ) → canonical_flow f n c true after ≡ true
    → canonical_flow f n c false after ≡ true
start_dropped (scalar (plain prefix more)) n c after h =
    let p : (no_marker true (lines_text plain_text prefix more ++ after)
    && plain_line c prefix (lines_after plain_kind more after) && plain_lines n c prefix more after ≡ true)
    × (is_empty more || not (one_line c) ≡ true) = and_parts _ _ h in
    let q : (no_marker true (lines_text plain_text prefix more ++ after)
    && plain_line c prefix (lines_after plain_kind more after) ≡ true)
    × (plain_lines n c prefix more after ≡ true) = and_parts _ _ p.0 in
    and_from _ _ (and_from _ _ (plain_prefix n c true prefix more after h).0 q.1) p.1
start_dropped (scalar (single prefix more)) n c after h = h
start_dropped (scalar (double prefix more)) n c after h = h
start_dropped (seq gap es) n c after h = h
start_dropped (map gap es) n c after h = h

-- a flow node that fits at the start of a line fits elsewhere too
pub anywhere : (f : Flow) (n : ℕ) (c : FlowContext) (bol : Bool) (after : List ℕ)
    → canonical_flow f n c bol after ≡ true → canonical_flow f n c false after ≡ true
anywhere f n c true after h = start_dropped f n c after h
anywhere f n c false after h = h

-- ---- comments begin with no `:`

-- after a key comes something
key_gap_some : (gap rest : List ℕ) → is_empty (gap ++ (58 ∷ rest)) ≡ false
key_gap_some [] rest = refl
key_gap_some (x ∷ xs) rest = refl

-- no `:` comes after comments on the line of a key
no_colon_after : (comments : List LineEnd) (after gap rest : List ℕ) → canonical_comments false comments after ≡ true
    → list_all white gap ≡ true
    → comments_text comments ++ after ≡ gap ++ (58 ∷ rest) → ⊥
no_colon_after [] after gap rest h w e = false≢true
    (sym (key_gap_some gap rest) ∙ (ap is_empty (sym e) ∙ (no_comments_parts false after h).0))
no_colon_after (c ∷ cs) after gap rest h w e =
    let p : (comment_line_fits false c (comments_text cs ++ after) ≡ true)
    × (canonical_comments true cs after ≡ true) = comments_parts false c cs after h in
    let regrouped : comments_text (c ∷ cs) ++ after ≡ line_end_text c ++ (comments_text cs ++ after) = simp append_assoc in
    none_some (c, comments_text cs ++ after)
    (sym (no_line false (gap ++ (58 ∷ rest)) (not_line_end gap (58 ∷ rest) w refl))
    ∙ (ap (read_line_end false) (sym e ∙ regrouped) ∙ line_end_read false c (comments_text cs ++ after) p.0))

-- ---- what may come after a flow node in a block

-- before the `:` of a key a scalar ends
before_colon_stops : (n : ℕ) (c : FlowContext) (after_plain : Bool) (gap rest : List ℕ) → between_brackets c ≡ false
    → list_all white gap ≡ true → first ns rest ≡ false → Stops n c after_plain (gap ++ (58 ∷ rest))
before_colon_stops n c after_plain gap rest o w h =
    inr (inl (record { outside = o; gap = gap; rest = rest; is = refl; gap_white = w; apart = h }))

-- comments and a line less deep end a flow node
pub before_comments_stops : (n : ℕ) (after_plain : Bool) (comments : List LineEnd) (after : List ℕ)
    → canonical_comments false comments after ≡ true → less_deep n after ≡ true
    → Stops n outer after_plain (comments_text comments ++ after)
before_comments_stops n after_plain comments after h d =
    inr (inr (record { outside = refl; comments = comments; rest = after; is = refl; fits = h; shallow = d }))

-- ---- keys

-- a key, and no ns after its `:`
abbrev pub WholeKey : Bool → List ℕ → Flow × List ℕ → List ℕ → Type 0
WholeKey bol text key rest = KeyOf bol text key rest × (first ns rest ≡ false)

module _ (read_flow : ℕ → FlowContext → Bool → List ℕ → Read Flow)
    (flow_read : (f : Flow) (n : ℕ) (c : FlowContext) (bol : Bool) (after : List ℕ)
    → canonical_flow f n c bol after ≡ true → Stops n c (is_plain f) after
    → read_flow n c bol (flow_text f ++ after) ≡ Some (f, after))
    (flow_sound : (n : ℕ) (c : FlowContext) (bol : Bool) (text : List ℕ) → Sound (FlowOfAt n c bol text) (read_flow n c bol text)) where
  -- what is read as a key is one
  pub whole_key : (bol : Bool) (text : List ℕ) → Sound (WholeKey bol text) (block_key_at read_flow bol text)
  whole_key bol text =
      sound_on (FlowOfAt 0 block_key bol text) (WholeKey bol text) (read_flow 0 block_key bol text)
      (λ key rest. key_after key (take_while white rest) (drop_while white rest)) (flow_sound 0 block_key bol text)
      (λ key rest p.
      let gap : List ℕ = take_while white rest in
      let rest_after : List ℕ = drop_while white rest in
      cond_both (sign 58 rest_after && short_key key gap) (Some ((key, gap), past rest_after)) None (Sound (WholeKey bol text))
      (λ h. let q : (sign 58 rest_after ≡ true) × (short_key key gap ≡ true) = and_parts _ _ h in
      let c : (rest_after ≡ 58 ∷ past rest_after) × (first ns (past rest_after) ≡ false) = head_of 58 rest_after q.0 in
      let e : rest ≡ gap ++ (58 ∷ past rest_after) = take_while_split white rest ∙ ap (λ u. gap ++ u) c.0 in (
        (
          p.0 ∙ ap (λ u. flow_text key ++ u) e,
          subst
              (λ (u : List ℕ). canonical_flow key 0 block_key bol u ≡ true) e p.1,
          take_while_every white rest,
          q.1,
        ),
        c.1,
      ))
      (λ _. tt))

  -- the same of each result
  pub keys_sound : (bol : Bool) (text : List ℕ) (r : (Flow × List ℕ) × List ℕ)
      → block_key_at read_flow bol text ≡ Some r → KeySound bol text r
  keys_sound bol text r e = (sound_is (WholeKey bol text) (block_key_at read_flow bol text) r (whole_key bol text) e).0

  -- a key that fits is read
  pub keys_read : (key : Flow) (gap : List ℕ) (bol : Bool) (rest : List ℕ)
      → canonical_flow key 0 block_key bol (gap ++ (58 ∷ rest)) ≡ true → list_all white gap ≡ true
      → short_key key gap ≡ true → first ns rest ≡ false
      → block_key_at read_flow bol (flow_text key ++ (gap ++ (58 ∷ rest))) ≡ Some ((key, gap), rest)
  keys_read key gap bol rest h w s n =
      ap (λ r. on r (λ key' rest'. key_after key' (take_while white rest') (drop_while white rest')))
      (flow_read key 0 block_key bol (gap ++ (58 ∷ rest)) h (before_colon_stops 0 block_key (is_plain key) gap rest refl w n))
      ∙ rw (take_while_all white gap (58 ∷ rest) w refl, drop_while_all white gap (58 ∷ rest) w refl, n, s) refl

  no_key_if : (f : Flow) (m : ℕ) (b b' : Bool) (comments : List LineEnd) (after : List ℕ)
      → canonical_flow f m outer b (comments_text comments ++ after) ≡ true
      → canonical_comments false comments after ≡ true → less_deep m after ≡ true → (r : Read (Flow × List ℕ))
      → Sound (WholeKey b' (flow_text f ++ (comments_text comments ++ after))) r → r ≡ None
  no_key_if f m b b' comments after h c d None s = refl
  no_key_if f m b b' comments after h c d (Some r) s =
      let key : Flow = r.0.0 in
      let gap : List ℕ = r.0.1 in
      let here : List ℕ = comments_text comments ++ after in
      let there : List ℕ = gap ++ (58 ∷ r.1) in
      let k : KeyOf b' (flow_text f ++ here) r.0 r.1 = s.0 in
      let one : read_flow m outer false (flow_text f ++ here) ≡ Some (f, here) =
      flow_read f m outer false here (anywhere f m outer b here h) (before_comments_stops m (is_plain f) comments after c d) in
      let wide : canonical_flow key m outer b' there ≡ true = flow_wider key 0 m block_key outer b' there refl k.1 in
      let two : read_flow m outer false (flow_text key ++ there) ≡ Some (key, there) =
      flow_read key m outer false there (anywhere key m outer b' there wide)
      (before_colon_stops m outer (is_plain key) gap r.1 refl k.2 s.1) in
      absurd (no_colon_after comments after gap r.1 c k.2
      (some_parts f key here there (sym one ∙ (ap (read_flow m outer false) k.0 ∙ two))).1)

  -- a flow node before comments is no key
  pub flow_no_key : (f : Flow) (m : ℕ) (b b' : Bool) (comments : List LineEnd) (after : List ℕ)
      → canonical_flow f m outer b (comments_text comments ++ after) ≡ true
      → canonical_comments false comments after ≡ true → less_deep m after ≡ true
      → block_key_at read_flow b' (flow_text f ++ (comments_text comments ++ after)) ≡ None
  flow_no_key f m b b' comments after h c d =
      no_key_if f m b b' comments after h c d (block_key_at read_flow b'
      (flow_text f ++ (comments_text comments ++ after))) (whole_key b' (flow_text f ++ (comments_text comments ++ after)))
