-- The comments of flow nodes are those of their text (YAML 1.2.2, 7.4 and 7.5).
use Rattle.std.{proofs.{Common.{◌≡◌, refl, sym, ap, arith, append_assoc, append-nil}, lemmas.Bool.and_parts}, specs.Prelude.{ℕ, ◌+◌, Bool}}
use Rattle.std.specs.Prelude.{true, false, not, ◌&&◌, ◌||◌, List, [], ◌++◌, Option, Some, None, codes, cond, is_some}
use Rattle.yaml_grammar.specs.{Texts.{byte_len, starts_line}, Separation.{Sep, gap_text, gap_fits}, FlowScalars.{FlowContext, flow_key}}
use Rattle.yaml_grammar.specs.FlowScalars.{in_flow, one_line, Scalar, plain, single, double, scalar_text, scalar_events, scalar_value}
use Rattle.yaml_grammar.specs.FlowNodes.{Flow, scalar, seq, map, Entries, none, last, next, Entry, entry, Value, absent, empty, given}
use Rattle.yaml_grammar.specs.FlowNodes.{asked_text, flow_text, entries_text, entry_text, value_text, is_plain, single_pair, short_key}
use Rattle.yaml_grammar.specs.FlowNodes.{before_colon, flow_fits, entries_fit, entry_fits, value_fits, flow_events, entries_events}
use Rattle.yaml_grammar.specs.{FlowNodes.{entry_events, value_events}, Events.{Event, plain_style, single_style, double_style, omitted_at}}
use Rattle.yaml_comments.specs.Presented.{gap_comments, flow_comments, entries_comments, entry_comments, value_comments}
use Rattle.yaml_comments.proofs.Parted.{Parted, nothing, join, texted, moved, meant, told, sequence_of, mapping_of, with_omitted, unmarked}
use Rattle.yaml_comments.proofs.{Parted.scalar_part, LinesParted.{sep_part, gap_part}}

-- a scalar is a part
scalar_there : (s : Scalar) (at : ℕ) (after : List ℕ) → Parted (scalar_text s) at (scalar_events at s) after []
scalar_there (plain prefix more) at after =
    scalar_part (scalar_text (plain prefix more)) at _ plain_style (scalar_value (plain prefix more)) after refl tt refl
scalar_there (single prefix more) at after =
    scalar_part (scalar_text (single prefix more)) at _ single_style (scalar_value (single prefix more)) after refl tt refl
scalar_there (double prefix more) at after =
    scalar_part (scalar_text (double prefix more)) at _ double_style (scalar_value (double prefix more)) after refl tt refl

-- an omitted value is a part
pub omitted_part : (at : ℕ) (after : List ℕ) → Parted [] at (omitted_at at) after []
omitted_part at after = with_omitted at (nothing at after)

-- a `?` and what separates it are a part
ask_part : (n : ℕ) (key : Bool) (ask : Option Sep) (at : ℕ) (after : List ℕ) → gap_fits n key ask after ≡ true
    → Parted (asked_text ask) at [] after (gap_comments ask)
ask_part n key None at after h = nothing at after
ask_part n key (Some sep) at after h = join refl (unmarked (codes "?") at _ refl) (sep_part n key false sep _ after h)

-- brackets around elements are a part
seq_brackets : (gap : Option Sep) (es : List ℕ) (n at : ℕ) (key : Bool) (events : List Event) (after : List ℕ)
    (comments : List (List ℕ)) → gap_fits n key gap (es ++ (codes "]" ++ after)) ≡ true
    → Parted es (at + 1 + byte_len (gap_text gap)) events (codes "]" ++ after) comments
    → Parted (codes "[" ++ gap_text gap ++ es ++ codes "]") at events after (gap_comments gap ++ comments)
seq_brackets gap es n at key events after comments h p =
    texted (simp append_assoc)
    (told (ap (λ cs. gap_comments gap ++ cs) (append-nil comments)) (meant (append-nil events)
    (join refl (unmarked (codes "[") at _ refl)
    (join (sym (append_assoc es (codes "]") after)) (gap_part n key gap _ (es ++ (codes "]" ++ after)) h)
    (join refl p (unmarked (codes "]") _ after refl))))))

-- and so are those around members
map_brackets : (gap : Option Sep) (es : List ℕ) (n at : ℕ) (key : Bool) (events : List Event) (after : List ℕ)
    (comments : List (List ℕ)) → gap_fits n key gap (es ++ (codes "}" ++ after)) ≡ true
    → Parted es (at + 1 + byte_len (gap_text gap)) events (codes "}" ++ after) comments
    → Parted (codes "{" ++ gap_text gap ++ es ++ codes "}") at events after (gap_comments gap ++ comments)
map_brackets gap es n at key events after comments h p =
    texted (simp append_assoc)
    (told (ap (λ cs. gap_comments gap ++ cs) (append-nil comments)) (meant (append-nil events)
    (join refl (unmarked (codes "{") at _ refl)
    (join (sym (append_assoc es (codes "}") after)) (gap_part n key gap _ (es ++ (codes "}" ++ after)) h)
    (join refl p (unmarked (codes "}") _ after refl))))))

-- a fact of a key, whichever way it has to fit
key_chosen : {P : Type 0} (b x s y : Bool) → (x ≡ true → P) → (y ≡ true → P) → cond b (x && s) y ≡ true → P
key_chosen true x s y f g h = f (and_parts _ _ h).0
key_chosen false x s y f g h = g h

-- an entry, from its parts
entry_joined : (ask : Option Sep) (key : Flow) (value : Value) (in_seq : Bool) (at : ℕ) (after : List ℕ)
    → Parted (asked_text ask) at [] (flow_text key ++ (value_text value ++ after)) (gap_comments ask)
    → Parted (flow_text key) (at + byte_len (asked_text ask)) (flow_events key (at + byte_len (asked_text ask)))
    (value_text value ++ after) (flow_comments key)
    → Parted (value_text value) (at + byte_len (asked_text ask) + byte_len (flow_text key))
    (value_events value (at + byte_len (asked_text ask) + byte_len (flow_text key))) after (value_comments value)
    → Parted (entry_text (entry ask key value)) at (entry_events (entry ask key value) in_seq at) after
    (entry_comments (entry ask key value))
entry_joined ask key value in_seq at after a k v = by in_seq ask value a k v
  where
    both : (ask : Option Sep) (value : Value)
        → Parted (asked_text ask) at [] (flow_text key ++ (value_text value ++ after)) (gap_comments ask)
        → Parted (flow_text key) (at + byte_len (asked_text ask)) (flow_events key (at + byte_len (asked_text ask)))
        (value_text value ++ after) (flow_comments key)
        → Parted (value_text value) (at + byte_len (asked_text ask) + byte_len (flow_text key))
        (value_events value (at + byte_len (asked_text ask) + byte_len (flow_text key))) after (value_comments value)
        → Parted (asked_text ask ++ flow_text key ++ value_text value) at
        (flow_events key (at + byte_len (asked_text ask))
        ++ value_events value (at + byte_len (asked_text ask) + byte_len (flow_text key))) after
        (gap_comments ask ++ (flow_comments key ++ value_comments value))
    both ask value a k v = texted (sym (append_assoc (asked_text ask) (flow_text key) (value_text value)))
        (join (sym (append_assoc (flow_text key) (value_text value) after)) a (join refl k v))

    by : (in_seq : Bool) (ask : Option Sep) (value : Value)
        → Parted (asked_text ask) at [] (flow_text key ++ (value_text value ++ after)) (gap_comments ask)
        → Parted (flow_text key) (at + byte_len (asked_text ask)) (flow_events key (at + byte_len (asked_text ask)))
        (value_text value ++ after) (flow_comments key)
        → Parted (value_text value) (at + byte_len (asked_text ask) + byte_len (flow_text key))
        (value_events value (at + byte_len (asked_text ask) + byte_len (flow_text key))) after (value_comments value)
        → Parted (entry_text (entry ask key value)) at (entry_events (entry ask key value) in_seq at) after
        (entry_comments (entry ask key value))
    by false ask value a k v = both ask value a k v
    by true (Some sep) value a k v = mapping_of (both (Some sep) value a k v)
    by true None (empty gap) a k v = mapping_of (both None (empty gap) a k v)
    by true None (given before gap_after f) a k v = mapping_of (both None (given before gap_after f) a k v)
    by true None absent a k v = texted (sym (append-nil (flow_text key))) (told (sym (append-nil (flow_comments key)))
        (moved (omega arith) k))

mutual
  -- a flow node is a part
  pub flow_part : (f : Flow) (n : ℕ) (c : FlowContext) (bol : Bool) (at : ℕ) (after : List ℕ) → flow_fits f n c bol after ≡ true
      → Parted (flow_text f) at (flow_events f at) after (flow_comments f)
  flow_part (scalar s) n c bol at after h = scalar_there s at after
  flow_part (seq gap es) n c bol at after h =
      let p : (gap_fits n (one_line c) gap (entries_text es ++ (codes "]" ++ after)) ≡ true)
      × (entries_fit es n (in_flow c) true (starts_line false (gap_text gap)) (codes "]" ++ after) ≡ true) = and_parts _ _ h in
      let inside : ℕ = at + 1 + byte_len (gap_text gap) in
      sequence_of
      (seq_brackets gap (entries_text es) n at (one_line c) (entries_events es true inside) after (entries_comments es) p.0
      (entries_part es n (in_flow c) true (starts_line false (gap_text gap)) inside (codes "]" ++ after) p.1))
  flow_part (map gap es) n c bol at after h =
      let p : (gap_fits n (one_line c) gap (entries_text es ++ (codes "}" ++ after)) ≡ true)
      × (entries_fit es n (in_flow c) false (starts_line false (gap_text gap)) (codes "}" ++ after) ≡ true) = and_parts _ _ h in
      let inside : ℕ = at + 1 + byte_len (gap_text gap) in
      mapping_of
      (map_brackets gap (entries_text es) n at (one_line c) (entries_events es false inside) after (entries_comments es) p.0
      (entries_part es n (in_flow c) false (starts_line false (gap_text gap)) inside (codes "}" ++ after) p.1))

  -- entries are a part
  entries_part : (es : Entries) (n : ℕ) (d : FlowContext) (in_seq bol : Bool) (at : ℕ) (after : List ℕ)
      → entries_fit es n d in_seq bol after ≡ true → Parted (entries_text es) at (entries_events es in_seq at) after (entries_comments es)
  entries_part none n d in_seq bol at after h = nothing at after
  entries_part (last e gap) n d in_seq bol at after h =
      let p : (entry_fits e n d in_seq bol (gap_text gap ++ after) ≡ true) × (gap_fits n (one_line d) gap after ≡ true) = and_parts _ _ h in
      meant (append-nil (entry_events e in_seq at))
      (join refl (entry_part e n d in_seq bol at (gap_text gap ++ after) p.0) (gap_part n (one_line d) gap _ after p.1))
  entries_part (next e before gap_after es) n d in_seq bol at after h =
      let rest : List ℕ = gap_text gap_after ++ (entries_text es ++ after) in
      let p : (entry_fits e n d in_seq bol (gap_text before ++ (codes "," ++ rest)) && gap_fits n (one_line d) before (codes "," ++ rest)
      && gap_fits n (one_line d) gap_after (entries_text es ++ after) ≡ true)
      × (entries_fit es n d in_seq (starts_line false (gap_text gap_after)) after ≡ true) = and_parts _ _ h in
      let q : (entry_fits e n d in_seq bol (gap_text before ++ (codes "," ++ rest)) && gap_fits n (one_line d) before
      (codes "," ++ rest) ≡ true)
      × (gap_fits n (one_line d) gap_after (entries_text es ++ after) ≡ true) = and_parts _ _ p.0 in
      let r : (entry_fits e n d in_seq bol (gap_text before ++ (codes "," ++ rest)) ≡ true)
      × (gap_fits n (one_line d) before (codes "," ++ rest) ≡ true) = and_parts _ _ q.0 in
      texted (simp append_assoc)
      (join (simp append_assoc) (entry_part e n d in_seq bol at (gap_text before ++ (codes "," ++ rest)) r.0)
      (join (simp append_assoc) (gap_part n (one_line d) before _ (codes "," ++ rest) r.1)
      (join refl (unmarked (codes ",") _ _ refl)
      (join refl (gap_part n (one_line d) gap_after _ (entries_text es ++ after) q.1)
      (entries_part es n d in_seq (starts_line false (gap_text gap_after)) _ after p.1)))))

  -- an entry is a part
  entry_part : (e : Entry) (n : ℕ) (d : FlowContext) (in_seq bol : Bool) (at : ℕ) (after : List ℕ)
      → entry_fits e n d in_seq bol after ≡ true → Parted (entry_text e) at (entry_events e in_seq at) after (entry_comments e)
  entry_part (entry ask key value) n d in_seq bol at after h =
      let rest : List ℕ = value_text value ++ after in
      let start : Bool = cond (is_some ask) (starts_line false (gap_text ask)) bol in
      let p : (gap_fits n (one_line d) ask (flow_text key ++ rest)
      && cond (single_pair in_seq ask value) (flow_fits key 0 flow_key bol rest && short_key key (before_colon value))
      (flow_fits key n d start rest) ≡ true)
      × (value_fits value n d (one_line d || single_pair in_seq ask value) (is_plain key) after ≡ true) = and_parts _ _ h in
      let q : (gap_fits n (one_line d) ask (flow_text key ++ rest) ≡ true)
      × (cond (single_pair in_seq ask value) (flow_fits key 0 flow_key bol rest && short_key key (before_colon value))
      (flow_fits key n d start rest) ≡ true) = and_parts _ _ p.0 in
      let place : ℕ = at + byte_len (asked_text ask) in
      entry_joined ask key value in_seq at after (ask_part n (one_line d) ask at (flow_text key ++ rest) q.0)
      (key_chosen (single_pair in_seq ask value) (flow_fits key 0 flow_key bol rest) (short_key key (before_colon value))
      (flow_fits key n d start rest) (λ f. flow_part key 0 flow_key bol place rest f) (λ f. flow_part key n d start place rest f) q.1)
      (value_part value n d (one_line d || single_pair in_seq ask value) (is_plain key) (place + byte_len (flow_text key)) after p.1)

  -- a value is a part
  value_part : (v : Value) (n : ℕ) (d : FlowContext) (key after_plain : Bool) (at : ℕ) (after : List ℕ)
      → value_fits v n d key after_plain after ≡ true → Parted (value_text v) at (value_events v at) after (value_comments v)
  value_part absent n d key after_plain at after h = omitted_part at after
  value_part (empty gap) n d key after_plain at after h =
      told (append-nil (gap_comments gap))
      (join refl (gap_part n key gap at (codes ":" ++ after) (and_parts _ _ h).0)
      (join refl (unmarked (codes ":") _ after refl) (omitted_part _ after)))
  value_part (given before gap_after f) n d key after_plain at after h =
      let rest : List ℕ = gap_text gap_after ++ (flow_text f ++ after) in
      let p : (gap_fits n key before (codes ":" ++ rest) && (is_some gap_after || not after_plain)
      && gap_fits n (one_line d) gap_after (flow_text f ++ after) ≡ true)
      × (flow_fits f n d (starts_line false (gap_text gap_after)) after ≡ true) = and_parts _ _ h in
      let q : (gap_fits n key before (codes ":" ++ rest) && (is_some gap_after || not after_plain) ≡ true)
      × (gap_fits n (one_line d) gap_after (flow_text f ++ after) ≡ true) = and_parts _ _ p.0 in
      texted (simp append_assoc)
      (join (simp append_assoc) (gap_part n key before at (codes ":" ++ rest) (and_parts _ _ q.0).0)
      (join refl (unmarked (codes ":") _ _ refl)
      (join refl (gap_part n (one_line d) gap_after _ (flow_text f ++ after) q.1)
      (flow_part f n d (starts_line false (gap_text gap_after)) _ after p.1))))
