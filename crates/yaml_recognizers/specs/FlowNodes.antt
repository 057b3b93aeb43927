-- The recognizer of flow nodes (YAML 1.2.2, 7.4 and 7.5), over one of flow scalars.
use Rattle.std.specs.Prelude.{ℕ, zero, suc, ◌+◌, ◌*◌, Bool, true, false, not, ◌&&◌, ◌||◌, ◌==◌, List, [], ◌∷◌, ◌++◌, length, Option, Some}
use Rattle.std.specs.Prelude.{None, is_some, codes, if◌then◌else◌}
use Rattle.yaml_recognizers.specs.Prelude.{is_in, first, starts_line, Sep, gap_text, FlowContext, flow_key, safe, in_flow, one_line, Scalar}
use Rattle.yaml_recognizers.specs.Prelude.{Flow, scalar, seq, map, Entries, none, last, next, Entry, entry, Value, absent, empty, given}
use Rattle.yaml_recognizers.specs.Prelude.{value_text, is_plain, single_pair, short_key, before_colon, close_brace, close_bracket, comma}
use Rattle.yaml_recognizers.specs.{Prelude.{open_brace, open_bracket, question}, Prefixes.past, CanonicalFlowNodes.canonical_flow}
use Rattle.yaml_recognizers.specs.{CanonicalFlowNodes.canonical_value, Gaps.{GapRead, read_gap}, Ends.is_colon, Reading.{Read, on}}
use Rattle.yaml_recognizers.specs.Reading.{read_closing, if_fits}

-- the node ends here: `,`, a closing bracket, or the end of the text
abbrev pub ends_entry : List ℕ → Bool
ends_entry [] = true
ends_entry (c ∷ cs) = is_in c (codes ",]}")

-- `?` as an indicator and not as the start of a plain scalar
abbrev pub is_asked : FlowContext → List ℕ → Bool
is_asked d [] = false
is_asked d (c ∷ cs) = (c == question) && not (first (safe d) cs)

-- the key of a single pair is on one line and short
abbrev pub key_is_short : ℕ → FlowContext → Bool → Bool → Option Sep → Flow → Value → List ℕ → Bool
key_is_short n d in_seq bol ask key value rest =
    if single_pair in_seq ask value
    then (canonical_flow key 0 flow_key bol (value_text value ++ rest) && short_key key (before_colon value))
    && canonical_value value n d true (is_plain key) rest
    else true

-- an entry, if its key is short
abbrev pub entry_if_short : ℕ → FlowContext → Bool → Bool → Option Sep → Flow → Value → List ℕ → Read Entry
entry_if_short n d in_seq bol ask key value rest =
    if_fits (key_is_short n d in_seq bol ask key value rest) (Some (entry ask key value, rest))

-- ---- the steps, each over what was read before it

-- a collection, from the gap after its bracket
abbrev pub in_brackets : (Option Sep → Entries → Flow) → ℕ → (Option Sep → List ℕ → Read Entries) → GapRead → Read Flow
in_brackets make close again gap = on (again gap.0 gap.1) (λ es rest. read_closing close (make gap.0 es) rest)

-- the entries, from the first one and the gap after it
abbrev pub next_entry : (List ℕ → GapRead) → (Option Sep → List ℕ → Read Entries) → Entry → GapRead → Read Entries
next_entry gap_at again e before =
    if first (λ x. x == comma) before.1
    then (let after = gap_at (past before.1) in on (again after.0 after.1)
    (λ es rest. Some (next e before.0 after.0 es, rest)))
    else Some (last e before.0, before.1)

-- an entry, from its key
abbrev pub keyed_entry : (Bool → List ℕ → Read Value) → (Flow → Value → List ℕ → Read Entry) → Flow → List ℕ
    → Read Entry
keyed_entry again make key rest = on (again (is_plain key) rest) (λ value rest'. make key value rest')

-- an entry after `?`, from the separation after it
abbrev pub asked_with : (Option Sep → List ℕ → Read Flow) → (Bool → List ℕ → Read Value) → Option Sep → List ℕ
    → Read Entry
asked_with again value_at None rest = None
asked_with again value_at (Some sep) rest =
    on (again (Some sep) rest) (λ key rest'. keyed_entry value_at
    (λ key' value rest''. Some (entry (Some sep) key' value, rest'')) key rest')

-- an entry after `?`
abbrev pub asked_entry : (Option Sep → List ℕ → Read Flow) → (Bool → List ℕ → Read Value) → GapRead → Read Entry
asked_entry again value_at ask = asked_with again value_at ask.0 ask.1

-- a value after `:`
abbrev pub given_value : Bool → (Option Sep → List ℕ → Read Flow) → Option Sep → List ℕ → GapRead → Read Value
given_value after_plain again before rest after =
    if ends_entry after.1 || (after_plain && not (is_some after.0)) then Some (empty before, rest)
    else on (again after.0 after.1) (λ f rest'. Some (given before after.0 f, rest'))

-- a value, from the gap before its `:`
abbrev pub some_value : FlowContext → Bool → (List ℕ → GapRead) → (Option Sep → List ℕ → Read Flow) → List ℕ → GapRead
    → Read Value
some_value d after_plain gap_at again text before =
    if is_colon d after_plain before.1
    then given_value after_plain again before.0 (past before.1) (gap_at (past before.1)) else Some (absent, text)

module _ (read_scalar : ℕ → FlowContext → Bool → List ℕ → Read Scalar) where
  unfoldable mutual
    -- a flow node, with at most this number of levels
    pub read_flow : ℕ → ℕ → FlowContext → Bool → List ℕ → Read Flow
    read_flow zero n c bol text = None
    read_flow (suc fuel) n c bol text =
        if first (λ x. x == open_bracket) text
        then in_brackets seq close_bracket
        (λ gap rest. read_entries fuel n (in_flow c) true (starts_line false (gap_text gap)) close_bracket rest)
        (read_gap n (one_line c) (past text))
        else if first (λ x. x == open_brace) text
        then in_brackets map close_brace
        (λ gap rest. read_entries fuel n (in_flow c) false (starts_line false (gap_text gap)) close_brace rest)
        (read_gap n (one_line c) (past text))
        else on (read_scalar n c bol text) (λ s rest. Some (scalar s, rest))

    -- the entries up to the closing bracket
    pub read_entries : ℕ → ℕ → FlowContext → Bool → Bool → ℕ → List ℕ → Read Entries
    read_entries zero n d in_seq bol close text = None
    read_entries (suc fuel) n d in_seq bol close text =
        if first (λ x. x == close) text then Some (none, text)
        else on (read_entry fuel n d in_seq bol text) (λ e rest.
        next_entry (read_gap n (one_line d))
        (λ gap rest'. read_entries fuel n d in_seq (starts_line false (gap_text gap)) close rest') e
        (read_gap n (one_line d) rest))

    -- one entry
    pub read_entry : ℕ → ℕ → FlowContext → Bool → Bool → List ℕ → Read Entry
    read_entry zero n d in_seq bol text = None
    read_entry (suc fuel) n d in_seq bol text =
        if is_asked d text
        then asked_entry (λ gap rest. read_flow fuel n d (starts_line false (gap_text gap)) rest)
        (λ after_plain rest. read_value fuel n d after_plain rest)
        (read_gap n (one_line d) (past text))
        else on (read_flow fuel n d bol text)
        (λ key rest. keyed_entry (λ after_plain rest'. read_value fuel n d after_plain rest')
        (entry_if_short n d in_seq bol None) key rest)

    -- the value of an entry
    pub read_value : ℕ → ℕ → FlowContext → Bool → List ℕ → Read Value
    read_value zero n d after_plain text = None
    read_value (suc fuel) n d after_plain text =
        some_value d after_plain (read_gap n (one_line d))
        (λ gap rest. read_flow fuel n d (starts_line false (gap_text gap)) rest) text (read_gap n (one_line d) text)

-- the same with all the levels that a text may need
abbrev pub whole_flow : (ℕ → FlowContext → Bool → List ℕ → Read Scalar) → ℕ → FlowContext → Bool → List ℕ → Read Flow
whole_flow read_scalar n c bol text = read_flow read_scalar (4 * length text + 1) n c bol text

-- the entries, with all levels
abbrev pub whole_entries : (ℕ → FlowContext → Bool → List ℕ → Read Scalar) → ℕ → FlowContext → Bool → Bool → ℕ
    → List ℕ → Read Entries
whole_entries read_scalar n d in_seq bol close text =
    read_entries read_scalar (4 * length text + 4) n d in_seq bol close text

-- an entry, with all levels
abbrev pub whole_entry : (ℕ → FlowContext → Bool → List ℕ → Read Scalar) → ℕ → FlowContext → Bool → Bool → List ℕ
    → Read Entry
whole_entry read_scalar n d in_seq bol text = read_entry read_scalar (4 * length text + 3) n d in_seq bol text

-- a value, with all levels
abbrev pub whole_value : (ℕ → FlowContext → Bool → List ℕ → Read Scalar) → ℕ → FlowContext → Bool → List ℕ → Read Value
whole_value read_scalar n d after_plain text = read_value read_scalar (4 * length text + 1) n d after_plain text

-- a flow node that is a scalar ends where `ends` says; a collection ends by itself
abbrev pub flow_ends : (ℕ → FlowContext → Scalar → List ℕ → Bool) → ℕ → FlowContext → Flow → List ℕ → Bool
flow_ends ends n c (scalar s) after = ends n c s after
flow_ends ends n c (seq gap es) after = true
flow_ends ends n c (map gap es) after = true
