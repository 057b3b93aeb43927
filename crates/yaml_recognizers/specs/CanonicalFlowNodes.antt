-- Flow nodes whose separation is canonical. The rest is as in the grammar.
use Rattle.std.specs.Prelude.{ℕ, Bool, true, false, not, ◌&&◌, ◌||◌, List, ◌++◌, is_some, codes, if◌then◌else◌}
use Rattle.yaml_recognizers.specs.Prelude.{first, starts_line, gap_text, FlowContext, flow_key, in_flow, one_line, safe, scalar_fits, Flow}
use Rattle.yaml_recognizers.specs.Prelude.{scalar, seq, map, Entries, none, last, next, Entry, entry, Value, absent, empty, given}
use Rattle.yaml_recognizers.specs.Prelude.{flow_text, entries_text, value_text, is_plain, before_colon, single_pair, short_key}
use Rattle.yaml_recognizers.specs.CanonicalComments.{canonical_gap}

abbrev mutual
  -- [161] ns-flow-node, 7.5: a flow node in its canonical form
  pub canonical_flow : Flow → ℕ → FlowContext → Bool → List ℕ → Bool
  canonical_flow (scalar s) n c bol after = scalar_fits n c bol s after
  canonical_flow (seq gap es) n c bol after =
      canonical_gap n (one_line c) gap (entries_text es ++ (codes "]" ++ after))
      && canonical_entries es n (in_flow c) true (starts_line false (gap_text gap)) (codes "]" ++ after)
  canonical_flow (map gap es) n c bol after =
      canonical_gap n (one_line c) gap (entries_text es ++ (codes "}" ++ after))
      && canonical_entries es n (in_flow c) false (starts_line false (gap_text gap)) (codes "}" ++ after)

  -- [138] and [141], 7.4: entries in the context d between the brackets; in_seq says whether they are those of a
  -- sequence
  pub canonical_entries : Entries → ℕ → FlowContext → Bool → Bool → List ℕ → Bool
  canonical_entries none n d in_seq bol after = true
  canonical_entries (last e gap) n d in_seq bol after =
      canonical_entry e n d in_seq bol (gap_text gap ++ after) && canonical_gap n (one_line d) gap after
  canonical_entries (next e before gap_after es) n d in_seq bol after =
      let rest = gap_text gap_after ++ (entries_text es ++ after) in
      canonical_entry e n d in_seq bol (gap_text before ++ (codes "," ++ rest))
      && canonical_gap n (one_line d) before (codes "," ++ rest)
      && canonical_gap n (one_line d) gap_after (entries_text es ++ after)
      && canonical_entries es n d in_seq (starts_line false (gap_text gap_after)) after

  -- [139], [142] and [150], 7.4: an entry in its canonical form
  pub canonical_entry : Entry → ℕ → FlowContext → Bool → Bool → List ℕ → Bool
  canonical_entry (entry ask key value) n d in_seq bol after =
      canonical_gap n (one_line d) ask (flow_text key ++ (value_text value ++ after))
      && (if single_pair in_seq ask value
      then canonical_flow key 0 flow_key bol (value_text value ++ after) && short_key key (before_colon value)
      else canonical_flow key n d (if is_some ask then starts_line false (gap_text ask) else bol)
      (value_text value ++ after))
      && canonical_value value n d (one_line d || single_pair in_seq ask value) (is_plain key) after

  -- [147] and [149], 7.4.2. key: the whitespace before the `:` is on its line; after_plain: after a plain key, `:`
  -- needs whitespace before a value
  pub canonical_value : Value → ℕ → FlowContext → Bool → Bool → List ℕ → Bool
  canonical_value absent n d key after_plain after = true
  canonical_value (empty gap) n d key after_plain after =
      canonical_gap n key gap (codes ":" ++ after) && not (after_plain && first (safe d) after)
  canonical_value (given before gap_after f) n d key after_plain after =
      canonical_gap n key before (codes ":" ++ (gap_text gap_after ++ (flow_text f ++ after)))
      && (is_some gap_after || not after_plain) && canonical_gap n (one_line d) gap_after (flow_text f ++ after)
      && canonical_flow f n d (starts_line false (gap_text gap_after)) after
