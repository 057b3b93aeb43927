-- Flow nodes that are on one line, as keys are; and the contexts in which the same characters are safe.
use Rattle.std.specs.Prelude.{Bool, true, false, ◌&&◌, Option, Some, None}
use Rattle.yaml_recognizers.specs.Prelude.{Sep, inline, lines, FlowContext, outer, inner, block_key, flow_key, Flow, scalar, seq, map}
use Rattle.yaml_recognizers.specs.Prelude.{Entries, none, last, next, Entry, entry, Value, absent, empty, given}
use Rattle.yaml_recognizers.specs.WholeScalars.{stands_on_one_line}

-- the first is the context of a key, and the second is the same or the wider context with the same safe characters
abbrev pub widens : FlowContext → FlowContext → Bool
widens outer d = false
widens inner d = false
widens block_key outer = true
widens block_key inner = false
widens block_key block_key = true
widens block_key flow_key = false
widens flow_key outer = false
widens flow_key inner = true
widens flow_key block_key = false
widens flow_key flow_key = true

-- the gap has no break
abbrev pub gap_on_one_line : Option Sep → Bool
gap_on_one_line None = true
gap_on_one_line (Some (inline blank)) = true
gap_on_one_line (Some (lines comments lead)) = false

abbrev mutual
  -- the node has no break
  pub on_one_line : Flow → Bool
  on_one_line (scalar s) = stands_on_one_line s
  on_one_line (seq gap es) = gap_on_one_line gap && entries_on_one_line es
  on_one_line (map gap es) = gap_on_one_line gap && entries_on_one_line es

  -- no entry has a break
  pub entries_on_one_line : Entries → Bool
  entries_on_one_line none = true
  entries_on_one_line (last e gap) = entry_on_one_line e && gap_on_one_line gap
  entries_on_one_line (next e before after es) =
      entry_on_one_line e && gap_on_one_line before && gap_on_one_line after && entries_on_one_line es

  -- the entry has no break
  pub entry_on_one_line : Entry → Bool
  entry_on_one_line (entry ask key value) = gap_on_one_line ask && on_one_line key && value_on_one_line value

  -- the value has no break
  pub value_on_one_line : Value → Bool
  value_on_one_line absent = true
  value_on_one_line (empty gap) = gap_on_one_line gap
  value_on_one_line (given before after f) = gap_on_one_line before && gap_on_one_line after && on_one_line f
