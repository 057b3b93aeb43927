-- The recognizer of what joins two lines of a flow scalar. It serves all three styles.
use Rattle.std.specs.Prelude.{Bool, List, None, Some, [], codes, false, if◌then◌else◌, true, ℕ, ◌&&◌, ◌++◌, ◌==◌, ◌||◌}
use Rattle.yaml_recognizers.specs.Prelude.{line_break, space, white, FlowEmptyLine, Line, flow_empties_text, Break, break_text, indents}
use Rattle.yaml_recognizers.specs.{Prelude.{list_all, begins, first, no_marker, spaces, backslash}, Comments.read_break, Reading.{Read, on}}
use Rattle.yaml_recognizers.specs.{Repeated.all_of, Prefixes.{drop_while, past, take_while}}

-- a line without what it holds: perhaps a backslash, or whitespace; a break, empty lines, and the whitespace at the
-- start of the line
pub record Join : Type 0 where
  pub escaped : Bool
  pub blank : List ℕ
  pub stop : Break
  pub empties : List FlowEmptyLine
  pub lead : List ℕ

-- the join of a line
abbrev pub join_of : {A : Type 0} → Line A → Join
join_of l = record { escaped = l.escaped; blank = l.blank; stop = l.stop; empties = l.empties; lead = l.lead }

-- a line with this join
abbrev pub line_of : {A : Type 0} → Join → List A → Line A
line_of j held = record {
  escaped = j.escaped;
  blank = j.blank;
  stop = j.stop;
  empties = j.empties;
  lead = j.lead;
  held = held;
}

-- what it spells up to its empty lines
abbrev pub prefix_text : Join → List ℕ
prefix_text j = j.blank ++ (if j.escaped then codes "\\" else []) ++ break_text j.stop

-- what it spells, and the rest
abbrev pub join_text_then : Join → List ℕ → List ℕ
join_text_then j after = prefix_text j ++ (flow_empties_text j.empties ++ (j.lead ++ after))

-- whitespace, and a break after it
abbrev pub at_break : List ℕ → Bool
at_break text = first line_break (drop_while white text)

-- [70] l-empty, 6.4
unfoldable pub read_empty : ℕ → List ℕ → Read FlowEmptyLine
read_empty n text =
    let blank = take_while white text in
    if begins (spaces n) blank || list_all space blank
    then on (read_break (drop_while white text)) (λ stop rest. Some (record { blank = blank; stop = stop }, rest))
    else None

-- after the empty lines: the start of the next line
abbrev pub with_lead : Bool → ℕ → List ℕ → Break → List FlowEmptyLine × List ℕ → Read Join
with_lead escaped n blank stop empties =
    let lead = take_while white empties.1 in
    if indents n lead && no_marker true empties.1
    then Some (
      record {
        escaped = escaped;
        blank = blank;
        stop = stop;
        empties = empties.0;
        lead = lead;
      },
      drop_while white empties.1,
    ) else None

-- the join, from the break on
unfoldable pub after_blank : Bool → ℕ → List ℕ → List ℕ → Read Join
after_blank escaped n blank text =
    on (read_break text) (λ stop rest. with_lead escaped n blank stop (all_of (read_empty n) rest))

-- [74] s-flow-folded, 6.5, and [112] s-double-escaped, 7.3.1: a backslash joins lines if escapes says so
unfoldable pub read_join : Bool → ℕ → List ℕ → Read Join
read_join escapes n text =
    if escapes && first (λ x. x == backslash) text then after_blank true n [] (past text)
    else after_blank false n (take_while white text) (drop_while white text)
