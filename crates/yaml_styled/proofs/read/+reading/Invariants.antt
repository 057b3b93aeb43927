use Rattle.std.proofs.Common.{◌≡◌, ◌+◌, ◌*◌, ◌≤◌, ◌++◌, List, length}
use Rattle.yaml_styled.proofs.{NameLemmas.Key, RowLemmas.{StartedElements, StartedMembers}}
use Rattle.yaml_styled.proofs.read.+reading.Given as goal

-- the rows so far were read, and the spaces before the next
abbrev pub invariant-read_elements-rows : goal.invariant-read_elements-rows
invariant-read_elements-rows g l =
    let before = g.V.Build.elements l.initial.pending in
    let now = g.V.Build.elements l.pending in
    StartedElements (g.V.Build.MeansElements before now) (l.levels + 1) l.indent
    l.initial.lines.rest.now l.initial.lines.counted l.lines.rest.now l.lines.counted
    × (l.keys.keys.items ≡ l.initial.keys.keys.items)
    × (length before ≤ length now)
    × (g.V.Build.members l.pending ≡ g.V.Build.members l.initial.pending)

-- and their keys stand after those that stood before
abbrev pub invariant-read_members-rows : goal.invariant-read_members-rows
invariant-read_members-rows g l =
    let before = g.V.Build.members l.initial.pending in
    let now = g.V.Build.members l.pending in
    (own : List Key) × (l.keys.keys.items ≡ l.initial.keys.keys.items ++ own)
    × StartedMembers (g.V.Build.MeansMembers before now) own (l.levels + 1) l.indent
    l.initial.lines.rest.now l.initial.lines.counted l.lines.rest.now l.lines.counted
    × (length before ≤ length now)
    × (g.V.Build.elements l.pending ≡ g.V.Build.elements l.initial.pending)

-- rows are a level deeper than what holds them
abbrev pub decreases-read_rows : goal.decreases-read_rows
decreases-read_rows g l = 4 * l.levels

abbrev pub decreases-read_elements : goal.decreases-read_elements
decreases-read_elements g l = 4 * l.levels + 3

abbrev pub decreases-read_members : goal.decreases-read_members
decreases-read_members g l = 4 * l.levels + 3

abbrev pub decreases-read_element : goal.decreases-read_element
decreases-read_element g l = 4 * l.levels + 2

abbrev pub decreases-read_value_lines : goal.decreases-read_value_lines
decreases-read_value_lines g l = 4 * l.levels + 2

abbrev pub decreases-read_below : goal.decreases-read_below
decreases-read_below g l = 4 * l.levels + 1
