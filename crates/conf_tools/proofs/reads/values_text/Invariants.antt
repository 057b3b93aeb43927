-- Whatever follows, it is all with the values so far before it; and a value that is left and can't be shown is one of all.
use Rattle.std.proofs.Common.{ℕ, List, ◌++◌, drop}
use Rattle.conf_tools.{proofs.Prelude.chars, specs.Reads.{LacksOne, ShowsAll, pointers_of, tree_found, value_or_in}}
use Rattle.conf_tools.specs.declared.reading_fault.ReadingFault.{ReadingFault}
use Rattle.conf_tools.proofs.reads.values_text.Given as goal

abbrev pub invariant-loop-pointer : goal.invariant-loop-pointer
invariant-loop-pointer l =
    let value_at = value_or_in l.missing (tree_found l.found) (chars l.name) in
    let left = pointers_of (drop l.pointer-index l.pointers) in
    let all = pointers_of l.pointers in
    ((others : List ℕ) → ShowsAll value_at l.form left others → ShowsAll value_at l.form all (l.text.items ++ others))
    × ((fault : ReadingFault) → LacksOne value_at l.form left fault → LacksOne value_at l.form all fault)
