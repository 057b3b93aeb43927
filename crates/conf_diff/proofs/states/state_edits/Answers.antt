use Rattle.std.proofs.Common.{◌≡◌, ◌≤◌, ◌+◌, ◌*◌, ◌++◌, List, [], Ok, length, map, sym, ap, subst, ◌∙◌}
use Rattle.conf_diff.proofs.{Prelude.{Contents, Edit, IsState, edit_of, names_of}, Joined.AreFree-none, Limits.all-limited, Named.found-all}
use Rattle.conf_diff.proofs.{Named.named_edits-entries, Lengths.entry_edits-short, Performing.{entry_edits-made, entry_edits-same}}
use Rattle.conf_diff.{proofs.Performing.no_edits, specs.{EditTexts.lines_length, Freely.all_freely_edited, NamedEdits.named_edits}}
use Rattle.conf_diff.specs.{NamedEdits.{names_left, new_named}, StateEdits.{entry_edits, few_bytes, whole_entry_edits}}
use Rattle.conf_diff.specs.declared.left.Left.{Left}
use Rattle.conf_state.specs.declared.command.Edit as code
use Rattle.conf_diff.proofs.states.state_edits.Goals as goal

-- the edits of the names that stay or go, and of those that are left after them, are all edits
all_are : (first second : Contents) → IsState first → IsState second → (none stayed all : List code.Edit) (start left : Left)
    → map edit_of none ≡ [] → names_left start ≡ names_of second.configs
    → map edit_of stayed ++ new_named second.configs (names_left left)
    ≡ map edit_of none ++ named_edits first.configs second.configs (names_of first.configs) (names_left start)
    → map edit_of all ≡ map edit_of stayed ++ new_named second.configs (names_left left)
    → map edit_of all ≡ entry_edits first.configs second.configs
all_are first second one other none stayed all start left empty names before after =
    after ∙ before
    ∙ ap (λ es. es ++ named_edits first.configs second.configs (names_of first.configs) (names_left start)) empty
    ∙ ap (named_edits first.configs second.configs (names_of first.configs)) names
    ∙ named_edits-entries first.configs second.configs first.configs second.configs
    (found-all first.configs one.distinct) (found-all second.configs other.distinct)

edits_made : (first second : Contents) → IsState first → IsState second → (edits : List Edit)
    → edits ≡ entry_edits first.configs second.configs → all_freely_edited first.configs edits ≡ Ok second.configs
edits_made first second one other edits are =
    ap (all_freely_edited first.configs) are
    ∙ entry_edits-made first.configs [] second.configs (AreFree-none first.configs) (AreFree-none second.configs)
    one.distinct other.distinct one.configs other.configs

pub returns-clause-edits : goal.returns-clause-edits
returns-clause-edits c =
    all_are c.args.first.now c.args.second.now c.keep_limits.ensures c.keep_limits-2.ensures c.new-edits.result.items
    c.append_stayed.new.edits.items c.append_new.new.edits.items c.of-left.result c.append_stayed.new.left
    (ap (map edit_of) c.new-edits.ensures.items) c.of-left.ensures c.in_ok-append_stayed.ensures c.in_ok-append_new.ensures

pub returns-clause-edits_make_the_second : goal.returns-clause-edits_make_the_second
returns-clause-edits_make_the_second c =
    edits_made c.args.first.now c.args.second.now c.keep_limits.ensures c.keep_limits-2.ensures
    (map edit_of c.append_new.new.edits.items) (returns-clause-edits c)

pub returns-clause-only_limits_refuse : goal.returns-clause-only_limits_refuse
returns-clause-only_limits_refuse c =
    all-limited (map edit_of c.append_new.new.edits.items) c.args.first.now.configs c.args.second.now.configs
    (returns-clause-edits_make_the_second c)

pub returns-clause-equal_states_do_not_differ : goal.returns-clause-equal_states_do_not_differ
returns-clause-equal_states_do_not_differ c = λ same.
    no_edits c.append_new.new.edits.items
    (returns-clause-edits c ∙ ap (entry_edits c.args.first.now.configs) (sym same) ∙ entry_edits-same c.args.first.now.configs)

pub returns-clause-no_longer_than_the_whole : goal.returns-clause-no_longer_than_the_whole
returns-clause-no_longer_than_the_whole c =
    let first = c.args.first.now.configs in
    let second = c.args.second.now.configs in
    subst (λ edits. lines_length edits ≤ lines_length (whole_entry_edits first second) + few_bytes * length first)
    (sym (returns-clause-edits c)) (entry_edits-short first second)
