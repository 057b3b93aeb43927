use Rattle.std.proofs.Common.{◌≡◌, map}
use Rattle.conf_state.{proofs.Prelude.into_iter_items, specs.{Commands.edit_of, Drafts.{drafted, IsDraftOf}, Steps.all_edited}}
use Rattle.conf_state.proofs.drafting.draft_edits.Given as goal

-- the edits that are left make of the draft what all make of the one at first
abbrev pub invariant-loop-edit : goal.invariant-loop-edit
invariant-loop-edit g l =
    IsDraftOf (g.O.Origin.configs l.origin) l.draft
    × (all_edited (drafted (g.O.Origin.configs l.origin) l.draft) (map edit_of (into_iter_items l.edit-iterator))
    ≡ all_edited (drafted (g.O.Origin.configs l.origin) l.fn.draft) (map edit_of l.fn.edits.items))
