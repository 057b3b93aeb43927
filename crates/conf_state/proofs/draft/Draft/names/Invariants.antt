use Rattle.std.proofs.Common.{◌≡◌, ◌++◌, map}
use Rattle.conf_state.specs.{Commands.text_of, Drafts.{cut_all, drafted, texts_of}, Kept.entries_of, States.names_of}
use Rattle.conf_state.proofs.ListedNames.{outside}
use Rattle.conf_state.proofs.draft.Draft.names.Given as goal

-- the names so far, and then the new ones among those that are left, are all names
abbrev pub invariant-loop-name : goal.invariant-loop-name
invariant-loop-name g l =
    let es = g.O.Origin.configs l.origin in
    map text_of l.names.items
    ++ outside (names_of (cut_all es (texts_of l.self.removed.keys))) (names_of (entries_of l.name-iterator))
    ≡ names_of (drafted es l.self)
