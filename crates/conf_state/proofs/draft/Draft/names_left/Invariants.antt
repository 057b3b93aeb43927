use Rattle.std.proofs.Common.{◌≡◌, ◌++◌, map, length}
use Rattle.conf_state.{proofs.{Prelude.{into_iter_items, into_iter_len}, ListedNames.outside}, specs.{Commands.text_of, Drafts.cut_all}}
use Rattle.conf_state.specs.{Drafts.texts_of, States.names_of}
use Rattle.conf_state.proofs.draft.Draft.names_left.Given as goal

-- the names so far, and then those among the others that are not removed, are all that are not removed
abbrev pub invariant-loop-name : goal.invariant-loop-name
invariant-loop-name g l =
    (map text_of l.left.items ++ outside (texts_of l.self.removed.keys) (map text_of (into_iter_items l.name-iterator))
    ≡ names_of (cut_all (g.O.Origin.configs l.origin) (texts_of l.self.removed.keys)))
    × (length (into_iter_items l.name-iterator) ≡ into_iter_len l.name-iterator)
