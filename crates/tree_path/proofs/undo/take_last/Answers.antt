use Rattle.std.proofs.Common.{Ok, ap, ◌∙◌, sym, rules}
use Rattle.tree_path.proofs.Prelude.{sequence, mapping, tree_of, elements_of, members_of, the_lemmas, tree_of-Text, tree_of-Seq}
use Rattle.tree_path.proofs.{Prelude.tree_of-Map, UndoLemmas.{no-text-put, take-last-Seq, take-last-Map}}
use Rattle.tree_path.proofs.undo.take_last.Goals as goal

pub returns-in-Text : goal.returns-in-Text
returns-in-Text c = λ before is.
    absurd (no-text-put before is.0 is.1 _ (is.3 ∙ ap Ok (ap tree_of c.in-Text.is ∙ tree_of-Text _)))

pub returns-in-Seq : goal.returns-in-Seq
returns-in-Seq c = λ before is.
    let seen = ap tree_of c.in-Seq.is ∙ tree_of-Seq c.in-Seq.items ∙ ap (λ w. sequence (elements_of w.items)) (sym c.in-Seq.items-is) in
    let done = tree_of-Seq c.drop_last.new.list ∙ ap (λ xs. sequence (elements_of xs)) c.drop_last.ensures
    ∙ take-last-Seq _ before is.0 is.1 is.2 (is.3 ∙ ap Ok seen) in
    search (rules, the_lemmas, done)

pub returns-in-Map : goal.returns-in-Map
returns-in-Map c = λ before is.
    let seen = ap tree_of c.in-Map.is ∙ tree_of-Map c.in-Map.pairs ∙ ap (λ w. mapping (members_of w.items)) (sym c.in-Map.pairs-is) in
    let done = tree_of-Map c.drop_last-in-Map.new.list ∙ ap (λ xs. mapping (members_of xs)) c.drop_last-in-Map.ensures
    ∙ take-last-Map _ before is.0 is.1 is.2 (is.3 ∙ ap Ok seen) in
    search (rules, the_lemmas, done)
