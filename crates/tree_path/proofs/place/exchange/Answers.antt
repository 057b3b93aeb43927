use Rattle.std.proofs.Common.{rules, ◌≡◌, Ok, sym, ap, ◌∙◌}
use Rattle.tree_path.proofs.Prelude.{sequence, mapping, tree_of, elements_of, members_of, the_lemmas, tree_of-Text, tree_of-Seq}
use Rattle.tree_path.{proofs.{Prelude.tree_of-Map, Ways.no-place}, specs.{Paths.{child, put}, Steps.step_place}}
use Rattle.tree_path.proofs.place.exchange.Goals as goal

pub unreachable-requires : goal.unreachable-requires
unreachable-requires c =
    no-place _ c.requires.0 c.args.place (sym (ap (λ t. step_place t c.requires.0)
    (ap tree_of c.in-Text.is ∙ tree_of-Text _)) ∙ c.requires.1)

pub exchange_element-requires : goal.exchange_element-requires
exchange_element-requires c =
    let seen = ap tree_of c.in-Seq.is ∙ tree_of-Seq c.in-Seq.items ∙ ap (λ w. sequence (elements_of w.items)) (sym c.in-Seq.items-is) in
    (c.requires.0, sym (ap (λ t. step_place t c.requires.0) seen) ∙ c.requires.1)

pub exchange_value-requires : goal.exchange_value-requires
exchange_value-requires c =
    let seen = ap tree_of c.in-Map.is ∙ tree_of-Map c.in-Map.pairs ∙ ap (λ w. mapping (members_of w.items)) (sym c.in-Map.pairs-is) in
    (c.requires.0, sym (ap (λ t. step_place t c.requires.0) seen) ∙ c.requires.1)

pub returns-in-Seq-clause-taken : goal.returns-in-Seq-clause-taken
returns-in-Seq-clause-taken c = λ token is.
    let seen = ap tree_of c.in-Seq.is ∙ tree_of-Seq c.in-Seq.items ∙ ap (λ w. sequence (elements_of w.items)) (sym c.in-Seq.items-is) in
    ap (λ t. child t token) seen ∙ c.exchange_element.ensures.taken token (sym (ap (λ t. step_place t token) seen) ∙ is)

pub returns-in-Seq-clause-put_there : goal.returns-in-Seq-clause-put_there
returns-in-Seq-clause-put_there c = λ token is.
    let seen = ap tree_of c.in-Seq.is ∙ tree_of-Seq c.in-Seq.items ∙ ap (λ w. sequence (elements_of w.items)) (sym c.in-Seq.items-is) in
    let done : put (tree_of c.args.tree.now) token (tree_of c.args.other.now)
    ≡ Ok (sequence (elements_of c.exchange_element.new.items.items)) =
    ap (λ t. put t token (tree_of c.args.other.now)) seen
    ∙ c.exchange_element.ensures.put_there token (sym (ap (λ t. step_place t token) seen) ∙ is) in
    search (rules, the_lemmas, done)

pub returns-in-Map-clause-taken : goal.returns-in-Map-clause-taken
returns-in-Map-clause-taken c = λ token is.
    let seen = ap tree_of c.in-Map.is ∙ tree_of-Map c.in-Map.pairs ∙ ap (λ w. mapping (members_of w.items)) (sym c.in-Map.pairs-is) in
    ap (λ t. child t token) seen ∙ c.exchange_value.ensures.taken token (sym (ap (λ t. step_place t token) seen) ∙ is)

pub returns-in-Map-clause-put_there : goal.returns-in-Map-clause-put_there
returns-in-Map-clause-put_there c = λ token is.
    let seen = ap tree_of c.in-Map.is ∙ tree_of-Map c.in-Map.pairs ∙ ap (λ w. mapping (members_of w.items)) (sym c.in-Map.pairs-is) in
    let done : put (tree_of c.args.tree.now) token (tree_of c.args.other.now) ≡ Ok (mapping (members_of c.exchange_value.new.pairs.items)) =
    ap (λ t. put t token (tree_of c.args.other.now)) seen
    ∙ c.exchange_value.ensures.put_there token (sym (ap (λ t. step_place t token) seen) ∙ is) in
    search (rules, the_lemmas, done)
