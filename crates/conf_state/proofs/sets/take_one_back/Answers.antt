use Rattle.std.proofs.Common.{Some, sym, ap, ◌∙◌}
use Rattle.conf_state.proofs.{Prelude.tree_of, SetLemmas.{there-named, none-named, is-put, made-there, made-missing}}
use Rattle.conf_state.specs.{Commands.text_of, Kept.entries_of, States.put_config}
use Rattle.conf_state.proofs.sets.take_one_back.Goals as goal

pub undo-requires : goal.undo-requires
undo-requires c =
    let es = c.args.configs.now in
    let there = there-named es c.requires.plain c.args.made.name c.deref.result.now c.deref.ensures
    c.get_mut.result c.get_mut.ensures.value c.in-Some.config c.in-Some.is in
    let is = c.requires.made in
    (is.1.old, made-there c.args.made is.0 (entries_of es) is.1 (tree_of c.in-Some.config.now) there)

pub returns-in-Some-clause-same : goal.returns-in-Some-clause-same
returns-in-Some-clause-same c = λ before is.
    let es = c.args.configs.now in
    let t = c.undo.new.self in
    let there = there-named es c.requires.plain c.args.made.name c.deref.result.now c.deref.ensures
    c.get_mut.result c.get_mut.ensures.value c.in-Some.config c.in-Some.is in
    let put = is-put es c.requires.plain c.args.made.name c.deref.result.now c.deref.ensures
    c.get_mut.result c.get_mut.ensures.value c.in-Some.config c.in-Some.is (c.get_mut.follows.lender t) t (c.get_mut.follows.holds t) in
    let undone = c.undo.ensures is.old (made-there c.args.made before (entries_of es) is (tree_of c.in-Some.config.now) there) in
    put.entries ∙ ap (put_config (entries_of es) (text_of c.args.made.name)) undone ∙ is.back

pub returns-in-Some-clause-plain : goal.returns-in-Some-clause-plain
returns-in-Some-clause-plain c =
    let es = c.args.configs.now in
    let t = c.undo.new.self in
    (is-put es c.requires.plain c.args.made.name c.deref.result.now c.deref.ensures
    c.get_mut.result c.get_mut.ensures.value c.in-Some.config c.in-Some.is (c.get_mut.follows.lender t) t (c.get_mut.follows.holds t)).plain

pub returns-in_default-clause-same : goal.returns-in_default-clause-same
returns-in_default-clause-same c = λ before is.
    let es = c.args.configs.now in
    absurd (made-missing c.args.made before (entries_of es) is
    (none-named es c.requires.plain c.args.made.name c.deref.result.now c.deref.ensures
    c.get_mut.result c.get_mut.ensures.value c.in_default.is))
