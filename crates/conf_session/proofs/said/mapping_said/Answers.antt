-- The last pair is cut off, and the others are the command.
use Rattle.std.{proofs.Common.{◌≡◌, sym, ap, ◌∙◌}, specs.Prelude.{true, None, is_some}}
use Rattle.conf_session.proofs.{Prelude.{IfOk-weaker, tree_of, members_of, about-None}, SaidLemmas.{said-without, said-cut, kept-cut}}
use Rattle.conf_session.{proofs.SaidLemmas.none-there, specs.Said.{last_about, about_said, command_said, said_of, with_about}}
use Rattle.conf_session.proofs.said.mapping_said.Goals as goal

pub returns-then-not-ends_with_about : goal.returns-then-not-ends_with_about
returns-then-not-ends_with_about c =
    let ms = members_of c.args.pairs.items in
    let none : last_about ms ≡ None = none-there (last_about ms)
    (ap (λ ps. is_some (last_about (members_of ps))) (sym c.deref.ensures.value) ∙ sym c.ends_with_about.ensures
    ∙ c.if-not-ends_with_about.true) in
    IfOk-weaker c.command_said.result _ _ (λ said e. e ∙ sym (said-without ms none)) c.command_said.ensures

pub command_said-requires-in-Ok : goal.command_said-requires-in-Ok
command_said-requires-in-Ok c =
    kept-cut c.args.pairs.items c.pop.new.self.items (c.in-Some.field-0-0, c.in-Some.tree) c.in-Some.ensures.items c.requires

pub returns-in_ok-said-in-Ok : goal.returns-in_ok-said-in-Ok
returns-in_ok-said-in-Ok c =
    let t = tree_of c.in-Some.tree in
    let ms = members_of c.pop.new.self.items in
    let some : is_some (last_about (members_of c.args.pairs.items)) ≡ true =
    ap (λ ps. is_some (last_about (members_of ps))) (sym c.deref.ensures.value) ∙ sym c.ends_with_about.ensures
    ∙ c.if-not-ends_with_about.false in
    let whole = said-cut c.args.pairs.items c.pop.new.self.items (c.in-Some.field-0-0, c.in-Some.tree) c.in-Some.ensures.items some in
    let none = about-None t c.in-Ok.ensures.ok.1 in
    c.with_about.ensures ∙ ap (λ a. with_about (tree_of a) (said_of c.in_ok-said-in-Ok.said)) c.in-Ok.ensures.ok.0
    ∙ ap (with_about t) c.in_ok-said-in-Ok.ensures
    ∙ sym (whole ∙ ap (λ o. about_said o t (command_said ms)) none)

pub returns-in-Err : goal.returns-in-Err
returns-in-Err c =
    let t = tree_of c.in-Some.tree in
    let ms = members_of c.pop.new.self.items in
    let some : is_some (last_about (members_of c.args.pairs.items)) ≡ true =
    ap (λ ps. is_some (last_about (members_of ps))) (sym c.deref.ensures.value) ∙ sym c.ends_with_about.ensures
    ∙ c.if-not-ends_with_about.false in
    let whole = said-cut c.args.pairs.items c.pop.new.self.items (c.in-Some.field-0-0, c.in-Some.tree) c.in-Some.ensures.items some in
    c.fault_said.ensures ∙ sym (whole ∙ ap (λ o. about_said o t (command_said ms)) c.in-Err.ensures.refused.1)
