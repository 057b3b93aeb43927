use Rattle.std.proofs.Common.{◌≡◌, true, false, ◌∷◌, ◌++◌, [], List, String, Global, length, codes, refl, ap, subst, sym, ◌∙◌, arith}
use Rattle.conf_state.proofs.{Prelude.{on_ok_weaker, chars, mapping, value_at, members_after, tree_of}, LineLemmas.ascii}
use Rattle.{conf_state.specs.{BaseTexts.{members, entry_lines}, Kept.entries_of}, yaml_data.specs.declared.tree.Tree.Tree}
use Rattle.conf_state.proofs.state.State.write_configs.Goals as goal

no_truth : false ≡ true → ⊥
no_truth e = cc

no_entries : (es : List (String Global × Tree)) → length es ≡ 0 → es ≡ []
no_entries [] e = refl
no_entries (e ∷ es) some = absurd (omega arith)

-- after `configs:`, as there are none or some
none_lines : (es : List (String Global × Tree)) → es ≡ [] → codes " {}\n" ≡ value_at (mapping (members (entries_of es))) 0
none_lines es e = ap (λ xs. value_at (mapping (members (entries_of xs))) 0) (sym e)

some_lines : (es : List (String Global × Tree)) → (es ≡ [] → ⊥)
    → codes "\n" ++ members_after (members (entries_of es)) 2 ≡ value_at (mapping (members (entries_of es))) 0
some_lines [] some = absurd (some refl)
some_lines (e ∷ es) some = refl

pub returns-then-is_empty : goal.returns-then-is_empty
returns-then-is_empty g c =
    let es = c.self.inside.configs in
    let none : es ≡ [] = no_entries c.self.inside.configs (c.if-is_empty.ensures.0 refl) in
    on_ok_weaker c.put_text.result
    (subst (λ cs. g.S.Sink.Takes c.args.sink.now cs c.put_text.new.self)
    (ascii (codes " {}\n") refl ∙ none_lines es none ∙ ap (λ s. value_at (mapping (members s.configs)) 0) c.self.view_is))
    c.put_text.ensures

pub loop-name-preserved : goal.loop-name-preserved
loop-name-preserved g c = λ end left.
    let rest = c.next.new.self in
    let name = c.in-Some.name.now in
    let config = c.in-Some.config.now in
    let entry = subst (λ bytes. g.S.Sink.Takes c.loop-name.sink
    (entry_lines (chars bytes) (tree_of config)) c.write_entry.new.sink) c.deref.ensures c.in_ok-write_entry.ensures in
    c.loop-name.invariant end
    (subst (λ es. g.S.Sink.Takes c.loop-name.sink (members_after (members (entries_of es)) 2) end) (sym c.in-Some.ensures.steps)
    (g.met.S.Sink.takes_both _ _ _ _ _ entry left))

pub returns : goal.returns
returns g c =
    let es = c.self.inside.configs in
    let some : es ≡ [] → ⊥ = λ e. no_truth (c.if-is_empty.ensures.1 (ap length e)) in
    let ends = c.loop-name.invariant c.loop-name.sink
    (subst (λ xs. g.S.Sink.Takes c.loop-name.sink (members_after (members (entries_of xs)) 2) c.loop-name.sink)
    (sym c.in-None.ensures.steps.0)
    (g.met.S.Sink.takes_none c.loop-name.sink)) in
    subst (λ s. g.S.Sink.Takes c.args.sink.now (value_at (mapping (members s.configs)) 0) c.loop-name.sink) c.self.view_is
    (subst (λ cs. g.S.Sink.Takes c.args.sink.now cs c.loop-name.sink) (some_lines es some)
    (g.met.S.Sink.takes_both _ _ _ _ _ c.in_ok-put_char.ensures
    (subst (λ s. g.S.Sink.Takes c.put_char.new.self (members_after (members s.configs) 2) c.loop-name.sink) (sym c.self.view_is) ends)))
