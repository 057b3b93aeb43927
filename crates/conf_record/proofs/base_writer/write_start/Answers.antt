use Rattle.std.proofs.Common.{◌≡◌, [], ◌∷◌, List, ℕ, codes, refl, sym, subst, ◌∙◌}
use Rattle.conf_record.{proofs.Prelude.{on_ok_weaker, Entry, names_of, ascii}, specs.BaseStart.{base_head, configs_start}}
use Rattle.conf_record.proofs.base_writer.write_start.Goals as goal

some_start : (es : List Entry) (name : List ℕ) (rest : List (List ℕ)) → names_of es ≡ name ∷ rest → codes "\n" ≡ configs_start es
some_start [] name rest e = cc
some_start (e ∷ es) name rest is = refl

none_start : (es : List Entry) → names_of es ≡ [] → codes " {}\n" ≡ configs_start es
none_start [] e = refl
none_start (e ∷ es) is = cc

pub returns-in-Some : goal.returns-in-Some
returns-in-Some g c =
    let end = c.put_text.new.self in
    let head = subst (λ n. g.S.Sink.Takes c.args.sink.now (base_head c.args.format n) c.write_head.new.sink)
    c.count.ensures.count c.in_ok-write_head.ensures in
    let first = ascii (codes "\n") refl ∙ some_start c.args.state.now.configs _ _ (sym c.names.ensures ∙ c.in-Some.ensures.steps) in
    on_ok_weaker c.put_text.result
    (λ written. g.met.S.Sink.takes_both _ _ _ _ _ head (subst (λ cs. g.S.Sink.Takes c.write_head.new.sink cs end) first written))
    c.put_text.ensures

pub returns-in-None : goal.returns-in-None
returns-in-None g c =
    let end = c.put_text-in-None.new.self in
    let head = subst (λ n. g.S.Sink.Takes c.args.sink.now (base_head c.args.format n) c.write_head.new.sink)
    c.count.ensures.count c.in_ok-write_head.ensures in
    let none = ascii (codes " {}\n") refl ∙ none_start c.args.state.now.configs (sym c.names.ensures ∙ c.in-None.ensures.steps.0) in
    on_ok_weaker c.put_text-in-None.result
    (λ written. g.met.S.Sink.takes_both _ _ _ _ _ head (subst (λ cs. g.S.Sink.Takes c.write_head.new.sink cs end) none written))
    c.put_text-in-None.ensures
