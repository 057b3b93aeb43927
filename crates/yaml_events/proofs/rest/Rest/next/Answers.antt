use Rattle.std.proofs.{Common.{◌≡◌, ◌+◌, ◌≤◌, ◌∷◌, drop, length, ap, sym, subst, ◌∙◌}, Math.ListN.drop_of_length-le, lemmas.List.drop_more}
use Rattle.yaml_events.proofs.rest.Rest.next.Goals as goal

-- no value is left
pub returns-in_default : goal.returns-in_default
returns-in_default g c =
    let rest = c.self.inside in
    let ended : length rest.items.items ≤ rest.taken =
    subst (λ l. length l ≤ rest.taken) c.deref.ensures.value c.in_default.ensures.lookup.3 in
    let none = sym c.self.view_is ∙ drop_of_length-le rest.items.items ended in
    (none, none)

-- the first value that is left
pub returns : goal.returns
returns g c =
    let rest = c.self.inside in
    let value = c.in-Some.value.now in
    let found = c.in-Some.ensures.lookup in
    let left = drop_more c.deref.result.now rest.taken value found.3.0 in
    let first = left ∙ ap (λ v. v ∷ drop (rest.taken + 1) c.deref.result.now) (sym found.1) in
    sym c.self.view_is ∙ subst (λ l. drop rest.taken l ≡ value ∷ drop (rest.taken + 1) l) c.deref.ensures.value first
