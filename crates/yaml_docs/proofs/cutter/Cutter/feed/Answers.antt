use Rattle.std.proofs.Common.{◌≡◌, ℕ, List, length, sym, ◌∙◌, ap, subst, arith, refl}
use Rattle.yaml_docs.specs.Cutting.{Held, Unclosed, Takes, Feeds, Overfeeds}
use Rattle.yaml_docs.proofs.cutter.Cutter.feed.Goals as goal

pub first_closing-fed-requires : goal.first_closing-fed-requires
first_closing-fed-requires c =
    subst Unclosed (sym c.deref.ensures.value) (subst (λ (h : Held). Unclosed h.bytes) (sym c.self.view_is) c.requires)

pub returns-then-fed-self-clause-too_long : goal.returns-then-fed-self-clause-too_long
returns-then-fed-self-clause-too_long c e =
    let bytes : List ℕ = c.args.bytes.now in
    let fed = c.first_closing-fed in
    let long : length c.deref.result.now ≡ c.len.result = c.deref.ensures.len ∙ sym c.len.ensures in
    subst (λ (h : Held). Overfeeds h bytes) c.self.view_is (record {
      taken = fed.result.taken;
      closed = fed.result.closed;
      takes = subst (λ (held : List ℕ). Takes held bytes fed.result.taken fed.result.closed) c.deref.ensures.value fed.ensures.takes;
      long = omega (arith, c.if-fed-self.true, long, ap length c.deref.ensures.value);
    })

pub returns-clause-ok : goal.returns-clause-ok
returns-clause-ok c =
    let bytes : List ℕ = c.args.bytes.now in
    let fed = c.first_closing-fed in
    let old : Held = record { bytes = c.self.inside.held.items; max = c.self.inside.max } in
    let new : Held = record { bytes = c.extend_from_slice.new.self.items; max = c.self.inside.max } in
    subst (λ (h : Held). Feeds h bytes new fed.result) c.self.view_is (record {
      takes = subst (λ (held : List ℕ). Takes held bytes fed.result.taken fed.result.closed) c.deref.ensures.value fed.ensures.takes;
      held = c.in_ok-extend_from_slice.ensures.items;
      max = refl;
    })
