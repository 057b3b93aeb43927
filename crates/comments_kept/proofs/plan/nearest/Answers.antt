use Rattle.std.{proofs.Common.{◌≡◌, ◌+◌, ◌-◌, ℕ, suc, zero, List, sym, ap, ◌∙◌, arith, length}, specs.Prelude.{Option, Some}}
use Rattle.comments_kept.specs.{Lines.held, Places.{holders, better, with_outer}, declared.rows.Collection.Collection}
use Rattle.comments_kept.specs.Places as place
use Rattle.comments_kept.proofs.plan.nearest.Goals as goal

-- one more collection
walked : (column n m : ℕ) (best : Option Collection) (cs : List Collection) (next : Option ℕ) (here : Collection) → n ≡ m + 1
    → Some here ≡ held cs next
    → place.nearest column (better column here best) (holders m cs here.outer) ≡ place.nearest column best (holders n cs next)
walked column zero m best cs next here e is = absurd (omega arith)
walked column (suc n) m best cs next here e is =
    let same : n ≡ m = omega arith in
    ap (λ o. place.nearest column best (with_outer o (holders m cs))) is
    ∙ ap (λ k. place.nearest column best (with_outer (held cs next) (holders k cs))) (sym same)

pub loop-walked-preserved : goal.loop-walked-preserved
loop-walked-preserved c =
    let l = c.loop-walked in
    let cs = c.args.collections.now in
    let here = c.in-Some.here in
    let n = length cs - (l._walked + 1) in
    ap (λ best. place.nearest c.args.column best (holders n cs here.outer)) c.better-best.ensures
    ∙ walked c.args.column (length cs - l._walked) n l.best cs l.next here (omega (arith, c.loop-walked-test.true)) c.in-Some.ensures
    ∙ l.invariant
