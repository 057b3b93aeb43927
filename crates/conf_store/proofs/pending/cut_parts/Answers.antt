use Rattle.std.proofs.Common.{length, sym, ◌∙◌, subst, arith}
use Rattle.conf_store.{specs.{Parts.{AreWithin, joined, texts}, Staged.slice_limit}, proofs.PendingLemmas.{loop-same, none-left}}
use Rattle.conf_store.proofs.pending.cut_parts.Goals as goal

pub parts-preserved : goal.parts-preserved
parts-preserved c =
    let configs = c.args.state.now.configs in
    let old = c.parts.cutting in
    let mid = c.load_next.new.cutting in
    let new = c.cut_more-in-parts.new.self in
    let short = c.is_full.ensures.short c.parts-test.true in
    let none = none-left (length old.slice) slice_limit old.rest short c.parts.invariant.far in
    record {
      same = loop-same old.slice old.rest mid.slice mid.rest new.slice new.rest
          (joined (texts configs c.load_next.new.self)) (joined (texts configs c.parts.pending))
          none c.load_next.ensures.slice c.load_next.ensures.same c.cut_more-in-parts.ensures.same ∙ c.parts.invariant.same;
      ready = (let before = c.parts.invariant.ready in let loaded = c.load_next.ensures.slice_room in
          let cut = c.cut_more-in-parts.ensures.slice_room in omega (arith, before, loaded, cut));
      within = subst (λ n. AreWithin n (texts configs c.load_next.new.self))
          (sym c.cut_more-in-parts.ensures.part_room) c.load_next.ensures.within;
      short = c.cut_more-in-parts.ensures.short;
      far = c.cut_more-in-parts.ensures.far;
    }
