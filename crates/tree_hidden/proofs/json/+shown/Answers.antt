use Rattle.std.proofs.Common.{◌++◌, [], codes, subst, refl, sym, ap, ◌∙◌, arith}
use Rattle.tree_hidden.proofs.Prelude.{chars, chars-IsAscii, chars-literal, drop_all, drop_item, on_ok_weaker, json_member, tree_of}
use Rattle.tree_hidden.proofs.{Prelude.{elements_of, members_of, tree_of-Map}, ShownLemmas.{ascii-text, shown-mapping}}
use Rattle.tree_hidden.specs.{Hidden.{below, shown_elements, shown_json, shown_members}, Tokens.paths_of}
use Rattle.tree_hidden.proofs.json.+shown.Goals as goal

-- ---- sequences

pub write_array-loop-index-init : goal.write_array-loop-index-init
write_array-loop-index-init g t c =
    record { text = ascii-text [] refl; ascii = chars-literal [] refl; left = λ end left. left }

pub write_array-put_text-requires-text-text : goal.write_array-put_text-requires-text-text
write_array-put_text-requires-text-text g t c = λ lifetimes within. c.loop-index.invariant.text

pub write_array-loop-index-preserved : goal.write_array-loop-index-preserved
write_array-loop-index-preserved g t c =
    let l = c.loop-index in
    let inv = l.invariant in
    let both = g.met.S.Sink.takes_both in
    let paths = paths_of c.args.paths.now in
    let here = drop_item c.args.items.now l.index c.index-items-index.result c.loop-index-test.true c.index-items-index.is in
    let led = subst (λ cs. g.S.Sink.Takes l.sink cs c.put_text.new.self) inv.ascii c.in_ok-put_text.ensures in
    let taken = both _ _ _ _ _ led c.in_ok-write_element.ensures in
    record {
      text = ascii-text (codes ",") refl;
      ascii = chars-literal (codes ",") refl;
      left = λ end left.
          inv.left end (subst (λ ts. g.S.Sink.Takes l.sink (shown_elements paths l.lead.now l.index (elements_of ts)) end) (sym here)
          (both _ _ _ _ _ taken left));
    }

pub write_array-returns : goal.write_array-returns
write_array-returns g t c =
    let l = c.loop-index in
    let both = g.met.S.Sink.takes_both in
    let paths = paths_of c.args.paths.now in
    let none = drop_all l.index c.args.items.now (omega arith) in
    let all = l.invariant.left l.sink
    (subst (λ ts. g.S.Sink.Takes l.sink (shown_elements paths l.lead.now l.index (elements_of ts)) l.sink) (sym none)
    (g.met.S.Sink.takes_none l.sink)) in
    on_ok_weaker c.put_char-2.result (both _ _ _ _ _ (both _ _ _ _ _ c.in_ok-put_char.ensures all)) c.put_char-2.ensures

pub write_element-returns : goal.write_element-returns
write_element-returns g t c =
    let digits = chars-IsAscii c.format.result.now c.format.ensures.ascii ∙ c.format.ensures.text in
    let paths = ap paths_of c.deref.ensures.value ∙ c.in_ok-left.ensures
    ∙ ap (λ token. below token (paths_of c.args.paths.now)) digits in
    on_ok_weaker c.write_value.result
    (subst (λ ps. g.S.Sink.Takes c.args.sink.now (shown_json ps (tree_of c.args.item.now)) c.write_value.new.sink) paths)
    c.write_value.ensures

-- ---- mappings

pub write_object-loop-key-init : goal.write_object-loop-key-init
write_object-loop-key-init g t c =
    record { text = ascii-text [] refl; ascii = chars-literal [] refl; left = λ end left. left }

pub write_object-put_text-requires-text-text : goal.write_object-put_text-requires-text-text
write_object-put_text-requires-text-text g t c = λ lifetimes within. c.loop-key.invariant.text

pub write_object-loop-key-preserved : goal.write_object-loop-key-preserved
write_object-loop-key-preserved g t c =
    let l = c.loop-key in
    let inv = l.invariant in
    let both = g.met.S.Sink.takes_both in
    let paths = paths_of c.args.paths.now in
    let pair = c.loop-key-item.result in
    let here = drop_item c.args.pairs.now l.key-index pair (omega arith) c.loop-key-item.is in
    let own = ap (λ bytes. json_member (chars bytes) (shown_json (below (chars bytes) paths) (tree_of pair.1))) c.deref.ensures in
    let led = subst (λ cs. g.S.Sink.Takes l.sink cs c.put_text.new.self) inv.ascii c.in_ok-put_text.ensures in
    let written = subst (λ cs. g.S.Sink.Takes c.put_text.new.self cs c.write_member.new.sink) own c.in_ok-write_member.ensures in
    let taken = both _ _ _ _ _ led written in
    record {
      text = ascii-text (codes ",") refl;
      ascii = chars-literal (codes ",") refl;
      left = λ end left.
          inv.left end (subst (λ ms. g.S.Sink.Takes l.sink (shown_members paths l.lead.now (members_of ms)) end) (sym here)
          (both _ _ _ _ _ taken left));
    }

pub write_object-returns : goal.write_object-returns
write_object-returns g t c =
    let l = c.loop-key in
    let both = g.met.S.Sink.takes_both in
    let paths = paths_of c.args.paths.now in
    let none = drop_all l.key-index c.args.pairs.now (omega arith) in
    let all = l.invariant.left l.sink
    (subst (λ ms. g.S.Sink.Takes l.sink (shown_members paths l.lead.now (members_of ms)) l.sink) (sym none)
    (g.met.S.Sink.takes_none l.sink)) in
    on_ok_weaker c.put_char-2.result (both _ _ _ _ _ (both _ _ _ _ _ c.in_ok-put_char.ensures all)) c.put_char-2.ensures

pub write_member-returns : goal.write_member-returns
write_member-returns g t c =
    let both = g.met.S.Sink.takes_both in
    let paths = ap paths_of c.deref.ensures.value ∙ c.in_ok-left.ensures in
    let start = c.put_char.new.self in
    let key = both _ _ _ _ _ c.in_ok-write_json_string.ensures c.in_ok-put_char.ensures in
    on_ok_weaker c.write_value.result
    (λ written. both _ _ _ _ _ key
    (subst (λ ps. g.S.Sink.Takes start (shown_json ps (tree_of c.args.value.now)) c.write_value.new.sink) paths written))
    c.write_value.ensures

-- ---- a value

pub write_value-returns-in-Map : goal.write_value-returns-in-Map
write_value-returns-in-Map g t c =
    let paths = paths_of c.args.paths.now in
    let seen = ap tree_of c.in-Map.is ∙ tree_of-Map c.in-Map.pairs in
    let visible = sym c.hides_whole.ensures ∙ c.if-hides_whole.false in
    on_ok_weaker c.write_object.result
    (subst (λ cs. g.S.Sink.Takes c.args.sink.now cs c.write_object.new.sink)
    (ap (λ pairs. codes "{" ++ shown_members paths [] (members_of pairs) ++ codes "}") c.deref-in-Map.ensures.value
    ∙ shown-mapping paths _ visible ∙ sym (ap (shown_json paths) seen)))
    c.write_object.ensures
