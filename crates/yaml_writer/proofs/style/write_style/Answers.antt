use Rattle.std.proofs.Common.{ap, sym, subst, ◌∙◌, arith}
use Rattle.yaml_writer.proofs.Prelude.{on_ok_weaker, chars, depth, elements_depth, members_depth, scalar_lines, elements_at, members_at}
use Rattle.yaml_writer.proofs.Prelude.{style_text, tree_of, elements_of, members_of, tree_of-Text, tree_of-Seq, tree_of-Map}
use Rattle.yaml_writer.proofs.style.write_style.Goals as goal

pub write_elements-requires : goal.write_elements-requires
write_elements-requires g c =
    let seen = ap depth (ap tree_of c.in-Seq.is ∙ tree_of-Seq c.in-Seq.items) in
    let items = ap (λ xs. elements_depth (elements_of xs)) c.deref-in-Seq.ensures.value in
    record { room = omega (arith, seen, items, c.requires) }

pub write_members-requires : goal.write_members-requires
write_members-requires g c =
    let seen = ap depth (ap tree_of c.in-Map.is ∙ tree_of-Map c.in-Map.pairs) in
    let pairs = ap (λ xs. members_depth (members_of xs)) c.deref-in-Map.ensures.value in
    record { room = omega (arith, seen, pairs, c.requires) }

pub returns-in-Text : goal.returns-in-Text
returns-in-Text g c =
    let text = ap (λ bytes. scalar_lines 2 (chars bytes)) c.deref.ensures in
    let seen = ap style_text (ap tree_of c.in-Text.is ∙ tree_of-Text c.in-Text.text) in
    on_ok_weaker c.write_scalar.result
    (subst (λ cs. g.S.Sink.Takes c.args.sink.now cs c.write_scalar.new.sink) (text ∙ sym seen))
    c.write_scalar.ensures

pub returns-in-Seq : goal.returns-in-Seq
returns-in-Seq g c =
    let seen = ap style_text (ap tree_of c.in-Seq.is ∙ tree_of-Seq c.in-Seq.items) in
    on_ok_weaker c.write_elements.result
    (subst (λ cs. g.S.Sink.Takes c.args.sink.now cs c.write_elements.new.sink)
    (ap (λ items. elements_at (elements_of items) 0) c.deref-in-Seq.ensures.value ∙ sym seen))
    c.write_elements.ensures

pub returns-in-Map : goal.returns-in-Map
returns-in-Map g c =
    let seen = ap style_text (ap tree_of c.in-Map.is ∙ tree_of-Map c.in-Map.pairs) in
    on_ok_weaker c.write_members.result
    (subst (λ cs. g.S.Sink.Takes c.args.sink.now cs c.write_members.new.sink)
    (ap (λ pairs. members_at (members_of pairs) 0) c.deref-in-Map.ensures.value ∙ sym seen))
    c.write_members.ensures
