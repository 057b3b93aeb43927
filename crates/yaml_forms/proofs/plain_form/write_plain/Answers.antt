use Rattle.std.proofs.Common.{ap, sym, subst, ◌∙◌, arith}
use Rattle.yaml_forms.proofs.Prelude.{on_ok_weaker, chars, depth, elements_depth, members_depth, tree_of, elements_of, members_of}
use Rattle.yaml_forms.{proofs.Prelude.{tree_of-Text, tree_of-Seq, tree_of-Map}, specs.PlainForm.{elements_at, members_at, plain_text}}
use Rattle.yaml_forms.specs.PlainForm.{value_lines}
use Rattle.yaml_forms.proofs.plain_form.write_plain.Goals as goal

pub write_elements-requires : goal.write_elements-requires
write_elements-requires g c =
    let seen = ap depth (ap tree_of c.in-Seq.is ∙ tree_of-Seq c.in-Seq.items) in
    let items = ap (λ xs. elements_depth (elements_of xs)) c.deref-in-Seq.ensures.value in
    record { room = omega (arith, seen, items, c.requires) }

pub write_members-requires : goal.write_members-requires
write_members-requires g c =
    let seen = ap depth (ap tree_of c.in-Map.is ∙ tree_of-Map c.in-Map.pairs) in
    let pairs = ap (λ xs. members_depth (members_of xs)) c.deref-in-Map.ensures.value in
    record { room = omega (arith, seen, pairs, c.requires) }

pub returns-in-Text : goal.returns-in-Text
returns-in-Text g c =
    let text = ap (λ bytes. value_lines 2 (chars bytes)) c.deref.ensures in
    let seen = ap plain_text (ap tree_of c.in-Text.is ∙ tree_of-Text c.in-Text.text) in
    on_ok_weaker c.write_text.result
    (subst (λ cs. g.S.Sink.Takes c.args.sink.now cs c.write_text.new.sink) (text ∙ sym seen))
    c.write_text.ensures

pub returns-in-Seq : goal.returns-in-Seq
returns-in-Seq g c =
    let seen = ap plain_text (ap tree_of c.in-Seq.is ∙ tree_of-Seq c.in-Seq.items) in
    on_ok_weaker c.write_elements.result
    (subst (λ cs. g.S.Sink.Takes c.args.sink.now cs c.write_elements.new.sink)
    (ap (λ items. elements_at (elements_of items) 0) c.deref-in-Seq.ensures.value ∙ sym seen))
    c.write_elements.ensures

pub returns-in-Map : goal.returns-in-Map
returns-in-Map g c =
    let seen = ap plain_text (ap tree_of c.in-Map.is ∙ tree_of-Map c.in-Map.pairs) in
    on_ok_weaker c.write_members.result
    (subst (λ cs. g.S.Sink.Takes c.args.sink.now cs c.write_members.new.sink)
    (ap (λ pairs. members_at (members_of pairs) 0) c.deref-in-Map.ensures.value ∙ sym seen))
    c.write_members.ensures
