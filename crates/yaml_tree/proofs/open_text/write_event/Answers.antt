use Rattle.std.proofs.Common.{subst, sym, ap, ap₂, ◌∙◌}
use Rattle.yaml_tree.proofs.{Prelude.{on_ok_weaker, chars, event_of, shape}, OpenPartLemmas.{start_added, own_room}}
use Rattle.yaml_tree.{proofs.PartLemmas.open_frames-push, specs.{OpenParts.{open_frame, open_frames}, OpenText.{indent_in, scalar_in}}}
use Rattle.yaml_tree.specs.OpenText.{added}
use Rattle.yaml_tree.proofs.open_text.write_event.Goals as goal

pub write_scalar_in-requires-clause-indent : goal.write_scalar_in-requires-clause-indent
write_scalar_in-requires-clause-indent g c =
    let outer = c.in-Some.outer.now in
    let parts = ap open_frames c.in-Some.ensures.cases.0 ∙ open_frames-push outer c.in-Some.innermost.now in
    c.own_indent-indent.ensures (open_frames outer) (c.requires.indent ∙ ap indent_in parts)

pub write_scalar_in-requires-clause-room : goal.write_scalar_in-requires-clause-room
write_scalar_in-requires-clause-room g c =
    let outer = c.in-Some.outer.now in
    let parts = ap open_frames c.in-Some.ensures.cases.0 ∙ open_frames-push outer c.in-Some.innermost.now in
    let whole = c.requires.indent ∙ ap indent_in parts in
    own_room (open_frame c.in-Some.innermost.now) (open_frames outer) c.args.indent c.own_indent-indent.result whole
    (c.own_indent-indent.ensures (open_frames outer) whole) c.requires.room

pub write_dash-requires : goal.write_dash-requires
write_dash-requires g c =
    let outer = c.in-Some.outer.now in
    let parts = ap open_frames c.in-Some.ensures.cases.0 ∙ open_frames-push outer c.in-Some.innermost.now in
    c.own_indent-indent.ensures (open_frames outer) (c.requires.indent ∙ ap indent_in parts)

pub returns-in-SeqEnd-clause-lines : goal.returns-in-SeqEnd-clause-lines
returns-in-SeqEnd-clause-lines g c =
    let parts = ap open_frames c.in-Some.ensures.cases.0 ∙ open_frames-push c.in-Some.outer.now c.in-Some.innermost.now in
    on_ok_weaker c.write_seq_end.result
    (subst (λ cs. g.S.Sink.Takes c.args.sink.now cs c.write_seq_end.new.sink)
    (sym (ap₂ (λ fs e. added fs (shape (event_of e))) parts c.in-SeqEnd.is)))
    c.write_seq_end.ensures

pub returns-in-MapEnd-clause-lines : goal.returns-in-MapEnd-clause-lines
returns-in-MapEnd-clause-lines g c =
    let parts = ap open_frames c.in-Some.ensures.cases.0 ∙ open_frames-push c.in-Some.outer.now c.in-Some.innermost.now in
    on_ok_weaker c.write_map_end.result
    (subst (λ cs. g.S.Sink.Takes c.args.sink.now cs c.write_map_end.new.sink)
    (sym (ap₂ (λ fs e. added fs (shape (event_of e))) parts c.in-MapEnd.is)))
    c.write_map_end.ensures

pub returns-in-Scalar-clause-lines : goal.returns-in-Scalar-clause-lines
returns-in-Scalar-clause-lines g c =
    let parts = ap open_frames c.in-Some.ensures.cases.0 ∙ open_frames-push c.in-Some.outer.now c.in-Some.innermost.now in
    let value = ap (λ bytes. scalar_in (open_frame c.in-Some.innermost.now) (open_frames c.in-Some.outer.now)
    (chars bytes)) c.as_str.ensures.value in
    on_ok_weaker c.write_scalar_in.result
    (subst (λ cs. g.S.Sink.Takes c.args.sink.now cs c.write_scalar_in.new.sink)
    (value ∙ sym (ap₂ (λ fs e. added fs (shape (event_of e))) parts c.in-Scalar.is)))
    c.write_scalar_in.ensures.lines

pub returns-in-DocStart-clause-lines : goal.returns-in-DocStart-clause-lines
returns-in-DocStart-clause-lines g c =
    let parts = ap open_frames c.in-Some.ensures.cases.0 ∙ open_frames-push c.in-Some.outer.now c.in-Some.innermost.now in
    on_ok_weaker c.write_dash.result
    (subst (λ cs. g.S.Sink.Takes c.args.sink.now cs c.write_dash.new.sink)
    (start_added c.args.event.now (open_frame c.in-Some.innermost.now) (open_frames c.in-Some.outer.now) c.in-DocStart.is
    ∙ sym (ap (λ fs. added fs (shape (event_of c.args.event.now))) parts)))
    c.write_dash.ensures
