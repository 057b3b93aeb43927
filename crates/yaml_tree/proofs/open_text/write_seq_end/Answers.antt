use Rattle.std.proofs.Common.{codes, subst, refl, sym, ap, ◌∙◌}
use Rattle.yaml_tree.proofs.{Prelude.{on_ok_weaker, chars-literal}, OpenPartLemmas.{seq_end-empty, seq_end-filled}}
use Rattle.yaml_tree.specs.{OpenParts.{open_frame, open_frames}, OpenText.{empty_line, seq_end}}
use Rattle.yaml_tree.proofs.open_text.write_seq_end.Goals as goal

pub returns-then-not-items : goal.returns-then-not-items
returns-then-not-items g c =
    let fs = open_frames c.args.outer.now in
    subst (λ cs. g.S.Sink.Takes c.args.sink.now cs c.args.sink.now)
    (seq_end-filled c.in-Seq.items.is_empty fs c.if-not-items.true ∙ sym (ap (λ p. seq_end (open_frame p) fs) c.in-Seq.is))
    (g.met.S.Sink.takes_none c.args.sink.now)

pub returns : goal.returns
returns g c =
    let fs = open_frames c.args.outer.now in
    on_ok_weaker c.write_empty.result
    (subst (λ cs. g.S.Sink.Takes c.args.sink.now cs c.write_empty.new.sink)
    (ap (λ cs. empty_line cs fs) (chars-literal (codes "[]\n") refl) ∙ seq_end-empty c.in-Seq.items.is_empty fs c.if-not-items.false
    ∙ sym (ap (λ p. seq_end (open_frame p) fs) c.in-Seq.is)))
    c.write_empty.ensures
