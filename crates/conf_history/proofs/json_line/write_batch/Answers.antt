use Rattle.std.proofs.Common.{[], codes, map, refl, sym, subst, arith}
use Rattle.conf_history.{proofs.{Prelude.{drop_all, edit_of, ascii}, LineLemmas.ascii-text}, specs.JsonLogs.edits_json}
use Rattle.yaml_data.proofs.ListLemmas.{drop_item}
use Rattle.conf_history.proofs.json_line.write_batch.Goals as goal

pub loop-edit-init : goal.loop-edit-init
loop-edit-init g c = record { text = ascii-text [] refl; ascii = ascii [] refl; left = λ end left. left }

pub put_text-requires-text-text : goal.put_text-requires-text-text
put_text-requires-text-text g c = λ lifetimes within. c.loop-edit.invariant.text

pub loop-edit-preserved : goal.loop-edit-preserved
loop-edit-preserved g c =
    let l = c.loop-edit in
    let inv = l.invariant in
    let both = g.met.S.Sink.takes_both in
    let start = l.sink in
    let lead = l.lead.now in
    let here = drop_item c.args.edits.now l.edit-index c.edit-item.result (omega arith) c.edit-item.is in
    let led = subst (λ cs. g.S.Sink.Takes start cs c.put_text.new.self) inv.ascii c.in_ok-put_text.ensures in
    let edited = both _ _ _ _ _ led c.in_ok-write_edit.ensures in
    record {
      text = ascii-text (codes ",") refl;
      ascii = ascii (codes ",") refl;
      left = λ end left.
          inv.left end (subst (λ es. g.S.Sink.Takes start (edits_json lead (map edit_of es)) end) (sym here)
          (both _ _ _ _ _ edited left));
    }

pub returns : goal.returns
returns g c =
    let l = c.loop-edit in
    let none = drop_all l.edit-index c.args.edits.now (omega arith) in
    l.invariant.left l.sink (subst (λ es. g.S.Sink.Takes l.sink (edits_json l.lead.now (map edit_of es)) l.sink) (sym none)
    (g.met.S.Sink.takes_none l.sink))
