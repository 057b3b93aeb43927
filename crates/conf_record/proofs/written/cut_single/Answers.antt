use Rattle.std.proofs.{Common.codes, lemmas.Option.IfSome_then}
use Rattle.conf_record.{specs.{EditLines.lines_of, LineValues.edit_cut}, proofs.WrittenLemmas.alone_written}
use Rattle.conf_record.proofs.written.cut_single.Goals as goal

pub returns-clause-written : goal.returns-clause-written
returns-clause-written c =
    let own = lines_of c.in_ok-members.members (codes "tree: ") in
    IfSome_then c.texts_on.result c.texts_on.ensures.written (λ texts so.
    alone_written c.args.lines.now c.in_ok-members.end.now own (edit_cut texts) c.in_ok-members.ensures
    (c.is_end.ensures c.if-not-is_end.false) so)
