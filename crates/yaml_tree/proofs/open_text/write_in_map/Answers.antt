use Rattle.std.{proofs.Common.{◌≡◌, ◌++◌, length, subst, sym, ap, ◌∙◌, arith}, specs.Vec.vec_len}
use Rattle.yaml_tree.{proofs.{Prelude.{on_ok_weaker, chars, key_lines}, OpenPartLemmas.key_start_of}, specs.Kept.{members_by, no_tree}}
use Rattle.yaml_tree.specs.{OpenParts.{frame_by_next, open_frames}, OpenText.{line_start, key_start, scalar_in}}
use Rattle.yaml_tree.proofs.open_text.write_in_map.Goals as goal

pub returns : goal.returns
returns g c =
    let fs = open_frames c.args.outer.now in
    let key = chars c.args.text.now in
    let pairs = c.args.map.now.pairs in
    let count : length pairs.items ≡ vec_len pairs = omega (arith, pairs.ok) in
    let line = ap (λ b. line_start b fs ++ key_lines c.args.indent key) c.is_empty.ensures
    ∙ ap (λ cs. cs ++ key_lines c.args.indent key) (key_start_of pairs.items (vec_len pairs) fs count)
    ∙ ap (λ i. key_start (members_by no_tree pairs.items) fs ++ key_lines i key) c.requires.indent
    ∙ sym (ap (λ k. scalar_in (frame_by_next (members_by no_tree pairs.items) k) fs key) c.if-map.false) in
    on_ok_weaker c.write_key.result
    (λ put. subst (λ cs. g.S.Sink.Takes c.args.sink.now cs c.write_key.new.sink) line
    (g.met.S.Sink.takes_both _ _ _ _ _ c.in_ok-write_line_start.ensures put))
    c.write_key.ensures
