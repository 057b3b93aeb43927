use Rattle.std.proofs.Common.{◌+◌, ◌++◌, drop, encode_utf8_all, string_bytes, sym, ap, ◌∙◌, arith}
use Rattle.yaml_forms.proofs.{Prelude.{append-nil, drop_all, elements_of}, LineLemmas.{line_pushed, index_here}}
use Rattle.yaml_forms.specs.KeyLines.{index_lines}
use Rattle.yaml_forms.proofs.key_lines.indexes_of.Goals as goal

pub loop-index-preserved : goal.loop-index-preserved
loop-index-preserved c =
    let l = c.loop-index in
    let items = c.args.items.now in
    let here = index_here items l.index l.index (omega arith) in
    line_pushed (string_bytes l.lines) (string_bytes c.write_index_line.new.sink) _
    (index_lines (l.index + 1) (elements_of (drop (l.index + 1) items))) _ here c.in_ok-write_index_line.ensures
    ∙ l.invariant

pub returns : goal.returns
returns c =
    let l = c.loop-index in
    let none = ap (λ ts. string_bytes l.lines ++ encode_utf8_all (index_lines l.index (elements_of ts)))
    (drop_all l.index c.args.items.now (omega arith)) in
    sym (append-nil (string_bytes l.lines)) ∙ sym none ∙ l.invariant
