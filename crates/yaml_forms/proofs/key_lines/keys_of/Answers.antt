use Rattle.std.proofs.Common.{◌+◌, ◌++◌, drop, codes, encode_utf8_all, string_bytes, sym, ap, ◌∙◌, arith}
use Rattle.yaml_forms.proofs.{Prelude.{append-nil, drop_all, chars, members_of, drop_item}, LineLemmas.line_pushed}
use Rattle.yaml_forms.specs.KeyLines.{key_in_line, member_lines}
use Rattle.yaml_forms.proofs.key_lines.keys_of.Goals as goal

pub loop-key-preserved : goal.loop-key-preserved
loop-key-preserved c =
    let l = c.loop-key in
    let pairs = c.args.pairs.now in
    let here = ap (λ ms. member_lines (members_of ms))
    (drop_item pairs l.key-index c.loop-key-item.result (omega arith) c.loop-key-item.is) in
    let own = ap (λ bytes. string_bytes l.lines ++ encode_utf8_all (key_in_line (chars bytes) ++ codes "\n")) c.deref.ensures in
    line_pushed (string_bytes l.lines) (string_bytes c.write_key_line.new.sink) _
    (member_lines (members_of (drop (l.key-index + 1) pairs))) _ here (c.in_ok-write_key_line.ensures ∙ own)
    ∙ l.invariant

pub returns : goal.returns
returns c =
    let l = c.loop-key in
    let none = ap (λ ms. string_bytes l.lines ++ encode_utf8_all (member_lines (members_of ms)))
    (drop_all l.key-index c.args.pairs.now (omega arith)) in
    sym (append-nil (string_bytes l.lines)) ∙ sym none ∙ l.invariant
