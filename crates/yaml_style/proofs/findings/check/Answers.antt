-- What was written was compared with the text, and counted.
use Rattle.std.proofs.Common.{ℕ, ◌≤◌, List, length, sym, ap, subst, ◌∙◌}
use Rattle.yaml_style.proofs.{Prelude.{err_from_is_err_and, chars, config_limits, byte_len}, ComparingLemmas.from_start}
use Rattle.yaml_style.{proofs.CountLemmas.{counted_within, counted_beyond}, specs.Findings.{style_line, with_style, line_findings}}
use Rattle.{yaml_style.specs.Lines.lines, yaml_grammar.specs.Style.style_text, yaml_tree.proofs.WriterLemmas.{read_within, large_refused}}
use Rattle.yaml_style.proofs.findings.check.Goals as goal

pub from_utf8_unchecked-text-requires : goal.from_utf8_unchecked-text-requires
from_utf8_unchecked-text-requires c = c.in_ok-document.ensures.read.reads.text.utf8

pub returns-in_err-write-clause-refused : goal.returns-in_err-write-clause-refused
returns-in_err-write-clause-refused c =
    let p = err_from_is_err_and c.from_residual-in_err-write.result c.from_residual-in_err-write.ensures.1 in
    rw (p.1, p.2) (c.in_err-write.ensures c.args.bytes.now c.in_ok-document.ensures.read)

pub returns-then-written-limits-clause-refused : goal.returns-then-written-limits-clause-refused
returns-then-written-limits-clause-refused c =
    let w = c.in_ok-write.ensures c.args.bytes.now c.in_ok-document.ensures.read in
    large_refused c.args.bytes.now config_limits w
    (counted_beyond (byte_len (style_text w.tree)) c.new-written.ensures.bytes w.text.1 c.if-written-limits.true)

pub style_line-requires-clause-length : goal.style_line-requires-clause-length
style_line-requires-clause-length c =
    subst (λ (bytes : List ℕ). length bytes ≤ config_limits.bytes)
    (sym c.from_utf8_unchecked-text.ensures) c.in_ok-document.ensures.read.reads.text.short

pub style_line-requires-clause-written : goal.style_line-requires-clause-written
style_line-requires-clause-written c =
    let w = c.in_ok-write.ensures c.args.bytes.now c.in_ok-document.ensures.read in
    (style_text w.tree, from_start (style_text w.tree) c.new-written.ensures.rest c.new-written.ensures.agrees w.text.0)

pub returns-clause-found : goal.returns-clause-found
returns-clause-found c =
    let w = c.in_ok-write.ensures c.args.bytes.now c.in_ok-document.ensures.read in
    let long = counted_within (byte_len (style_text w.tree)) c.new-written.ensures.bytes w.text.1 c.if-written-limits.false in
    let text = c.from_utf8_unchecked-text.ensures in
    let compared = from_start (style_text w.tree) c.new-written.ensures.rest c.new-written.ensures.agrees w.text.0 in
    let line = c.style_line.ensures (style_text w.tree) compared in
    record {
      tree = w.tree;
      reads = read_within c.args.bytes.now config_limits w long;
      found = c.in_ok-insert_style.ensures
          ∙ ap (λ line. with_style line c.in_ok-findings.findings.items) line
          ∙ ap (with_style _) c.in_ok-findings.ensures
          ∙ ap (λ (bytes : List ℕ). with_style (style_line (chars bytes) (style_text w.tree)) (line_findings 1 (lines (chars bytes)))) text;
    }
