use Rattle.std.proofs.Common.{◌≡◌, ◌≤◌, sym, subst, ap, ◌∙◌, arith}
use Rattle.conf_record.proofs.{Prelude.{eqb-false, IfSome, vec_len, entries_of, IsState, Contents}, EntryLemmas.whole_base}
use Rattle.conf_record.{proofs.EntryLemmas.some_entries, specs.{Documents.IsBase, Formats.base_in}}
use Rattle.conf_record.proofs.written_base.written_base.Goals as goal

pub returns-in-Some-2 : goal.returns-in-Some-2
returns-in-Some-2 c =
    let state = c.in-Some-2.state in
    let parts = c.in_ok-parts.parts in
    let filled = eqb-false (vec_len parts) 0 (sym c.if-is_empty.ensures) in
    let some = some_entries parts.items (λ none. filled (omega (arith, parts.ok, none))) in
    let contents : Contents = record { configs = entries_of parts.items; count = c.in-Some.frame.count } in
    let is = subst (λ made. IfSome made (λ s. (s ≡ contents) × IsState s)) c.in-Some-2.is c.in_ok-state.ensures.some in
    let numbered = ap (λ s. s.count) is.0 in
    let small : c.in-Some.frame.count ≤ 18446744073709551615 = omega (arith, is.1.numbered, numbered) in
    let whole = whole_base c.in-Some.frame.format c.in-Ok.text.now c.in-Some.frame.lines.now
    (entries_of parts.items) c.in-Some.frame.count some small c.in-Some.ensures c.in_ok-parts.ensures in
    let same = sym c.in-Ok.ensures.cases.0 ∙ whole ∙ ap (base_in c.in-Some.frame.format) (sym is.0) in
    subst (λ bytes. IsBase bytes state) (sym same) (c.documents_are_read.ensures.bases c.in-Some.frame.format state is.1)
