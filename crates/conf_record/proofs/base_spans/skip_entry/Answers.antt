use Rattle.std.proofs.Common.{◌≡◌, ◌++◌, ◌≤◌, codes, true, sym, ap, subst, ◌∙◌, rules, arith}
use Rattle.conf_record.{proofs.{Prelude.{chars, Tree, text_bytes, good_name}, BaseSpanLemmas.good_entry}, specs.BaseSpans.IsGoodEntry}
use Rattle.conf_record.proofs.base_spans.skip_entry.Goals as goal

pub returns : goal.returns
returns c =
    let lines = c.args.lines.now in
    let row = c.in-Some.row.now in
    let value = c.in_ok-name.value.now in
    let skipped = c.in_ok-skipped.skipped in
    let name = chars (text_bytes c.in_ok-name.name) in
    let cut : lines ≡ codes "  " ++ row = search rules in
    let small : skipped.size.bytes ≤ 4194304 = omega arith in
    let good : good_name name ≡ true =
    ap (λ bs. good_name (chars bs)) (sym c.deref.ensures) ∙ sym c.good_name.ensures.named ∙ c.if-not-good_name.false in
    subst (λ n. (t : Tree) × IsGoodEntry lines n t skipped.rest.now) (sym (ap chars c.in_ok-into_string.ensures))
    (good_entry lines row value skipped.rest.now name skipped.size cut c.in_ok-name.ensures c.in_ok-skipped.ensures small good)
