use Rattle.std.proofs.Common.{◌≡◌, ◌≤◌, length, true≢false, sym, ◌∙◌, arith}
use Rattle.conf_record.proofs.BaseSpanLemmas.{found_whole}
use Rattle.conf_record.proofs.base_spans.Found.of.Goals as goal

pub returns : goal.returns
returns c =
    let bytes = c.args.text.now in
    let lines = c.in-Some.frame.lines.now in
    let listed = c.in_ok-spans.ensures in
    let made = c.new.result in
    let same = sym c.new.ensures.spans in
    let count = c.new.ensures.count in
    let short : length bytes ≤ 67108864 = omega arith in
    let some : length c.in_ok-spans.spans.entries ≡ 0 → ⊥ = λ none.
    true≢false (sym (c.is_empty.ensures.1 none) ∙ c.if-is_empty.false) in
    let is = rw (sym count.0) at c.in-Some.ensures in (
      record { configs = listed.0; count = made.count },
      found_whole c.in-Some.frame.format bytes lines made.spans.entries listed.0 made.count made.total
          (rw same at listed.1) (rw same at some) (rw (sym count.0) at count.1) short c.new.ensures.total is,
    )
