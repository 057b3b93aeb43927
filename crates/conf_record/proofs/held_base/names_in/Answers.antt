use Rattle.std.proofs.Common.{◌≡◌, ◌++◌, map, ap, subst, ◌∙◌}
use Rattle.conf_record.{proofs.{Prelude.{chars, text_of}, BaseSpanLemmas.names_pushed}, specs.BaseSpans.names_under}
use Rattle.conf_record.proofs.held_base.names_in.Goals as goal

pub loop-name-preserved : goal.loop-name-preserved
loop-name-preserved c =
    let all = names_under c.args.spans.now.entries in
    let items = c.loop-name.names.items in
    let so = subst (λ xs. map text_of items ++ names_under xs ≡ all) c.in-Some.ensures.steps c.loop-name.invariant in
    names_pushed items c.push.new.self.items c.in_ok-from_str.field-0 (text_of c.in-Some.name.now) (names_under c.next.new.self) all
    c.in_ok-push.ensures.items (ap chars (c.in_ok-from_str.ensures.ok ∙ c.deref.ensures)) so
