use Rattle.std.{proofs.Common.{sym, ◌∙◌, ap, subst}, specs.{List.list_all, Prelude.{MatchOption, string_bytes}}}
use Rattle.{yaml_chars.specs.Classes.nb, yaml_events.specs.Meant.events_of, yaml_data.specs.Seen.tree_of}
use Rattle.comments_kept.specs.{Keeping.texts_at, Places.{marks, marks_of}, Weaving.{texts_of, IsWoven, LeavesOver}}
use Rattle.comments_kept.proofs.Keeping.{AreFound, found}
use Rattle.comments_kept.proofs.format.written.Goals as goal

pub plan-requires : goal.plan-requires
plan-requires c =
    let bytes = c.args.bytes.now in
    let reads = c.in_ok-events.ensures.reads in
    let all = subst (AreFound bytes) (sym c.deref.ensures.value)
    (found bytes _ c.in_ok-found.found.items reads.text.utf8 reads.reads c.in_ok-found.ensures c.comments_on_lines.ensures) in
    all.are

pub weave-requires-clause-lines : goal.weave-requires-clause-lines
weave-requires-clause-lines c =
    let bytes = c.args.bytes.now in
    let reads = c.in_ok-events.ensures.reads in
    let all = subst (AreFound bytes) (sym c.deref.ensures.value)
    (found bytes _ c.in_ok-found.found.items reads.text.utf8 reads.reads c.in_ok-found.ensures c.comments_on_lines.ensures) in
    ap (list_all (list_all nb)) (ap texts_of c.deref-2.ensures.value ∙ c.in_ok-kept.ensures.texts) ∙ all.lines

pub returns-clause-written : goal.returns-clause-written
returns-clause-written c =
    let bytes = c.args.bytes.now in
    let t = tree_of c.args.tree.now in
    let reads = c.in_ok-events.ensures.reads in
    let events = events_of c.in_ok-events.events in
    let woven = subst (λ o. MatchOption o (LeavesOver t c.deref-2.result.now) (λ text. IsWoven t c.deref-2.result.now (string_bytes text)))
    c.in-Some.is c.in_ok-text.ensures in
    record {
      events = events;
      means = reads.reads;
      found = c.in_ok-found.found.items;
      comments = c.in_ok-found.ensures;
      kept = c.deref-2.result.now;
      are = ap marks_of c.deref-2.ensures.value ∙ c.in_ok-kept.ensures.places ∙ ap (marks bytes events) c.deref.ensures.value;
      texts = ap texts_of c.deref-2.ensures.value ∙ c.in_ok-kept.ensures.texts ∙ ap (texts_at bytes) c.deref.ensures.value;
      bare = λ lines none. c.deref-2.ensures.value ∙ c.in_ok-kept.ensures.bare lines (c.deref.ensures.value ∙ none);
      woven = woven;
    }
