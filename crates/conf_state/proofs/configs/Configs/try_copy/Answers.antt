use Rattle.std.proofs.Common.{◌≡◌, ◌++◌, subst, ◌∙◌}
use Rattle.conf_state.{specs.Kept.{entries_of, ArePlain}, proofs.CopyLemmas.copied_more}
use Rattle.conf_state.proofs.configs.Configs.try_copy.Goals as goal

pub loop-name-preserved : goal.loop-name-preserved
loop-name-preserved c =
    let all = entries_of c.args.self.now in
    let done = c.loop-name.copy in
    let key = c.in-Some.name.now in
    let value = c.in-Some.config.now in
    let left = c.next.new.self in
    let so_far = subst (λ xs. (entries_of done ++ entries_of xs ≡ all) × ArePlain done × ArePlain xs)
    c.in-Some.ensures.steps c.loop-name.invariant in
    let more = copied_more all done key c.in_ok-from_str.field-0 value c.in_ok-try_copy.field-0 left c.put.new.self
    c.requires.distinct so_far.0 so_far.1 so_far.2.0
    (c.in_ok-from_str.ensures.ok ∙ c.deref.ensures) c.in_ok-try_copy.ensures c.in_ok-put.ensures.ok in
    (more.0, more.1, so_far.2.1)
