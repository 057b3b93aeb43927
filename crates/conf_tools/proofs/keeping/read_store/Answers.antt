-- An opening keeps no more bytes than there are.
use Rattle.std.proofs.Common.{◌≤◌, length, subst}
use Rattle.{conf_store.specs.Holes.is_several, conf_tools.proofs.KeepingLemmas.kept-within}
use Rattle.conf_tools.proofs.keeping.read_store.Goals as goal

pub returns-in-Ok-find_in_store-clause-within : goal.returns-in-Ok-find_in_store-clause-within
returns-in-Ok-find_in_store-clause-within g c =
    let given = c.as_slice-given.result.now in
    let found = c.in-Ok-find_in_store.ensures.ok in
    let findings = c.in-Ok-find_in_store.findings in
    subst (λ bytes. findings.kept ≤ length bytes) c.as_slice-given.ensures.value
    (kept-within (is_several c.args.waiting) given found.0 findings found.1.holds)
