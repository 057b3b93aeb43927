-- What a cutter holds closes nothing, unless it was just fed up to a closing line.
use Rattle.std.proofs.{Common.{◌≡◌, ℕ, false, List, [], ◌++◌, sym, ap, ◌∙◌, subst, arith}, lemmas.List.take_all}
use Rattle.yaml_docs.{specs.{Cutting.{Held, Unclosed, Takes, Feeds}, declared.cutter.Fed.Fed}, proofs.ClosingLines.lies_within}

-- no bytes close nothing
pub unclosed_none : Unclosed []
unclosed_none place c = (let within = lies_within [] place c in omega (arith, within, c.ends))

-- so do bytes that close nothing, with all further bytes after them
pub unclosed_after : (old : Held) (more : List ℕ) (new : Held) (fed : Fed) → Feeds old more new fed
    → fed.closed ≡ false → Unclosed new.bytes
unclosed_after old more new fed feeds open_still =
    let Taken : _ → Type 0 = λ closed. Takes old.bytes more fed.taken closed in
    let takes = subst Taken open_still feeds.takes in
    let all = take_all fed.taken more (omega (arith, takes.0)) in
    subst Unclosed (sym (feeds.held ∙ ap (λ l. old.bytes ++ l) all)) takes.1
