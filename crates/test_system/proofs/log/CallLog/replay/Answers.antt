use Rattle.std.proofs.{Common.{◌≡◌, ◌+◌, ◌<◌, length, get_or, take, map, ◌++◌, [], ◌∷◌, List, sym, ◌∙◌, ap, arith}, lemmas.List.take_more}
use Rattle.std.proofs.lemmas.List.{map-append}
use Rattle.{conf_system.specs.Machine.Machine, test_system.specs.Replay.{entry_of, machine_made, machine_after, new_machine, bare}}
use Rattle.test_system.{specs.declared.change.Made.Made, proofs.{OneMore.made_last, Bares.made-bare}}
use Rattle.test_system.proofs.log.CallLog.replay.Goals as goal

pub loop-made-preserved : goal.loop-made-preserved
loop-made-preserved c =
    let items = c.args.self.now.calls.items in
    let i = c.loop-made.made-index in
    let x = c.made-item.result in
    let same = c.deref-made-items.ensures.value in
    let within : i < length items = omega (arith, ap length same, c.loop-made-test.true) in
    let at : x ≡ get_or items i x = c.made-item.is ∙ ap (λ (l : List Made). get_or l i x) same in
    let more : take (i + 1) items ≡ take i items ++ x ∷ [] = take_more items i x within
    ∙ ap (λ (y : Made). take i items ++ y ∷ []) (sym at) in
    let entries : map entry_of (take (i + 1) items) ≡ map entry_of (take i items) ++ entry_of x ∷ [] =
    ap (map entry_of) more ∙ map-append entry_of (take i items) (x ∷ []) in
    let before = machine_after (map entry_of (take i items)) new_machine in
    c.in_ok-apply.ensures ∙ ap (λ (m : Machine). bare (machine_made (entry_of x) m)) c.loop-made.invariant
    ∙ made-bare (entry_of x) before
    ∙ sym (ap bare (made_last (map entry_of (take i items)) _ (entry_of x) entries))
