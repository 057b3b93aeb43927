use Rattle.std.proofs.{Common.{◌≡◌, ◌+◌, ◌<◌, length, get_or, take, ◌++◌, [], ◌∷◌, List, sym, ◌∙◌, ap, arith}, lemmas.List.take_more}
use Rattle.test_files.{specs.{Replay.{entry_of, machine_made, start_of}, declared.change.Made.Made}, proofs.Pushes.made-pushed}
use Rattle.test_files.proofs.log.CallLog.replay.Goals as goal

pub loop-made-preserved : goal.loop-made-preserved
loop-made-preserved c =
    let items = c.args.self.now.calls.items in
    let start = start_of c.args.self.now.start in
    let i = c.loop-made.made-index in
    let x = c.made-item.result in
    let same = c.deref-made-items.ensures.value in
    let within : i < length items = omega (arith, ap length same, c.loop-made-test.true) in
    let at : x ≡ get_or items i x = c.made-item.is ∙ ap (λ (l : List Made). get_or l i x) same in
    let more : take (i + 1) items ≡ take i items ++ x ∷ [] = take_more items i x within
    ∙ ap (λ (y : Made). take i items ++ y ∷ []) (sym at) in
    c.in_ok-apply.ensures ∙ ap (machine_made (entry_of x)) c.loop-made.invariant
    ∙ sym (made-pushed start (take i items) (take (i + 1) items) x more)
