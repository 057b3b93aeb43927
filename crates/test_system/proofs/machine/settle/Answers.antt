use Rattle.std.proofs.Common.{◌≡◌, ◌≤◌, ◌<◌, ◌++◌, rules, List, length, get_or, map, drop, ap, ◌∙◌, arith, append-nil}
use Rattle.std.proofs.lemmas.List.{length-map, take_all, drop_all}
use Rattle.{conf_system.specs.Machine.{Held, settled}, test_system.{specs.Replay.{held_of, files_of}, proofs.Files.settled-more}}
use Rattle.test_system.proofs.machine.settle.Goals as goal

pub loop-id-preserved : goal.loop-id-preserved
loop-id-preserved c =
    let items = c.loop-id.files.items in
    let all = files_of c.args.files.now in
    let i = c.loop-id.id in
    let x = c.index_mut.result.now in
    let within : i < length items = search rules in
    let at : x ≡ get_or items i x = search rules in
    let within_all : i < length all = omega (arith, within, c.loop-id.invariant.0, length-map c.args.files.now.items held_of) in
    (c.loop-id.invariant.0, settled-more all items i x _ within_all within c.loop-id.invariant.1 at c.settle.ensures)

pub returns : goal.returns
returns c =
    let all = files_of c.args.files.now in
    let n = c.loop-id.id in
    let past : length all ≤ n = omega (arith, c.loop-id-test.false, c.len-id-end.ensures, length-map c.args.files.now.items held_of) in
    c.loop-id.invariant.1
    ∙ ap (λ (l : List Held). map settled l ++ drop n all) (take_all n all past)
    ∙ ap (λ (l : List Held). map settled all ++ l) (drop_all n all past)
    ∙ append-nil (map settled all)
