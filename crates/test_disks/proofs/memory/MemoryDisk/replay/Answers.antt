use Rattle.std.proofs.Common.{◌≡◌, ◌+◌, ◌<◌, ◌≤◌, length, get_or, take, map, ◌++◌, [], ◌∷◌, List, sym, ◌∙◌, ap, subst, arith}
use Rattle.std.proofs.lemmas.List.{take_more, take_all, map-append}
use Rattle.conf_disk.specs.{Folder.after, Image.{IsWhole, folder_of_image}, Log.folder_after, LogLaws.{folder_after-whole, image-whole}}
use Rattle.{conf_disk.proofs.Log.folder_after-pushed, test_disks.specs.{Replay.{step_of, image_of}, declared.folder.Change.Change}}
use Rattle.test_disks.proofs.memory.MemoryDisk.replay.Goals as goal

-- the folder after some of the changes is whole
pub apply-requires : goal.apply-requires
apply-requires c = subst IsWhole (sym c.loop-change.invariant)
    (folder_after-whole (map step_of (take c.loop-change.change-index c.args.self.now.changes.items)) _
    (image-whole (image_of c.args.self.now.start)))

pub loop-change-preserved : goal.loop-change-preserved
loop-change-preserved c =
    let items = c.args.self.now.changes.items in
    let i = c.loop-change.change-index in
    let x = c.change-item.result in
    let same = c.deref-change-items.ensures.value in
    let within : i < length items = omega (arith, ap length same, c.loop-change-test.true) in
    let at : x ≡ get_or items i x = c.change-item.is ∙ ap (λ (l : List Change). get_or l i x) same in
    let more : take (i + 1) items ≡ take i items ++ x ∷ [] = take_more items i x within
    ∙ ap (λ (y : Change). take i items ++ y ∷ []) (sym at) in
    let steps : map step_of (take (i + 1) items) ≡ map step_of (take i items) ++ step_of x ∷ [] =
    ap (map step_of) more ∙ map-append step_of (take i items) (x ∷ []) in
    c.in_ok-apply.ensures ∙ ap (after (step_of x)) c.loop-change.invariant
    ∙ sym (folder_after-pushed (folder_of_image (image_of c.args.self.now.start)) (map step_of (take i items)) _ (step_of x) steps)

pub returns : goal.returns
returns c =
    let items = c.args.self.now.changes.items in
    let same = c.deref-change-items.ensures.value in
    let all : length items ≤ c.loop-change.change-index = omega (arith, ap length same, c.loop-change-test.false) in
    c.loop-change.invariant
    ∙ ap (λ (l : List Change). folder_after (map step_of l) (folder_of_image (image_of c.args.self.now.start)))
    (take_all c.loop-change.change-index items all)
