use Rattle.std.proofs.{Common.{◌≡◌, ◌+◌, ◌<◌, length, get_or, take, map, ◌++◌, [], ◌∷◌, List, sym, ◌∙◌, ap, arith}, lemmas.List.take_more}
use Rattle.std.proofs.lemmas.List.{map-append}
use Rattle.conf_disk.specs.{Image.folder_of_image, Log.folder_after, LogLaws.{folder_after-whole, image-whole}}
use Rattle.{conf_disk.proofs.Log.folder_after-pushed, test_disks.specs.{Replay.{step_of, image_of}, Marks.{marks_of, marks_after}}}
use Rattle.test_disks.{specs.declared.folder.Change.Change, proofs.MarkLemmas.marks-after}
use Rattle.test_disks.proofs.memory.MemoryDisk.marks.Goals as goal

pub loop-change-preserved : goal.loop-change-preserved
loop-change-preserved c =
    let items = c.args.self.now.changes.items in
    let image = image_of c.args.self.now.start in
    let i = c.loop-change.change-index in
    let x = c.change-item.result in
    let same = c.deref-change-items.ensures.value in
    let within : i < length items = omega (arith, ap length same, c.loop-change-test.true) in
    let at : x ≡ get_or items i x = c.change-item.is ∙ ap (λ (l : List Change). get_or l i x) same in
    let more : take (i + 1) items ≡ take i items ++ x ∷ [] = take_more items i x within
    ∙ ap (λ (y : Change). take i items ++ y ∷ []) (sym at) in
    let before = map step_of (take i items) in
    let steps : map step_of (take (i + 1) items) ≡ before ++ step_of x ∷ [] =
    ap (map step_of) more ∙ map-append step_of (take i items) (x ∷ []) in
    let folder = folder_after before (folder_of_image image) in
    c.after-marks.ensures ∙ ap (marks_after (step_of x)) c.loop-change.invariant
    ∙ sym (marks-after (step_of x) folder (folder_after-whole before (folder_of_image image) (image-whole image)))
    ∙ ap marks_of (sym (folder_after-pushed (folder_of_image image) before _ (step_of x) steps))
