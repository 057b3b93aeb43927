use Rattle.std.proofs.{Common.{rules, ◌≡◌, [], ◌∷◌, ◌++◌, map, ◌∙◌, ap}, lemmas.List.map-append}
use Rattle.{test_disks.specs.Replay.{step_of, image_of}, conf_disk.{specs.Image.folder_of_image, proofs.Log.folder_after-pushed}}
use Rattle.conf_disk.proofs.Log.{Elapses-pushed}
use Rattle.test_disks.proofs.memory.MemoryDisk.note.Goals as goal

pub returns-clause-change : goal.returns-clause-change
returns-clause-change c =
    let old = c.args.self.now.changes.items in
    let pushed : c.push.new.self.items ≡ old ++ c.args.change ∷ [] = search rules in
    folder_after-pushed (folder_of_image (image_of c.args.self.now.start)) (map step_of old) _ (step_of c.args.change)
    (ap (map step_of) pushed ∙ map-append step_of old (c.args.change ∷ []))

pub returns-clause-time : goal.returns-clause-time
returns-clause-time c =
    let old = c.args.self.now.changes.items in
    let pushed : c.push.new.self.items ≡ old ++ c.args.change ∷ [] = search rules in
    Elapses-pushed (folder_of_image (image_of c.args.self.now.start)) (map step_of old) _ (step_of c.args.change)
    (ap (map step_of) pushed ∙ map-append step_of old (c.args.change ∷ []))
