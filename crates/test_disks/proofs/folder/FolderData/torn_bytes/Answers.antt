use Rattle.std.proofs.{Common.{◌≡◌, ◌≤◌, rules, ℕ, length, Option, Some, true, sym, ◌∙◌, ap, arith}, lemmas.List.length-map}
use Rattle.{conf_disk.specs.Image.{fits_at, torn_at}, test_disks.{specs.Replay.{file_of, files_of}, proofs.Holes.torn-past}}
use Rattle.test_disks.proofs.folder.FolderData.torn_bytes.Goals as goal

pub returns : goal.returns
returns c =
    let files = files_of c.args.self.now.files in
    let id = c.in-Some.id in
    let keep = c.args.cut.0 in
    let zeros = c.args.cut.1 in
    let places = c.args.places.now in
    let there : c.args.id ≡ Some id = search rules in
    let past : length files ≤ id =
    omega (arith, c.if-id-len.false, c.len.ensures, length-map c.args.self.now.files.items file_of) in
    let fits : fits_at files (Some id) keep zeros ≡ true =
    ap (λ (place : Option ℕ). fits_at files place keep zeros) (sym there) ∙ c.requires in
    ap Some c.new.ensures.items
    ∙ sym (ap (λ (place : Option ℕ). torn_at files place keep zeros places) there ∙ torn-past files id keep zeros places past fits)
