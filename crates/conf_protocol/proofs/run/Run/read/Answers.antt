use Rattle.std.{specs.Prelude.{option_map, Some}, proofs.Common.{◌≡◌, ◌≤◌, ℕ, List, length, false, sym, ◌∙◌, ap, subst, arith, rules}}
use Rattle.{conf_disk.specs.declared.disk.{Content.TheVariants.Bytes, Name.TheVariants.Next}, conf_system.specs.Machine.Machine}
use Rattle.{conf_system.specs.{Machine.{bytes_under, are_linked}, Folders.folder_of}, conf_protocol.proofs.Shown.blamed-ok}
use Rattle.conf_protocol.proofs.{SameBytes.{read-same, length-of}, run.Run.read.Goals.else-eq-via-then-eq+in_ok-blame+else-branch}
use Rattle.conf_protocol.proofs.run.Run.read.Goals.{else-eq-via-else-eq}
use Rattle.conf_disk.specs.Folder as disk
use Rattle.conf_protocol.proofs.run.Run.read.Goals as goal

pub returns-clause-content : goal.returns-clause-content
returns-clause-content g c h =
    let model = g.S.System.model in
    let m = model.machine c.args.self.now.system in
    let name = c.file_of-name.result in
    let apart : c.args.name ≡ Next → are_linked m.now.store m.now.next ≡ false = elim c.else-eq.branch [
      | else-eq-via-then-eq+in_ok-blame+else-branch w ↦
          (let linked = blamed-ok w.are_linked.result w.in_ok-blame.field-0 _ (λ b. b ≡ are_linked m.now.store m.now.next) _
          w.in_ok-blame.ensures (w.are_linked.ensures h) in
          λ is. sym linked ∙ w.if-branch.false)
      | else-eq-via-else-eq w ↦ (let other : c.args.name ≡ Next → ⊥ = search rules in λ is. absurd (other is))
    ] in
    let found = blamed-ok c.open.result c.in_ok-total.field-0 _ (λ o. o ≡ option_map length (bytes_under m name)) _
    c.in_ok-total.ensures (c.open.ensures.found h) in
    let bytes = length-of (bytes_under m name) c.in-Some.total (sym found ∙ c.in-Some.is) in
    let read = blamed-ok c.read_all.result c.in_ok-bytes.bytes _ (λ v. (b : List ℕ)
    → bytes_under (model.machine c.open.new.self) name ≡ Some b → c.in-Some.total ≡ length b → v.items ≡ b) _
    c.in_ok-bytes.ensures (c.read_all.ensures h) in
    let same : bytes_under (model.machine c.open.new.self) name ≡ bytes_under m name =
    ap (λ (x : Machine). bytes_under x name) (c.open.ensures.stays h).same in
    let under : disk.bytes_under (folder_of m) c.args.name ≡ Some bytes.0 =
    read-same m c.args.name apart ∙ ap (bytes_under m) (sym c.file_of-name.ensures) ∙ bytes.1 in
    let within : length bytes.0 ≤ c.args.max = omega (arith, bytes.2, c.if-total-max.false) in
    subst (λ o. disk.Tells o c.args.max (Bytes c.in_ok-bytes.bytes)) (sym under)
    (read bytes.0 (same ∙ bytes.1) bytes.2, within)
