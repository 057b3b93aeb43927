use Rattle.std.proofs.Common.{◌≡◌, ℕ, ◌∙◌, sym, ap, subst}
use Rattle.conf_system.specs.{declared.system.Note.Note, Machine.{PlaceCopy, SyncFolder, after, failing}, Folders.{folder_of, IsTold}}
use Rattle.conf_protocol.{specs.Copying.{IsKept, IsPlaced}, proofs.{Known.safe-off, Moving.{Changes-call, Changes-quiet, Changes-then}}}
use Rattle.conf_protocol.proofs.{Moving.Quiet-joined, Copied.{IsReady, IsPlacing, ready-copied, may-place, placing-done, placing-part}}
use Rattle.conf_protocol.proofs.Copied.{Copies-quiet, Quiet-placing, placed-done, placed-copied, kept-copied, kept-joined, settled-kept}
use Rattle.conf_protocol.proofs.{Copied.kept-none, Told.told-settled, Shown.{call-either, blamed-ok, results, on-ok, on-err, err-always}}
use Rattle.conf_protocol.proofs.copying.put_copy.Goals as goal

pub place_copy-requires : goal.place_copy-requires
place_copy-requires g c h =
    let copies = c.make_copy.ensures.copies h in
    let old : IsReady (g.S.System.model.machine c.args.system.now) = record {
      there = c.requires.there h;
      plain = c.requires.plain h;
      settled = c.requires.settled h;
      apart = c.requires.apart h;
      off = c.requires.off h;
    } in
    may-place (g.S.System.model.machine c.make_copy.new.system) (c.in_default.ensures.copied h)
    (ready-copied (g.S.System.model.machine c.args.system.now) (g.S.System.model.machine c.make_copy.new.system) copies.copy copies.is old)

pub returns-in_err-blame-clause-moments : goal.returns-in_err-blame-clause-moments
returns-in_err-blame-clause-moments g c h =
    let model = g.S.System.model in
    let m = model.machine c.args.system.now in
    let mid = model.machine c.make_copy.new.system in
    let copies = c.make_copy.ensures.copies h in
    let old : IsReady m = record {
      there = c.requires.there h;
      plain = c.requires.plain h;
      settled = c.requires.settled h;
      apart = c.requires.apart h;
      off = c.requires.off h;
    } in
    let ready = ready-copied m mid copies.copy copies.is old in
    let has = c.in_default.ensures.copied h in
    let placing = call-either PlaceCopy mid (model.machine c.place_copy.new.self) c.place_copy.result (IsPlacing mid)
    (c.place_copy.ensures.change h) (placing-done mid has ready) (placing-part mid has ready) in
    Changes-quiet model c.args.system.now c.place_copy.new.self
    (Quiet-joined model c.args.system.now c.make_copy.new.system c.place_copy.new.self
    (Copies-quiet model c.args.system.now c.make_copy.new.system old.off copies)
    (Quiet-placing model c.make_copy.new.system c.place_copy.new.self ready.off placing (c.place_copy.ensures.time h)))

pub returns-in_err-blame-clause-failed : goal.returns-in_err-blame-clause-failed
returns-in_err-blame-clause-failed g c h =
    let model = g.S.System.model in
    let m = model.machine c.args.system.now in
    let mid = model.machine c.make_copy.new.system in
    let copies = c.make_copy.ensures.copies h in
    let old : IsReady m = record {
      there = c.requires.there h;
      plain = c.requires.plain h;
      settled = c.requires.settled h;
      apart = c.requires.apart h;
      off = c.requires.off h;
    } in
    let ready = ready-copied m mid copies.copy copies.is old in
    let has = c.in_default.ensures.copied h in
    let placing = call-either PlaceCopy mid (model.machine c.place_copy.new.self) c.place_copy.result (IsPlacing mid)
    (c.place_copy.ensures.change h) (placing-done mid has ready) (placing-part mid has ready) in
    err-always c.from_residual.result (folder_of (model.machine c.place_copy.new.self) ≡ folder_of m)
    (placing.folder ∙ ap folder_of copies.is)

pub returns-in_err-blame-clause-kept : goal.returns-in_err-blame-clause-kept
returns-in_err-blame-clause-kept g c h =
    let model = g.S.System.model in
    let m = model.machine c.args.system.now in
    let mid = model.machine c.make_copy.new.system in
    let copies = c.make_copy.ensures.copies h in
    let old : IsReady m = record {
      there = c.requires.there h;
      plain = c.requires.plain h;
      settled = c.requires.settled h;
      apart = c.requires.apart h;
      off = c.requires.off h;
    } in
    let ready = ready-copied m mid copies.copy copies.is old in
    let has = c.in_default.ensures.copied h in
    let placing = call-either PlaceCopy mid (model.machine c.place_copy.new.self) c.place_copy.result (IsPlacing mid)
    (c.place_copy.ensures.change h) (placing-done mid has ready) (placing-part mid has ready) in
    kept-joined m mid (model.machine c.place_copy.new.self) (kept-copied m mid copies.copy copies.is) placing.kept

pub returns-clause-placed : goal.returns-clause-placed
returns-clause-placed g c h =
    let model = g.S.System.model in
    let m = model.machine c.args.system.now in
    let mid = model.machine c.make_copy.new.system in
    let copies = c.make_copy.ensures.copies h in
    let old : IsReady m = record {
      there = c.requires.there h;
      plain = c.requires.plain h;
      settled = c.requires.settled h;
      apart = c.requires.apart h;
      off = c.requires.off h;
    } in
    let ready = ready-copied m mid copies.copy copies.is old in
    let has = c.in_default.ensures.copied h in
    let one = model.machine c.place_copy.new.self in
    let new = model.machine c.sync_folder.new.self in
    let placed : one ≡ after PlaceCopy mid = blamed-ok c.place_copy.result _ _ (λ _. one ≡ after PlaceCopy mid) _
    c.in_ok-blame.ensures (c.place_copy.ensures.change h) in
    on-ok c.blame-2.result (new ≡ after SyncFolder one) ((k : ℕ) × (new ≡ failing k SyncFolder one)) (IsPlaced m new)
    (results c.sync_folder.result c.blame-2.result _ _ _ c.blame-2.ensures (c.sync_folder.ensures.change h))
    (λ done. placed-copied m mid new copies.copy copies.is
    (subst (IsPlaced mid) (sym (done ∙ ap (after SyncFolder) placed))
    (placed-done mid (g.met.S.System.sound c.make_copy.new.system h) has ready)))

pub returns-clause-failed : goal.returns-clause-failed
returns-clause-failed g c h =
    let model = g.S.System.model in
    let m = model.machine c.args.system.now in
    let mid = model.machine c.make_copy.new.system in
    let copies = c.make_copy.ensures.copies h in
    let old : IsReady m = record {
      there = c.requires.there h;
      plain = c.requires.plain h;
      settled = c.requires.settled h;
      apart = c.requires.apart h;
      off = c.requires.off h;
    } in
    let ready = ready-copied m mid copies.copy copies.is old in
    let has = c.in_default.ensures.copied h in
    let one = model.machine c.place_copy.new.self in
    let new = model.machine c.sync_folder.new.self in
    let placing = call-either PlaceCopy mid one c.place_copy.result (IsPlacing mid)
    (c.place_copy.ensures.change h) (placing-done mid has ready) (placing-part mid has ready) in
    on-err c.blame-2.result (new ≡ after SyncFolder one) ((k : ℕ) × (new ≡ failing k SyncFolder one)) (folder_of new ≡ folder_of m)
    (results c.sync_folder.result c.blame-2.result _ _ _ c.blame-2.ensures (c.sync_folder.ensures.change h))
    (λ part. ap folder_of part.1 ∙ placing.folder ∙ ap folder_of copies.is)

pub returns-clause-kept : goal.returns-clause-kept
returns-clause-kept g c h =
    let model = g.S.System.model in
    let m = model.machine c.args.system.now in
    let mid = model.machine c.make_copy.new.system in
    let copies = c.make_copy.ensures.copies h in
    let old : IsReady m = record {
      there = c.requires.there h;
      plain = c.requires.plain h;
      settled = c.requires.settled h;
      apart = c.requires.apart h;
      off = c.requires.off h;
    } in
    let ready = ready-copied m mid copies.copy copies.is old in
    let has = c.in_default.ensures.copied h in
    let one = model.machine c.place_copy.new.self in
    let new = model.machine c.sync_folder.new.self in
    let placing = call-either PlaceCopy mid one c.place_copy.result (IsPlacing mid)
    (c.place_copy.ensures.change h) (placing-done mid has ready) (placing-part mid has ready) in
    kept-joined m one new (kept-joined m mid one (kept-copied m mid copies.copy copies.is) placing.kept)
    (call-either SyncFolder one new c.sync_folder.result (IsKept one) (c.sync_folder.ensures.change h)
    (settled-kept one) (λ k. kept-none one))

pub returns-clause-moments : goal.returns-clause-moments
returns-clause-moments g c h =
    let model = g.S.System.model in
    let m = model.machine c.args.system.now in
    let mid = model.machine c.make_copy.new.system in
    let copies = c.make_copy.ensures.copies h in
    let old : IsReady m = record {
      there = c.requires.there h;
      plain = c.requires.plain h;
      settled = c.requires.settled h;
      apart = c.requires.apart h;
      off = c.requires.off h;
    } in
    let ready = ready-copied m mid copies.copy copies.is old in
    let has = c.in_default.ensures.copied h in
    let one = model.machine c.place_copy.new.self in
    let new = model.machine c.sync_folder.new.self in
    let placing = call-either PlaceCopy mid one c.place_copy.result (IsPlacing mid)
    (c.place_copy.ensures.change h) (placing-done mid has ready) (placing-part mid has ready) in
    let kept = call-either SyncFolder one new c.sync_folder.result (IsKept one) (c.sync_folder.ensures.change h)
    (settled-kept one) (λ k. kept-none one) in
    let off = ap (λ (note : Note). note.on_device) (kept.note ∙ placing.kept.note) ∙ ready.off in
    Changes-then model c.args.system.now c.place_copy.new.self c.sync_folder.new.self
    (Quiet-joined model c.args.system.now c.make_copy.new.system c.place_copy.new.self
    (Copies-quiet model c.args.system.now c.make_copy.new.system old.off copies)
    (Quiet-placing model c.make_copy.new.system c.place_copy.new.self ready.off placing (c.place_copy.ensures.time h)))
    (Changes-call model c.place_copy.new.self c.sync_folder.new.self (c.sync_folder.ensures.time h) (safe-off new off)
    (λ told. call-either SyncFolder one new c.sync_folder.result IsTold (c.sync_folder.ensures.change h)
    (told-settled one told) (λ k. told)))
