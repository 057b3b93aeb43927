use Rattle.std.{proofs.Common.{arith, false, ◌≡◌, ◌⊎◌, inl, ⊎_elim, ◌≤◌, Some, Err, refl, sym, ◌∙◌, ap, subst}, specs.Prelude.{ℕ, Option}}
use Rattle.std.specs.Prelude.{None, IfSome}
use Rattle.conf_store.proofs.Prelude.{bytes_under, Image, IsImage, LeavesOnly, Store, Next, LeavesOnly-weaker, LeavesOnly-joined}
use Rattle.conf_store.proofs.{Prelude.{LeavesOnly-now, IsStoreOf, several_waited, store_limit, LeavesStoreOr}, GrownLemmas.found-base}
use Rattle.conf_store.proofs.OpenLemmas.{base-format, image-meant, loaded-meant, state-meant, found-means, found-durable, failed-later}
use Rattle.conf_store.proofs.OpenLemmas.{reads-stays, reads-staged, refused-nothing, disk-refused, disk-no-meaning, disk-device}
use Rattle.conf_store.proofs.{HeldLemmas.{durable-held, held-means}, StoreLemmas.quiet-flushed, FileLemmas.{held-length, files-stay}}
use Rattle.conf_store.proofs.FileLemmas.{images-old, not-needed, kept-as-it-is, disk-memory, base-leaves, base-reads}
use Rattle.conf_store.specs.{Opens.{file_format, MeantAtEntry}, Durable.{IsDurable, IsStaging}, Grown.FileStartsWithBase}
use Rattle.conf_store.specs.{Grown.StagedStartsWithBase, Staged.staged_length, Meaning.ImageMeans, Files.{FilesStay, IsOldOrBase}}
use Rattle.{conf_store.specs.Files.LeavesOldOrBase, conf_record.specs.Formats.base_in}
use Rattle.conf_store.proofs.store.Store.open.Goals as goal

pub returns-in-Err-clause-no_meaning : goal.returns-in-Err-clause-no_meaning
returns-in-Err-clause-no_meaning g c h =
    refused-nothing c.bytes_mean_one_state.ensures.refused c.in-Err.fault
    (several_waited (g.D.Disk.model.folder c.args.disk)) (bytes_under (g.D.Disk.model.folder c.args.disk) Store)
    (c.in-Err.ensures.refused h)

pub returns-in-Err-write_base-clause-refused : goal.returns-in-Err-write_base-clause-refused
returns-in-Err-write_base-clause-refused g c h =
    disk-refused c.in-Err-write_base.fault c.from.result (several_waited (g.D.Disk.model.folder c.args.disk))
    (bytes_under (g.D.Disk.model.folder c.args.disk) Store) c.from.ensures

pub returns-in-Err-write_base-clause-no_meaning : goal.returns-in-Err-write_base-clause-no_meaning
returns-in-Err-write_base-clause-no_meaning g c h =
    disk-no-meaning c.in-Err-write_base.fault c.from.result (several_waited (g.D.Disk.model.folder c.args.disk))
    (bytes_under (g.D.Disk.model.folder c.args.disk) Store) c.from.ensures

pub returns-in-Err-write_base-clause-cause : goal.returns-in-Err-write_base-clause-cause
returns-in-Err-write_base-clause-cause g c e =
    let count = g.D.Disk.model.failure_count in
    failed-later (count c.args.disk) (count c.find_store.new.disk)
    (count c.write_base.new.disk) c.find_store.ensures.risen c.write_base.ensures.risen
    (c.write_base.ensures.cause (c.in-Err-write_base.is ∙ ap Err (disk-device c.in-Err-write_base.fault (sym c.from.ensures ∙ e))))

pub returns-in-Err-write_base-clause-any_moment : goal.returns-in-Err-write_base-clause-any_moment
returns-in-Err-write_base-clause-any_moment g c h =
    let d = g.D.Disk in
    let old = c.args.disk in
    let mid = c.find_store.new.disk in
    let s = c.in-Ok.found.state in
    LeavesOnly-joined d.model old mid c.write_base.new.disk (IsImage (d.model.folder old))
    (λ image. IsStoreOf (d.model.folder mid) image ⊎ ImageMeans image s) (MeantAtEntry (d.model.folder old))
    (c.find_store.ensures.any_moment h) (c.write_base.ensures.any_moment h) (image-meant (d.model.folder old))
    (λ image. ⊎_elim
    (loaded-meant (d.model.folder old) (d.model.folder mid) (LeavesOnly-now d.model old mid (IsImage (d.model.folder old))
    (λ t image le is. g.met.D.Disk.counts_now mid t image h le is) (c.find_store.ensures.any_moment h)) image)
    (state-meant c.bytes_mean_one_state.ensures.one
    c.reading_is_an_image.ensures (d.model.folder old) s _ _ _ (c.in-Ok.ensures.ok h) image))

pub invariant_of-store : goal.invariant_of-store
invariant_of-store g c =
    let d = g.D.Disk in
    let s = c.in-Ok.found.state in
    let store = bytes_under (d.model.folder c.args.disk) Store in (
      elim c.match-size.branch [
        | goal.in-Some w ↦ subst (λ (p : ℕ × ℕ). p.0 ≤ store_limit) (sym w.size-is)
            (subst (bounded c.in-Ok.found.base) w.in-Some.is c.in-Ok.ensures.bound).0
        | goal.in-None+in-Ok-write_base w ↦ (let short = w.in-Ok-write_base.ensures.short in
            subst (λ (p : ℕ × ℕ). p.0 ≤ store_limit) (sym w.size-is) short)
      ],
      c.in-Ok.ensures.limits,
      subst (λ x. staged_length x ≤ store_limit) (sym (c.none.ensures.none s)) (omega arith),
      λ h same. (
        durable-held (d.model.folder c.match-size.disk) s c.match-size.size.0 false (elim c.match-size.branch [
          | goal.in-Some w ↦
              subst (λ (p : ℕ × ℕ). IsDurable (d.model.folder c.match-size.disk) s p.0) (sym w.size-is)
              (subst (λ (x : g.row.D.Denot). IsDurable (d.model.folder x) s w.in-Some.size) (sym w.disk-is)
              (found-durable (d.model.folder c.find_store.new.disk) (several_waited (d.model.folder c.args.disk)) store s
              c.in-Ok.found.opened.commands
              c.in-Ok.found.opened.dropped w.in-Some.size c.in-Ok.found.size
              (c.in-Ok.ensures.ok h) w.in-Some.is (c.in-Ok.ensures.holds h)))
          | goal.in-None+in-Ok-write_base w ↦
              subst (λ (p : ℕ × ℕ). IsDurable (d.model.folder c.match-size.disk) s p.0) (sym w.size-is)
              (subst (λ (x : g.row.D.Denot). IsDurable (d.model.folder x) s w.in-Ok-write_base.size) (sym w.disk-is)
              (w.in-Ok-write_base.ensures.durable h))
        ]),
        subst (IsStaging (d.model.folder c.match-size.disk) s) (sym (c.none.ensures.none s)) tt,
      ),
      elim c.match-size.branch [
        | goal.in-Some w ↦ subst (λ (p : ℕ × ℕ). p.1 ≤ p.0) (sym w.size-is)
            (subst (bounded c.in-Ok.found.base) w.in-Some.is c.in-Ok.ensures.bound).1
        | goal.in-None+in-Ok-write_base w ↦ subst (λ (p : ℕ × ℕ). p.1 ≤ p.0) (sym w.size-is) (omega arith)
      ],
      omega arith,
      λ h same. (
        elim c.match-size.branch [
          | goal.in-Some w ↦
              subst (λ (p : ℕ × ℕ). FileStartsWithBase (bytes_under (d.model.folder c.match-size.disk) Store) p.1) (sym w.size-is)
              (subst (λ (x : g.row.D.Denot). FileStartsWithBase (bytes_under (d.model.folder x) Store) c.in-Ok.found.base) (sym w.disk-is)
              (subst (λ o. FileStartsWithBase o c.in-Ok.found.base)
              (sym (c.held_store_is_the_only_one.ensures.reads (d.model.folder c.find_store.new.disk) store
              (c.in-Ok.ensures.holds h)))
              (found-base (several_waited (d.model.folder c.args.disk)) store s c.in-Ok.found.opened.commands
              c.in-Ok.found.opened.dropped w.in-Some.size
              c.in-Ok.found.size c.in-Ok.found.base
              (c.in-Ok.ensures.ok h) w.in-Some.is (c.in-Ok.ensures.base h))))
          | goal.in-None+in-Ok-write_base w ↦
              subst (λ (p : ℕ × ℕ). FileStartsWithBase (bytes_under (d.model.folder c.match-size.disk) Store) p.1) (sym w.size-is)
              (subst (λ (x : g.row.D.Denot). FileStartsWithBase
              (bytes_under (d.model.folder x) Store) w.in-Ok-write_base.size) (sym w.disk-is)
              (w.in-Ok-write_base.ensures.starts h))
        ],
        subst (λ x. StagedStartsWithBase (d.model.folder c.match-size.disk) x 0) (sym (c.none.ensures.none s)) tt,
      ),
      c.none.ensures.ready s.configs,
    )
  where
    bounded : ℕ → Option ℕ → Type 0
    bounded base size = IfSome size (λ n. (n ≤ store_limit) × (base ≤ n))

pub returns-clause-any_moment : goal.returns-clause-any_moment
returns-clause-any_moment g c h =
    let d = g.D.Disk in
    let old = c.args.disk in
    let mid = c.find_store.new.disk in
    let s = c.in-Ok.found.state in
    let R : Image → Type 0 = MeantAtEntry (d.model.folder old) in
    elim c.match-size.branch [
      | goal.in-Some w ↦
          subst (λ (x : g.row.D.Denot). LeavesOnly d.model old x R) (sym w.disk-is)
          (LeavesOnly-weaker d.model old mid (IsImage (d.model.folder old)) R (c.find_store.ensures.any_moment h)
          (image-meant (d.model.folder old)))
      | goal.in-None+in-Ok-write_base w ↦
          subst (λ (x : g.row.D.Denot). LeavesOnly d.model old x R) (sym w.disk-is)
          (LeavesOnly-joined d.model old mid w.write_base.new.disk (IsImage (d.model.folder old))
          (λ image. IsStoreOf (d.model.folder mid) image ⊎ ImageMeans image s) R
          (c.find_store.ensures.any_moment h) (w.write_base.ensures.any_moment h) (image-meant (d.model.folder old))
          (λ image. ⊎_elim
          (loaded-meant (d.model.folder old) (d.model.folder mid) (LeavesOnly-now d.model old mid (IsImage (d.model.folder old))
          (λ t image le is. g.met.D.Disk.counts_now mid t image h le is) (c.find_store.ensures.any_moment h)) image)
          (state-meant c.bytes_mean_one_state.ensures.one
          c.reading_is_an_image.ensures (d.model.folder old) s _ _ _ (c.in-Ok.ensures.ok h) image)))
    ]

pub returns-clause-means : goal.returns-clause-means
returns-clause-means g c h =
    found-means (several_waited (g.D.Disk.model.folder c.args.disk)) (bytes_under (g.D.Disk.model.folder c.args.disk) Store)
    c.in-Ok.found.state
    c.in-Ok.found.opened.commands c.in-Ok.found.opened.dropped c.in-Ok.found.size (c.in-Ok.ensures.ok h)

pub returns-clause-now : goal.returns-clause-now
returns-clause-now g c h =
    let d = g.D.Disk in
    let s = c.in-Ok.found.state in
    held-means c.held_store_is_left.ensures.noted c.holes_mean.ensures
    (d.model.folder c.match-size.disk) s c.match-size.size.0 false ((invariant_of-store g c).3 h refl).0 refl

pub returns-clause-reads : goal.returns-clause-reads
returns-clause-reads g c h =
    let d = g.D.Disk in
    let s = c.in-Ok.found.state in
    let store = bytes_under (d.model.folder c.args.disk) Store in
    elim c.match-size.branch [
      | goal.in-Some w ↦
          reads-stays (several_waited (d.model.folder c.args.disk)) store _ s c.in-Ok.found.opened.commands c.in-Ok.found.opened.dropped
          w.in-Some.size
          c.in-Ok.found.size (c.in-Ok.ensures.ok h) w.in-Some.is
          (subst (λ (x : g.row.D.Denot). bytes_under (d.model.folder x) Store ≡ store) (sym w.disk-is)
          (c.held_store_is_the_only_one.ensures.reads (d.model.folder c.find_store.new.disk) store (c.in-Ok.ensures.holds h)))
      | goal.in-None+in-Ok-write_base w ↦
          reads-staged (several_waited (d.model.folder c.args.disk)) store _ s c.in-Ok.found.opened.commands c.in-Ok.found.opened.dropped
          c.in-Ok.found.size
          (c.in-Ok.ensures.ok h) w.in-None.is
          (subst (λ (x : g.row.D.Denot). bytes_under (d.model.folder x) Store ≡ Some (base_in (file_format store) s)) (sym w.disk-is)
          (w.in-Ok-write_base.ensures.reads h ∙ ap (λ f. Some (base_in f s)) (c.in-Ok.ensures.format h)))
    ]

pub returns-clause-size : goal.returns-clause-size
returns-clause-size g c h =
    let d = g.D.Disk in
    held-length (d.model.folder c.match-size.disk) c.in-Ok.found.state c.match-size.size.0 false ((invariant_of-store g c).3 h refl).0

pub returns-clause-flushed : goal.returns-clause-flushed
returns-clause-flushed g c h =
    let d = g.D.Disk in
    quiet-flushed (d.model.folder c.match-size.disk) c.in-Ok.found.state c.match-size.size.0 false
    ((invariant_of-store g c).3 h refl).0 refl

pub returns-in-Err-clause-risen : goal.returns-in-Err-clause-risen
returns-in-Err-clause-risen g c = c.find_store.ensures.risen

pub returns-in-Err-write_base-clause-risen : goal.returns-in-Err-write_base-clause-risen
returns-in-Err-write_base-clause-risen g c =
    let first = c.find_store.ensures.risen in
    let second = c.write_base.ensures.risen in
    omega (arith, first, second)

pub returns-clause-risen : goal.returns-clause-risen
returns-clause-risen g c =
    let count = g.D.Disk.model.failure_count in
    let first = c.find_store.ensures.risen in
    elim c.match-size.branch [
      | goal.in-Some w ↦ subst (λ (x : g.row.D.Denot). count c.args.disk ≤ count x) (sym w.disk-is) first
      | goal.in-None+in-Ok-write_base w ↦
          subst (λ (x : g.row.D.Denot). count c.args.disk ≤ count x) (sym w.disk-is)
          (let second = w.write_base.ensures.risen in omega (arith, first, second))
    ]

pub returns-clause-gone : goal.returns-clause-gone
returns-clause-gone g c h needed =
    let d = g.D.Disk in
    let store = bytes_under (d.model.folder c.args.disk) Store in
    elim c.match-size.branch [
      | goal.in-Some w ↦
          absurd (kept-as-it-is (several_waited (d.model.folder c.args.disk)) store c.in-Ok.found.state c.in-Ok.found.opened.commands
          c.in-Ok.found.opened.dropped
          w.in-Some.size c.in-Ok.found.size (c.in-Ok.ensures.ok h) w.in-Some.is needed)
      | goal.in-None+in-Ok-write_base w ↦
          subst (λ (x : g.row.D.Denot). bytes_under (d.model.folder x) Next ≡ None) (sym w.disk-is) (w.in-Ok-write_base.ensures.gone h)
    ]

-- ---- the files

pub returns-in-Err-clause-refused_stays : goal.returns-in-Err-clause-refused_stays
returns-in-Err-clause-refused_stays g c h some =
    let d = g.D.Disk in
    let new = c.find_store.new.disk in
    files-stay d.model c.args.disk new (λ t image le is. g.met.D.Disk.counts_now new t image h le is)
    (c.find_store.ensures.reads h) (c.find_store.ensures.any_moment h)

pub returns-in-Err-clause-old_or_base : goal.returns-in-Err-clause-old_or_base
returns-in-Err-clause-old_or_base g c h = inl (ap (λ (image : Image). image.store) (c.find_store.ensures.reads h))

pub returns-in-Err-clause-leaves : goal.returns-in-Err-clause-leaves
returns-in-Err-clause-leaves g c h =
    let d = g.D.Disk in
    images-old d.model c.args.disk c.find_store.new.disk (c.find_store.ensures.any_moment h)

-- without memory for the base, nothing was written
pub returns-in-Err-write_base-clause-refused_stays : goal.returns-in-Err-write_base-clause-refused_stays
returns-in-Err-write_base-clause-refused_stays g c h some =
    let d = g.D.Disk in
    let old = c.args.disk in
    let mid = c.find_store.new.disk in
    let memory = disk-memory c.in-Err-write_base.fault c.from.result c.from.ensures some in
    let same : c.write_base.new.disk ≡ mid = c.write_base.ensures.unchanged (c.in-Err-write_base.is ∙ ap Err memory) in
    subst (λ (x : g.row.D.Denot). FilesStay d.model old x) (sym same)
    (files-stay d.model old mid (λ t image le is. g.met.D.Disk.counts_now mid t image h le is)
    (c.find_store.ensures.reads h) (c.find_store.ensures.any_moment h))

pub returns-in-Err-write_base-clause-old_or_base : goal.returns-in-Err-write_base-clause-old_or_base
returns-in-Err-write_base-clause-old_or_base g c h =
    let d = g.D.Disk in
    let new = c.write_base.new.disk in
    base-reads d.model c.args.disk c.find_store.new.disk new c.in-Ok.found.state _ _ c.in-Ok.found.size (c.in-Ok.ensures.ok h)
    c.in-None.is (subst (λ f. LeavesStoreOr d.model (Some (base_in f c.in-Ok.found.state)) c.find_store.new.disk new)
    (c.in-Ok.ensures.format h) (c.write_base.ensures.leaves h)) c.reading_is_an_image.ensures c.held_store_is_the_only_one.ensures.left
    (c.in-Ok.ensures.holds h) (λ t image le is. g.met.D.Disk.counts_now new t image h le is)

pub returns-in-Err-write_base-clause-leaves : goal.returns-in-Err-write_base-clause-leaves
returns-in-Err-write_base-clause-leaves g c h =
    let d = g.D.Disk in
    let mid = c.find_store.new.disk in
    base-leaves d.model c.args.disk mid c.write_base.new.disk c.in-Ok.found.state _ _ c.in-Ok.found.size
    (c.in-Ok.ensures.ok h) c.in-None.is
    (subst (λ f. LeavesStoreOr d.model (Some (base_in f c.in-Ok.found.state)) mid c.write_base.new.disk)
    (c.in-Ok.ensures.format h) (c.write_base.ensures.leaves h))
    (LeavesOnly-now d.model c.args.disk mid (IsImage (d.model.folder c.args.disk))
    (λ t image le is. g.met.D.Disk.counts_now mid t image h le is) (c.find_store.ensures.any_moment h))
    (c.find_store.ensures.any_moment h)

pub returns-clause-whole_stays : goal.returns-clause-whole_stays
returns-clause-whole_stays g c h none some =
    let d = g.D.Disk in
    let old = c.args.disk in
    let mid = c.find_store.new.disk in
    elim c.match-size.branch [
      | goal.in-Some w ↦
          subst (λ (x : g.row.D.Denot). FilesStay d.model old x) (sym w.disk-is)
          (files-stay d.model old mid (λ t image le is. g.met.D.Disk.counts_now mid t image h le is)
          (c.find_store.ensures.reads h) (c.find_store.ensures.any_moment h))
      | goal.in-None+in-Ok-write_base w ↦
          absurd (not-needed (several_waited (d.model.folder old)) (bytes_under (d.model.folder old) Store) c.in-Ok.found.state _
          c.in-Ok.found.opened.dropped c.in-Ok.found.size (c.in-Ok.ensures.ok h) w.in-None.is none some)
    ]

pub returns-clause-old_or_base : goal.returns-clause-old_or_base
returns-clause-old_or_base g c h =
    let d = g.D.Disk in
    let store = bytes_under (d.model.folder c.args.disk) Store in
    let note = several_waited (d.model.folder c.args.disk) in
    elim c.match-size.branch [
      | goal.in-Some w ↦
          subst (λ (x : g.row.D.Denot). IsOldOrBase note store (bytes_under (d.model.folder x) Store)) (sym w.disk-is)
          (inl (ap (λ (image : Image). image.store) (c.find_store.ensures.reads h)))
      | goal.in-None+in-Ok-write_base w ↦
          subst (λ (x : g.row.D.Denot). IsOldOrBase note store (bytes_under (d.model.folder x) Store)) (sym w.disk-is)
          (let new = w.write_base.new.disk in
          base-reads d.model c.args.disk c.find_store.new.disk new c.in-Ok.found.state _ _ c.in-Ok.found.size (c.in-Ok.ensures.ok h)
          w.in-None.is (subst (λ f. LeavesStoreOr d.model (Some (base_in f c.in-Ok.found.state)) c.find_store.new.disk new)
          (c.in-Ok.ensures.format h) (w.write_base.ensures.leaves h)) c.reading_is_an_image.ensures
          c.held_store_is_the_only_one.ensures.left
          (c.in-Ok.ensures.holds h) (λ t image le is. g.met.D.Disk.counts_now new t image h le is))
    ]

pub returns-clause-leaves : goal.returns-clause-leaves
returns-clause-leaves g c h =
    let d = g.D.Disk in
    let old = c.args.disk in
    elim c.match-size.branch [
      | goal.in-Some w ↦
          subst (λ (x : g.row.D.Denot). LeavesOldOrBase d.model old x) (sym w.disk-is)
          (images-old d.model old c.find_store.new.disk (c.find_store.ensures.any_moment h))
      | goal.in-None+in-Ok-write_base w ↦
          subst (λ (x : g.row.D.Denot). LeavesOldOrBase d.model old x) (sym w.disk-is)
          (let mid = c.find_store.new.disk in
          base-leaves d.model old mid w.write_base.new.disk c.in-Ok.found.state _ _ c.in-Ok.found.size (c.in-Ok.ensures.ok h)
          w.in-None.is (subst (λ f. LeavesStoreOr d.model (Some (base_in f c.in-Ok.found.state)) mid w.write_base.new.disk)
          (c.in-Ok.ensures.format h) (w.write_base.ensures.leaves h)) (LeavesOnly-now d.model old mid (IsImage (d.model.folder old))
          (λ t image le is. g.met.D.Disk.counts_now mid t image h le is) (c.find_store.ensures.any_moment h))
          (c.find_store.ensures.any_moment h))
    ]

-- ---- the format

pub returns-clause-format : goal.returns-clause-format
returns-clause-format g c h = c.in-Ok.ensures.format h

pub returns-clause-format_now : goal.returns-clause-format_now
returns-clause-format_now g c h =
    let d = g.D.Disk in
    let s = c.in-Ok.found.state in
    let store = bytes_under (d.model.folder c.args.disk) Store in
    elim c.match-size.branch [
      | goal.in-Some w ↦
          subst (λ (x : g.row.D.Denot). c.in-Ok.found.format ≡ file_format (bytes_under (d.model.folder x) Store)) (sym w.disk-is)
          (c.in-Ok.ensures.format h ∙ ap file_format
          (sym (c.held_store_is_the_only_one.ensures.reads (d.model.folder c.find_store.new.disk) store (c.in-Ok.ensures.holds h))))
      | goal.in-None+in-Ok-write_base w ↦
          subst (λ (x : g.row.D.Denot). c.in-Ok.found.format ≡ file_format (bytes_under (d.model.folder x) Store)) (sym w.disk-is)
          (base-format c.formats_are_told.ensures.told c.in-Ok.found.format s _ (w.in-Ok-write_base.ensures.reads h))
    ]
