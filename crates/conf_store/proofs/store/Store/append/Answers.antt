use Rattle.std.proofs.Common.{rules, arith, ◌≡◌, ◌⊎◌, inl, inr, ⊎_elim, ◌+◌, ◌≤◌, max, false, true, length, string_bytes, Some, Ok, Err}
use Rattle.std.proofs.Common.{refl, sym, ◌∙◌, ap, subst}
use Rattle.conf_store.proofs.Prelude.{false≢true, Image, bytes_under, LeavesOnly, Store, store_limit, file_with_bytes, command_of, Reopen}
use Rattle.conf_store.proofs.{Prelude.Device, RefusalLemmas.refusal-returned, GrownLemmas.{file-more, staged-base-more}}
use Rattle.conf_store.proofs.{StagedLemmas.{staging-more, text-more, length-more, length-least}, StoreLemmas.{start-prefix, or-means}}
use Rattle.conf_store.{proofs.StoreLemmas.{append-leaves, append-held, append-flushed}, specs.{Stagings.staged_of, Meaning.ImageMeans}}
use Rattle.conf_store.specs.{Grown.{FileStartsWithBase, StagedStartsWithBase}, Staged.{staged_length, with_more}, View.StoreView}
use Rattle.conf_store.specs.{Accepting.IsAccepted, Durable.{HasFlushed, MeansPrefix, IsHeld, IsStaging, staged_text}, Calls.outcome}
use Rattle.conf_store.specs.Calls.{journal_length, next_record, AcceptsBy}
use Rattle.conf_store.proofs.store.Store.append.Goals as goal

-- ---- a command that is refused

pub returns-in-Err-clause-reopen : goal.returns-in-Err-clause-reopen
returns-in-Err-clause-reopen g c = (
  λ e. absurd (c.in-Err.ensures.of_state.0 (let same : c.in-Err.fault ≡ Reopen = cc e in same)),
  λ on. absurd (false≢true (sym c.if-self.false ∙ ap (λ (s : StoreView g.row.D.Denot). s.reopen) c.self.view_is ∙ on)),
)

pub returns-in-Err-clause-device : goal.returns-in-Err-clause-device
returns-in-Err-clause-device g c e = absurd (c.in-Err.ensures.of_state.1 (let same : c.in-Err.fault ≡ Device = cc e in same))

pub returns-in-Err-clause-cause : goal.returns-in-Err-clause-cause
returns-in-Err-clause-cause g c e = absurd (c.in-Err.ensures.of_state.1 (let same : c.in-Err.fault ≡ Device = cc e in same))

pub returns-in-Err-clause-refused : goal.returns-in-Err-clause-refused
returns-in-Err-clause-refused g c =
    let inside = c.self.inside in
    let command = command_of c.args.command in
    refusal-returned c.args.self.now (record {
      disk = inside.disk;
      state = c.accept.new.state;
      size = inside.size;
      staged = (staged_of c.accept.new.state c.accept.new.staging);
      format = inside.format;
      reopen = inside.reopen;
    }) command c.in-Err.fault
    c.in-Err.ensures.of_state
    (⊎_elim (λ memory. inl memory)
    (λ e. inr (subst (λ (s : StoreView g.row.D.Denot). outcome (journal_length s) s.state command ≡ Err c.in-Err.fault) c.self.view_is e))
    c.in-Err.ensures.refused)

pub returns-in-Err-clause-any_moment : goal.returns-in-Err-clause-any_moment
returns-in-Err-clause-any_moment g c h on flushed since has =
    let d = g.D.Disk in
    let inside = c.self.inside in
    let held = c.self.invariant.3 h c.if-self.false in
    let new = c.accept.new.state in
    subst (λ (s : StoreView g.row.D.Denot). HasFlushed (d.model.folder s.disk) flushed since s.state
    → LeavesOnly d.model s.disk inside.disk (λ image. MeansPrefix flushed since image ⊎ ImageMeans image new)) c.self.view_is
    (λ inner. or-means d.model inside.disk inside.disk flushed new since
    (start-prefix d.model inside.disk inside.state inside.size inside.waits c.held_store_is_left.ensures.noted
    c.holes_mean.ensures (λ image left. g.met.D.Disk.only_now inside.disk image h left) held.0 flushed
    since inner)) has

pub returns-in-Err-clause-risen : goal.returns-in-Err-clause-risen
returns-in-Err-clause-risen g c =
    let count = g.D.Disk.model.failure_count in
    subst (λ (s : StoreView g.row.D.Denot). count s.disk ≤ count c.self.inside.disk) c.self.view_is (omega arith)

pub returns-in-Err-clause-unchanged : goal.returns-in-Err-clause-unchanged
returns-in-Err-clause-unchanged g c some =
    let inside = c.self.inside in
    ap (λ s. record {
      disk = inside.disk;
      state = s;
      size = inside.size;
      staged = (staged_of c.accept.new.state c.accept.new.staging);
      format = inside.format;
      reopen = inside.reopen;
    }) c.in-Err.ensures.unchanged
    ∙ ap (λ s. record {
      disk = inside.disk;
      state = inside.state;
      size = inside.size;
      staged = s;
      format = inside.format;
      reopen = inside.reopen;
    }) c.in-Err.ensures.unstaged
    ∙ c.self.view_is

-- ---- its record is appended

pub invariant_of-self-in-Ok-append_store : goal.invariant_of-self-in-Ok-append_store
invariant_of-self-in-Ok-append_store g c =
    let d = g.D.Disk in
    let inside = c.self.inside in
    let bytes = c.as_bytes.result.now in
    let command = command_of c.args.command in
    let longest = max inside.size (staged_length (staged_of inside.state inside.staging)) in
    let ok = subst (λ b. IsAccepted inside.state command c.accept.new.state longest b)
    (sym c.as_bytes.ensures.value) c.in-Ok.ensures.ok.0 in
    let staged : (staged_of c.accept.new.state c.accept.new.staging)
    ≡ with_more bytes (staged_of inside.state inside.staging) = c.in-Ok.ensures.staged
    ∙ ap (λ b. with_more b (staged_of inside.state inside.staging)) (sym c.as_bytes.ensures.value) in
    let long : c.len.result ≡ length bytes = search rules in
    let short = ok.short in (
      (omega (arith, short, long)),
      ok.kept,
      subst (λ s. staged_length s ≤ store_limit) (sym staged)
          (length-more bytes (staged_of inside.state inside.staging) store_limit (omega (arith, short))),
      λ h on.
          (let held = c.self.invariant.3 h c.if-self.false in
          let new = c.append_store.new.disk in
          let next = ap (λ (image : Image). image.next) (c.in-Ok-append_store.ensures.reads h) in (
            subst (λ n. IsHeld (d.model.folder new) c.accept.new.state (inside.size + n) true) (sym long)
                (append-held (d.model.folder inside.disk)
                (d.model.folder new) inside.state c.accept.new.state command inside.size longest inside.waits
                bytes held.0 (omega arith) ok c.documents_close.ensures.records
                (ap (λ (image : Image). image.several) (c.in-Ok-append_store.ensures.reads h))
                (c.in-Ok-append_store.ensures.holds h (Some held.0.file) held.0.holds)),
            subst (λ s. IsStaging (d.model.folder new) c.accept.new.state s) (sym staged)
                (staging-more (d.model.folder inside.disk)
                (d.model.folder new) inside.state c.accept.new.state command bytes
                (staged_of inside.state inside.staging) next ok.closes ok.reads ok.done held.1),
          )),
      omega (arith, c.self.invariant.4),
      subst (λ s. inside.staged_base ≤ staged_length s) (sym staged)
          (length-least bytes (staged_of inside.state inside.staging) inside.staged_base c.self.invariant.5),
      λ h on.
          (let starts = c.self.invariant.6 h c.if-self.false in
          let new = c.append_store.new.disk in
          let reads = c.in-Ok-append_store.ensures.reads h in (
            subst (λ o. FileStartsWithBase o inside.base) (sym (ap (λ (image : Image). image.store) reads))
                (file-more (bytes_under (d.model.folder inside.disk) Store) bytes inside.base starts.0),
            subst (λ s. StagedStartsWithBase (d.model.folder new) s inside.staged_base) (sym staged)
                (staged-base-more (d.model.folder inside.disk) (d.model.folder new) bytes
                (staged_of inside.state inside.staging) inside.staged_base
                (ap (λ (image : Image). image.next) reads) starts.1),
          )),
      c.in-Ok.ensures.ready,
    )

pub returns-in-Ok-append_store-clause-ok : goal.returns-in-Ok-append_store-clause-ok
returns-in-Ok-append_store-clause-ok g c =
    let inside = c.self.inside in
    let command = command_of c.args.command in
    let ok = c.in-Ok.ensures.ok.0 in
    let long : c.len.result ≡ length (string_bytes c.in-Ok.accepted.0) = search rules in (
      subst (λ (s : StoreView g.row.D.Denot). AcceptsBy false s command
          (record {
            disk = c.append_store.new.disk;
            state = c.accept.new.state;
            size = inside.size + c.len.result;
            staged = (staged_of c.accept.new.state c.accept.new.staging);
            format = inside.format;
            reopen = inside.reopen;
          })) c.self.view_is
          (record {
            step = ok.outcome;
            count = ok.count;
            size = ap (λ n. inside.size + n) (long ∙ ap length ok.is);
            staged = c.in-Ok.ensures.staged ∙ ap (λ b. with_more b (staged_of inside.state inside.staging)) ok.is;
            format = refl;
            reopen = c.if-self.false;
          }),
      c.in-Ok.ensures.ok.1,
    )

pub returns-in-Ok-append_store-clause-reads : goal.returns-in-Ok-append_store-clause-reads
returns-in-Ok-append_store-clause-reads g c h on =
    let d = g.D.Disk in
    let inside = c.self.inside in
    let command = command_of c.args.command in
    let now = bytes_under (d.model.folder c.append_store.new.disk) Store in
    subst (λ (s : StoreView g.row.D.Denot). now
    ≡ file_with_bytes (bytes_under (d.model.folder s.disk) Store) (next_record s.state command)) c.self.view_is
    (ap (λ (image : Image). image.store) (c.in-Ok-append_store.ensures.reads h)
    ∙ ap (file_with_bytes (bytes_under (d.model.folder inside.disk) Store)) (c.as_bytes.ensures.value ∙ c.in-Ok.ensures.ok.0.is))

pub returns-in-Ok-append_store-clause-stages : goal.returns-in-Ok-append_store-clause-stages
returns-in-Ok-append_store-clause-stages g c h on =
    let d = g.D.Disk in
    let inside = c.self.inside in
    let command = command_of c.args.command in
    let new = d.model.folder c.append_store.new.disk in
    let record_ = next_record inside.state command in
    let staged : (staged_of c.accept.new.state c.accept.new.staging)
    ≡ with_more record_ (staged_of inside.state inside.staging) = c.in-Ok.ensures.staged
    ∙ ap (λ b. with_more b (staged_of inside.state inside.staging)) c.in-Ok.ensures.ok.0.is in
    subst (λ (s : StoreView g.row.D.Denot). staged_text new (staged_of c.accept.new.state c.accept.new.staging)
    ≡ file_with_bytes (staged_text (d.model.folder s.disk) s.staged) (next_record s.state command)) c.self.view_is
    (ap (staged_text new) staged ∙ text-more (d.model.folder inside.disk) new record_
    (staged_of inside.state inside.staging) (ap (λ (image : Image). image.next) (c.in-Ok-append_store.ensures.reads h)))

pub returns-in-Ok-append_store-clause-any_moment : goal.returns-in-Ok-append_store-clause-any_moment
returns-in-Ok-append_store-clause-any_moment g c h on flushed since has =
    let d = g.D.Disk in
    let inside = c.self.inside in
    let bytes = c.as_bytes.result.now in
    let command = command_of c.args.command in
    let longest = max inside.size (staged_length (staged_of inside.state inside.staging)) in
    let ok = subst (λ b. IsAccepted inside.state command c.accept.new.state longest b)
    (sym c.as_bytes.ensures.value) c.in-Ok.ensures.ok.0 in
    let held = c.self.invariant.3 h c.if-self.false in
    subst (λ (s : StoreView g.row.D.Denot). HasFlushed (d.model.folder s.disk) flushed since s.state
    → LeavesOnly d.model s.disk c.append_store.new.disk
    (λ image. MeansPrefix flushed since image ⊎ ImageMeans image c.accept.new.state)) c.self.view_is
    (λ inner. append-leaves d.model inside.disk c.append_store.new.disk
    (d.model.folder inside.disk) inside.state c.accept.new.state command inside.size longest inside.waits bytes
    c.holes_mean.ensures c.documents_close.ensures.records held.0 (omega arith) ok flushed since inner
    ((c.append_store.ensures.leaves h).held (Some held.0.file) held.0.holds)) has

pub returns-in-Ok-append_store-clause-waits : goal.returns-in-Ok-append_store-clause-waits
returns-in-Ok-append_store-clause-waits g c h on flushed since has =
    let d = g.D.Disk in
    let inside = c.self.inside in
    let bytes = c.as_bytes.result.now in
    let command = command_of c.args.command in
    let longest = max inside.size (staged_length (staged_of inside.state inside.staging)) in
    let ok = subst (λ b. IsAccepted inside.state command c.accept.new.state longest b)
    (sym c.as_bytes.ensures.value) c.in-Ok.ensures.ok.0 in
    let held = c.self.invariant.3 h c.if-self.false in
    append-flushed (d.model.folder inside.disk)
    (d.model.folder c.append_store.new.disk) inside.state c.accept.new.state command inside.size longest
    inside.waits bytes held.0 (omega arith) ok c.documents_close.ensures.records
    (ap (λ (image : Image). image.several) (c.in-Ok-append_store.ensures.reads h))
    (c.in-Ok-append_store.ensures.holds h (Some held.0.file) held.0.holds) flushed since
    (subst (λ (s : StoreView g.row.D.Denot). HasFlushed (d.model.folder s.disk) flushed since s.state) (sym c.self.view_is) has)

pub returns-in-Ok-append_store-clause-reopen : goal.returns-in-Ok-append_store-clause-reopen
returns-in-Ok-append_store-clause-reopen g c =
    let off : c.args.self.now.reopen ≡ false = ap (λ (s : StoreView g.row.D.Denot). s.reopen) (sym c.self.view_is) ∙ c.if-self.false in
    (λ e. absurd (cc e), λ on. absurd (false≢true (sym off ∙ on)))

pub returns-in-Ok-append_store-clause-device : goal.returns-in-Ok-append_store-clause-device
returns-in-Ok-append_store-clause-device g c e = absurd (cc e)

pub returns-in-Ok-append_store-clause-cause : goal.returns-in-Ok-append_store-clause-cause
returns-in-Ok-append_store-clause-cause g c e = absurd (cc e)

pub returns-in-Ok-append_store-clause-risen : goal.returns-in-Ok-append_store-clause-risen
returns-in-Ok-append_store-clause-risen g c =
    let count = g.D.Disk.model.failure_count in
    subst (λ (s : StoreView g.row.D.Denot). count s.disk ≤ count c.append_store.new.disk) c.self.view_is
    c.append_store.ensures.fails.failures.never_falls

-- ---- the device failed

pub returns-clause-any_moment : goal.returns-clause-any_moment
returns-clause-any_moment g c h on flushed since has =
    let d = g.D.Disk in
    let inside = c.self.inside in
    let bytes = c.as_bytes.result.now in
    let command = command_of c.args.command in
    let longest = max inside.size (staged_length (staged_of inside.state inside.staging)) in
    let ok = subst (λ b. IsAccepted inside.state command c.accept.new.state longest b)
    (sym c.as_bytes.ensures.value) c.in-Ok.ensures.ok.0 in
    let held = c.self.invariant.3 h c.if-self.false in
    subst (λ (s : StoreView g.row.D.Denot). HasFlushed (d.model.folder s.disk) flushed since s.state
    → LeavesOnly d.model s.disk c.append_store.new.disk
    (λ image. MeansPrefix flushed since image ⊎ ImageMeans image c.accept.new.state)) c.self.view_is
    (λ inner. append-leaves d.model inside.disk c.append_store.new.disk
    (d.model.folder inside.disk) inside.state c.accept.new.state command inside.size longest inside.waits bytes
    c.holes_mean.ensures c.documents_close.ensures.records held.0 (omega arith) ok flushed since inner
    ((c.append_store.ensures.leaves h).held (Some held.0.file) held.0.holds)) has

pub returns-clause-refused : goal.returns-clause-refused
returns-clause-refused g c =
    subst (λ (s : StoreView g.row.D.Denot). outcome (journal_length s) s.state (command_of c.args.command)
    ≡ Ok c.accept.new.state) c.self.view_is c.in-Ok.ensures.ok.0.outcome

pub returns-clause-reopen : goal.returns-clause-reopen
returns-clause-reopen g c =
    let off : c.args.self.now.reopen ≡ false = ap (λ (s : StoreView g.row.D.Denot). s.reopen) (sym c.self.view_is) ∙ c.if-self.false in
    (λ e. absurd (cc e), λ on. absurd (false≢true (sym off ∙ on)))

pub returns-clause-unchanged : goal.returns-clause-unchanged
returns-clause-unchanged g c some = absurd (some refl)

pub returns-clause-device : goal.returns-clause-device
returns-clause-device g c e = refl

pub returns-clause-risen : goal.returns-clause-risen
returns-clause-risen g c =
    let count = g.D.Disk.model.failure_count in
    subst (λ (s : StoreView g.row.D.Denot). count s.disk ≤ count c.append_store.new.disk) c.self.view_is
    c.append_store.ensures.fails.failures.never_falls

-- ---- the store has to be opened again

pub returns-then-self-clause-reopen : goal.returns-then-self-clause-reopen
returns-then-self-clause-reopen g c =
    let on : c.args.self.now.reopen ≡ true = ap (λ (s : StoreView g.row.D.Denot). s.reopen) (sym c.self.view_is) ∙ c.if-self.true in
    (λ e. on, λ _. refl)

pub returns-then-self-clause-device : goal.returns-then-self-clause-device
returns-then-self-clause-device g c e = absurd (cc e)

pub returns-then-self-clause-cause : goal.returns-then-self-clause-cause
returns-then-self-clause-cause g c e = absurd (cc e)

pub returns-then-self-clause-any_moment : goal.returns-then-self-clause-any_moment
returns-then-self-clause-any_moment g c h off =
    let on : c.args.self.now.reopen ≡ true = ap (λ (s : StoreView g.row.D.Denot). s.reopen) (sym c.self.view_is) ∙ c.if-self.true in
    absurd (false≢true (sym off ∙ on))
