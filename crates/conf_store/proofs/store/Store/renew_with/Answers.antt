use Rattle.std.proofs.Common.{rules, arith, ◌≡◌, ◌⊎◌, inl, inr, ⊎_elim, ◌+◌, ◌≤◌, max, false, true, length, string_bytes, Some, None, Ok}
use Rattle.std.proofs.Common.{Err, length-append, refl, sym, ◌∙◌, ap, subst}
use Rattle.conf_store.proofs.Prelude.{false≢true, Image, bytes_under, LeavesOnly, Store, store_limit, command_of, Reopen, Device}
use Rattle.conf_store.proofs.{RefusalLemmas.refusal-returned, GrownLemmas.base-and, HeldLemmas.durable-held, StoreLemmas.start-prefix}
use Rattle.conf_store.proofs.StoreLemmas.{or-means, renewed-base, renewed-durable, renewed-leaves, durable-flushed}
use Rattle.conf_store.specs.{Stagings.staged_of, Meaning.ImageMeans, Grown.{FileStartsWithBase, StagedStartsWithBase, StartsWithBase}}
use Rattle.conf_store.specs.{Staged.staged_length, View.StoreView, Accepting.IsRenewed, Calls.{outcome, journal_length, next_record}}
use Rattle.conf_store.specs.{Calls.{AcceptsBy, HasFailed, renewed_file}, Durable.{HasFlushed, MeansPrefix, IsStaging, IsDurable}}
use Rattle.{conf_store.specs.Durable.staged_text, conf_record.specs.{Formats.base_in, declared.format.Format.TheVariants.Third}}
use Rattle.conf_store.proofs.store.Store.renew_with.Goals as goal

-- ---- a store that has to be opened again

pub returns-then-self-clause-reopen : goal.returns-then-self-clause-reopen
returns-then-self-clause-reopen g c =
    let on : c.args.self.now.reopen ≡ true = ap (λ (s : StoreView g.row.D.Denot). s.reopen) (sym c.self.view_is) ∙ c.if-self.true in
    (λ e. on, λ _. refl)

pub returns-then-self-clause-device : goal.returns-then-self-clause-device
returns-then-self-clause-device g c e = absurd (cc e)

pub returns-then-self-clause-cause : goal.returns-then-self-clause-cause
returns-then-self-clause-cause g c e = absurd (cc e)

pub returns-then-self-clause-any_moment : goal.returns-then-self-clause-any_moment
returns-then-self-clause-any_moment g c h off =
    let on : c.args.self.now.reopen ≡ true = ap (λ (s : StoreView g.row.D.Denot). s.reopen) (sym c.self.view_is) ∙ c.if-self.true in
    absurd (false≢true (sym off ∙ on))

-- ---- a command that is refused

pub returns-in-Err-clause-reopen : goal.returns-in-Err-clause-reopen
returns-in-Err-clause-reopen g c = (
  λ e. absurd (c.in-Err.ensures.of_state.0 (let same : c.in-Err.fault ≡ Reopen = cc e in same)),
  λ on. absurd (false≢true (sym c.if-self.false ∙ ap (λ (s : StoreView g.row.D.Denot). s.reopen) c.self.view_is ∙ on)),
)

pub returns-in-Err-clause-device : goal.returns-in-Err-clause-device
returns-in-Err-clause-device g c e = absurd (c.in-Err.ensures.of_state.1 (let same : c.in-Err.fault ≡ Device = cc e in same))

pub returns-in-Err-clause-cause : goal.returns-in-Err-clause-cause
returns-in-Err-clause-cause g c e = absurd (c.in-Err.ensures.of_state.1 (let same : c.in-Err.fault ≡ Device = cc e in same))

pub returns-in-Err-clause-refused : goal.returns-in-Err-clause-refused
returns-in-Err-clause-refused g c =
    let inside = c.self.inside in
    let command = command_of c.args.command in
    let most : c.max-longest.result ≡ max inside.size (staged_length (staged_of inside.state inside.staging)) =
    search (rules, c.max-longest.ensures, c.len.ensures inside.state c.self.invariant.7) in
    refusal-returned c.args.self.now (record {
      disk = inside.disk;
      state = c.renew.new.state;
      size = inside.size;
      staged = (staged_of c.renew.new.state inside.staging);
      format = inside.format;
      reopen = inside.reopen;
    }) command c.in-Err.fault
    c.in-Err.ensures.of_state
    (⊎_elim (λ memory. inl memory)
    (λ e. inr (subst (λ (s : StoreView g.row.D.Denot). outcome (journal_length s) s.state command ≡ Err c.in-Err.fault) c.self.view_is
    (subst (λ n. outcome n inside.state command ≡ Err c.in-Err.fault) most e)))
    c.in-Err.ensures.refused)

pub returns-in-Err-clause-any_moment : goal.returns-in-Err-clause-any_moment
returns-in-Err-clause-any_moment g c h on flushed since has =
    let d = g.D.Disk in
    let inside = c.self.inside in
    let held = c.self.invariant.3 h c.if-self.false in
    let new = c.renew.new.state in
    subst (λ (s : StoreView g.row.D.Denot). HasFlushed (d.model.folder s.disk) flushed since s.state
    → LeavesOnly d.model s.disk inside.disk (λ image. MeansPrefix flushed since image ⊎ ImageMeans image new)) c.self.view_is
    (λ inner. or-means d.model inside.disk inside.disk flushed new since
    (start-prefix d.model inside.disk inside.state inside.size inside.waits c.held_store_is_left.ensures.noted
    c.holes_mean.ensures (λ image left. g.met.D.Disk.only_now inside.disk image h left) held.0 flushed
    since inner)) has

pub returns-in-Err-clause-risen : goal.returns-in-Err-clause-risen
returns-in-Err-clause-risen g c =
    let count = g.D.Disk.model.failure_count in
    subst (λ (s : StoreView g.row.D.Denot). count s.disk ≤ count c.self.inside.disk) c.self.view_is (omega arith)

pub returns-in-Err-clause-unchanged : goal.returns-in-Err-clause-unchanged
returns-in-Err-clause-unchanged g c some =
    let inside = c.self.inside in
    ap (λ s. record {
      disk = inside.disk;
      state = s;
      size = inside.size;
      staged = (staged_of s inside.staging);
      format = inside.format;
      reopen = inside.reopen;
    }) c.in-Err.ensures.unchanged
    ∙ c.self.view_is

-- ---- the file is renewed

pub invariant_of-self-in-Ok-replace_store : goal.invariant_of-self-in-Ok-replace_store
invariant_of-self-in-Ok-replace_store g c =
    let d = g.D.Disk in
    let inside = c.self.inside in
    let new = c.replace_store.new.disk in
    let bytes = c.as_bytes.result.now in
    let command = command_of c.args.command in
    let end = c.renew.new.state in
    let base = renewed-base c.documents_are_read.ensures.bases c.documents_close.ensures.bases
    c.documents_are_read.ensures.fit inside.state c.self.invariant.1 in
    let ok = subst (λ b. IsRenewed inside.state command end c.max-longest.result b c.in-Ok.renewed.base)
    (sym c.as_bytes.ensures.value) c.in-Ok.ensures.ok.0 in
    let long : c.len-in-Ok-replace_store.result ≡ length bytes = search rules in
    let short = ok.short in
    let none = c.none.ensures.none end in
    let both = length-append (base_in Third inside.state) (next_record inside.state command) in
    let within : c.in-Ok.renewed.base ≤ length bytes = omega (arith, ok.long, ap length ok.is, both) in (
      omega (arith, short, long),
      ok.accepted.kept,
      subst (λ s. staged_length s ≤ store_limit) (sym none) (omega arith),
      λ h on. (
        durable-held (d.model.folder new) end c.len-in-Ok-replace_store.result false (subst (IsDurable (d.model.folder new) end) (sym long)
            (renewed-durable (d.model.folder new) inside.state end command c.max-longest.result c.in-Ok.renewed.base bytes base ok
            (c.in-Ok-replace_store.ensures.holds h))),
        subst (IsStaging (d.model.folder new) end) (sym none) tt,
      ),
      omega (arith, within, long),
      subst (λ s. 0 ≤ staged_length s) (sym none) (omega arith),
      λ h on. (
        subst (λ o. FileStartsWithBase o c.in-Ok.renewed.base)
            (sym (ap (λ (image : Image). image.store) (c.in-Ok-replace_store.ensures.reads h)))
            (subst (StartsWithBase bytes) (sym ok.long)
            (base-and inside.state (base_in Third inside.state) bytes (next_record inside.state command) base ok.is)),
        subst (λ s. StagedStartsWithBase (d.model.folder new) s 0) (sym none) tt,
      ),
      c.none.ensures.ready end.configs,
    )

pub returns-in-Ok-replace_store-clause-ok : goal.returns-in-Ok-replace_store-clause-ok
returns-in-Ok-replace_store-clause-ok g c =
    let inside = c.self.inside in
    let command = command_of c.args.command in
    let end = c.renew.new.state in
    let ok = c.in-Ok.ensures.ok.0 in
    let most : c.max-longest.result ≡ max inside.size (staged_length (staged_of inside.state inside.staging)) =
    search (rules, c.max-longest.ensures, c.len.ensures inside.state c.self.invariant.7) in
    let long : c.len-in-Ok-replace_store.result ≡ length (string_bytes c.in-Ok.renewed.text) = search rules in (
      subst (λ (s : StoreView g.row.D.Denot). AcceptsBy true s command
          (record {
            disk = c.replace_store.new.disk;
            state = end;
            size = c.len-in-Ok-replace_store.result;
            staged = (staged_of end c.none.result);
            format = Third;
            reopen = inside.reopen;
          })) c.self.view_is
          (record {
            step = subst (λ n. outcome n inside.state command ≡ Ok end) most ok.accepted.outcome;
            count = ok.accepted.count;
            size = long ∙ ap length ok.is;
            staged = c.none.ensures.none end;
            format = refl;
            reopen = c.if-self.false;
          }),
      c.in-Ok.ensures.ok.1,
    )

pub returns-in-Ok-replace_store-clause-reads : goal.returns-in-Ok-replace_store-clause-reads
returns-in-Ok-replace_store-clause-reads g c h on =
    let d = g.D.Disk in
    let command = command_of c.args.command in
    let now = bytes_under (d.model.folder c.replace_store.new.disk) Store in
    subst (λ (s : StoreView g.row.D.Denot). now ≡ Some (renewed_file s.state command)) c.self.view_is
    (ap (λ (image : Image). image.store) (c.in-Ok-replace_store.ensures.reads h)
    ∙ ap Some (c.as_bytes.ensures.value ∙ c.in-Ok.ensures.ok.0.is))

pub returns-in-Ok-replace_store-clause-stages : goal.returns-in-Ok-replace_store-clause-stages
returns-in-Ok-replace_store-clause-stages g c h on =
    ap (staged_text (g.D.Disk.model.folder c.replace_store.new.disk)) (c.none.ensures.none c.renew.new.state)

pub returns-in-Ok-replace_store-clause-any_moment : goal.returns-in-Ok-replace_store-clause-any_moment
returns-in-Ok-replace_store-clause-any_moment g c h on flushed since has =
    let d = g.D.Disk in
    let inside = c.self.inside in
    let bytes = c.as_bytes.result.now in
    let command = command_of c.args.command in
    let end = c.renew.new.state in
    let base = renewed-base c.documents_are_read.ensures.bases c.documents_close.ensures.bases
    c.documents_are_read.ensures.fit inside.state c.self.invariant.1 in
    let ok = subst (λ b. IsRenewed inside.state command end c.max-longest.result b c.in-Ok.renewed.base)
    (sym c.as_bytes.ensures.value) c.in-Ok.ensures.ok.0 in
    let held = c.self.invariant.3 h c.if-self.false in
    subst (λ (s : StoreView g.row.D.Denot). HasFlushed (d.model.folder s.disk) flushed since s.state
    → LeavesOnly d.model s.disk c.replace_store.new.disk (λ image. MeansPrefix flushed since image ⊎ ImageMeans image end)) c.self.view_is
    (λ inner. renewed-leaves d.model inside.disk c.replace_store.new.disk (d.model.folder inside.disk) inside.state end command
    inside.size c.max-longest.result c.in-Ok.renewed.base inside.waits bytes c.held_store_is_left.ensures.noted c.holes_mean.ensures
    held.0 base ok flushed since inner (c.replace_store.ensures.any_moment h)) has

pub returns-in-Ok-replace_store-clause-waits : goal.returns-in-Ok-replace_store-clause-waits
returns-in-Ok-replace_store-clause-waits g c h on flushed since has =
    let d = g.D.Disk in
    let inside = c.self.inside in
    let bytes = c.as_bytes.result.now in
    let command = command_of c.args.command in
    let end = c.renew.new.state in
    let base = renewed-base c.documents_are_read.ensures.bases c.documents_close.ensures.bases
    c.documents_are_read.ensures.fit inside.state c.self.invariant.1 in
    let ok = subst (λ b. IsRenewed inside.state command end c.max-longest.result b c.in-Ok.renewed.base)
    (sym c.as_bytes.ensures.value) c.in-Ok.ensures.ok.0 in
    durable-flushed (d.model.folder c.replace_store.new.disk) end (length bytes)
    (renewed-durable (d.model.folder c.replace_store.new.disk) inside.state end command c.max-longest.result c.in-Ok.renewed.base bytes
    base ok (c.in-Ok-replace_store.ensures.holds h))

pub returns-in-Ok-replace_store-clause-reopen : goal.returns-in-Ok-replace_store-clause-reopen
returns-in-Ok-replace_store-clause-reopen g c =
    let off : c.args.self.now.reopen ≡ false = ap (λ (s : StoreView g.row.D.Denot). s.reopen) (sym c.self.view_is) ∙ c.if-self.false in
    (λ e. absurd (cc e), λ on. absurd (false≢true (sym off ∙ on)))

pub returns-in-Ok-replace_store-clause-device : goal.returns-in-Ok-replace_store-clause-device
returns-in-Ok-replace_store-clause-device g c e = absurd (cc e)

pub returns-in-Ok-replace_store-clause-cause : goal.returns-in-Ok-replace_store-clause-cause
returns-in-Ok-replace_store-clause-cause g c e = absurd (cc e)

pub returns-in-Ok-replace_store-clause-risen : goal.returns-in-Ok-replace_store-clause-risen
returns-in-Ok-replace_store-clause-risen g c =
    let count = g.D.Disk.model.failure_count in
    subst (λ (s : StoreView g.row.D.Denot). count s.disk ≤ count c.replace_store.new.disk) c.self.view_is
    c.replace_store.ensures.failures.never_falls

-- ---- the device failed

pub invariant_of-self-in-Err-replace_store : goal.invariant_of-self-in-Err-replace_store
invariant_of-self-in-Err-replace_store g c =
    let inside = c.self.inside in
    let end = c.renew.new.state in
    let none = c.none.ensures.none end in (
      c.self.invariant.0,
      c.in-Ok.ensures.ok.0.accepted.kept,
      subst (λ s. staged_length s ≤ store_limit) (sym none) (omega arith),
      λ h off. absurd (false≢true (sym off)),
      c.self.invariant.4,
      subst (λ s. 0 ≤ staged_length s) (sym none) (omega arith),
      λ h off. absurd (false≢true (sym off)),
      c.none.ensures.ready end.configs,
    )

pub returns-clause-any_moment : goal.returns-clause-any_moment
returns-clause-any_moment g c h on flushed since has =
    let d = g.D.Disk in
    let inside = c.self.inside in
    let bytes = c.as_bytes.result.now in
    let command = command_of c.args.command in
    let end = c.renew.new.state in
    let base = renewed-base c.documents_are_read.ensures.bases c.documents_close.ensures.bases
    c.documents_are_read.ensures.fit inside.state c.self.invariant.1 in
    let ok = subst (λ b. IsRenewed inside.state command end c.max-longest.result b c.in-Ok.renewed.base)
    (sym c.as_bytes.ensures.value) c.in-Ok.ensures.ok.0 in
    let held = c.self.invariant.3 h c.if-self.false in
    subst (λ (s : StoreView g.row.D.Denot). HasFlushed (d.model.folder s.disk) flushed since s.state
    → LeavesOnly d.model s.disk c.replace_store.new.disk (λ image. MeansPrefix flushed since image ⊎ ImageMeans image end)) c.self.view_is
    (λ inner. renewed-leaves d.model inside.disk c.replace_store.new.disk (d.model.folder inside.disk) inside.state end command
    inside.size c.max-longest.result c.in-Ok.renewed.base inside.waits bytes c.held_store_is_left.ensures.noted c.holes_mean.ensures
    held.0 base ok flushed since inner (c.replace_store.ensures.any_moment h)) has

pub returns-clause-refused : goal.returns-clause-refused
returns-clause-refused g c =
    let inside = c.self.inside in
    let most : c.max-longest.result ≡ max inside.size (staged_length (staged_of inside.state inside.staging)) =
    search (rules, c.max-longest.ensures, c.len.ensures inside.state c.self.invariant.7) in
    subst (λ (s : StoreView g.row.D.Denot). outcome (journal_length s) s.state (command_of c.args.command)
    ≡ Ok c.renew.new.state) c.self.view_is
    (subst (λ n. outcome n inside.state (command_of c.args.command) ≡ Ok c.renew.new.state) most c.in-Ok.ensures.ok.0.accepted.outcome)

pub returns-clause-reopen : goal.returns-clause-reopen
returns-clause-reopen g c =
    let off : c.args.self.now.reopen ≡ false = ap (λ (s : StoreView g.row.D.Denot). s.reopen) (sym c.self.view_is) ∙ c.if-self.false in
    (λ e. absurd (cc e), λ on. absurd (false≢true (sym off ∙ on)))

pub returns-clause-unchanged : goal.returns-clause-unchanged
returns-clause-unchanged g c some = absurd (some refl)

pub returns-clause-device : goal.returns-clause-device
returns-clause-device g c e = refl

pub returns-clause-risen : goal.returns-clause-risen
returns-clause-risen g c =
    let count = g.D.Disk.model.failure_count in
    subst (λ (s : StoreView g.row.D.Denot). count s.disk ≤ count c.replace_store.new.disk) c.self.view_is
    c.replace_store.ensures.failures.never_falls
