-- The configuration is that of the state that the bytes mean.
use Rattle.std.proofs.Common.{◌≡◌, ◌∙◌, ◌⊎◌, Bool, Ok, Err, inl, sym, arith, subst}
use Rattle.conf_tools.proofs.Prelude.{chars, Reads, bytes_under, several_waited, Content, Store, store_limit, OutOfMemory, FileMeans}
use Rattle.conf_tools.proofs.{Prelude.RecoversTo, ExportLemmas.{bytes-find, bytes-lack, bytes-whole, leaves-same, whole-bytes-mean}}
use Rattle.{conf_tools.{proofs.HeldLemmas.tree_lent, specs.Reads.tree_or}, conf_store.specs.Holes.is_several}
use Rattle.conf_tools.proofs.exports.export_read.Goals as goal

pub returns-in-Err-clause-refused : goal.returns-in-Err-clause-refused
returns-in-Err-clause-refused g c =
    let d = g.D.Disk in
    bytes-lack d.model c.args.disk (is_several c.noted_on-waiting.result) c.in-Bytes.bytes (chars c.args.name.now) c.in-Err.fault
    (λ h. c.noted_on-waiting.ensures h)
    (λ h. subst (λ (content : Content). Reads (d.model.folder c.args.disk) Store store_limit content) c.in-Bytes.is (c.requires.content h))
    c.in-Err.ensures.refused

pub returns-in-Err-clause-crashes : goal.returns-in-Err-clause-crashes
returns-in-Err-clause-crashes g c h =
    leaves-same g.D.Disk.model c.args.disk (λ image is. g.met.D.Disk.only_now c.args.disk image h is)

pub returns-in-Ok-found_text-clause-ok : goal.returns-in-Ok-found_text-clause-ok
returns-in-Ok-found_text-clause-ok g c =
    let d = g.D.Disk in
    let read = c.in-Ok.ensures.ok in
    let found = c.in-Ok-found_text.ensures.ok in
    record {
      state = read.0;
      finds = bytes-find d.model c.args.disk (is_several c.noted_on-waiting.result) c.in-Bytes.bytes read.0 c.in-Ok.read.1.commands
          c.in-Ok.read.1.dropped (λ h. c.noted_on-waiting.ensures h)
          (λ h. subst (λ (content : Content). Reads (d.model.folder c.args.disk) Store store_limit content) c.in-Bytes.is
          (c.requires.content h))
          read.1;
      exports = record {
        tree = found.0;
        named = subst (λ t. tree_or t (chars c.args.name.now) ≡ Ok found.0)
            (tree_lent c.as_ref.result c.in-Ok.read.0 c.as_ref.ensures.value ∙ read.2) found.1;
        is = found.2;
      };
    }

pub returns-in-Ok-found_text-clause-crashes : goal.returns-in-Ok-found_text-clause-crashes
returns-in-Ok-found_text-clause-crashes g c h =
    leaves-same g.D.Disk.model c.args.disk (λ image is. g.met.D.Disk.only_now c.args.disk image h is)

pub returns-in-Ok-found_text-clause-lasting : goal.returns-in-Ok-found_text-clause-lasting
returns-in-Ok-found_text-clause-lasting g c h =
    let d = g.D.Disk in
    let read = c.in-Ok.ensures.ok in
    let found = c.in-Ok-found_text.ensures.ok in
    let file = bytes_under (d.model.folder c.args.disk) Store in
    let tells = subst (λ (content : Content). Reads (d.model.folder c.args.disk) Store store_limit content) c.in-Bytes.is
    (c.requires.content h) in
    let none : c.in-Ok.read.1.dropped ≡ 0 = omega (arith, c.if-opened-gt0.false) in
    let whole = subst (λ n. RecoversTo
    (is_several c.noted_on-waiting.result) c.in-Bytes.bytes.items read.0 c.in-Ok.read.1.commands n) none read.1 in
    inl (
      record {
        state = read.0;
        images = λ image is. subst (λ store. FileMeans image.several store read.0) (sym (c.requires.synced h image is))
            (whole-bytes-mean c.bytes_mean_one_state.ensures.whole
            (is_several c.noted_on-waiting.result) image.several file c.in-Bytes.bytes read.0
            c.in-Ok.read.1.commands tells whole);
        exports = record {
          tree = found.0;
          named = subst (λ t. tree_or t (chars c.args.name.now) ≡ Ok found.0)
              (tree_lent c.as_ref.result c.in-Ok.read.0 c.as_ref.ensures.value ∙ read.2) found.1;
          is = found.2;
        };
      },
      bytes-whole d.model g.E.Listener.hears c.args.errors.now (several_waited (d.model.folder c.args.disk)) file c.in-Bytes.bytes
          read.0 c.in-Ok.read.1.commands tells
          (subst (λ (b : Bool). RecoversTo b c.in-Bytes.bytes.items read.0 c.in-Ok.read.1.commands 0) (c.noted_on-waiting.ensures h) whole),
    )

pub returns-clause-refused : goal.returns-clause-refused
returns-clause-refused g c =
    let d = g.D.Disk in
    let read = c.in-Ok.ensures.ok in
    let fault = c.in-Err-found_text.fault in
    record {
      state = read.0;
      finds = bytes-find d.model c.args.disk (is_several c.noted_on-waiting.result) c.in-Bytes.bytes read.0 c.in-Ok.read.1.commands
          c.in-Ok.read.1.dropped (λ h. c.noted_on-waiting.ensures h)
          (λ h. subst (λ (content : Content). Reads (d.model.folder c.args.disk) Store store_limit content) c.in-Bytes.is
          (c.requires.content h))
          read.1;
      why = subst (λ t. (fault ≡ OutOfMemory) ⊎ (tree_or t (chars c.args.name.now) ≡ Err fault))
          (tree_lent c.as_ref.result c.in-Ok.read.0 c.as_ref.ensures.value ∙ read.2) c.in-Err-found_text.ensures.refused;
    }

pub returns-clause-crashes : goal.returns-clause-crashes
returns-clause-crashes g c h =
    leaves-same g.D.Disk.model c.args.disk (λ image is. g.met.D.Disk.only_now c.args.disk image h is)
