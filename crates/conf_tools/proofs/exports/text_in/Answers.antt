-- A missing file means the empty state, and bytes that were read the state of the file.
use Rattle.std.{proofs.Common.{◌≡◌, ◌∙◌, ◌⊎◌, Err, subst, string_bytes}, specs.Prelude.{IfErr, IfOk}}
use Rattle.conf_tools.proofs.{Prelude.{chars, Tells, Content, store_limit, OutOfMemory, empty_state}, ExportLemmas.{bytes-mean, bytes-none}}
use Rattle.conf_tools.proofs.{ExportLemmas.{found-named, missing-means, exports-none, exports-text}, HeldLemmas.tree_lent}
use Rattle.{conf_tools.specs.{Exports.IsTextOfFound, Reads.tree_or}, conf_store.specs.Holes.is_several}
use Rattle.conf_tools.proofs.exports.text_in.Goals as goal

pub returns-in-Missing-clause-ok : goal.returns-in-Missing-clause-ok
returns-in-Missing-clause-ok c =
    exports-text (is_several c.args.waiting) c.args.content (chars c.args.name.now) empty_state
    (λ file tells. missing-means (is_several c.args.waiting) file (subst (λ
    (content : Content). Tells file store_limit content) c.in-Missing.is tells))
    string_bytes c.args.form c.found_text.result c.export_or_fault.result c.export_or_fault.ensures.ok
    (found-named string_bytes c.args.form empty_state (chars c.args.name.now) c.found_text.result c.found_text.ensures.ok)

pub returns-in-Missing-clause-refused : goal.returns-in-Missing-clause-refused
returns-in-Missing-clause-refused c =
    exports-none (is_several c.args.waiting) c.args.content (chars c.args.name.now) empty_state
    (λ file tells. missing-means (is_several c.args.waiting) file (subst (λ
    (content : Content). Tells file store_limit content) c.in-Missing.is tells))
    c.found_text.result c.export_or_fault.result c.export_or_fault.ensures.fault c.found_text.ensures.refused

pub returns-in-Err-clause-refused : goal.returns-in-Err-clause-refused
returns-in-Err-clause-refused c =
    bytes-none (is_several c.args.waiting) c.args.content c.in-Bytes.bytes
    (chars c.args.name.now) c.in-Err.fault c.in-Bytes.is c.in-Err.ensures.refused

pub returns-clause-ok : goal.returns-clause-ok
returns-clause-ok c =
    let read = c.in-Ok.ensures.ok in
    let name = chars c.args.name.now in
    exports-text (is_several c.args.waiting) c.args.content name read.0
    (λ file tells. bytes-mean (is_several c.args.waiting) file c.in-Bytes.bytes read.0 c.in-Ok.read.1.commands c.in-Ok.read.1.dropped
    (subst (λ (content : Content). Tells file store_limit content) c.in-Bytes.is tells) read.1)
    string_bytes c.args.form c.found_text-2.result c.export_or_fault-2.result c.export_or_fault-2.ensures.ok
    (found-named string_bytes c.args.form read.0 name c.found_text-2.result
    (subst (λ t. IfOk c.found_text-2.result (λ text. IsTextOfFound c.args.form (tree_or t name) (string_bytes text)))
    (tree_lent c.as_ref.result c.in-Ok.read.0 c.as_ref.ensures.value ∙ read.2) c.found_text-2.ensures.ok))

pub returns-clause-refused : goal.returns-clause-refused
returns-clause-refused c =
    let read = c.in-Ok.ensures.ok in
    let name = chars c.args.name.now in
    exports-none (is_several c.args.waiting) c.args.content name read.0
    (λ file tells. bytes-mean (is_several c.args.waiting) file c.in-Bytes.bytes read.0 c.in-Ok.read.1.commands c.in-Ok.read.1.dropped
    (subst (λ (content : Content). Tells file store_limit content) c.in-Bytes.is tells) read.1)
    c.found_text-2.result c.export_or_fault-2.result c.export_or_fault-2.ensures.fault
    (subst (λ t. IfErr c.found_text-2.result (λ fault. (fault ≡ OutOfMemory) ⊎ (tree_or t name ≡ Err fault)))
    (tree_lent c.as_ref.result c.in-Ok.read.0 c.as_ref.ensures.value ∙ read.2) c.found_text-2.ensures.refused)
