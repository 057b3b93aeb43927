-- Each document is the request that it says.
use Rattle.std.{proofs.Common.{◌≡◌, refl, sym, ap, ◌∙◌, subst}, specs.Prelude.Ok}
use Rattle.conf_session.proofs.{Prelude.{chars, err_from_is_err_and, text_bytes, conditions_of, StoreView}, WordLemmas.refusal-short}
use Rattle.conf_session.{proofs.RequestLemmas.{handles-none, handles-reading, handles-retold}, specs.Said.{get_at, export_of, said_of}}
use Rattle.conf_session.specs.{Replies.Handles, ReadChanges.{IfMet, IsRequest}, declared.reply.Reply.TheVariants.Refused}
use Rattle.conf_session.specs.{declared.words.Refusal.TheVariants.{AboutLarge, BadCommand}, Requests.{MeansRequest, if_met, checkpointing}}
use Rattle.conf_session.specs.Requests.{getting, exporting, naming, overlong_about, bad}
use Rattle.conf_session.proofs.reply.answer_said.Goals as goal

pub returns-in-Single : goal.returns-in-Single
returns-in-Single g c =
    let d = g.D.Disk in
    handles-retold d.model c.args.store.now c.change_read.new.store (IsRequest c.read_single-read.result)
    (MeansRequest (said_of c.args.said))
    (λ request is. subst (λ s. MeansRequest s request) (sym (ap said_of c.in-Single.is))
    (c.read_single-read.ensures.asked request is)) c.change_read.result c.change_read.ensures

pub returns-in-Batch : goal.returns-in-Batch
returns-in-Batch g c =
    let d = g.D.Disk in
    handles-retold d.model c.args.store.now c.change_read-in-Batch.new.store (IsRequest c.read_batch-read.result)
    (MeansRequest (said_of c.args.said))
    (λ request is. subst (λ s. MeansRequest s request) (sym (ap said_of c.in-Batch.is))
    (c.read_batch-read.ensures.asked request is)) c.change_read-in-Batch.result c.change_read-in-Batch.ensures

pub returns-in-Conditional : goal.returns-in-Conditional
returns-in-Conditional g c =
    let d = g.D.Disk in
    let conditions = conditions_of c.in-Conditional.conditions.items in
    handles-retold d.model c.args.store.now c.change_if.new.store
    (IfMet (conditions_of c.deref.result.now) (IsRequest c.read_change-read.result)) (MeansRequest (said_of c.args.said))
    (λ request is. subst (λ s. MeansRequest s request) (sym (ap said_of c.in-Conditional.is)) (
      is.0,
      c.read_change-read.ensures.asked is.0 is.1,
      is.2
          ∙ ap (λ cs. if_met (conditions_of cs) is.0) c.deref.ensures.value,
    )) c.change_if.result c.change_if.ensures

pub returns-in-Noted : goal.returns-in-Noted
returns-in-Noted g c =
    let d = g.D.Disk in
    handles-retold d.model c.args.store.now c.change_read-in-Noted.new.store (IsRequest c.read_noted-read.result)
    (MeansRequest (said_of c.args.said))
    (λ request is. subst (λ s. MeansRequest s request) (sym (ap said_of c.in-Noted.is))
    (c.read_noted-read.ensures.asked request is)) c.change_read-in-Noted.result c.change_read-in-Noted.ensures

pub returns-in-ConditionalNoted : goal.returns-in-ConditionalNoted
returns-in-ConditionalNoted g c =
    let d = g.D.Disk in
    handles-retold d.model c.args.store.now c.change_if-in-ConditionalNoted.new.store
    (IfMet (conditions_of c.deref-in-ConditionalNoted.result.now) (IsRequest c.read_noted-read-in-ConditionalNoted.result))
    (MeansRequest (said_of c.args.said))
    (λ request is. subst (λ s. MeansRequest s request) (sym (ap said_of c.in-ConditionalNoted.is)) (
      is.0,
      c.read_noted-read-in-ConditionalNoted.ensures.asked is.0 is.1,
      is.2
          ∙ ap (λ cs. if_met (conditions_of cs) is.0) c.deref-in-ConditionalNoted.ensures.value,
    )) c.change_if-in-ConditionalNoted.result c.change_if-in-ConditionalNoted.ensures

pub returns-in-Checkpoint : goal.returns-in-Checkpoint
returns-in-Checkpoint g c =
    let d = g.D.Disk in
    handles-retold d.model c.args.store.now c.checkpoint.new.store (λ request. request ≡ checkpointing) (MeansRequest (said_of c.args.said))
    (λ request is. subst (λ s. MeansRequest s request) (sym (ap said_of c.in-Checkpoint.is)) is) c.checkpoint.result c.checkpoint.ensures

pub returns-in-Get : goal.returns-in-Get
returns-in-Get g c =
    let d = g.D.Disk in
    let store = c.args.store.now in
    let name = chars c.deref-in-Get.result.now in
    let path = chars c.deref-in-Get-2.result.now in
    let same : get_at name path ≡ said_of c.args.said =
    ap (λ b. get_at (chars b) path) c.deref-in-Get.ensures
    ∙ ap (λ b. get_at (chars (text_bytes c.in-Get.name)) (chars b)) c.deref-in-Get-2.ensures ∙ sym (ap said_of c.in-Get.is) in
    subst (λ (s : StoreView g.row.D.Denot). Handles d.model store s (MeansRequest (said_of c.args.said)) c.get_answer.result)
    (sym c.get_answer.ensures.same)
    (handles-reading d.model store c.requires.means (MeansRequest (said_of c.args.said))
    (λ image h is. g.met.D.Disk.only_now store.disk image h is)
    (getting name path) (subst (λ s. MeansRequest s (getting name path)) same refl) tt c.get_answer.result
    c.get_answer.ensures.ok c.get_answer.ensures.memory)

pub returns-in-Export : goal.returns-in-Export
returns-in-Export g c =
    let d = g.D.Disk in
    let store = c.args.store.now in
    let name = chars c.deref-in-Export.result.now in
    let same : export_of name ≡ said_of c.args.said = ap (λ b. export_of (chars b)) c.deref-in-Export.ensures
    ∙ sym (ap said_of c.in-Export.is) in
    handles-reading d.model store c.requires.means (MeansRequest (said_of c.args.said))
    (λ image h is. g.met.D.Disk.only_now store.disk image h is)
    (exporting name) (subst (λ s. MeansRequest s (exporting name)) same refl) tt c.export_answer.result
    c.export_answer.ensures.ok c.export_answer.ensures.memory

pub returns-in-LargeAbout : goal.returns-in-LargeAbout
returns-in-LargeAbout g c =
    let d = g.D.Disk in
    let store = c.args.store.now in
    handles-reading d.model store c.requires.means (MeansRequest (said_of c.args.said))
    (λ image h is. g.met.D.Disk.only_now store.disk image h is)
    overlong_about (subst (λ s. MeansRequest s overlong_about) (sym (ap said_of c.in-LargeAbout.is)) refl) tt
    (Ok (Refused AboutLarge))
    (record { bytes = refl; accepted = refl; refused = refl; short = refusal-short AboutLarge }) tt

pub returns-in-Nothing : goal.returns-in-Nothing
returns-in-Nothing g c =
    let d = g.D.Disk in
    let store = c.args.store.now in
    handles-reading d.model store c.requires.means (MeansRequest (said_of c.args.said))
    (λ image h is. g.met.D.Disk.only_now store.disk image h is)
    bad (subst (λ s. MeansRequest s bad) (sym (ap said_of c.in-Nothing.is)) refl) tt (Ok (Refused BadCommand))
    (record { bytes = refl; accepted = refl; refused = refl; short = refusal-short BadCommand }) tt

pub returns-in_err-names_answer-in-Names : goal.returns-in_err-names_answer-in-Names
returns-in_err-names_answer-in-Names g c =
    let d = g.D.Disk in
    let none = handles-none d.model c.args.store.now (MeansRequest (said_of c.args.said)) in
    let p = err_from_is_err_and c.from_residual.result c.from_residual.ensures.1 in
    rw (p.1, p.2) none

pub returns-in_ok-names_answer-in-Names : goal.returns-in_ok-names_answer-in-Names
returns-in_ok-names_answer-in-Names g c =
    let d = g.D.Disk in
    let store = c.args.store.now in
    handles-reading d.model store c.requires.means (MeansRequest (said_of c.args.said))
    (λ image h is. g.met.D.Disk.only_now store.disk image h is)
    naming (subst (λ s. MeansRequest s naming) (sym (ap said_of c.in-Names.is)) refl) tt
    (Ok c.in_ok-names_answer-in-Names.field-0) c.in_ok-names_answer-in-Names.ensures tt
