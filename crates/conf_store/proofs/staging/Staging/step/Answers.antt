use Rattle.std.proofs.Common.{◌+◌, ◌++◌, length, string_bytes, refl, ap, sym, ◌∙◌}
use Rattle.conf_store.proofs.{Prelude.{on_ok_weaker, command_of}, RoomLemmas.{appended, ok-holds}, StageLemmas.{left-step, ready-step}}
use Rattle.conf_store.{proofs.StageLemmas.{view-more, none-more}, specs.Stagings.left_of}
use Rattle.conf_store.proofs.staging.Staging.step.Goals as goal

pub returns-then-not-self-clause-staged : goal.returns-then-not-self-clause-staged
returns-then-not-self-clause-staged c =
    let self = c.args.self.now in
    on_ok_weaker c.step.result (λ _. none-more self.running self.written self.written _ _ c.args.text.now
    c.if-not-self.true) c.step.ensures.ok

pub returns-in-Ok-clause-staged : goal.returns-in-Ok-clause-staged
returns-in-Ok-clause-staged c =
    let self = c.args.self.now in
    let s = c.args.state.now in
    let text = c.args.text.now in
    let command = command_of c.args.command in
    let made = ok-holds c.keep_touched.result _ (sym c.is_err.ensures.value ∙ c.if-is_err.false) c.keep_touched.ensures.kept in
    let fits = ok-holds c.reserve.result _ (sym c.is_err-2.ensures.value ∙ c.if-is_err-2.false) c.reserve.ensures.ok in
    let pushed = appended c.reserve.new.self c.push_str.new.self text c.push_str.result c.push_str.ensures.capacity
    c.push_str.ensures.len c.push_str.ensures.bytes c.push_str.ensures.succeeds in
    let more = pushed.bytes fits ∙ ap (λ bs. bs ++ text) c.reserve.ensures.bytes in
    view-more self.running self.written (left_of s.configs self.cutting self.pending (string_bytes self.since)) text _
    (left-step s c.step-2.new.state command c.args.room c.in-Ok.ensures.ok self.cutting self.pending
    c.keep_touched.new.self c.keep_touched.ensures.same made
    (string_bytes self.since) (string_bytes c.push_str.new.self) text more)

pub returns-in-Ok-clause-ready : goal.returns-in-Ok-clause-ready
returns-in-Ok-clause-ready c on =
    let self = c.args.self.now in
    let s = c.args.state.now in
    let text = c.args.text.now in
    let command = command_of c.args.command in
    let made = ok-holds c.keep_touched.result _ (sym c.is_err.ensures.value ∙ c.if-is_err.false) c.keep_touched.ensures.kept in
    let fits = ok-holds c.reserve.result _ (sym c.is_err-2.ensures.value ∙ c.if-is_err-2.false) c.reserve.ensures.ok in
    let pushed = appended c.reserve.new.self c.push_str.new.self text c.push_str.result c.push_str.ensures.capacity
    c.push_str.ensures.len c.push_str.ensures.bytes c.push_str.ensures.succeeds in
    let more = pushed.bytes fits ∙ ap (λ bs. bs ++ text) c.reserve.ensures.bytes in
    ready-step s c.step-2.new.state command c.args.room c.in-Ok.ensures.ok self.cutting self.pending
    c.keep_touched.new.self c.keep_touched.ensures.same made
    (string_bytes self.since) (string_bytes c.push_str.new.self) text more self.written self.total
    (self.total + length text) refl (c.requires.ready on)
