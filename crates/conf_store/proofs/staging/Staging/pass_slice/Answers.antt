use Rattle.std.proofs.Common.{◌+◌, string_bytes, refl, ap, arith}
use Rattle.conf_store.proofs.StageLemmas.{left-least, pass-staged, pass-size, pass-room}
use Rattle.conf_store.proofs.staging.Staging.pass_slice.Goals as goal

pub returns-clause-passed : goal.returns-clause-passed
returns-clause-passed c s staged e made =
    let self = c.args.self.now in
    pass-staged s.configs self.cutting c.pass.new.self self.pending
    (string_bytes self.since) c.pass.ensures.slice c.pass.ensures.rest self.running self.written
    (self.written + c.pass.result) staged
    (ap (λ n. self.written + n) c.pass.ensures.length) e made

pub returns-clause-left : goal.returns-clause-left
returns-clause-left c s staged ready e made =
    let self = c.args.self.now in
    pass-size s.configs self.cutting c.pass.new.self self.pending
    (string_bytes self.since) c.pass.ensures.slice c.pass.ensures.rest self.written self.total _
    (self.written + c.pass.result) staged self.running
    (ap (λ n. self.written + n) c.pass.ensures.length) refl ready e made

pub returns-clause-ready : goal.returns-clause-ready
returns-clause-ready c configs ready =
    let self = c.args.self.now in
    pass-room configs self.cutting c.pass.new.self self.pending
    (string_bytes self.since) c.pass.ensures.slice c.pass.ensures.rest self.written self.total (self.written + c.pass.result)
    (ap (λ n. self.written + n) c.pass.ensures.length) c.pass.ensures.slice_room c.pass.ensures.part_room ready

pub overflow_add-self : goal.overflow_add-self
overflow_add-self c =
    let self = c.args.self.now in
    let least = left-least c.requires.0 self.cutting self.pending (string_bytes self.since) in
    let whole = c.requires.1.whole in
    let long = c.pass.ensures.length in
    omega (arith, least, whole, long)

pub overflow_sub-result : goal.overflow_sub-result
overflow_sub-result c =
    let self = c.args.self.now in
    let least = left-least c.requires.0 self.cutting self.pending (string_bytes self.since) in
    let whole = c.requires.1.whole in
    let long = c.pass.ensures.length in
    omega (arith, least, whole, long)
