use Rattle.std.proofs.Common.{◌≤◌, inl, inr, ⊎_elim, string_bytes, ap, ◌∙◌, arith}
use Rattle.conf_store.specs.{Staged.slice_limit, Stagings.staged_view}
use Rattle.conf_store.proofs.StageLemmas.{cut-left, slice-made, over-left, over-others, over-within, room-same}
use Rattle.conf_store.proofs.staging.Staging.make_slice.Goals as goal

pub returns-then-is_full-clause-same : goal.returns-then-is_full-clause-same
returns-then-is_full-clause-same c =
    let configs = c.args.state.now.configs in
    let self = c.args.self.now in
    ap (staged_view self.running self.written) (cut-left configs self.cutting c.cut_parts.new.cutting self.pending
    c.cut_parts.new.pending (string_bytes self.since) c.cut_parts.ensures.same)

pub returns-then-is_full-clause-ready : goal.returns-then-is_full-clause-ready
returns-then-is_full-clause-ready c =
    let configs = c.args.state.now.configs in
    let self = c.args.self.now in
    let since = string_bytes self.since in
    let new = c.cut_parts.new.cutting in
    room-same configs self.written self.total self.cutting new self.pending c.cut_parts.new.pending since since
    (cut-left configs self.cutting new self.pending c.cut_parts.new.pending since c.cut_parts.ensures.same)
    c.cut_parts.ensures.ready c.cut_parts.ensures.within c.requires.ready

pub returns-then-is_full-clause-made : goal.returns-then-is_full-clause-made
returns-then-is_full-clause-made c staged e =
    let configs = c.args.state.now.configs in
    let self = c.args.self.now in
    let since = string_bytes self.since in
    let new = c.cut_parts.new.cutting in
    let same = ap (staged_view self.running self.written)
    (cut-left configs self.cutting new self.pending c.cut_parts.new.pending since c.cut_parts.ensures.same) in
    slice-made configs new c.cut_parts.new.pending since self.running self.written c.cut_parts.ensures.short
    (inl (c.is_full.ensures.full c.if-is_full.true)) staged (same ∙ e)

pub returns-clause-same : goal.returns-clause-same
returns-clause-same c =
    let configs = c.args.state.now.configs in
    let self = c.args.self.now in
    let since = string_bytes self.since in
    let old = c.cut_parts.new.cutting in
    let ps = c.cut_parts.new.pending in
    let none = c.cut_parts.ensures.left (c.is_full.ensures.short c.if-is_full.false) in
    ap (staged_view self.running self.written)
    (over-left configs old c.take_over.new.self c.cut_more.new.self ps since
    (string_bytes c.take_over.new.text) none.0 none.1 c.take_over.ensures.rest c.take_over.ensures.slice
    c.take_over.ensures.text c.cut_more.ensures.same
    ∙ cut-left configs self.cutting old self.pending ps since c.cut_parts.ensures.same)

pub returns-clause-ready : goal.returns-clause-ready
returns-clause-ready c =
    let configs = c.args.state.now.configs in
    let self = c.args.self.now in
    let since = string_bytes self.since in
    let old = c.cut_parts.new.cutting in
    let mid = c.take_over.new.self in
    let new = c.cut_more.new.self in
    let ps = c.cut_parts.new.pending in
    let after = string_bytes c.take_over.new.text in
    let none = c.cut_parts.ensures.left (c.is_full.ensures.short c.if-is_full.false) in
    let same = over-left configs old mid new ps since after none.0 none.1 c.take_over.ensures.rest
    c.take_over.ensures.slice c.take_over.ensures.text c.cut_more.ensures.same
    ∙ cut-left configs self.cutting old self.pending ps since c.cut_parts.ensures.same in
    let room : slice_limit ≤ new.slice_room = (let before = c.cut_parts.ensures.ready in
    let taken = c.take_over.ensures.slice_room in let cut = c.cut_more.ensures.slice_room in
    omega (arith, before, taken, cut)) in
    room-same configs self.written self.total self.cutting new self.pending ps since after same room
    (over-within configs old mid new ps since after none.0 none.1 c.take_over.ensures.rest c.take_over.ensures.slice
    c.take_over.ensures.text c.cut_more.ensures.same) c.requires.ready

pub returns-clause-made : goal.returns-clause-made
returns-clause-made c staged e =
    let configs = c.args.state.now.configs in
    let self = c.args.self.now in
    let since = string_bytes self.since in
    let old = c.cut_parts.new.cutting in
    let mid = c.take_over.new.self in
    let new = c.cut_more.new.self in
    let ps = c.cut_parts.new.pending in
    let after = string_bytes c.take_over.new.text in
    let none = c.cut_parts.ensures.left (c.is_full.ensures.short c.if-is_full.false) in
    let same = over-left configs old mid new ps since after none.0 none.1 c.take_over.ensures.rest
    c.take_over.ensures.slice c.take_over.ensures.text c.cut_more.ensures.same
    ∙ cut-left configs self.cutting old self.pending ps since c.cut_parts.ensures.same in
    let all = over-others configs old mid new ps since after none.0 none.1 c.take_over.ensures.rest
    c.take_over.ensures.slice c.take_over.ensures.text c.cut_more.ensures.same in
    slice-made configs new ps after self.running self.written c.cut_more.ensures.short
    (⊎_elim (λ full. inl full) (λ rest. inr (all rest)) c.cut_more.ensures.far) staged
    (ap (staged_view self.running self.written) same ∙ e)
