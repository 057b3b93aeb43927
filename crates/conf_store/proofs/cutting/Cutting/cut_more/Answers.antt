use Rattle.std.{proofs.Common.{◌≡◌, ◌++◌, ◌+◌, ◌-◌, if◌then◌else◌, take, drop, string_bytes, ap, sym, ◌∙◌, arith}, specs.Vec.vec_capacity}
use Rattle.conf_store.proofs.{Prelude.length-take, CuttingLemmas.cut-same}
use Rattle.conf_store.proofs.cutting.Cutting.cut_more.Goals as goal

pub returns-clause-same : goal.returns-clause-same
returns-clause-same c =
    let inside = c.self.inside in
    let cut = inside.cut in
    let count = c.min-count.result in
    let part = c.as_bytes-bytes.result.now in
    let less : cut + count - cut ≡ count = omega arith in
    let piece = take (cut + count - cut) (drop cut part) in
    let size = length-take (cut + count - cut) (drop cut part) in
    let owned = inside.slice.ok.0 in
    let short = c.self.invariant.1 in
    let seen : c.args.self.now.slice_room ≡ vec_capacity inside.slice = sym (ap (λ v. v.slice_room) c.self.view_is) in
    let room = c.requires in
    let len = c.len.ensures in
    let most = c.min-count.ensures in
    let fits = c.extend_from_slice.ensures.succeeds (omega (arith, size, less, owned, short, seen, room, len, most)) in
    let made = c.extend_from_slice.ensures.items ∙ ap (λ b. if b then inside.slice.items ++ piece else inside.slice.items) fits
    ∙ ap (λ n. inside.slice.items ++ take n (drop cut part)) less
    ∙ ap (λ bs. inside.slice.items ++ take count (drop cut bs)) c.as_bytes-bytes.ensures.value in
    cut-same inside.slice.items c.extend_from_slice.new.self.items (string_bytes inside.part.text) cut count made
    ∙ ap (λ v. v.slice ++ v.rest) c.self.view_is
