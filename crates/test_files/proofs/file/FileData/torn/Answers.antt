use Rattle.std.proofs.Common.{rules, ◌≡◌, ◌⊎◌, ◌<◌, ◌≤◌, ◌++◌, [], ◌∷◌, ℕ, false, List, length, get_or, take, ap, ◌∙◌, sym, append_assoc}
use Rattle.std.{proofs.lemmas.List.get_or_read, specs.Prelude.if◌then◌else◌}
use Rattle.test_files.{specs.Crashes.worn, proofs.Left.{worn-more, worn-all}}
use Rattle.test_files.proofs.file.FileData.torn.Goals as goal

pub loop-place-preserved : goal.loop-place-preserved
loop-place-preserved c =
    let kept = c.args.kept.now in
    let pending = c.args.self.now.pending.items in
    let device = c.args.self.now.device.items in
    let i = c.loop-place.place in
    let within : i < length kept = search rules in
    let behind : i < length pending = search rules in
    let read : c.index.result.now ≡ get_or pending i 0 =
    get_or_read pending i c.index.result.now behind c.index.ensures 0 in
    let pushed = c.in_ok-push.ensures.items in
    pushed ∙ ap (λ (l : List ℕ). l ++ c.byte_left.result ∷ []) c.loop-place.invariant
    ∙ append_assoc device (worn pending (take i kept)) (c.byte_left.result ∷ [])
    ∙ ap (λ (b : ℕ). device ++ (worn pending (take i kept) ++ b ∷ [])) c.byte_left.ensures
    ∙ ap (λ (b : ℕ). device ++ (worn pending (take i kept) ++ (if get_or kept i false then b else 0) ∷ [])) read
    ∙ ap (λ (l : List ℕ). device ++ l) (sym (worn-more pending kept i within behind))

pub returns : goal.returns
returns c =
    let kept = c.args.kept.now in
    let pending = c.args.self.now.pending.items in
    let past : (length kept ≤ c.loop-place.place) ⊎ (length pending ≤ c.loop-place.place) = search rules in
    c.loop-place.invariant
    ∙ ap (λ (l : List ℕ). c.args.self.now.device.items ++ l) (worn-all pending kept c.loop-place.place past)
