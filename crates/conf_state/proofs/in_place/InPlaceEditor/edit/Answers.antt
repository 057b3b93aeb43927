use Rattle.std.proofs.Common.{subst}
use Rattle.conf_state.{proofs.Prelude.chars, specs.{Edits.configs_edited, Endings.EndsInPlace}}
use Rattle.conf_state.proofs.in_place.InPlaceEditor.edit.Goals as goal

pub returns : goal.returns
returns c =
    let old = c.args.target.now in
    subst (λ bs. EndsInPlace c.args.self.now.room old
    (configs_edited old.configs (chars bs) c.args.edit (chars c.args.pointer.now)) c.edit.result c.edit.new.self)
    c.deref.ensures (record { ok = c.edit.ensures.ok; refused = c.edit.ensures.refused; unchanged = c.edit.ensures.unchanged })
