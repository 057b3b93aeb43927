-- The text is `-`, and that is told.
use Rattle.std.proofs.{Common.{[], ◌∷◌, inl, sym}, lemmas.Slice.Eq.bytes_eq-Decides}
use Rattle.conf_tools.proofs.change_words.tell_dash.Goals as goal

pub returns-then-eq : goal.returns-then-eq
returns-then-eq g c =
    let text = c.args.text.now in
    inl ((bytes_eq-Decides text (45 ∷ [])).0 (sym c.if-eq.ensures), c.tell.ensures)
