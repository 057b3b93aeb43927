use Rattle.std.proofs.Common.{◌≡◌, ◌&&◌, true, false, codes, is_none, refl, sym, ap, ◌∙◌}
use Rattle.conf_about.{proofs.FaultLemmas.about-None, specs.Abouts.fault_of}
use Rattle.conf_record.proofs.Prelude.{ascii, chars, same_text, tree_of}
use Rattle.conf_record.proofs.command_reader.about_under.Goals as goal

pub returns-then-not-is_same-clause-other : goal.returns-then-not-is_same-clause-other
returns-then-not-is_same-clause-other c =
    let same : same_text (chars c.args.key.now) (codes "about") ≡ false =
    ap (same_text (chars c.args.key.now)) (sym (ascii (codes "about") refl)) ∙ sym c.is_same.ensures ∙ c.if-not-is_same.true in
    (refl, ap (λ b. b && is_none (fault_of (tree_of c.args.tree))) same)

pub returns-in-Ok-clause-about : goal.returns-in-Ok-clause-about
returns-in-Ok-clause-about c =
    let same : same_text (chars c.args.key.now) (codes "about") ≡ true =
    ap (same_text (chars c.args.key.now)) (sym (ascii (codes "about") refl)) ∙ sym c.is_same.ensures ∙ c.if-not-is_same.false in
    (c.in-Ok.ensures.ok.0, rw (same, about-None (tree_of c.args.tree) c.in-Ok.ensures.ok.1) refl)
