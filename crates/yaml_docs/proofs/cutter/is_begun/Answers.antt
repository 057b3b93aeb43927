use Rattle.std.proofs.Common.{sym, ◌∙◌, Some, None, take}
use Rattle.yaml_docs.proofs.{Prelude.{strip_suffix_is, Decides-eqb}, ClosingLines.closing_line}
use Rattle.yaml_docs.proofs.cutter.is_begun.Goals as goal

pub returns-in-Some-clause-begun : goal.returns-in-Some-clause-begun
returns-in-Some-clause-begun c e = record {
  prefix = c.in-Some.lines.now;
  few = c.requires;
  is = strip_suffix_is Decides-eqb c.args.held.now (take c.args.dots closing_line) (Some c.in-Some.lines) c.in-Some.ensures.cases;
  line = sym c.ends_line.ensures ∙ e;
}

pub returns-in-None-clause-not_begun : goal.returns-in-None-clause-not_begun
returns-in-None-clause-not_begun c b = absurd
    (strip_suffix_is Decides-eqb c.args.held.now (take c.args.dots closing_line) None c.in-None.ensures.cases b.prefix b.is)
