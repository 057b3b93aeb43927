use Rattle.std.{proofs.Common.{subst, sym, ℕ, ◌≤◌, ◌∙◌}, specs.Prelude.{IfSome, Option}}
use Rattle.yaml_block.proofs.Prelude.{and_parts}
use Rattle.yaml_block.proofs.reader.Reader.leaf.Goals as goal

pub first_key-requires : goal.first_key-requires
first_key-requires c =
    let fits = and_parts _ _ (sym c.has_colon.ensures ∙ c.if-has_colon.true) in
    record {
      at = c.requires.at;
      pairs = c.in-Some-pairs.is;
      deep = subst (λ (ps : Option ℕ). IfSome ps (λ i. i ≤ c.args.leaf.at)) c.in-Some-pairs.is c.requires.pairs;
      key = record { line = c.in-Some.ensures; short = fits.1; colon = fits.0 };
    }
