use Rattle.std.proofs.Common.{◌∙◌, ◌++◌, ◌+◌, ap, append-nil, arith, sym}
use Rattle.yaml_flow_scalars.proofs.{Prelude.{between, context_of}, PlainLines.lines_stop, PlainWords.letter_begins_at}
use Rattle.yaml_flow_scalars.proofs.PlainFound.{first_line_unbroken, plain_found}
use Rattle.yaml_flow_scalars.proofs.plain_scalar.plain_first_line_end.Goals as goal

pub plain_run_end-requires : goal.plain_run_end-requires
plain_run_end-requires c =
    (letter_begins_at (context_of c.args.context) c.args.text.now c.args.at c.utf8.text c.requires
    (sym c.letter_or_digit_at.ensures ∙ c.if-not-letter_or_digit_at.false)).boundary

pub returns : goal.returns
returns c =
    let context = context_of c.args.context in
    let text = c.args.text.now in
    let at = c.args.at in
    let run = c.plain_run_end.ensures in
    let end = c.plain_run_end.result in
    let begins = letter_begins_at context text at c.utf8.text c.requires
    (sym c.letter_or_digit_at.ensures ∙ c.if-not-letter_or_digit_at.false) in
    record {
      above = omega (arith, run.above);
      boundary = run.boundary;
      unbroken = first_line_unbroken 0 context text at (at + 1) end c.utf8.text c.requires begins run;
      whole = λ n last.
          let none = lines_stop n context text end last in
          plain_found n context text at (at + 1) end c.utf8.text c.requires begins run end (between text at end)
          (omega arith) run.boundary none.1
          (ap (λ t. between text at end ++ t) none.0 ∙ append-nil (between text at end));
    }
