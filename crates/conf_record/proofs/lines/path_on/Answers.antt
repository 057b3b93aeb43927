use Rattle.std.proofs.Common.{rules, IsUtf8, sym, ◌∙◌, arith}
use Rattle.conf_record.proofs.Prelude.{chars-IsText, byte_len-chars}
use Rattle.conf_record.proofs.lines.path_on.Goals as goal

pub returns : goal.returns
returns c =
    let path = c.in_ok-path.path.now in
    let utf8 : IsUtf8 path = search rules in
    let long = c.if-path.false in
    record {
      is = c.in_ok-path.ensures;
      short = record {
        parsed = sym c.is_pointer.ensures ∙ c.if-not-is_pointer.false;
        bytes = omega (arith, byte_len-chars path utf8, long);
      };
      texts = chars-IsText path utf8;
    }
