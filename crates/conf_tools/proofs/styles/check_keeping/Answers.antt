-- The text that was formatted is UTF-8 and short, and was compared with what it is with its comments.
use Rattle.std.proofs.Common.{◌≡◌, ◌≤◌, ℕ, List, length, sym, ap, subst, ◌∙◌, string_bytes}
use Rattle.{conf_tools.proofs.Prelude.{chars, config_limits}, yaml_style.specs.Findings.findings}
use Rattle.yaml_writer.proofs.ByteLemmas.{byte_len-chars}
use Rattle.conf_tools.proofs.styles.check_keeping.Goals as goal

pub from_utf8_unchecked-shown-requires : goal.from_utf8_unchecked-shown-requires
from_utf8_unchecked-shown-requires c = c.in-Ok.ensures.ok.tree.reads.utf8

pub check_beside-requires : goal.check_beside-requires
check_beside-requires c =
    let reads = c.in-Ok.ensures.ok.tree.reads in
    subst (λ (bytes : List ℕ). length bytes ≤ config_limits.bytes) (sym c.from_utf8_unchecked-shown.ensures)
    (subst (λ n. n ≤ config_limits.bytes) (byte_len-chars c.args.text.now reads.utf8) reads.gives.short)

pub returns-clause-found : goal.returns-clause-found
returns-clause-found c = (
  string_bytes c.in-Ok.kept,
  c.in-Ok.ensures.ok,
  c.in_ok-check_beside.ensures
      ∙ ap (λ (bytes : List ℕ). findings (chars bytes) (chars c.deref.result.now)) c.from_utf8_unchecked-shown.ensures
      ∙ ap (λ (bytes : List ℕ). findings (chars c.args.text.now) (chars bytes)) c.deref.ensures,
)

pub returns-clause-gives : goal.returns-clause-gives
returns-clause-gives c = (c.in-Ok.ensures.ok.tree.tree, c.in-Ok.ensures.ok.tree.reads)
