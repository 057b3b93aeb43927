use Rattle.std.proofs.Common.{◌≡◌, ◌++◌, codes, Some}
use Rattle.conf_session.proofs.{Prelude.split_text_parts, AboutLineLemmas.pair_line}
use Rattle.conf_session.proofs.about_lines.cut_pair.Goals as goal

pub returns : goal.returns
returns c =
    let pair = c.in_ok-pair.pair.now in
    let key = c.in_ok-key.key.now in
    let line = c.in_ok-key.line.now in
    let parts : pair ≡ key ++ (codes ": " ++ line) =
    split_text_parts (codes ": ") pair (Some (c.in_ok-key.key, c.in_ok-key.line)) c.in_ok-key.ensures.cases in
    pair_line c.args.lines.now pair c.in_ok-pair.rest.now key line c.in_ok-text.text.now c.in_ok-pair.ensures parts
    (c.is_plain_key.ensures.plain c.if-not-is_plain_key.false) (c.is_plain_key.ensures.short c.if-not-is_plain_key.false)
    c.in_ok-text.ensures
