use Rattle.std.proofs.Common.{◌-◌, ◌≤◌, [], length, refl, sym, ap, subst, ◌∙◌, arith}
use Rattle.yaml_styled.proofs.{Prelude.{chars, byte_len, text, scalar_lines, style_text, text_bytes, indented}, SoundLemmas.text_sound}
use Rattle.yaml_styled.{proofs.{TakingLemmas.took_uncounted, StyledLemmas.scalar_short}, specs.Taking.Took}
use Rattle.yaml_data.proofs.{SeenLemmas.tree_of-Text, TextLemmas.IsUtf8-text_bytes}
use Rattle.yaml_styled.proofs.flat.read_own_text.Goals as goal

pub of_element-size-requires-clause-long : goal.of_element-size-requires-clause-long
of_element-size-requires-clause-long g c =
    let a = c.args.lines.now in
    let b = c.write_scalar.new.sink in
    let value = chars c.as_str.result.now in
    let seen = ap (λ t. byte_len (style_text t)) (tree_of-Text c.args.text ∙ ap (λ bytes. text (chars bytes)) (sym c.as_str.ensures)) in
    let first = ap length c.rest-before.ensures in
    let last = ap length c.rest.ensures in
    let few : length a.rest.now - length b.rest.now ≤ 67108864 =
    omega (arith, first, last, c.saturating_sub.ensures, c.if-saturating_sub-gt-MOST_BYTES.false) in
    let short = scalar_short value c.args.indent a.rest.now b.rest.now 67108864 c.requires c.in_ok-write_scalar.ensures.goes_on few in
    omega (arith, seen, short)

pub returns : goal.returns
returns g c =
    let a = c.args.lines.now in
    let b = c.write_scalar.new.sink in
    let d = c.count.new.self in
    let bytes = text_bytes c.args.text in
    let tree = text (chars bytes) in
    let seen = tree_of-Text c.args.text in
    let lines = ap (λ s. s.lines) c.of_element-size.ensures.size ∙ ap indented seen in
    let wrote = subst (λ bs. Took a.rest.now a.counted (scalar_lines c.args.indent (chars bs)) 0 b.rest.now b.counted)
    c.as_str.ensures c.in_ok-write_scalar.ensures in
    let counted = subst (λ n. Took b.rest.now b.counted [] n d.rest.now d.counted) lines c.in_ok-count.ensures in
    record {
      tree = tree;
      is = (subst (g.V.Build.Means c.from_tree.result) seen c.from_tree.ensures, refl);
      took = took_uncounted wrote counted;
      sound = text_sound bytes (IsUtf8-text_bytes c.args.text);
    }
