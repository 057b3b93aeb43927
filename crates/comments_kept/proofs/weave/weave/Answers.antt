use Rattle.std.proofs.Common.{arith, refl, ◌∙◌}
use Rattle.{yaml_writer.proofs.Prelude.drop_all, yaml_data.specs.Seen.tree_of, comments_kept.specs.declared.weaver.Weaver.Weaver}
use Rattle.comments_kept.proofs.Wholes.{whole, rest_is, some_left}
use Rattle.comments_kept.proofs.weave.weave.Goals as goal

pub returns : goal.returns
returns c =
    let b = c.weave_tree.new.weaver in
    let none = drop_all b.taken b.kept.now (omega (arith, c.if-weaver.false)) in
    whole (tree_of c.args.tree.now)
    (record { text = c.new.result; kept = c.args.kept; taken = 0; place = 0 }) c.put_filled_lines.new.self b
    c.new.ensures.bytes refl c.in_ok-put_filled_lines.ensures.wrote c.in_ok-weave_tree.ensures none c.requires.lines

pub returns-then-weaver : goal.returns-then-weaver
returns-then-weaver c =
    let b = c.weave_tree.new.weaver in
    let w : Weaver = record { text = c.new.result; kept = c.args.kept; taken = 0; place = 0 } in
    λ none. some_left b c.if-weaver.true
    (rest_is (tree_of c.args.tree.now) w c.put_filled_lines.new.self b refl c.in_ok-put_filled_lines.ensures.wrote
    c.in_ok-weave_tree.ensures ∙ none)
