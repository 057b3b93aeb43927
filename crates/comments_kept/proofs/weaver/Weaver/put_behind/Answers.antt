use Rattle.std.{proofs.Common.{codes, refl, ◌++◌, subst}, specs.Str.chars}
use Rattle.{yaml_writer.proofs.Prelude.{on_ok_weaker, chars-literal}, comments_kept.{specs.Weaving.Wrote, proofs.Weaving.wrote_both}}
use Rattle.comments_kept.proofs.weaver.Weaver.put_behind.Goals as goal

pub returns : goal.returns
returns c =
    let a = c.args.self.now in
    let comment = chars c.args.text.now in
    let mark = subst (λ cs. Wrote a cs c.put_text.new.self) (chars-literal (codes " #") refl) c.in_ok-put_text.ensures in
    on_ok_weaker c.put_char.result
    (λ feed. wrote_both a c.put_text-2.new.self c.put_char.new.self (codes " #" ++ comment) (codes "\n")
    (wrote_both a c.put_text.new.self c.put_text-2.new.self (codes " #") comment mark c.in_ok-put_text-2.ensures) feed)
    c.put_char.ensures
