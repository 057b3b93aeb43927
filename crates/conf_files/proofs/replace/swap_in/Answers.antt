use Rattle.std.proofs.Common.{◌∙◌, ap}
use Rattle.{file_calls.specs.Machine.Names, conf_files.{specs.Steps.IsFilled, proofs.Replacing.KeepsHolding-standing}}
use Rattle.conf_files.proofs.Replacing.{KeepsHolding-renamed, from-ok}
use Rattle.conf_files.proofs.replace.swap_in.Goals as goal

pub returns-in_err-blame-clause-keeps : goal.returns-in_err-blame-clause-keeps
returns-in_err-blame-clause-keeps g c h =
    KeepsHolding-standing g.C.FileCalls.model c.args.replaced c.args.bytes.now c.args.calls.now c.write_staged.new.calls
    (c.write_staged.ensures.keeps h)

pub returns-clause-keeps : goal.returns-clause-keeps
returns-clause-keeps g c h =
    let model = g.C.FileCalls.model in
    let filled : IsFilled c.args.replaced c.args.bytes.now (model.machine c.write_staged.new.calls) =
    from-ok c.write_staged.result c.blame.result _ c.in_ok-blame.field-0 c.blame.ensures c.in_ok-blame.was
    (c.write_staged.ensures.done h) in
    KeepsHolding-renamed model c.args.replaced c.args.bytes.now c.args.calls.now c.write_staged.new.calls c.rename.result
    c.rename.new.self h (c.write_staged.ensures.keeps h) filled.whole
    (ap (λ (names : Names). names.beside) (c.write_staged.ensures.frame h).now ∙ (c.requires h).beside) c.rename.ensures
