-- The file was opened, and read, or not.
use Rattle.std.{proofs.Common.{◌∙◌, ap, refl, subst}, specs.Prelude.{Some, Ok, Err}}
use Rattle.conf_tools.specs.{Refused.TellsFaultOf, Statuses.status_of, declared.texts.ToolFault.ToolFault}
use Rattle.conf_tools.proofs.file_words.restyle_opened.Goals as goal

pub returns-in-Ok : goal.returns-in-Ok
returns-in-Ok g c = (
  record {
    found = Ok (c.in-Ok.opened, c.in-Ok.place);
    seen = c.open_to_replace.new.self;
    opens = c.in-Ok.ensures;
    does = (c.read_text-read.result, _, c.read_text-read.ensures, c.replace_read.ensures.0);
  },
  c.replace_read.ensures.1,
)

pub returns-in-Err : goal.returns-in-Err
returns-in-Err g c = (
  record {
    found = Err c.in-Err.fault;
    seen = c.open_to_replace.new.self;
    opens = c.in-Err.ensures;
    does = (refl, c.status_of.ensures ∙ ap status_of c.unopened-fault.ensures);
  },
  subst (λ (fault : ToolFault). TellsFaultOf g.E.Listener.hears c.args.reporter.reporting (Some c.args.file.now) fault
      c.args.errors.now c.tell_fault.new.errors) c.unopened-fault.ensures c.tell_fault.ensures.of,
)
