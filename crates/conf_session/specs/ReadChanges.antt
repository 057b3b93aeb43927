-- A command that changes configurations, once its texts are read.
use Rattle.std.specs.Prelude.{◌≡◌, true, List, Result, Ok, Err, IfErr, is_ok}
use Rattle.conf_session.specs.{Prelude.{command_of, StoreFault, Condition}, declared.fault.SessionFault.TheVariants.OutOfMemory}
use Rattle.conf_session.specs.{Answers.answered, Requests.{Request, changing, unread, if_met}}
use Rattle.conf_state.specs.declared.command.Command as code

-- this is the request: the command, or the answered reason why there is none
abbrev pub IsRequest : Result code.Command StoreFault → Request → Type 0
IsRequest (Ok command) request = request ≡ changing (command_of command)
IsRequest (Err fault) request = (request ≡ unread fault) × (is_ok (answered fault) ≡ true)

-- a reason that is not answered is that memory ran out
abbrev pub EndsByMemory : Result code.Command StoreFault → Type 0
EndsByMemory read = IfErr read (λ fault. IfErr (answered fault) (λ end. end ≡ OutOfMemory))

-- what was read is a request for which `Asked` holds
pub record ReadsAsked (Asked : Request → Type 0) (read : Result code.Command StoreFault) : Type 0 where
  pub asked : (request : Request) → IsRequest read request → Asked request
  pub memory : EndsByMemory read

-- a request after conditions, where `Asked` holds of it without them
abbrev pub IfMet : List Condition → (Request → Type 0) → Request → Type 0
IfMet conditions Asked request = (met : Request) × Asked met × (request ≡ if_met conditions met)
