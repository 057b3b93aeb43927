-- What conditions make of a request: it is as it is without them, or it is refused and changes nothing.
use Rattle.std.specs.Prelude.{◌≡◌, ◌⊎◌, ℕ, List, [], Option, Some, Ok}
use Rattle.conf_session.specs.{Prelude.{Condition, AllHold, FailsFirst, ConditionFault}, declared.words.Refusal.Refusal, Requests.Request}
use Rattle.conf_session.specs.{Requests.if_met, Answers.{Stored, answer, stored_after, file_after, staged_after, accepted_command}}
use Rattle.conf_session.specs.Answers.{condition_answered, refusal, word}

-- both requests are answered alike, and leave the same
pub record AreAlike (now : Stored) (one other : Request) : Type 0 where
  pub answers : answer now one ≡ answer now other
  pub leaves : stored_after now one ≡ stored_after now other
  pub reads : (file : Option (List ℕ)) → file_after file now one ≡ file_after file now other
  pub stages : (file : Option (List ℕ)) → staged_after file now one ≡ staged_after file now other
  pub accepts : accepted_command now one ≡ accepted_command now other

-- the request is answered by this refusal, and changes nothing
pub record OnlyRefuses (now : Stored) (request : Request) (reason : Refusal) : Type 0 where
  pub answers : answer now request ≡ Some (refusal (word reason))
  pub leaves : stored_after now request ≡ now
  pub reads : (file : Option (List ℕ)) → file_after file now request ≡ file
  pub stages : (file : Option (List ℕ)) → staged_after file now request ≡ file
  pub accepts : accepted_command now request ≡ []

-- the first condition that fails is answered
pub record RefusesFirst (now : Stored) (conditions : List Condition) (request : Request) : Type 0 where
  pub fault : ConditionFault
  pub first : FailsFirst now.state conditions fault
  pub reason : Refusal
  pub told : condition_answered fault ≡ Ok reason
  pub only : OnlyRefuses now (if_met conditions request) reason

-- all conditions hold, and the request is as it is without them; or the first that fails is answered
abbrev pub IsGuarded : Stored → List Condition → Request → Type 0
IsGuarded now conditions request =
    (AllHold now.state conditions × AreAlike now (if_met conditions request) request)
    ⊎ RefusesFirst now conditions request

-- so it is with all conditions of each request
abbrev pub ConditionsGuard : Type 0
ConditionsGuard = (now : Stored) (conditions : List Condition) (request : Request) → IsGuarded now conditions request
