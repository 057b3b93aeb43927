-- The word was performed, and then its ending was told.
use Rattle.std.proofs.Common.{◌≡◌, ◌⊎◌, ◌∙◌, ap, inl, inr, subst}
use Rattle.conf_tools.specs.{Sentences.HasSentence, Statuses.code_of, declared.{outcome.Ending.Ending, program.Status.Status}}
use Rattle.conf_tools.{specs.declared.program.Status.TheVariants.Device, proofs.StoreLemmas.performs-on-stores}
use Rattle.conf_tools.proofs.program.perform.Goals as goal

-- what follows the ending: a sentence, and why a device failed
more : {E : Type 0} (ending : Ending) (status : Status) (told said new : E) → HasSentence ending ⊎ (said ≡ told)
    → (status ≡ Device) ⊎ (new ≡ said) → HasSentence ending ⊎ (status ≡ Device) ⊎ (new ≡ told)
more ending status told said new (inl has) why = inl has
more ending status told said new (inr same) (inl device) = inr (inl device)
more ending status told said new (inr same) (inr quiet) = inr (inr (quiet ∙ same))

pub returns-clause-runs : goal.returns-clause-runs
returns-clause-runs g c = record {
  performs = record {
    ending = c.perform_word-ending.result;
    does = c.perform_word-ending.ensures.does;
    is = c.tell_ending-status.ensures.status;
  };
  tells = record {
    before = c.perform_word-ending.new.errors;
    leaves = c.perform_word-ending.ensures.leaves;
    told = c.tell_ending-status.new.errors;
    tells = c.tell_ending-status.ensures.tells;
    cause = more c.perform_word-ending.result c.tell_ending-status.result c.tell_ending-status.new.errors c.tell_sentence.new.errors
        c.tell_cause_at.new.errors c.tell_sentence.ensures c.tell_cause_at.ensures;
  };
}

pub returns-clause-tells : goal.returns-clause-tells
returns-clause-tells g c = record {
  ending = c.perform_word-ending.result;
  said = c.perform_word-ending.new.errors;
  says = c.perform_word-ending.ensures.tells;
  told = c.tell_ending-status.new.errors;
  tells = c.tell_ending-status.ensures.tells;
  cause = subst (λ (status : Status). HasSentence c.perform_word-ending.result ⊎ (status ≡ Device)
      ⊎ (c.tell_cause_at.new.errors ≡ c.tell_ending-status.new.errors)) c.tell_ending-status.ensures.status
      (more c.perform_word-ending.result c.tell_ending-status.result c.tell_ending-status.new.errors c.tell_sentence.new.errors
      c.tell_cause_at.new.errors c.tell_sentence.ensures c.tell_cause_at.ensures);
  exits = ap code_of c.tell_ending-status.ensures.status;
}

pub returns-clause-stores : goal.returns-clause-stores
returns-clause-stores g c =
    performs-on-stores g.A.World.model g.A.Disk.Disk.model g.A.File.Read.remaining c.args.invocation _ _ c.tell_ending-status.result
    (record {
      ending = c.perform_word-ending.result;
      does = c.perform_word-ending.ensures.does;
      is = c.tell_ending-status.ensures.status;
    })
