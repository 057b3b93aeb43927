-- A draft and a count as a state, and the state after one command more.
use Rattle.std.proofs.Common.{◌≡◌, ◌⊎◌, inr, ℕ, ◌+◌, ◌<◌, ◌≤◌, ◌^◌, min, List, Result, Ok, Err, OnOk, IfErr, refl, ap, sym, subst, ◌∙◌}
use Rattle.std.proofs.Common.{arith}
use Rattle.conf_state.specs.{BaseTexts.{base_length, framed_length, entries_length}, Commands.Command, Drafts.{drafted, IsDraftOf}}
use Rattle.conf_state.specs.{Limits.IsState, Parts.IsPart, States.{Entry, Contents, base_limit, count_limit}, Steps.{and_then, next_state}}
use Rattle.conf_state.specs.{Steps.{performed, step}, declared.{draft.Draft.Draft, fault.StoreFault.{StoreFault, TheVariants.OutOfMemory}}}
use Rattle.conf_state.{specs.declared.room.Room.TheVariants.Enough, proofs.{BaseLemmas.base_length-framed, CountLemmas.next_state-short}}
use Rattle.conf_state.proofs.{OriginLemmas.drafted-within, PlanningLemmas.or_so}

module _ (es : List Entry) (draft : Draft) (of : IsDraftOf es draft) (count : ℕ) where
  abbrev made : ℕ → Contents
  made n = record { configs = drafted es draft; count = n }

  -- a draft whose base text is short enough is a state
  module _ (small : count < 2 ^ 64) (base : ℕ) (is : base ≡ min (framed_length count draft.length) 18446744073709551615) where
    framed : base_length (made count) ≡ framed_length count (entries_length (drafted es draft))
    framed = base_length-framed count (drafted es draft) (omega (arith, small))

    same : base ≡ min (base_length (made count)) 18446744073709551615
    same = is ∙ ap (λ l. min (framed_length count l) 18446744073709551615) of.counted
        ∙ ap (λ l. min l 18446744073709551615) (sym framed)

    pub part-short : base ≤ base_limit → IsPart es draft count
    part-short short = record {
      draft_of = of;
      state = record {
        configs = (drafted-within es draft of).configs;
        distinct = (drafted-within es draft of).distinct;
        short = omega (arith, same, short);
        numbered = omega (arith, small);
      };
    }

    -- and otherwise none
    pub part-long : base_limit < base → IsState (made count) → ⊥
    part-long long state = let short = state.short in omega (arith, same, long, short)

  -- so is the draft after one command more, for which there is room
  pub part-next : count < count_limit → (s after : Contents) → next_state s Enough (drafted es draft) ≡ Ok after → s.count ≡ count
      → IsPart es draft (count + 1)
  part-next below s after ok counts = record {
    draft_of = of;
    state = record {
      configs = (drafted-within es draft of).configs;
      distinct = (drafted-within es draft of).distinct;
      short = subst (λ n. base_length (made (n + 1)) ≤ base_limit) counts (next_state-short s Enough (drafted es draft) after ok);
      numbered = omega (arith, below);
    };
  }

-- a command whose edits are made on a draft, and then a check whether there is room for it
module _ (es : List Entry) (old new : Draft) (of : IsDraftOf es new) (count : ℕ) (command : Command)
    (made : performed (drafted es old) command ≡ Ok (drafted es new)) where
  abbrev before : Contents
  before = record { configs = drafted es old; count = count }

  -- what a check says of each state with this count, and configurations of this length
  abbrev Says : (Contents → List Entry → Result Contents StoreFault) → Type 0
  Says outcome = (s : Contents) (configs : List Entry) → s.count ≡ count → new.length ≡ min (entries_length configs) 18446744073709551615
      → next_state s Enough configs ≡ outcome s configs

  abbrev counted_on : Contents → List Entry → Result Contents StoreFault
  counted_on s configs = Ok (record { configs = configs; count = s.count + 1 })

  pub checked-part : (r : Result (Unit {0}) StoreFault) → OnOk r (Says counted_on) → OnOk r (count < count_limit)
      → OnOk r (new.length ≤ base_limit) → OnOk r (IsPart es new (count + 1))
  checked-part (Ok u) ok below short =
      part-next es new of count below before _ (ok before (drafted es new) refl (omega (arith, of.counted, short))) refl
  checked-part (Err fault) ok below short = tt

  pub checked-ok : (r : Result (Unit {0}) StoreFault) → OnOk r (Says counted_on) → OnOk r (new.length ≤ base_limit)
      → OnOk r (step before command Enough ≡ Ok (record { configs = drafted es new; count = count + 1 }))
  checked-ok (Ok u) ok short =
      ap (λ o. and_then o (next_state before Enough)) made ∙ ok before (drafted es new) refl (omega (arith, of.counted, short))
  checked-ok (Err fault) ok short = tt

  pub checked-refused : (r : Result (Unit {0}) StoreFault) → new.length ≡ min new.length 18446744073709551615
      → IfErr r (λ fault. Says (λ s configs. Err fault))
      → IfErr r (λ fault. (fault ≡ OutOfMemory) ⊎ (step before command Enough ≡ Err fault))
  checked-refused (Ok u) fits refused = tt
  checked-refused (Err fault) fits refused =
      inr (ap (λ o. and_then o (next_state before Enough)) made
      ∙ refused before (drafted es new) refl (fits ∙ ap (λ n. min n 18446744073709551615) of.counted))
