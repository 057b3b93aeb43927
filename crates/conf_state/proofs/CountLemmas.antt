-- When a state has room for one command more.
use Rattle.std.proofs.Common.{◌≡◌, ℕ, ◌+◌, ◌<◌, ◌≤◌, ◌^◌, Bool, true, false, min, nat_le, nat_lt, if◌then◌else◌, List, Result, Ok, Err}
use Rattle.std.proofs.Common.{refl, ap, sym, ◌∙◌, arith}
use Rattle.conf_state.{proofs.{Prelude.nat_tests, BaseLemmas.base_length-framed}, specs.Steps.{with_room, next_state}}
use Rattle.conf_state.specs.declared.fault.StoreFault.{StoreFault, TheVariants.{StoreFull, RecordLong, JournalLong, CountFull}}
use Rattle.conf_state.specs.{declared.room.Room.{Room, TheVariants.{Enough, LongRecord, Missing}}, States.{Entry, Contents, base_limit}}
use Rattle.conf_state.specs.{States.count_limit, BaseTexts.{base_length, framed_length, entries_length}}

-- a smaller number passes the test
pub lt-true : (a b : ℕ) → a < b → nat_lt a b ≡ true
lt-true a b h = grind (arith, nat_tests)

-- a number that is no smaller fails it
pub lt-false : (a b : ℕ) → b ≤ a → nat_lt a b ≡ false
lt-false a b h = grind (arith, nat_tests)

le-true : (a b : ℕ) → a ≤ b → nat_le a b ≡ true
le-true a b h = grind (arith, nat_tests)

le-false : (a b : ℕ) → b < a → nat_le a b ≡ false
le-false a b h = grind (arith, nat_tests)

-- the refusals in their order
abbrev first_fault : Bool → Room → Bool → Contents → Result Contents StoreFault
first_fault full room last new = if full then Err StoreFull else with_room room (if last then Err CountFull else Ok new)

-- the frame's length passes the limit alike where lengths are cut off at the greatest number
cut : (n l : ℕ) → nat_lt base_limit (min (framed_length n (min l 18446744073709551615)) 18446744073709551615)
    ≡ nat_lt base_limit (framed_length n l)
cut n l = grind (arith, nat_tests)

module _ (s : Contents) (room : Room) (configs : List Entry) where
  abbrev new : Contents
  new = record { configs = configs; count = s.count + 1 }

  -- l is the length that the code computes
  module _ (small : s.count + 1 < 10 ^ 64) (l : ℕ)
      (is : l ≡ min (framed_length (s.count + 1) (min (entries_length configs) 18446744073709551615)) 18446744073709551615) where
    same : nat_lt base_limit (base_length new) ≡ nat_lt base_limit l
    same =
        ap (nat_lt base_limit) (base_length-framed (s.count + 1) configs small)
        ∙ sym (cut (s.count + 1) (entries_length configs)) ∙ ap (nat_lt base_limit) (sym is)

    short : l ≤ base_limit → nat_lt base_limit (base_length new) ≡ false
    short h = same ∙ lt-false base_limit l h

    pub next_state-full : base_limit < l → next_state s room configs ≡ Err StoreFull
    next_state-full h = ap (λ full. first_fault full room (nat_le count_limit s.count) new) (same ∙ lt-true base_limit l h)

    pub next_state-record : l ≤ base_limit → room ≡ LongRecord → next_state s room configs ≡ Err RecordLong
    next_state-record h no_room = rw (short h, no_room) refl

    pub next_state-long : l ≤ base_limit → room ≡ Missing → next_state s room configs ≡ Err JournalLong
    next_state-long h no_room = rw (short h, no_room) refl

    pub next_state-last : l ≤ base_limit → room ≡ Enough → s.count ≡ count_limit → next_state s room configs ≡ Err CountFull
    next_state-last h enough last =
        let at_limit = le-true count_limit s.count (omega arith) in
        rw (short h, enough, at_limit) refl

    pub next_state-new : l ≤ base_limit → room ≡ Enough → s.count < count_limit → next_state s room configs ≡ Ok new
    next_state-new h enough more =
        let below = le-false count_limit s.count more in
        rw (short h, enough, below) refl

  -- a state with room for the command keeps its base text short
  pub next_state-short : (after : Contents) → next_state s room configs ≡ Ok after → base_length new ≤ base_limit
  next_state-short after ok = by (nat_lt base_limit (base_length new)) refl
    where
      by : (full : Bool) → nat_lt base_limit (base_length new) ≡ full → base_length new ≤ base_limit
      by true e = absurd (refused (ap (λ full. first_fault full room (nat_le count_limit s.count) new) (sym e) ∙ ok))
        where
          refused : Err StoreFull ≡ Ok after → ⊥
          refused h = cc
      by false e = grind (arith, nat_tests, e)
