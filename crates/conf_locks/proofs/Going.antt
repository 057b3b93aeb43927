-- What a run goes by after a call of it, before which others made any of theirs.
use Rattle.std.{specs.Prelude.{Result, Ok, Err}, proofs.Common.{◌≡◌, ℕ, List, [], ◌∷◌, ◌++◌, ⊎_elim, refl, sym, ◌∙◌, ap, subst}}
use Rattle.conf_locks.specs.{declared.system.Locking.{Locking, TheVariants.{Taken, Held}}, Locks.{Locks, Call, LockFile, ShareFolder, Make}}
use Rattle.conf_locks.specs.{Locks.{Remove, Event, after, after_all, HoldsNone, AreMade, Others, Reaches}, Models.{LockModel, Goes, Asks}}
use Rattle.conf_locks.{specs.{Models.MayDo, Taking.Follows}, proofs.Staying.{IsLeft, left, none-left}}

-- one list of calls and then another
all-then : (events more : List Event) (locks : Locks) → after_all (events ++ more) locks ≡ after_all more (after_all events locks)
all-then [] more locks = refl
all-then (event ∷ events) more locks = all-then events more (after event.run event.call locks)

made-then : (events more : List Event) (locks : Locks) → AreMade events locks → AreMade more (after_all events locks)
    → AreMade (events ++ more) locks
made-then [] more locks made then = then
made-then (event ∷ events) more locks made then =
    (made.0, made.1, made-then events more (after event.run event.call locks) made.2 then)

pub reach-same : (locks : Locks) → Reaches locks locks
reach-same locks = record { events = []; made = tt; is = refl }

pub reach-then : (old mid new : Locks) → Reaches old mid → Reaches mid new → Reaches old new
reach-then old mid new first second = record {
  events = first.events ++ second.events;
  made = made-then first.events second.events old first.made (subst (AreMade second.events) (sym first.is) second.made);
  is = all-then first.events second.events old ∙ ap (after_all second.events) first.is ∙ second.is;
}

pub reach-others : (run : ℕ) (old new : Locks) → Others run old new → Reaches old new
reach-others run old new others = record { events = others.events; made = others.made; is = others.is }

-- a run that goes on
pub follows-none : {S : Type 0} (model : LockModel S) (s : S) → Follows model s s
follows-none model s = record { run = refl; reaches = reach-same (model.locks s) }

pub follows-then : {S : Type 0} (model : LockModel S) (old mid new : S) → Follows model old mid → Follows model mid new
    → Follows model old new
follows-then model old mid new first second = record {
  run = second.run ∙ first.run;
  reaches = reach-then (model.locks old) (model.locks mid) (model.locks new) first.reaches second.reaches;
}

-- after a call
pub follows-goes : {S : Type 0} (model : LockModel S) (old new : S) (P : Locks → Locks → Type 0) → Goes model old new P
    → Follows model old new
follows-goes model old new P goes = record {
  run = goes.run;
  reaches = reach-then (model.locks old) goes.mid (model.locks new)
      (reach-others (model.run old) (model.locks old) goes.mid goes.others) goes.reaches;
}

-- what others leave before a call
pub left-before : {S : Type 0} (model : LockModel S) (old new : S) (P : Locks → Locks → Type 0) (goes : Goes model old new P)
    → IsLeft (model.run old) (model.locks old) goes.mid
left-before model old new P goes = left (model.run old) (model.locks old) goes.mid goes.others

-- a run that holds nothing, after a call that changes nothing
pub none-after : {S : Type 0} (model : LockModel S) (old new : S) (P : Locks → Locks → Type 0) (goes : Goes model old new P)
    → model.locks new ≡ goes.mid → HoldsNone (model.run old) (model.locks old) → HoldsNone (model.run new) (model.locks new)
none-after model old new P goes is none =
    subst (λ (run : ℕ). HoldsNone run (model.locks new)) (sym goes.run)
    (subst (HoldsNone (model.run old)) (sym is)
    (none-left (model.run old) (model.locks old) goes.mid (left-before model old new P goes) none))

pub goes-weaker : {S : Type 0} (model : LockModel S) (old new : S) (P Q : Locks → Locks → Type 0) → Goes model old new P
    → ((mid : Locks) → P mid (model.locks new) → Q mid (model.locks new)) → Goes model old new Q
goes-weaker model old new P Q goes weaker = record {
  run = goes.run;
  mid = goes.mid;
  others = goes.others;
  reaches = goes.reaches;
  own = weaker goes.mid goes.own;
}

-- a lock that was taken
pub asked-taken : {E : Type 0} (run : ℕ) (call : Call) (asked : Result Locking E) (mid new : Locks) → asked ≡ Ok Taken
    → Asks run call asked mid new → new ≡ after run call mid
asked-taken {E} run call asked mid new is asks = (subst (λ (a : Result Locking E). Asks run call a mid new) is asks).1

-- what asking for a lock leaves
pub asks-file : {E : Type 0} (run file : ℕ) (asked : Result Locking E) (mid new : Locks) → Asks run (LockFile file) asked mid new
    → new.alone ≡ mid.alone
asks-file run file (Ok Taken) mid new asks = ap (λ (l : Locks). l.alone) asks.1
asks-file run file (Ok Held) mid new asks = ap (λ (l : Locks). l.alone) asks.1
asks-file run file (Err error) mid new asks = ap (λ (l : Locks). l.alone) asks

pub asks-share : {E : Type 0} (run : ℕ) (asked : Result Locking E) (mid new : Locks) → Asks run ShareFolder asked mid new
    → (new.holder ≡ mid.holder) × (new.marked ≡ mid.marked)
asks-share run (Ok Taken) mid new asks = (ap (λ (l : Locks). l.holder) asks.1, ap (λ (l : Locks). l.marked) asks.1)
asks-share run (Ok Held) mid new asks = (ap (λ (l : Locks). l.holder) asks.1, ap (λ (l : Locks). l.marked) asks.1)
asks-share run (Err error) mid new asks = (ap (λ (l : Locks). l.holder) asks, ap (λ (l : Locks). l.marked) asks)

-- a call that keeps the lock of the folder, and takes none of a file
pub record IsSteady (mid new : Locks) : Type 0 where
  pub alone : new.alone ≡ mid.alone
  pub holder : new.holder ≡ mid.holder

pub steady-is : (mid new : Locks) → new ≡ mid → IsSteady mid new
steady-is mid new is = record { alone = ap (λ (l : Locks). l.alone) is; holder = ap (λ (l : Locks). l.holder) is }

pub steady-make : (run file : ℕ) (mid new : Locks) → new ≡ after run (Make file) mid → IsSteady mid new
steady-make run file mid new is = record { alone = ap (λ (l : Locks). l.alone) is; holder = ap (λ (l : Locks). l.holder) is }

pub steady-remove : (run : ℕ) (mid new : Locks) → MayDo run Remove mid new → IsSteady mid new
steady-remove run mid new done = ⊎_elim (λ is. steady-is mid new is)
    (λ is. record { alone = ap (λ (l : Locks). l.alone) is.1; holder = ap (λ (l : Locks). l.holder) is.1 }) done
