-- Each turn performs one more record.
use Rattle.std.{proofs.Common.{rules, ◌++◌, ◌+◌, ◌-◌, ◌∙◌, ⊎_elim, ap, length, arith, length-drop, subst, sym}, specs.Prelude.{ℕ, List}}
use Rattle.std.specs.Prelude.{drop, slice_range, Result, Ok, Err, IfOk, OnOk}
use Rattle.conf_store.proofs.{Prelude.{Contents, IsState, IfOk-weaker, IfErr-weaker}, HoleLemmas.zero-no-record, KeptLemmas.slice-rest}
use Rattle.conf_store.{proofs.RecoveryLemmas.{all-replayed, left-replayed, next-replayed, none-replayed, unread}, specs.Holes.MayBeLeft}
use Rattle.conf_store.specs.{Holes.{WasKept, is_several}, Opens.{RecoversTo, RefusesBytes}}
use Rattle.conf_store.proofs.recovery.replay_records.Goals as goal

on-ok : {T E : Type 0} (r : Result T E) (P : T → Type 0) (Q : Type 0) → ((x : T) → P x → Q) → IfOk r P → OnOk r Q
on-ok (Ok x) P Q f p = f x p
on-ok (Err e) P Q f p = tt

pub records-init : goal.records-init
records-init g c = record {
  starts = search rules;
  read = none-replayed (g.T.Replayed.contents c.args.held.now) c.args.records.now;
  limits = λ kept. kept;
  few = omega arith;
}

pub records-preserved : goal.records-preserved
records-preserved g c =
    let next = c.in-Ok.ensures.ok in
    record {
      starts = c.in-Some.ensures.starts_line;
      read = next-replayed c.piece_between_closings.ensures.piece (g.T.Replayed.contents c.args.held.now) c.args.records.now
          c.records.at c.in-Some.end (g.T.Replayed.contents c.records.held) (g.T.Replayed.contents c.replay_record.new.held)
          c.records.commands next.command c.records.invariant.starts c.in-Some.ensures.found c.records.invariant.read
          next.is_record next.done;
      limits = λ kept. c.in-Ok.ensures.limits;
      few = omega (arith, c.records.invariant.few, c.in-Some.ensures.found.after);
    }

-- ---- a piece that is not the next record

pub ends_at-requires-clause-room : goal.ends_at-requires-clause-room
ends_at-requires-clause-room g c =
    omega (arith, c.records.invariant.few, c.in-Some.ensures.found.after, c.in-Some.ensures.found.closes.ends)

pub returns-in-Err-clause-ok : goal.returns-in-Err-clause-ok
returns-in-Err-clause-ok g c base closes is =
    let records = c.args.records.now in
    let several = is_several c.args.waiting in
    let before = g.T.Replayed.contents c.records.held in
    let piece = slice_range records c.records.at c.in-Some.end in
    let rest = slice-rest records c.in-Some.end in
    IfOk-weaker c.ends_at.result _ _
    (λ opened left.
    (let behind : MayBeLeft several piece (drop c.in-Some.end records) = subst (MayBeLeft several piece) rest left.0 in
    let same = c.in-Err.ensures.unread (zero-no-record c.no_zero_read.ensures.bytes piece behind.0) in
    subst (λ (s : Contents). RecoversTo several (base ++ records) s opened.commands opened.dropped) (ap g.T.Replayed.contents (sym same))
    (subst (λ n. RecoversTo several (base ++ records) before n opened.dropped) (sym left.1)
    (left-replayed base (g.T.Replayed.contents c.args.held.now) closes is c.piece_between_closings.ensures.piece records c.records.at
    c.in-Some.end before c.records.commands c.records.invariant.starts c.in-Some.ensures.found c.records.invariant.read
    c.no_zero_read.ensures.bytes c.one_list_of_pieces.ensures.some several behind opened.dropped
    (left.2 ∙ ap (λ (l : List ℕ). length piece + length l) rest)))))
    c.ends_at.ensures.ok

pub returns-in-Err-clause-limits : goal.returns-in-Err-clause-limits
returns-in-Err-clause-limits g c kept =
    let piece = slice_range c.args.records.now c.records.at c.in-Some.end in
    on-ok c.ends_at.result _ _
    (λ opened left.
    (let same = c.in-Err.ensures.unread (zero-no-record c.no_zero_read.ensures.bytes piece left.0.0) in
    subst (λ (s : Contents). IsState s) (ap g.T.Replayed.contents (sym same)) (c.records.invariant.limits kept)))
    c.ends_at.ensures.ok

pub returns-in-Err-clause-refused : goal.returns-in-Err-clause-refused
returns-in-Err-clause-refused g c base closes is =
    let records = c.args.records.now in
    let several = is_several c.args.waiting in
    let rest = slice-rest records c.in-Some.end in
    let piece = slice_range records c.records.at c.in-Some.end in
    IfErr-weaker c.ends_at.result _ _
    (λ reason. ⊎_elim
    (λ memory. subst (RefusesBytes several (base ++ records)) (sym memory) tt)
    (λ kept. subst (RefusesBytes several (base ++ records)) (sym kept.0)
    (unread base (g.T.Replayed.contents c.args.held.now) closes is c.piece_between_closings.ensures.piece records c.records.at
    c.in-Some.end (g.T.Replayed.contents c.records.held) c.records.commands c.records.invariant.starts c.in-Some.ensures.found
    c.records.invariant.read c.one_list_of_pieces.ensures.some c.documents_are_read.ensures.one_record several c.in-Err.fault
    (subst (WasKept several piece) rest kept.1) c.in-Err.ensures.refused)))
    c.ends_at.ensures.refused

-- ---- all records

pub returns-clause-limits : goal.returns-clause-limits
returns-clause-limits g c = c.records.invariant.limits

pub returns-clause-ok : goal.returns-clause-ok
returns-clause-ok g c base closes is =
    all-replayed base (g.T.Replayed.contents c.args.held.now) closes is c.piece_between_closings.ensures.rest (is_several c.args.waiting)
    c.args.records.now
    c.records.at (g.T.Replayed.contents c.records.held) c.records.commands c.records.invariant.starts c.in_default.ensures.none
    c.records.invariant.read (length c.args.records.now - c.records.at) (length-drop c.records.at c.args.records.now)
