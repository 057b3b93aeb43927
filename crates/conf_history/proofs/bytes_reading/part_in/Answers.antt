-- The bytes up to the first closing line are the base, and the others are its records.
use Rattle.std.{proofs.Common.{rules, ◌∙◌, ℕ, List, sym, subst}, specs.Prelude.{IfSome, IfNone}}
use Rattle.conf_history.{specs.Prelude.is_several, proofs.Prelude.{ClosesOnce, IsNextClosing, NoClosingAfter, StartsLine, IsBase, IsNoBase}}
use Rattle.conf_history.proofs.Prelude.{RecoversTo, RefusesBytes, cut-apart, first-closes, first-no-base, no-closing-no-base}
use Rattle.conf_history.proofs.bytes_reading.part_in.Goals as goal

pub returns-in_default-clause-refused : goal.returns-in_default-clause-refused
returns-in_default-clause-refused c =
    let bytes : List ℕ = c.args.bytes.items in
    let starts : StartsLine bytes 0 = search rules in
    no-closing-no-base c.piece_between_closings.ensures.rest bytes starts
    (subst (λ b. NoClosingAfter b 0) c.deref.ensures.value c.in_default.ensures.none)

pub returns-in-Ok-None-clause-refused : goal.returns-in-Ok-None-clause-refused
returns-in-Ok-None-clause-refused c =
    let bytes : List ℕ = c.args.bytes.items in
    let starts : StartsLine bytes 0 = search rules in
    let next : IsNextClosing bytes 0 c.in-Some.end =
    subst (λ b. IsNextClosing b 0 c.in-Some.end) c.deref.ensures.value c.in-Some.ensures.found in
    first-no-base c.piece_between_closings.ensures.piece c.one_list_of_pieces.ensures.some bytes c.in-Some.end starts next
    (subst IsNoBase c.truncate.ensures.items
    (subst (λ r. IfNone r (IsNoBase c.truncate.new.self.items)) c.in-Ok-None.field-0-is c.in-Ok-None.ensures.none))

pub returns-in-Ok-replay_records-clause-ok : goal.returns-in-Ok-replay_records-clause-ok
returns-in-Ok-replay_records-clause-ok c =
    let bytes : List ℕ = c.args.bytes.items in
    let base : List ℕ = c.truncate.new.self.items in
    let starts : StartsLine bytes 0 = search rules in
    let next : IsNextClosing bytes 0 c.in-Some.end =
    subst (λ b. IsNextClosing b 0 c.in-Some.end) c.deref.ensures.value c.in-Some.ensures.found in
    let closes : ClosesOnce base = subst ClosesOnce (sym c.truncate.ensures.items)
    (first-closes c.piece_between_closings.ensures.piece bytes c.in-Some.end starts next) in
    let is : IsBase base c.in-Ok-Some.held.part =
    subst (λ r. IfSome r (λ held. IsBase base held.part)) c.in-Ok-Some.field-0-is c.in-Ok-Some.ensures.some in
    let opened = c.in-Ok-replay_records.opened in
    subst (λ b. RecoversTo (is_several c.args.waiting) b c.replay_records.new.held.part opened.commands opened.dropped)
    (cut-apart bytes c.deref-2.result.now base c.deref-in-Ok-Some.result.now c.in-Some.end c.deref-2.ensures.value
    c.truncate.ensures.items (c.deref-in-Ok-Some.ensures.value ∙ c.in-Ok.ensures.items))
    (c.in-Ok-replay_records.ensures.ok base closes is)

pub returns-in-Ok-Some-clause-refused : goal.returns-in-Ok-Some-clause-refused
returns-in-Ok-Some-clause-refused c =
    let bytes : List ℕ = c.args.bytes.items in
    let base : List ℕ = c.truncate.new.self.items in
    let starts : StartsLine bytes 0 = search rules in
    let next : IsNextClosing bytes 0 c.in-Some.end =
    subst (λ b. IsNextClosing b 0 c.in-Some.end) c.deref.ensures.value c.in-Some.ensures.found in
    let closes : ClosesOnce base = subst ClosesOnce (sym c.truncate.ensures.items)
    (first-closes c.piece_between_closings.ensures.piece bytes c.in-Some.end starts next) in
    let is : IsBase base c.in-Ok-Some.held.part =
    subst (λ r. IfSome r (λ held. IsBase base held.part)) c.in-Ok-Some.field-0-is c.in-Ok-Some.ensures.some in
    subst (λ b. RefusesBytes (is_several c.args.waiting) b c.in-Err-replay_records.fault)
    (cut-apart bytes c.deref-2.result.now base c.deref-in-Ok-Some.result.now c.in-Some.end c.deref-2.ensures.value
    c.truncate.ensures.items (c.deref-in-Ok-Some.ensures.value ∙ c.in-Ok.ensures.items))
    (c.in-Err-replay_records.ensures.refused base closes is)
