-- One more event, and the end of the text.
use Rattle.std.{proofs.Common.{◌∷◌, ◌∙◌, ap, arith}, specs.Str.chars}
use Rattle.yaml_events.specs.{Meant.{event_ref_of, events_of, style_of}, declared.event.EventRef.EventRef}
use Rattle.yaml_refusals.proofs.CommentLemmas.{found_before, other_passed, scalar_ordered, scalar_passed, scalar_within, searched_all}
use Rattle.yaml_refusals.proofs.CommentLemmas.{text_within, unmarked}
use Rattle.yaml_refusals.proofs.comments.comment_start.Goals as goal

pub loop-event-preserved-in_default : goal.loop-event-preserved-in_default
loop-event-preserved-in_default c =
    other_passed c.args.bytes.now (events_of c.args.events.now) c.loop-event.from c.loop-event.event-iterator
    c.next.new.self c.in-Some.event
    c.in_default.not-Scalar c.in-Some.ensures.steps c.loop-event.invariant

pub text_start-start-requires-clause-within : goal.text_start-start-requires-clause-within
text_start-start-requires-clause-within c =
    scalar_within c.args.bytes.now (events_of c.args.events.now) c.loop-event.from c.loop-event.event-iterator c.loop-event.invariant
    (style_of c.in-Scalar.style) c.in-Scalar.span.start c.in-Scalar.span.end (chars c.in-Scalar.value.now) c.next.new.self
    (c.in-Some.ensures.steps ∙ ap (λ (event : EventRef). event_ref_of event ∷ c.next.new.self) c.in-Scalar.is)

pub text_start-start-requires-clause-ordered : goal.text_start-start-requires-clause-ordered
text_start-start-requires-clause-ordered c =
    scalar_ordered c.args.bytes.now (events_of c.args.events.now) c.loop-event.from c.loop-event.event-iterator c.loop-event.invariant
    (style_of c.in-Scalar.style) c.in-Scalar.span.start c.in-Scalar.span.end (chars c.in-Scalar.value.now) c.next.new.self
    (c.in-Some.ensures.steps ∙ ap (λ (event : EventRef). event_ref_of event ∷ c.next.new.self) c.in-Scalar.is)

pub first_mark-requires : goal.first_mark-requires
first_mark-requires c =
    let ordered = scalar_ordered c.args.bytes.now
    (events_of c.args.events.now) c.loop-event.from c.loop-event.event-iterator c.loop-event.invariant
    (style_of c.in-Scalar.style) c.in-Scalar.span.start c.in-Scalar.span.end (chars c.in-Scalar.value.now) c.next.new.self
    (c.in-Some.ensures.steps ∙ ap (λ (event : EventRef). event_ref_of event ∷ c.next.new.self) c.in-Scalar.is) in
    let within = scalar_within c.args.bytes.now
    (events_of c.args.events.now) c.loop-event.from c.loop-event.event-iterator c.loop-event.invariant
    (style_of c.in-Scalar.style) c.in-Scalar.span.start c.in-Scalar.span.end (chars c.in-Scalar.value.now) c.next.new.self
    (c.in-Some.ensures.steps ∙ ap (λ (event : EventRef). event_ref_of event ∷ c.next.new.self) c.in-Scalar.is) in
    let text = text_within c.args.bytes.now (style_of c.in-Scalar.style) c.in-Scalar.span.start c.in-Scalar.span.end
    c.text_start-start.result ordered c.text_start-start.ensures in
    omega (arith, within, text.1)

pub returns-in-Some-first_mark : goal.returns-in-Some-first_mark
returns-in-Some-first_mark c =
    found_before c.args.bytes.now (events_of c.args.events.now) c.loop-event.from c.loop-event.event-iterator c.loop-event.invariant
    (style_of c.in-Scalar.style) c.in-Scalar.span.start c.in-Scalar.span.end (chars c.in-Scalar.value.now) c.next.new.self
    (c.in-Some.ensures.steps ∙ ap (λ (event : EventRef). event_ref_of event ∷ c.next.new.self) c.in-Scalar.is)
    c.text_start-start.result c.text_start-start.ensures c.in-Some-first_mark.at c.in-Some-first_mark.ensures

pub loop-event-preserved : goal.loop-event-preserved
loop-event-preserved c =
    scalar_passed c.args.bytes.now (events_of c.args.events.now) c.loop-event.from c.loop-event.event-iterator c.loop-event.invariant
    (style_of c.in-Scalar.style) c.in-Scalar.span.start c.in-Scalar.span.end (chars c.in-Scalar.value.now) c.next.new.self
    (c.in-Some.ensures.steps ∙ ap (λ (event : EventRef). event_ref_of event ∷ c.next.new.self) c.in-Scalar.is)
    c.text_start-start.result c.text_start-start.ensures
    (unmarked c.args.bytes.now c.loop-event.from c.text_start-start.result c.first_mark.result
    c.in_default-first_mark.not-Some c.first_mark.ensures)

pub returns : goal.returns
returns c =
    searched_all c.args.bytes.now (events_of c.args.events.now) c.loop-event.from c.loop-event.event-iterator c.first_mark-2.result
    c.in-None.ensures.steps.0 c.loop-event.invariant c.first_mark-2.ensures
