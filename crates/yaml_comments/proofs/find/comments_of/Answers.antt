-- One more event, and the end of the text.
use Rattle.std.{proofs.Common.{◌∷◌, ◌∙◌, ap, arith}, specs.Str.chars}
use Rattle.yaml_events.specs.{Meant.{event_ref_of, events_of, style_of}, declared.event.EventRef.EventRef}
use Rattle.yaml_comments.{specs.Found.places_of, proofs.Searching.{other_searched, scalar_ordered, scalar_within, scalar_searched}}
use Rattle.yaml_comments.proofs.Searching.{all_searched, text_within}
use Rattle.yaml_comments.proofs.find.comments_of.Goals as goal

pub loop-event-preserved-in_default : goal.loop-event-preserved-in_default
loop-event-preserved-in_default c =
    other_searched c.args.bytes.now (events_of c.args.events.now) c.loop-event.from c.loop-event.event-iterator
    c.next.new.self (places_of c.loop-event.found.items) c.in-Some.event
    c.in_default.not-Scalar c.in-Some.ensures.steps c.loop-event.invariant

pub text_start-start-requires-clause-within : goal.text_start-start-requires-clause-within
text_start-start-requires-clause-within c =
    scalar_within c.args.bytes.now (events_of c.args.events.now) c.loop-event.from c.loop-event.event-iterator
    (places_of c.loop-event.found.items) c.loop-event.invariant
    (style_of c.in-Scalar.style) c.in-Scalar.span.start c.in-Scalar.span.end (chars c.in-Scalar.value.now) c.next.new.self
    (c.in-Some.ensures.steps ∙ ap (λ (event : EventRef). event_ref_of event ∷ c.next.new.self) c.in-Scalar.is)

pub text_start-start-requires-clause-ordered : goal.text_start-start-requires-clause-ordered
text_start-start-requires-clause-ordered c =
    scalar_ordered c.args.bytes.now (events_of c.args.events.now) c.loop-event.from c.loop-event.event-iterator
    (places_of c.loop-event.found.items) c.loop-event.invariant
    (style_of c.in-Scalar.style) c.in-Scalar.span.start c.in-Scalar.span.end (chars c.in-Scalar.value.now) c.next.new.self
    (c.in-Some.ensures.steps ∙ ap (λ (event : EventRef). event_ref_of event ∷ c.next.new.self) c.in-Scalar.is)

pub push_gap-requires : goal.push_gap-requires
push_gap-requires c =
    let ordered = scalar_ordered c.args.bytes.now
    (events_of c.args.events.now) c.loop-event.from c.loop-event.event-iterator (places_of c.loop-event.found.items) c.loop-event.invariant
    (style_of c.in-Scalar.style) c.in-Scalar.span.start c.in-Scalar.span.end (chars c.in-Scalar.value.now) c.next.new.self
    (c.in-Some.ensures.steps ∙ ap (λ (event : EventRef). event_ref_of event ∷ c.next.new.self) c.in-Scalar.is) in
    let within = scalar_within c.args.bytes.now
    (events_of c.args.events.now) c.loop-event.from c.loop-event.event-iterator (places_of c.loop-event.found.items) c.loop-event.invariant
    (style_of c.in-Scalar.style) c.in-Scalar.span.start c.in-Scalar.span.end (chars c.in-Scalar.value.now) c.next.new.self
    (c.in-Some.ensures.steps ∙ ap (λ (event : EventRef). event_ref_of event ∷ c.next.new.self) c.in-Scalar.is) in
    let text = text_within c.args.bytes.now (style_of c.in-Scalar.style) c.in-Scalar.span.start c.in-Scalar.span.end
    c.text_start-start.result ordered c.text_start-start.ensures in
    omega (arith, within, text.1)

pub loop-event-preserved : goal.loop-event-preserved
loop-event-preserved c =
    scalar_searched c.args.bytes.now (events_of c.args.events.now) c.loop-event.from c.loop-event.event-iterator
    (places_of c.loop-event.found.items) c.loop-event.invariant
    (style_of c.in-Scalar.style) c.in-Scalar.span.start c.in-Scalar.span.end (chars c.in-Scalar.value.now) c.next.new.self
    (c.in-Some.ensures.steps ∙ ap (λ (event : EventRef). event_ref_of event ∷ c.next.new.self) c.in-Scalar.is)
    c.text_start-start.result c.text_start-start.ensures (places_of c.push_gap.new.found.items) c.in_ok-next.next
    c.in_ok-next.ensures c.max-from.result c.max-from.ensures

pub returns : goal.returns
returns c =
    all_searched c.args.bytes.now (events_of c.args.events.now) c.loop-event.from c.loop-event.event-iterator
    (places_of c.loop-event.found.items) (places_of c.push_gap-2.new.found.items) c.in_ok-_next._next
    c.in-None.ensures.steps.0 c.loop-event.invariant c.in_ok-_next.ensures
