-- What the types of src/ mean in the grammar.
use Rattle.std.specs.{Prelude.{List, map}, Str.chars, Cow.cow_str_bytes}
use Rattle.yaml_events.specs.declared.event.{Style.{Style, TheVariants.{Plain, Single, Double, Literal, Folded, Omitted}}, Event.Event}
use Rattle.yaml_events.specs.declared.event.Event.TheVariants.{DocStart, DocEnd, SeqStart, SeqEnd, MapStart, MapEnd, Scalar}
use Rattle.yaml_events.specs.declared.{event.EventRef.EventRef, context.FlowContext.{FlowContext, TheVariants.{Outer, Inner, BlockKey}}}
use Rattle.yaml_events.specs.declared.context.FlowContext.TheVariants.{FlowKey}
use Rattle.yaml_grammar.specs.Events as grammar
use Rattle.yaml_grammar.specs.FlowScalars as flow
use Rattle.yaml_events.specs.declared.event.EventRef.TheVariants as ref

-- the style that the code's value means
abbrev pub style_of : Style → grammar.Style
style_of Plain = grammar.plain_style
style_of Single = grammar.single_style
style_of Double = grammar.double_style
style_of Literal = grammar.literal_style
style_of Folded = grammar.folded_style
style_of Omitted = grammar.omitted_style

-- a value's bytes are code points in UTF-8
abbrev pub event_of : Event → grammar.Event
event_of DocStart = grammar.document_start
event_of DocEnd = grammar.document_end
event_of SeqStart = grammar.seq_start
event_of SeqEnd = grammar.seq_end
event_of MapStart = grammar.map_start
event_of MapEnd = grammar.map_end
event_of (Scalar style span value) =
    grammar.scalar_event (style_of style) span.start span.end (chars (cow_str_bytes value))

-- the same of an event by reference
abbrev pub event_ref_of : EventRef → grammar.Event
event_ref_of ref.DocStart = grammar.document_start
event_ref_of ref.DocEnd = grammar.document_end
event_ref_of ref.SeqStart = grammar.seq_start
event_ref_of ref.SeqEnd = grammar.seq_end
event_ref_of ref.MapStart = grammar.map_start
event_ref_of ref.MapEnd = grammar.map_end
event_ref_of (ref.Scalar style span value) = grammar.scalar_event (style_of style) span.start span.end (chars value.now)

-- the events that the code's values mean
abbrev pub events_of : List Event → List grammar.Event
events_of = map event_of

-- the context that the code's value means
abbrev pub context_of : FlowContext → flow.FlowContext
context_of Outer = flow.outer
context_of Inner = flow.inner
context_of BlockKey = flow.block_key
context_of FlowKey = flow.flow_key
