-- The comments of a stream are those of its text (YAML 1.2.2, 6.8 and chapter 9).
use Rattle.std.proofs.Common.{◌≡◌, refl, sym, ◌∙◌, ap, subst, inl, inr, arith, append_assoc, append-nil, encode_utf8_all, ⊎_elim}
use Rattle.std.{proofs.lemmas.Bool.{and_parts, cases_lt}, specs.Prelude.{ℕ, map, ◌+◌, Bool, true, false, not, ◌&&◌, List, [], ◌∷◌, ◌++◌}}
use Rattle.std.specs.{Prelude.{Option, Some, None, codes, cond, flat_map}, List.list_all}
use Rattle.{yaml_chars.specs.Classes.white, yaml_grammar.specs.Texts.{is_empty, marker, optional, byte_len, starts_line}}
use Rattle.yaml_grammar.specs.{Separation.{LineEnd, comments_text, comments_fit}, BlockNodes.node_fits, Events.{Event, plain_style}}
use Rattle.yaml_grammar.specs.Events.{single_style, double_style, literal_style, folded_style, omitted_style, document_start, document_end}
use Rattle.yaml_grammar.specs.{Events.{seq_start, seq_end, map_start, map_end, scalar_event}, Streams.{Explicit, content, nothing, Version}}
use Rattle.yaml_grammar.specs.Streams.{yaml_1_1, yaml_1_2, Document, bare, explicit, directed, Part, suffixes, line, further, Stream}
use Rattle.yaml_grammar.specs.Streams.{explicit_text, version_text, directive_text, document_text, suffix_text, part_text, parts_text}
use Rattle.yaml_grammar.specs.Streams.{mark_text, stream_text, explicit_fits, document_fits, optional_document_fits, suffix_fits}
use Rattle.yaml_grammar.specs.Streams.{suffixes_fit, part_fits, parts_fit, fits, explicit_events, document_events, optional_document_events}
use Rattle.{yaml_grammar.specs.Streams.{part_events, parts_events, stream_events}, yaml_comments.specs.Outside.{IsOutside, IsComment}}
use Rattle.yaml_comments.specs.{Comments.{Place, AreComments, comment_at}, CommentLaws.PresentedComments, Presented.lines_comments}
use Rattle.yaml_comments.specs.Presented.{explicit_comments, document_comments, optional_document_comments, part_comments, stream_comments}
use Rattle.yaml_comments.proofs.{Segments.{all_bytes, ranges, places, Outside, Mark, Next, Are, all_found, all_cut}, Parted.Parted}
use Rattle.yaml_comments.proofs.Parted.{ranges_of, Empties, nothing as empty_part, join, texted, moved, document_of, unmarked}
use Rattle.yaml_comments.proofs.{LinesParted.{whites_unmarked, line_end_part, lines_part}, FlowParted.omitted_part, BlockParted.node_part}

-- ---- documents

-- what follows `---`, with it, is a part
explicit_part : (x : Explicit) (bol : Bool) (at : ℕ) (after : List ℕ) → explicit_fits x bol after ≡ true
    → Parted (explicit_text x) at (explicit_events x at) after (explicit_comments x)
explicit_part (content n) bol at after h =
    let p : (bol && marker (explicit_text (content n) ++ after) ≡ true) × (node_fits n 0 false false after ≡ true) = and_parts _ _ h in
    document_of (join refl (unmarked (codes "---") at _ refl) (node_part n 0 false false _ after p.1))
explicit_part (nothing comments) bol at after h =
    let p : (bol && marker (explicit_text (nothing comments) ++ after) ≡ true) ×
    (comments_fit false comments after ≡ true) = and_parts _ _ h in
    document_of (join refl (unmarked (codes "---") at _ refl)
    (join refl (omitted_part _ (comments_text comments ++ after)) (lines_part false comments _ after p.1)))

-- a version is a part
version_part : (v : Version) (at : ℕ) (after : List ℕ) → Parted (version_text v) at [] after []
version_part yaml_1_1 at after = unmarked (codes "1.1") at after refl
version_part yaml_1_2 at after = unmarked (codes "1.2") at after refl

-- a document is a part
document_part : (d : Document) (bol : Bool) (at : ℕ) (after : List ℕ) → document_fits d bol after ≡ true
    → Parted (document_text d) at (document_events d at) after (document_comments d)
document_part (bare n) bol at after h = document_of (node_part n 0 false bol at after h)
document_part (explicit x) bol at after h = explicit_part x bol at after h
document_part (directed blank version comments x) bol at after h =
    let p : (bol && list_all white blank && not (is_empty blank) && comments_fit false comments (explicit_text x ++ after) ≡ true)
    × (explicit_fits x true after ≡ true) = and_parts _ _ h in
    let q : (bol && list_all white blank && not (is_empty blank) ≡ true) × (comments_fit false comments (explicit_text x ++ after) ≡ true) =
    and_parts _ _ p.0 in
    let w : list_all white blank ≡ true = (and_parts _ _ (and_parts _ _ q.0).0).1 in
    let directive : Parted (directive_text blank version comments) at [] (explicit_text x ++ after) (lines_comments comments) =
    texted (simp append_assoc) (join refl (unmarked (codes "%YAML") at _ refl)
    (join refl (unmarked blank _ _ (whites_unmarked blank w)) (join refl (version_part version _ _)
    (lines_part false comments _ (explicit_text x ++ after) q.1)))) in
    join refl directive (explicit_part x true _ after p.1)

-- a document that may be left out is a part
optional_part : (d : Option Document) (bol : Bool) (at : ℕ) (after : List ℕ) → optional_document_fits d bol after ≡ true
    → Parted (optional document_text d) at (optional_document_events d at) after (optional_document_comments d)
optional_part None bol at after h = empty_part at after
optional_part (Some d) bol at after h = document_part d bol at after h

-- ---- parts of a stream

-- a `...` line is a part
suffix_part : (comments : List LineEnd) (bol : Bool) (at : ℕ) (after : List ℕ) → suffix_fits comments bol after ≡ true
    → Parted (suffix_text comments) at [] after (lines_comments comments)
suffix_part comments bol at after h = join refl (unmarked (codes "...") at _ refl) (lines_part false comments _ after (and_parts _ _ h).1)

-- so are more of them
suffixes_part : (ss : List (List LineEnd)) (at : ℕ) (after : List ℕ) → suffixes_fit ss after ≡ true
    → Parted (flat_map suffix_text ss) at [] after (flat_map lines_comments ss)
suffixes_part [] at after h = empty_part at after
suffixes_part (s ∷ ss) at after h =
    let p : (suffix_fits s true (flat_map suffix_text ss ++ after) ≡ true) × (suffixes_fit ss after ≡ true) = and_parts _ _ h in
    join refl (suffix_part s true at _ p.0) (suffixes_part ss _ after p.1)

-- what follows a first document is a part
part_part : (x : Part) (bol : Bool) (at : ℕ) (after : List ℕ) → part_fits x bol after ≡ true
    → Parted (part_text x) at (part_events x at) after (part_comments x)
part_part (suffixes one more prefix document) bol at after h =
    let rest : List ℕ = optional document_text document ++ after in
    let p : (suffix_fits one bol (flat_map suffix_text more ++ (comments_text prefix ++ rest)) && suffixes_fit more
    (comments_text prefix ++ rest)
    && comments_fit true prefix rest ≡ true) × (optional_document_fits document true after ≡ true) = and_parts _ _ h in
    let q : (suffix_fits one bol (flat_map suffix_text more ++ (comments_text prefix ++ rest)) && suffixes_fit more
    (comments_text prefix ++ rest) ≡ true)
    × (comments_fit true prefix rest ≡ true) = and_parts _ _ p.0 in
    let r : (suffix_fits one bol (flat_map suffix_text more ++ (comments_text prefix ++ rest)) ≡ true)
    × (suffixes_fit more (comments_text prefix ++ rest) ≡ true) = and_parts _ _ q.0 in
    texted (sym (append_assoc (suffix_text one ++ flat_map suffix_text more) (comments_text prefix) (optional document_text document)
    ∙ append_assoc (suffix_text one) (flat_map suffix_text more) (comments_text prefix ++ optional document_text document)))
    (join (regrouped (flat_map suffix_text more) (comments_text prefix) (optional document_text document) after)
    (suffix_part one bol at _ r.0)
    (join (sym (append_assoc (comments_text prefix) (optional document_text document) after)) (suffixes_part more _ _ r.1)
    (join refl (lines_part true prefix _ rest q.1) (optional_part document true _ after p.1))))
  where
    regrouped : (a b c d : List ℕ) → a ++ (b ++ (c ++ d)) ≡ (a ++ (b ++ c)) ++ d
    regrouped a b c d = simp append_assoc
part_part (line e) bol at after h = line_end_part bol e at after (and_parts _ _ h).1
part_part (further x) bol at after h = explicit_part x bol at after h

-- so are all parts of a stream
parts_part : (ps : List Part) (bol : Bool) (at : ℕ) → parts_fit ps bol [] ≡ true
    → Parted (parts_text ps) at (parts_events ps at) [] (flat_map part_comments ps)
parts_part [] bol at h = empty_part at []
parts_part (p ∷ ps) bol at h =
    let q : (part_fits p bol (parts_text ps ++ []) ≡ true) × (parts_fit ps (starts_line bol (part_text p)) [] ≡ true) = and_parts _ _ h in
    join refl (part_part p bol at (parts_text ps ++ []) q.0) (parts_part ps (starts_line bol (part_text p)) _ q.1)

-- a byte order mark is a part
mark_part : (mark : Bool) (after : List ℕ) → Parted (mark_text mark) 0 [] after []
mark_part true after = unmarked (0xfeff ∷ []) 0 after refl
mark_part false after = empty_part 0 after

-- its bytes
mark_long : (mark : Bool) → cond mark 3 0 ≡ 0 + byte_len (mark_text mark)
mark_long true = refl
mark_long false = refl

-- a stream is a part, and the whole text
stream_part : (s : Stream) → fits s ≡ true → Parted (stream_text s) 0 (stream_events s) [] (stream_comments s)
stream_part s h =
    let rest : List ℕ = parts_text s.parts in
    let p : (comments_fit true s.prefix (optional document_text s.document ++ rest) && optional_document_fits s.document true rest ≡ true)
    × (parts_fit s.parts (starts_line true (comments_text s.prefix ++ optional document_text s.document)) [] ≡ true) = and_parts _ _ h in
    let q : (comments_fit true s.prefix (optional document_text s.document ++ rest) ≡ true)
    × (optional_document_fits s.document true rest ≡ true) = and_parts _ _ p.0 in
    let at : ℕ = cond s.mark 3 0 + byte_len (comments_text s.prefix) in
    let there : Parted (optional document_text s.document ++ rest) at
    (optional_document_events s.document at ++ parts_events s.parts (at + byte_len (optional document_text s.document))) []
    (optional_document_comments s.document ++ flat_map part_comments s.parts) =
    join (sym (append-nil rest)) (optional_part s.document true at rest q.1)
    (parts_part s.parts (starts_line true (comments_text s.prefix ++ optional document_text s.document)) _ p.1) in
    texted (sym (append_assoc (mark_text s.mark ++ comments_text s.prefix) (optional document_text s.document) rest
    ∙ append_assoc (mark_text s.mark) (comments_text s.prefix) (optional document_text s.document ++ rest)))
    (join refl (mark_part s.mark _)
    (join (sym (append-nil _)) (lines_part true s.prefix _ (optional document_text s.document ++ rest) q.0)
    (moved (ap (λ n. n + byte_len (comments_text s.prefix)) (mark_long s.mark)) there)))

-- ---- the comments by events

-- a place outside of the scalars of events is outside of the events
to_outside : (bs : List ℕ) (at : ℕ) (es : List Event) → Empties es → Outside bs at (ranges_of es) → IsOutside bs at es
to_outside bs at [] e o = tt
to_outside bs at (scalar_event plain_style start end value ∷ es) e o = (o.0, to_outside bs at es e.1 o.1)
to_outside bs at (scalar_event single_style start end value ∷ es) e o = (o.0, to_outside bs at es e.1 o.1)
to_outside bs at (scalar_event double_style start end value ∷ es) e o = (o.0, to_outside bs at es e.1 o.1)
to_outside bs at (scalar_event literal_style start end value ∷ es) e o = (o.0, to_outside bs at es e.1 o.1)
to_outside bs at (scalar_event folded_style start end value ∷ es) e o = (o.0, to_outside bs at es e.1 o.1)
to_outside bs at (scalar_event omitted_style start end value ∷ es) e o =
    let same : start ≡ end = e.0 in
    (⊎_elim (λ before. inl before) (λ behind. inr (inl (omega (arith, same, behind)))) (cases_lt at start), to_outside bs at es e.1 o)
to_outside bs at (document_start ∷ es) e o = to_outside bs at es e o
to_outside bs at (document_end ∷ es) e o = to_outside bs at es e o
to_outside bs at (seq_start ∷ es) e o = to_outside bs at es e o
to_outside bs at (seq_end ∷ es) e o = to_outside bs at es e o
to_outside bs at (map_start ∷ es) e o = to_outside bs at es e o
to_outside bs at (map_end ∷ es) e o = to_outside bs at es e o

-- and the other way round
from_outside : (bs : List ℕ) (at : ℕ) (es : List Event) → IsOutside bs at es → Outside bs at (ranges_of es)
from_outside bs at [] o = tt
from_outside bs at (scalar_event plain_style start end value ∷ es) o = (o.0, from_outside bs at es o.1)
from_outside bs at (scalar_event single_style start end value ∷ es) o = (o.0, from_outside bs at es o.1)
from_outside bs at (scalar_event double_style start end value ∷ es) o = (o.0, from_outside bs at es o.1)
from_outside bs at (scalar_event literal_style start end value ∷ es) o = (o.0, from_outside bs at es o.1)
from_outside bs at (scalar_event folded_style start end value ∷ es) o = (o.0, from_outside bs at es o.1)
from_outside bs at (scalar_event omitted_style start end value ∷ es) o = from_outside bs at es o.1
from_outside bs at (document_start ∷ es) o = from_outside bs at es o
from_outside bs at (document_end ∷ es) o = from_outside bs at es o
from_outside bs at (seq_start ∷ es) o = from_outside bs at es o
from_outside bs at (seq_end ∷ es) o = from_outside bs at es o
from_outside bs at (map_start ∷ es) o = from_outside bs at es o
from_outside bs at (map_end ∷ es) o = from_outside bs at es o

-- a comment is a `#` outside of the scalars
to_mark : (bs : List ℕ) (es : List Event) (at : ℕ) → IsComment bs es at → Mark bs (ranges_of es) at
to_mark bs es at c = record { within = c.within; is = c.mark; outside = from_outside bs at es c.outside }

-- and the other way round
from_mark : (bs : List ℕ) (es : List Event) (at : ℕ) → Empties es → Mark bs (ranges_of es) at → IsComment bs es at
from_mark bs es at e m = record { within = m.within; mark = m.is; outside = to_outside bs at es e m.outside }

-- the comments by scalars are those by events
are_comments : (bs : List ℕ) (es : List Event) (from : ℕ) (ps : List Place) → Empties es → Are bs (ranges_of es) from ps
    → AreComments bs es from ps
are_comments bs es from [] e are = λ at after c. are at after (to_mark bs es at c)
are_comments bs es from (p ∷ ps) e are =
    let n : Next bs (ranges_of es) from p = are.0 in (
      record {
        after = n.after;
        comment = from_mark bs es p.start e n.mark;
        first = λ other after c. n.first other after (to_mark bs es other c);
        ends = n.ends;
      },
      are_comments bs es p.end ps e are.1,
    )

-- each presentation has its comments
pub presented : PresentedComments
presented s h =
    let part : Parted (stream_text s) 0 (stream_events s) [] (stream_comments s) = stream_part s h in
    let bs : List ℕ = encode_utf8_all (stream_text s) in
    let all : Are (all_bytes part.segments) (ranges part.segments 0) 0 (places part.segments 0) = all_found part.segments part.fits in
    let here : Are bs (ranges part.segments 0) 0 (places part.segments 0) =
    subst (λ b. Are b (ranges part.segments 0) 0 (places part.segments 0)) part.spells all in
    let there : Are bs (ranges_of (stream_events s)) 0 (places part.segments 0) =
    subst (λ rs. Are bs rs 0 (places part.segments 0)) part.scalars here in
    record {
      places = places part.segments 0;
      are = are_comments bs (stream_events s) 0 (places part.segments 0) part.empties there;
      lines = part.lines;
      written = ap (λ b. map (comment_at b) (places part.segments 0)) (sym part.spells) ∙ (all_cut part.segments ∙ part.holds);
    }
