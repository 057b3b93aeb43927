-- A text in double quotes, as the one style writes it, can be read as that text.
use Rattle.std.{proofs.Common.{◌≡◌, refl, ◌∙◌, ap}, specs.Prelude.{ℕ, ◌/◌, ◌%◌, Bool, true, false, cond, ◌||◌, nat_le, ◌==◌, List, [], ◌∷◌}}
use Rattle.std.specs.Prelude.{◌++◌, flat_map, Some}
use Rattle.yaml_forms.proofs.Prelude.{append-nil, and_parts, and_from, list_all, in_range, code_point, IsText, comments_text, inline, raw}
use Rattle.yaml_forms.proofs.Prelude.{escape, number, quoted_char_text, quoted_char_fits, quoted_char_value, values, double, scalar}
use Rattle.yaml_forms.proofs.Prelude.{flow_text, flow_fits, flow_events, FlowContext, outer, flow, Flow, Stream, bare, fits, stream_text}
use Rattle.yaml_forms.proofs.Prelude.{stream_events, document_end, as_document, text, tree_shapes, scalar_of, document_from, document_to}
use Rattle.yaml_forms.proofs.Prelude.{shapes, IsTreeOf, shown, hex, letter_escape, quoted_chars, in_double_quotes, items_of_text}
use Rattle.yaml_forms.proofs.{Prelude.{item_quotes, CanReadAs}, JsonMeant.both_meant, PlainTexts.quoted_text}
use Rattle.{yaml_grammar.specs.Style.quoted_char, yaml_recognizers.proofs.OneStyle.Presented.item_of}

-- the text in double quotes
abbrev quoted_flow : List ℕ → Flow
quoted_flow value = scalar (double (items_of_text value) [])

-- alone
abbrev presentation_of : List ℕ → Stream
presentation_of value = record { mark = false; prefix = []; document = Some (bare (flow (inline []) (quoted_flow value) [])); parts = [] }

-- ---- it spells the text in double quotes

-- the text of a character that is chosen by tests is chosen by the same tests
item_cases : (a b c d : Bool) (x e : ℕ) (short long : List ℕ)
    → quoted_char_text (cond a (escape x) (cond b (raw x) (cond c (escape e) (cond d (number 120 short) (number 117 long)))))
    ≡ cond a (92 ∷ x ∷ []) (cond b (x ∷ []) (cond c (92 ∷ e ∷ []) (cond d (92 ∷ 120 ∷ short) (92 ∷ 117 ∷ long))))
item_cases true b c d x e short long = refl
item_cases false true c d x e short long = refl
item_cases false false true d x e short long = refl
item_cases false false false true x e short long = refl
item_cases false false false false x e short long = refl

item_spelled : (c : ℕ) → quoted_char_text (item_of c) ≡ quoted_char c
item_spelled c =
    item_cases ((c == 34) || (c == 92)) (shown c) ((c == 0) || in_range 7 13 c || (c == 27)) (nat_le c 0xff) c (letter_escape c)
    (hex (c / 16) ∷ hex (c % 16) ∷ []) (hex (c / 4096) ∷ hex (c / 256 % 16) ∷ hex (c / 16 % 16) ∷ hex (c % 16) ∷ [])

items_spelled : (value : List ℕ) → flat_map quoted_char_text (items_of_text value) ≡ quoted_chars value
items_spelled [] = refl
items_spelled (c ∷ cs) = rw (item_spelled c, items_spelled cs)

quoted_spelled : (value : List ℕ) → flow_text (quoted_flow value) ≡ in_double_quotes value
quoted_spelled value = ap (λ t. 34 ∷ (t ++ (34 ∷ []))) (append-nil _ ∙ items_spelled value)

presentation_spelled : (value : List ℕ) → stream_text (presentation_of value) ≡ in_double_quotes value
presentation_spelled value =
    append-nil _ ∙ ap (λ x. x ++ comments_text []) (quoted_spelled value) ∙ append-nil (in_double_quotes value)

-- ---- it fits

items_fit : (value : List ℕ) → IsText value → list_all quoted_char_fits (items_of_text value) ≡ true
items_fit [] t = refl
items_fit (c ∷ cs) t =
    let p : (code_point c ≡ true) × (list_all code_point cs ≡ true) = and_parts _ _ t in
    and_from _ _ (item_quotes c p.0).0 (items_fit cs p.1)

quoted_fits : (value : List ℕ) (n : ℕ) (c : FlowContext) (bol : Bool) (after : List ℕ) → IsText value
    → flow_fits (quoted_flow value) n c bol after ≡ true
quoted_fits value n c bol after t = and_from _ _ (and_from _ _ (items_fit value t) refl) refl

presentation_fits : (value : List ℕ) → IsText value → fits (presentation_of value) ≡ true
presentation_fits value t =
    and_from _ _ (and_from _ _ refl (and_from _ _ (and_from _ _ refl
    (quoted_fits value 0 outer true (comments_text [] ++ []) t)) refl)) refl

-- ---- it means the text

quoted_meant : (value : List ℕ) → IsText value → values quoted_char_value (items_of_text value) ++ [] ≡ value
quoted_meant value t = append-nil _ ∙ same value t
  where
    same : (cs : List ℕ) → IsText cs → values quoted_char_value (items_of_text cs) ≡ cs
    same [] t = refl
    same (c ∷ cs) t = let p : (code_point c ≡ true) × (list_all code_point cs ≡ true) = and_parts _ _ t in
        rw ((item_quotes c p.0).1, same cs p.1)

quoted_shape : (value : List ℕ) (at : ℕ) → IsText value → shapes (flow_events (quoted_flow value) at) ≡ scalar_of value ∷ []
quoted_shape value at t = ap (λ v. scalar_of v ∷ []) (quoted_meant value t)

presentation_meant : (value : List ℕ) → IsText value → IsTreeOf (stream_events (presentation_of value)) (text value)
presentation_meant value t =
    ap shapes (append-nil (as_document (flow_events (quoted_flow value) 0)))
    ∙ ap (λ x. document_from ∷ x) (both_meant (flow_events (quoted_flow value) 0) (document_end ∷ []) (tree_shapes (text value))
    (document_to ∷ []) (quoted_shape value 0 t) refl)

-- ---- together

-- a text in double quotes can be read as the text
pub quoted_presented : (value : List ℕ) → IsText value → CanReadAs (in_double_quotes value) (text value)
quoted_presented value t =
    record {
      text = quoted_text value t;
      events = stream_events (presentation_of value);
      reads = record {
        presentation = presentation_of value;
        presents = record { fits = presentation_fits value t; spells = presentation_spelled value };
        means = refl;
      };
      tree = presentation_meant value t;
    }
