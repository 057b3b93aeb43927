-- What an event adds to the text of the open parts gives the text of the parts after it.
use Rattle.std.proofs.Common.{◌≡◌, ℕ, ◌+◌, ◌-◌, if◌then◌else◌, List, [], ◌∷◌, ◌++◌, Option, Some, None, codes, append_assoc, arith, refl}
use Rattle.std.proofs.Common.{sym, ap, subst, ◌∙◌}
use Rattle.yaml_tree.proofs.Prelude.{append-nil, key_lines, lines_at, elements_at, elements_after, lines_after_dash, members_at}
use Rattle.yaml_tree.proofs.Prelude.{members_after, value_at, IsText, spaces, Tree, text, sequence, mapping, Elements, no_element, element}
use Rattle.yaml_tree.proofs.Prelude.{Members, no_member, member, Shape, document_from, document_to, seq_from, seq_to, map_from, map_to}
use Rattle.yaml_tree.{proofs.Prelude.{scalar_of, IsTextTree, AreTextElements, AreTextMembers}, specs.Kept.{keys, kept_members, kept_frame}}
use Rattle.yaml_tree.specs.{Kept.kept_frames, Formatting.indent_after, Frames.{Frame, awaiting, root, whole, in_seq, at_key, at_value}}
use Rattle.yaml_tree.specs.{Frames.{elements_and, members_and, frame_with, frames_with, inside, step, awaits_value}, OpenText.indent_in}
use Rattle.yaml_tree.specs.OpenText.{opening, empty_line, dash, key_start, scalar_in, seq_end, map_end, added, dash_in, part_lines, text_of}
use Rattle.yaml_tree.specs.OpenText.{AreTextFrames, BringsText}

-- ---- one more at the end

-- four texts in a row, grouped anew
regroup : (a b c d : List ℕ) → a ++ (b ++ c ++ d) ≡ a ++ b ++ c ++ d
regroup a b c d = sym (append_assoc a (b ++ c) d) ∙ ap (λ x. x ++ d) (sym (append_assoc a b c))

-- the lines of elements with one more at the end
elements_after-and : (ts : Elements) (u : Tree) (i : ℕ)
    → elements_after (elements_and ts u) i ≡ elements_after ts i ++ (spaces i ++ codes "- ") ++ lines_after_dash u i
elements_after-and no_element u i = append-nil (spaces i ++ codes "- " ++ lines_after_dash u i)
elements_after-and (element t ts) u i =
    let line = spaces i ++ codes "- " ++ lines_after_dash t i in
    ap (λ x. line ++ x) (elements_after-and ts u i) ∙ regroup line (elements_after ts i) (spaces i ++ codes "- ") (lines_after_dash u i)

elements_at-and : (t : Tree) (ts : Elements) (u : Tree) (i : ℕ)
    → elements_at (element t (elements_and ts u)) i ≡ elements_at (element t ts) i ++ (spaces i ++ codes "- ") ++ lines_after_dash u i
elements_at-and t ts u i =
    let line = codes "- " ++ lines_after_dash t i in
    ap (λ x. line ++ x) (elements_after-and ts u i) ∙ regroup line (elements_after ts i) (spaces i ++ codes "- ") (lines_after_dash u i)

-- the lines of members with one more at the end
members_after-and : (ms : Members) (name : List ℕ) (u : Tree) (i : ℕ)
    → members_after (members_and ms name u) i ≡ members_after ms i ++ (spaces i ++ key_lines i name) ++ value_at u i
members_after-and no_member name u i = append-nil (spaces i ++ key_lines i name ++ value_at u i)
members_after-and (member key t ms) name u i =
    let line = spaces i ++ key_lines i key ++ value_at t i in
    ap (λ x. line ++ x) (members_after-and ms name u i) ∙ regroup line (members_after ms i) (spaces i ++ key_lines i name) (value_at u i)

members_at-and : (key : List ℕ) (t : Tree) (ms : Members) (name : List ℕ) (u : Tree) (i : ℕ)
    → members_at (member key t (members_and ms name u)) i
    ≡ members_at (member key t ms) i ++ (spaces i ++ key_lines i name) ++ value_at u i
members_at-and key t ms name u i =
    let line = key_lines i key ++ value_at t i in
    ap (λ x. line ++ x) (members_after-and ms name u i) ∙ regroup line (members_after ms i) (spaces i ++ key_lines i name) (value_at u i)

-- ---- a value in the innermost part

-- what a value adds there
abbrev value_in : Frame → List Frame → Tree → List ℕ
value_in awaiting fs t = lines_at t (indent_in fs)
value_in (root u) fs t = []
value_in (whole u) fs t = []
value_in (in_seq ts) fs t = dash (in_seq ts) fs ++ lines_after_dash t (indent_in fs)
value_in (at_key ms) fs (text key) = key_start ms fs ++ key_lines (indent_in fs) key
value_in (at_key ms) fs (sequence ts) = []
value_in (at_key ms) fs (mapping ns) = []
value_in (at_value ms key) fs t = value_at t (indent_in fs)

-- the lines are those of the part, where there is one
abbrev AreLines : Option Frame → List Frame → List ℕ → Type 0
AreLines None fs cs = Unit {0}
AreLines (Some g) fs cs = cs ≡ part_lines g fs

first_element : (start mark line : List ℕ) → start ++ mark ++ line ≡ start ++ (mark ++ line ++ [])
first_element start mark line = append_assoc start mark line ∙ ap (λ x. start ++ x) (sym (append-nil (mark ++ line)))

one_more : (start lines mark line all : List ℕ) → all ≡ lines ++ mark ++ line → start ++ lines ++ (mark ++ line) ≡ start ++ all
one_more start lines mark line all e =
    append_assoc start lines (mark ++ line) ∙ ap (λ x. start ++ x) (sym (append_assoc lines mark line) ∙ sym e)

-- a value that is put in adds its lines
put_lines : (f : Frame) (fs : List Frame) (t : Tree) → AreLines (frame_with f t) fs (part_lines f fs ++ value_in f fs t)
put_lines awaiting fs t = refl
put_lines (root u) fs t = tt
put_lines (whole u) fs t = tt
put_lines (in_seq no_element) fs t = first_element (opening fs) (codes "- ") (lines_after_dash t (indent_in fs))
put_lines (in_seq (element u us)) fs t =
    one_more (opening fs) (elements_at (element u us) (indent_in fs)) (spaces (indent_in fs) ++ codes "- ")
    (lines_after_dash t (indent_in fs))
    (elements_at (element u (elements_and us t)) (indent_in fs)) (elements_at-and u us t (indent_in fs))
put_lines (at_key no_member) fs (text key) = refl
put_lines (at_key (member k u ms)) fs (text key) = refl
put_lines (at_key ms) fs (sequence ts) = tt
put_lines (at_key ms) fs (mapping ns) = tt
put_lines (at_value no_member key) fs t = first_element (opening fs) (key_lines (indent_in fs) key) (value_at t (indent_in fs))
put_lines (at_value (member k u ms) key) fs t =
    let i = indent_in fs in
    append_assoc (opening fs ++ members_at (member k u ms) i) (spaces i ++ key_lines i key) (value_at t i)
    ∙ one_more (opening fs) (members_at (member k u ms) i) (spaces i ++ key_lines i key) (value_at t i)
    (members_at (member k u (members_and ms key t)) i) (members_at-and k u ms key t i)

-- ---- a collection that ends

-- it has added what it adds as a value
seq_ended : (f : Frame) (fs : List Frame) (ts : Elements)
    → AreLines (frame_with f (sequence ts)) fs (part_lines f fs
    ++ (dash f fs ++ part_lines (in_seq ts) (f ∷ fs) ++ seq_end (in_seq ts) (f ∷ fs)))
seq_ended awaiting fs no_element = refl
seq_ended awaiting fs (element t ts) = append-nil (elements_at (element t ts) (indent_in fs))
seq_ended (root u) fs ts = tt
seq_ended (whole u) fs ts = tt
seq_ended (in_seq us) fs no_element =
    let whole = ap (λ x. x ++ codes "[]\n") (append-nil (dash (in_seq us) fs)) in
    subst (AreLines (frame_with (in_seq us) (sequence no_element)) fs) (ap (λ x. part_lines (in_seq us) fs ++ x) (sym whole))
    (put_lines (in_seq us) fs (sequence no_element))
seq_ended (in_seq us) fs (element t ts) =
    let whole = append-nil (dash (in_seq us) fs ++ elements_at (element t ts) (indent_in fs + 2)) in
    subst (AreLines (frame_with (in_seq us) (sequence (element t ts))) fs) (ap (λ x. part_lines (in_seq us) fs ++ x) (sym whole))
    (put_lines (in_seq us) fs (sequence (element t ts)))
seq_ended (at_key ms) fs ts = tt
seq_ended (at_value ms key) fs no_element = put_lines (at_value ms key) fs (sequence no_element)
seq_ended (at_value ms key) fs (element t ts) =
    let whole = append-nil (codes "\n" ++ spaces (indent_in fs + 2) ++ elements_at (element t ts) (indent_in fs + 2)) in
    subst (AreLines (frame_with (at_value ms key) (sequence (element t ts))) fs)
    (ap (λ x. part_lines (at_value ms key) fs ++ x) (sym whole))
    (put_lines (at_value ms key) fs (sequence (element t ts)))

map_ended : (f : Frame) (fs : List Frame) (ns : Members)
    → AreLines (frame_with f (mapping ns)) fs (part_lines f fs
    ++ (dash f fs ++ part_lines (at_key ns) (f ∷ fs) ++ map_end (at_key ns) (f ∷ fs)))
map_ended awaiting fs no_member = refl
map_ended awaiting fs (member key t ns) = append-nil (members_at (member key t ns) (indent_in fs))
map_ended (root u) fs ns = tt
map_ended (whole u) fs ns = tt
map_ended (in_seq us) fs no_member =
    let whole = ap (λ x. x ++ codes "{}\n") (append-nil (dash (in_seq us) fs)) in
    subst (AreLines (frame_with (in_seq us) (mapping no_member)) fs) (ap (λ x. part_lines (in_seq us) fs ++ x) (sym whole))
    (put_lines (in_seq us) fs (mapping no_member))
map_ended (in_seq us) fs (member key t ns) =
    let whole = append-nil (dash (in_seq us) fs ++ members_at (member key t ns) (indent_in fs + 2)) in
    subst (AreLines (frame_with (in_seq us) (mapping (member key t ns))) fs) (ap (λ x. part_lines (in_seq us) fs ++ x) (sym whole))
    (put_lines (in_seq us) fs (mapping (member key t ns)))
map_ended (at_key ms) fs ns = tt
map_ended (at_value ms name) fs no_member = put_lines (at_value ms name) fs (mapping no_member)
map_ended (at_value ms name) fs (member key t ns) =
    let whole = append-nil (codes "\n" ++ spaces (indent_in fs + 2) ++ members_at (member key t ns) (indent_in fs + 2)) in
    subst (AreLines (frame_with (at_value ms name) (mapping (member key t ns))) fs)
    (ap (λ x. part_lines (at_value ms name) fs ++ x) (sym whole))
    (put_lines (at_value ms name) fs (mapping (member key t ns)))

-- ---- one event

-- the text is that of the parts, where there are any
abbrev pub IsTextOf : Option (List Frame) → List ℕ → Type 0
IsTextOf None cs = Unit {0}
IsTextOf (Some gs) cs = text_of gs ≡ cs

in_part : (o : Option Frame) (fs : List Frame) (lines more : List ℕ) → AreLines o fs (lines ++ more)
    → IsTextOf (inside o fs) (text_of fs ++ dash_in fs ++ lines ++ more)
in_part None fs lines more are = tt
in_part (Some g) fs lines more are =
    ap (λ x. text_of fs ++ dash_in fs ++ x) (sym are) ∙ sym (append_assoc (text_of fs ++ dash_in fs) lines more)

closed : (o : Option Frame) (fs : List Frame) (lines mark more last : List ℕ) → AreLines o fs (lines ++ (mark ++ more ++ last))
    → IsTextOf (inside o fs) (text_of fs ++ dash_in fs ++ lines ++ mark ++ more ++ last)
closed o fs lines mark more last are =
    subst (IsTextOf (inside o fs)) (regroup (text_of fs ++ dash_in fs ++ lines) mark more last)
    (in_part o fs lines (mark ++ more ++ last) are)

opened : (fs : List Frame) (f : Frame) → part_lines f fs ≡ [] → text_of (f ∷ fs) ≡ text_of fs ++ dash_in fs
opened fs f none = ap (λ x. text_of fs ++ dash_in fs ++ x) none ∙ append-nil (text_of fs ++ dash_in fs)

scalar_put : (f : Frame) (fs : List Frame) (value : List ℕ)
    → AreLines (frame_with f (text value)) fs (part_lines f fs ++ scalar_in f fs value)
scalar_put awaiting fs value = put_lines awaiting fs (text value)
scalar_put (root u) fs value = tt
scalar_put (whole u) fs value = tt
scalar_put (in_seq ts) fs value = put_lines (in_seq ts) fs (text value)
scalar_put (at_key ms) fs value = put_lines (at_key ms) fs (text value)
scalar_put (at_value ms key) fs value = put_lines (at_value ms key) fs (text value)

-- the text so far and what an event adds are the text after it
pub step_text : (fs : List Frame) (s : Shape) → IsTextOf (step fs s) (text_of fs ++ added fs s)
step_text [] document_from = refl
step_text (f ∷ fs) document_from = opened (f ∷ fs) awaiting refl
step_text [] document_to = tt
step_text (awaiting ∷ fs) document_to = tt
step_text (root t ∷ fs) document_to = sym (append-nil (text_of fs ++ dash_in fs ++ lines_at t (indent_in fs)))
step_text (whole t ∷ fs) document_to = tt
step_text (in_seq ts ∷ fs) document_to = tt
step_text (at_key ms ∷ fs) document_to = tt
step_text (at_value ms key ∷ fs) document_to = tt
step_text [] seq_from = refl
step_text (f ∷ fs) seq_from = opened (f ∷ fs) (in_seq no_element) refl
step_text [] seq_to = tt
step_text (awaiting ∷ fs) seq_to = tt
step_text (root t ∷ fs) seq_to = tt
step_text (whole t ∷ fs) seq_to = tt
step_text (in_seq ts ∷ []) seq_to = tt
step_text (in_seq ts ∷ f ∷ fs) seq_to =
    closed (frame_with f (sequence ts)) fs (part_lines f fs) (dash f fs) (part_lines (in_seq ts) (f ∷ fs)) (seq_end (in_seq ts) (f ∷ fs))
    (seq_ended f fs ts)
step_text (at_key ms ∷ fs) seq_to = tt
step_text (at_value ms key ∷ fs) seq_to = tt
step_text [] map_from = refl
step_text (f ∷ fs) map_from = opened (f ∷ fs) (at_key no_member) refl
step_text [] map_to = tt
step_text (awaiting ∷ fs) map_to = tt
step_text (root t ∷ fs) map_to = tt
step_text (whole t ∷ fs) map_to = tt
step_text (in_seq ts ∷ fs) map_to = tt
step_text (at_key ms ∷ []) map_to = tt
step_text (at_key ms ∷ f ∷ fs) map_to =
    closed (frame_with f (mapping ms)) fs (part_lines f fs) (dash f fs) (part_lines (at_key ms) (f ∷ fs)) (map_end (at_key ms) (f ∷ fs))
    (map_ended f fs ms)
step_text (at_value ms key ∷ fs) map_to = tt
step_text [] (scalar_of value) = tt
step_text (f ∷ fs) (scalar_of value) = in_part (frame_with f (text value)) fs (part_lines f fs) (scalar_in f fs value)
    (scalar_put f fs value)

-- ---- what an event adds doesn't go by the values in the parts

-- the indentation doesn't go by the values
pub indent_in-kept : (fs : List Frame) → indent_in (kept_frames keys fs) ≡ indent_in fs
indent_in-kept [] = refl
indent_in-kept (awaiting ∷ fs) = indent_in-kept fs
indent_in-kept (root t ∷ fs) = indent_in-kept fs
indent_in-kept (whole t ∷ fs) = indent_in-kept fs
indent_in-kept (in_seq ts ∷ fs) = ap (λ n. n + 2) (indent_in-kept fs)
indent_in-kept (at_key ms ∷ fs) = ap (λ n. n + 2) (indent_in-kept fs)
indent_in-kept (at_value ms key ∷ fs) = ap (λ n. n + 2) (indent_in-kept fs)

awaits_value-kept : (fs : List Frame) → awaits_value (kept_frames keys fs) ≡ awaits_value fs
awaits_value-kept [] = refl
awaits_value-kept (awaiting ∷ fs) = refl
awaits_value-kept (root t ∷ fs) = refl
awaits_value-kept (whole t ∷ fs) = refl
awaits_value-kept (in_seq ts ∷ fs) = refl
awaits_value-kept (at_key ms ∷ fs) = refl
awaits_value-kept (at_value ms key ∷ fs) = refl

opening-kept : (fs : List Frame) → opening (kept_frames keys fs) ≡ opening fs
opening-kept fs =
    ap (λ b. if b then codes "\n" ++ spaces (indent_in (kept_frames keys fs)) else []) (awaits_value-kept fs)
    ∙ ap (λ i. if awaits_value fs then codes "\n" ++ spaces i else []) (indent_in-kept fs)

empty_line-kept : (brackets : List ℕ) (fs : List Frame) → empty_line brackets (kept_frames keys fs) ≡ empty_line brackets fs
empty_line-kept brackets fs = ap (λ b. if b then codes " " ++ brackets else brackets) (awaits_value-kept fs)

dash-kept : (f : Frame) (fs : List Frame) → dash (kept_frame keys f) (kept_frames keys fs) ≡ dash f fs
dash-kept awaiting fs = refl
dash-kept (root t) fs = refl
dash-kept (whole t) fs = refl
dash-kept (in_seq no_element) fs = ap (λ cs. cs ++ codes "- ") (opening-kept fs)
dash-kept (in_seq (element t ts)) fs = ap (λ i. spaces i ++ codes "- ") (indent_in-kept fs)
dash-kept (at_key ms) fs = refl
dash-kept (at_value ms key) fs = refl

key_start-kept : (ms : Members) (fs : List Frame) → key_start (kept_members keys ms) (kept_frames keys fs) ≡ key_start ms fs
key_start-kept no_member fs = opening-kept fs
key_start-kept (member key t ms) fs = ap spaces (indent_in-kept fs)

seq_end-kept : (f : Frame) (fs : List Frame) → seq_end (kept_frame keys f) (kept_frames keys fs) ≡ seq_end f fs
seq_end-kept awaiting fs = refl
seq_end-kept (root t) fs = refl
seq_end-kept (whole t) fs = refl
seq_end-kept (in_seq no_element) fs = empty_line-kept (codes "[]\n") fs
seq_end-kept (in_seq (element t ts)) fs = refl
seq_end-kept (at_key ms) fs = refl
seq_end-kept (at_value ms key) fs = refl

map_end-kept : (f : Frame) (fs : List Frame) → map_end (kept_frame keys f) (kept_frames keys fs) ≡ map_end f fs
map_end-kept awaiting fs = refl
map_end-kept (root t) fs = refl
map_end-kept (whole t) fs = refl
map_end-kept (in_seq ts) fs = refl
map_end-kept (at_key no_member) fs = empty_line-kept (codes "{}\n") fs
map_end-kept (at_key (member key t ms)) fs = refl
map_end-kept (at_value ms key) fs = refl

scalar_in-kept : (f : Frame) (fs : List Frame) (value : List ℕ)
    → scalar_in (kept_frame keys f) (kept_frames keys fs) value ≡ scalar_in f fs value
scalar_in-kept awaiting fs value = ap (λ i. lines_at (text value) i) (indent_in-kept fs)
scalar_in-kept (root t) fs value = refl
scalar_in-kept (whole t) fs value = refl
scalar_in-kept (in_seq ts) fs value =
    ap (λ cs. cs ++ lines_after_dash (text value) (indent_in (kept_frames keys fs))) (dash-kept (in_seq ts) fs)
    ∙ ap (λ i. dash (in_seq ts) fs ++ lines_after_dash (text value) i) (indent_in-kept fs)
scalar_in-kept (at_key ms) fs value =
    ap (λ cs. cs ++ key_lines (indent_in (kept_frames keys fs)) value) (key_start-kept ms fs)
    ∙ ap (λ i. key_start ms fs ++ key_lines i value) (indent_in-kept fs)
scalar_in-kept (at_value ms key) fs value = ap (value_at (text value)) (indent_in-kept fs)

-- nor does what an event adds
pub added-kept : (fs : List Frame) (s : Shape) → added (kept_frames keys fs) s ≡ added fs s
added-kept [] s = refl
added-kept (f ∷ fs) document_from = dash-kept f fs
added-kept (f ∷ fs) document_to = refl
added-kept (f ∷ fs) seq_from = dash-kept f fs
added-kept (f ∷ fs) seq_to = seq_end-kept f fs
added-kept (f ∷ fs) map_from = dash-kept f fs
added-kept (f ∷ fs) map_to = map_end-kept f fs
added-kept (f ∷ fs) (scalar_of value) = scalar_in-kept f fs value

-- ---- texts

elements_and-texts : (ts : Elements) (u : Tree) → AreTextElements ts → IsTextTree u → AreTextElements (elements_and ts u)
elements_and-texts no_element u h k = (k, tt)
elements_and-texts (element t ts) u h k = (h.0, elements_and-texts ts u h.1 k)

members_and-texts : (ms : Members) (key : List ℕ) (u : Tree) → AreTextMembers ms → IsText key → IsTextTree u
    → AreTextMembers (members_and ms key u)
members_and-texts no_member key u h k l = (k, l, tt)
members_and-texts (member name t ms) key u h k l = (h.0, h.1, members_and-texts ms key u h.2 k l)

-- the parts are made of texts, where there are any
abbrev pub HasTexts : Option (List Frame) → Type 0
HasTexts None = Unit {0}
HasTexts (Some fs) = AreTextFrames fs

put_texts : (fs : List Frame) (t : Tree) → AreTextFrames fs → IsTextTree t → HasTexts (frames_with fs t)
put_texts [] t h k = tt
put_texts (awaiting ∷ fs) t h k = (k, h.1)
put_texts (root u ∷ fs) t h k = tt
put_texts (whole u ∷ fs) t h k = tt
put_texts (in_seq ts ∷ fs) t h k = (elements_and-texts ts t h.0 k, h.1)
put_texts (at_key ms ∷ fs) (text key) h k = ((h.0, k), h.1)
put_texts (at_key ms ∷ fs) (sequence ts) h k = tt
put_texts (at_key ms ∷ fs) (mapping ns) h k = tt
put_texts (at_value ms key ∷ fs) t h k = (members_and-texts ms key t h.0.0 h.0.1 k, h.1)

-- an event of text keeps the parts made of texts
pub step_texts : (fs : List Frame) (s : Shape) → AreTextFrames fs → BringsText fs s → HasTexts (step fs s)
step_texts fs document_from h k = (tt, h)
step_texts [] document_to h k = tt
step_texts (awaiting ∷ fs) document_to h k = tt
step_texts (root t ∷ fs) document_to h k = h
step_texts (whole t ∷ fs) document_to h k = tt
step_texts (in_seq ts ∷ fs) document_to h k = tt
step_texts (at_key ms ∷ fs) document_to h k = tt
step_texts (at_value ms key ∷ fs) document_to h k = tt
step_texts fs seq_from h k = (tt, h)
step_texts [] seq_to h k = tt
step_texts (awaiting ∷ fs) seq_to h k = tt
step_texts (root t ∷ fs) seq_to h k = tt
step_texts (whole t ∷ fs) seq_to h k = tt
step_texts (in_seq ts ∷ fs) seq_to h k = put_texts fs (sequence ts) h.1 h.0
step_texts (at_key ms ∷ fs) seq_to h k = tt
step_texts (at_value ms key ∷ fs) seq_to h k = tt
step_texts fs map_from h k = (tt, h)
step_texts [] map_to h k = tt
step_texts (awaiting ∷ fs) map_to h k = tt
step_texts (root t ∷ fs) map_to h k = tt
step_texts (whole t ∷ fs) map_to h k = tt
step_texts (in_seq ts ∷ fs) map_to h k = tt
step_texts (at_key ms ∷ fs) map_to h k = put_texts fs (mapping ms) h.1 h.0
step_texts (at_value ms key ∷ fs) map_to h k = tt
step_texts [] (scalar_of value) h k = tt
step_texts (f ∷ fs) (scalar_of value) h k = put_texts (f ∷ fs) (text value) h k

-- what comes into parts of which only keys are kept comes into the parts
pub BringsText-kept : (fs : List Frame) (s : Shape) → BringsText (kept_frames keys fs) s → BringsText fs s
BringsText-kept [] s h = tt
BringsText-kept (f ∷ fs) s h = h

-- ---- the indentation

abbrev pub HasIndent : ℕ → Option (List Frame) → Type 0
HasIndent i None = Unit {0}
HasIndent i (Some fs) = i ≡ indent_in fs

put_indent : (fs : List Frame) (t : Tree) → HasIndent (indent_in fs) (frames_with fs t)
put_indent [] t = tt
put_indent (awaiting ∷ fs) t = refl
put_indent (root u ∷ fs) t = tt
put_indent (whole u ∷ fs) t = tt
put_indent (in_seq ts ∷ fs) t = refl
put_indent (at_key ms ∷ fs) (text key) = refl
put_indent (at_key ms ∷ fs) (sequence ts) = tt
put_indent (at_key ms ∷ fs) (mapping ns) = tt
put_indent (at_value ms key ∷ fs) t = refl

ended_indent : (fs : List Frame) (o : Option (List Frame)) → HasIndent (indent_in fs) o → HasIndent (indent_in fs + 2 - 2) o
ended_indent fs o h = let same : indent_in fs ≡ indent_in fs + 2 - 2 = omega arith in subst (λ i. HasIndent i o) same h

-- each event changes the indentation by what it opens or ends
pub step_indent : (fs : List Frame) (s : Shape) → HasIndent (indent_after (indent_in fs) s) (step fs s)
step_indent fs document_from = refl
step_indent [] document_to = tt
step_indent (awaiting ∷ fs) document_to = tt
step_indent (root t ∷ fs) document_to = refl
step_indent (whole t ∷ fs) document_to = tt
step_indent (in_seq ts ∷ fs) document_to = tt
step_indent (at_key ms ∷ fs) document_to = tt
step_indent (at_value ms key ∷ fs) document_to = tt
step_indent fs seq_from = refl
step_indent [] seq_to = tt
step_indent (awaiting ∷ fs) seq_to = tt
step_indent (root t ∷ fs) seq_to = tt
step_indent (whole t ∷ fs) seq_to = tt
step_indent (in_seq ts ∷ fs) seq_to = ended_indent fs (frames_with fs (sequence ts)) (put_indent fs (sequence ts))
step_indent (at_key ms ∷ fs) seq_to = tt
step_indent (at_value ms key ∷ fs) seq_to = tt
step_indent fs map_from = refl
step_indent [] map_to = tt
step_indent (awaiting ∷ fs) map_to = tt
step_indent (root t ∷ fs) map_to = tt
step_indent (whole t ∷ fs) map_to = tt
step_indent (in_seq ts ∷ fs) map_to = tt
step_indent (at_key ms ∷ fs) map_to = ended_indent fs (frames_with fs (mapping ms)) (put_indent fs (mapping ms))
step_indent (at_value ms key ∷ fs) map_to = tt
step_indent fs (scalar_of value) = put_indent fs (text value)
