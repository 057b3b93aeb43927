-- Open parts, one more of them or one more thing in one.
use Rattle.std.proofs.Common.{◌≡◌, ℕ, zero, suc, ◌<◌, ◌&&◌, ◌||◌, not, List, [], ◌∷◌, ◌++◌, length, get_or, set, None, arith, refl, ap, ap₂}
use Rattle.yaml_tree.proofs.Prelude.{chars, same_text, key_members, keys_differ, Pair, tree_of, elements_of, members_of, Text}
use Rattle.yaml_tree.specs.{Building.frames_onto, Kept.{with_last, members_by}, OpenParts.{part_frame, part_frames, open_frame}}
use Rattle.yaml_tree.specs.{OpenParts.open_frames, declared.{kept.Emptiness.Emptiness, parts.Part.Part}, Frames.{Frame, awaiting, root}}
use Rattle.yaml_tree.specs.Frames.{whole, in_seq, at_key, at_value, elements_and, members_and, finished_tree}
use Rattle.yaml_data.specs.{TextBytes.text_bytes, declared.tree.Tree.Tree}
use Rattle.yaml_grammar.specs.Trees as grammar

-- the elements of a list with one more tree at the end
pub elements_of-and : (ts : List Tree) (t : Tree) → elements_of (ts ++ t ∷ []) ≡ elements_and (elements_of ts) (tree_of t)
elements_of-and [] t = refl
elements_of-and (u ∷ ts) t = ap (grammar.element (tree_of u)) (elements_of-and ts t)

-- pairs as members, by what their values are: with one more pair at the end
pub members_by-and : {V : Type 0} (tree : V → grammar.Tree) (ms : List (Text × V)) (m : Text × V)
    → members_by tree (ms ++ m ∷ []) ≡ members_and (members_by tree ms) (chars (text_bytes m.0)) (tree m.1)
members_by-and tree [] m = refl
members_by-and tree (n ∷ ms) m = ap (grammar.member (chars (text_bytes n.0)) (tree n.1)) (members_by-and tree ms m)

-- with another value of the last key
pub members_by-last : {V : Type 0} (tree : V → grammar.Tree) (ms : List (Text × V)) (n : ℕ) (m : Text × V) (v : V)
    → length ms ≡ suc n → m ≡ get_or ms n m
    → members_by tree (set ms n (m.0, v)) ≡ with_last (members_by tree ms) (tree v)
members_by-last tree [] n m v h is = absurd (omega (arith, h))
members_by-last tree (x ∷ []) zero m v h is = ap (λ (y : Text × _). grammar.member (chars (text_bytes y.0)) (tree v) grammar.no_member) is
members_by-last tree (x ∷ y ∷ ms) zero m v h is = absurd (omega (arith, h))
members_by-last tree (x ∷ []) (suc n) m v h is = absurd (omega (arith, h))
members_by-last tree (x ∷ y ∷ ms) (suc n) m v h is =
    ap (grammar.member (chars (text_bytes x.0)) (tree x.1)) (members_by-last tree (y ∷ ms) n m v (omega (arith, h)) is)

-- the pairs of a tree
pub members_of-by : (ms : List Pair) → members_of ms ≡ members_by tree_of ms
members_of-by [] = refl
members_of-by (m ∷ ms) = ap (grammar.member (chars (text_bytes m.0)) (tree_of m.1)) (members_of-by ms)

-- pairs without values have the same keys
has_key-by : {V : Type 0} (tree : V → grammar.Tree) (key : List ℕ) (ms : List (Text × V))
    → grammar.has_key key (key_members ms) ≡ grammar.has_key key (members_by tree ms)
has_key-by tree key [] = refl
has_key-by tree key (m ∷ ms) = ap (λ b. same_text key (chars (text_bytes m.0)) || b) (has_key-by tree key ms)

pub keys_differ-by : {V : Type 0} (tree : V → grammar.Tree) (ms : List (Text × V))
    → keys_differ (key_members ms) ≡ keys_differ (members_by tree ms)
keys_differ-by tree [] = refl
keys_differ-by tree (m ∷ ms) = ap₂ (λ a b. not a && b) (has_key-by tree (chars (text_bytes m.0)) ms) (keys_differ-by tree ms)

frames_onto-push : {A : Type 0} (frame : A → Frame) (ps : List A) (p : A) (fs : List Frame)
    → frames_onto frame (ps ++ p ∷ []) fs ≡ frame p ∷ frames_onto frame ps fs
frames_onto-push frame [] p fs = refl
frames_onto-push frame (q ∷ ps) p fs = frames_onto-push frame ps p (frame q ∷ fs)

-- a part that is pushed is the innermost frame
pub part_frames-push : {V E : Type 0} (tree : V → grammar.Tree) (elements : E → grammar.Elements) (ps : List (Part V E)) (p : Part V E)
    → part_frames tree elements (ps ++ p ∷ []) ≡ part_frame tree elements p ∷ part_frames tree elements ps
part_frames-push tree elements ps p = frames_onto-push (part_frame tree elements) ps p []

pub open_frames-push : (ps : List (Part (Unit {0}) Emptiness)) (p : Part (Unit {0}) Emptiness)
    → open_frames (ps ++ p ∷ []) ≡ open_frame p ∷ open_frames ps
open_frames-push ps p = frames_onto-push open_frame ps p []

-- a document in which something else is open is not finished
unfinished_onto : {A : Type 0} (frame : A → Frame) (f : Frame) (ps : List A) (g : Frame) (fs : List Frame)
    → finished_tree (f ∷ frames_onto frame ps (g ∷ fs)) ≡ None
unfinished_onto frame awaiting [] g fs = refl
unfinished_onto frame (root t) [] g fs = refl
unfinished_onto frame (whole t) [] g fs = refl
unfinished_onto frame (in_seq ts) [] g fs = refl
unfinished_onto frame (at_key ms) [] g fs = refl
unfinished_onto frame (at_value ms key) [] g fs = refl
unfinished_onto frame f (p ∷ ps) g fs = unfinished_onto frame f ps (frame p) (g ∷ fs)

-- where another part is open around it, no tree is finished
pub unfinished : {A : Type 0} (frame : A → Frame) (f : Frame) (ps : List A) → 0 < length ps
    → finished_tree (f ∷ frames_onto frame ps []) ≡ None
unfinished frame f [] h = absurd (omega arith)
unfinished frame f (p ∷ ps) h = unfinished_onto frame f ps (frame p) []
