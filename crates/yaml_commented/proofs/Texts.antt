-- A tree of texts with comments that fit is a text.
use Rattle.std.proofs.{Common.{◌≡◌, refl, ◌∙◌, ap, sym, inl, inr, arith, ◌≤◌}, lemmas.Bool.{cond_both, and_parts, and_from, or_cases}}
use Rattle.std.{proofs.lemmas.Bool.{or_left, or_right, eqb-true, false≢true}, specs.Prelude.{ℕ, zero, suc, ◌+◌, Bool, true, false, cond}}
use Rattle.std.specs.{Prelude.{◌||◌, ◌==◌, List, [], ◌∷◌, ◌++◌, Option, Some, None, codes}, List.list_all}
use Rattle.{yaml_chars.specs.Classes.{in_range, is_in, code_point, printable, nb}, yaml_grammar.specs.{Texts.{IsText, spaces}, Trees.Tree}}
use Rattle.yaml_grammar.specs.Trees.{text, sequence, mapping, Elements, no_element, element, Members, no_member, member, IsTextTree}
use Rattle.yaml_grammar.specs.{Trees.{AreTextElements, AreTextMembers}, Style.{in_double_quotes, plain_in_style, literal_in_style}}
use Rattle.yaml_grammar.specs.Style.{literal_mark, literal_lines, feeds_at_end, key_text, long_key, key_lines, value_at}
use Rattle.yaml_recognizers.proofs.OneStyle.{Characters.{every_joined, from_range, to_range}, StyleTexts.style_is_text}
use Rattle.yaml_commented.specs.Trails.{Extra, empty_line, comment_line, Trail, end_text, extra_text, extras_text, trail_text}
use Rattle.yaml_commented.specs.Commented.{next_trail, later_trails, after_key, after_tree, after_value, scalar_with, key_with}
use Rattle.yaml_commented.specs.Commented.{element_with, value_with, elements_with, members_with, tree_with, commented_text}
use Rattle.yaml_commented.specs.TrailsFit.{behind_fits, extra_fits, trail_fits, scalar_trail_fits, key_trail_fits, ElementFits, ValueFits}
use Rattle.yaml_commented.{specs.TrailsFit.{ElementsFit, MembersFit, TreeFits, Fits}, proofs.Fits.long_trail}

-- two texts, joined, are a text
joined : (prefix after : List ℕ) → IsText prefix → IsText after → IsText (prefix ++ after)
joined prefix after h k = every_joined code_point prefix after h k

-- spaces are a text
spaces_text : (n : ℕ) → IsText (spaces n)
spaces_text zero = refl
spaces_text (suc n) = spaces_text n

-- a text, joined with another, is one
split : (prefix after : List ℕ) → IsText (prefix ++ after) → IsText prefix × IsText after
split [] after h = (refl, h)
split (c ∷ cs) after h =
    let p : (code_point c ≡ true) × (list_all code_point (cs ++ after) ≡ true) = and_parts _ _ h in
    let more : IsText cs × IsText after = split cs after p.1 in
    (and_from _ _ p.0 more.0, more.1)

-- ---- comments

-- a character between two numbers is a code point
low_code_point : (low high c : ℕ) → high ≤ 0xd7ff → in_range low high c ≡ true → code_point c ≡ true
low_code_point low high c l h =
    let p : (low ≤ c) × (c ≤ high) = from_range low high c h in
    or_left _ _ (to_range 0 0xd7ff c (omega arith) (omega (arith, p.1)))

high_code_point : (low high c : ℕ) → 0xe000 ≤ low → high ≤ 0x10ffff → in_range low high c ≡ true → code_point c ≡ true
high_code_point low high c l m h =
    let p : (low ≤ c) × (c ≤ high) = from_range low high c h in
    or_right (in_range 0 0xd7ff c) _ (to_range 0xe000 0x10ffff c (omega (arith, p.0)) (omega (arith, p.1)))

-- a number of a list of code points is one
of_list : (x : ℕ) (cs : List ℕ) → list_all code_point cs ≡ true → is_in x cs ≡ true → code_point x ≡ true
of_list x [] h i = absurd (false≢true i)
of_list x (c ∷ cs) h i =
    let p : (code_point c ≡ true) × (list_all code_point cs ≡ true) = and_parts _ _ h in
    elim (or_cases (x == c) (is_in x cs) i) [
      | inl e ↦ ap code_point (eqb-true x c e) ∙ p.0
      | inr j ↦ of_list x cs p.1 j
    ]

-- an nb is a code point
nb_code_point : (c : ℕ) → nb c ≡ true → code_point c ≡ true
nb_code_point c h = by_range (and_parts (printable c) _ h).0
  where
    by_low : is_in c (codes "\t\n\r" ++ (0x85 ∷ [])) || in_range 0x20 0x7e c ≡ true → code_point c ≡ true
    by_low a = elim (or_cases _ _ a) [
      | inl e ↦ of_list c (codes "\t\n\r" ++ (0x85 ∷ [])) refl e
      | inr e ↦ low_code_point 0x20 0x7e c (omega arith) e
    ]

    by_middle : is_in c (codes "\t\n\r" ++ (0x85 ∷ [])) || in_range 0x20 0x7e c || in_range 0xa0 0xd7ff c ≡ true
        → code_point c ≡ true
    by_middle a = elim (or_cases _ _ a) [ inl e ↦ by_low e | inr e ↦ low_code_point 0xa0 0xd7ff c (omega arith) e ]

    by_high : is_in c (codes "\t\n\r" ++ (0x85 ∷ [])) || in_range 0x20 0x7e c || in_range 0xa0 0xd7ff c
        || in_range 0xe000 0xfffd c ≡ true → code_point c ≡ true
    by_high a = elim (or_cases _ _ a) [
      | inl e ↦ by_middle e
      | inr e ↦ high_code_point 0xe000 0xfffd c (omega arith) (omega arith) e
    ]

    by_range : printable c ≡ true → code_point c ≡ true
    by_range a = elim (or_cases _ _ a) [
      | inl e ↦ by_high e
      | inr e ↦ high_code_point 0x10000 0x10ffff c (omega arith) (omega arith) e
    ]

-- a comment is a text
comment_text : (cs : List ℕ) → list_all nb cs ≡ true → IsText cs
comment_text [] h = refl
comment_text (c ∷ cs) h =
    let p : (nb c ≡ true) × (list_all nb cs ≡ true) = and_parts _ _ h in
    and_from _ _ (nb_code_point c p.0) (comment_text cs p.1)

-- the end of a line is a text
end_is_text : (behind : Option (List ℕ)) → behind_fits behind ≡ true → IsText (end_text behind)
end_is_text None h = refl
end_is_text (Some comment) h = joined comment (codes "\n") (comment_text comment h) refl

-- a line of its own is a text
extra_is_text : (x : Extra) → extra_fits x ≡ true → IsText (extra_text x)
extra_is_text empty_line h = refl
extra_is_text (comment_line n comment) h = joined (spaces n ++ (35 ∷ comment)) (codes "\n")
    (joined (spaces n) (35 ∷ comment) (spaces_text n) (comment_text comment h)) refl

-- such lines are a text
extras_are_text : (xs : List Extra) → list_all extra_fits xs ≡ true → IsText (extras_text xs)
extras_are_text [] h = refl
extras_are_text (x ∷ xs) h =
    let p : (extra_fits x ≡ true) × (list_all extra_fits xs ≡ true) = and_parts _ _ h in
    joined (extra_text x) (extras_text xs) (extra_is_text x p.0) (extras_are_text xs p.1)

-- a trail is a text
trail_is_text : (w : Trail) → trail_fits w ≡ true → IsText (trail_text w)
trail_is_text w h =
    let p : (behind_fits w.behind ≡ true) × (list_all extra_fits w.lines ≡ true) = and_parts _ _ h in
    joined (end_text w.behind) (extras_text w.lines) (end_is_text w.behind p.0) (extras_are_text w.lines p.1)

-- ---- scalars and keys

-- the lines of a literal are a text
lines_are_text : (j : ℕ) (fresh : Bool) (cs : List ℕ) → IsText cs → IsText (literal_lines j fresh cs)
lines_are_text j true [] t = refl
lines_are_text j false [] t = refl
lines_are_text j fresh (c ∷ cs) t =
    let p : (code_point c ≡ true) × (list_all code_point cs ≡ true) = and_parts _ _ t in
    cond_both (c == 10) _ _ IsText (λ e. lines_are_text j true cs p.1)
    (λ e. cond_both fresh _ _ (λ lead. IsText (lead ++ c ∷ literal_lines j false cs))
    (λ f. joined (spaces j) (c ∷ literal_lines j false cs) (spaces_text j) (and_from _ _ p.0 (lines_are_text j false cs p.1)))
    (λ f. and_from _ _ p.0 (lines_are_text j false cs p.1)))

-- a scalar that is between double quotes in the one style is a text there
quoted_is_text : (value : List ℕ) → IsText value → plain_in_style value ≡ false → literal_in_style value ≡ false
    → IsText (in_double_quotes value)
quoted_is_text value t e f = by (plain_in_style value) (literal_in_style value) e f (style_is_text (text value) t)
  where
    by : (p l : Bool) → p ≡ false → l ≡ false
        → IsText (cond p (value ++ codes "\n")
        (cond l (literal_mark (feeds_at_end value) ++ codes "\n" ++ literal_lines 2 true value)
        (in_double_quotes value ++ codes "\n"))) → IsText (in_double_quotes value)
    by true l e f h = absurd (false≢true (sym e))
    by false true e f h = absurd (false≢true (sym f))
    by false false e f h = (split (in_double_quotes value) (codes "\n") h).0

-- a key as it is written is a text
key_is_text : (key : List ℕ) → IsText key → IsText (key_text key)
key_is_text key t = by (long_key key)
    (split (key_lines 0 key) (value_at (text []) 0) (split (key_lines 0 key ++ value_at (text []) 0) []
    (style_is_text (mapping (member key (text []) no_member)) (t, refl, tt))).0).0
  where
    by : (b : Bool) → IsText (cond b (codes "? " ++ key_text key ++ codes "\n" ++ spaces 0 ++ codes ":") (key_text key ++ codes ":"))
        → IsText (key_text key)
    by true h = (split (key_text key) (codes "\n") (split (key_text key ++ codes "\n") (spaces 0)
        (split (codes "? " ++ key_text key ++ codes "\n" ++ spaces 0) (codes ":") h).0).0).0
    by false h = (split (key_text key) (codes ":") h).0

-- a scalar with what is behind it is a text
scalar_is_text : (i j : ℕ) (value : List ℕ) (w : Trail) → IsText value → scalar_trail_fits i value w ≡ true
    → IsText (scalar_with j value w)
scalar_is_text i j value w t h =
    let all : trail_fits w ≡ true = (and_parts _ _ h).0 in
    let p : (behind_fits w.behind ≡ true) × (list_all extra_fits w.lines ≡ true) = and_parts _ _ all in
    let trail : IsText (trail_text w) = trail_is_text w all in
    let mark : List ℕ = literal_mark (feeds_at_end value) in
    cond_both (plain_in_style value) _ _ IsText (λ e. joined value (trail_text w) t trail)
    (λ e. cond_both (literal_in_style value) _ _ IsText
    (λ l. joined (mark ++ end_text w.behind ++ literal_lines j true value) (extras_text w.lines)
    (joined (mark ++ end_text w.behind) (literal_lines j true value)
    (joined mark (end_text w.behind) (mark_is_text (feeds_at_end value)) (end_is_text w.behind p.0))
    (lines_are_text j true value t)) (extras_are_text w.lines p.1))
    (λ l. joined (in_double_quotes value) (trail_text w) (quoted_is_text value t e l) trail))
  where
    mark_is_text : (n : ℕ) → IsText (literal_mark n)
    mark_is_text zero = refl
    mark_is_text (suc zero) = refl
    mark_is_text (suc (suc n)) = refl

-- a key through its `:` is a text
key_with_text : (i : ℕ) (key : List ℕ) (ws : List Trail) → IsText key → key_trail_fits key ws ≡ true → IsText (key_with i key ws)
key_with_text i key ws t k =
    cond_both (long_key key) _ _ IsText
    (λ e. joined (codes "? " ++ key_text key ++ trail_text (next_trail ws) ++ spaces i) (codes ":")
    (joined (codes "? " ++ key_text key ++ trail_text (next_trail ws)) (spaces i)
    (joined (codes "? " ++ key_text key) (trail_text (next_trail ws)) (key_is_text key t)
    (trail_is_text (next_trail ws) (long_trail key (next_trail ws) k e))) (spaces_text i)) refl)
    (λ e. joined (key_text key) (codes ":") (key_is_text key t) refl)

-- ---- trees

-- four texts, joined
pair_text : (k v ms : List ℕ) → IsText k → IsText v → IsText ms → IsText (k ++ v ++ ms)
pair_text k v ms h j l = joined (k ++ v) ms (joined k v h j) l

mutual
  -- an element as it is written is a text
  element_text : (t : Tree) (i : ℕ) (ws : List Trail) → IsTextTree t → ElementFits t i ws → IsText (element_with t i ws)
  element_text (text value) i ws h f = scalar_is_text i (i + 2) value (next_trail ws) h f
  element_text (sequence no_element) i ws h f = trail_is_text (next_trail ws) f
  element_text (sequence (element t ts)) i ws h f =
      pair_text (codes "- ") (element_with t (i + 2) ws) (elements_with ts (i + 2) (after_tree t ws)) refl
      (element_text t (i + 2) ws h.0 f.0) (elements_text ts (i + 2) (after_tree t ws) h.1 f.1)
  element_text (mapping no_member) i ws h f = trail_is_text (next_trail ws) f
  element_text (mapping (member key t ms)) i ws h f =
      let rest : List Trail = after_key key ws in
      pair_text (key_with (i + 2) key ws) (value_with t (i + 2) rest) (members_with ms (i + 2) (after_value t rest))
      (key_with_text (i + 2) key ws h.0 f.0) (value_text t (i + 2) rest h.1 f.1)
      (members_text ms (i + 2) (after_value t rest) h.2 f.2)

  -- a value as it is written is a text
  value_text : (t : Tree) (i : ℕ) (ws : List Trail) → IsTextTree t → ValueFits t i ws → IsText (value_with t i ws)
  value_text (text value) i ws h f = scalar_is_text i (i + 2) value (next_trail ws) h f
  value_text (sequence no_element) i ws h f = trail_is_text (next_trail ws) f
  value_text (sequence (element t ts)) i ws h f =
      let rest : List Trail = later_trails ws in
      pair_text (trail_text (next_trail ws)) (spaces (i + 2))
      (codes "- " ++ element_with t (i + 2) rest ++ elements_with ts (i + 2) (after_tree t rest))
      (trail_is_text (next_trail ws) f.0) (spaces_text (i + 2))
      (pair_text (codes "- ") (element_with t (i + 2) rest) (elements_with ts (i + 2) (after_tree t rest)) refl
      (element_text t (i + 2) rest h.0 f.1) (elements_text ts (i + 2) (after_tree t rest) h.1 f.2))
  value_text (mapping no_member) i ws h f = trail_is_text (next_trail ws) f
  value_text (mapping (member key t ms)) i ws h f =
      let own : List Trail = later_trails ws in
      let rest : List Trail = after_key key own in
      pair_text (trail_text (next_trail ws)) (spaces (i + 2))
      (key_with (i + 2) key own ++ value_with t (i + 2) rest ++ members_with ms (i + 2) (after_value t rest))
      (trail_is_text (next_trail ws) f.0) (spaces_text (i + 2))
      (pair_text (key_with (i + 2) key own) (value_with t (i + 2) rest) (members_with ms (i + 2) (after_value t rest))
      (key_with_text (i + 2) key own h.0 f.1) (value_text t (i + 2) rest h.1 f.2)
      (members_text ms (i + 2) (after_value t rest) h.2 f.3))

  -- further elements as they are written are a text
  elements_text : (ts : Elements) (i : ℕ) (ws : List Trail) → AreTextElements ts → ElementsFit ts i ws → IsText (elements_with ts i ws)
  elements_text no_element i ws h f = refl
  elements_text (element t ts) i ws h f =
      pair_text (spaces i ++ codes "- ") (element_with t i ws) (elements_with ts i (after_tree t ws))
      (joined (spaces i) (codes "- ") (spaces_text i) refl) (element_text t i ws h.0 f.0)
      (elements_text ts i (after_tree t ws) h.1 f.1)

  -- further members as they are written are a text
  members_text : (ms : Members) (i : ℕ) (ws : List Trail) → AreTextMembers ms → MembersFit ms i ws → IsText (members_with ms i ws)
  members_text no_member i ws h f = refl
  members_text (member key t ms) i ws h f =
      let rest : List Trail = after_key key ws in
      pair_text (spaces i ++ key_with i key ws) (value_with t i rest) (members_with ms i (after_value t rest))
      (joined (spaces i) (key_with i key ws) (spaces_text i) (key_with_text i key ws h.0 f.0))
      (value_text t i rest h.1 f.1) (members_text ms i (after_value t rest) h.2 f.2)

-- a tree at the top is a text
top_text : (t : Tree) (ws : List Trail) → IsTextTree t → TreeFits t ws → IsText (tree_with t ws)
top_text (text value) ws h f = scalar_is_text 0 2 value (next_trail ws) h f
top_text (sequence no_element) ws h f = trail_is_text (next_trail ws) f
top_text (sequence (element t ts)) ws h f =
    pair_text (codes "- ") (element_with t 0 ws) (elements_with ts 0 (after_tree t ws)) refl
    (element_text t 0 ws h.0 f.0) (elements_text ts 0 (after_tree t ws) h.1 f.1)
top_text (mapping no_member) ws h f = trail_is_text (next_trail ws) f
top_text (mapping (member key t ms)) ws h f =
    let rest : List Trail = after_key key ws in
    pair_text (key_with 0 key ws) (value_with t 0 rest) (members_with ms 0 (after_value t rest))
    (key_with_text 0 key ws h.0 f.0) (value_text t 0 rest h.1 f.1) (members_text ms 0 (after_value t rest) h.2 f.2)

-- the text of a tree of texts with comments that fit is a text
pub commented_is_text : (lead : List Extra) (t : Tree) (ws : List Trail) → IsTextTree t → Fits lead t ws
    → IsText (commented_text lead t ws)
commented_is_text lead t ws h f = joined (extras_text lead) (tree_with t ws) (extras_are_text lead f.before) (top_text t ws h f.trails)
