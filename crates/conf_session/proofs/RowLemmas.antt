-- Commands that are spelled one key a line, as texts: they are ASCII, within the limits of a command, and what their
-- document says.
use Rattle.std.{proofs.Common.{◌≡◌, refl, sym, ap, subst, ◌∙◌, inl, arith, ◌≤◌, append_assoc, append-nil}, specs.Prelude.{ℕ, zero, suc}}
use Rattle.std.specs.Prelude.{◌+◌, ◌*◌, ◌==◌, Bool, true, false, not, nat_lt, if◌then◌else◌, List, [], ◌∷◌, ◌++◌, codes, length, flat_map}
use Rattle.conf_session.proofs.Prelude.{list_all, chars, IsUtf8, IsAscii, and_parts, and_from, ltb-true, nat_tests, chars-IsAscii, eqb-true}
use Rattle.conf_session.proofs.Prelude.{not-true, false≢true, code_point, is_in, IsText, byte_len, spaces, text, sequence, mapping}
use Rattle.conf_session.proofs.Prelude.{IsTextTree, depth, AreTextMembers, AreTextElements, members_depth, elements_depth, members_distinct}
use Rattle.conf_session.proofs.Prelude.{elements_distinct, word_char, plain_in_style, literal_in_style, literal_mark, literal_lines}
use Rattle.conf_session.proofs.Prelude.{feeds_at_end, in_double_quotes, scalar_lines, long_key, key_lines, value_at, members_at}
use Rattle.conf_session.proofs.Prelude.{members_after, elements_after, Good, Gives, every_joined, every-IsAscii, byte_len-append}
use Rattle.conf_session.proofs.{Prelude.{stands_alone, byte_len-chars, scalar_most}, LinesPresented.{wider, Unambiguous, KeysAreText}}
use Rattle.conf_session.proofs.LinesPresented.{AllKeysAreText, marker_text, document_of, lines_give, RowIsText, RowsAreText}
use Rattle.conf_session.specs.{Said.{Said, Says, command_limits, piece_limit}, CommandLines.{Spelling, bare, phrase, quoted, single_quoted}}
use Rattle.conf_session.specs.CommandLines.{Line, spelled, bare_char, begins_bare, may_stand, goes_on, is_phrase, stands, line_text}
use Rattle.conf_session.specs.CommandLines.{lines_text, members_of_lines, IsLine, AreLines, Entry, entry_text, entry_members, elements_text}
use Rattle.conf_session.specs.CommandLines.{elements_of_entries, AreEntries, inner_text, Row, one_line, list_under, pairs_under, row_text}
use Rattle.conf_session.specs.CommandLines.{rows_text, row_key, row_tree, members_of_rows, IsRow, AreRows, Layout, layout_text}
use Rattle.{conf_session.specs.CommandLines.{layout_members, IsLayout, IsCommandLines}, yaml_grammar.specs.FlowScalars.single_text}
use Rattle.yaml_chars.specs.Classes.{in_range}

-- ---- all is ASCII

-- it is an ASCII character
abbrev pub low : ℕ → Bool
low c = nat_lt c 128

pub all_weaker : (p q : ℕ → Bool) → ((c : ℕ) → p c ≡ true → q c ≡ true) → (cs : List ℕ) → list_all p cs ≡ true → list_all q cs ≡ true
all_weaker p q f [] h = refl
all_weaker p q f (c ∷ cs) h = let both = and_parts (p c) (list_all p cs) h in and_from _ _ (f c both.0) (all_weaker p q f cs both.1)

pub low_ascii : (cs : List ℕ) → list_all low cs ≡ true → IsAscii cs
low_ascii cs h = every-IsAscii low (λ c e. ltb-true c 128 e) cs h

pub low_is_text : (cs : List ℕ) → list_all low cs ≡ true → IsText cs
low_is_text cs h = all_weaker low code_point one cs h
  where
    one : (c : ℕ) → low c ≡ true → code_point c ≡ true
    one c e = grind (arith, nat_tests)

bare_low : (c : ℕ) → bare_char c ≡ true → low c ≡ true
bare_low c e = grind (arith, nat_tests)

pub alone_low : (c : ℕ) → stands_alone c ≡ true → low c ≡ true
alone_low c e = grind (arith, nat_tests)

word_low : (c : ℕ) → word_char c ≡ true → low c ≡ true
word_low c e = grind (arith, nat_tests)

print_low : (c : ℕ) → in_range 32 126 c ≡ true → low c ≡ true
print_low c e = grind (arith, nat_tests)

goes_all : (p : ℕ → Bool) → ((c : ℕ) → in_range 32 126 c ≡ true → p c ≡ true) → (prev : ℕ) (cs : List ℕ) → goes_on prev cs ≡ true
    → list_all p cs ≡ true
goes_all p f prev [] h = refl
goes_all p f prev (c ∷ cs) h =
    let both : (may_stand prev c cs ≡ true) × (goes_on c cs ≡ true) = and_parts _ _ h in
    and_from _ _ (f c (and_parts _ _ both.0).0) (goes_all p f c cs both.1)

-- what holds of printable characters holds of those of words
phrase_all : (p : ℕ → Bool) → ((c : ℕ) → in_range 32 126 c ≡ true → p c ≡ true) → (cs : List ℕ) → is_phrase cs ≡ true
    → list_all p cs ≡ true
phrase_all p f [] h = absurd (false≢true h)
phrase_all p f (c ∷ cs) h =
    let both = and_parts _ _ h in
    let begins : in_range 33 126 c ≡ true = (and_parts _ _ both.0).1 in
    and_from _ _ (f c (wider c begins)) (goes_all p f c cs both.1)

pub value_low : (spelling : Spelling) (value : List ℕ) → stands spelling value ≡ true → list_all low value ≡ true
value_low bare value h = all_weaker bare_char low bare_low value (and_parts (begins_bare value) (list_all bare_char value) h).1
value_low phrase value h = phrase_all low print_low value h
value_low quoted value h = all_weaker stands_alone low alone_low value h
value_low single_quoted value h = all_weaker stands_alone low alone_low value h

-- a text that is written plain is ASCII
pub key_low : (key : List ℕ) → plain_in_style key ≡ true → list_all low key ≡ true
key_low key h = all_weaker word_char low word_low key (and_parts _ _ (and_parts _ _ (and_parts _ _ h).0).0).1

-- single quotes that are doubled
single_low : (c : ℕ) → low c ≡ true → list_all low (single_text c) ≡ true
single_low c h = by (c == 39)
  where
    by : (same : Bool) → list_all low (if same then codes "''" else c ∷ []) ≡ true
    by true = refl
    by false = and_from _ _ h refl

doubled_low : (value : List ℕ) → list_all low value ≡ true → list_all low (flat_map single_text value) ≡ true
doubled_low [] h = refl
doubled_low (c ∷ cs) h =
    let both = and_parts (low c) (list_all low cs) h in
    every_joined low (single_text c) (flat_map single_text cs) (single_low c both.0) (doubled_low cs both.1)

pub spelled_low : (spelling : Spelling) (value : List ℕ) → list_all low value ≡ true → list_all low (spelled spelling value) ≡ true
spelled_low bare value h = h
spelled_low phrase value h = h
spelled_low quoted value h = every_joined low value (codes "\"") h refl
spelled_low single_quoted value h = every_joined low (flat_map single_text value) (codes "'") (doubled_low value h) refl

line_low : (l : Line) → IsLine l → list_all low (line_text l) ≡ true
line_low l is =
    every_joined low l.key (codes ": " ++ (spelled l.spelling l.value ++ codes "\n")) (key_low l.key is.word)
    (every_joined low (spelled l.spelling l.value) (codes "\n")
    (spelled_low l.spelling l.value (value_low l.spelling l.value is.stands)) refl)

spaces_low : (n : ℕ) → list_all low (spaces n) ≡ true
spaces_low zero = refl
spaces_low (suc n) = spaces_low n

lines_low : (indent : ℕ) (l : Line) (ls : List Line) → AreLines (l ∷ ls) → list_all low (lines_text indent l ls) ≡ true
lines_low indent l [] are = line_low l are.0
lines_low indent l (m ∷ ms) are =
    every_joined low (line_text l) (spaces indent ++ lines_text indent m ms) (line_low l are.0)
    (every_joined low (spaces indent) (lines_text indent m ms) (spaces_low indent) (lines_low indent m ms are.1))

elements_low : (es : List Entry) → AreEntries es → list_all low (elements_text es) ≡ true
elements_low [] are = refl
elements_low (e ∷ es) are = every_joined low (entry_text 4 e) (elements_text es)
    (lines_low 4 e.first e.more are.0.are) (elements_low es are.1)

inner_low : (ls : List Line) → AreLines ls → list_all low (inner_text ls) ≡ true
inner_low [] are = refl
inner_low (l ∷ ls) are = every_joined low (line_text l) (inner_text ls) (line_low l are.0) (inner_low ls are.1)

row_low : (r : Row) → IsRow r → list_all low (row_text r) ≡ true
row_low (one_line l) is = line_low l is
row_low (list_under key e es) is =
    every_joined low key (codes ":\n" ++ elements_text (e ∷ es)) (key_low key is.0.word) (elements_low (e ∷ es) is.1)
row_low (pairs_under key e) is =
    every_joined low key (codes ":\n" ++ inner_text (e.first ∷ e.more)) (key_low key is.0.word) (inner_low (e.first ∷ e.more) is.1)

rows_low : (rs : List Row) → AreRows rs → list_all low (rows_text rs) ≡ true
rows_low [] are = refl
rows_low (r ∷ rs) are = every_joined low (row_text r) (rows_text rs) (row_low r are.0) (rows_low rs are.1)

layout_low : (layout : Layout) → IsLayout layout → list_all low (layout_text layout) ≡ true
layout_low layout is = rows_low (layout.first ∷ layout.more) is.are

document_low : (marked : Bool) (layout : Layout) → IsLayout layout → list_all low (document_of marked layout) ≡ true
document_low true layout is = every_joined low (layout_text layout) (codes "...\n") (layout_low layout is) refl
document_low false layout is = every_joined low (layout_text layout) (codes "...\n") (layout_low layout is) refl

-- the bytes of a text that is spelled so are its characters
pub spelled_chars : (spelling : Spelling) (value : List ℕ) → stands spelling value ≡ true → chars value ≡ value
spelled_chars spelling value h = chars-IsAscii value (low_ascii value (value_low spelling value h))

-- ---- the mapping is within the limits of a command

keys_are_text : (ls : List Line) → AreLines ls → KeysAreText ls
keys_are_text [] are = tt
keys_are_text (l ∷ ls) are = (low_is_text l.key (key_low l.key are.0.word), keys_are_text ls are.1)

all_keys_are_text : (es : List Entry) → AreEntries es → AllKeysAreText es
all_keys_are_text [] are = tt
all_keys_are_text (e ∷ es) are = (keys_are_text (e.first ∷ e.more) are.0.are, all_keys_are_text es are.1)

row_is_text : (r : Row) → IsRow r → RowIsText r
row_is_text (one_line l) is = low_is_text l.key (key_low l.key is.word)
row_is_text (list_under key e es) is = (low_is_text key (key_low key is.0.word), all_keys_are_text (e ∷ es) is.1)
row_is_text (pairs_under key e) is = (low_is_text key (key_low key is.0.word), keys_are_text (e.first ∷ e.more) is.1)

rows_are_text : (rs : List Row) → AreRows rs → RowsAreText rs
rows_are_text [] are = tt
rows_are_text (r ∷ rs) are = (row_is_text r are.0, rows_are_text rs are.1)

pub members_are_text : (ls : List Line) → AreLines ls → AreTextMembers (members_of_lines ls)
members_are_text [] are = tt
members_are_text (l ∷ ls) are = (
  low_is_text l.key (key_low l.key are.0.word),
  low_is_text l.value (value_low l.spelling l.value are.0.stands),
  members_are_text ls are.1,
)

elements_are_text : (es : List Entry) → AreEntries es → AreTextElements (elements_of_entries es)
elements_are_text [] are = tt
elements_are_text (e ∷ es) are = (members_are_text (e.first ∷ e.more) are.0.are, elements_are_text es are.1)

row_key_is_text : (r : Row) → IsRow r → IsText (row_key r)
row_key_is_text (one_line l) is = low_is_text l.key (key_low l.key is.word)
row_key_is_text (list_under key e es) is = low_is_text key (key_low key is.0.word)
row_key_is_text (pairs_under key e) is = low_is_text key (key_low key is.0.word)

row_tree_is_text : (r : Row) → IsRow r → IsTextTree (row_tree r)
row_tree_is_text (one_line l) is = low_is_text l.value (value_low l.spelling l.value is.stands)
row_tree_is_text (list_under key e es) is = elements_are_text (e ∷ es) is.1
row_tree_is_text (pairs_under key e) is = members_are_text (e.first ∷ e.more) is.1

row_members_are_text : (rs : List Row) → AreRows rs → AreTextMembers (members_of_rows rs)
row_members_are_text [] are = tt
row_members_are_text (r ∷ rs) are = (row_key_is_text r are.0, row_tree_is_text r are.0, row_members_are_text rs are.1)

pub elements_differ : (es : List Entry) → AreEntries es → elements_distinct (elements_of_entries es) ≡ true
elements_differ [] are = refl
elements_differ (e ∷ es) are = and_from (members_distinct (entry_members e))
    (elements_distinct (elements_of_entries es)) are.0.differ (elements_differ es are.1)

pub members_flat : (ls : List Line) → members_depth (members_of_lines ls) ≤ 1
members_flat [] = omega arith
members_flat (l ∷ ls) = let rest = members_flat ls in omega (arith, rest)

elements_flat : (es : List Entry) → elements_depth (elements_of_entries es) ≤ 2
elements_flat [] = omega arith
elements_flat (e ∷ es) = let own = members_flat (e.first ∷ e.more) in let rest = elements_flat es in omega (arith, own, rest)

row_flat : (r : Row) → depth (row_tree r) ≤ 3
row_flat (one_line l) = omega arith
row_flat (list_under key e es) = let own = elements_flat (e ∷ es) in omega (arith, own)
row_flat (pairs_under key e) = let own = members_flat (e.first ∷ e.more) in omega (arith, own)

rows_flat : (rs : List Row) → members_depth (members_of_rows rs) ≤ 3
rows_flat [] = omega arith
rows_flat (r ∷ rs) = let own = row_flat r in let rest = rows_flat rs in omega (arith, own, rest)

key_line : (indent : ℕ) (key : List ℕ) → plain_in_style key ≡ true → long_key key ≡ false → key_lines indent key ≡ key ++ codes ":"
key_line indent key word short = rw (short, word) refl

single_bytes : (c : ℕ) → byte_len (c ∷ []) ≤ byte_len (single_text c)
single_bytes c = by (c == 39) refl
  where
    by : (same : Bool) → (c == 39) ≡ same → byte_len (c ∷ []) ≤ byte_len (if same then codes "''" else c ∷ [])
    by true e = let is = eqb-true c 39 e in rw is (omega arith)
    by false e = omega arith

pub doubled_bytes : (value : List ℕ) → byte_len value ≤ byte_len (flat_map single_text value)
doubled_bytes [] = omega arith
doubled_bytes (c ∷ cs) =
    let own = single_bytes c in
    let rest = doubled_bytes cs in
    let apart = byte_len-append (c ∷ []) cs in
    let joined = byte_len-append (single_text c) (flat_map single_text cs) in
    omega (arith, own, rest, apart, joined)

spelled_bytes : (spelling : Spelling) (value : List ℕ) → byte_len value ≤ byte_len (spelled spelling value)
spelled_bytes bare value = omega arith
spelled_bytes phrase value = omega arith
spelled_bytes quoted value = let joined = byte_len-append value (codes "\"") in omega (arith, joined)
spelled_bytes single_quoted value =
    let doubled = doubled_bytes value in
    let joined = byte_len-append (flat_map single_text value) (codes "'") in
    omega (arith, doubled, joined)

-- ---- a line in the one style is at most four times as long

bare_no_feed : (c : ℕ) → bare_char c ≡ true → (10 == c) ≡ false
bare_no_feed c e = grind (arith, nat_tests)

alone_no_feed : (c : ℕ) → stands_alone c ≡ true → (10 == c) ≡ false
alone_no_feed c e = grind (arith, nat_tests)

print_no_feed : (c : ℕ) → in_range 32 126 c ≡ true → not (10 == c) ≡ true
print_no_feed c e = grind (arith, nat_tests)

none_in : (p : ℕ → Bool) → ((c : ℕ) → p c ≡ true → (10 == c) ≡ false) → (cs : List ℕ) → list_all p cs ≡ true → is_in 10 cs ≡ false
none_in p f [] all = refl
none_in p f (c ∷ cs) all =
    let parts = and_parts (p c) (list_all p cs) all in
    rw (f c parts.0) (none_in p f cs parts.1)

value_no_feed : (spelling : Spelling) (value : List ℕ) → stands spelling value ≡ true → is_in 10 value ≡ false
value_no_feed bare value h = none_in bare_char bare_no_feed value (and_parts (begins_bare value) (list_all bare_char value) h).1
value_no_feed phrase value h =
    none_in (λ c. not (10 == c)) (λ c e. not-true (10 == c) e) value (phrase_all (λ c. not (10 == c)) print_no_feed value h)
value_no_feed quoted value h = none_in stands_alone alone_no_feed value h
value_no_feed single_quoted value h = none_in stands_alone alone_no_feed value h

-- it is written alike at every indentation
flat_lines : (i j : ℕ) (value : List ℕ) → is_in 10 value ≡ false → scalar_lines i value ≡ scalar_lines j value
flat_lines i j value none = by (plain_in_style value) (literal_in_style value) no_literal
  where
    no_literal : literal_in_style value ≡ false
    no_literal = rw none refl

    by : (plain literal : Bool) → literal ≡ false
        → (if plain then value ++ codes "\n" else if literal
        then literal_mark (feeds_at_end value) ++ codes "\n" ++ literal_lines i true value
        else in_double_quotes value ++ codes "\n")
        ≡ (if plain then value ++ codes "\n" else if literal
        then literal_mark (feeds_at_end value) ++ codes "\n" ++ literal_lines j true value
        else in_double_quotes value ++ codes "\n")
    by true literal e = refl
    by false false e = refl
    by false true e = cc

line_bytes : (indent : ℕ) (l : Line) → IsLine l
    → byte_len (key_lines indent l.key ++ value_at (text l.value) indent) ≤ 4 * byte_len (line_text l)
line_bytes indent l is =
    let flat = ap byte_len (flat_lines (indent + 2) 2 l.value (value_no_feed l.spelling l.value is.stands)) in
    let value = scalar_most l.value in
    let key = ap byte_len (key_line indent l.key is.word is.short) ∙ byte_len-append l.key (codes ":") in
    let two = byte_len-append (key_lines indent l.key) (value_at (text l.value) indent) in
    let line = byte_len-append l.key (codes ": " ++ (spelled l.spelling l.value ++ codes "\n")) in
    let shown = byte_len-append (spelled l.spelling l.value) (codes "\n") in
    let least = spelled_bytes l.spelling l.value in
    omega (arith, flat, value, key, two, line, shown, least)

regrouped : (a b c d : List ℕ) → ((a ++ b) ++ c) ++ d ≡ a ++ ((b ++ c) ++ d)
regrouped a b c d = ap (λ t. t ++ d) (append_assoc a b c) ∙ append_assoc a (b ++ c) d

members_next : (indent : ℕ) (l : Line) (ls : List Line)
    → members_after (members_of_lines (l ∷ ls)) indent ≡ spaces indent ++ members_at (members_of_lines (l ∷ ls)) indent
members_next indent l ls = regrouped (spaces indent) (key_lines indent l.key) (value_at (text l.value) indent)
    (members_after (members_of_lines ls) indent)

pub members_bytes : (indent : ℕ) (l : Line) (ls : List Line) → AreLines (l ∷ ls)
    → byte_len (members_at (members_of_lines (l ∷ ls)) indent) ≤ 4 * byte_len (lines_text indent l ls)
members_bytes indent l [] are =
    let own = line_bytes indent l are.0 in
    let whole = byte_len-append (key_lines indent l.key ++ value_at (text l.value) indent) [] in
    omega (arith, own, whole)
members_bytes indent l (m ∷ ms) are =
    let own = line_bytes indent l are.0 in
    let rest = members_bytes indent m ms are.1 in
    let further = members_at (members_of_lines (m ∷ ms)) indent in
    let next = members_next indent m ms in
    let same = ap byte_len next in
    let whole = byte_len-append (key_lines indent l.key ++ value_at (text l.value) indent)
    (members_after (members_of_lines (m ∷ ms)) indent) in
    let spaced = byte_len-append (spaces indent) further in
    let lines = byte_len-append (line_text l) (spaces indent ++ lines_text indent m ms) in
    let apart = byte_len-append (spaces indent) (lines_text indent m ms) in
    omega (arith, own, rest, same, whole, spaced, lines, apart)

elements_bytes : (es : List Entry) → AreEntries es → byte_len (elements_after (elements_of_entries es) 2) ≤ 4 * byte_len (elements_text es)
elements_bytes [] are = omega arith
elements_bytes (e ∷ es) are =
    let own = members_bytes 4 e.first e.more are.0.are in
    let rest = elements_bytes es are.1 in
    let style = byte_len-append (members_at (entry_members e) 4) (elements_after (elements_of_entries es) 2) in
    let lines = byte_len-append (entry_text 4 e) (elements_text es) in
    omega (arith, own, rest, style, lines)

-- lines after two spaces each, the first without them
inner_is : (l : Line) (ls : List Line) → inner_text (l ∷ ls) ≡ codes "  " ++ lines_text 2 l ls
inner_is l [] = ap (λ t. codes "  " ++ t) (append-nil (line_text l))
inner_is l (m ∷ ms) = ap (λ t. codes "  " ++ (line_text l ++ t)) (inner_is m ms)

-- a key with its value in the one style
abbrev row_style : Row → List ℕ
row_style r = key_lines 0 (row_key r) ++ value_at (row_tree r) 0

row_bytes : (r : Row) → IsRow r → byte_len (row_style r) ≤ 4 * byte_len (row_text r)
row_bytes (one_line l) is = line_bytes 0 l is
row_bytes (list_under key e es) is =
    let own = elements_bytes (e ∷ es) is.1 in
    let keyed = ap byte_len (key_line 0 key is.0.word is.0.short) ∙ byte_len-append key (codes ":") in
    let style = byte_len-append (key_lines 0 key) (value_at (sequence (elements_of_entries (e ∷ es))) 0) in
    let lines = byte_len-append key (codes ":\n" ++ elements_text (e ∷ es)) in
    omega (arith, own, keyed, style, lines)
row_bytes (pairs_under key e) is =
    let own = members_bytes 2 e.first e.more is.1 in
    let keyed = ap byte_len (key_line 0 key is.0.word is.0.short) ∙ byte_len-append key (codes ":") in
    let style = byte_len-append (key_lines 0 key) (value_at (mapping (entry_members e)) 0) in
    let lines = byte_len-append key (codes ":\n" ++ inner_text (e.first ∷ e.more)) in
    let inner = ap byte_len (inner_is e.first e.more) in
    omega (arith, own, keyed, style, lines, inner)

rows_bytes : (r : Row) (rs : List Row) → AreRows (r ∷ rs)
    → byte_len (members_at (members_of_rows (r ∷ rs)) 0) ≤ 4 * byte_len (rows_text (r ∷ rs))
rows_bytes r [] are =
    let own = row_bytes r are.0 in
    let style = byte_len-append (row_style r) [] in
    let lines = byte_len-append (row_text r) [] in
    omega (arith, own, style, lines)
rows_bytes r (s ∷ rs) are =
    let own = row_bytes r are.0 in
    let rest = rows_bytes s rs are.1 in
    let style = byte_len-append (row_style r) (members_after (members_of_rows (s ∷ rs)) 0) in
    let lines = byte_len-append (row_text r) (rows_text (s ∷ rs)) in
    omega (arith, own, rest, style, lines)

document_bytes : (marked : Bool) (layout : Layout) → byte_len (layout_text layout) + 4 ≤ byte_len (document_of marked layout)
document_bytes true layout = let joined = byte_len-append (layout_text layout) (codes "...\n") in omega (arith, joined)
document_bytes false layout = let joined = byte_len-append (layout_text layout) (codes "...\n") in omega (arith, joined)

-- a piece of such lines, after a line of `---` or without one, says what they say
pub lines_say : Unambiguous → (marked : Bool) (piece lines : List ℕ) (said : Said) → piece ≡ marker_text marked ++ lines → IsUtf8 piece
    → length piece ≤ piece_limit → IsCommandLines lines said → Says piece said
lines_say one marked piece lines said is utf8 short command =
    let layout : Layout = command.layout in
    let same : piece ≡ document_of marked layout = is ∙ ap (λ t. marker_text marked ++ t) command.is in
    let itself : chars piece ≡ document_of marked layout =
    ap chars same ∙ chars-IsAscii (document_of marked layout)
    (low_ascii (document_of marked layout) (document_low marked layout command.are)) in
    let bytes : byte_len (document_of marked layout) ≡ length piece = ap byte_len (sym itself) ∙ byte_len-chars piece utf8 in
    let flat = rows_flat (layout.first ∷ layout.more) in
    let style = rows_bytes layout.first layout.more command.are.are in
    let within = document_bytes marked layout in
    let good : Good (mapping (layout_members layout)) command_limits = record {
      texts = row_members_are_text (layout.first ∷ layout.more) command.are.are;
      keys = command.are.differ;
      deep = omega (arith, flat);
      long = omega (arith, style, within, bytes, short);
    } in
    let gives = lines_give one marked layout command_limits command.are (rows_are_text (layout.first ∷ layout.more) command.are.are)
    (low_is_text (document_of marked layout) (document_low marked layout command.are)) (omega (arith, bytes, short)) good in
    inl (
      mapping (layout_members layout),
      record {
        utf8 = utf8;
        gives = subst (λ cs. Gives cs command_limits (mapping (layout_members layout))) (sym itself) gives;
      },
      command.says,
    )
