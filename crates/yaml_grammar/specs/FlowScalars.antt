-- Flow scalars: plain, single-quoted and double-quoted (YAML 1.2.2, 6.5 and 7.3, and the contexts of 4.2 and 7.4).
-- The number n is the least number of spaces at the start of a further line.
use Rattle.std.specs.Prelude.{ℕ, zero, suc, ◌+◌, ◌-◌, ◌*◌, Bool, true, false, not, ◌&&◌, ◌||◌, nat_lt, ◌==◌, List, [], ◌∷◌, ◌++◌, length}
use Rattle.std.specs.{Prelude.{replicate, codes, flat_map, if◌then◌else◌}, List.list_all}
use Rattle.yaml_chars.specs.Signs.{null, bell, backspace, tab, line_feed, vertical_tab, form_feed, carriage_return, escape_char, space_char}
use Rattle.yaml_chars.specs.Signs.{number_sign, single_quote, digit_zero, colon, capital_l, capital_n, capital_p, backslash, low_line}
use Rattle.yaml_chars.specs.Signs.{small_a, small_b, small_e, small_f, small_n, small_r, small_t, small_u, small_v, small_x, next_line}
use Rattle.yaml_chars.specs.{Signs.{no_break_space, line_separator, paragraph_separator}, Classes.{in_range, is_in, code_point, white}}
use Rattle.{yaml_chars.specs.Classes.{space, nb_json, ns, indicator, flow_indicator}, yaml_grammar.specs.Texts.{is_empty, first, begins}}
use Rattle.yaml_grammar.specs.{Texts.{spaces, byte_len, no_marker}, Separation.{Break, break_text, break_fits, indents}, Events.Style}
use Rattle.yaml_grammar.specs.Events.{plain_style, single_style, double_style, Event, scalar_event}

-- ---- contexts (4.2): outside and inside a flow collection, in a block key, in a flow key

-- the context c of the standard's productions, without block-in and block-out
pub data FlowContext : Type 0 where
  outer inner block_key flow_key : FlowContext

-- [136] in-flow, 7.4: the context of what is between the brackets
abbrev pub in_flow : FlowContext → FlowContext
in_flow outer = inner
in_flow inner = inner
in_flow block_key = flow_key
in_flow flow_key = flow_key

-- A block key, and the key of a single pair without `?`, are on one line, and so is everything in them ([110], [121]
-- and [131], 7.3). Keys in `{ }` need not be.
abbrev pub one_line : FlowContext → Bool
one_line outer = false
one_line inner = false
one_line block_key = true
one_line flow_key = true

-- ---- presentations

-- what a double-quoted scalar holds ([107], 5.7): a character; a backslash with a character; or a backslash with x, u
-- or U, and digits
pub data QuotedChar : Type 0 where
  raw : ℕ → QuotedChar
  escape : ℕ → QuotedChar
  number : ℕ → List ℕ → QuotedChar

-- [70] l-empty, 6.4, in a flow scalar: the whitespace of the empty line, and its break
pub record FlowEmptyLine : Type 0 where
  pub blank : List ℕ
  pub stop : Break

-- A further line: how it is joined to the one before it, and what it holds. The join is whitespace, perhaps a
-- backslash, a break, empty lines, and the whitespace at the start of the line (6.5, 7.3.1).
pub record Line (A : Type 0) : Type 0 where
  pub escaped : Bool
  pub blank : List ℕ
  pub stop : Break
  pub empties : List FlowEmptyLine
  pub lead : List ℕ
  pub held : List A

-- [109] c-double-quoted, [120] c-single-quoted and [131] ns-plain, 7.3: what the first line holds, and further lines
pub data Scalar : Type 0 where
  plain single : List ℕ → List (Line ℕ) → Scalar
  double : List QuotedChar → List (Line QuotedChar) → Scalar

-- ---- what they spell

-- a plain character
abbrev pub plain_text : ℕ → List ℕ
plain_text c = c ∷ []

-- a character between single quotes; a quote is doubled ([117] c-quoted-quote, 7.3.2)
abbrev pub single_text : ℕ → List ℕ
single_text c = if c == single_quote then codes "''" else c ∷ []

-- one thing between double quotes, as it is written
abbrev pub quoted_char_text : QuotedChar → List ℕ
quoted_char_text (raw c) = c ∷ []
quoted_char_text (escape c) = backslash ∷ c ∷ []
quoted_char_text (number c digits) = backslash ∷ c ∷ digits

-- the text of an empty line
abbrev pub flow_empty_text : FlowEmptyLine → List ℕ
flow_empty_text e = e.blank ++ break_text e.stop

-- the text of empty lines
abbrev pub flow_empties_text : List FlowEmptyLine → List ℕ
flow_empties_text es = flat_map flow_empty_text es

-- the join of a line to the one before it, up to its break; whitespace before a backslash belongs to the line before
abbrev pub join_text : {A : Type 0} → Line A → List ℕ
join_text l = l.blank ++ (if l.escaped then codes "\\" else []) ++ break_text l.stop

-- the text of a further line, where `spell` gives the text of one thing held
abbrev pub line_text : {A : Type 0} → (A → List ℕ) → Line A → List ℕ
line_text spell l = join_text l ++ flow_empties_text l.empties ++ l.lead ++ flat_map spell l.held

-- the text of the first line and of all further ones
abbrev pub lines_text : {A : Type 0} → (A → List ℕ) → List A → List (Line A) → List ℕ
lines_text spell prefix more = flat_map spell prefix ++ flat_map (line_text spell) more

-- the text of a flow scalar, with its quotes
abbrev pub scalar_text : Scalar → List ℕ
scalar_text (plain prefix more) = lines_text plain_text prefix more
scalar_text (single prefix more) = codes "'" ++ lines_text single_text prefix more ++ codes "'"
scalar_text (double prefix more) = codes "\"" ++ lines_text quoted_char_text prefix more ++ codes "\""

-- ---- joins of lines

-- [70] l-empty, 6.4: an indentation of n and whitespace, or fewer spaces
abbrev pub flow_empty_fits : ℕ → FlowEmptyLine → List ℕ → Bool
flow_empty_fits n e after = list_all white e.blank && (begins (spaces n) e.blank || list_all space e.blank)
    && break_fits e.stop after

-- [70] l-empty, 6.4: each of the empty lines fits
abbrev pub flow_empties_fit : ℕ → List FlowEmptyLine → List ℕ → Bool
flow_empties_fit n [] after = true
flow_empties_fit n (e ∷ es) after = flow_empty_fits n e (flow_empties_text es ++ after) && flow_empties_fit n es after

-- there is a last element, and it passes the test
abbrev pub ends : {A : Type 0} → (A → Bool) → List A → Bool
ends p [] = false
ends p (x ∷ []) = p x
ends p (x ∷ xs) = ends p xs

-- how the things that a line holds are spelled, and which of them are whitespace
pub record Kind (A : Type 0) : Type 0 where
  pub spell : A → List ℕ
  pub blank : A → Bool

-- the line from its indentation on, and the text after it
abbrev pub from_lead : {A : Type 0} → Kind A → Line A → List ℕ → List ℕ
from_lead kind l after = l.lead ++ (flat_map kind.spell l.held ++ after)

-- [74] s-flow-folded, 6.5: A join takes all whitespace before its break and at the start of its line. After a backslash
-- comes the break, and the whitespace before it belongs to the line before ([112] s-double-escaped, 7.3.1).
abbrev pub join_fits : {A : Type 0} → Kind A → ℕ → List A → Line A → List ℕ → Bool
join_fits kind n before l after =
    (if l.escaped then is_empty l.blank else list_all white l.blank && not (ends kind.blank before))
    && break_fits l.stop (flow_empties_text l.empties ++ from_lead kind l after)
    && flow_empties_fit n l.empties (from_lead kind l after)
    && indents n l.lead && not (first kind.blank l.held) && no_marker true (from_lead kind l after)

-- the text of further lines, and the text after them
abbrev pub lines_after : {A : Type 0} → Kind A → List (Line A) → List ℕ → List ℕ
lines_after kind ls after = flat_map (line_text kind.spell) ls ++ after

-- ---- plain scalars (7.3.3)

-- [127] ns-plain-safe, 7.3.3: ns; between brackets and in a flow key without the flow indicators
abbrev pub safe : FlowContext → ℕ → Bool
safe outer c = ns c
safe block_key c = ns c
safe inner c = ns c && not (flow_indicator c)
safe flow_key c = ns c && not (flow_indicator c)

-- [126] ns-plain-first, 7.3.3: no indicator, except `?`, `:` and `-` before a safe character
abbrev pub plain_first : FlowContext → ℕ → List ℕ → Bool
plain_first c x after = ns x && (not (indicator x) || (is_in x (codes "?:-") && first (safe c) after))

-- [130] ns-plain-char, 7.3.3, after the character prev: `:` only before a safe character, `#` only after one that is
-- not whitespace
abbrev pub plain_next : FlowContext → ℕ → ℕ → List ℕ → Bool
plain_next c prev x after =
    (safe c x && not (is_in x (codes ":#"))) || ((x == colon) && first (safe c) after)
    || ((x == number_sign) && ns prev)

-- [132] nb-ns-plain-in-line, 7.3.3: after the character prev, whitespace and plain characters, of which a plain
-- character is the last
abbrev pub plain_run : FlowContext → ℕ → List ℕ → List ℕ → Bool
plain_run c prev [] after = not (white prev)
plain_run c prev (x ∷ xs) after = (white x || plain_next c prev x (xs ++ after)) && plain_run c x xs after

-- [133] ns-plain-one-line, 7.3.3: the first line
abbrev pub plain_line : FlowContext → List ℕ → List ℕ → Bool
plain_line c [] after = false
plain_line c (x ∷ xs) after = plain_first c x (xs ++ after) && plain_run c x xs after

-- [134] s-ns-plain-next-line, 7.3.3: what a further line holds starts with a plain character
abbrev pub plain_more : FlowContext → List ℕ → List ℕ → Bool
plain_more c [] after = false
plain_more c (x ∷ xs) after = not (white x) && plain_run c space_char (x ∷ xs) after

-- what a line of a plain scalar holds: characters
abbrev pub plain_kind : Kind ℕ
plain_kind = record { spell = plain_text; blank = white }

-- [135] ns-plain-multi-line, 7.3.3: the first line and all further ones
abbrev pub plain_lines : ℕ → FlowContext → List ℕ → List (Line ℕ) → List ℕ → Bool
plain_lines n c before [] after = true
plain_lines n c before (l ∷ ls) after =
    not l.escaped && join_fits plain_kind n before l (lines_after plain_kind ls after)
    && plain_more c l.held (lines_after plain_kind ls after) && plain_lines n c l.held ls after

-- ---- quoted scalars (7.3.1, 7.3.2)

-- [36] ns-hex-digit, 5.6
abbrev pub hex_digit : ℕ → Bool
hex_digit c = in_range 48 57 c || in_range 65 70 c || in_range 97 102 c

-- the value of a hexadecimal digit ([36], 5.6): 55 and 87 are 10 less than `A` and `a`
abbrev pub digit_of : ℕ → ℕ
digit_of c = if nat_lt c 58 then c - digit_zero else (if nat_lt c 71 then c - 55 else c - 87)

-- [59] to [61], 5.7: the number that digits spell after one whose value is n
abbrev pub hex_value : ℕ → List ℕ → ℕ
hex_value n [] = n
hex_value n (c ∷ cs) = hex_value (16 * n + digit_of c) cs

-- how many digits come after x ([59]), u ([60]) and U ([61], 5.7)
abbrev pub digits_after : ℕ → ℕ
digits_after c = if c == small_x then 2 else (if c == small_u then 4 else 8)

-- [107] nb-double-char, 7.3.1
abbrev pub quoted_char_fits : QuotedChar → Bool
-- [107] nb-double-char, 7.3.1: a character of JSON, no quote and no backslash
quoted_char_fits (raw c) = nb_json c && not (is_in c (codes "\"\\"))
-- [62] c-ns-esc-char, 5.7: [42] to [58]
quoted_char_fits (escape c) = is_in c (tab ∷ codes "0abtnvfre \"/\\N_LP")
-- [62] c-ns-esc-char, 5.7: [59] to [61]; a surrogate or a number above x10FFFF is no character
quoted_char_fits (number c digits) =
    is_in c (codes "xuU") && (length digits == digits_after c) && list_all hex_digit digits
    && code_point (hex_value 0 digits)

-- whitespace; an escape is none
abbrev pub is_blank_char : QuotedChar → Bool
is_blank_char (raw c) = white c
is_blank_char _ = false

-- what a line in single quotes holds: characters
abbrev pub single_kind : Kind ℕ
single_kind = record { spell = single_text; blank = white }

-- what a line in double quotes holds
abbrev pub double_kind : Kind QuotedChar
double_kind = record { spell = quoted_char_text; blank = is_blank_char }

-- The lines between two quotes ([116], [125]; 7.3.1, 7.3.2). The test p says what a line may hold, and escapes says
-- whether a backslash may join lines. A line between two joins isn't empty.
abbrev pub quoted_lines : {A : Type 0} → Kind A → (A → Bool) → Bool → ℕ → List A → List (Line A) → List ℕ → Bool
quoted_lines kind p escapes n before [] after = true
quoted_lines kind p escapes n before (l ∷ ls) after =
    (escapes || not l.escaped) && join_fits kind n before l (lines_after kind ls after) && list_all p l.held
    && (is_empty ls || not (is_empty l.held)) && quoted_lines kind p escapes n l.held ls after

-- ---- what a flow scalar has to meet, at n in the context c

-- 7.3: a flow scalar at n in the context c
abbrev pub scalar_fits : ℕ → FlowContext → Bool → Scalar → List ℕ → Bool
-- [131] ns-plain, 7.3.3
scalar_fits n c bol (plain prefix more) after =
    no_marker bol (lines_text plain_text prefix more ++ after)
    && plain_line c prefix (lines_after plain_kind more after)
    && plain_lines n c prefix more after && (is_empty more || not (one_line c))
-- [120] c-single-quoted, 7.3.2
scalar_fits n c bol (single prefix more) after =
    list_all nb_json prefix && quoted_lines single_kind nb_json false n prefix more (codes "'" ++ after)
    && (is_empty more || not (one_line c))
-- [109] c-double-quoted, 7.3.1
scalar_fits n c bol (double prefix more) after =
    list_all quoted_char_fits prefix
    && quoted_lines double_kind quoted_char_fits true n prefix more (codes "\"" ++ after)
    && (is_empty more || not (one_line c))

-- ---- the value of the lines of a flow scalar

-- a line feed for each of n
abbrev pub line_feeds : ℕ → List ℕ
line_feeds n = replicate n line_feed

-- [42] to [58], 5.7: the character that a backslash and this one mean
abbrev pub escaped_char : ℕ → ℕ
escaped_char c =
    if c == digit_zero then null else if c == small_a then bell else if c == small_b then backspace
    else if c == small_t then tab
    else if c == small_n then line_feed else if c == small_v then vertical_tab else if c == small_f then form_feed
    else if c == small_r then carriage_return else if c == small_e then escape_char else if c == capital_n
    then next_line
    else if c == low_line then no_break_space else if c == capital_l then line_separator else if c == capital_p
    then paragraph_separator
    else c

-- the character that one thing between double quotes means
abbrev pub quoted_char_value : QuotedChar → ℕ
quoted_char_value (raw c) = c
quoted_char_value (escape c) = escaped_char c
quoted_char_value (number c digits) = hex_value 0 digits

-- a character means itself
abbrev pub char_value : ℕ → ℕ
char_value c = c

-- what the things of a line mean, one after another
abbrev pub values : {A : Type 0} → (A → ℕ) → List A → List ℕ
values value [] = []
values value (x ∷ xs) = value x ∷ values value xs

-- [73] b-l-folded, 6.5: a break is a space, or with k empty lines after it k line feeds
abbrev pub folded_break : ℕ → List ℕ
folded_break zero = space_char ∷ []
folded_break (suc k) = line_feeds (suc k)

-- [73] b-l-folded, 6.5, and [112] s-double-escaped, 7.3.1: what a further line adds; after a backslash the break itself
-- is nothing
abbrev pub line_value : {A : Type 0} → (A → ℕ) → Line A → List ℕ
line_value value l = (if l.escaped then line_feeds (length l.empties) else folded_break (length l.empties))
    ++ values value l.held

-- 6.5, line folding: the value of the first line and of all further ones
abbrev pub flow_fold : {A : Type 0} → (A → ℕ) → List A → List (Line A) → List ℕ
flow_fold value prefix more = values value prefix ++ flat_map (line_value value) more

-- the value of a flow scalar
abbrev pub scalar_value : Scalar → List ℕ
scalar_value (plain prefix more) = flow_fold char_value prefix more
scalar_value (single prefix more) = flow_fold char_value prefix more
scalar_value (double prefix more) = flow_fold quoted_char_value prefix more

-- the style of a flow scalar
abbrev pub style_of : Scalar → Style
style_of (plain prefix more) = plain_style
style_of (single prefix more) = single_style
style_of (double prefix more) = double_style

-- The event of a flow scalar. Its range is what the scalar spells, quotes included.
abbrev pub scalar_events : ℕ → Scalar → List Event
scalar_events at s = scalar_event (style_of s) at (at + byte_len (scalar_text s)) (scalar_value s) ∷ []
