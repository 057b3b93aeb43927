-- What a flow mapping on one line says.
use Rattle.std.proofs.Common.{◌≡◌, ◌≢◌, ℕ, suc, ◌+◌, ◌<◌, ◌≤◌, Bool, true, false, List, [], ◌∷◌, ◌++◌, codes, map, length}
use Rattle.std.proofs.Common.{refl, sym, ap, subst, ◌∙◌, inl, arith, append_assoc, append-nil}
use Rattle.std.specs.{Borrow.Bor, Prelude.{flat_map, get_or, ◌==◌, if◌then◌else◌}}
use Rattle.conf_session.proofs.Prelude.{list_all, chars, IsUtf8, chars-IsAscii, and_parts, and_from, every_joined, byte_len, false≢true}
use Rattle.conf_session.proofs.Prelude.{ne_eqb, byte_len-append, byte_len-chars, mapping, Good, Gives, stands_alone, text, set_at}
use Rattle.conf_session.proofs.{Prelude.delete_at, LinesPresented.Unambiguous, FlowLinePresented.flow_line_gives, RowLemmas.low}
use Rattle.conf_session.proofs.RowLemmas.{low_ascii, low_is_text, value_low, spelled_low, doubled_bytes, all_weaker, members_are_text}
use Rattle.conf_session.proofs.{RowLemmas.{members_flat, members_bytes}, CommandLineLemmas.{set_says, delete_says}, SaidLemmas.said-without}
use Rattle.conf_session.{proofs.SaidLemmas.none-about, specs.Said.{Part, Says, command_limits, piece_limit, single_part, plain}}
use Rattle.conf_session.specs.CommandLines.{Spelling, bare, phrase, quoted, single_quoted, spelled, stands, line_text, lines_text}
use Rattle.conf_session.specs.{CommandLines.{members_of_lines, bare_char, begins_bare, IsBefore, IsSpelled}, FlowLine.{Word, word_text}}
use Rattle.conf_session.specs.FlowLine.{Field, gap, field_text, fields_text, flow_line_text, line_of, flow_char, stands_in_flow, BeginsWith}
use Rattle.conf_session.specs.FlowLine.{is_apart, StandsInFlow, StandInFlow, IsFlowLine, quotes, IsKeyOf, IsMember}
use Rattle.yaml_grammar.specs.FlowScalars.{single_text}

-- ---- all of it is ASCII

-- a text that may stand between braces may stand on a line
pub stands_too : (spelling : Spelling) (value : List ℕ) → stands_in_flow spelling value ≡ true → stands spelling value ≡ true
stands_too bare value h =
    let p : (begins_bare value ≡ true) × (list_all flow_char value ≡ true) = and_parts _ _ h in
    and_from _ _ p.0 (all_weaker flow_char bare_char (λ c e. (and_parts _ _ e).0) value p.1)
stands_too phrase value h = absurd (false≢true h)
stands_too quoted value h = h
stands_too single_quoted value h = h

word_low : (w : Word) → stands_in_flow w.spelling w.value ≡ true → list_all low (word_text w) ≡ true
word_low w h = spelled_low w.spelling w.value (value_low w.spelling w.value (stands_too w.spelling w.value h))

gap_low : (b : Bool) → list_all low (gap b) ≡ true
gap_low true = refl
gap_low false = refl

field_low : (f : Field) → StandsInFlow f → list_all low (field_text f) ≡ true
field_low f is =
    every_joined low (gap f.before) (word_text f.key ++ (codes ":" ++ (gap f.behind ++ word_text f.word))) (gap_low f.before)
    (every_joined low (word_text f.key) (codes ":" ++ (gap f.behind ++ word_text f.word)) (word_low f.key is.key)
    (every_joined low (gap f.behind) (word_text f.word) (gap_low f.behind) (word_low f.word is.word)))

fields_low : (f : Field) (fs : List Field) → StandInFlow (f ∷ fs) → list_all low (fields_text f fs) ≡ true
fields_low f [] are = field_low f are.0
fields_low f (g ∷ gs) are = every_joined low (field_text f) (codes "," ++ fields_text g gs) (field_low f are.0) (fields_low g gs are.1)

flow_line_low : (f : Field) (fs : List Field) (end : Bool) → StandInFlow (f ∷ fs) → list_all low (flow_line_text f fs end) ≡ true
flow_line_low f fs end are =
    every_joined low (fields_text f fs) (gap end ++ codes "}\n...\n") (fields_low f fs are)
    (every_joined low (gap end) (codes "}\n...\n") (gap_low end) refl)

-- ---- it is within the limits of a command

-- a key is longer by its quotes, or by the space behind its `:`
key_bytes : (spelling : Spelling) (behind : Bool) (key : List ℕ) → is_apart spelling behind ≡ true
    → byte_len key + 1 ≤ byte_len (spelled spelling key) + byte_len (gap behind)
key_bytes bare true key apart = omega arith
key_bytes bare false key apart = absurd (false≢true apart)
key_bytes phrase behind key apart = absurd (false≢true apart)
key_bytes quoted behind key apart = let joined = byte_len-append key (codes "\"") in omega (arith, joined)
key_bytes single_quoted behind key apart =
    let doubled = doubled_bytes key in
    let joined = byte_len-append (flat_map single_text key) (codes "'") in
    omega (arith, doubled, joined)

-- with a comma a member is as long as its line, or longer
field_bytes : (f : Field) → StandsInFlow f → byte_len (line_text (line_of f)) ≤ 1 + byte_len (field_text f)
field_bytes f is =
    let own = word_text f.key ++ (codes ":" ++ (gap f.behind ++ word_text f.word)) in
    omega (
      arith,
      key_bytes f.key.spelling f.behind f.key.value is.apart,
      byte_len-append f.key.value (codes ": " ++ (word_text f.word ++ codes "\n")),
      byte_len-append (word_text f.word) (codes "\n"),
      byte_len-append (gap f.before) own,
      byte_len-append (word_text f.key) (codes ":" ++ (gap f.behind ++ word_text f.word)),
      byte_len-append (gap f.behind) (word_text f.word),
    )

fields_bytes : (f : Field) (fs : List Field) → StandInFlow (f ∷ fs)
    → byte_len (lines_text 0 (line_of f) (map line_of fs)) ≤ 1 + byte_len (fields_text f fs)
fields_bytes f [] are = field_bytes f are.0
fields_bytes f (g ∷ gs) are =
    omega (
      arith,
      field_bytes f are.0,
      fields_bytes g gs are.1,
      byte_len-append (line_text (line_of f)) (lines_text 0 (line_of g) (map line_of gs)),
      byte_len-append (field_text f) (codes "," ++ fields_text g gs),
    )

-- ---- what it says

-- a piece that is such a mapping says its part
pub flow_line_says : Unambiguous → (piece : List ℕ) (part : Part) → IsUtf8 piece → length piece ≤ piece_limit → IsFlowLine piece part
    → Says piece (single_part part)
flow_line_says one piece part utf8 short flow =
    let f = flow.first in
    let fs = flow.more in
    let end = flow.last in
    let says = flow.says in
    let low_text = flow_line_low f fs end flow.stand in
    let itself : chars piece ≡ flow_line_text f fs end =
    ap chars flow.is ∙ chars-IsAscii (flow_line_text f fs end) (low_ascii (flow_line_text f fs end) low_text) in
    let bytes : byte_len (flow_line_text f fs end) ≡ length piece = ap byte_len (sym itself) ∙ byte_len-chars piece utf8 in
    let members = members_of_lines (map line_of (f ∷ fs)) in
    let tree = mapping members in
    let good : Good tree command_limits = record {
      texts = members_are_text (map line_of (f ∷ fs)) says.is.are;
      keys = says.is.differ;
      deep = omega (arith, members_flat (map line_of (f ∷ fs)));
      long = omega (
        arith,
        members_bytes 0 (line_of f) (map line_of fs) says.is.are,
        fields_bytes f fs flow.stand,
        byte_len-append (fields_text f fs) (gap end ++ codes "}\n...\n"),
        byte_len-append (gap end) (codes "}\n...\n"),
        bytes,
        short,
      );
    } in
    let gives =
    flow_line_gives one f fs end command_limits flow.stand (low_is_text (flow_line_text f fs end) low_text)
    (omega (arith, bytes, short)) good in
    inl (
      tree,
      record { utf8 = utf8; gives = subst (λ cs. Gives cs command_limits tree) (sym itself) gives },
      sym says.alone ∙ sym (said-without members (none-about members says.no_about)),
    )

-- ---- mappings by their members

-- a text between quotes in which none is
undoubled : (value : List ℕ) → ((i : ℕ) → i < length value → get_or value i 0 ≢ 39) → flat_map single_text value ≡ value
undoubled [] none = refl
undoubled (c ∷ cs) none =
    by (c == 39) (ne_eqb c 39 (none 0 (omega arith))) (undoubled cs (λ i before. none (suc i) (omega (arith, before))))
  where
    by : (same : Bool) → same ≡ false → flat_map single_text cs ≡ cs
        → (if same then codes "''" else c ∷ []) ++ flat_map single_text cs ≡ c ∷ cs
    by true e rest = absurd (false≢true (sym e))
    by false e rest = ap (λ t. c ∷ t) rest

-- a key, by its quotes
key_spelled : (key : List ℕ) → flat_map single_text key ≡ key → (spelling : Spelling) (rest : List ℕ)
    → quotes spelling ++ (key ++ (quotes spelling ++ rest)) ≡ spelled spelling key ++ rest
key_spelled key same bare rest = refl
key_spelled key same phrase rest = refl
key_spelled key same quoted rest = ap (λ t. 34 ∷ t) (sym (append_assoc key (codes "\"") rest))
key_spelled key same single_quoted rest =
    ap (λ t. 39 ∷ t) (sym (append_assoc key (codes "'") rest)) ∙ ap (λ t. 39 ∷ ((t ++ codes "'") ++ rest)) (sym same)

-- a member of a key
abbrev field_of : {text key value rest : List ℕ} → IsMember text key value rest → Field
field_of {text} {key} {value} member =
    record {
      key = record { spelling = member.key_is.spelling; value = key };
      word = record { spelling = member.value_is.spelling; value = value };
      before = member.before;
      behind = member.key_is.behind;
    }

member_is : {text value rest : List ℕ} (key : List ℕ) → flat_map single_text key ≡ key → (m : IsMember text key value rest)
    → text ≡ field_text (field_of m) ++ rest
member_is {text} {value} {rest} key same m =
    let before = gap m.before in
    let behind = gap m.key_is.behind in
    let own = spelled m.key_is.spelling key in
    let word = spelled m.value_is.spelling value in
    m.spaced
    ∙ ap (λ t. before ++ t)
    (m.key_is.is ∙ key_spelled key same m.key_is.spelling (codes ":" ++ (behind ++ m.after_key))
    ∙ ap (λ t. own ++ (codes ":" ++ (behind ++ t))) m.value_is.is
    ∙ ap (λ t. own ++ (codes ":" ++ t)) (sym (append_assoc behind word rest))
    ∙ sym (append_assoc own (codes ":" ++ (behind ++ word)) rest))
    ∙ sym (append_assoc before (own ++ (codes ":" ++ (behind ++ word))) rest)

-- a key that may be spelled in each way
any_spelling : (key : List ℕ) → stands_in_flow bare key ≡ true → list_all stands_alone key ≡ true → (spelling : Spelling) (behind : Bool)
    → is_apart spelling behind ≡ true → stands_in_flow spelling key ≡ true
any_spelling key as_it_is between bare behind apart = as_it_is
any_spelling key as_it_is between phrase behind apart = absurd (false≢true apart)
any_spelling key as_it_is between quoted behind apart = between
any_spelling key as_it_is between single_quoted behind apart = between

member_stands : {text value rest : List ℕ} (key : List ℕ) → stands_in_flow bare key ≡ true → list_all stands_alone key ≡ true
    → (m : IsMember text key value rest) → StandsInFlow (field_of m)
member_stands key as_it_is between m = record {
  key = any_spelling key as_it_is between m.key_is.spelling m.key_is.behind m.key_is.apart;
  word = m.value_is.stands;
  apart = m.key_is.apart;
}

pub set_on_flow_line : (n p v : Bor (List ℕ)) (members after_name path_on after_path value_on end : List ℕ) (spaced : Bool)
    → IsMember members (codes "set") n.now after_name → after_name ≡ codes "," ++ path_on
    → IsMember path_on (codes "path") p.now after_path → after_path ≡ codes "," ++ value_on
    → IsMember value_on (codes "value") v.now end → end ≡ gap spaced ++ codes "}\n...\n"
    → IsFlowLine (codes "{" ++ members) (plain (set_at (chars n.now) (chars p.now) (text (chars v.now))))
set_on_flow_line n p v members after_name path_on after_path value_on end spaced one comma two another three ends =
    let f = field_of one in
    let g = field_of two in
    let h = field_of three in
    let last = member_is (codes "value") refl three ∙ ap (λ t. field_text h ++ t) ends in
    let middle = member_is (codes "path") refl two ∙ ap (λ t. field_text g ++ t) another in
    let start = member_is (codes "set") refl one ∙ ap (λ t. field_text f ++ t) comma in
    record {
      first = f;
      more = g ∷ h ∷ [];
      last = spaced;
      stand = (
        member_stands (codes "set") refl refl one,
        (member_stands (codes "path") refl refl two, (member_stands (codes "value") refl refl three, tt)),
      );
      says =
          set_says one.value_is.spelling two.value_is.spelling three.value_is.spelling n.now p.now v.now
          (stands_too one.value_is.spelling n.now one.value_is.stands) (stands_too two.value_is.spelling p.now two.value_is.stands)
          (stands_too three.value_is.spelling v.now three.value_is.stands);
      is =
          ap (λ t. codes "{" ++ t)
          (start ∙ ap (λ t. field_text f ++ (codes "," ++ t)) (middle ∙ ap (λ t. field_text g ++ (codes "," ++ t)) last)
          ∙ ap (λ t. field_text f ++ (codes "," ++ t))
          (sym (append_assoc (field_text g) (codes "," ++ field_text h) (gap spaced ++ codes "}\n...\n")))
          ∙ sym (append_assoc (field_text f) (codes "," ++ fields_text g (h ∷ [])) (gap spaced ++ codes "}\n...\n")));
    }

pub delete_on_flow_line : (n p : Bor (List ℕ)) (members after_name path_on end : List ℕ) (spaced : Bool)
    → IsMember members (codes "delete") n.now after_name → after_name ≡ codes "," ++ path_on
    → IsMember path_on (codes "path") p.now end → end ≡ gap spaced ++ codes "}\n...\n"
    → IsFlowLine (codes "{" ++ members) (plain (delete_at (chars n.now) (chars p.now)))
delete_on_flow_line n p members after_name path_on end spaced one comma two ends =
    let f = field_of one in
    let g = field_of two in
    let last = member_is (codes "path") refl two ∙ ap (λ t. field_text g ++ t) ends in
    let start = member_is (codes "delete") refl one ∙ ap (λ t. field_text f ++ t) comma in
    record {
      first = f;
      more = g ∷ [];
      last = spaced;
      stand = (member_stands (codes "delete") refl refl one, (member_stands (codes "path") refl refl two, tt));
      says =
          delete_says one.value_is.spelling two.value_is.spelling n.now p.now
          (stands_too one.value_is.spelling n.now one.value_is.stands) (stands_too two.value_is.spelling p.now two.value_is.stands);
      is =
          ap (λ t. codes "{" ++ t)
          (start ∙ ap (λ t. field_text f ++ (codes "," ++ t)) last
          ∙ sym (append_assoc (field_text f) (codes "," ++ field_text g) (gap spaced ++ codes "}\n...\n")));
    }

-- ---- texts that are cut off

-- a text between double quotes
pub begins_quoted : (source inner value rest : List ℕ) → source ≡ codes "\"" ++ inner → IsBefore inner 34 value rest
    → BeginsWith source value rest
begins_quoted source inner value rest is before = record {
  spelling = quoted;
  stands = before.stands;
  is = is ∙ ap (λ t. 34 ∷ t) (before.is ∙ sym (append_assoc value (codes "\"") rest));
}

-- a text between single quotes
pub begins_single : (source inner value rest : List ℕ) → source ≡ codes "'" ++ inner → IsBefore inner 39 value rest
    → BeginsWith source value rest
begins_single source inner value rest is before = record {
  spelling = single_quoted;
  stands = before.stands;
  is =
      is ∙ ap (λ t. 39 ∷ t) (before.is ∙ sym (append_assoc value (codes "'") rest))
      ∙ ap (λ t. 39 ∷ ((t ++ codes "'") ++ rest)) (sym (undoubled value before.none));
}

-- a text that is all that the line has
pub line_spelled : (line value rest : List ℕ) → BeginsWith line value rest → length rest ≡ 0 → IsSpelled line value
line_spelled line value rest begins none = record {
  spelling = begins.spelling;
  stands = stands_too begins.spelling value begins.stands;
  is = begins.is ∙ ap (λ t. spelled begins.spelling value ++ t) (empty rest none) ∙ append-nil _;
}
  where
    empty : (cs : List ℕ) → length cs ≡ 0 → cs ≡ []
    empty [] e = refl
    empty (c ∷ cs) e = absurd (omega (arith, e))
