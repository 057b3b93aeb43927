-- The trees of records and bases: they are good, within the limits, and tell what they were made of.
use Rattle.std.proofs.Common.{◌≡◌, ℕ, ◌+◌, ◌<◌, ◌≤◌, true, not, ◌&&◌, ◌||◌, nat_le, if◌then◌else◌, List, [], ◌∷◌, ◌++◌, length, codes}
use Rattle.std.proofs.Common.{decimal, Some, None, option_map, append_assoc, refl, ap, sym, ◌∙◌, arith, ap₂}
use Rattle.std.proofs.lemmas.Str.Parse.{tells_digits}
use Rattle.conf_record.proofs.Prelude.{byte_len-encoded, encodes-IsAscii, every-IsAscii, and_parts, and_from, nat_tests}
use Rattle.conf_record.proofs.Prelude.{decimal_is_IsNumeral, length-decimal-le, AllDigits, digits_value, code_point, in_range, list_all}
use Rattle.conf_record.proofs.Prelude.{IsText, byte_len, first, same_text, Tree, text, Members, no_member, member, elements_depth}
use Rattle.conf_record.proofs.Prelude.{members_depth, distinct, elements_distinct, members_distinct, has_key, AreTextElements}
use Rattle.conf_record.proofs.Prelude.{AreTextMembers, Good, scalar_lines, key_lines, value_at, members_after, style_text, framed_text}
use Rattle.conf_record.proofs.Prelude.{byte_len-append, own_limits, config_limits, same_text-self, small_letter, name_char, good_name, Edit}
use Rattle.conf_record.proofs.Prelude.{import_as, set_at, delete_at, Command, single, batch, Entry, Contents, base_limit, count_limit}
use Rattle.conf_record.proofs.Prelude.{names_of, has_name, names_differ, AreConfigs, IsState, members, base_tree, base_text, base_length}
use Rattle.conf_record.proofs.{Prelude.{closed_document, line, mapping, noted}, SizeLemmas.{size, scalar_most, value_size}}
use Rattle.conf_record.{proofs.AboutLemmas.{about-last, without-last, is-about, texts-last, depth-last}, specs.Records.edit_members}
use Rattle.conf_record.specs.Records.{edit_elements, command_members, record_tree, record_text, FitsRecord}
use Rattle.conf_record.specs.RecordsRead.{number_from_digits, edit_from, ahead, edits_of, command_from, with_number, record_of, entries}
use Rattle.conf_record.specs.RecordsRead.{base_of, IsEdit, AreEdits, IsCommand, plain_from, with_about, about_in, without_about, IsPlain}
use Rattle.conf_record.specs.{SmallCommands.{IsSmallEdit, AreSmallEdits, IsSmallCommand}, Formats.third_tree}
use Rattle.{conf_state.proofs.BaseLemmas.count_bytes, yaml_writer.proofs.SizeLaws.three, conf_about.specs.Abouts.IsAbout}
use Rattle.conf_about.proofs.ReadLemmas.{about-good}

-- ---- numbers and names

digit_is_text : (c : ℕ) → in_range 48 57 c ≡ true → code_point c ≡ true
digit_is_text c e = grind (arith, nat_tests)

digit : (c : ℕ) (cs : List ℕ) → AllDigits 10 (c ∷ cs) → in_range 48 57 c ≡ true
digit c cs all = let here = (tells_digits.parts c cs all).0 in grind (arith, nat_tests, here)

digits_are_text : (ds : List ℕ) → AllDigits 10 ds → IsText ds
digits_are_text [] all = refl
digits_are_text (c ∷ cs) all =
    and_from (code_point c) (list_all code_point cs) (digit_is_text c (digit c cs all)) (digits_are_text cs (tells_digits.parts c cs all).1)

name_char_is_text : (c : ℕ) → name_char c ≡ true → code_point c ≡ true
name_char_is_text c e = grind (arith, nat_tests)

name_char_small : (c : ℕ) → name_char c ≡ true → c < 128
name_char_small c e = grind (arith, nat_tests)

at_most : (n : ℕ) → nat_le n 64 ≡ true → n ≤ 64
at_most n e = grind (arith, nat_tests)

chars_are_text : (cs : List ℕ) → list_all name_char cs ≡ true → IsText cs
chars_are_text [] all = refl
chars_are_text (c ∷ cs) all =
    let parts = and_parts (name_char c) (list_all name_char cs) all in
    and_from (code_point c) (list_all code_point cs) (name_char_is_text c parts.0) (chars_are_text cs parts.1)

chars_bytes : (cs : List ℕ) → list_all name_char cs ≡ true → byte_len cs ≡ length cs
chars_bytes cs all = byte_len-encoded cs ∙ ap length (encodes-IsAscii cs (every-IsAscii name_char name_char_small cs all))

-- a good name is a text
pub name_is_text : (name : List ℕ) → good_name name ≡ true → IsText name
name_is_text name good =
    let outer = and_parts (first small_letter name && list_all name_char name) (nat_le (length name) 64) good in
    chars_are_text name (and_parts (first small_letter name) (list_all name_char name) outer.0).1

name_bytes : (name : List ℕ) → good_name name ≡ true → byte_len name ≤ 64
name_bytes name good =
    let outer = and_parts (first small_letter name && list_all name_char name) (nat_le (length name) 64) good in
    omega (arith, chars_bytes name (and_parts (first small_letter name) (list_all name_char name) outer.0).1, at_most (length name) outer.1)

-- so are the digits of a count
pub decimal_is_text : (n : ℕ) → n ≤ count_limit → IsText (decimal n)
decimal_is_text n small = digits_are_text (decimal n) (decimal_is_IsNumeral n (omega arith)).0.1

decimal_bytes : (n : ℕ) → n ≤ count_limit → byte_len (scalar_lines 2 (decimal n)) ≤ 23
decimal_bytes n small =
    let digits = length-decimal-le 20 n (omega arith) (omega arith) (omega arith) in
    omega (arith, count_bytes (decimal n) (decimal_is_IsNumeral n (omega arith)).0.1, digits)

-- ---- a number is given by its decimal text

-- a test of an order
pub le-true : (a b : ℕ) → a ≤ b → nat_le a b ≡ true
le-true a b h = grind (arith, nat_tests)

-- the digits of a count give that count
pub number_from_digits-decimal : (n : ℕ) → n ≤ count_limit → number_from_digits (decimal n) ≡ Some n
number_from_digits-decimal n small = by (digits_value 10 (decimal n)) (decimal_is_IsNumeral n (omega arith)).1
  where
    by : (v : ℕ) → v ≡ n → (if nat_le v count_limit && same_text (decimal n) (decimal v) then Some v else None) ≡ Some n
    by v is = rw (is, le-true n count_limit small, same_text-self (decimal n)) refl

-- ---- records

-- the members of an edit are read as that edit
edit_tells : (edit : Edit) → IsSmallEdit edit → edit_from (edit_members edit) ≡ Some edit
edit_tells (import_as name tree) ok = rw (ok.0) refl
edit_tells (set_at name path value) ok = rw (ok.0, ok.1.parsed) refl
edit_tells (delete_at name path) ok = rw (ok.0, ok.1.parsed) refl

-- so are the elements of a batch
edits_tell : (edits : List Edit) → AreSmallEdits edits → edits_of (edit_elements edits) ≡ Some edits
edits_tell [] ok = refl
edits_tell (edit ∷ edits) ok =
    ap (λ first. ahead first (edits_of (edit_elements edits))) (edit_tells edit ok.0) ∙ ap (ahead (Some edit)) (edits_tell edits ok.1)

plain_tells : (command : Command) → IsPlain command → IsSmallCommand command → plain_from (command_members command) ≡ Some command
plain_tells (single (import_as name tree)) plain ok = ap (option_map single) (edit_tells (import_as name tree) ok)
plain_tells (single (set_at name path value)) plain ok = ap (option_map single) (edit_tells (set_at name path value) ok)
plain_tells (single (delete_at name path)) plain ok = ap (option_map single) (edit_tells (delete_at name path) ok)
plain_tells (batch edits) plain ok = ap (option_map batch) (edits_tell edits ok)
plain_tells (noted command about) plain ok = absurd plain

-- the members of a command without an about end with none
record EndsPlain (command : Command) : Type 0 where
  none : about_in (command_members command) ≡ None
  whole : without_about (command_members command) ≡ command_members command

ends_plain : (command : Command) → IsPlain command → EndsPlain command
ends_plain (single (import_as name tree)) plain = record { none = refl; whole = refl }
ends_plain (single (set_at name path value)) plain = record { none = refl; whole = refl }
ends_plain (single (delete_at name path)) plain = record { none = refl; whole = refl }
ends_plain (batch edits) plain = record { none = refl; whole = refl }
ends_plain (noted command about) plain = absurd plain

-- the members of a command are read as that command
told_plain : (command : Command) → IsPlain command → IsSmallCommand command → command_from (command_members command) ≡ Some command
told_plain command plain ok =
    let ends = ends_plain command plain in
    ap₂ (λ about ms. with_about about (plain_from ms)) ends.none ends.whole ∙ plain_tells command plain ok

told_noted : (command : Command) (about : Tree) → IsPlain command → IsAbout about → IsSmallCommand command
    → command_from (command_members (noted command about)) ≡ Some (noted command about)
told_noted command about plain is ok =
    let ms = command_members command in
    let last = about-last ms (codes "about") about true (is-about about is) in
    let before = without-last ms (codes "about") about true (is-about about is) in
    ap₂ (λ found left. with_about found (plain_from left)) last before
    ∙ ap (option_map (λ c. noted c about)) (plain_tells command plain ok)

command_tells : (command : Command) → IsCommand command → IsSmallCommand command → command_from (command_members command) ≡ Some command
command_tells (single edit) is ok = told_plain (single edit) tt ok
command_tells (batch edits) is ok = told_plain (batch edits) tt ok
command_tells (noted command about) is ok = told_noted command about is.0 is.2 ok

-- the tree of an accepted command's record is read as that command and number
pub record_tells : (command : Command) (number : ℕ) → IsCommand command → IsSmallCommand command → number ≤ count_limit
    → record_of (record_tree command number) ≡ Some (command, number)
unfolding record_of
record_tells command number is ok small =
    ap (λ read. with_number read (decimal number)) (command_tells command is ok)
    ∙ ap (option_map (λ n. (command, n))) (number_from_digits-decimal number small)

-- the same parts, grouped otherwise
pub framed_document : (t : Tree) → framed_text t ≡ closed_document t
framed_document t = sym (append_assoc (codes "---\n") (style_text t) (codes "...\n"))

-- a tree within a Config's limits whose framed text is, too
pub record FramedGood (t : Tree) : Type 0 where
  pub good : Good t own_limits
  pub short : byte_len (framed_text t) ≤ own_limits.bytes

framed_bytes : (t : Tree) → byte_len (framed_text t) ≡ 8 + size t
framed_bytes t =
    omega (arith, byte_len-append (codes "---\n") (style_text t ++ codes "...\n"), byte_len-append (style_text t) (codes "...\n"))

-- the bytes of a mapping at the top, member by member
members_bytes : (key : List ℕ) (t : Tree) (ms : Members)
    → byte_len (members_after (member key t ms) 0) ≡ byte_len (key_lines 0 key) + byte_len (value_at t 0) + byte_len (members_after ms 0)
members_bytes key t ms = three (key_lines 0 key) (value_at t 0) (members_after ms 0)

edit_bytes : (edit : Edit) → IsSmallEdit edit → byte_len (members_after (edit_members edit) 0) ≤ 67000000
edit_bytes (import_as name tree) ok =
    let first = members_bytes (codes "import") (text name) (member (codes "tree") tree no_member) in
    let last = members_bytes (codes "tree") tree no_member in
    omega (arith, ok.1.bytes, (value_size tree).most, name_bytes name ok.0, scalar_most name, first, last)
edit_bytes (set_at name path value) ok =
    let value_member : Members = member (codes "value") value no_member in
    let first = members_bytes (codes "set") (text name) (member (codes "path") (text path) value_member) in
    let second = members_bytes (codes "path") (text path) value_member in
    let last = members_bytes (codes "value") value no_member in
    let texts = scalar_most path in
    omega (arith, ok.1.bytes, ok.2.bytes, (value_size value).most, name_bytes name ok.0, scalar_most name, texts, first, second, last)
edit_bytes (delete_at name path) ok =
    let first = members_bytes (codes "delete") (text name) (member (codes "path") (text path) no_member) in
    let last = members_bytes (codes "path") (text path) no_member in
    omega (arith, ok.1.bytes, name_bytes name ok.0, scalar_most name, scalar_most path, first, last)

-- the record of a single edit is short, and that of a batch is by its premise
record_bytes : (command : Command) (number : ℕ) → IsSmallCommand command → number ≤ count_limit → FitsRecord command number
    → byte_len (framed_text (record_tree command number)) ≤ own_limits.bytes
unfolding record_text
record_bytes (single edit) number ok small fits =
    let first = members_bytes (codes "at") (text (decimal number)) (edit_members edit) in
    omega (arith, edit_bytes edit ok, decimal_bytes number small, first, framed_bytes (record_tree (single edit) number))
record_bytes (batch edits) number ok small fits =
    let same = ap byte_len (framed_document (record_tree (batch edits) number)) in
    omega (arith, same, fits)
record_bytes (noted command about) number ok small fits =
    let same = ap byte_len (framed_document (record_tree (noted command about) number)) in
    omega (arith, same, fits)

edit_texts : (edit : Edit) → IsEdit edit → IsSmallEdit edit → AreTextMembers (edit_members edit)
edit_texts (import_as name tree) is ok = (refl, name_is_text name ok.0, (refl, is.texts, tt))
edit_texts (set_at name path value) is ok = (refl, name_is_text name ok.0, (refl, is.0, (refl, is.1.texts, tt)))
edit_texts (delete_at name path) is ok = (refl, name_is_text name ok.0, (refl, is, tt))

edits_texts : (edits : List Edit) → AreEdits edits → AreSmallEdits edits → AreTextElements (edit_elements edits)
edits_texts [] are ok = tt
edits_texts (edit ∷ edits) are ok = (edit_texts edit are.0 ok.0, edits_texts edits are.1 ok.1)

-- an about keeps narrow limits
about_fits : (about : Tree) → IsAbout about → Good about (record { bytes = 4096; depth = 2; style = 4096 })
about_fits about is = about-good about (record { bytes = 4096; depth = 2; style = 4096 }) is
    (record { bytes = omega arith; depth = omega arith; style = omega arith })

command_texts : (command : Command) → IsCommand command → IsSmallCommand command → AreTextMembers (command_members command)
command_texts (single edit) is ok = edit_texts edit is ok
command_texts (batch edits) is ok = (refl, edits_texts edits is ok, tt)
command_texts (noted command about) is ok =
    texts-last (command_members command) (codes "about") about refl (refl, (about_fits about is.2).texts, tt)
    (command_texts command is.1 ok)

edit_depth : (edit : Edit) → IsSmallEdit edit → members_depth (edit_members edit) ≤ config_limits.depth
edit_depth (import_as name tree) ok = let deep = ok.1.deep in omega arith
edit_depth (set_at name path value) ok = let deep = ok.2.deep in omega arith
edit_depth (delete_at name path) ok = omega arith

edits_depth : (edits : List Edit) → AreSmallEdits edits → elements_depth (edit_elements edits) ≤ 1 + config_limits.depth
edits_depth [] ok = omega arith
edits_depth (edit ∷ edits) ok = omega (arith, edit_depth edit ok.0, edits_depth edits ok.1)

command_depth : (command : Command) → IsCommand command → IsSmallCommand command
    → members_depth (command_members command) ≤ 2 + config_limits.depth
command_depth (single edit) is ok = omega (arith, edit_depth edit ok)
command_depth (batch edits) is ok = omega (arith, edits_depth edits ok)
command_depth (noted command about) is ok =
    let flat = about_fits about is.2 in
    depth-last (command_members command) (codes "about") about (2 + config_limits.depth) (command_depth command is.1 ok)
    (omega (arith, flat.deep))

edit_distinct : (edit : Edit) → IsEdit edit → members_distinct (edit_members edit) ≡ true
edit_distinct (import_as name tree) is = let keys = is.keys in rw keys refl
edit_distinct (set_at name path value) is = let keys = is.1.keys in rw keys refl
edit_distinct (delete_at name path) is = refl

edits_distinct : (edits : List Edit) → AreEdits edits → elements_distinct (edit_elements edits) ≡ true
edits_distinct [] are = refl
edits_distinct (edit ∷ edits) are =
    and_from (members_distinct (edit_members edit)) (elements_distinct (edit_elements edits))
    (edit_distinct edit are.0) (edits_distinct edits are.1)

noted_distinct : (command : Command) (about : Tree) (number : ℕ) → IsPlain command → IsCommand command → distinct about ≡ true
    → distinct (record_tree (noted command about) number) ≡ true
noted_distinct (single (import_as name tree)) about number plain is last = let keys = is.keys in rw (keys, last) refl
noted_distinct (single (set_at name path value)) about number plain is last = let keys = is.1.keys in rw (keys, last) refl
noted_distinct (single (delete_at name path)) about number plain is last = rw last refl
noted_distinct (batch edits) about number plain is last = let keys = edits_distinct edits is in rw (keys, last) refl
noted_distinct (noted command other) about number plain is last = absurd plain

record_distinct : (command : Command) (number : ℕ) → IsCommand command → distinct (record_tree command number) ≡ true
record_distinct (single (import_as name tree)) number is = edit_distinct (import_as name tree) is
record_distinct (single (set_at name path value)) number is = edit_distinct (set_at name path value) is
record_distinct (single (delete_at name path)) number is = refl
record_distinct (batch edits) number is = and_from (elements_distinct (edit_elements edits)) true (edits_distinct edits is) refl
record_distinct (noted command about) number is = noted_distinct command about number is.0 is.1 (about_fits about is.2).keys

-- that tree keeps the limits of a text that is read
pub record_good : (command : Command) (number : ℕ) → IsCommand command → IsSmallCommand command → number ≤ count_limit
    → FitsRecord command number
    → FramedGood (record_tree command number)
record_good command number is ok small fits =
    let short = record_bytes command number ok small fits in
    let deep = command_depth command is ok in
    record {
      good = record {
        texts = (refl, decimal_is_text number small, command_texts command is ok);
        keys = record_distinct command number is;
        deep = omega arith;
        long = omega (arith, framed_bytes (record_tree command number));
      };
      short = short;
    }

-- ---- bases

entries_members : (es : List Entry) → entries (members es) ≡ es
entries_members [] = refl
entries_members (e ∷ es) = ap (λ rest. e ∷ rest) (entries_members es)

-- the tree of a state's base is read as that state
pub base_tells : (s : Contents) → s.count ≤ count_limit → base_of (base_tree s) ≡ Some s
unfolding base_of
base_tells s small = rw (number_from_digits-decimal s.count small, entries_members s.configs) refl

-- the same in the third format
pub third_tells : (s : Contents) → s.count ≤ count_limit → base_of (third_tree s) ≡ Some s
unfolding base_of
third_tells s small = rw (number_from_digits-decimal s.count small, entries_members s.configs) refl

config_texts : (es : List Entry) → AreConfigs es → AreTextMembers (members es)
config_texts [] all = tt
config_texts (e ∷ es) all = (name_is_text e.0 all.0, all.1.texts, config_texts es all.2)

config_depth : (es : List Entry) → AreConfigs es → members_depth (members es) ≤ config_limits.depth
config_depth [] all = omega arith
config_depth (e ∷ es) all = let deep = all.1.deep in let rest = config_depth es all.2 in omega arith

same_names : (name : List ℕ) (es : List Entry) → has_key name (members es) ≡ has_name name (names_of es)
same_names name [] = refl
same_names name (e ∷ es) = ap (λ b. same_text name e.0 || b) (same_names name es)

config_distinct : (es : List Entry) → AreConfigs es → names_differ (names_of es) ≡ true → members_distinct (members es) ≡ true
config_distinct [] all differ = refl
config_distinct (e ∷ es) all differ =
    let parts = and_parts (not (has_name e.0 (names_of es))) (names_differ (names_of es)) differ in
    let absent : not (has_key e.0 (members es)) ≡ true = ap not (same_names e.0 es) ∙ parts.0 in
    and_from (not (has_key e.0 (members es)) && distinct e.1) (members_distinct (members es))
    (and_from (not (has_key e.0 (members es))) (distinct e.1) absent all.1.keys) (config_distinct es all.2 parts.1)

base_distinct : (s : Contents) → IsState s → distinct (base_tree s) ≡ true
base_distinct s kept = let keys = config_distinct s.configs kept.configs kept.distinct in rw keys refl

third_distinct : (s : Contents) → IsState s → distinct (third_tree s) ≡ true
third_distinct s kept = let keys = config_distinct s.configs kept.configs kept.distinct in rw keys refl

base_bytes : (s : Contents) → IsState s → byte_len (framed_text (base_tree s)) ≤ base_limit
unfolding base_length base_text
base_bytes s kept =
    let short = kept.short in
    let same = ap byte_len (framed_document (base_tree s)) in
    omega arith

-- that tree keeps the limits of a text that is read
pub base_good : (s : Contents) → IsState s → FramedGood (base_tree s)
base_good s kept =
    let bytes = base_bytes s kept in
    let deep = config_depth s.configs kept.configs in
    record {
      good = record {
        texts = (refl, refl, (refl, decimal_is_text s.count kept.numbered, (refl, config_texts s.configs kept.configs, tt)));
        keys = base_distinct s kept;
        deep = omega arith;
        long = omega (arith, framed_bytes (base_tree s));
      };
      short = bytes;
    }

-- the two trees take as many bytes
third_bytes : (s : Contents) → byte_len (framed_text (third_tree s)) ≡ byte_len (framed_text (base_tree s))
third_bytes s =
    let tail = line (codes "at") (text (decimal s.count)) ++ (codes "configs:" ++ value_at (mapping (members s.configs)) 0 ++ []) in
    ap byte_len (framed_document (third_tree s)) ∙ same tail ∙ sym (ap byte_len (framed_document (base_tree s)))
  where
    same : (tail : List ℕ) → byte_len (codes "---\n" ++ (codes "store: confstore-3\n" ++ tail) ++ codes "...\n")
        ≡ byte_len (codes "---\n" ++ (codes "store: confstore-2\n" ++ tail) ++ codes "...\n")
    same tail =
        byte_len-append (codes "---\nstore: confstore-3\n") (tail ++ codes "...\n")
        ∙ sym (byte_len-append (codes "---\nstore: confstore-2\n") (tail ++ codes "...\n"))

-- the tree of a base in the third format keeps the limits, too
pub third_good : (s : Contents) → IsState s → FramedGood (third_tree s)
third_good s kept =
    let bytes = base_bytes s kept in
    let same = third_bytes s in
    let deep = config_depth s.configs kept.configs in
    record {
      good = record {
        texts = (refl, refl, (refl, decimal_is_text s.count kept.numbered, (refl, config_texts s.configs kept.configs, tt)));
        keys = third_distinct s kept;
        deep = omega arith;
        long = omega (arith, framed_bytes (third_tree s));
      };
      short = omega arith;
    }
