-- Keys are read back from their lines.
use Rattle.std.proofs.{Common.{◌≡◌, refl, sym, ◌∙◌, ap, subst, arith, ◌<◌, ◌≤◌, append_assoc}, lemmas.List.Elements.{All-head, All-tail}}
use Rattle.std.specs.Prelude.{ℕ, ◌+◌, Bool, true, false, not, nat_lt, ◌==◌, List, [], ◌∷◌, ◌++◌, if◌then◌else◌, codes, All}
use Rattle.yaml_forms.proofs.Prelude.{and_parts, and_from, cond_both, not-true, not_from_false, ne_eqb, list_all, first, IsText, shown, hex}
use Rattle.yaml_forms.proofs.Prelude.{shown_low, every_joined, quoted_chars, in_double_quotes, Writes, quoted_chars_all, Unambiguous}
use Rattle.yaml_forms.proofs.Prelude.{Members, no_member, member, AreTextMembers, scalar_of, document_from, document_to, shapes}
use Rattle.yaml_forms.{proofs.QuotedRead.quoted_presented, specs.{KeyLines.{stands_in_line, key_in_line, member_lines}, KeyLaws.onto_first}}
use Rattle.yaml_forms.specs.KeyLaws.{lines_of, as_lines, IsOneLine, HasKeyBy, HasKey, HaveKeysOf, KeysAreReadBack}
use Rattle.yaml_grammar.specs.Reads.{CanRead}

-- ---- lines

-- a line without a line feed comes first
line_cut : (line rest : List ℕ) → IsOneLine line → lines_of (line ++ (10 ∷ rest)) ≡ line ∷ lines_of rest
line_cut [] rest is = refl
line_cut (c ∷ cs) rest is =
    let p : (not (c == 10) ≡ true) × IsOneLine cs = and_parts _ _ is in
    by (c == 10) (lines_of (cs ++ (10 ∷ rest))) (not-true (c == 10) p.0) (line_cut cs rest p.1)
  where
    by : (b : Bool) (later : List (List ℕ)) → b ≡ false → later ≡ cs ∷ lines_of rest
        → (if b then [] ∷ later else onto_first c later) ≡ (c ∷ cs) ∷ lines_of rest
    by false later other same = ap (onto_first c) same
    by true later other same = cc

line_first : (line rest : List ℕ) → IsOneLine line → lines_of (line ++ codes "\n" ++ rest) ≡ line ∷ lines_of rest
line_first line rest is = ap lines_of (append_assoc line (codes "\n") rest) ∙ line_cut line rest is

lines_back : (lines : List (List ℕ)) → All IsOneLine lines → lines_of (as_lines lines) ≡ lines
lines_back [] all = refl
lines_back (line ∷ lines) all =
    line_first line (as_lines lines) (All-head IsOneLine line lines all)
    ∙ ap (λ ls. line ∷ ls) (lines_back lines (All-tail IsOneLine line lines all))

-- ---- keys are on one line

far : (c : ℕ) → 10 < c → not (c == 10) ≡ true
far c h = not_from_false _ (ne_eqb c 10 (λ q. omega (arith, h, q)))

shown_line : (cs : List ℕ) → list_all shown cs ≡ true → IsOneLine cs
shown_line [] all = refl
shown_line (c ∷ cs) all =
    let p : (shown c ≡ true) × (list_all shown cs ≡ true) = and_parts _ _ all in
    let low : 0x20 ≤ c = shown_low c p.0 in
    and_from _ _ (far c (omega (arith, low))) (shown_line cs p.1)

hex_far : (d : ℕ) → not (hex d == 10) ≡ true
hex_far d =
    cond_both (nat_lt d 10) (48 + d) (55 + d) (λ x. not (x == 10) ≡ true)
    (λ e. far (48 + d) (omega arith)) (λ e. far (55 + d) (omega arith))

-- a test that passes everything passes each list
any : (cs : List ℕ) → list_all (λ c. true) cs ≡ true
any [] = refl
any (c ∷ cs) = any cs

quoted_line : (value : List ℕ) → IsOneLine (in_double_quotes value)
quoted_line value =
    every_joined (λ c. not (c == 10)) (quoted_chars value) (34 ∷ [])
    (quoted_chars_all (λ c. not (c == 10)) (λ c. true) value (λ c h. writes c) (any value)) refl
  where
    writes : (c : ℕ) → Writes (λ x. not (x == 10)) c
    writes c = record {
      signs = refl;
      letters = refl;
      shown = λ s. (let low : 0x20 ≤ c = shown_low c s in far c (omega (arith, low)));
      digits = λ d l. hex_far d;
    }

key_line : (key : List ℕ) → IsOneLine (key_in_line key)
key_line key =
    cond_both (stands_in_line key) key (in_double_quotes key) IsOneLine
    (λ e. shown_line key (and_parts _ _ e).1) (λ e. quoted_line key)

-- ---- and their lines have them

bare_key : (key : List ℕ) → first (λ c. not (c == 34)) key ≡ true → HasKey key key
bare_key [] e = refl
bare_key (c ∷ cs) e = subst (λ b. HasKeyBy b (c ∷ cs) (c ∷ cs)) (sym (not-true (c == 34) e)) refl

has_key : (key : List ℕ) → IsText key → HasKey (key_in_line key) key
has_key key is =
    cond_both (stands_in_line key) key (in_double_quotes key) (λ line. HasKey line key)
    (λ e. bare_key key (and_parts _ _ e).0) (λ e. quoted_presented key is)

keys_written : (ms : Members) → AreTextMembers ms → HaveKeysOf (lines_of (member_lines ms)) ms
keys_written no_member is = tt
keys_written (member key t ms) is =
    subst (λ lines. HaveKeysOf lines (member key t ms)) (sym (line_first (key_in_line key) (member_lines ms) (key_line key)))
    (has_key key is.0, keys_written ms is.2)

-- ---- once

-- events of two texts are of one
scalar_once : (one other : List ℕ)
    → (document_from ∷ scalar_of one ∷ document_to ∷ []) ≡ (document_from ∷ scalar_of other ∷ document_to ∷ []) → one ≡ other
scalar_once one other same = cc

key_once : Unambiguous → (line key other : List ℕ) → HasKey line key → HasKey line other → key ≡ other
key_once unambiguous line key other = by (first (λ c. c == 34) line)
  where
    by : (b : Bool) → HasKeyBy b line key → HasKeyBy b line other → key ≡ other
    by false one two = sym one ∙ two
    by true one two =
        let here : CanRead line one.events = one.reads in
        let there : CanRead line two.events = two.reads in
        let same : one.events ≡ two.events = sym here.means
        ∙ unambiguous line here.presentation there.presentation here.presents there.presents ∙ there.means in
        scalar_once key other (sym one.tree ∙ ap shapes same ∙ two.tree)

-- ---- together

-- so if no text has two meanings, keys are read back
pub keys_read_back : Unambiguous → KeysAreReadBack
keys_read_back unambiguous = record { written = keys_written; once = key_once unambiguous; plain = lines_back }
