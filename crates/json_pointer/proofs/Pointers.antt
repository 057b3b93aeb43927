-- Pointers: a path's text reads back as the path, and where a text goes wrong no path has it.
use Rattle.std.proofs.Common.{◌≡◌, ◌==◌, ℕ, ◌+◌, ◌<◌, Bool, true, false, cond, not, ◌||◌, List, [], ◌∷◌, ◌++◌, length, length-append, map}
use Rattle.std.proofs.Common.{drop, slice_range, Global, Option, Some, None, option_map, Ok, Err, refl, sym, ap, ap₂, subst, ◌∙◌}
use Rattle.std.proofs.{Common.{append_assoc, arith}, lemmas.{Bool.{eqb-true, and_parts}, List.Sums.list_all-from_AllPass}}
use Rattle.std.specs.List.{list_all}
use Rattle.json_pointer.proofs.Prelude.{cow_str_bytes, CowStr, len_utf8, chars, IsUtf8, nat_tests, length-encode, encodes-chars}
use Rattle.json_pointer.proofs.Prelude.{encodes-append, chars-append, chars-nil, chars_past_char, IsUtf8-encode, IsUtf8-past_char}
use Rattle.json_pointer.proofs.Prelude.{IsUtf8-drop, IsCharBoundary-start, IsScalar, MatchOption, byte_len, IsBlind}
use lib.Utf8.{encodes, encode}
use Rattle.{yaml_chars.{specs.Places.{IsRun, between}, proofs.Places.rest-between}, json_pointer.specs.declared.fault.PathFault.PathFault}
use Rattle.json_pointer.specs.{declared.fault.PathFault.TheVariants.BadPath, Tokens.{texts, escaped_by}, Pointers.{unescaped, char_text}}
use Rattle.json_pointer.specs.Pointers.{token_text, pointer_text, stray, first_stray, bad_place, first_piece, pieces, token_from_text}
use Rattle.json_pointer.specs.Pointers.{path_of, tokens_or_place}

-- ---- a character's spelling: two characters, or itself

-- how a character of a token is written
pub data Spelling (c : ℕ) : Type 0 where
  as_tilde : char_text c ≡ 126 ∷ 48 ∷ [] → c ≡ 126 → Spelling c
  as_slash : char_text c ≡ 126 ∷ 49 ∷ [] → c ≡ 47 → Spelling c
  as_itself : char_text c ≡ c ∷ [] → (c == 126) ≡ false → (c == 47) ≡ false → Spelling c

-- each character is written so
pub spelling : (c : ℕ) → Spelling c
spelling c =
    let P : Bool → Type 0 = λ b. (c == 126) ≡ b → Spelling c in
    let Q : Bool → Type 0 = λ b. (c == 47) ≡ b → (c == 126) ≡ false → Spelling c in
    (elim (c == 126) as P [
      | true ↦ λ e. as_tilde (rw e) (eqb-true c 126 e)
      | false ↦ λ e. (elim (c == 47) as Q [
        | true ↦ λ s e. as_slash (rw (e, s)) (eqb-true c 47 s)
        | false ↦ λ s e. as_itself (rw (e, s)) e s
      ]) refl e
    ]) refl

-- ---- the pieces of a path's text are its tokens, escaped

token_from_text-escaped : (token : List ℕ) → token_from_text (token_text token) ≡ token
token_from_text-escaped [] = refl
token_from_text-escaped (c ∷ cs) = elim (spelling c) [
  | as_tilde is same ↦ rw is (ap₂ ◌∷◌ (sym same) (token_from_text-escaped cs))
  | as_slash is same ↦ rw is (ap₂ ◌∷◌ (sym same) (token_from_text-escaped cs))
  | as_itself is other no_slash ↦ rw (is, other) (ap (λ ds. c ∷ ds) (token_from_text-escaped cs))
]

pieces-token_text : (token more : List ℕ) → pieces (token_text token ++ more) ≡ pieces more
pieces-token_text [] more = refl
pieces-token_text (c ∷ cs) more = elim (spelling c) [
  | as_tilde is same ↦ rw is (pieces-token_text cs more)
  | as_slash is same ↦ rw is (pieces-token_text cs more)
  | as_itself is other no_slash ↦ rw (is, no_slash) (pieces-token_text cs more)
]

first_piece-token_text : (token more : List ℕ) → first_piece more ≡ [] → first_piece (token_text token ++ more) ≡ token_text token
first_piece-token_text [] more ends = ends
first_piece-token_text (c ∷ cs) more ends = elim (spelling c) [
  | as_tilde is same ↦ rw is (ap (λ ds. 126 ∷ 48 ∷ ds) (first_piece-token_text cs more ends))
  | as_slash is same ↦ rw is (ap (λ ds. 126 ∷ 49 ∷ ds) (first_piece-token_text cs more ends))
  | as_itself is other no_slash ↦ rw (is, no_slash) (ap (λ ds. c ∷ ds) (first_piece-token_text cs more ends))
]

first_piece-pointer : (tokens : List (List ℕ)) → first_piece (pointer_text tokens) ≡ []
first_piece-pointer [] = refl
first_piece-pointer (token ∷ tokens) = refl

token_from_text-pieces : (tokens : List (List ℕ)) → map token_from_text (pieces (pointer_text tokens)) ≡ tokens
token_from_text-pieces [] = refl
token_from_text-pieces (token ∷ tokens) =
    ap₂ ◌∷◌ (ap token_from_text (first_piece-token_text token (pointer_text tokens) (first_piece-pointer tokens))
    ∙ token_from_text-escaped token)
    (ap (map token_from_text) (pieces-token_text token (pointer_text tokens)) ∙ token_from_text-pieces tokens)

-- ---- no `~` of a path's text is stray

option_map-zero : (o : Option ℕ) → o ≡ option_map (λ n. 0 + n) o
option_map-zero None = refl
option_map-zero (Some n) = ap Some (omega arith)

option_map-sum : (a b : ℕ) (o : Option ℕ) → option_map (λ n. a + n) (option_map (λ n. b + n) o) ≡ option_map (λ n. a + b + n) o
option_map-sum a b None = refl
option_map-sum a b (Some n) = ap Some (omega arith)

option_map-two : (b : ℕ) (o : Option ℕ) → option_map (λ n. 1 + n)
    (option_map (λ n. 1 + n) (option_map (λ n. b + n) o)) ≡ option_map (λ n. 1 + (1 + b) + n) o
option_map-two b None = refl
option_map-two b (Some n) = ap Some (omega arith)

first_stray-token_text : (token more : List ℕ)
    → first_stray (token_text token ++ more) ≡ option_map (λ n. byte_len (token_text token) + n) (first_stray more)
first_stray-token_text [] more = option_map-zero (first_stray more)
first_stray-token_text (c ∷ cs) more = elim (spelling c) [
  | as_tilde is same ↦ rw is (ap (λ o. option_map (λ n. 1 + n) (option_map (λ n. 1 + n) o))
      (first_stray-token_text cs more) ∙ option_map-two (byte_len (token_text cs)) (first_stray more))
  | as_slash is same ↦ rw is (ap (λ o. option_map (λ n. 1 + n) (option_map (λ n. 1 + n) o))
      (first_stray-token_text cs more) ∙ option_map-two (byte_len (token_text cs)) (first_stray more))
  | as_itself is other no_slash ↦ rw (is, other)
      (ap (option_map (λ n. len_utf8 c + n)) (first_stray-token_text cs more)
      ∙ option_map-sum (len_utf8 c) (byte_len (token_text cs)) (first_stray more))
]

byte_len-append : (xs ys : List ℕ) → byte_len (xs ++ ys) ≡ byte_len xs + byte_len ys
byte_len-append [] ys = omega arith
byte_len-append (x ∷ xs) ys = let e = byte_len-append xs ys in omega (arith, e)

first_stray-pointer : (tokens : List (List ℕ)) (more : List ℕ)
    → first_stray (pointer_text tokens ++ more) ≡ option_map (λ n. byte_len (pointer_text tokens) + n) (first_stray more)
first_stray-pointer [] more = option_map-zero (first_stray more)
first_stray-pointer (token ∷ tokens) more =
    ap (λ s. option_map (λ n. 1 + n) (first_stray s)) (append_assoc (token_text token) (pointer_text tokens) more)
    ∙ ap (option_map (λ n. 1 + n))
    (first_stray-token_text token (pointer_text tokens ++ more)
    ∙ ap (option_map (λ n. byte_len (token_text token) + n)) (first_stray-pointer tokens more)
    ∙ option_map-sum (byte_len (token_text token)) (byte_len (pointer_text tokens)) (first_stray more))
    ∙ option_map-sum 1 (byte_len (token_text token) + byte_len (pointer_text tokens)) (first_stray more)
    ∙ ap (λ m. option_map (λ n. 1 + m + n) (first_stray more)) (sym (byte_len-append (token_text token) (pointer_text tokens)))

first_stray-none : (tokens : List (List ℕ)) → first_stray (pointer_text tokens) ≡ None
first_stray-none [] = refl
first_stray-none (token ∷ tokens) =
    ap (option_map (λ n. 1 + n))
    (first_stray-token_text token (pointer_text tokens) ∙ ap (option_map (λ n. byte_len (token_text token) + n)) (first_stray-none tokens))

-- ---- what a text is read as

bad_place-pointer : (tokens : List (List ℕ)) → bad_place (pointer_text tokens) ≡ None
bad_place-pointer [] = refl
bad_place-pointer (token ∷ tokens) = first_stray-none (token ∷ tokens)

-- the text of a path reads as the path
pub path_of-pointer_text : (tokens : List (List ℕ)) → path_of (pointer_text tokens) ≡ Ok tokens
path_of-pointer_text tokens =
    ap (λ o. tokens_or_place o (pointer_text tokens)) (bad_place-pointer tokens) ∙ ap Ok (token_from_text-pieces tokens)

-- a stray `~` comes after the text of a path that isn't empty
pub path_of-stray : (text after : List ℕ) (tokens : List (List ℕ)) (at : ℕ) → text ≡ pointer_text tokens ++ after → 0 < length tokens
    → stray after ≡ true → at ≡ byte_len (pointer_text tokens) → path_of text ≡ Err (BadPath at)
path_of-stray text after [] at split some is place = absurd (omega arith)
path_of-stray text [] (token ∷ tokens) at split some is place = cc
path_of-stray text (c ∷ cs) (token ∷ tokens) at split some is place =
    let found : first_stray (c ∷ cs) ≡ Some 0 = rw is in
    let here : bad_place text ≡ Some at =
    ap bad_place split ∙ first_stray-pointer (token ∷ tokens) (c ∷ cs)
    ∙ ap (option_map (λ n. byte_len (pointer_text (token ∷ tokens)) + n)) found
    ∙ ap Some (omega arith) in
    ap (λ o. tokens_or_place o text) here

-- the text begins with something else than `/`
pub path_of-prefix : (text cs : List ℕ) (c : ℕ) → text ≡ c ∷ cs → (c == 47) ≡ false → path_of text ≡ Err (BadPath 0)
path_of-prefix text cs c split other =
    let here : bad_place (c ∷ cs) ≡ Some 0 = rw other in
    ap path_of split ∙ ap (λ o. tokens_or_place o (c ∷ cs)) here

-- a text that is read as no path is no path's
pub no_path : (text : List ℕ) (fault : PathFault) (tokens : List (List ℕ)) → path_of text ≡ Err fault → text ≡ pointer_text tokens → ⊥
no_path text fault tokens refused is =
    let read : path_of text ≡ Ok tokens = ap path_of is ∙ path_of-pointer_text tokens in cc

-- ---- what the code reads and builds

append-none : (xs : List ℕ) → xs ++ [] ≡ xs
append-none [] = refl
append-none (x ∷ xs) = ap (λ ys. x ∷ ys) (append-none xs)

byte_len-encodes : (cs : List ℕ) → byte_len cs ≡ length (encodes cs)
byte_len-encodes [] = refl
byte_len-encodes (c ∷ cs) =
    let e = byte_len-encodes cs in omega (arith, e, length-encode c, length-append (encode c) (encodes cs))

-- how many bytes a text has, after a path's text
pub length-read : (text rest read : List ℕ) → IsUtf8 text → IsUtf8 rest → chars text ≡ read ++ chars rest
    → length text ≡ byte_len read + length rest
length-read text rest read utf8 rest_utf8 split =
    let e : text ≡ encodes read ++ rest =
    sym (encodes-chars text utf8) ∙ ap encodes split ∙ encodes-append read (chars rest)
    ∙ ap (λ bs. encodes read ++ bs) (encodes-chars rest rest_utf8) in
    omega (arith, ap length e, length-append (encodes read) rest, byte_len-encodes read)

chars-push : (bs ds : List ℕ) (c : ℕ) → IsUtf8 bs → IsScalar c → ds ≡ bs ++ encode c → chars ds ≡ chars bs ++ c ∷ []
chars-push bs ds c utf8 scalar is =
    ap chars is ∙ chars-append bs (encode c) utf8
    ∙ ap (λ cs. chars bs ++ cs) (chars_past_char (encode c) [] c (IsUtf8-encode c scalar)
    (sym (append-none (encode c))) ∙ ap (λ cs. c ∷ cs) chars-nil)

token_text-append : (cs ds : List ℕ) → token_text (cs ++ ds) ≡ token_text cs ++ token_text ds
token_text-append [] ds = refl
token_text-append (c ∷ cs) ds = ap (λ es. char_text c ++ es) (token_text-append cs ds)
    ∙ sym (append_assoc (char_text c) (token_text cs) (token_text ds))

-- ---- runs of characters that are written as themselves

-- the test for unescaped characters answers alike from 128 on
pub blind-unescaped : IsBlind unescaped
blind-unescaped c h l = grind (arith, nat_tests)

token_text-unescaped : (cs : List ℕ) → list_all unescaped cs ≡ true → token_text cs ≡ cs
token_text-unescaped [] all = refl
token_text-unescaped (c ∷ cs) all =
    let both = and_parts (unescaped c) (list_all unescaped cs) all in
    let no_slash : (c == 47) ≡ false = grind (arith, nat_tests, both.0) in
    let no_tilde : (c == 126) ≡ false = grind (arith, nat_tests, both.0) in
    let itself : char_text c ≡ c ∷ [] = rw (no_tilde, no_slash) refl in
    ap (λ ds. ds ++ token_text cs) itself ∙ ap (λ ds. c ∷ ds) (token_text-unescaped cs both.1)

-- the run from the start of a text is a token as it is written
run-token : (text : List ℕ) (end : ℕ) → IsRun unescaped text 0 end → token_text (between text 0 end) ≡ between text 0 end
run-token text end run = token_text-unescaped (between text 0 end) (list_all-from_AllPass unescaped (between text 0 end) run.passes)

-- one more token
pointer_text-push : (xs : List (CowStr Global)) (s : CowStr Global)
    → pointer_text (texts (xs ++ s ∷ [])) ≡ pointer_text (texts xs) ++ 47 ∷ token_text (chars (cow_str_bytes s))
pointer_text-push [] s = ap (λ cs. 47 ∷ cs) (append-none (token_text (chars (cow_str_bytes s))))
pointer_text-push (x ∷ xs) s =
    ap (λ t. 47 ∷ (token_text (chars (cow_str_bytes x)) ++ t)) (pointer_text-push xs s)
    ∙ ap (λ t. 47 ∷ t) (sym (append_assoc (token_text (chars (cow_str_bytes x))) (pointer_text (texts xs))
    (47 ∷ token_text (chars (cow_str_bytes s)))))

-- the last token, with one more character
pub pointer_text-lengthened : (before : List (CowStr Global)) (s longer : CowStr Global) (c : ℕ) → IsUtf8 (cow_str_bytes s) → IsScalar c
    → cow_str_bytes longer ≡ cow_str_bytes s ++ encode c
    → pointer_text (texts (before ++ longer ∷ [])) ≡ pointer_text (texts (before ++ s ∷ [])) ++ char_text c
pointer_text-lengthened before s longer c utf8 scalar pushed =
    let head = pointer_text (texts before) in
    let token = token_text (chars (cow_str_bytes s)) in
    let more = chars-push (cow_str_bytes s) (cow_str_bytes longer) c utf8 scalar pushed in
    let last : token_text (chars (cow_str_bytes longer)) ≡ token ++ char_text c =
    ap token_text more ∙ token_text-append (chars (cow_str_bytes s)) (c ∷ []) ∙ ap (λ es. token ++ es) (append-none (char_text c)) in
    pointer_text-push before longer ∙ ap (λ es. head ++ 47 ∷ es) last ∙ sym (append_assoc head (47 ∷ token) (char_text c))
    ∙ ap (λ t. t ++ char_text c) (sym (pointer_text-push before s))

-- the next character of what is left
pub next_read : (text old new read : List ℕ) (c : ℕ) → IsUtf8 old → old ≡ encode c ++ new → chars text ≡ read ++ chars old
    → (chars text ≡ read ++ c ∷ chars new) × IsUtf8 new
next_read text old new read c utf8 is split =
    (split ∙ ap (λ cs. read ++ cs) (chars_past_char old new c utf8 is), IsUtf8-past_char old new c utf8 is)

-- one part more is read
pub read_more : (text read cs ds : List ℕ) → text ≡ read ++ (cs ++ ds) → text ≡ (read ++ cs) ++ ds
read_more text read cs ds is = is ∙ sym (append_assoc read cs ds)

-- what `~` and the digit after it spell
pub escaped_by-char_text : (digit : Option ℕ) (c : ℕ) → escaped_by digit ≡ Some c
    → (d : ℕ) × (digit ≡ Some d) × (char_text c ≡ 126 ∷ d ∷ [])
escaped_by-char_text None c is = cc
escaped_by-char_text (Some d) c is =
    let P : Bool → Type 0 = λ b. (d == 48) ≡ b → cond b (Some 126) (cond (d == 49) (Some 47) None) ≡ Some c
    → (e : ℕ) × (Some d ≡ Some e) × (char_text c ≡ 126 ∷ e ∷ []) in
    let Q : Bool → Type 0 = λ b. (d == 49) ≡ b → cond b (Some 47) None ≡ Some c
    → (e : ℕ) × (Some d ≡ Some e) × (char_text c ≡ 126 ∷ e ∷ []) in
    (elim (d == 48) as P [
      | true ↦ λ z e. let same : 126 ≡ c = cc in (48, ap Some (eqb-true d 48 z), ap char_text (sym same))
      | false ↦ λ z e. (elim (d == 49) as Q [
        | true ↦ λ o e. let same : 47 ≡ c = cc in (49, ap Some (eqb-true d 49 o), ap char_text (sym same))
        | false ↦ λ o e. cc
      ]) refl e
    ]) refl is

some_none : (a : ℕ) → Some a ≡ None → ⊥
some_none a is = cc

-- `~` before another digit is stray
pub stray-digit : (d : ℕ) (cs : List ℕ) → escaped_by (Some d) ≡ None → stray (126 ∷ d ∷ cs) ≡ true
stray-digit d cs is =
    let P : Bool → Type 0 = λ b. cond {A = Option ℕ} b (Some 126) (cond {A = Option ℕ} (d == 49) (Some 47) None)
    ≡ None → not (b || (d == 49)) ≡ true in
    let Q : Bool → Type 0 = λ b. cond {A = Option ℕ} b (Some 47) None ≡ None → not b ≡ true in
    (elim (d == 48) as P [
      | true ↦ λ e. absurd (some_none 126 e)
      | false ↦ λ e. (elim (d == 49) as Q [ true ↦ λ o. absurd (some_none 47 o) | false ↦ λ o. refl ]) e
    ]) is

-- ---- one turn of the loop: what is read, and what is left

-- what is read of a text, and what is left
abbrev pub Read : List ℕ → List ℕ → List ℕ → Type 0
Read text read left = (chars text ≡ read ++ chars left) × IsUtf8 left

-- a `/` is read, and what comes after it up to the next sign
pub token-read : (text old new left : List ℕ) (tokens longer : List (CowStr Global)) (s : CowStr Global) (c end : ℕ)
    → Read text (pointer_text (texts tokens)) old
    → old ≡ encode c ++ new → c ≡ 47 → IsRun unescaped new 0 end → longer ≡ tokens ++ s ∷ []
    → cow_str_bytes s ≡ slice_range new 0 end → left ≡ drop end new
    → Read text (pointer_text (texts longer)) left
token-read text old new left tokens longer s c end read is same run pushed bytes after =
    let before = pointer_text (texts tokens) in
    let n = next_read text old new before c read.1 is read.0 in
    let more = subst (λ d. chars text ≡ before ++ d ∷ chars new) same n.0 in
    let start = IsCharBoundary-start new n.1 in
    let split : chars new ≡ between new 0 end ++ chars left = rest-between new 0 end n.1 run.above start run.boundary
    ∙ ap (λ bs. between new 0 end ++ chars bs) (sym after) in
    let token : token_text (chars (cow_str_bytes s)) ≡ between new 0 end = ap (λ bs. token_text (chars bs)) bytes
    ∙ run-token new end run in (
      read_more (chars text) before (47 ∷ between new 0 end) (chars left) (more ∙ ap (λ cs. before ++ 47 ∷ cs) split)
          ∙ ap (λ p. p ++ chars left) (ap (λ cs. before ++ 47 ∷ cs) (sym token)
          ∙ sym (ap (λ xs. pointer_text (texts xs)) pushed ∙ pointer_text-push tokens s)),
      subst IsUtf8 (sym after) (IsUtf8-drop new end n.1 run.boundary),
    )

char_text-itself : (c : ℕ) → (c ≡ 47 → ⊥) → (c ≡ 126 → ⊥) → char_text c ≡ c ∷ []
char_text-itself c no_slash no_tilde = elim (spelling c) [
  | as_tilde is same ↦ absurd (no_tilde same)
  | as_slash is same ↦ absurd (no_slash same)
  | as_itself is other none ↦ is
]

-- a character that means itself is read
pub itself-read : (text old new before longer : List ℕ) (c : ℕ) → Read text before old → old ≡ encode c ++ new
    → (c ≡ 47 → ⊥) → (c ≡ 126 → ⊥)
    → longer ≡ before ++ char_text c → Read text longer new
itself-read text old new before longer c read is no_slash no_tilde pushed =
    let n = next_read text old new before c read.1 is read.0 in (
      read_more (chars text) before (c ∷ []) (chars new) n.0
          ∙ ap (λ p. p ++ chars new) (sym (pushed ∙ ap (λ cs. before ++ cs) (char_text-itself c no_slash no_tilde))),
      n.1,
    )

-- a `~` is read, and the character after it
pub tilde-read : (text old new : List ℕ) (before : List ℕ) (c : ℕ) → Read text before old → old ≡ encode c ++ new → c ≡ 126
    → (chars text ≡ before ++ 126 ∷ chars new) × IsUtf8 new
tilde-read text old new before c read is tilde =
    let n = next_read text old new before c read.1 is read.0 in
    (subst (λ d. chars text ≡ before ++ d ∷ chars new) tilde n.0, n.1)

-- an escape is read
pub escape-read : (text new left before longer : List ℕ) (digit : Option ℕ) (k : ℕ) (A : Type 0)
    → chars text ≡ before ++ 126 ∷ chars new → IsUtf8 new
    → MatchOption digit A (λ d. new ≡ encode d ++ left) → Some k ≡ escaped_by digit → longer ≡ before ++ char_text k → Read text longer left
escape-read text new left before longer digit k A split utf8 steps is pushed =
    let e = escaped_by-char_text digit k (sym is) in
    let step = subst (λ o. MatchOption o A (λ d. new ≡ encode d ++ left)) e.1 steps in
    let rest : chars new ≡ e.0 ∷ chars left = chars_past_char new left e.0 utf8 step in (
      read_more (chars text) before (126 ∷ e.0 ∷ []) (chars left) (split ∙ ap (λ cs. before ++ 126 ∷ cs) rest)
          ∙ ap (λ p. p ++ chars left) (sym (pushed ∙ ap (λ cs. before ++ cs) e.2)),
      IsUtf8-past_char new left e.0 utf8 step,
    )

-- a stray `~` is found
pub escape-stray : (new left : List ℕ) (digit : Option ℕ) (A : Type 0) → IsUtf8 new
    → MatchOption digit ((length new ≡ 0) × A) (λ d. new ≡ encode d ++ left)
    → None ≡ escaped_by digit → stray (126 ∷ chars new) ≡ true
escape-stray [] left None A utf8 steps is = ap (λ cs. stray (126 ∷ cs)) chars-nil
escape-stray (b ∷ bs) left None A utf8 steps is = absurd (omega (arith, steps.0))
escape-stray new left (Some d) A utf8 steps is =
    ap (λ cs. stray (126 ∷ cs)) (chars_past_char new left d utf8 steps) ∙ stray-digit d (chars left) (sym is)

-- where that `~` is
pub tilde-place : (text old new before : List ℕ) (c : ℕ) → IsUtf8 text → Read text before old → old ≡ encode c ++ new → c ≡ 126
    → length text ≡ byte_len before + (1 + length new)
tilde-place text old new before c utf8 read is tilde =
    let n = length-read text old before utf8 read.1 read.0 in
    let one : length (encode c) ≡ 1 = length-encode c ∙ ap len_utf8 tilde in
    omega (arith, n, ap length is, length-append (encode c) new, one)

-- at the end everything is read
pub end-read : (text old before : List ℕ) → Read text before old → length old ≡ 0 → chars text ≡ before
end-read text [] before read empty = read.0 ∙ ap (λ cs. before ++ cs) chars-nil ∙ append-none before
end-read text (b ∷ bs) before read empty = absurd (omega arith)

-- nothing is read yet, and no `/` comes
pub prefix-read : (text old new : List ℕ) (tokens : List (CowStr Global)) (c : ℕ)
    → Read text (pointer_text (texts tokens)) old → old ≡ encode c ++ new
    → length tokens ≡ 0 → (c ≡ 47 → ⊥) → path_of (chars text) ≡ Err (BadPath 0)
prefix-read text old new [] c read is empty other =
    let n = next_read text old new [] c read.1 is read.0 in
    path_of-prefix (chars text) (chars new) c n.0 (grind (arith, nat_tests))
prefix-read text old new (s ∷ ss) c read is empty other = absurd (omega arith)
