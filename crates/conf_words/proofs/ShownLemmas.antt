-- What is shown of a character can be read back, also before other text.
use Rattle.std.proofs.Common.{◌≡◌, ◌⊎◌, inl, inr, ℕ, ◌+◌, ◌*◌, ◌/◌, ◌%◌, ◌<◌, ◌≤◌, true, false, List, [], ◌∷◌, ◌++◌, refl, sym, ap, ◌∙◌}
use Rattle.std.proofs.{Common.{subst, arith}, lemmas.{Bool.{cases_eq, cases_lt, cases_Bool, Decides.nat_tests}, Str.digit_value-digit_char}}
use Rattle.std.specs.{Prelude.{Option, Some, None, ◌==◌, ◌||◌, cond, nat_lt, if◌then◌else◌, drop}, Char.{digit_char, digit_value}}
use Rattle.std.specs.Char.Escape.{escape_default, escape_unicode, hex_digit_at, short_escape}
use Rattle.conf_words.specs.Escapes.{escaped, escaped_char, is_hidden}

-- the number of hex digits up to a `}`, after those that have this value, and what follows
abbrev read_hex : ℕ → List ℕ → Option (ℕ × List ℕ)
read_hex n [] = None
read_hex n (d ∷ ds) = if d == 125 then Some (n, ds) else read_hex (n * 16 + digit_value d) ds

-- the character whose escape is this letter
abbrev letter : ℕ → ℕ
letter k = if k == 116 then 9 else (if k == 114 then 13 else (if k == 110 then 10 else k))

-- what is escaped after a `\`, and what follows
abbrev read_escape : List ℕ → Option (ℕ × List ℕ)
read_escape [] = None
read_escape (k ∷ ks) = if k == 117 then read_hex 0 (drop 1 ks) else Some (letter k, ks)

-- the first character of what is shown, and what follows
abbrev read_shown : List ℕ → Option (ℕ × List ℕ)
read_shown [] = None
read_shown (c ∷ cs) = if c == 92 then read_escape cs else Some (c, cs)

-- a digit
sign : (n g : ℕ) (ds : List ℕ) → (g == 125) ≡ false → read_hex n (g ∷ ds) ≡ read_hex (n * 16 + digit_value g) ds
sign n g ds other = ap (λ b. if b then Some (n, ds) else read_hex (n * 16 + digit_value g) ds) other

digit : (n p c : ℕ) (ds : List ℕ) → read_hex n (hex_digit_at p c ∷ ds) ≡ read_hex (n * 16 + c / p % 16) ds
digit n p c ds =
    let small : c / p % 16 < 16 = omega arith in
    let value : digit_value (digit_char (c / p % 16)) ≡ c / p % 16 =
    digit_value-digit_char (c / p % 16) (omega (arith, small)) in
    let other : (digit_char (c / p % 16) == 125) ≡ false = grind (arith, nat_tests, small) in
    sign n (digit_char (c / p % 16)) ds other ∙ ap (λ v. read_hex (n * 16 + v) ds) value

-- a code
code : (c : ℕ) (rest : List ℕ) → c < 0x1_0000 → read_shown (escape_unicode c ++ rest) ≡ Some (c, rest)
code c rest fits = elim (cases_lt c 0x10) [
  | inl one ↦
      (let t : nat_lt c 0x10 ≡ true = grind (arith, nat_tests, one) in
      let same : 0 * 16 + c / 1 % 16 ≡ c = omega (arith, one) in
      rw t (digit 0 1 c (125 ∷ rest) ∙ ap (λ n. Some (n, rest)) same))
  | inr more ↦ elim (cases_lt c 0x100) [
    | inl two ↦
        (let f : nat_lt c 0x10 ≡ false = grind (arith, nat_tests, more) in
        let t : nat_lt c 0x100 ≡ true = grind (arith, nat_tests, two) in
        let same : (0 * 16 + c / 0x10 % 16) * 16 + c / 1 % 16 ≡ c = omega (arith, two) in
        rw f (rw t (digit 0 0x10 c (hex_digit_at 1 c ∷ 125 ∷ rest)
        ∙ digit (0 * 16 + c / 0x10 % 16) 1 c (125 ∷ rest) ∙ ap (λ n. Some (n, rest)) same)))
    | inr hundreds ↦ elim (cases_lt c 0x1000) [
      | inl three ↦
          (let f : nat_lt c 0x10 ≡ false = grind (arith, nat_tests, more) in
          let g : nat_lt c 0x100 ≡ false = grind (arith, nat_tests, hundreds) in
          let t : nat_lt c 0x1000 ≡ true = grind (arith, nat_tests, three) in
          let same : ((0 * 16 + c / 0x100 % 16) * 16 + c / 0x10 % 16) * 16 + c / 1 % 16 ≡ c = omega (arith, three) in
          rw f (rw g (rw t (digit 0 0x100 c (hex_digit_at 0x10 c ∷ hex_digit_at 1 c ∷ 125 ∷ rest)
          ∙ digit (0 * 16 + c / 0x100 % 16) 0x10 c (hex_digit_at 1 c ∷ 125 ∷ rest)
          ∙ digit ((0 * 16 + c / 0x100 % 16) * 16 + c / 0x10 % 16) 1 c (125 ∷ rest)
          ∙ ap (λ n. Some (n, rest)) same))))
      | inr thousands ↦
          (let f : nat_lt c 0x10 ≡ false = grind (arith, nat_tests, more) in
          let g : nat_lt c 0x100 ≡ false = grind (arith, nat_tests, hundreds) in
          let h : nat_lt c 0x1000 ≡ false = grind (arith, nat_tests, thousands) in
          let t : nat_lt c 0x1_0000 ≡ true = grind (arith, nat_tests, fits) in
          let same : (((0 * 16 + c / 0x1000 % 16) * 16 + c / 0x100 % 16) * 16 + c / 0x10 % 16) * 16 + c / 1 % 16 ≡ c =
          omega (arith, fits) in
          rw f (rw g (rw h (rw t (digit 0 0x1000 c (hex_digit_at 0x100 c ∷ hex_digit_at 0x10 c ∷ hex_digit_at 1 c ∷ 125 ∷ rest)
          ∙ digit (0 * 16 + c / 0x1000 % 16) 0x100 c (hex_digit_at 0x10 c ∷ hex_digit_at 1 c ∷ 125 ∷ rest)
          ∙ digit ((0 * 16 + c / 0x1000 % 16) * 16 + c / 0x100 % 16) 0x10 c (hex_digit_at 1 c ∷ 125 ∷ rest)
          ∙ digit (((0 * 16 + c / 0x1000 % 16) * 16 + c / 0x100 % 16) * 16 + c / 0x10 % 16) 1 c (125 ∷ rest)
          ∙ ap (λ n. Some (n, rest)) same)))))
    ]
  ]
]

-- a character that has no escape of one letter
unicode : (c : ℕ) → nat_lt 0 (short_escape c) ≡ false → (c < 32) ⊎ (127 ≤ c) → escape_default c ≡ escape_unicode c
unicode c long edge = ap (λ b. cond b (92 ∷ short_escape c ∷ []) code_or_own) long ∙ own edge
  where
    code_or_own : List ℕ
    code_or_own = cond (nat_lt c 32) (escape_unicode c) (cond (nat_lt c 127) (c ∷ []) (escape_unicode c))

    own : (c < 32) ⊎ (127 ≤ c) → code_or_own ≡ escape_unicode c
    own (inl low) =
        let t : nat_lt c 32 ≡ true = grind (arith, nat_tests, low) in
        ap (λ b. cond b (escape_unicode c) (cond (nat_lt c 127) (c ∷ []) (escape_unicode c))) t
    own (inr high) =
        let f : nat_lt c 32 ≡ false = grind (arith, nat_tests, high) in
        let g : nat_lt c 127 ≡ false = grind (arith, nat_tests, high) in
        ap (λ b. cond b (escape_unicode c) (cond (nat_lt c 127) (c ∷ []) (escape_unicode c))) f
        ∙ ap (λ b. cond b (c ∷ []) (escape_unicode c)) g

-- a character that is escaped
default : (c : ℕ) (rest : List ℕ) → (c == 0x5c || is_hidden c) ≡ true → read_shown (escape_default c ++ rest) ≡ Some (c, rest)
default c rest hidden = elim (cases_lt 0 (short_escape c)) [
  | inl short ↦ elim (cases_eq c 9) [
    | inl tab ↦ subst (λ c. read_shown (escape_default c ++ rest) ≡ Some (c, rest)) (sym tab) refl
    | inr not_tab ↦ elim (cases_eq c 10) [
      | inl feed ↦ subst (λ c. read_shown (escape_default c ++ rest) ≡ Some (c, rest)) (sym feed) refl
      | inr not_feed ↦ elim (cases_eq c 13) [
        | inl return ↦ subst (λ c. read_shown (escape_default c ++ rest) ≡ Some (c, rest)) (sym return) refl
        | inr not_return ↦
            (let slash : c ≡ 92 = grind (arith, nat_tests, short, hidden, not_tab, not_feed, not_return) in
            subst (λ c. read_shown (escape_default c ++ rest) ≡ Some (c, rest)) (sym slash) refl)
      ]
    ]
  ]
  | inr none ↦
      (let long : nat_lt 0 (short_escape c) ≡ false = grind (arith, nat_tests, none) in
      let edge : (c < 32) ⊎ (127 ≤ c) = elim (cases_lt c 32) [
        | inl low ↦ inl low
        | inr high ↦ inr (grind (arith, nat_tests, none, hidden, high))
      ] in
      let fits : c < 0x1_0000 = grind (arith, nat_tests, none, hidden) in
      ap (λ cs. read_shown (cs ++ rest)) (unicode c long edge) ∙ code c rest fits)
]

-- any character
shown : (c : ℕ) (rest : List ℕ) → read_shown (escaped_char c ++ rest) ≡ Some (c, rest)
shown c rest = elim (cases_Bool (c == 0x5c || is_hidden c)) [
  | inl hidden ↦ ap (λ b. read_shown ((if b then escape_default c else c ∷ []) ++ rest)) hidden ∙ default c rest hidden
  | inr plain ↦
      (let other : (c == 92) ≡ false = grind (arith, nat_tests, plain) in
      ap (λ b. read_shown ((if b then escape_default c else c ∷ []) ++ rest)) plain
      ∙ ap (λ b. if b then read_escape rest else Some (c, rest)) other)
]

-- what is read, if something is
abbrev first_of : Option (ℕ × List ℕ) → ℕ
first_of None = 0
first_of (Some read) = read.0

abbrev rest_of : Option (ℕ × List ℕ) → List ℕ
rest_of None = []
rest_of (Some read) = read.1

none-some : {read : ℕ × List ℕ} → None ≡ Some read → ⊥
none-some same = cc same

-- no two texts are shown alike
pub shown-apart : (text other : List ℕ) → escaped text ≡ escaped other → text ≡ other
shown-apart [] [] same = refl
shown-apart [] (c ∷ cs) same = absurd (none-some (ap read_shown same ∙ shown c (escaped cs)))
shown-apart (c ∷ cs) [] same = absurd (none-some (sym (ap read_shown same) ∙ shown c (escaped cs)))
shown-apart (c ∷ cs) (d ∷ ds) same =
    let both : Some (c, escaped cs) ≡ Some (d, escaped ds) =
    sym (shown c (escaped cs)) ∙ ap read_shown same ∙ shown d (escaped ds) in
    let first : c ≡ d = ap (λ o. first_of o) both in
    let rest : escaped cs ≡ escaped ds = ap (λ o. rest_of o) both in
    ap (λ c. c ∷ cs) first ∙ ap (λ cs. d ∷ cs) (shown-apart cs ds rest)
