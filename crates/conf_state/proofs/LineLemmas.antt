-- The lines of a document, as they are written one after another.
use Rattle.std.proofs.Common.{◌≡◌, ℕ, ◌<◌, true, nat_lt, List, [], ◌++◌, codes, append-nil, append_assoc, ap, sym, ◌∙◌, arith}
use Rattle.conf_state.proofs.Prelude.{nat_tests, chars-IsAscii, chars, AllDigits, list_all, Tree, text, no_member, member, key_lines}
use Rattle.conf_state.proofs.{Prelude.{value_at, members_after, every-IsAscii}, BaseLemmas.count_line}

-- ASCII, by a test that computes
pub ascii : (cs : List ℕ) → list_all (λ c. nat_lt c 128) cs ≡ true → chars cs ≡ cs
ascii cs e = chars-IsAscii cs (every-IsAscii (λ c. nat_lt c 128) below cs e)
  where
    below : (c : ℕ) → nat_lt c 128 ≡ true → c < 128
    below c passed = grind (arith, nat_tests)

-- a member of the mapping at the top
abbrev pub line : List ℕ → Tree → List ℕ
line key t = key_lines 0 key ++ value_at t 0

-- the lines of two members
pub two_lines : (k l : List ℕ) (t u : Tree) → line k t ++ line l u ≡ members_after (member k t (member l u no_member)) 0
two_lines k l t u = ap (λ xs. line k t ++ xs) (sym (append-nil (line l u)))

-- the line of a number, with its digits in quotes
pub number_line : (ds : List ℕ) → AllDigits 10 ds → codes "at: \"" ++ ds ++ codes "\"\n" ≡ line (codes "at") (text ds)
number_line ds all =
    ap (λ cs. codes "at: \"" ++ cs) (sym (append_assoc ds (codes "\"") (codes "\n")))
    ∙ ap (λ cs. codes "at: " ++ cs) (sym (count_line ds all))

-- what is between the first line of a document and its last
pub framed_line : (first rest : List ℕ) → codes "---\n" ++ first ++ rest ++ codes "...\n"
    ≡ codes "---\n" ++ (first ++ rest) ++ codes "...\n"
framed_line first rest = ap (λ cs. cs ++ codes "...\n") (append_assoc (codes "---\n") first rest)

-- the same of a base, whose mapping begins with the format and ends with the configurations
pub base_lines : (format number configs : List ℕ)
    → codes "---\n" ++ format ++ number ++ codes "configs:" ++ configs ++ codes "...\n"
    ≡ codes "---\n" ++ (format ++ (number ++ (codes "configs:" ++ configs ++ []))) ++ codes "...\n"
base_lines format number configs =
    ap (λ cs. cs ++ codes "configs:" ++ configs ++ codes "...\n") (append_assoc (codes "---\n") format number)
    ∙ ap (λ cs. cs ++ configs ++ codes "...\n") (append_assoc (codes "---\n") (format ++ number) (codes "configs:"))
    ∙ ap (λ cs. cs ++ codes "...\n") (append_assoc (codes "---\n") (format ++ number ++ codes "configs:") configs)
    ∙ ap (λ cs. codes "---\n" ++ cs ++ codes "...\n")
    (append_assoc (format ++ number) (codes "configs:") configs ∙ append_assoc format number (codes "configs:" ++ configs)
    ∙ ap (λ cs. format ++ (number ++ cs)) (sym (append-nil (codes "configs:" ++ configs))))
