-- Pairs of the code, and the members that they are.
use Rattle.std.proofs.Common.{◌≡◌, ℕ, suc, ◌+◌, ◌≤◌, ◌<◌, Bool, ◌||◌, List, [], ◌∷◌, length, get_or, drop, refl, sym, ap, ◌∙◌, arith}
use Rattle.std.{proofs.lemmas.Str.len_utf8_bounds, specs.Prelude.{nat_eq, Option, Some, None, option_and_then, Result, Ok, Err}}
use Rattle.{yaml_writer.proofs.ByteLemmas.byte_len-encoded, conf_about.proofs.Prelude.{nat_tests, at_drop_more, chars, bytes_eq}}
use Rattle.conf_about.proofs.Prelude.{encodes-chars, IsUtf8, IsUtf8-text_bytes, same_key, byte_len, is_empty, text_bytes, Pair, members_of}
use Rattle.conf_about.{proofs.Prelude.{has_key, same_text, Tree}, specs.Abouts.{IsAbout, pair_count, text_in, text_under}}
use Rattle.tree_path.specs.{Paths.{child, present, value_of}, declared.place.Miss.Miss}

-- a text has no byte exactly if it has no character
pub bytes-empty : (bs : List ℕ) → IsUtf8 bs → nat_eq (length bs) 0 ≡ is_empty (chars bs)
bytes-empty bs utf8 = by (chars bs) (byte_len-encoded (chars bs) ∙ ap length (encodes-chars bs utf8))
  where
    by : (cs : List ℕ) → byte_len cs ≡ length bs → nat_eq (length bs) 0 ≡ is_empty cs
    by [] e = ap (λ n. nat_eq n 0) (sym e)
    by (c ∷ cs) e = let some = (len_utf8_bounds c).0 in let more : 1 ≤ length bs = omega (arith, some, e) in grind (arith, nat_tests)

pub count-pairs : (ps : List Pair) → pair_count (members_of ps) ≡ length ps
count-pairs [] = refl
count-pairs (p ∷ ps) = ap suc (count-pairs ps)

-- ---- the loops over pairs

module _ (ps : List Pair) (i : ℕ) (p : Pair) (within : i < length ps) (is : p ≡ get_or ps i p) where
  -- the key is that of the first pair that is left, or of one after it
  pub key-turn : (key : List ℕ) (found : Bool) → IsUtf8 key → found ≡ bytes_eq (text_bytes p.0) key
      → has_key (chars key) (members_of (drop i ps)) ≡ (found || has_key (chars key) (members_of (drop (i + 1) ps)))
  key-turn key found utf8 compared =
      at_drop_more (λ xs. has_key (chars key) (members_of xs)) ps i p within
      ∙ ap (λ (q : Pair). same_text (chars key) (chars (text_bytes q.0)) || has_key (chars key) (members_of (drop (i + 1) ps))) (sym is)
      ∙ ap (λ b. b || has_key (chars key) (members_of (drop (i + 1) ps)))
      (sym (compared ∙ same_key key (text_bytes p.0) utf8 (IsUtf8-text_bytes p.0)))

-- ---- the text under a key

-- where a step leads, as a text
abbrev pub text_at : Result Tree Miss → Option (List ℕ)
text_at (Ok t) = text_in t
text_at (Err miss) = None

-- in an about, the text under a key is where a step leads
pub under-child : (t : Tree) (key : List ℕ) (r : Result Tree Miss) → IsAbout t → child t key ≡ r → text_under t key ≡ text_at r
unfolding child
under-child t key r about e =
    let ms = about.members in
    ap (λ u. text_under u key) about.is
    ∙ by (value_of ms key)
    ∙ ap text_at (sym (ap (λ u. child u key) about.is) ∙ e)
  where
    by : (o : Option Tree) → option_and_then text_in o ≡ text_at (present o)
    by (Some u) = refl
    by None = refl
