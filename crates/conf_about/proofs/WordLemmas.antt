-- What words say, one after another.
use Rattle.std.proofs.Common.{◌≡◌, ℕ, zero, suc, ◌+◌, ◌<◌, ◌≤◌, Bool, List, [], ◌∷◌, ◌++◌, length, get_or, take, drop, map, refl, sym, ap}
use Rattle.std.{proofs.Common.{ap₂, subst, ◌∙◌, arith}, specs.Prelude.{◌==◌, if◌then◌else◌, Option, Some, None, option_map}}
use Rattle.std.specs.{Prelude.option_and_then, Borrow.Bor}
use Rattle.conf_about.proofs.Prelude.{at_drop_more, at_drop_all, chars-append, chars-IsAscii, chars_from_encodes, IsUtf8-from_ascii}
use Rattle.conf_about.proofs.Prelude.{IsCharBoundary, IsCharBoundary-at_seam, IsUtf8-append, IsUtf8-drop, IsUtf8-take, NoCharPasses}
use Rattle.conf_about.proofs.Prelude.{NonePass, chars, IsAscii, IsUtf8, join_members, members_of-append, Pair, members_of, tree_of}
use Rattle.conf_about.{proofs.Prelude.{text_bytes, Tree, text, Members, no_member, member}, specs.AboutWords.{equals_sign, pair_in}}
use Rattle.conf_about.specs.AboutWords.{members_in}

-- ---- a word

abbrev pub is_equals : ℕ → Bool
is_equals c = c == equals_sign

pub none-split : (cs : List ℕ) → NonePass is_equals cs → pair_in cs ≡ None
none-split [] none = refl
none-split (c ∷ cs) none =
    ap (λ b. if b then Some ([], cs) else option_map (λ (pair : List ℕ × List ℕ). (c ∷ pair.0, pair.1)) (pair_in cs)) none.0
    ∙ ap (option_map (λ (pair : List ℕ × List ℕ). (c ∷ pair.0, pair.1))) (none-split cs none.1)

pub first-split : (cs rest : List ℕ) → NonePass is_equals cs → pair_in (cs ++ equals_sign ∷ rest) ≡ Some (cs, rest)
first-split [] rest none = refl
first-split (c ∷ cs) rest none =
    ap (λ b. if b then Some ([], cs ++ equals_sign ∷ rest)
    else option_map (λ (pair : List ℕ × List ℕ). (c ∷ pair.0, pair.1)) (pair_in (cs ++ equals_sign ∷ rest))) none.0
    ∙ ap (option_map (λ (pair : List ℕ × List ℕ). (c ∷ pair.0, pair.1))) (first-split cs rest none.1)

-- ---- the loop over words

abbrev pub Word : Type 0
Word = Bor (List ℕ)

abbrev pub texts : List Word → List (List ℕ)
texts words = map (λ word. chars word.now) words

-- the members of the pairs that were made, and then those that the words say
abbrev pub behind : List Pair → List Word → Option Members
behind ps words = option_map (join_members (members_of ps)) (members_in (texts words))

join-nil : (ms : Members) → join_members ms no_member ≡ ms
join-nil no_member = refl
join-nil (member key t ms) = ap (member key t) (join-nil ms)

join-more : (ms ns : Members) (key : List ℕ) (t : Tree)
    → join_members (join_members ms (member key t no_member)) ns ≡ join_members ms (member key t ns)
join-more no_member ns key t = refl
join-more (member other u ms) ns key t = ap (member other u) (join-more ms ns key t)

pub words-end : (ps : List Pair) (words : List Word) (i : ℕ) → length words ≤ i → behind ps (drop i words) ≡ Some (members_of ps)
words-end ps words i past =
    at_drop_all (behind ps) words i past ∙ ap Some (join-nil (members_of ps))

-- a word for the places past the end of a list
abbrev pub blank : Word
blank = record { ref_ptr = (0, 0); now = [] }

module _ (ps : List Pair) (words : List Word) (i : ℕ) (within : i < length words) where
  -- what is left, if its first word says this
  abbrev from_first : Option (List ℕ × List ℕ) → Option Members
  from_first said = option_map (join_members (members_of ps)) (option_and_then (λ (pair : List ℕ × List ℕ).
      option_map (member pair.0 (text pair.1)) (members_in (texts (drop (i + 1) words)))) said)

  pub words-turn : (qs : List Pair) (p : Pair) (key value : List ℕ) → pair_in (chars (get_or words i blank).now) ≡ Some (key, value)
      → qs ≡ ps ++ p ∷ [] → chars (text_bytes p.0) ≡ key → tree_of p.1 ≡ text value
      → behind ps (drop i words) ≡ behind qs (drop (i + 1) words)
  words-turn qs p key value e pushed named valued =
      at_drop_more (behind ps) words i blank within ∙ ap from_first e
      ∙ joined (members_in (texts (drop (i + 1) words)))
    where
      made : members_of qs ≡ join_members (members_of ps) (member key (text value) no_member)
      made =
          ap members_of pushed ∙ members_of-append ps (p ∷ [])
          ∙ ap₂ (λ k t. join_members (members_of ps) (member k t no_member)) named valued

      joined : (o : Option Members)
          → option_map (join_members (members_of ps)) (option_map (member key (text value)) o) ≡ option_map (join_members (members_of qs)) o
      joined None = refl
      joined (Some ms) = ap Some (sym (ap (λ ns. join_members ns ms) made ∙ join-more (members_of ps) ms key (text value)))

-- ---- the characters of a word

-- a word without an `=`
pub chars-whole : (word : List ℕ) → IsUtf8 word → NoCharPasses is_equals word → pair_in (chars word) ≡ None
chars-whole word utf8 lacks = ap pair_in (sym (chars_from_encodes lacks.0 word utf8 lacks.1)) ∙ none-split lacks.0 lacks.2

-- a word with an `=` behind a part without one
pub chars-split : (word key rest : List ℕ) (i j : ℕ) → IsUtf8 word → IsCharBoundary word j → NoCharPasses is_equals (take i word)
    → key ≡ take i word → rest ≡ drop j word → length key ≡ i → word ≡ key ++ equals_sign ∷ rest
    → pair_in (chars word) ≡ Some (chars key, chars rest)
chars-split word key rest i j utf8 at lacks front back wide e =
    let sign_utf8 = IsUtf8-from_ascii (equals_sign ∷ []) ascii in
    let rest_utf8 : IsUtf8 rest = subst IsUtf8 (sym back) (IsUtf8-drop word j utf8 at) in
    let seam = IsCharBoundary-at_seam word key (equals_sign ∷ rest) e (IsUtf8-append (equals_sign ∷ []) rest sign_utf8 rest_utf8) in
    let cut : key ≡ take (length key) word = front ∙ ap (λ n. take n word) (sym wide) in
    let key_utf8 : IsUtf8 key = subst IsUtf8 (sym cut) (IsUtf8-take word (length key) utf8 seam) in
    let of_key = chars_from_encodes lacks.0 key key_utf8 (lacks.1 ∙ sym front) in
    let sign : chars (equals_sign ∷ rest) ≡ equals_sign ∷ chars rest =
    chars-append (equals_sign ∷ []) rest sign_utf8 ∙ ap (λ cs. cs ++ chars rest) (chars-IsAscii (equals_sign ∷ []) ascii) in
    ap pair_in (ap chars e ∙ chars-append key (equals_sign ∷ rest) key_utf8 ∙ ap₂ (λ a b. a ++ b) (sym of_key) sign)
    ∙ first-split lacks.0 (chars rest) lacks.2
    ∙ ap (λ cs. Some (cs, chars rest)) of_key
  where
    ascii : IsAscii (equals_sign ∷ [])
    ascii zero = omega arith
    ascii (suc i) = omega arith
