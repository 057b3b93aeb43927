-- Rows of a collection that are read one after another.
use Rattle.std.proofs.Common.{◌≡◌, ℕ, ◌+◌, ◌≤◌, true, List, [], ◌∷◌, ◌++◌, codes, refl, sym, ap, ◌∙◌, append-nil, append_assoc, arith}
use Rattle.yaml_styled.proofs.Prelude.{chars, IsUtf8, spaces, Tree, sequence, mapping, Elements, no_element, element, Members, no_member}
use Rattle.yaml_styled.proofs.Prelude.{member, key_lines, elements_at, elements_after, lines_after_dash, members_at, members_after}
use Rattle.yaml_styled.proofs.Prelude.{value_at, nothing, keys_differ, indented, elements_indented, elements_after_indented}
use Rattle.yaml_styled.proofs.Prelude.{indented_key_lines, members_indented, members_after_indented, value_indented, is_filled}
use Rattle.yaml_styled.proofs.{NameLemmas.{Key, keys_differ-alone, keys_alone-and, named-and}, SoundLemmas.{chars-IsText, more_elements}}
use Rattle.yaml_styled.proofs.{SoundLemmas.{more_members, sequence_sound, mapping_sound, looser}, TakingLemmas.{took_as, took_end}}
use Rattle.yaml_styled.{proofs.TakingLemmas.took_after_none, specs.{Taking.{Took, took_none, took_both}, Parts.{lines_of, elements_and}}}
use Rattle.yaml_styled.specs.{Parts.{members_and, IsRead}, Names.{named, keys_alone}, Sounds.{SoundElements, SoundMembers}}

-- ---- elements

-- elements, and the spaces before the next row after each
abbrev pub elements_started : Elements → ℕ → List ℕ
elements_started no_element i = []
elements_started (element t ts) i = (codes "- " ++ lines_after_dash t i ++ spaces i) ++ elements_started ts i

-- how many of their lines are indented
abbrev pub elements_started_lines : Elements → ℕ
elements_started_lines no_element = 0
elements_started_lines (element t ts) = (indented t + 1) + elements_started_lines ts

elements_started-more : (ts : Elements) (t : Tree) (i : ℕ)
    → elements_started ts i ++ (codes "- " ++ lines_after_dash t i ++ spaces i) ≡ elements_started (elements_and ts t) i
elements_started-more no_element t i = sym (append-nil _)
elements_started-more (element u ts) t i =
    append_assoc (codes "- " ++ lines_after_dash u i ++ spaces i) (elements_started ts i) (codes "- " ++ lines_after_dash t i ++ spaces i)
    ∙ ap (λ cs. (codes "- " ++ lines_after_dash u i ++ spaces i) ++ cs) (elements_started-more ts t i)

elements_started_lines-more : (ts : Elements) (t : Tree)
    → elements_started_lines ts + (indented t + 1) ≡ elements_started_lines (elements_and ts t)
elements_started_lines-more no_element t = omega arith
elements_started_lines-more (element u ts) t = let more = elements_started_lines-more ts t in omega (arith, more)

-- rows after the first come after spaces
elements_after-and : (ts : Elements) (t : Tree) (i : ℕ)
    → elements_after (elements_and ts t) i ≡ spaces i ++ elements_at (elements_and ts t) i
elements_after-and no_element t i =
    ap (λ cs. cs ++ []) (append_assoc (spaces i) (codes "- ") (lines_after_dash t i))
    ∙ append_assoc (spaces i) (codes "- " ++ lines_after_dash t i) []
elements_after-and (element u ts) t i =
    ap (λ cs. cs ++ elements_after (elements_and ts t) i) (append_assoc (spaces i) (codes "- ") (lines_after_dash u i))
    ∙ append_assoc (spaces i) (codes "- " ++ lines_after_dash u i) (elements_after (elements_and ts t) i)

elements_after_indented-and : (ts : Elements) (t : Tree)
    → elements_after_indented (elements_and ts t) ≡ 1 + elements_indented (elements_and ts t)
elements_after_indented-and no_element t = omega arith
elements_after_indented-and (element u ts) t = omega arith

elements_ended : (ts : Elements) (t : Tree) (i : ℕ)
    → elements_started ts i ++ (codes "- " ++ lines_after_dash t i) ≡ elements_at (elements_and ts t) i
elements_ended no_element t i = sym (append-nil _)
elements_ended (element u ts) t i =
    let row = codes "- " ++ lines_after_dash u i in
    let last = codes "- " ++ lines_after_dash t i in
    append_assoc (row ++ spaces i) (elements_started ts i) last
    ∙ append_assoc row (spaces i) (elements_started ts i ++ last)
    ∙ ap (λ cs. row ++ (spaces i ++ cs)) (elements_ended ts t i)
    ∙ ap (λ cs. row ++ cs) (sym (elements_after-and ts t i))

elements_ended_lines : (ts : Elements) (t : Tree)
    → elements_started_lines ts + indented t ≡ elements_indented (elements_and ts t)
elements_ended_lines no_element t = omega arith
elements_ended_lines (element u ts) t =
    let more = elements_ended_lines ts t in
    let after = elements_after_indented-and ts t in
    omega (arith, more, after)

elements_filled : (ts : Elements) (t : Tree) → is_filled (sequence (elements_and ts t)) ≡ true
elements_filled no_element t = refl
elements_filled (element u ts) t = refl

-- elements that were read, and the spaces before the next row
pub record StartedElements (Are : Elements → Type 0) (most i : ℕ) (before : List ℕ) (counted : ℕ) (rest : List ℕ) (after : ℕ) : Type 0 where
  pub elements : Elements
  pub are : Are elements
  pub took : Took before counted (elements_started elements i) (elements_started_lines elements) rest after
  pub sound : SoundElements elements most

pub no_elements : {Are : Elements → Type 0} (most i : ℕ) (before : List ℕ) (counted : ℕ) → Are no_element
    → StartedElements Are most i before counted before counted
no_elements most i before counted are = record {
  elements = no_element;
  are = are;
  took = took_none before counted;
  sound = record { texts = tt; keys = refl; shallow = omega arith };
}

-- an element more is added
abbrev pub AddsElement : (Elements → Type 0) → (Tree → Type 0) → (Elements → Type 0) → Type 0
AddsElement Are Is More = (ts : Elements) (t : Tree) → Are ts → Is t → More (elements_and ts t)

module _ {Are More : Elements → Type 0} {Element : Tree → Type 0} {most i : ℕ} {before a b c d : List ℕ} {counted k l m n : ℕ} where
  -- one element more, and another after it
  pub element_more : AddsElement Are Element More → StartedElements Are most i before counted a k → Took a k (codes "- ") 0 b l
      → IsRead Element (λ t. lines_after_dash t i) indented most b l c m → Took c m (spaces i) 1 d n
      → StartedElements More most i before counted d n
  element_more adds started dash read next =
      let ts = started.elements in
      let t = read.tree in
      let row = took_both (took_after_none dash read.took) next in
      let whole = took_both started.took row in
      record {
        elements = elements_and ts t;
        are = adds ts t started.are read.is;
        took = took_as (elements_started-more ts t i) (elements_started_lines-more ts t) whole;
        sound = more_elements ts t most started.sound read.sound;
      }

  -- one element more, which is the last
  pub element_last : {Is : Tree → Type 0} (whole : ℕ) → most + 1 ≤ whole → AddsElement Are Element More
      → StartedElements Are most i before counted a k → Took a k (codes "- ") 0 b l
      → IsRead Element (λ t. lines_after_dash t i) indented most b l c m → Took c m [] 0 d n
      → ((ts : Elements) → More ts → Is (sequence ts))
      → IsRead (λ t. Is t × (is_filled t ≡ true)) (λ t. lines_of t i) indented whole before counted d n
  element_last whole within adds started dash read next made =
      let ts = started.elements in
      let t = read.tree in
      let row = took_end (took_after_none dash read.took) next in
      let all = took_both started.took row in
      let sound = sequence_sound (elements_and ts t) most (more_elements ts t most started.sound read.sound) in
      record {
        tree = sequence (elements_and ts t);
        is = (made (elements_and ts t) (adds ts t started.are read.is), elements_filled ts t);
        took = took_as (elements_ended ts t i) (elements_ended_lines ts t) all;
        sound = looser (omega arith) sound;
      }

-- ---- members

-- members, and the spaces before the next row after each
abbrev pub members_started : Members → ℕ → List ℕ
members_started no_member i = []
members_started (member key t ms) i = (key_lines i key ++ value_at t i ++ spaces i) ++ members_started ms i

-- how many of their lines are indented
abbrev pub members_started_lines : Members → ℕ
members_started_lines no_member = 0
members_started_lines (member key t ms) = (indented_key_lines key + value_indented t + 1) + members_started_lines ms

members_started-more : (ms : Members) (key : List ℕ) (t : Tree) (i : ℕ)
    → members_started ms i ++ (key_lines i key ++ value_at t i ++ spaces i) ≡ members_started (members_and ms key t) i
members_started-more no_member key t i = sym (append-nil _)
members_started-more (member k u ms) key t i =
    append_assoc (key_lines i k ++ value_at u i ++ spaces i) (members_started ms i) (key_lines i key ++ value_at t i ++ spaces i)
    ∙ ap (λ cs. (key_lines i k ++ value_at u i ++ spaces i) ++ cs) (members_started-more ms key t i)

members_started_lines-more : (ms : Members) (key : List ℕ) (t : Tree)
    → members_started_lines ms + (indented_key_lines key + value_indented t + 1) ≡ members_started_lines (members_and ms key t)
members_started_lines-more no_member key t = omega arith
members_started_lines-more (member k u ms) key t = let more = members_started_lines-more ms key t in omega (arith, more)

-- rows after the first come after spaces
members_after-and : (ms : Members) (key : List ℕ) (t : Tree) (i : ℕ)
    → members_after (members_and ms key t) i ≡ spaces i ++ members_at (members_and ms key t) i
members_after-and no_member key t i =
    ap (λ cs. cs ++ []) (append_assoc (spaces i) (key_lines i key) (value_at t i))
    ∙ append_assoc (spaces i) (key_lines i key ++ value_at t i) []
members_after-and (member k u ms) key t i =
    ap (λ cs. cs ++ members_after (members_and ms key t) i) (append_assoc (spaces i) (key_lines i k) (value_at u i))
    ∙ append_assoc (spaces i) (key_lines i k ++ value_at u i) (members_after (members_and ms key t) i)

members_after_indented-and : (ms : Members) (key : List ℕ) (t : Tree)
    → members_after_indented (members_and ms key t) ≡ 1 + members_indented (members_and ms key t)
members_after_indented-and no_member key t = omega arith
members_after_indented-and (member k u ms) key t = omega arith

members_ended : (ms : Members) (key : List ℕ) (t : Tree) (i : ℕ)
    → members_started ms i ++ (key_lines i key ++ value_at t i) ≡ members_at (members_and ms key t) i
members_ended no_member key t i = sym (append-nil _)
members_ended (member k u ms) key t i =
    let row = key_lines i k ++ value_at u i in
    let last = key_lines i key ++ value_at t i in
    append_assoc (row ++ spaces i) (members_started ms i) last
    ∙ append_assoc row (spaces i) (members_started ms i ++ last)
    ∙ ap (λ cs. row ++ (spaces i ++ cs)) (members_ended ms key t i)
    ∙ ap (λ cs. row ++ cs) (sym (members_after-and ms key t i))

members_ended_lines : (ms : Members) (key : List ℕ) (t : Tree)
    → members_started_lines ms + (indented_key_lines key + value_indented t) ≡ members_indented (members_and ms key t)
members_ended_lines no_member key t = omega arith
members_ended_lines (member k u ms) key t =
    let more = members_ended_lines ms key t in
    let after = members_after_indented-and ms key t in
    omega (arith, more, after)

members_filled : (ms : Members) (key : List ℕ) (t : Tree) → is_filled (mapping (members_and ms key t)) ≡ true
members_filled no_member key t = refl
members_filled (member k u ms) key t = refl

-- members that have these keys, one after another
abbrev pub HaveKeys : List Key → Members → Type 0
HaveKeys keys ms = keys_alone ms ≡ named keys

have_keys-more : (ms : Members) (keys : List Key) (key : Key) (t : Tree) → HaveKeys keys ms
    → HaveKeys (keys ++ key ∷ []) (members_and ms (chars key.now) t)
have_keys-more ms keys key t have =
    keys_alone-and ms (chars key.now) t ∙ ap (λ ns. members_and ns (chars key.now) nothing) have ∙ sym (named-and keys key)

-- members that were read with these keys, and the spaces before the next row
pub record StartedMembers (Are : Members → Type 0) (keys : List Key) (most i : ℕ) (before : List ℕ) (counted : ℕ)
    (rest : List ℕ) (after : ℕ) : Type 0 where
  pub members : Members
  pub are : Are members
  pub have : HaveKeys keys members
  pub took : Took before counted (members_started members i) (members_started_lines members) rest after
  pub sound : SoundMembers members most

pub no_members : {Are : Members → Type 0} (most i : ℕ) (before : List ℕ) (counted : ℕ) → Are no_member
    → StartedMembers Are [] most i before counted before counted
no_members most i before counted are = record {
  members = no_member;
  are = are;
  have = refl;
  took = took_none before counted;
  sound = record { texts = tt; keys = refl; shallow = omega arith };
}

-- a key that is taken
abbrev pub TookKey : Key → ℕ → List ℕ → ℕ → List ℕ → ℕ → Type 0
TookKey key i a k b l = Took a k (key_lines i (chars key.now)) (indented_key_lines (chars key.now)) b l

-- a member more is added
abbrev pub AddsMember : (Members → Type 0) → Key → (Tree → Type 0) → (Members → Type 0) → Type 0
AddsMember Are key Is More = (ms : Members) (t : Tree) → Are ms → Is t → More (members_and ms (chars key.now) t)

module _ {Are More : Members → Type 0} {Value : Tree → Type 0} {keys : List Key} {most i : ℕ} {before a b c d : List ℕ}
    {counted k l m n : ℕ} where
  -- one member more, and another after it
  pub member_more : (key : Key) → IsUtf8 key.now → AddsMember Are key Value More
      → StartedMembers Are keys most i before counted a k → TookKey key i a k b l
      → IsRead Value (λ t. value_at t i) value_indented most b l c m → Took c m (spaces i) 1 d n
      → StartedMembers More (keys ++ key ∷ []) most i before counted d n
  member_more key utf8 adds started taken read next =
      let ms = started.members in
      let t = read.tree in
      let name = chars key.now in
      let row = took_both (took_both taken read.took) next in
      let whole = took_both started.took row in
      record {
        members = members_and ms name t;
        are = adds ms t started.are read.is;
        have = have_keys-more ms keys key t started.have;
        took = took_as (members_started-more ms name t i) (members_started_lines-more ms name t) whole;
        sound = more_members ms name t most started.sound (chars-IsText key.now utf8) read.sound;
      }

  -- one member more, which is the last
  pub member_last : {Is : Tree → Type 0} (key : Key) (whole : ℕ) → most + 1 ≤ whole → IsUtf8 key.now
      → AddsMember Are key Value More → StartedMembers Are keys most i before counted a k → TookKey key i a k b l
      → IsRead Value (λ t. value_at t i) value_indented most b l c m → Took c m [] 0 d n
      → keys_differ (named (keys ++ key ∷ [])) ≡ true → ((ms : Members) → More ms → Is (mapping ms))
      → IsRead (λ t. Is t × (is_filled t ≡ true)) (λ t. lines_of t i) indented whole before counted d n
  member_last key whole within utf8 adds started taken read next differ made =
      let ms = started.members in
      let t = read.tree in
      let name = chars key.now in
      let row = took_end (took_both taken read.took) next in
      let all = took_both started.took row in
      let have = have_keys-more ms keys key t started.have in
      let own = sym (keys_differ-alone (members_and ms name t)) ∙ ap keys_differ have ∙ differ in
      let values = more_members ms name t most started.sound (chars-IsText key.now utf8) read.sound in
      let sound = mapping_sound (members_and ms name t) most own values in
      record {
        tree = mapping (members_and ms name t);
        is = (made (members_and ms name t) (adds ms t started.are read.is), members_filled ms name t);
        took = took_as (members_ended ms name t i) (members_ended_lines ms name t) all;
        sound = looser (omega arith) sound;
      }
