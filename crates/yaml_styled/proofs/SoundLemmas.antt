-- What is read is text, holds no key twice and is not too deep.
use Rattle.std.proofs.{Common.{◌≡◌, ℕ, suc, ◌<◌, ◌≤◌, ◌⊎◌, max, true, not, ◌&&◌, List, [], ◌∷◌, refl, arith}, Math.Utf8.{scalar, scalars}}
use Rattle.std.proofs.Math.Utf8.{scalar_cases}
use Rattle.yaml_styled.proofs.Prelude.{and_parts, and_from, nat_tests, scalars-chars, chars, IsUtf8, list_all, IsText, Tree, text, sequence}
use Rattle.yaml_styled.proofs.Prelude.{mapping, Elements, no_element, element, Members, no_member, member, depth, elements_depth}
use Rattle.yaml_styled.proofs.Prelude.{members_depth, distinct, elements_distinct, members_distinct, has_key, code_point, keys_differ}
use Rattle.yaml_styled.{proofs.Prelude.values_distinct, specs.{Parts.{elements_and, members_and}, Sounds.{Sound, SoundElements}}}
use Rattle.yaml_styled.specs.Sounds.{SoundMembers}

passes : (c : ℕ) → (c < 55296) ⊎ ((57344 ≤ c) × (c < 1114112)) → code_point c ≡ true
passes c h = grind (arith, nat_tests)

all_code_points : (cs : List ℕ) → scalars cs ≡ true → IsText cs
all_code_points [] e = refl
all_code_points (c ∷ cs) e =
    let parts = and_parts (scalar c) (scalars cs) e in
    and_from (code_point c) (list_all code_point cs) (passes c (scalar_cases c parts.0)) (all_code_points cs parts.1)

-- the characters of UTF-8 are a text
pub chars-IsText : (bytes : List ℕ) → IsUtf8 bytes → IsText (chars bytes)
chars-IsText bytes utf8 = all_code_points (chars bytes) (scalars-chars bytes utf8)

-- ---- a text, and collections that hold nothing

pub text_sound : (bytes : List ℕ) → IsUtf8 bytes → Sound (text (chars bytes)) 1
text_sound bytes utf8 = record { texts = chars-IsText bytes utf8; keys = refl; shallow = omega arith }

pub no_elements_sound : Sound (sequence no_element) 1
no_elements_sound = record { texts = tt; keys = refl; shallow = omega arith }

pub no_members_sound : Sound (mapping no_member) 1
no_members_sound = record { texts = tt; keys = refl; shallow = omega arith }

-- ---- one element or member more

max_within : (a b most : ℕ) → a ≤ most → b ≤ most → max a b ≤ most
max_within a b most first second = omega arith

pub more_elements : (ts : Elements) (t : Tree) (most : ℕ) → SoundElements ts most → Sound t most
    → SoundElements (elements_and ts t) most
more_elements no_element t most before last = record {
  texts = (last.texts, tt);
  keys = and_from (distinct t) true last.keys refl;
  shallow = max_within (depth t) 0 most last.shallow (omega arith);
}
more_elements (element u ts) t most before last =
    let parts = and_parts (distinct u) (elements_distinct ts) before.keys in
    let first : depth u ≤ most = omega (arith, before.shallow) in
    let others : elements_depth ts ≤ most = omega (arith, before.shallow) in
    let after = more_elements ts t most (record { texts = before.texts.1; keys = parts.1; shallow = others }) last in
    record {
      texts = (before.texts.0, after.texts);
      keys = and_from (distinct u) (elements_distinct (elements_and ts t)) parts.0 after.keys;
      shallow = max_within (depth u) (elements_depth (elements_and ts t)) most first after.shallow;
    }

pub more_members : (ms : Members) (key : List ℕ) (t : Tree) (most : ℕ) → SoundMembers ms most → IsText key → Sound t most
    → SoundMembers (members_and ms key t) most
more_members no_member key t most before named last = record {
  texts = (named, last.texts, tt);
  keys = and_from (distinct t) true last.keys refl;
  shallow = max_within (depth t) 0 most last.shallow (omega arith);
}
more_members (member k u ms) key t most before named last =
    let parts = and_parts (distinct u) (values_distinct ms) before.keys in
    let first : depth u ≤ most = omega (arith, before.shallow) in
    let others : members_depth ms ≤ most = omega (arith, before.shallow) in
    let after = more_members ms key t most (record { texts = before.texts.2; keys = parts.1; shallow = others }) named last in
    record {
      texts = (before.texts.0, before.texts.1, after.texts);
      keys = and_from (distinct u) (values_distinct (members_and ms key t)) parts.0 after.keys;
      shallow = max_within (depth u) (members_depth (members_and ms key t)) most first after.shallow;
    }

-- ---- a collection of them

pub sequence_sound : (ts : Elements) (most : ℕ) → SoundElements ts most → Sound (sequence ts) (suc most)
sequence_sound ts most are = record { texts = are.texts; keys = are.keys; shallow = omega (arith, are.shallow) }

members_distinct-from : (ms : Members) → keys_differ ms ≡ true → values_distinct ms ≡ true → members_distinct ms ≡ true
members_distinct-from no_member differ values = refl
members_distinct-from (member key t ms) differ values =
    let own = and_parts (not (has_key key ms)) (keys_differ ms) differ in
    let each = and_parts (distinct t) (values_distinct ms) values in
    and_from (not (has_key key ms) && distinct t) (members_distinct ms)
    (and_from (not (has_key key ms)) (distinct t) own.0 each.0) (members_distinct-from ms own.1 each.1)

pub mapping_sound : (ms : Members) (most : ℕ) → keys_differ ms ≡ true → SoundMembers ms most → Sound (mapping ms) (suc most)
mapping_sound ms most differ are = record {
  texts = are.texts;
  keys = members_distinct-from ms differ are.keys;
  shallow = omega (arith, are.shallow);
}

-- a looser bound
pub looser : {t : Tree} {most more : ℕ} → most ≤ more → Sound t most → Sound t more
looser within sound = record { texts = sound.texts; keys = sound.keys; shallow = omega (arith, sound.shallow) }
