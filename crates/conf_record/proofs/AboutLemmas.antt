-- Members with an about at their end: it stands last, and what stands before it is the command.
use Rattle.std.proofs.Common.{◌≡◌, ◌≤◌, ℕ, Bool, true, false, ◌&&◌, is_none, if◌then◌else◌, List, [], ◌∷◌, ◌++◌, codes}
use Rattle.std.proofs.Common.{Option, Some, None, append_assoc, append-nil, refl, sym, ap, ◌∙◌, arith}
use Rattle.conf_about.{proofs.FaultLemmas.about-None, specs.Abouts.{IsAbout, fault_of}}
use Rattle.conf_record.proofs.Prelude.{same_text, Tree, text, Members, no_member, member, IsText, AreTextMembers}
use Rattle.conf_record.proofs.Prelude.{Pair, members_of, key_lines, value_at, members_after, depth, members_depth}
use Rattle.conf_record.specs.{Records.with_last, RecordsRead.{is_about, without_about, about_in, values}, Reading.AreKept}
use Rattle.yaml_data.proofs.SeenLemmas.{join_members, members_of-append}

-- ---- one more at the end

pub join-last : (ms : Members) (key : List ℕ) (t : Tree) → join_members ms (member key t no_member) ≡ with_last ms key t
join-last no_member key t = refl
join-last (member other u ms) key t = ap (member other u) (join-last ms key t)

-- ---- what is before an about, and the about

choose : (other : List ℕ) (u : Tree) (b : Bool) (ms ns : Members)
    → member other u (if b then ms else ns) ≡ (if b then member other u ms else member other u ns)
choose other u true ms ns = refl
choose other u false ms ns = refl

pub without-last : (ms : Members) (key : List ℕ) (t : Tree) (b : Bool) → is_about key t ≡ b
    → without_about (with_last ms key t) ≡ (if b then ms else with_last ms key t)
without-last no_member key t b e = rw e refl
without-last (member other u no_member) key t b e =
    ap (member other u) (without-last no_member key t b e) ∙ choose other u b no_member (member key t no_member)
without-last (member other u (member another v ms)) key t b e =
    ap (member other u) (without-last (member another v ms) key t b e)
    ∙ choose other u b (member another v ms) (with_last (member another v ms) key t)

pub about-last : (ms : Members) (key : List ℕ) (t : Tree) (b : Bool) → is_about key t ≡ b
    → about_in (with_last ms key t) ≡ (if b then Some t else None)
about-last no_member key t b e = rw e refl
about-last (member other u no_member) key t b e = about-last no_member key t b e
about-last (member other u (member another v ms)) key t b e = about-last (member another v ms) key t b e

-- the values without it are among the values
pub without-kept : (ms : Members) → AreKept (values ms) → AreKept (values (without_about ms))
without-kept no_member kept = tt
without-kept (member key t no_member) kept = by (is_about key t)
  where
    by : (b : Bool) → AreKept (values (if b then no_member else member key t no_member))
    by true = tt
    by false = kept
without-kept (member key t (member other u ms)) kept = (kept.0, without-kept (member other u ms) kept.1)

-- ---- a command with an about

pub is-about : (t : Tree) → IsAbout t → is_about (codes "about") t ≡ true
is-about t about = rw (about-None t about) refl

-- ---- what holds of all of them

pub texts-last : (ms : Members) (key : List ℕ) (t : Tree) → IsText key → AreTextMembers (member key t no_member) → AreTextMembers ms
    → AreTextMembers (with_last ms key t)
texts-last no_member key t named last are = last
texts-last (member other u ms) key t named last are = (are.0, are.1, texts-last ms key t named last are.2)

pub depth-last : (ms : Members) (key : List ℕ) (t : Tree) (most : ℕ) → members_depth ms ≤ most → depth t ≤ most
    → members_depth (with_last ms key t) ≤ most
depth-last no_member key t most deep last = omega (arith, last)
depth-last (member other u ms) key t most deep last =
    let rest = depth-last ms key t most (omega (arith, deep)) last in
    omega (arith, deep, rest)

-- ---- its lines

-- what the last member adds
pub lines-last : (ms : Members) (key : List ℕ) (t : Tree)
    → members_after (with_last ms key t) 0 ≡ members_after ms 0 ++ (key_lines 0 key ++ value_at t 0)
lines-last no_member key t = append-nil (key_lines 0 key ++ value_at t 0)
lines-last (member other u ms) key t =
    ap (λ xs. (key_lines 0 other ++ value_at u 0) ++ xs) (lines-last ms key t)
    ∙ sym (append_assoc (key_lines 0 other ++ value_at u 0) (members_after ms 0) (key_lines 0 key ++ value_at t 0))

-- ---- pairs of the code

-- the pairs with one more at the end
pub pairs-last : (ps : List Pair) (p : Pair) (key : List ℕ) (t : Tree) → members_of (p ∷ []) ≡ member key t no_member
    → members_of (ps ++ p ∷ []) ≡ with_last (members_of ps) key t
pairs-last ps p key t e =
    members_of-append ps (p ∷ []) ∙ ap (join_members (members_of ps)) e ∙ join-last (members_of ps) key t
