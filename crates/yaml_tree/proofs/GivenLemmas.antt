-- Bytes give one tree at most, and none where they are refused.
use Rattle.std.proofs.Common.{◌≡◌, ◌≢◌, ℕ, ◌<◌, true, false, List, refl, sym, subst, ◌∙◌, arith}
use Rattle.yaml_tree.proofs.Prelude.{chars, ReadFault, TooLong, NotUtf8, Syntax, Documents, KeyNotText, KeyTwice, TooDeep, LargeInStyle}
use Rattle.yaml_tree.proofs.Prelude.{OutOfMemory, Limits, Reads, Tree, depth, distinct, IsTreeOf, style_text, byte_len, byte_len-chars}
use Rattle.yaml_tree.{proofs.{EventLemmas.tree_is_one, NestedLemmas.collection_key_none, StartLemmas.tree_counted}, specs.Reading.IsRead}
use Rattle.{yaml_tree.specs.Reading.{RefusesTree, Refuses}, yaml_grammar.specs.Events.Event}

-- ---- what bytes give

one_reading : (source : List ℕ) (one other : List Event) → Reads source one → Reads source other → one ≡ other
one_reading source one other first second =
    let here = first.some in
    sym here.means ∙ second.every here.presentation here.presents

-- bytes give one tree at most
pub given_one : (bytes : List ℕ) (limits : Limits) (t u : Tree) → IsRead bytes limits t → IsRead bytes limits u → t ≡ u
given_one bytes limits t u first second =
    let one = first.gives in
    let two = second.gives in
    let same = one_reading (chars bytes) one.events two.events one.reads two.reads in
    tree_is_one two.events t u (subst (λ es. IsTreeOf es t) same one.tree) two.tree

-- a tree that bytes give is that of the events that they read as
given_by : (bytes : List ℕ) (limits : Limits) (es : List Event) (t : Tree) → Reads (chars bytes) es → IsRead bytes limits t → IsTreeOf es t
given_by bytes limits es t reads read =
    let given = read.gives in
    subst (λ fs. IsTreeOf fs t) (one_reading (chars bytes) given.events es given.reads reads) given.tree

refused_tree : (bytes : List ℕ) (limits : Limits) (fault : ReadFault) (r : RefusesTree bytes limits fault) (t : Tree)
    → IsRead bytes limits t → r.tree ≡ t
refused_tree bytes limits fault r t read = tree_is_one r.events r.tree t r.is_tree (given_by bytes limits r.events t r.reads read)

-- bytes that are refused give no tree
pub refused_none : (bytes : List ℕ) (limits : Limits) (fault : ReadFault) → fault ≢ OutOfMemory → Refuses bytes limits fault
    → (t : Tree) → IsRead bytes limits t → ⊥
refused_none bytes limits TooLong memory h t read =
    let given = read.gives in
    let same = byte_len-chars bytes read.utf8 in
    omega (arith, given.short, same, h)
refused_none bytes limits (NotUtf8 at) memory h t read = h.1 read.utf8
refused_none bytes limits (Syntax line column why) memory h t read =
    let given = read.gives in
    h.1 given.events given.reads
refused_none bytes limits (Documents count) memory h t read = h.4 (h.3 ∙ tree_counted h.1 t (given_by bytes limits h.1 t h.2 read))
refused_none bytes limits KeyNotText memory h t read = collection_key_none h.1 h.4 t (given_by bytes limits h.1 t h.2 read)
refused_none bytes limits KeyTwice memory h t read =
    let given = read.gives in
    let good = given.good in
    let keys : distinct t ≡ true = good.keys in
    let twice : distinct t ≡ false = subst (λ u. distinct u ≡ false) (refused_tree bytes limits KeyTwice h t read) h.first in
    cc
refused_none bytes limits TooDeep memory h t read =
    let given = read.gives in
    let good = given.good in
    let deep = subst (λ u. limits.depth < depth u) (refused_tree bytes limits TooDeep h t read) h.first.1 in
    omega (arith, good.deep, deep)
refused_none bytes limits LargeInStyle memory h t read =
    let given = read.gives in
    let good = given.good in
    let long = subst (λ u. limits.style < byte_len (style_text u)) (refused_tree bytes limits LargeInStyle h t read) h.first.2 in
    omega (arith, good.long, long)
refused_none bytes limits OutOfMemory memory h t read = memory refl
