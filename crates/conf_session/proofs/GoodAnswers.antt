-- The tree of each answer is good, and its document reads as it.
use Rattle.std.{proofs.Common.{◌≡◌, refl, sym, ap, subst, arith, ◌≤◌}, specs.Prelude.{ℕ, zero, suc, Bool, true, false, if◌then◌else◌, List}}
use Rattle.std.specs.{Prelude.{[], ◌∷◌, ◌++◌, length, codes, decimal, Option, Some, None, Result, Ok, Err}, Str.all_scalars}
use lib.Utf8.{scalar}
use Rattle.std.proofs.lemmas.Str.{chars-encodes}
use Rattle.conf_session.proofs.Prelude.{and_parts, and_from, nat_tests, list_all, same_text, code_point, IsText, byte_len, byte_len-append}
use Rattle.conf_session.proofs.Prelude.{byte_len-encoded, Tree, text, sequence, mapping, Elements, no_element, element, Members, no_member}
use Rattle.conf_session.proofs.Prelude.{member, depth, elements_distinct, AreTextElements, AreTextMembers, style_text, plain_in_style}
use Rattle.conf_session.proofs.Prelude.{word_char, framed_text, framed_text_bytes, Good, Gives, own_limits, at, at_from, at_step}
use Rattle.conf_session.proofs.Prelude.{child-within, Miss, path_of, Contents, Entry, names_of, count_limit, IsState, AreConfigs, Command}
use Rattle.conf_session.proofs.Prelude.{StoreFault, ConditionFault, and_then-Ok, step-one, by_path, tree_named, outcome, room_for}
use Rattle.conf_session.proofs.{Prelude.first_fault, WordLemmas.word_plain, AnswerLemmas.texts-shallow, LengthLemmas.answer-short}
use Rattle.conf_session.{proofs.LengthLemmas.{by_path-Ok, step-few, tree_named-good}, specs.declared.fault.SessionFault.SessionFault}
use Rattle.conf_session.specs.{declared.words.Refusal.Refusal, Requests.{Request, changing, unread, getting, exporting, naming}}
use Rattle.conf_session.specs.{Requests.{checkpointing, if_met, overlong_about, bad}, Answers.{Stored, longest, one, text_elements}}
use Rattle.conf_session.specs.Answers.{answered, refused_answer, answer_or_refusal, value_at_path, change_answer, document_bytes, answer}
use Rattle.conf_session.specs.{Answers.{answer_limit, condition_answered, unless_failed, word}, AnswersRead.{IsDocumentOf, AnswersAreRead}}
use Rattle.{conf_record.proofs.RecordLemmas.{name_is_text, decimal_is_text}, tree_path.proofs.EditLaws.child-distinct}
use Rattle.tree_path.{proofs.StepLaws.present-Ok, specs.Paths.{child, Index, number, after_last, no_index, index_of, at_index, element_at}}
use Rattle.tree_path.specs.{Paths.{value_of, refusal as step_refusal}, declared.place.Miss.TheVariants.Absent}
use Rattle.{yaml_grammar.specs.Trees.{IsTextTree, distinct}, yaml_recognizers.proofs.OneStyle.StyleTexts.style_is_text}
use Rattle.{yaml_recognizers.specs.{Closings.ClosedOnce, StyleLaws.FramedReads}, yaml_tree.specs.Reading.IsRead}
use Rattle.conf_session.specs.declared.words.Refusal.TheVariants as why

-- ---- trees of texts whose keys differ, and so deep at most

record Fine (t : Tree) (most : ℕ) : Type 0 where
  pub texts : IsTextTree t
  pub keys : distinct t ≡ true
  pub deep : depth t ≤ most

-- with a key before it
fine-one : (key : List ℕ) (v : Tree) → IsText key → Fine v 130 → Fine (one key v) 131
fine-one key v is fine = record {
  texts = (is, fine.texts, tt);
  keys = and_from _ _ fine.keys refl;
  deep = (let deep = fine.deep in omega (arith, deep));
}

-- ---- a value in such a tree

element-texts : (ts : Elements) (n : ℕ) (u : Tree) → AreTextElements ts → element_at ts n ≡ Some u → IsTextTree u
element-texts no_element n u h is = cc
element-texts (element t ts) zero u h is = let same : t ≡ u = cc in subst IsTextTree same h.0
element-texts (element t ts) (suc n) u h is = element-texts ts n u h.1 is

member-texts : (ms : Members) (key : List ℕ) (u : Tree) → AreTextMembers ms → value_of ms key ≡ Some u → IsTextTree u
member-texts no_member key u h is = cc
member-texts (member other t ms) key u h is = by (same_text key other) is (member-texts ms key u h.2)
  where
    by : (b : Bool) → (if b then Some t else value_of ms key) ≡ Some u → (value_of ms key ≡ Some u → IsTextTree u) → IsTextTree u
    by true e rest = let same : t ≡ u = cc in subst IsTextTree same h.1
    by false e rest = rest e

child-texts : (t u : Tree) (token : List ℕ) → IsTextTree t → child t token ≡ Ok u → IsTextTree u
unfolding child
child-texts (text value) u token h is = cc
child-texts (sequence ts) u token h is = in_sequence (index_of token) is
  where
    in_sequence : (index : Index) → at_index index (element_at ts) (Err Absent) ≡ Ok u → IsTextTree u
    in_sequence (number n) e = element-texts ts n u h (present-Ok _ u e)
    in_sequence after_last e = cc
    in_sequence no_index e = cc
child-texts (mapping ms) u token h is = member-texts ms token u h (present-Ok _ u is)

at-fine : (step : ℕ) (t v : Tree) (tokens : List (List ℕ)) (most : ℕ) → at_from step t tokens ≡ Ok v → Fine t most → Fine v most
at-fine step t v [] most e fine = let same : t ≡ v = cc in subst (λ u. Fine u most) same fine
at-fine step t v (token ∷ tokens) most e fine = by (child t token) (λ u. at-fine (suc step) u v tokens most) refl e
  where
    by : (r : Result Tree Miss) → ((u : Tree) → at_from (suc step) u tokens ≡ Ok v → Fine u most → Fine v most) → child t token ≡ r
        → at_step step r (λ u. at_from (suc step) u tokens) ≡ Ok v → Fine v most
    by (Ok u) rest is e = rest u e (record {
      texts = child-texts t u token fine.texts is;
      keys = child-distinct t u token fine.keys is;
      deep = (let here = (child-within t u token is).1 in let deep = fine.deep in omega (arith, here, deep));
    })
    by (Err miss) rest is e = let never : Err (step_refusal miss step) ≡ Ok v = e in cc

-- a configuration
named-fine : (s : Contents) (name : List ℕ) (t : Tree) → IsState s → tree_named s name ≡ Ok t → Fine t 130
named-fine s name t kept is =
    let good = tree_named-good s name t kept is in
    record { texts = good.texts; keys = good.keys; deep = (let deep = good.deep in omega (arith, deep)) }

-- ---- texts

word-code_point : (c : ℕ) → word_char c ≡ true → code_point c ≡ true
word-code_point c e = grind (arith, nat_tests)

word-texts : (cs : List ℕ) → list_all word_char cs ≡ true → IsText cs
word-texts [] all = refl
word-texts (c ∷ cs) all =
    let parts : (word_char c ≡ true) × (list_all word_char cs ≡ true) = and_parts _ _ all in
    and_from _ _ (word-code_point c parts.0) (word-texts cs parts.1)

plain-text : (value : List ℕ) → plain_in_style value ≡ true → IsText value
plain-text value plain = word-texts value (and_parts _ _ (and_parts _ _ (and_parts _ _ plain).0).0).1

fine-text : (value : List ℕ) → IsText value → Fine (text value) 130
fine-text value is = record { texts = is; keys = refl; deep = omega arith }

names-texts : (es : List Entry) → AreConfigs es → AreTextElements (text_elements (names_of es))
names-texts [] all = tt
names-texts (e ∷ es) all = (name_is_text e.0 all.0, names-texts es all.2)

texts-distinct : (values : List (List ℕ)) → elements_distinct (text_elements values) ≡ true
texts-distinct [] = refl
texts-distinct (value ∷ values) = texts-distinct values

names-fine : (s : Contents) → IsState s → Fine (sequence (text_elements (names_of s.configs))) 130
names-fine s kept = record {
  texts = names-texts s.configs kept.configs;
  keys = texts-distinct (names_of s.configs);
  deep = (let few = texts-shallow (names_of s.configs) in omega (arith, few));
}

-- ---- answers

-- the answer, where there is one
abbrev IsFine : Option Tree → Type 0
IsFine None = Unit {0}
IsFine (Some t) = Fine t 131

refused-fine : (r : Result Refusal SessionFault) → IsFine (refused_answer r)
refused-fine (Ok reason) = fine-one (codes "refused") (text (word reason)) refl (fine-text (word reason)
    (plain-text (word reason) (word_plain reason)))
refused-fine (Err end) = tt

count-fine : (n : ℕ) → n ≤ count_limit → Fine (one (codes "ok") (text (decimal n))) 131
count-fine n small = fine-one (codes "ok") (text (decimal n)) refl (fine-text (decimal n) (decimal_is_text n small))

change-fine : (now : Stored) (command : Command) (r : Result Contents StoreFault) → outcome (longest now) now.state command ≡ r
    → IsFine (change_answer r)
change-fine now command (Ok new) is =
    let room = room_for (longest now) now.state command in
    let few = step-few now.state new command room is in
    let counts = step-one now.state new command room is in
    count-fine new.count (omega (arith, few, counts))
change-fine now command (Err fault) is = refused-fine (answered fault)

value-fine : (s : Contents) → IsState s → (name p : List ℕ) (r : Result Tree StoreFault) → value_at_path s name p ≡ r
    → IsFine (answer_or_refusal (one (codes "value")) r)
value-fine s kept name p (Ok v) is =
    let named = and_then-Ok (tree_named s name) _ v is in
    let parsed = and_then-Ok (by_path (path_of p)) _ v named.2 in
    fine-one (codes "value") v refl (at-fine 1 named.0 v parsed.0 130 (by_path-Ok (at named.0 parsed.0) v parsed.2)
    (named-fine s name named.0 kept named.1))
value-fine s kept name p (Err fault) is = refused-fine (answered fault)

text-fine : (s : Contents) → IsState s → (name : List ℕ) (r : Result Tree StoreFault) → tree_named s name ≡ r
    → IsFine (answer_or_refusal (λ t. one (codes "text") (text (style_text t))) r)
text-fine s kept name (Ok t) is =
    fine-one (codes "text") (text (style_text t)) refl
    (fine-text (style_text t) (style_is_text t (tree_named-good s name t kept is).texts))
text-fine s kept name (Err fault) is = refused-fine (answered fault)

answer-fine : (now : Stored) (request : Request) → IsState now.state → IsFine (answer now request)
answer-fine now (changing command) kept = change-fine now command (outcome (longest now) now.state command) refl
answer-fine now (unread fault) kept = refused-fine (answered fault)
answer-fine now (getting name p) kept = value-fine now.state kept name p (value_at_path now.state name p) refl
answer-fine now (exporting name) kept = text-fine now.state kept name (tree_named now.state name) refl
answer-fine now naming kept =
    fine-one (codes "names") (sequence (text_elements (names_of now.state.configs))) refl (names-fine now.state kept)
answer-fine now checkpointing kept = count-fine now.state.count kept.numbered
answer-fine now (if_met conditions request) kept = by (first_fault now.state conditions) (answer-fine now request kept)
  where
    by : (failed : Option ConditionFault) → IsFine (answer now request)
        → IsFine (unless_failed failed (answer now request) (λ fault. refused_answer (condition_answered fault)))
    by None fine = fine
    by (Some fault) fine = refused-fine (condition_answered fault)
answer-fine now overlong_about kept = refused-fine (Ok why.AboutLarge)
answer-fine now bad kept = refused-fine (Ok why.BadCommand)

-- ---- texts as bytes

text-scalars : (cs : List ℕ) → IsText cs → all_scalars cs ≡ true
text-scalars [] is = refl
text-scalars (c ∷ cs) is =
    let parts : (code_point c ≡ true) × (list_all code_point cs ≡ true) = and_parts _ _ is in
    and_from _ _ (here c parts.0) (text-scalars cs parts.1)
  where
    here : (c : ℕ) → code_point c ≡ true → scalar c ≡ true
    here c e = grind (arith, nat_tests)

-- the framed text, in bytes, reads as the tree
framed-is-read : FramedReads → (t : Tree) → Good t own_limits → byte_len (framed_text t) ≤ own_limits.bytes
    → IsRead (framed_text_bytes t) own_limits t
framed-is-read reads t good short =
    let gives : Gives (framed_text t) own_limits t = reads t own_limits good short in
    let scalars = text-scalars (framed_text t) gives.reads.source in
    record {
      utf8 = (framed_text t, (scalars, refl));
      gives = subst (λ cs. Gives cs own_limits t) (sym (chars-encodes (framed_text t) scalars)) gives;
    }

-- ---- together

-- bytes give one tree at most
abbrev BytesGiveOne : Type 0
BytesGiveOne = (bytes : List ℕ) (t u : Tree) → IsRead bytes own_limits t → IsRead bytes own_limits u → t ≡ u

document-of : FramedReads → ClosedOnce → BytesGiveOne → (t : Tree) → Fine t 131 → length (framed_text_bytes t) ≤ answer_limit
    → IsDocumentOf t (framed_text_bytes t)
document-of reads closed one_tree t fine short =
    let all = byte_len-encoded (framed_text t) in
    let framed = byte_len-append (codes "---\n") (style_text t ++ codes "...\n") in
    let style = byte_len-append (style_text t) (codes "...\n") in
    let good : Good t own_limits = record {
      texts = fine.texts;
      keys = fine.keys;
      deep = fine.deep;
      long = omega (arith, all, framed, style, short);
    } in
    let is = framed-is-read reads t good (omega (arith, all, short)) in
    record { good = good; closes = closed t; reads = is; once = λ other reads. one_tree (framed_text_bytes t) other t reads is }

pub answers-read : FramedReads → ClosedOnce → BytesGiveOne → AnswersAreRead
answers-read reads closed one_tree now request t kept is =
    subst (IsDocumentOf t) (sym (ap document_bytes is))
    (document-of reads closed one_tree t (subst IsFine is (answer-fine now request kept))
    (let short = answer-short now request kept in let same = ap (λ o. length (document_bytes o)) is in omega (arith, short, same)))
