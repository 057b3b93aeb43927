-- A writer of a document after one event more, and at the end.
use Rattle.std.proofs.Common.{◌≡◌, ◌≢◌, ℕ, ◌-◌, ◌<◌, ◌≤◌, nat_le, Bool, true, false, if◌then◌else◌, ◌++◌, List, [], ◌∷◌, length, Option}
use Rattle.std.proofs.Common.{Some, None, Result, Err, ◌↔◌, encode_utf8_all, refl, sym, ap, subst, ◌∙◌, arith}
use Rattle.yaml_tree.proofs.Prelude.{leb-true, leb-false, events_of, ReadFault, TooLong, KeyTwice, TooDeep, LargeInStyle, Limits, Good}
use Rattle.yaml_tree.proofs.{Prelude.{style_text, byte_len, Tree, Shape, byte_len-chars, shapes}, EventLemmas.run_tree, FrameLemmas.run}
use Rattle.yaml_tree.proofs.{FrameLemmas.finished_whole, ReadLemmas.tree_read, OpenTextLemmas.{IsTextOf, HasTexts, HasIndent, step_text}}
use Rattle.yaml_tree.{proofs.OpenTextLemmas.{step_texts, step_indent, added-kept, BringsText-kept}, specs.Documents.IsDocument}
use Rattle.yaml_tree.specs.{Documents.{IsWrittenTo, with_style}, Kept.{keys, elements_by, no_tree, kept_frames}, OpenParts.HoldsKeys}
use Rattle.yaml_tree.specs.{OpenParts.{Took, Finished}, Frames.{Frame, whole, step, finished_tree}, OpenText.{text_of, added}}
use Rattle.yaml_tree.specs.{OpenText.{AreTextFrames, BringsText}, Reading.{IsRead, Refuses, RefusesTree}}
use Rattle.yaml_tree.specs.{declared.{documents.Document.Document, format.DocumentWriter.DocumentWriter}, Formatting.{IsFormatted, Writes}}
use Rattle.{yaml_tree.specs.Formatting.{Wrote, IsWritten, indent_after}, yaml_writer.specs.{Budget.left_after, Limited.TakesLimited}}
use Rattle.yaml_writer.specs.{Limited.{room_left, taken}, declared.limited.LimitedText.LimitedText}
use Rattle.yaml_events.specs.declared.event.Event.{Event as CodeEvent}

-- a writer before the first event
pub begins : {S : Type 0} (takes : S → List ℕ → S → Type 0) (start : S) (writer : DocumentWriter) → takes start [] start
    → HoldsKeys writer.parts [] → writer.indent ≡ 0 → Writes takes start start writer []
begins takes start writer none keeps indent =
    record { keeps = keeps; indent = indent; room = omega (arith, indent); texts = tt; text = none }

-- a writer that has taken an event
pub wrote : {S : Type 0} (takes : S → List ℕ → S → Type 0)
    → ((a b c : S) (xs ys : List ℕ) → takes a xs b → takes b ys c → takes a (xs ++ ys) c)
    → (start before after : S) (old new : DocumentWriter) (fs : List Frame) (s : Shape) → Writes takes start before old fs
    → Took keys no_tree (λ items. elements_by items.is_empty) new.parts (step fs s)
    → new.indent ≡ indent_after old.indent s → new.indent < 4294967296
    → BringsText (kept_frames keys fs) s → takes before (added (kept_frames keys fs) s) after → Wrote takes start after new (step fs s)
wrote takes takes_both start before after old new fs s writes took indent room brings put =
    let more = subst (λ cs. takes before cs after) (added-kept fs s) put in
    let both = takes_both start before after (text_of fs) (added fs s) writes.text more in
    let lines = subst (λ o. IsTextOf o (text_of fs ++ added fs s)) took.are (step_text fs s) in
    let texts = subst HasTexts took.are (step_texts fs s writes.texts (BringsText-kept fs s brings)) in
    let deeper = subst (λ o. HasIndent (indent_after old.indent s) o) took.are
    (subst (λ i. HasIndent (indent_after i s) (step fs s)) (sym writes.indent) (step_indent fs s)) in
    record {
      parts = took.parts;
      are = took.are;
      writes = record {
        keeps = took.keeps;
        indent = indent ∙ deeper;
        room = room;
        texts = texts;
        text = subst (λ cs. takes start cs after) (sym lines) both;
      };
    }

-- a document whose tree is finished
pub is_written : {S : Type 0} (takes : S → List ℕ → S → Type 0) (start now : S) (writer : DocumentWriter)
    (es : List CodeEvent) (value : Tree) (differ : Bool) (fs : List Frame)
    → Writes takes start now writer fs → run (Some []) (shapes (events_of es)) ≡ Some fs → Finished keys value differ (finished_tree fs)
    → IsWritten takes start now (events_of es) differ
is_written takes start now writer es value differ fs writes done has =
    let alone = finished_whole fs has.tree has.is in
    let texts : AreTextFrames (whole has.tree ∷ []) = subst AreTextFrames alone writes.texts in
    record {
      tree = has.tree;
      is_tree = run_tree (events_of es) fs has.tree done has.is;
      texts = texts.0;
      keys = has.keys;
      text = subst (λ gs. takes start (text_of gs) now) alone writes.text;
    }

-- ---- a document that was read

-- it was written
pub written_to : {S : Type 0} (takes : S → List ℕ → S → Type 0) (bytes : List ℕ) (limits : Limits)
    (document : Document) (start now : S) (differ : Bool)
    → IsDocument bytes limits document → (written : IsWritten takes start now (events_of document.events) differ) → differ ≡ true
    → document.depth ≤ limits.depth → IsWrittenTo takes bytes limits start now
written_to takes bytes limits document start now differ is written differs shallow =
    let any = with_style limits (byte_len (style_text written.tree)) in
    let good : Good written.tree any = record {
      texts = written.texts;
      keys = sym written.keys ∙ differs;
      deep = subst (λ n. n ≤ limits.depth) (is.as_deep written.tree written.is_tree) shallow;
      long = omega arith;
    } in
    record {
      tree = written.tree;
      reads = tree_read bytes any document.events written.tree is.reads written.is_tree
          good;
      text = written.text;
    }

-- it has equal keys in a mapping
pub twice_refused : {S : Type 0} (takes : S → List ℕ → S → Type 0) (bytes : List ℕ) (limits : Limits)
    (document : Document) (start now : S) (differ : Bool)
    → IsDocument bytes limits document → IsWritten takes start now (events_of document.events) differ → differ ≡ false
    → RefusesTree bytes limits KeyTwice
twice_refused takes bytes limits document start now differ is written same = record {
  text = is.reads.text;
  events = events_of document.events;
  reads = is.reads.reads;
  tree = written.tree;
  is_tree = written.is_tree;
  first = sym written.keys ∙ same;
}

-- its tree is too deep
pub depth_refused : {S : Type 0} (takes : S → List ℕ → S → Type 0) (bytes : List ℕ) (limits : Limits)
    (document : Document) (start now : S) (differ : Bool)
    → IsDocument bytes limits document → IsWritten takes start now (events_of document.events) differ → differ ≡ true
    → limits.depth < document.depth → RefusesTree bytes limits TooDeep
depth_refused takes bytes limits document start now differ is written differs deep = record {
  text = is.reads.text;
  events = events_of document.events;
  reads = is.reads.reads;
  tree = written.tree;
  is_tree = written.is_tree;
  first = (sym written.keys ∙ differs, subst (λ n. limits.depth < n) (is.as_deep written.tree written.is_tree) deep);
}

-- a fault of a text that is not too long says so
pub not_too_long : {A : Type 0} (bytes : List ℕ) (limits : Limits) (document : Document) (fault : ReadFault) (r : Result A ReadFault)
    → IsDocument bytes limits document → Refuses bytes limits fault → r ≡ Err fault
    → (r ≡ Err TooLong) ↔ (limits.bytes < length bytes)
not_too_long bytes limits document fault r is refused err =
    let short = is.reads.text.short in (
      λ e. let same : fault ≡ TooLong = cc in subst (Refuses bytes limits) same refused,
      λ long. absurd (omega (arith, short, long)),
    )

-- ---- a text of limited length

-- whether a budget is kept tells whether it was enough
pub kept_within : (limit n : ℕ) (left : Option ℕ) → left ≡ left_after (Some limit) n → left ≢ None → n ≤ limit
kept_within limit n left e kept = by_test (nat_le n limit) refl
  where
    by_test : (b : Bool) → nat_le n limit ≡ b → n ≤ limit
    by_test true test = leb-true n limit test
    by_test false test = absurd (kept (e ∙ ap (λ b. if b then Some (limit - n) else None) test))

spent_beyond : (limit n : ℕ) (left : Option ℕ) → left ≡ left_after (Some limit) n → left ≡ None → limit < n
spent_beyond limit n left e spent = by_test (nat_le n limit) refl
  where
    by_test : (b : Bool) → nat_le n limit ≡ b → limit < n
    by_test true test =
        let some : left ≡ Some (limit - n) = e ∙ ap (λ b. if b then Some (limit - n) else None) test in
        absurd (none_some (sym spent ∙ some))
      where
        none_some : {x : ℕ} → None ≡ Some x → ⊥
        none_some h = cc
    by_test false test = leb-false n limit test

-- a text that is given, but for its length, is given if it isn't longer
pub read_within : {S : Type 0} {takes : S → List ℕ → S → Type 0} (bytes : List ℕ) (limits : Limits) {start now : S}
    → (w : IsWrittenTo takes bytes limits start now) → byte_len (style_text w.tree) ≤ limits.style → IsRead bytes limits w.tree
read_within bytes limits w long =
    let given = w.reads.gives in
    record {
      utf8 = w.reads.utf8;
      gives = record {
        short = given.short;
        events = given.events;
        reads = given.reads;
        tree = given.tree;
        good = record { texts = given.good.texts; keys = given.good.keys; deep = given.good.deep; long = long };
      };
    }

-- and is refused if it is longer
pub large_refused : {S : Type 0} {takes : S → List ℕ → S → Type 0} (bytes : List ℕ) (limits : Limits) {start now : S}
    → (w : IsWrittenTo takes bytes limits start now) → limits.style < byte_len (style_text w.tree) → RefusesTree bytes limits LargeInStyle
large_refused bytes limits w large =
    let given = w.reads.gives in
    record {
      text = record { short = subst (λ n. n ≤ limits.bytes) (byte_len-chars bytes w.reads.utf8) given.short; utf8 = w.reads.utf8 };
      events = given.events;
      reads = given.reads;
      tree = w.tree;
      is_tree = given.tree;
      first = (given.good.keys, given.good.deep, large);
    }

-- the text that was written of a document within the limits
pub formatted : (bytes : List ℕ) (limits : Limits) (start now : LimitedText) → IsWrittenTo TakesLimited bytes limits start now
    → room_left start ≡ Some limits.style → taken start ≡ [] → room_left now ≢ None → IsFormatted bytes limits (taken now)
formatted bytes limits start now w limit empty kept =
    let n = byte_len (style_text w.tree) in
    record {
      tree = w.tree;
      reads = read_within bytes limits w (kept_within limits.style n (room_left now)
          (w.text.0 ∙ ap (λ left. left_after left n) limit) kept);
      style = w.text.1 kept ∙ ap (λ before. before ++ encode_utf8_all (style_text w.tree)) empty;
    }

-- what is refused where the text is too long in the one style
pub too_large : (bytes : List ℕ) (limits : Limits) (start now : LimitedText) → IsWrittenTo TakesLimited bytes limits start now
    → room_left start ≡ Some limits.style → room_left now ≡ None → RefusesTree bytes limits LargeInStyle
too_large bytes limits start now w limit spent =
    let n = byte_len (style_text w.tree) in
    large_refused bytes limits w (spent_beyond limits.style n (room_left now) (w.text.0 ∙ ap (λ left. left_after left n) limit) spent)
