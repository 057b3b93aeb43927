-- The text that was written gives the same tree and has the same comments.
use Rattle.std.{proofs.{Common.{◌≡◌, ◌≤◌, refl, sym, ◌∙◌, ap, subst, arith, length, inr}, lemmas.Str.chars_from_encodes}, specs.Prelude.ℕ}
use Rattle.std.specs.{Prelude.{Bool, true, false, MatchBool, nat_eq, List, [], encode_utf8_all, map}, List.list_all, Str.{IsUtf8, chars}}
use Rattle.std.specs.Cmp.Lexicographic.{same_text, other_text}
use Rattle.{yaml_chars.specs.Classes.nb, yaml_docs.proofs.TextPlaces.byte_len-chars, yaml_grammar.specs.Reads.{Limits, Good, Gives, Reads}}
use Rattle.{yaml_grammar.specs.{Style.style_text, Texts.byte_len, Trees.Tree, Events.Event}, yaml_tree.specs.Reading.IsRead}
use Rattle.yaml_commented.specs.{Commented.commented_text, CommentedLaws.{CommentedReads, BareIsStyle}}
use Rattle.yaml_comments.specs.{declared.find.Comment.Comment, Found.places_of, Comments.{HasComments, AreComments, comment_at}}
use Rattle.yaml_comments.specs.CommentLaws.{CommentedComments, CommentsOnce, CommentsOnLines, AreOnLines}
use Rattle.comments_kept.specs.{declared.weaver.Placed.Placed, Keeping.{with_bytes, GivesSameTree, HasSameComments, IsStyledIfBare}}
use Rattle.comments_kept.specs.Keeping.{AreTexts, texts_at, HasNoBlankLine, without_white, IsWritten, Writes, IsStyledWithComments, Changes}
use Rattle.comments_kept.specs.Keeping.{IsSettled}
use lib.Pointwise.{pointwise}
use Rattle.comments_kept.{specs.{Places.marks_of, Weaving.{IsWoven, texts_of}}, proofs.FoundTexts.{are_texts, lines_at, none_found}}
use Rattle.comments_kept.proofs.FoundTexts.{written_at}

module _ (bytes text : List ℕ) (limits : Limits) (t : Tree) (kept : List Placed) (w : IsWoven t kept text)
    (read : IsRead bytes limits t) where
  -- it is read as the tree
  pub read_again : CommentedReads → IsUtf8 text → IsRead text (with_bytes limits (length text)) t
  read_again law utf8 =
      let source : commented_text w.lead t w.trails ≡ chars text =
      chars_from_encodes (commented_text w.lead t w.trails) text utf8 (sym w.spells) in
      let good : Good t limits = read.gives.good in
      let wide : Good t (with_bytes limits (length text)) =
      record { texts = good.texts; keys = good.keys; deep = good.deep; long = good.long } in
      let short : byte_len (commented_text w.lead t w.trails) ≤ length text =
      omega (arith, ap byte_len source, byte_len-chars text utf8) in
      record {
        utf8 = utf8;
        gives = subst (λ cs. Gives cs (with_bytes limits (length text)) t) source
            (law w.lead t w.trails (with_bytes limits (length text)) wide w.fits short);
      }

  -- the same tree
  pub same_tree : CommentedReads → IsUtf8 text → GivesSameTree bytes limits text
  same_tree law utf8 = record { tree = t; reads = read; again = read_again law utf8 }

  -- the same comments
  pub same_comments : CommentedComments → (found : List (List ℕ)) → map without_white found ≡ map encode_utf8_all (texts_of kept)
      → HasComments bytes found → HasSameComments bytes text
  same_comments law found are has = record {
    comments = found;
    has = has;
    again = subst (λ bs. HasComments bs (map without_white found)) (sym w.spells)
        (subst (HasComments (encode_utf8_all (commented_text w.lead t w.trails))) (ap (map encode_utf8_all) w.has ∙ sym are)
        (law w.lead t w.trails read.gives.good.texts w.fits));
  }

  -- without comments and blank lines it is in the one style
  pub styled_if_bare : BareIsStyle → CommentsOnce → ((bs : List ℕ) (ls : Limits) (u v : Tree) → IsRead bs ls u → IsRead bs ls v → u ≡ v)
      → (found : List (List ℕ)) → HasComments bytes found → (HasNoBlankLine bytes → found ≡ [] → kept ≡ [])
      → IsStyledIfBare bytes limits text
  styled_if_bare law once one found has nothing = λ u lines none reads.
      let bare = w.bare (nothing lines (once bytes found [] has none)) in
      w.spells ∙ ap encode_utf8_all (ap (λ lead. commented_text lead t w.trails) bare.0 ∙ law t w.trails bare.1
      ∙ ap style_text (one bytes limits t u read reads))

-- ---- the comments that were found

-- these are the comments of the bytes, each on one line
pub record AreFound (bytes : List ℕ) (cs : List Comment) : Type 0 where
  pub lines : list_all (list_all nb) (texts_at bytes cs) ≡ true
  pub has : HasComments bytes (map (comment_at bytes) (places_of cs))
  pub are : AreTexts bytes cs

-- so are those that the search finds
pub found : (bytes : List ℕ) (es : List Event) (cs : List Comment) → IsUtf8 bytes → Reads (chars bytes) es
    → AreComments bytes es 0 (places_of cs) → CommentsOnLines → AreFound bytes cs
found bytes es cs utf8 reads are law =
    let has : HasComments bytes (map (comment_at bytes) (places_of cs)) =
    record { events = es; reads = reads; places = places_of cs; are = are; written = refl } in
    let on : AreOnLines (map (comment_at bytes) (places_of cs)) = law bytes (map (comment_at bytes) (places_of cs)) utf8 has in
    record {
      lines = lines_at bytes cs on.texts on.written on.lines;
      has = has;
      are = are_texts bytes es 0 cs on.texts are on.written on.lines;
    }

-- ---- what was written

module _ (bytes : List ℕ) (t : Tree) (text : List ℕ) (w : IsWritten bytes t text) where
  -- it is what the rule gives
  pub writes : Writes bytes t text
  writes = record {
    kept = marks_of w.kept;
    plans = record { events = w.events; means = w.means; found = w.found; comments = w.comments; are = w.are };
    all = w.woven.all;
    spells = w.woven.exact;
  }

  -- with these comments
  pub has_found : HasComments bytes (map (comment_at bytes) (places_of w.found))
  has_found = record {
    events = w.events;
    reads = w.means;
    places = places_of w.found;
    are = w.comments;
    written = refl;
  }

  -- they are those of the text
  pub written_comments : (limits : Limits) → IsRead bytes limits t → CommentedComments → HasSameComments bytes text
  written_comments limits read law =
      same_comments bytes text limits t w.kept w.woven read law (map (comment_at bytes) (places_of w.found))
      (written_at bytes w.found ∙ ap (map encode_utf8_all) (sym w.texts)) has_found

  -- without comments and blank lines it is in the one style
  pub written_bare : (limits : Limits) → IsRead bytes limits t → BareIsStyle → CommentsOnce
      → ((bs : List ℕ) (ls : Limits) (u v : Tree) → IsRead bs ls u → IsRead bs ls v → u ≡ v) → IsStyledIfBare bytes limits text
  written_bare limits read law once one =
      styled_if_bare bytes text limits t w.kept w.woven read law once one (map (comment_at bytes) (places_of w.found)) has_found
      (λ lines none. w.bare lines (none_found bytes w.found none))

  -- in any case it is but for them
  pub written_style : (limits : Limits) → IsRead bytes limits t → IsStyledWithComments bytes limits text
  written_style limits read = record {
    tree = t;
    reads = read;
    lead = w.woven.lead;
    trails = w.woven.trails;
    fits = w.woven.fits;
    spells = w.woven.spells;
  }

-- what a test of two texts says of the text that was written once more
pub compared : (t : Tree) (text again : List ℕ) (same : Bool) → same ≡ pointwise nat_eq again text → Writes text t again
    → MatchBool same (Writes text t text) (Changes t text)
compared t text again true is w = subst (Writes text t) (same_text again text is) w
compared t text again false is w = inr (again, w, other_text again text is)

-- a text that is settled is read, and what is read of it gives it
pub settled : (limits : Limits) (t : Tree) (text : List ℕ) → IsRead text (with_bytes limits (length text)) t → Writes text t text
    → IsSettled limits text
settled limits t text read writes = record { tree = t; read = read; writes = writes }
