-- What is kept so far has the comments before the next one.
use Rattle.std.proofs.Common.{◌≡◌, ◌++◌, [], drop}
use Rattle.comments_kept.specs.{Keeping.{AreTexts, texts_at}, Places.{marks_from, marks_of}, Weaving.texts_of}
use Rattle.comments_kept.proofs.plan.plan.Given as goal

abbrev pub invariant-loop-comment : goal.invariant-loop-comment
invariant-loop-comment l =
    AreTexts l.bytes (drop l.comment-index l.found)
    × (texts_of l.kept.items ++ texts_at l.bytes (drop l.comment-index l.found) ≡ texts_at l.bytes l.found)
    × (l.found ≡ [] → l.kept.items ≡ [])
    × (marks_of l.kept.items
    ++ marks_from l.bytes l.layout.rows.items l.layout.collections.items l.row (drop l.comment-index l.found)
    ≡ marks_from l.bytes l.layout.rows.items l.layout.collections.items 0 l.found)
