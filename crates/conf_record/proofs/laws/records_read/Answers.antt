use Rattle.std.proofs.{Common.{◌≤◌, ℕ, ap, sym, subst, ◌∙◌}, lemmas.Option.same_Some}
use Rattle.conf_record.proofs.Prelude.{Gives, Tree, own_limits, closed_document, Command, Contents, count_limit, IsState}
use Rattle.conf_record.proofs.{AcceptedLemmas.accepted, RecordLemmas.{FramedGood, framed_document, record_good, record_tells}}
use Rattle.conf_record.{proofs.FormatLemmas.{tree_in, text_in, good_in, tells_in}, specs.Formats.base_text_in}
use Rattle.conf_record.specs.{declared.format.Format.Format, Records.{record_tree, record_text, FitsRecord}, SmallCommands.IsSmallCommand}
use Rattle.{conf_record.specs.RecordsRead.{record_of, base_of, IsCommand, ReadsRecord}, yaml_recognizers.specs.StyleLaws.FramedReads}
use Rattle.conf_record.proofs.laws.records_read.Goals as goal

-- a closed document gives its tree
document_gives : FramedReads → (t : Tree) → FramedGood t → Gives (closed_document t) own_limits t
document_gives reads t framed = subst (λ source. Gives source own_limits t) (framed_document t)
    (reads t own_limits framed.good framed.short)

-- a base text gives the tree of its format
base_gives : FramedReads → (format : Format) (s : Contents) → IsState s → Gives (base_text_in format s) own_limits (tree_in format s)
base_gives reads format s kept =
    subst (λ source. Gives source own_limits (tree_in format s)) (sym (text_in format s))
    (document_gives reads (tree_in format s) (good_in format s kept))

pub returns-clause-base : goal.returns-clause-base
returns-clause-base c = λ format s kept.
    record {
      tree = tree_in format s;
      gives = base_gives c.style_reads.ensures.framed format s kept;
      tells = tells_in format s kept.numbered;
      kept = kept;
    }

pub returns-clause-one_base : goal.returns-clause-one_base
returns-clause-one_base c = λ format s other kept reads.
    let own = base_gives c.style_reads.ensures.framed format s kept in
    let same = c.one_tree.ensures (base_text_in format s) own_limits own_limits (tree_in format s) reads.tree own reads.gives in
    same_Some other s (sym reads.tells ∙ sym (ap base_of same) ∙ tells_in format s kept.numbered)

-- the record of a small command is read back
small_reads : FramedReads → (command : Command) (number : ℕ) → IsCommand command → IsSmallCommand command
    → number ≤ count_limit → FitsRecord command number
    → ReadsRecord (record_text command number) command number
unfolding record_text
small_reads reads command number is ok numbered fits = record {
  tree = record_tree command number;
  gives = document_gives reads (record_tree command number) (record_good command number is ok numbered fits);
  tells = record_tells command number is ok numbered;
}

pub returns-clause-small : goal.returns-clause-small
returns-clause-small c = small_reads c.style_reads.ensures.framed

pub returns-clause-record : goal.returns-clause-record
returns-clause-record c = λ s new command room number kept is done numbered fits.
    small_reads c.style_reads.ensures.framed command number is (accepted s new command room kept done) numbered fits

pub returns-clause-one_record : goal.returns-clause-one_record
unfolding record_text
returns-clause-one_record c = λ s new command other room number read kept is done numbered fits reads.
    let ok = accepted s new command room kept done in
    let own = document_gives c.style_reads.ensures.framed (record_tree command number) (record_good command number is ok numbered fits) in
    let same = c.one_tree.ensures (closed_document (record_tree command number)) own_limits own_limits
    (record_tree command number) reads.tree own reads.gives in
    let pair = same_Some (other, read) (command, number)
    (sym reads.tells ∙ sym (ap record_of same) ∙ record_tells command number is ok numbered) in
    (ap (λ p. p.0) pair, ap (λ p. p.1) pair)
