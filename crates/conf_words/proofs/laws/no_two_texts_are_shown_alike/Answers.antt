-- What is shown can be read back, character by character.
use Rattle.conf_words.proofs.ShownLemmas.{shown-apart}
use Rattle.conf_words.proofs.laws.no_two_texts_are_shown_alike.Goals as goal

pub returns : goal.returns
returns c = record { apart = shown-apart }
