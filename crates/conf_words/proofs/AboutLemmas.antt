-- Words that are an about, and words that are none.
use Rattle.std.{proofs.Common.{◌≡◌, ◌≢◌, ℕ, Bool, ◌==◌, true, false, List, [], ◌∷◌, refl, ap, ◌∙◌, map}, specs.Prelude.{Option, Some, None}}
use Rattle.std.specs.{Prelude.{is_some, length}, Borrow.Bor, Str.chars}
use Rattle.conf_about.specs.{AboutWords.{fault_in, said_by}, Abouts.fault_of, declared.fault.AboutFault.AboutFault}
use Rattle.{conf_about.specs.declared.fault.AboutFault.TheVariants.OutOfMemory as NoMemory, yaml_grammar.specs.Trees.Tree}
use Rattle.conf_words.specs.{Abouts.{IsUnaskedFor, are_wrong}, declared.refusal.Unasked.{Unasked, TheVariants.{Because, OutOfMemory}}}

-- words, each as its code points
pub pairs-so : (words : List (Bor (List ℕ))) → map chars (map (λ (w : Bor (List ℕ)). w.now) words)
    ≡ map (λ (w : Bor (List ℕ)). chars w.now) words
pairs-so [] = refl
pairs-so (word ∷ words) = ap (λ (others : List (List ℕ)). chars word.now ∷ others) (pairs-so words)

-- words that say an about are not wrong
pub are-right : (words : List (List ℕ)) (t : Tree) → said_by words ≡ Some t → fault_of t ≡ None → are_wrong words ≡ false
are-right [] t said good = refl
are-right (word ∷ words) t said good =
    ap (λ (tree : Option Tree). is_some (fault_in tree)) said ∙ ap (λ (fault : Option AboutFault). is_some fault) good

-- some words that say a fault are
pub are-wrong-by : (words : List (Bor (List ℕ))) (fault : AboutFault) → (length words == 0) ≡ false
    → fault_in (said_by (map (λ (w : Bor (List ℕ)). chars w.now) words)) ≡ Some fault
    → are_wrong (map (λ (w : Bor (List ℕ)). chars w.now) words) ≡ true
are-wrong-by [] fault some said = absurd (cc some)
are-wrong-by (word ∷ words) fault some said = ap (λ (f : Option AboutFault). is_some f) said

-- Why words with a fault ask for nothing: memory ran out, or they are wrong.
pub refused-so : (fault : AboutFault) (why : Unasked) (wrong : Bool) → (fault ≡ NoMemory → why ≡ OutOfMemory)
    → (fault ≢ NoMemory → wrong ≡ true) → IsUnaskedFor wrong why
refused-so fault (Because why) wrong memory other = other (λ is. cc (memory is))
refused-so fault OutOfMemory wrong memory other = tt
