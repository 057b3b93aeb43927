-- A file that is changed in its place.
use Rattle.std.proofs.Common.{◌≡◌, ℕ, ◌<◌, ◌+◌, List, ◌++◌, length, get_or, set, map, take, drop, sym, ◌∙◌, ap, arith}
use Rattle.std.proofs.lemmas.List.{map-set, get_or-map, get_or_default, length-map, Edits.map_over_more}
use Rattle.{conf_system.specs.Machine.{Held, empty_held, settled}, test_system.specs.{Replay.held_of, declared.version.HeldData.HeldData}}

-- the data at a place is replaced, and the file there is changed so
pub map-set-change : (xs : List HeldData) (i : ℕ) (x y : HeldData) (change : Held → Held) → i < length xs
    → x ≡ get_or xs i x → held_of y ≡ change (held_of x)
    → map held_of (set xs i y) ≡ set (map held_of xs) i (change (get_or (map held_of xs) i empty_held))
map-set-change xs i x y change within at is =
    let old : get_or (map held_of xs) i empty_held ≡ held_of x = get_or-map held_of xs i x empty_held within ∙ ap held_of (sym at) in
    map-set held_of xs i y ∙ ap (λ (z : Held). set (map held_of xs) i z) (is ∙ ap change (sym old))

-- one file more is settled
pub settled-more : (all : List Held) (xs : List HeldData) (i : ℕ) (x y : HeldData) → i < length all → i < length xs
    → map held_of xs ≡ map settled (take i all) ++ drop i all → x ≡ get_or xs i x → held_of y ≡ settled (held_of x)
    → map held_of (set xs i y) ≡ map settled (take (i + 1) all) ++ drop (i + 1) all
settled-more all xs i x y within_all within so_far at is =
    let files = map held_of xs in
    let file = get_or files i empty_held in
    let within_files : i < length files = omega (arith, within, length-map xs held_of) in
    map-set-change xs i x y settled within at is
    ∙ map_over_more settled all files i file within_all so_far (get_or_default files i empty_held file within_files)
