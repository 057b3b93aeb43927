-- A file that is changed in its place.
use Rattle.std.proofs.{Common.{◌≡◌, ℕ, ◌<◌, List, length, get_or, set, map, Option, Some, None, sym, ◌∙◌, ap, arith}, lemmas.List.map-set}
use Rattle.std.proofs.lemmas.List.{get_or-map, length-map}
use Rattle.conf_disk.specs.{Folder.{File, empty_file, Folder, under}, Image.{IsMade, IsWhole}, LogLaws.now_staged, declared.disk.Name.Name}
use Rattle.{conf_disk.specs.declared.disk.Name.TheVariants.{Store, Next}, test_disks.specs.Replay.file_of}
use Rattle.test_disks.specs.declared.folder.FileData.{FileData}

-- the data at a place is replaced, and the file there is changed so
pub map-set-change : (xs : List FileData) (i : ℕ) (x y : FileData) (change : File → File) → i < length xs
    → x ≡ get_or xs i x → file_of y ≡ change (file_of x)
    → map file_of (set xs i y) ≡ set (map file_of xs) i (change (get_or (map file_of xs) i empty_file))
map-set-change xs i x y change within at is =
    let old : get_or (map file_of xs) i empty_file ≡ file_of x = get_or-map file_of xs i x empty_file within ∙ ap file_of (sym at) in
    map-set file_of xs i y ∙ ap (λ (z : File). set (map file_of xs) i z) (is ∙ ap change (sym old))

-- the file of a name is one of the folder's
pub under-made : (folder : Folder) (name : Name) → IsWhole folder → IsMade (length folder.files) (under folder.now name)
under-made folder Store whole = (now_staged folder whole).store
under-made folder Next whole = (now_staged folder whole).next

-- so among the data
pub data-made : (files : List FileData) (place : Option ℕ) (id : ℕ) → IsMade (length (map file_of files)) place → place ≡ Some id
    → id < length files
data-made files None id made is = cc
data-made files (Some k) id made is =
    let same : k ≡ id = cc in omega (arith, made, same, length-map files file_of)
