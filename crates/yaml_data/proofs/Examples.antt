-- Prints of texts: of none, of less than eight bytes, of eight, and of more.
use Rattle.std.proofs.Common.{◌≡◌, codes, refl}
use Rattle.yaml_data.specs.Prints.{print_of}

print_none : print_of (codes "") ≡ 1
print_none = refl

print_short : print_of (codes "image") ≡ 4768551636871433744
print_short = refl

print_eight : print_of (codes "replicas") ≡ 14678171915391460511
print_eight = refl

print_long : print_of (codes "service-000123") ≡ 6248503778921038022
print_long = refl
