-- From the mask of sixteen lanes to the run of bytes before the first lane that stops.
use Rattle.std.proofs.Common.{◌≡◌, ℕ, ◌+◌, ◌%◌, ◌^◌, ◌≤◌, Bool, true, not, List, map, length, get_or, Fits, w8, sym, ap, ◌∙◌, arith}
use Rattle.yaml_styled.proofs.Prelude.{prefix_len, agree_below, agree_below_at, not-false, length-map, map-map, mask_l-mod, length-chunk}
use Rattle.yaml_styled.proofs.Prelude.{first_set_mask_l, run_in_chunk_fails, run_in_chunk_le}
use lib.Lanes.{chunk, mask_l, top}
use Rattle.yaml_styled.specs.Blocks.{IsBlockRun, first_set}

-- the lanes are computed of the bytes by `lane`, and a lane stops just where the test fails
pub run_of_lanes : (test : ℕ → Bool) (bytes : List ℕ) (at count : ℕ) (lanes : List ℕ) (lane : ℕ → ℕ)
    → at + 16 ≤ length bytes → ((k : ℕ) → Fits w8 (get_or bytes k 0)) → count ≡ first_set (mask_l (map (top 7) lanes) % 2 ^ 64)
    → lanes ≡ map lane (chunk at 16 bytes) → agree_below (λ x. top 7 (lane x)) (λ x. not (test x)) 256 ≡ true
    → IsBlockRun test bytes at count
run_of_lanes test bytes at count lanes lane room fits found of_bytes agree =
    let stops : ℕ → Bool = λ x. top 7 (lane x) in
    let block = chunk at 16 bytes in
    let long = length-chunk at 16 bytes room in
    let mask : mask_l (map (top 7) lanes) % 2 ^ 64 ≡ mask_l (map stops block) =
    ap (λ l. mask_l (map (top 7) l) % 2 ^ 64) of_bytes ∙ ap (λ l. mask_l l % 2 ^ 64) (map-map (top 7) lane block)
    ∙ mask_l-mod (map stops block) 64 (omega (arith, length-map block stops, long)) in
    let counted : count ≡ prefix_len (λ x. not (stops x)) block = found ∙ ap first_set mask
    ∙ first_set_mask_l stops block 16 long (omega arith) in
    let most = run_in_chunk_le stops bytes at 16 count 0 room counted in
    record {
      within = omega arith;
      passes = λ k from to. not-false (test (get_or bytes k 0))
          (sym (agree_below_at stops (λ x. not (test x)) 256 (get_or bytes k 0) agree (fits k).fits)
          ∙ run_in_chunk_fails stops bytes at 16 count 0 room counted k from to);
    }
