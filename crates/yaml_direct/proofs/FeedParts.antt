-- Line feeds among bytes that are looked at together.
use Rattle.std.proofs.Common.{ℕ, ◌+◌, ◌<◌, ◌≤◌, ◌≡◌, ◌≢◌, ◌∙◌, List, true, false, ap, arith, length, map, not, sym}
use Rattle.std.proofs.lemmas.Bool.{eq-eqb, eqb-true}
use Rattle.std.proofs.lemmas.Simd.{length-chunk, none_from_empty_mask, run_in_chunk_fails, run_in_chunk_le}
use Rattle.std.proofs.lemmas.Simd.{run_in_chunk_stops, trailing_mask_l}
use Rattle.std.specs.List.{prefix_len}
use Rattle.memchr.specs.Find.{is_byte}
use Rattle.yaml_direct.specs.Bytes.{at}
use Rattle.yaml_direct.specs.Gaps.{InLine}
use lib.Count.{count_trailing_zeros}
use lib.Lanes.{chunk, mask_l}

no_feed : (c : ℕ) → is_byte 10 c ≡ false → c ≢ 10
no_feed c other e = let both : true ≡ false = sym (eq-eqb c 10 e) ∙ other in absurd cc

-- none among them
pub no_feeds : (text : List ℕ) (i n feeds : ℕ) → i + n ≤ length text
    → feeds ≡ mask_l (map (is_byte 10) (chunk i n text)) → feeds ≡ 0 → InLine text i (i + n)
no_feeds text i n feeds room are none k low high =
    no_feed (at text k) (none_from_empty_mask (is_byte 10) text i n 0 room (sym are ∙ none) k low high)

-- so many bytes stand before the first
pub record FirstFeed (text : List ℕ) (i n count : ℕ) : Type 0 where
  pub few : count ≤ n
  pub line : InLine text i (i + count)
  pub feed : count < n → at text (i + count) ≡ 10

pub first_feed : (text : List ℕ) (i n feeds : ℕ) → i + n ≤ length text → n ≤ 64
    → feeds ≡ mask_l (map (is_byte 10) (chunk i n text)) → feeds ≢ 0
    → FirstFeed text i n (count_trailing_zeros 64 feeds)
first_feed text i n feeds room small are some =
    let part = chunk i n text in
    let long = length-chunk i n text room in
    let counted : count_trailing_zeros 64 feeds ≡ prefix_len (λ x. not (is_byte 10 x)) part =
    ap (count_trailing_zeros 64) are
    ∙ trailing_mask_l (is_byte 10) 64 part (omega (arith, long, small)) (omega (arith, are, some)) in
    let count = count_trailing_zeros 64 feeds in
    record {
      few = run_in_chunk_le (is_byte 10) text i n count 0 room counted;
      line = λ k low high.
          no_feed (at text k) (run_in_chunk_fails (is_byte 10) text i n count 0 room counted k low high);
      feed = λ less.
          eqb-true (at text (i + count)) 10 (run_in_chunk_stops (is_byte 10) text i n count 0 room counted less);
    }
