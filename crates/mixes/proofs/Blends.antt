-- A logical mix under a plane mask is a blend: both work bit by bit, and agree on single bits for each of the codes.
use mathlib.Core.Path.{◌≡◌, sym, ◌∙◌, ap}
use Prim.Native.Nat.{ℕ, ◌/◌, ◌%◌, ◌^◌, ◌<◌}
use native.Mathlib.Nat.{mod-lt, mod-eq_of_lt, lt_of_le_of_lt}
use lib.Bits.{bit_and, bit_xor, and_mod, and_le_l, xor_lt}
use lib.Dec.{T, eqb}
use lib.Pow.{pow_pos}
use Rattle.numbers.specs.Choose.{choose}
use Rattle.numbers.proofs.Choices.{choose_either}
use Rattle.mixes.specs.declared.logical.Blend.{Blend}
use Rattle.mixes.specs.Mixes.{table_bit, logical, mixed}
use Rattle.mixes.specs.Inner.{turned_by, blended}
use Rattle.mixes.proofs.Bitwise.{Bitwise, mask, source, destination, no_bits, and, xor, either, all_below, below, agree, agree_all}
use Rattle.mixes.proofs.LogicalMixes.{logical_lt, logical_bitwise}
use Rattle.mixes.proofs.Mixed.{is_merged, mixed_pixels, mixed_logical}

-- the planes where the last bit is 1, and otherwise none
abbrev pub spread : (bits m : ℕ) → ℕ
spread bits m = choose (eqb (bits % 2) 1) m 0

-- the blend of a code under a plane mask
abbrev pub blend_of : (m code : ℕ) → Blend ℕ
blend_of m code =
    record {
      always = spread (code / 8) m;
      source = bit_xor (spread (code / 2) m) (spread (code / 8) m);
      destination = bit_xor (bit_xor (spread (code / 4) m) (spread (code / 8) m)) m;
      both = bit_xor (bit_xor (spread code m) (spread (code / 2) m)) (bit_xor (spread (code / 4) m) (spread (code / 8) m));
    }

-- ---- bit by bit

abbrev blending : (code n m s d : ℕ) → ℕ
blending code n m s d = bit_xor d (turned_by (blend_of m code) s d)

abbrev mixing : (code n m s d : ℕ) → ℕ
mixing code n m s d = bit_xor d (bit_and (bit_xor (logical n code s d) d) m)

spread_bitwise : (bits : ℕ) → Bitwise (λ n m s d. spread bits m)
spread_bitwise bits = either (eqb (bits % 2) 1) mask no_bits

blending_bitwise : (code : ℕ) → Bitwise (blending code)
blending_bitwise code =
    let S = spread_bitwise (code / 2) in
    let D = spread_bitwise (code / 4) in
    let N = spread_bitwise (code / 8) in
    xor destination
    (xor (xor N (and (xor S N) source)) (and (xor (xor (xor D N) mask) (and (xor (xor (spread_bitwise code) S) (xor D N)) source)) destination))

mixing_bitwise : (code : ℕ) → Bitwise (mixing code)
mixing_bitwise code = xor destination (and (xor (logical_bitwise code) destination) mask)

agreed : T (all_below 16 (λ code. agree (blending code) (mixing code)))
unfolding table_bit logical
agreed = tt

-- ---- the mix

and_low : (n : ℕ) {a : ℕ} → a < 2 ^ n → (x : ℕ) → bit_and a x ≡ bit_and a (x % 2 ^ n)
and_low n {a} h x = sym (mod-eq_of_lt (lt_of_le_of_lt (and_le_l a x) h)) ∙ and_mod a x n ∙ rw (mod-eq_of_lt h)

module _ (n : ℕ) {m : ℕ} (planes : m < 2 ^ n) (code : ℕ) where
  spread_lt : (bits : ℕ) → spread bits m < 2 ^ n
  spread_lt bits = choose_either (λ (x : ℕ). x < 2 ^ n) (eqb (bits % 2) 1) planes (pow_pos n)

  -- of the source only the low bits count
  turned_low : (s d : ℕ) → turned_by (blend_of m code) s d ≡ turned_by (blend_of m code) (s % 2 ^ n) d
  turned_low s d =
      let S = spread_lt (code / 2) in
      let N = spread_lt (code / 8) in
      rw (
        and_low n (xor_lt n _ _ S N) s,
        and_low n (xor_lt n _ _ (xor_lt n _ _ (spread_lt code) S) (xor_lt n _ _ (spread_lt (code / 4)) N)) s,
      )

  pub blend_mixed : code < 16 → (s d : ℕ) → blended n (blend_of m code) s d ≡ mixed n code m s d
  unfolding blended
  blend_mixed logical s d =
      let hs = mod-lt s (pow_pos n) in
      let hd = mod-lt d (pow_pos n) in
      ap (bit_xor (d % 2 ^ n)) (turned_low s (d % 2 ^ n))
      ∙ agree_all (blending_bitwise code) (mixing_bitwise code) (below 16 (λ k. agree (blending k) (mixing k)) code logical agreed) n m _ _ planes hs hd
      ∙ is_merged n planes (logical_lt n code _ _) hd
      ∙ sym (mixed_logical n code m _ _ logical)
      ∙ mixed_pixels n code m s d
