-- How many masks there are over m identifiers, as the code meets it: r is the answer of `mask_count`.
use Prim.Native.Nat.{ℕ, ◌+◌, ◌-◌, ◌%◌, ◌*◌, ◌^◌, ◌≤◌, min}
use mathlib.Core.Path.{◌≡◌, ap, ◌∙◌}
use native.Mathlib.Omega.{arith}
use lib.Pow.{pow_pos, pow_mono}
use mir.Val.{Fits}
use mir.Syntax.{w32}
use Rattle.mask.proofs.Shifted.{one_shifted}

-- 1 moved up by w, the lesser of m and 32, in 64 digits.
pub count_shifted : (m w : ℕ) → w ≡ min m 32 → 1 * 2 ^ w % 2 ^ 64 ≡ 2 ^ min m 32
count_shifted m w e = one_shifted 64 w (omega arith) ∙ ap (λ (k : ℕ). 2 ^ k) e

-- The greatest mask of m identifiers.
module _ (m r : ℕ) (e : r ≡ 2 ^ min m 32) where
  pub mask_some : 1 ≤ r
  mask_some = let q = pow_pos (min m 32) in omega arith

  pub mask_top : Fits w32 (r - 1)
  mask_top = let k : min m 32 ≤ 32 = omega arith in let q : 2 ^ min m 32 ≤ 2 ^ 32 = pow_mono k in let s = mask_some in omega arith

  pub mask_next : r - 1 + 1 ≡ 2 ^ min m 32
  mask_next = let s = mask_some in omega arith
