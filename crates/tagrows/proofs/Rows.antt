-- Where a row of tags lies: M tags for each of at most 128 places, M at most 32.
use Prim.Native.Nat.{ℕ, suc, ◌+◌, ◌*◌, ◌≤◌, ◌<◌}
use native.Mathlib.Nat.{mul-le-mul, suc-mul, le_refl}
use native.Mathlib.Omega.{arith}
use mir.Val.{Fits}
use mir.Syntax.{w32, w64}

-- Two numbers of 32 bits have a product of 64.
pub product_fits : (p m : ℕ) → Fits w32 p → Fits w32 m → Fits w64 (p * m)
product_fits p m h l = let q : p * m ≤ 4294967295 * 4294967295 = mul-le-mul {n₂ = 4294967295} {m₂ = 4294967295} (omega arith) (omega arith) in omega arith

-- 32 tags from the row of a process on are there.
pub row_room : (p m : ℕ) → p < 128 → m ≤ 32 → p * m + 32 ≤ 4096
row_room p m h l = let q : p * m ≤ 127 * 32 = mul-le-mul {n₂ = 127} (omega arith) l in omega arith

-- The row of a lower place ends before that of a higher one begins.
pub row_under : (m i k : ℕ) → i < k → i * m + m ≤ k * m
row_under m i k h = let q : suc i * m ≤ k * m = mul-le-mul h (le_refl m) in let s = suc-mul i m in omega arith

pub row_over : (m i k : ℕ) → k ≤ i → k * m ≤ i * m
row_over m i k h = mul-le-mul h (le_refl m)
