-- Masks (document 01): "the bit of value 2^i stands for item i". Higher definitions see a mask through `has` alone.
-- Believed: everything here. Proved against it: crate mask, its laws over every width.
use Rattle.std.specs.Prelude.{ℕ, ◌-◌, ◌/◌, ◌%◌, ◌^◌, Bool}
use lib.{Dec.{eqb}, Bits.{bit_and, bit_or}}

-- Item i is in the mask m.
unfoldable pub has : ℕ → ℕ → Bool
has i m = eqb (m / 2 ^ i % 2) 1

-- The items of a that are not in b: document 01's "minus".
unfoldable pub without : ℕ → ℕ → ℕ
without a b = a - bit_and a b

-- The items of m, and i.
unfoldable pub plus : ℕ → ℕ → ℕ
plus m i = bit_or m (2 ^ i)
