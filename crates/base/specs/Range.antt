-- The integers of 64 bits.
use Rattle.std.specs.Prelude.{◌-◌, ◌^◌, Bool, ◌&&◌, ℤ, pos, neg_ℤ}
use Rattle.std.specs.Int.Signed.{le_z}

-- the signed 64-bit range
unfoldable pub in_range : ℤ → Bool
in_range z = le_z (neg_ℤ (pos (2 ^ 63))) z && le_z z (pos (2 ^ 63 - 1))
