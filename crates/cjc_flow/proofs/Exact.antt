-- One number is an interval.
use Rattle.std.proofs.Common.{◌≡◌, ℤ, pos, negsuc, ◌≤ℤ◌, sym}
use Rattle.cjc_range.specs.Span.{span, full}
use Rattle.cjc_range.proofs.Order.{clip_fits}
use Rattle.cjc_intervals.specs.Values.{exactly}

pub exact_is : (z : ℤ) → negsuc 2147483647 ≤ℤ z → z ≤ℤ pos 2147483647 → span z z ≡ exactly z
exact_is z low high = sym (clip_fits full (span z z) (record { low = low; high = high }))
