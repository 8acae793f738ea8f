-- A guest's reads: `n` is what the check gave. Assumes nothing.
use Prim.Native.Nat.{ℕ}
use mathlib.Core.Path.{◌≡◌}
use mathlib.Core.Logic.{◌≢◌}
use mathlib.Core.List.{List}
use borrow.Author.Tests.{eq-eqb, ne_eqb}
use lib.ListN.{length, replicate}
use Rattle.configuration.specs.Configuration as pci
use Rattle.host.specs.declared.Host.{Host}
use Rattle.device.specs.declared.Hda.{Hda}
use Rattle.device.specs.Machines.{check_of}
use Rattle.read.specs.declared.Status.{Status}
use Rattle.read.specs.Reads.{Shown, shown_of, status_of, read_with, read_of, bar_read_of, value_of, config_read_of}

module _ (d : Hda) (h : Host) (lists : List ℕ) (queues n : ℕ) (e : n ≡ check_of d h lists queues) (s : Status) (es : s ≡ status_of n d) where
  -- a buffer, which a refusal leaves as it was
  pub hidden : (into bytes : List ℕ) → n ≢ 0 → shown_of s into ≡ read_with (check_of d h lists queues) d into bytes
  hidden into bytes z = rw (es, ← e, ne_eqb n 0 z)

  pub shown : (into bytes l : List ℕ) → n ≡ 0 → l ≡ bytes → shown_of s l ≡ read_with (check_of d h lists queues) d into bytes
  shown into bytes l z el = rw (es, el, ← e, eq-eqb n 0 z)

  -- a configuration register, which a refusal does not show
  pub config-hidden : (register : ℕ) → n ≢ 0 → value_of s 0 ≡ config_read_of register d h lists queues
  unfolding config_read_of
  config-hidden register z = rw (es, ← e, ne_eqb n 0 z)

  pub config-shown : (register v : ℕ) → n ≡ 0 → v ≡ pci.read_of d.config register → value_of s v ≡ config_read_of register d h lists queues
  unfolding config_read_of
  config-shown register v z ev = rw (es, ev, ← e, eq-eqb n 0 z)

-- the first base address is the registers, another reads zeros
module _ (bar offset : ℕ) (d : Hda) (h : Host) (lists : List ℕ) (queues : ℕ) (into : List ℕ) (r : Shown) where
  pub bar-registers : bar ≡ 0 → r ≡ read_of offset d h lists queues into → r ≡ bar_read_of bar offset d h lists queues into
  unfolding bar_read_of
  bar-registers b er = rw (er, eq-eqb bar 0 b)

  pub bar-zeros : bar ≢ 0 → r ≡ read_with (check_of d h lists queues) d into (replicate (length into) 0) → r ≡ bar_read_of bar offset d h lists queues into
  unfolding bar_read_of
  bar-zeros b er = rw (er, ne_eqb bar 0 b)
