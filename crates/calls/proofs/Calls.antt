-- A configuration write, a pin's change and the pause leave a valid machine. Assumes nothing.
use Prim.Native.Nat.{ℕ, ◌+◌, ◌*◌, ◌%◌, ◌^◌}
use mathlib.Core.Path.{refl}
use mathlib.Core.Bool.{Bool}
use mathlib.Core.List.{List}
use native.Mathlib.Omega.{arith}
use lib.Dec.{eqb, ltb}
use lib.ListN.{length}
use Rattle.word.proofs.Choices.{by_cond}
use Rattle.registers.specs.Places.{rintcnt, has}
use Rattle.rings.specs.Rings.{rings_of}
use Rattle.rings.proofs.Facts.{response-few}
use Rattle.host.specs.declared.Host.{Host}
use Rattle.device.specs.declared.Hda.{Hda}
use Rattle.device.specs.Machines.{Machine, check_machine, answer_of, with_commanded, Commanded}
use Rattle.device.proofs.Checks.{device-parts}
use Rattle.settle.specs.Settle.{ports}
use Rattle.hda.specs.Calls.{configured, config_write_step, config_write_of, pin_control, unsolicited, listens, pin_step, pin_of, pause_of}
use Rattle.calls.proofs.Pci.{write_word}
use Rattle.calls.proofs.Rings.{response-file}
use Rattle.calls.proofs.Devices.{Holds, device-changed, Stands, Leaves, unchanged-leaves, finished-leaves, checked-leaves, commanded-stands}
use Rattle.calls.proofs.Writes.{tailed-leaves}

module _ (l : List ℕ) (d : Hda) (h : Host) (holds : Holds l (ports d h)) where
  -- a write leaves the identity
  configured-holds : (start : ℕ) (bytes : List ℕ) → Holds l (ports (configured d start bytes) h)
  configured-holds start bytes =
      let v = device-parts d l holds.device in
      record {
        file = holds.file;
        device = device-changed d (configured d start bytes) l v.time v.responses (write_word d.config start bytes) refl holds.device;
        host = holds.host;
      }

  -- a pin's response counts up to RINTCNT, which is a byte
  unsolicited-holds : (memory : List ℕ) (node : ℕ) → Holds l (ports (unsolicited d memory node).hda h)
  unsolicited-holds memory node =
      let v = device-parts d l holds.device in
      let x = rings_of d.regs d.link memory in
      let value = 2 ^ 26 * (pin_control d node % 64) in
      let f = holds.file in
      by_cond (λ (c : Commanded). Holds l (ports c.hda h)) (has 0x80 (pin_control d node)) _ _
      (λ _. record {
        file = response-file x f value 16;
        device = device-changed d _ l v.time (response-few x v.responses (omega (arith, f.sized)) (f.bytes rintcnt) value 16) refl refl holds.device;
        host = holds.host;
      })
      (λ _. holds)

module _ (x : Machine) (s : Stands x) where
  pub config-write-leaves : (register offset : ℕ) (bytes : List ℕ) → Leaves (config_write_of register offset bytes x)
  unfolding config_write_of config_write_step
  config-write-leaves register offset bytes =
      let start = 4 * register + offset in
      checked-leaves x s (config_write_step register offset bytes)
      (by_cond Leaves (ltb start (2 ^ 64)) _ _
      (λ _. tailed-leaves x s (ports (configured x.hda start bytes) x.host) (configured-holds x.lists x.hda x.host s.holds start bytes))
      (λ _. unchanged-leaves x s 0))

  pub pin-leaves : (node : ℕ) → Leaves (pin_of node x)
  unfolding pin_of pin_step
  pin-leaves node =
      let c = unsolicited x.hda x.memory node in
      checked-leaves x s (pin_step node)
      (by_cond Leaves (listens x.hda node) _ _
      (λ _. finished-leaves (with_commanded x x.host c) (commanded-stands x s x.host c (unsolicited-holds x.lists x.hda x.host s.holds x.memory node)) 0)
      (λ _. unchanged-leaves x s 0))

  pub pause-holds : (paused : Bool) → Holds x.lists (ports (pause_of paused x.hda x.host x.lists (length x.queues)).hda x.host)
  unfolding pause_of answer_of
  pause-holds paused =
      let h = s.holds in
      let v = device-parts x.hda x.lists h.device in
      by_cond (λ (d : Hda). Holds x.lists (ports d x.host)) (eqb (check_machine x) 0) _ _
      (λ _. record { file = h.file; device = device-changed x.hda _ x.lists v.time v.responses refl refl h.device; host = h.host })
      (λ _. h)
