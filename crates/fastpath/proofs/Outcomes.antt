-- The ways out of a try: left alone, or all of the call. Assumes nothing.
use Prim.Native.Nat.{ℕ, ◌+◌, ◌*◌, ◌^◌, ◌≤◌, ◌<◌}
use mathlib.Core.Path.{◌≡◌, refl, sym, ap, ◌∙◌}
use mathlib.Core.Bool.{true, false, true≢false}
use mathlib.Core.List.{List}
use mathlib.Core.Logic.{◌≢◌}
use native.Mathlib.Omega.{arith}
use borrow.Author.Tests.{eq-eqb, ne_eqb, lt-ltb, le-ltb}
use lib.ListN.{length}
use Rattle.rings.specs.declared.Link.{Link}
use Rattle.bus.specs.Bus.{Front, front_of, plain_write, bytes_of}
use Rattle.configuration.specs.Configuration as pci
use Rattle.host.specs.declared.Host.{Host}
use Rattle.device.specs.declared.Hda.{Hda}
use Rattle.device.specs.Devices.{with_config, with_regs, with_link}
use Rattle.device.specs.Machines.{Machine, machine, check_machine, answer_of, finish_of}
use Rattle.settle.specs.Settle.{ports}
use Rattle.write.specs.Writes.{written_of, tailed_of, write_step, write_of}
use Rattle.write.proofs.Checked.{few}
use Rattle.hda.specs.Calls.{configured, config_write_step, config_write_of}
use Rattle.record.specs.Loads.{block_at, link_at, device_at, Holds}
use Rattle.in_place.specs.Ends.{end_of}
use Rattle.std.specs.Prelude.{⊤, Result, Ok, Err}
use Rattle.std.specs.Result.{is_err}
use Rattle.refusal.specs.declared.Refusal.{Refusal}
use Rattle.refusal.specs.Refusals.{outcome_of, number_of}
use Rattle.refusal.proofs.Laws.{number-nonzero}
use Rattle.fastpath.specs.Quick.{left_alone, Tried, tried, carried_out, quiet_of, write_by, config_write_by, aligned_of, concluded_of}
use Rattle.fastpath.proofs.Quiet.{quiet-tail}

-- what the commands and the interrupt leave is all of the call
tailed : (x : Machine) (d : Hda) → concluded_of d x.memory ≡ carried_out (tailed_of x (ports d x.host))
unfolding concluded_of end_of finish_of answer_of
tailed x d = refl

-- the outcome of a check by what the code asks of it
pub refused : (o : Result ⊤ Refusal) → is_err o ≡ true → outcome_of o ≢ 0
refused (Ok u) e = absurd (true≢false (sym e))
refused (Err r) e = number-nonzero r (number_of r) refl

pub passed : (o : Result ⊤ Refusal) → is_err o ≡ false → outcome_of o ≡ 0
passed (Ok u) e = refl
passed (Err r) e = absurd (true≢false e)

module _ (device lists queues memory : List ℕ) (host : Host) where
  abbrev at : Machine
  at = machine (device_at device) host lists queues memory

  module _ (n : ℕ) (e : n ≡ check_machine at) where
    module _ (offset : ℕ) (bytes : List ℕ) where
      pub write-refused : n ≢ 0 → tried left_alone device memory ≡ write_by offset bytes device at
      unfolding write_by
      write-refused z = rw (← e, ne_eqb n 0 z)

      -- a byte may reach the codec
      pub write-reaching : n ≡ 0 → plain_write offset (length bytes) ≡ false → tried left_alone device memory ≡ write_by offset bytes device at
      unfolding write_by
      write-reaching z t = rw (← e, eq-eqb n 0 z, t)

      -- `old` is the record's file, `regs` what the write's bytes left of it
      module _ (z : n ≡ 0) (plain : plain_write offset (length bytes) ≡ true) (old regs : List ℕ) (eo : old ≡ block_at 262 device)
          (ew : (l : Link) → front_of regs l ≡ aligned_of (bytes_of (front_of old l) offset bytes)) where
        front : front_of regs (device_at device).link ≡ aligned_of (bytes_of (front_of (device_at device).regs (device_at device).link) offset bytes)
        unfolding device_at
        front = ew (device_at device).link ∙ rw eo

        written : regs ≡ (written_of (device_at device) offset bytes).regs
        unfolding written_of
        written = ap (λ (f : Front). f.regs) front

        same-quiet : quiet_of old regs ≡ quiet_of (device_at device).regs (written_of (device_at device) offset bytes).regs
        unfolding device_at
        same-quiet = rw (eo, written)

        pub write-left : quiet_of old regs ≡ false → tried left_alone device memory ≡ write_by offset bytes device at
        unfolding write_by
        write-left t = rw (← e, eq-eqb n 0 z, plain, ← same-quiet, t)

        -- the registers put into the record
        module _ (device₁ : List ℕ) (held : Holds device₁ (with_regs (device_at device) regs)) where
          put : device_at device₁ ≡ written_of (device_at device) offset bytes
          unfolding written_of
          put = held.same ∙ ap (λ (f : Front). with_link (with_regs (device_at device) f.regs) f.link) front

          pub write-few : (link_at device₁).responses ≤ 255
          unfolding device_at
          write-few = let same : (link_at device₁).responses ≡ (link_at device).responses = ap (λ (y : Hda). y.link.responses) held.same in omega (arith, same, few at n e z)

          pub write_done : quiet_of old regs ≡ true → (y : Tried) → y ≡ concluded_of (device_at device₁) memory → y ≡ write_by offset bytes device at
          unfolding write_by write_of write_step
          write_done t y ey =
              let d : Hda = written_of (device_at device) offset bytes in
              let quiet : quiet_of (device_at device).regs d.regs ≡ true = sym same-quiet ∙ t in
              rw (← e, eq-eqb n 0 z, plain, quiet, quiet-tail (device_at device).regs (ports d host) quiet) (ey ∙ ap (λ (x : Hda). concluded_of x memory) put ∙ tailed at d)

    module _ (register offset : ℕ) (bytes : List ℕ) where
      pub config-refused : n ≢ 0 → tried left_alone device memory ≡ config_write_by register offset bytes device at
      unfolding config_write_by
      config-refused z = rw (← e, ne_eqb n 0 z)

      module _ (z : n ≡ 0) where
        pub config-past : 2 ^ 64 ≤ 4 * register + offset → tried left_alone device memory ≡ config_write_by register offset bytes device at
        unfolding config_write_by
        config-past h = rw (← e, eq-eqb n 0 z, le-ltb (4 * register + offset) (2 ^ 64) h)

        -- the configuration written in the record
        module _ (config device₁ : List ℕ) (ec : config ≡ pci.write_of (block_at 6 device) (4 * register + offset) bytes) (held : Holds device₁ (with_config (device_at device) config)) where
          pub config-few : (link_at device₁).responses ≤ 255
          unfolding device_at
          config-few = let same : (link_at device₁).responses ≡ (link_at device).responses = ap (λ (y : Hda). y.link.responses) held.same in omega (arith, same, few at n e z)

          pub config-done : 4 * register + offset < 2 ^ 64 → (y : Tried) → y ≡ concluded_of (device_at device₁) memory → y ≡ config_write_by register offset bytes device at
          unfolding config_write_by config_write_of config_write_step device_at
          config-done h y ey =
              let d : Hda = configured (device_at device) (4 * register + offset) bytes in
              let put : device_at device₁ ≡ d = held.same ∙ ap (with_config (device_at device)) ec in
              rw (← e, eq-eqb n 0 z, lt-ltb (4 * register + offset) (2 ^ 64) h) (ey ∙ ap (λ (x : Hda). concluded_of x memory) put ∙ tailed at d)
