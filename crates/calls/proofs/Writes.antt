-- A guest's write to the registers leaves a valid machine, where what it writes are bytes. Assumes nothing.
use Prim.Native.Nat.{ℕ, ◌*◌, ◌≤◌}
use mathlib.Core.Path.{refl}
use mathlib.Core.Bool.{not, ◌&&◌}
use mathlib.Core.List.{List}
use native.Mathlib.Omega.{arith}
use lib.Dec.{eqb}
use lib.ListN.{length}
use Rattle.word.specs.Value.{Bytes}
use Rattle.word.proofs.Choices.{by_cond}
use Rattle.stream.specs.Box.{streams}
use Rattle.stream.specs.Streams.{list_size}
use Rattle.registers.specs.Places.{gctl, statests, gsts, byte_at, has}
use Rattle.registers.proofs.Files.{File, file-store, file-bits, file-keep, file-align}
use Rattle.bus.specs.Bus.{front_of}
use Rattle.bus.proofs.Facts.{responses-fall}
use Rattle.device.specs.Machines.{Machine, unchanged, with_commanded, commanded_of}
use Rattle.device.proofs.Checks.{device-parts}
use Rattle.settle.specs.declared.Ports.{Ports}
use Rattle.settle.specs.Settle.{ports}
use Rattle.write.specs.Writes.{written_of, controlled_of, flushed, flushed_of, tail_of, tailed_of, write_step, write_of}
use Rattle.hda.specs.Calls.{bar_write_of}
use Rattle.calls.proofs.Bus.{file-bytes}
use Rattle.calls.proofs.Devices.{Holds, device-changed, with-file, commanded-holds, settle-holds, reset-holds, Stands, Leaves, unchanged-leaves, finished-leaves, checked-leaves, commanded-stands}

-- the bytes in order, and the alignment after them
written-holds : (l : List ℕ) (x : Ports) (offset : ℕ) (bytes : List ℕ) → Bytes bytes → Holds l x → Holds l (ports (written_of x.hda offset bytes) x.host)
unfolding written_of
written-holds l x offset bytes typed h =
    let d = x.hda in
    let front = front_of d.regs d.link in
    let v = device-parts d l h.device in
    record {
      file = file-align (file-bytes front offset bytes typed h.file);
      device = device-changed d (written_of d offset bytes) l v.time (omega (arith, v.responses, responses-fall front offset bytes)) refl refl h.device;
      host = h.host;
    }

-- what follows the last byte
module _ (l : List ℕ) (space : list_size * streams ≤ length l) (old : List ℕ) (x : Ports) (h : Holds l x) where
  controlled-holds : Holds l (controlled_of old x)
  unfolding controlled_of
  controlled-holds =
      let before = has 1 (byte_at old gctl) in
      let after = has 1 (byte_at x.hda.regs gctl) in
      by_cond (Holds l) (before && not after) _ _ (λ _. reset-holds l space x h)
      (λ _. by_cond (Holds l) (not before && after) _ _ (λ _. with-file l x _ (file-store 2 statests 1 (omega arith) h.file) h) (λ _. h))

file-flushed : (regs : List ℕ) → File regs → File (flushed regs)
file-flushed regs f = by_cond File (has 2 (byte_at regs gctl)) _ _ (λ _. file-bits gsts 2 (omega arith) (file-keep gctl 0xfd f)) (λ _. f)

flushed-holds : (l : List ℕ) (x : Ports) → Holds l x → Holds l (flushed_of x)
unfolding flushed_of
flushed-holds l x h = with-file l x (flushed x.hda.regs) (file-flushed x.hda.regs h.file) h

tail-holds : (l : List ℕ) → list_size * streams ≤ length l → (old : List ℕ) (x : Ports) → Holds l x → Holds l (tail_of old x)
unfolding tail_of
tail-holds l space old x h = settle-holds l space _ (flushed-holds l _ (controlled-holds l space old x h)) old

module _ (x : Machine) (s : Stands x) where
  -- the commands, then the interrupt
  pub tailed-leaves : (p : Ports) → Holds x.lists p → Leaves (tailed_of x p)
  tailed-leaves p h =
      let c = commanded_of p.hda x.memory in
      finished-leaves (with_commanded x p.host c) (commanded-stands x s p.host c (commanded-holds x.lists p.hda p.host h x.memory)) 0

  module _ (offset : ℕ) (bytes : List ℕ) (typed : Bytes bytes) where
    pub write-leaves : Leaves (write_of offset bytes x)
    unfolding write_of write_step
    write-leaves =
        checked-leaves x s (write_step offset bytes)
        (tailed-leaves _ (tail-holds x.lists s.lists x.hda.regs _ (written-holds x.lists (ports x.hda x.host) offset bytes typed s.holds)))

    pub bar-write-leaves : (bar : ℕ) → Leaves (bar_write_of bar offset bytes x)
    unfolding bar_write_of
    bar-write-leaves bar = by_cond Leaves (eqb bar 0) _ _ (λ _. write-leaves) (λ _. checked-leaves x s (unchanged 0) (unchanged-leaves x s 0))
