-- After the last byte of a quiet write nothing is left to do but the commands and the interrupt. Assumes nothing.
use Prim.Native.Nat.{ℕ, ◌<◌}
use mathlib.Core.Path.{◌≡◌, refl, ap, ◌∙◌}
use mathlib.Core.Bool.{Bool, true, false, not, ◌&&◌}
use mathlib.Core.List.{List}
use native.Mathlib.Omega.{arith}
use borrow.Author.Tests.{not-true}
use lib.Seq.{set-get_or}
use Rattle.word.proofs.Choices.{left, right}
use Rattle.word.proofs.Each.{each_keeps}
use Rattle.stream.specs.Box.{streams}
use Rattle.registers.specs.Places.{gctl, ctl, byte_at, has}
use Rattle.control.specs.Channels.{settled_of}
use Rattle.settle.specs.declared.Ports.{Ports}
use Rattle.settle.specs.Settle.{settle_at, settle_of}
use Rattle.write.specs.Writes.{controlled_of, flushed_of, tail_of}
use Rattle.fastpath.specs.Quick.{same, stays_of, quiet_of}
use Rattle.fastpath.proofs.Scan.{stay-each}

-- two tests that are the same: neither holds alone
only : (a b : Bool) → same a b ≡ true → (a && not b) ≡ false
only a b e = not-true (a && not b) (left (not (a && not b)) _ e)

only-after : (a b : Bool) → same a b ≡ true → (not a && b) ≡ false
only-after a b e = not-true (not a && b) (right (not (a && not b)) _ e)

module _ (old : List ℕ) (x : Ports) (quiet : quiet_of old x.hda.regs ≡ true) where
  abbrev regs : List ℕ
  regs = x.hda.regs

  controller : same (has 1 (byte_at old gctl)) (has 1 (byte_at regs gctl)) ≡ true
  unfolding quiet_of
  controller = left (same (has 1 (byte_at old gctl)) (has 1 (byte_at regs gctl))) _ quiet

  dry : has 2 (byte_at regs gctl) ≡ false
  unfolding quiet_of
  dry = not-true _ (left (not (has 2 (byte_at regs gctl))) _ (right (same (has 1 (byte_at old gctl)) (has 1 (byte_at regs gctl))) _ quiet))

  stays : (i : ℕ) → i < streams → stays_of (byte_at old (ctl i)) (byte_at regs (ctl i)) ≡ true
  unfolding quiet_of
  stays i few =
      let all = right (not (has 2 (byte_at regs gctl))) _ (right (same (has 1 (byte_at old gctl)) (has 1 (byte_at regs gctl))) _ quiet) in
      stay-each old regs streams 0 all i (omega arith) (omega arith)

  controlled : controlled_of old x ≡ x
  unfolding controlled_of
  controlled =
      let before = has 1 (byte_at old gctl) in
      let after = has 1 (byte_at regs gctl) in
      rw (only before after controller, only-after before after controller)

  flushes : flushed_of x ≡ x
  unfolding flushed_of
  flushes = rw dry

  settled : (i : ℕ) → i < streams → settle_at old i x ≡ x
  unfolding settled_of
  settled i few =
      let s = stays i few in
      let free = not-true (has 1 (byte_at regs (ctl i))) (left (not (has 1 (byte_at regs (ctl i)))) _ s) in
      let on = right (not (has 1 (byte_at regs (ctl i)))) _ s in
      let ran = has 2 (byte_at old (ctl i)) in
      let runs = has 2 (byte_at regs (ctl i)) in
      rw (free, only ran runs on, only-after ran runs on, set-get_or)

  settles : settle_of old x ≡ x
  unfolding settle_of
  settles = each_keeps (λ (y : Ports). y ≡ x) (settle_at old) streams (λ i y few e. ap (settle_at old i) e ∙ settled i few) streams 0 x refl refl

  pub quiet-tail : tail_of old x ≡ x
  unfolding tail_of
  quiet-tail = rw (controlled, flushes) settles
