-- What a passed check of frames says. Assumes nothing.
use Prim.Native.Nat.{ℕ, ◌*◌, ◌%◌, ◌<◌, ◌≤◌}
use mathlib.Core.Path.{◌≡◌, refl}
use mathlib.Core.List.{List}
use mathlib.Core.Bool.{Bool, true, false, cond}
use native.Mathlib.Omega.{arith}
use borrow.Author.Tests.{eqb-true, eqb-false}
use lib.Dec.{eqb}
use lib.ListN.{length}
use Rattle.word.specs.Parts.{part_of}
use Rattle.word.proofs.Lists.{length_part}
use Rattle.stream.specs.Box.{streams}
use Rattle.queue.specs.Queues.{capacity}
use Rattle.queue.proofs.Validity.{queue-bound}
use Rattle.host.specs.declared.Host.{Host}
use Rattle.host.specs.Hosts.{check_of, queue_at}
use Rattle.host.proofs.Checks.{checked, valid-queue}
use Rattle.driver.specs.Calls.{frame_check_of}

pub record FramesChecked (h : Host) (space n : ℕ) : Type 0 where
  pub passed : check_of h space ≡ 0
  pub whole : n % 4 ≡ 0

pub frames-checked : (h : Host) (space n : ℕ) → frame_check_of h space n ≡ 0 → FramesChecked h space n
unfolding frame_check_of
frames-checked h space n e = go (eqb (check_of h space) 0) (eqb (n % 4) 0) refl refl e
  where
    go : (a b : Bool) → eqb (check_of h space) 0 ≡ a → eqb (n % 4) 0 ≡ b → cond a (cond b 0 11) (check_of h space) ≡ 0 → FramesChecked h space n
    go true true ea eb z = record { passed = eqb-true (check_of h space) 0 ea; whole = eqb-true (n % 4) 0 eb }
    go true false ea eb z = absurd (omega arith)
    go false b ea eb z = absurd (eqb-false (check_of h space) 0 ea z)

-- where frames pass, each stream's part lies within the lent space, and its queue within the part
module _ (h : Host) (space : List ℕ) (n : ℕ) (e : frame_check_of h (length space) n ≡ 0) where
  pub frames-room : capacity * streams ≤ length space
  frames-room = (checked h (length space) (frames-checked h (length space) n e).passed).room

  pub frames-ready : (i : ℕ) → i < streams → ((queue_at h i).length ≤ capacity) × (capacity ≤ length (part_of capacity i space))
  frames-ready i b =
      let room = frames-room in
      let valid = (checked h (length space) (frames-checked h (length space) n e).passed).valid in
      let part = length_part capacity (capacity * i) space (omega arith) in
      (queue-bound (queue_at h i) (valid-queue h valid i), omega arith)
