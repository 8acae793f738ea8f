-- The ways out of `save`: refused by the check, refused for short space, and done. Assumes nothing.
use Prim.Native.Nat.{ℕ, ◌+◌, ◌≤◌, ◌<◌}
use mathlib.Core.Path.{◌≡◌, ap, ◌∙◌}
use mathlib.Core.List.{List, ◌++◌}
use native.Mathlib.Omega.{arith}
use borrow.Author.Tests.{ne_eqb, lt-ltb, le-ltb}
use lib.ListN.{length, drop}
use Rattle.word.specs.Place.{put_at}
use Rattle.stream.specs.Box.{streams}
use Rattle.host.specs.declared.Host.{Host}
use Rattle.device.specs.declared.Hda.{Hda}
use Rattle.device.specs.Machines.{check_of}
use Rattle.record.specs.Typed.{Sized}
use Rattle.record.specs.Devices.{head_of}
use Rattle.record.proofs.Puts.{put_then}
use Rattle.record.proofs.Sizes.{length-head}
use Rattle.snapshot.specs.declared.Saved.{Saved}
use Rattle.snapshot.specs.States.{streams_of, state_of, size_of, Kept}
use Rattle.snapshot.specs.Saves.{save_out, saved_of, save_step, save_of}
use Rattle.snapshot.proofs.Sizes.{length-state}

-- the head put, and the streams behind it, are the state from the start of the space on
pub state-put : (d : Hda) (lists l r s : List ℕ) → Sized d → Kept d lists → 680 ≤ length l
    → r ≡ put_at 0 (head_of d) l → s ≡ put_at 680 (streams_of streams 0 d lists) r
    → s ≡ state_of d lists ++ drop (size_of d) l
unfolding state_of put_at
state-put d lists l r s z k fits p q =
    let end : 0 + length (state_of d lists) ≡ size_of d = omega (arith, length-state d lists k z) in
    put_then 0 680 (streams_of streams 0 d lists) l fits (head_of d) (omega (arith, length-head d z)) p q ∙ ap (λ (x : ℕ). state_of d lists ++ drop x l) end

-- the size as the code has it
module _ (d : Hda) (lists into : List ℕ) (size : ℕ) (sized : size ≡ size_of d) (r : Saved) where
  pub short : length into < size → r ≡ saved_of 10 d 0 → save_out r into ≡ save_step d lists into
  unfolding save_step
  short b e = rw (← sized, lt-ltb _ _ b, e)

  pub done : (left : List ℕ) → size ≤ length into → left ≡ state_of d lists ++ drop (size_of d) into → r ≡ saved_of 0 d size
      → save_out r left ≡ save_step d lists into
  unfolding save_step
  done left b p e = rw (← sized, le-ltb _ _ b, e, p, ← sized)

-- the check's number as the code has it
module _ (d : Hda) (h : Host) (lists : List ℕ) (queues : ℕ) (into : List ℕ) (number : ℕ) (given : number ≡ check_of d h lists queues) where
  pub checked : (r : Saved) → (number ≡ 0 → ⊥) → r ≡ saved_of number d 0 → save_out r into ≡ save_of d h lists queues into
  unfolding save_of
  checked r refused e = rw (← given, ne_eqb _ _ refused, e)

  pub passes : number ≡ 0 → save_step d lists into ≡ save_of d h lists queues into
  unfolding save_of
  passes e = rw (← given, e)
