-- What stands before the streams: what it tells where it is taken. Assumes nothing.
use Prim.Native.Nat.{ℕ, ◌≤◌}
use mathlib.Core.Path.{◌≡◌}
use mathlib.Core.Bool.{Bool, true}
use mathlib.Core.List.{List}
use native.Mathlib.Omega.{arith}
use borrow.Author.Tests.{eqb-true}
use lib.ListN.{length}
use Rattle.word.specs.Place.{word_at}
use Rattle.record.specs.Layout.{head_size}
use Rattle.record.specs.Devices.{flag}
use Rattle.record.specs.Loads.{marked_of}
use Rattle.parse.specs.States.{converter_number, times_number, files_number, own_number, head_number}
use Rattle.parse.proofs.Choices.{both-pass, holds}
use Rattle.parse.proofs.Fields.{run-cases, field-cases}

pub record Head (s : List ℕ) (microphone : Bool) : Type 0 where
  pub long : head_size ≤ length s
  pub marked : marked_of s ≡ true
  pub own : word_at 1 4 s ≡ flag microphone
  pub converters : converter_number s ≡ 0

module _ (s : List ℕ) where
  times-taken : times_number s 662 ≡ 0 → head_size ≤ length s
  times-taken = run-cases s 662 18 (λ (x : ℕ). x ≡ 0 → head_size ≤ length s) 2 _ (λ there z. omega (arith, there)) (λ z. absurd (omega (arith, z)))

  files-taken : files_number s 5 ≡ 0 → (converter_number s ≡ 0) × (head_size ≤ length s)
  files-taken =
      run-cases s 5 657 (λ (x : ℕ). x ≡ 0 → (converter_number s ≡ 0) × (head_size ≤ length s)) 2 _
      (λ there z. let h = both-pass (converter_number s) (times_number s 662) z in (h.0, times-taken h.1))
      (λ z. absurd (omega (arith, z)))

  module _ (microphone : Bool) where
    own-taken : own_number s 4 microphone ≡ 0 → (word_at 1 4 s ≡ flag microphone) × (converter_number s ≡ 0) × (head_size ≤ length s)
    own-taken =
        field-cases s 4 1 (λ (x : ℕ). x ≡ 0 → (word_at 1 4 s ≡ flag microphone) × (converter_number s ≡ 0) × (head_size ≤ length s)) 2 _
        (λ there z.
        let h = holds _ (files_number s 5) 4 (omega arith) z in
        let f = files-taken h.1 in
        (eqb-true (word_at 1 4 s) (flag microphone) h.0, f.0, f.1))
        (λ z. absurd (omega (arith, z)))

    pub head-taken : head_number s microphone ≡ 0 → Head s microphone
    unfolding head_number
    head-taken =
        run-cases s 0 4 (λ (x : ℕ). x ≡ 0 → Head s microphone) 2 _
        (λ there z.
        let h = holds (marked_of s) (own_number s 4 microphone) 3 (omega arith) z in
        let o = own-taken h.1 in
        record { long = o.2; marked = h.0; own = o.0; converters = o.1 })
        (λ z. absurd (omega (arith, z)))
