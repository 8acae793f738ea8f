-- Laws of the loop that collects the interrupt's sources: its turn and its end, and a stream's bit. Assumes nothing.
use Rattle.std.proofs.Common.{ℕ, ◌≡◌, ◌+◌, ◌-◌, ◌*◌, ◌%◌, ◌^◌, ◌≤◌, ◌<◌, List, Bool, true, false, cond, sym, ap, ◌∙◌, arith, add-one}
use Rattle.std.proofs.Math.Nat.{pow-succ', pow-le-pow_right}
use Rattle.word.specs.Each.{each_of, always}
use Rattle.stream.specs.Box.{streams}
use Rattle.registers.proofs.Turns.{each_turn, each_done}
use Rattle.pci.specs.Interrupts.{stream_of, sources_of}

-- the turn of stream `i`
abbrev pub found : List ℕ → ℕ → ℕ → ℕ
found regs i n = cond (stream_of regs i) (n + 2 ^ i) n

-- what the loop keeps before the turn of stream `i`: `n` has bits below it and the controller's, and the streams that are left decide the rest
pub record Scan (regs : List ℕ) (n i : ℕ) : Type 0 where
  pub rest : each_of always (found regs) (streams - i) i n ≡ sources_of regs
  pub low : n < 2 ^ 30 + 2 ^ i

pub weights : (i k : ℕ) → i ≤ k → 2 ^ i ≤ 2 ^ k
weights i k h = pow-le-pow_right (omega arith) h

-- a stream's bit, as the loop computes it
pub bit : (i : ℕ) → i < streams → 1 * 2 ^ i % 2 ^ 32 ≡ 2 ^ i
bit i h = omega (arith, weights i streams (omega arith))

module _ (regs : List ℕ) (n i : ℕ) (s : Scan regs n i) where
  bounded : (t : Bool) → cond t (n + 2 ^ i) n < 2 ^ 30 + 2 ^ (i + 1)
  bounded t = rw (add-one i, pow-succ' 2 i) (go t)
    where
      go : (t : Bool) → cond t (n + 2 ^ i) n < 2 ^ 30 + 2 * 2 ^ i
      go true = omega (arith, s.low)
      go false = omega (arith, s.low)

  pub scan-turn : (t : Bool) (m : ℕ) → i < streams → stream_of regs i ≡ t → m ≡ cond t (n + 2 ^ i) n → Scan regs m (i + 1)
  scan-turn t m h b e =
      let turn : m ≡ found regs i n = e ∙ ap (λ (t : Bool). cond t (n + 2 ^ i) n) (sym b) in
      record {
        rest = ap (each_of always (found regs) (streams - (i + 1)) (i + 1)) turn ∙ sym (each_turn (found regs) streams i n h) ∙ s.rest;
        low = rw e (bounded t);
      }

  pub scan-end : streams ≤ i → n ≡ sources_of regs
  scan-end h = sym (each_done (found regs) streams i n h) ∙ s.rest
