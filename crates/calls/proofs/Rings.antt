-- A response, the waiting commands and an immediate command keep the register file: they change their own registers, and put bytes there. Assumes nothing.
use Prim.Native.Nat.{ℕ}
use mathlib.Core.Path.{◌≡◌, ◌∙◌}
use mathlib.Core.Bool.{Bool, false, ◌||◌, and-false}
use mathlib.Core.List.{List}
use native.Mathlib.Omega.{arith}
use lib.Dec.{eqb}
use Rattle.codec.specs.declared.Codec.{Codec}
use Rattle.registers.specs.Places.{dma_of}
use Rattle.registers.proofs.Files.{File}
use Rattle.immediate.specs.Immediate.{immediate_of}
use Rattle.rings.specs.Rings.{Rings, response_of, commands_of}
use Rattle.rings.proofs.Facts.{Outside, response-outside, commands-outside, immediate-outside}
use Rattle.device.specs.Machines.{Machine, unchanged}
use Rattle.hda.specs.Calls.{pin_step}

outside-file : {low high : ℕ} {l k : List ℕ} → Outside low high l k → File l → File k
outside-file o f = record { sized = o.size ∙ f.sized; bytes = o.range f.bytes }

module _ (x : Rings) (f : File x.regs) where
  pub response-file : (value extended : ℕ) → File (response_of x value extended).regs
  response-file value extended = outside-file (response-outside x (omega (arith, f.sized)) value extended) f

  pub commands-file : (dma : Bool) → File (commands_of dma x).regs
  commands-file dma = outside-file (commands-outside x (omega (arith, f.sized)) dma) f

pub immediate-file : (regs : List ℕ) (codec : Codec) (b : ℕ) → File regs → File (immediate_of regs codec b).regs
immediate-file regs codec b f = outside-file (immediate-outside regs codec b (omega (arith, f.sized))) f

-- The response ring has no response with DMA off: the commands are then none (`commands-rest`, crate rings_hda), and a pin's change sends none.
pub pin-rests : (node : ℕ) (x : Machine) → dma_of x.hda.config x.hda.regs ≡ false → pin_step node x ≡ unchanged 0 x
unfolding pin_step
pin-rests node x off = rw (off, and-false (eqb node 3 || eqb node 5))
