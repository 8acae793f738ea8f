-- No exception is idle: for each a codec and a command that raises it, at which HDA's ruling and the device's outcome differ.
use Rattle.std.specs.Prelude.{unwrap_or}
use Prim.Native.Nat.{ℕ}
use mathlib.Core.Path.{◌≡◌, refl, sym, ap, ◌∙◌}
use mathlib.Core.Bool.{false}
use mathlib.Core.List.{List, [], ◌∷◌}
use borrow.Author.Tests.{eqb-false}
use lib.Dec.{eqb}
use Rattle.word.specs.Place.{word_at}
use Rattle.codec.specs.declared.Codec.{Codec}
use Rattle.node.specs.Nodes.{byte, set_amplifier_of, amplifier_of, set_of, get_of, node_verb_of, fresh_node_of}
use Rattle.codec.specs.Codecs.{node_at, fresh_of, verb_of}
use Rattle.codec_hda.specs.HdaParameters.{declared}
use Rattle.codec_hda.specs.HdaVerbs.{hda_set_amplifier_of, hda_amplifier_of, hda_set_of, hda_get_of, hda_reset_of, hda_node_of, Ruling, says, silent, hda_verb_of}
use Rattle.codec_hda.specs.Exceptions.{Exception, None, Indirect, VerbAbsent, AmplifierAbsent, NeitherDirection, PowerState, PowerActual, PinReserved, PinSense, Subsystem, ResetDefaults, long_exception, node_exception, exception_of}
use Rattle.codec_hda.proofs.Agreement.{state_of, ruling_of}

-- ---- what is looked at
-- whether there is a ruling
abbrev spoken : Ruling → ℕ
spoken (says h r) = 1
spoken silent = 0

-- the reply, and 0 for none
abbrev replied : Ruling → ℕ
replied (says h r) = unwrap_or r 0
replied silent = 0

-- byte `i` of a node's record, in the state after the command
abbrev kept : ℕ → ℕ → Ruling → ℕ
kept node i (says h r) = byte (node_at h.codec node) i
kept node i silent = 0

-- ---- a witness
pub record Parted (e : Exception) : Type 0 where
  pub codec : Codec
  pub command : ℕ
  pub raised : exception_of codec command ≡ e
  pub differs : ¬ (hda_verb_of (state_of codec) command ≡ ruling_of (verb_of codec command))

-- HDA shows `a` where the device shows `b`
witness : {e : Exception} (c : Codec) (x : ℕ) (shown : Ruling → ℕ) (a b : ℕ) → exception_of c x ≡ e
    → shown (hda_verb_of (state_of c) x) ≡ a → shown (ruling_of (verb_of c x)) ≡ b → eqb a b ≡ false → Parted e
witness c x shown a b raised ha hb d =
    record { codec = c; command = x; raised = raised; differs = λ same. eqb-false a b d (sym ha ∙ ap shown same ∙ hb) }

-- the fresh codec after a command
abbrev after : ℕ → Codec
after x = (verb_of fresh_of x).codec

pub real : (e : Exception) → ¬ (e ≡ None) → Parted e
unfolding exception_of node_exception long_exception declared fresh_of fresh_node_of verb_of node_verb_of set_amplifier_of amplifier_of set_of get_of hda_verb_of hda_node_of hda_set_amplifier_of hda_amplifier_of hda_set_of hda_get_of hda_reset_of
real None h = absurd (h refl)
real Indirect h = witness fresh_of 0x081f_0500 spoken 0 1 refl refl refl refl
real VerbAbsent h = witness fresh_of 0x003f_0c00 replied 0 2 refl refl refl refl
real AmplifierAbsent h = witness fresh_of 0x003b_8000 replied 0 0xca refl refl refl refl
real NeitherDirection h = witness fresh_of 0x0043_3000 (kept 4 0) 0xca 0 refl refl refl refl
real PowerState h = witness fresh_of 0x0027_0504 (kept 2 5) 4 0 refl refl refl refl
real PowerActual h = witness (after 0x0017_0503) 0x002f_0500 replied 0x30 0 refl refl refl refl
real PinReserved h = witness fresh_of 0x0037_0758 (kept 3 7) 0x40 0x58 refl refl refl refl
real PinSense h = witness fresh_of 0x003f_0900 replied 0 0x8000_0000 refl refl refl refl
real Subsystem h = witness fresh_of 0x002f_2000 replied 0 0x1af4_0022 refl refl refl refl
real ResetDefaults h = witness (after 0x0037_1c20) 0x0017_ff00 (kept 3 12) 0x20 0x10 refl refl refl refl

-- and no verb of `VerbAbsent` is there for nothing: each, on a node that lacks it
pub absent : List (Parted VerbAbsent)
unfolding exception_of node_exception long_exception declared fresh_of fresh_node_of verb_of node_verb_of set_of get_of hda_verb_of hda_node_of hda_set_of hda_get_of word_at
absent =
    witness fresh_of 0x0032_4011 (kept 3 11) 0 0x40 refl refl refl refl
    ∷ witness fresh_of 0x003a_0000 replied 0 0x11 refl refl refl refl
    ∷ witness fresh_of 0x0037_0101 (kept 3 4) 0 1 refl refl refl refl
    ∷ witness (after 0x0037_0101) 0x003f_0100 replied 0 1 refl refl refl refl
    ∷ witness fresh_of 0x0037_0610 (kept 3 6) 0 0x10 refl refl refl refl
    ∷ witness (after 0x0037_0610) 0x003f_0600 replied 0 0x10 refl refl refl refl
    ∷ witness fresh_of 0x0027_0740 (kept 2 7) 0 0x40 refl refl refl refl
    ∷ witness (after 0x0027_0740) 0x002f_0700 replied 0 0x40 refl refl refl refl
    ∷ witness fresh_of 0x0037_0881 (kept 3 8) 0 0x81 refl refl refl refl
    ∷ witness (after 0x0037_0881) 0x003f_0800 replied 0 0x81 refl refl refl refl
    ∷ witness fresh_of 0x0037_0c00 (kept 3 9) 2 0 refl refl refl refl
    ∷ witness fresh_of 0x003f_0c00 replied 0 2 refl refl refl refl
    ∷ witness fresh_of 0x0027_1c20 (kept 2 12) 0 0x20 refl refl refl refl
    ∷ witness fresh_of 0x0027_1f20 (kept 2 15) 0 0x20 refl refl refl refl
    ∷ witness (after 0x0027_1c20) 0x002f_1c00 replied 0 0x20 refl refl refl refl
    ∷ []
