-- How far the agreement reaches: of all the commands that Linux's driver sends this codec, one meets an exception.
-- Recorded from Linux 6.1 (snd-hda-intel): every command that it sent, polling's repeats left out.
use Prim.Native.Nat.{ℕ}
use mathlib.Core.Path.{◌≡◌, refl}
use mathlib.Core.Bool.{cond}
use mathlib.Core.List.{List, [], ◌∷◌, ◌++◌}
use Rattle.codec.specs.declared.Codec.{Codec}
use Rattle.node.specs.Nodes.{set_amplifier_of, set_of, node_verb_of, fresh_node_of}
use Rattle.codec.specs.Codecs.{fresh_of, verb_of}
use Rattle.codec_hda.specs.HdaParameters.{declared}
use Rattle.codec_hda.specs.Exceptions.{is_none, long_exception, node_exception, exception_of}

-- the nodes and what they declare, power up, and the first settings
abbrev probe : List ℕ
probe =
    0x000f_0000 ∷ 0x000f_0001 ∷ 0x000f_0002 ∷ 0x000f_0004 ∷ 0x001f_0005 ∷ 0x001f_0004 ∷ 0x001f_000f ∷ 0x001f_2000
    ∷ 0x002f_0009 ∷ 0x003f_0009 ∷ 0x004f_0009 ∷ 0x005f_0009 ∷ 0x003f_1c00 ∷ 0x003f_0700 ∷ 0x005f_1c00 ∷ 0x005f_0700
    ∷ 0x0017_0500 ∷ 0x0027_0500 ∷ 0x0037_0500 ∷ 0x0047_0500 ∷ 0x0057_0500 ∷ 0x001f_0500 ∷ 0x003f_000c ∷ 0x005f_000c
    ∷ 0x003f_000e ∷ 0x003f_0200 ∷ 0x002f_0012 ∷ 0x004f_000e ∷ 0x004f_0200 ∷ 0x004f_000d ∷ 0x002f_000a ∷ 0x002f_000b
    ∷ 0x004f_000a ∷ 0x004f_000b ∷ 0x0037_0740 ∷ 0x002b_a000 ∷ 0x0023_a080 ∷ 0x002b_8000 ∷ 0x0023_9080 ∷ 0x0057_0720
    ∷ 0x004b_2000 ∷ 0x0043_6080 ∷ 0x004b_0000 ∷ 0x0043_5080 ∷ 0x003f_0900 ∷ []

-- to D3, and back to D0 with pins and amplifiers set again
abbrev sleep : List ℕ
sleep = 0x0017_0503 ∷ 0x0027_0503 ∷ 0x0037_0503 ∷ 0x0047_0503 ∷ 0x0057_0503 ∷ 0x001f_0500 ∷ []

abbrev wake : List ℕ
wake =
    0x0017_0500 ∷ 0x0027_0500 ∷ 0x0037_0500 ∷ 0x0047_0500 ∷ 0x0057_0500 ∷ 0x001f_0500 ∷ 0x0037_0740 ∷ 0x0057_0720
    ∷ 0x0023_904a ∷ 0x0023_a04a ∷ 0x0037_0740 ∷ 0x0043_504a ∷ 0x0043_604a ∷ 0x0057_0720 ∷ []

-- the codec's description for users
abbrev description : List ℕ
description =
    0x001f_000a ∷ 0x001f_000b ∷ 0x001f_000d ∷ 0x001f_0012 ∷ 0x001f_000f ∷ 0x001f_0500 ∷ 0x001f_0004 ∷ 0x001f_0011
    ∷ 0x002f_0009 ∷ 0x002f_0012 ∷ 0x002b_a000 ∷ 0x002b_8000 ∷ 0x002f_0600 ∷ 0x002f_000a ∷ 0x002f_000b ∷ 0x002f_000f ∷ 0x002f_0500
    ∷ 0x003f_0009 ∷ 0x003f_0200 ∷ 0x003f_000c ∷ 0x003f_1c00 ∷ 0x003f_0700 ∷ 0x003f_000f ∷ 0x003f_0500
    ∷ 0x004f_0009 ∷ 0x004f_0200 ∷ 0x004f_000d ∷ 0x004b_2000 ∷ 0x004b_0000 ∷ 0x004f_0600 ∷ 0x004f_0400
    ∷ 0x004f_000a ∷ 0x004f_000b ∷ 0x004f_000f ∷ 0x004f_0500
    ∷ 0x005f_0009 ∷ 0x005f_000c ∷ 0x005f_1c00 ∷ 0x005f_0700 ∷ 0x005f_000f ∷ 0x005f_0500 ∷ []

-- playback at 48 and 96 kHz, capture at 44.1 kHz: tag and format before, both cleared after
abbrev streams : List ℕ
streams =
    0x002f_0600 ∷ 0x0027_0620 ∷ 0x002a_0000 ∷ 0x0022_0011 ∷ 0x0027_0600 ∷ 0x0022_0000
    ∷ 0x002f_0600 ∷ 0x0027_0620 ∷ 0x002a_0000 ∷ 0x0022_0811 ∷ 0x0027_0600 ∷ 0x0022_0000
    ∷ 0x004f_0600 ∷ 0x0047_0610 ∷ 0x004a_0000 ∷ 0x0042_4011 ∷ 0x0047_0600 ∷ 0x0042_0000 ∷ []

-- the commands that meet an exception, each in the state that those before it left
abbrev excepted : Codec → List ℕ → List ℕ
excepted c [] = []
excepted c (x ∷ xs) = let rest = excepted (verb_of c x).codec xs in cond (is_none (exception_of c x)) rest (x ∷ rest)

-- It is pin sense: no pin declares it.
pub linux : excepted fresh_of (probe ++ (sleep ++ (wake ++ (description ++ (streams ++ sleep))))) ≡ 0x003f_0900 ∷ []
unfolding exception_of node_exception long_exception declared fresh_of fresh_node_of verb_of node_verb_of set_amplifier_of set_of
linux = refl
