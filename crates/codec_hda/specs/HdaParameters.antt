-- The codec described in HDA 1.0a's own terms: each parameter's layout (7.3.4), and what this codec's nodes declare in it.
-- Written from the specification's tables; proofs/Agreement says that the device's replies are these.
use Rattle.std.specs.Prelude.{ℕ, ◌+◌, ◌*◌, ◌/◌, ◌%◌, ◌^◌, Bool, cond, ◌&&◌, List, [], ◌∷◌, eqb}
use Rattle.format.specs.Format.{among}
use Rattle.node.specs.Parameters.{Row, row, look}

-- a word with these bits set
abbrev pub bits : List ℕ → ℕ
bits [] = 0
bits (place ∷ places) = 2 ^ place + bits places

-- ---- layouts
-- 7.3.4.1: 31..16 vendor, 15..0 device
abbrev pub vendor : ℕ → ℕ → ℕ
vendor v d = v * 2 ^ 16 + d

-- 7.3.4.2: 23..20 major, 19..16 minor, 15..8 revision, 7..0 stepping
abbrev pub revision : ℕ → ℕ → ℕ → ℕ → ℕ
revision major minor rev stepping = major * 2 ^ 20 + minor * 2 ^ 16 + rev * 2 ^ 8 + stepping

-- 7.3.4.3: 23..16 first subordinate node, 7..0 their count
abbrev pub subordinates : ℕ → ℕ → ℕ
subordinates first count = first * 2 ^ 16 + count

-- 7.3.4.4: 8 unsolicited responses, 7..0 type
abbrev pub audio_group : ℕ
audio_group = 1

-- 7.3.4.5: 11..8 input delay, 3..0 output delay, in samples
abbrev pub delays : ℕ → ℕ → ℕ
delays input output = input * 2 ^ 8 + output

-- 7.3.4.6: 23..20 type, and a bit for each capability
abbrev pub widget : ℕ → List ℕ → ℕ
widget kind capabilities = kind * 2 ^ 20 + bits capabilities

abbrev pub output_converter : ℕ
output_converter = 0

abbrev pub input_converter : ℕ
input_converter = 1

abbrev pub pin_complex : ℕ
pin_complex = 4

abbrev pub stereo : ℕ
stereo = 0

abbrev pub input_amplifier : ℕ
input_amplifier = 1

abbrev pub output_amplifier : ℕ
output_amplifier = 2

abbrev pub amplifier_override : ℕ
amplifier_override = 3

abbrev pub format_override : ℕ
format_override = 4

abbrev pub processing : ℕ
processing = 6

abbrev pub unsolicited : ℕ
unsolicited = 7

abbrev pub connection_list : ℕ
connection_list = 8

abbrev pub digital : ℕ
digital = 9

abbrev pub power_control : ℕ
power_control = 10

abbrev pub swap : ℕ
swap = 11

-- 7.3.4.7: a bit for each rate, in frames a second, from bit 0 on, and one for each sample size from bit 16 on
abbrev pub sample_rates : List ℕ
sample_rates =
    8_000 ∷ 11_025 ∷ 16_000 ∷ 22_050 ∷ 32_000 ∷ 44_100 ∷ 48_000 ∷ 88_200 ∷ 96_000 ∷ 176_400 ∷ 192_000 ∷ 384_000 ∷ []

abbrev pub sample_sizes : List ℕ
sample_sizes = 8 ∷ 16 ∷ 20 ∷ 24 ∷ 32 ∷ []

-- where a number stands in a table, counted from 0
abbrev pub place_in : List ℕ → ℕ → ℕ
place_in [] x = 0
place_in (y ∷ ys) x = cond (eqb x y) 0 (1 + place_in ys x)

abbrev pub rate_bit : ℕ → ℕ
rate_bit rate = place_in sample_rates rate

abbrev pub size_bit : ℕ → ℕ
size_bit size = 16 + place_in sample_sizes size

-- the nodes that have formats: the function group and both converters
abbrev pub format_nodes : List ℕ
format_nodes = 1 ∷ 2 ∷ 4 ∷ []

-- whether a reply declares a rate, or a sample size
abbrev pub declares_rate : ℕ → ℕ → Bool
declares_rate reply rate = among rate sample_rates && eqb (reply / 2 ^ rate_bit rate % 2) 1

abbrev pub declares_size : ℕ → ℕ → Bool
declares_size reply size = among size sample_sizes && eqb (reply / 2 ^ size_bit size % 2) 1

-- 7.3.4.8: stream formats
abbrev pub pcm : ℕ
pcm = 0

-- 7.3.4.9: pin capabilities
abbrev pub impedance_sense : ℕ
impedance_sense = 0

abbrev pub presence_detect : ℕ
presence_detect = 2

abbrev pub output_capable : ℕ
output_capable = 4

abbrev pub input_capable : ℕ
input_capable = 5

abbrev pub balanced : ℕ
balanced = 6

abbrev pub eapd : ℕ
eapd = 16

-- 7.3.4.10: 31 can mute, 22..16 step size in quarters of a decibel less one, 14..8 number of steps, 6..0 the step that is 0 dB
abbrev pub amplifier : ℕ → ℕ → ℕ → ℕ
amplifier size steps offset = 2 ^ 31 + size * 2 ^ 16 + steps * 2 ^ 8 + offset

-- 7.3.4.12: D0 to D3 in bits 0 to 3
abbrev pub power_states : ℕ
power_states = bits (0 ∷ 1 ∷ 2 ∷ 3 ∷ [])

-- ---- this codec: 74 steps of 1 dB up to 0 dB, 16-bit samples at four rates, of which T-01 has asked for 88,200
abbrev pub steps : ℕ
steps = amplifier 3 74 74

abbrev pub rates : ℕ
rates = bits (rate_bit 44_100 ∷ rate_bit 48_000 ∷ rate_bit 88_200 ∷ rate_bit 96_000 ∷ size_bit 16 ∷ [])

-- what each node declares, by parameter number
abbrev pub root : List Row
root = row 0x00 (vendor 0x1af4 0x0022) ∷ row 0x02 (revision 1 0 1 1) ∷ row 0x04 (subordinates 1 1) ∷ []

abbrev pub function_group : List Row
function_group =
    row 0x04 (subordinates 2 4) ∷ row 0x05 audio_group ∷ row 0x08 (delays 8 8) ∷ row 0x0a rates ∷ row 0x0b (bits (pcm ∷ []))
    ∷ row 0x0d steps ∷ row 0x0f power_states ∷ row 0x12 steps ∷ []

abbrev pub output : List Row
output =
    row 0x09 (widget output_converter (stereo ∷ output_amplifier ∷ amplifier_override ∷ format_override ∷ power_control ∷ []))
    ∷ row 0x0a rates ∷ row 0x0b (bits (pcm ∷ [])) ∷ row 0x0f power_states ∷ row 0x12 steps ∷ []

abbrev pub output_pin : List Row
output_pin =
    row 0x09 (widget pin_complex (stereo ∷ connection_list ∷ power_control ∷ []))
    ∷ row 0x0c (bits (output_capable ∷ [])) ∷ row 0x0e 1 ∷ row 0x0f power_states ∷ []

abbrev pub input : List Row
input =
    row 0x09 (widget input_converter (stereo ∷ input_amplifier ∷ amplifier_override ∷ format_override ∷ connection_list ∷ power_control ∷ []))
    ∷ row 0x0a rates ∷ row 0x0b (bits (pcm ∷ [])) ∷ row 0x0d steps ∷ row 0x0e 1 ∷ row 0x0f power_states ∷ []

abbrev pub input_pin : List Row
input_pin =
    row 0x09 (widget pin_complex (stereo ∷ power_control ∷ []))
    ∷ row 0x0c (bits (input_capable ∷ [])) ∷ row 0x0f power_states ∷ []

abbrev pub declared_of : ℕ → List Row
declared_of node =
    cond (eqb node 0) root
    (cond (eqb node 1) function_group
    (cond (eqb node 2) output
    (cond (eqb node 3) output_pin
    (cond (eqb node 4) input
    (cond (eqb node 5) input_pin
    [])))))

-- a parameter that a node does not declare replies 0 (7.3.1)
unfoldable pub declared : ℕ → ℕ → ℕ
declared node p = look (declared_of node) p
