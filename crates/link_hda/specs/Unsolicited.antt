-- Unsolicited responses as HDA 1.0a has them: which word a pin sends when its presence changes (7.3.3.14), whether the controller takes it (3.3.7), and what it leaves
-- in the response ring (4.4.2). Written from its tables, not from the device.
use Rattle.std.specs.Prelude.{ℕ, ◌+◌, ◌*◌, ◌%◌, ◌^◌, Bool, true, cond, ◌&&◌, List}
use Rattle.std.proofs.Math.Option.{Option, none, some}
use Rattle.word.specs.Place.{word_at}
use Rattle.codec_hda.specs.HdaParameters.{presence_detect}
use Rattle.codec_hda.specs.HdaVerbs.{is_pin, pin_capable, responds}
use Rattle.rings_hda.specs.Hda.{bit, State, response_of}

-- a node's control byte, which verb 0x708 sets (7.3.3.14): 7 enable, 6 reserved, 5..0 tag
abbrev pub enabled : ℕ → Bool
enabled control = bit (2 ^ 7) control

abbrev pub tag_of : ℕ → ℕ
tag_of control = control % 2 ^ 6

-- the word: 31..26 tag, 25..21 sub tag, 20..0 contents
abbrev pub word_of : ℕ → ℕ → ℕ → ℕ
word_of tag sub contents = tag * 2 ^ 26 + sub * 2 ^ 21 + contents

-- Global control (3.3.7): bit 8 has unsolicited responses accepted, else they are dropped. In reset (bit 0 clear) the link carries none.
abbrev pub accepts : List ℕ → Bool
accepts regs = bit (2 ^ 0) (word_at 4 0x08 regs) && bit (2 ^ 8) (word_at 4 0x08 regs)

-- a change of presence, which pins alone see, asks for a response
abbrev pub asked : List ℕ → ℕ → ℕ → Bool
asked regs node control = is_pin node && (enabled control && accepts regs)

-- A pin declares that it detects presence (7.3.4.9, bit 2) and that it sends unsolicited responses (7.3.4.6, bit 7).
abbrev pub declares : ℕ → Bool
declares node = pin_capable presence_detect node && responds node

-- What is sent: the tag, with no sub tag and no contents, by a pin that can (`able`: by HDA, one that `declares` it); no other node ever sends one.
unfoldable pub sent_of : (ℕ → Bool) → List ℕ → ℕ → ℕ → Option ℕ
sent_of able regs node control = cond (asked regs node control && able node) (some (word_of (tag_of control) 0 0)) none

-- What HDA says of the change: the state behind it, or nothing. The response comes from codec 0, and its entry is marked as unsolicited.
abbrev pub delivered : List ℕ → State → Option ℕ → Option State
delivered config s none = some s
delivered config s (some word) = response_of config s 0 true word

unfoldable pub change_of : (ℕ → Bool) → List ℕ → State → ℕ → ℕ → Option State
change_of able config s node control = delivered config s (sent_of able s.regs node control)
