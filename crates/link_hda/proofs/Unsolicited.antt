-- A pin's change of presence does what HDA 1.0a says (specs/Unsolicited) on every machine, but for the named exceptions (specs/Exceptions). Assumes nothing.
use Prim.Native.Nat.{ℕ, ◌+◌, ◌*◌, ◌/◌, ◌%◌, ◌^◌, ◌<◌}
use mathlib.Core.Path.{◌≡◌, refl, sym, ap, ◌∙◌}
use mathlib.Core.Bool.{Bool, true, false, ◌&&◌, ◌||◌, and-true, and-false, false≢true}
use mathlib.Core.List.{List}
use mathlib.Core.Option.{none}
use native.Mathlib.Omega.{arith}
use borrow.Author.Tests.{leb-true, ltb-true, lt-leb, ne_eqb}
use lib.Dec.{eqb, leb, ltb}
use lib.ListN.{get_or}
use lib.Seq.{get_or-set_same}
use Rattle.word.specs.Place.{word_at}
use Rattle.word.proofs.Choices.{by-test, both, by_value, within}
use Rattle.word.proofs.Place.{word-join, word-pair}
use Rattle.registers.specs.Places.{byte_at, has}
use Rattle.node.specs.Command.{address_of, node_of, short_verb_of, long_verb_of, payload_of}
use Rattle.node.specs.Nodes.{byte, set_of, node_verb_of}
use Rattle.codec.specs.declared.Codec.{Codec}
use Rattle.codec.specs.Codecs.{absent, node_at, verb_of}
use Rattle.codec.specs.WellFormed.{WellFormed}
use Rattle.codec_hda.specs.HdaParameters.{declared}
use Rattle.codec_hda.specs.HdaVerbs.{is_widget, is_pin}
use Rattle.rings.specs.Rings.{Rings, rings_of, link_of, response_of}
use Rattle.rings.proofs.Facts.{response-codec}
use Rattle.rings_hda.specs.Hda as hda
use Rattle.rings_hda.specs.Hda.{bit, State}
use Rattle.rings_hda.specs.Exceptions as rings
use Rattle.rings_hda.specs.Exceptions.{response_exception, store_exception}
use Rattle.rings_hda.specs.Steps.{ring_state, losing, File}
use Rattle.rings_hda.proofs.Agreement.{high_bit, low_bit, dma-agrees, response-by-hda, response-exact, store-silent}
use Rattle.device.specs.Machines.{Machine, unchanged, finished, linked, with_commanded}
use Rattle.hda.specs.Calls.{listens, pin_step}
use Rattle.link_hda.specs.Unsolicited.{enabled, tag_of, word_of, accepts, asked, declares, sent_of, change_of}
use Rattle.link_hda.specs.Exceptions.{None, is_none, unsolicited_exception}
use Rattle.link_hda.specs.Steps.{state_in, with_state, control_in, ended, Delivers}
use Rattle.link_hda.proofs.Exceptional.{never, ring-none, ring-some}

-- ---- what the nodes declare
-- the pins are nodes 3 and 5
pins : (node : ℕ) → is_pin node ≡ (eqb node 3 || eqb node 5)
unfolding declared
pins node =
    by-test (is_widget node) (λ t. within (λ k. is_pin k ≡ (eqb k 3 || eqb k 5)) 2 4 node t (refl, (refl, (refl, (refl, tt))))) λ f.
    rw f
    (by_value node 3 (λ e. absurd (false≢true (sym (rw e at f)))) λ three. rw three
    (by_value node 5 (λ e. absurd (false≢true (sym (rw e at f)))) λ five. rw five))

-- No pin of this codec declares that it sends unsolicited responses: by HDA none ever does.
pub declared-none : (node : ℕ) → declares node ≡ false
unfolding declared
declared-none node =
    by-test (is_widget node) (λ t. within (λ k. declares k ≡ false) 2 4 node t (refl, (refl, (refl, (refl, tt))))) λ f. rw f

-- ---- the control byte
-- Verb 0x708 with payload v sets a widget's control byte to v, whatever state the codec is in.
pub control-set : (c : Codec) → WellFormed c → (node v : ℕ) → is_widget node ≡ true → v < 256
    → byte (node_at (verb_of c (node * 2 ^ 20 + (0x708 * 2 ^ 8 + v))).codec node) 8 ≡ v
unfolding declared verb_of node_verb_of set_of
control-set c w node v widget small =
    let k = both (leb 2 node) (ltb node 6) widget in
    let lo = leb-true 2 node k.0 in
    let hi = ltb-true node 6 k.1 in
    let x : ℕ = node * 2 ^ 20 + (0x708 * 2 ^ 8 + v) in
    let address : address_of x ≡ 0 = omega arith in
    let direct : x / 0x0800_0000 % 2 ≡ 0 = omega arith in
    let number : node_of x ≡ node = omega arith in
    let verb : long_verb_of x ≡ 0x708 = omega arith in
    let short : short_verb_of x ≡ 7 = omega arith in
    let payload : payload_of x ≡ v = omega arith in
    let n = w.each node hi in
    rw (address, direct, number, lt-leb 6 node hi, verb, ne_eqb node 0 (omega arith), ne_eqb node 1 (omega arith), short, payload)
    (rw (get_or-set_same c.nodes node _ absent (omega (arith, w.count)), get_or-set_same (node_at c node).bytes 8 v 0 (omega (arith, n.size))))

-- ---- bits
-- the enable
enabled-agrees : (control : ℕ) → has 0x80 control ≡ enabled control
enabled-agrees control = high_bit control

module _ (regs : List ℕ) (f : File regs) where
  -- global control, by its word and by its bytes
  global : word_at 4 0x08 regs ≡ byte_at regs 8 + 256 * byte_at regs 9 + 256 ^ 2 * word_at 2 0x0a regs
  global = let size = f.size in word-join 2 8 regs (omega arith) 2 ∙ rw (word-pair 8 regs (omega arith))

  reset-bit : bit (2 ^ 0) (word_at 4 0x08 regs) ≡ bit 1 (byte_at regs 8)
  reset-bit = let same : word_at 4 0x08 regs / 2 ^ 0 % 2 ≡ byte_at regs 8 / 1 % 2 = omega (arith, global) in rw same

  accept-bit : bit (2 ^ 8) (word_at 4 0x08 regs) ≡ has 1 (byte_at regs 9)
  accept-bit =
      let same : word_at 4 0x08 regs / 2 ^ 8 % 2 ≡ byte_at regs 9 / 1 % 2 = omega (arith, global, f.range 8) in
      rw (low_bit (byte_at regs 9), same)

  accepts-agrees : accepts regs ≡ (bit 1 (byte_at regs 8) && has 1 (byte_at regs 9))
  accepts-agrees = ap (λ (t : Bool). t && bit (2 ^ 8) (word_at 4 0x08 regs)) reset-bit ∙ ap (λ (t : Bool). bit 1 (byte_at regs 8) && t) accept-bit

-- ---- the change
-- with DMA off a response is one of the ring's exceptions
store-off : (config : List ℕ) (s : State) → hda.dma_of config s.regs ≡ false → rings.is_none (store_exception config s) ≡ false
unfolding store_exception response_exception hda.next_response
store-off config s d = rw d

module _ (node : ℕ) (x : Machine) (f : File x.hda.regs) where
  abbrev config : List ℕ
  config = x.hda.config

  abbrev regs : List ℕ
  regs = x.hda.regs

  abbrev control : ℕ
  control = control_in x node

  -- whether the device listens, in HDA's terms
  listens-agrees : listens x.hda node ≡ (is_pin node && (hda.dma_of config regs && has 1 (byte_at regs 9)))
  listens-agrees = rw (pins node, dma-agrees config regs)

  -- Where it listens, the pin is asked if it is enabled: so nothing is sent where it is not asked.
  listens-asked : listens x.hda node ≡ true → asked regs node control ≡ enabled control
  unfolding hda.dma_of
  listens-asked t =
      let k = both (is_pin node) _ (sym listens-agrees ∙ t) in
      let d = both (hda.dma_of config regs) _ k.1 in
      let r = both (bit 4 (get_or config 4 0)) (bit 1 (get_or regs 8 0)) d.0 in
      let taken : accepts regs ≡ true = accepts-agrees regs f ∙ rw (r.1, d.1) in
      ap (λ (t : Bool). t && (enabled control && accepts regs)) k.0 ∙ ap (λ (t : Bool). enabled control && t) taken ∙ and-true (enabled control)

  quiet : asked regs node control ≡ false → pin_step node x ≡ ended node x x
  unfolding pin_step
  quiet a = by-test (listens x.hda node) (λ t. rw (t, enabled-agrees control, sym (listens-asked t) ∙ a)) (λ t. rw t)

  -- the device's rings before its response, and after
  abbrev before : Rings
  before = rings_of regs x.hda.link x.memory

  abbrev after : Rings
  after = response_of before (2 ^ 26 * (control % 64)) 16

  -- its word is HDA's
  word-agrees : word_of (tag_of control) 0 0 ≡ 2 ^ 26 * (control % 64)
  word-agrees = omega arith

  -- Where the pin is asked and DMA is on, it sends, and the codec stays.
  sends : asked regs node control ≡ true → hda.dma_of config regs ≡ true → pin_step node x ≡ ended node x (with_state x (ring_state after))
  unfolding pin_step
  sends a d =
      let k = both (is_pin node) _ a in
      let e = both (enabled control) _ k.1 in
      let u = both (bit 1 (byte_at regs 8)) _ (sym (accepts-agrees regs f) ∙ e.1) in
      let heard : listens x.hda node ≡ true = listens-agrees ∙ rw (k.0, d, u.1) in
      rw (heard, enabled-agrees control, e.0)
      (ap (λ (c : Codec). finished 0 (with_commanded x x.host (linked x.hda (rings_of after.regs (link_of c after.link.responses) after.memory))))
      (response-codec before (2 ^ 26 * (control % 64)) 16))

  module _ (able : ℕ → Bool) where
    -- Where no exception is named, HDA says what becomes of the change, and the device does just that, whichever pins are taken to declare it.
    pub unsolicited-agrees : unsolicited_exception able config (state_in x) node control ≡ None → Delivers able node x
    unfolding unsolicited_exception change_of sent_of
    unsolicited-agrees =
        by-test (asked regs node control) (λ t. rw t
        (by-test (able node) (λ a. rw a
        (by-test (hda.dma_of config regs) (λ d. rw d (λ h.
        record {
          state = ring_state after;
          said = rw (t, a, word-agrees) (response-exact before 0 true _ config d (ring-none _ h));
          made = sends t d;
        })) λ d. rw d (never _ refl))) λ a. rw a (never _ refl)))
        λ t. rw t (λ h. record { state = state_in x; said = rw t; made = quiet t })

    -- For a pin that can send, an exception is named only where HDA says nothing.
    pub unsolicited-silent : able node ≡ true → is_none (unsolicited_exception able config (state_in x) node control) ≡ false
        → change_of able config (state_in x) node control ≡ none
    unfolding unsolicited_exception change_of sent_of
    unsolicited-silent a =
        by-test (asked regs node control) (λ t. rw (t, a)
        (by-test (hda.dma_of config regs) (λ d. rw d (λ h. store-silent before 0 true _ config (ring-some (store_exception config (state_in x)) h)))
        (λ d. rw d (λ h. store-silent before 0 true _ config (store-off config (state_in x) d)))))
        λ t. rw t (λ h. absurd (false≢true (sym h)))

  -- What the device does there: with DMA off, nothing;
  pub unsolicited-off : hda.dma_of config regs ≡ false → pin_step node x ≡ unchanged 0 x
  unfolding pin_step
  unsolicited-off d = let deaf : listens x.hda node ≡ false = listens-agrees ∙ rw d (and-false (is_pin node)) in rw deaf

  -- .. and a response that finds no place is HDA's overrun.
  pub unsolicited-lost : asked regs node control ≡ true → hda.dma_of config regs ≡ true → response_exception config regs ≡ rings.None
      → pin_step node x ≡ ended node x (with_state x (losing (state_in x) (hda.response_of config (state_in x) 0 true (word_of (tag_of control) 0 0))))
  unsolicited-lost a d h = rw word-agrees (sends a d ∙ ap (λ (s : State). ended node x (with_state x s)) (response-by-hda before 0 true _ config d h))
