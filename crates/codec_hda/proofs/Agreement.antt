-- The device does what HDA 1.0a says of its codec, in every state and for every command, but for the named exceptions (specs/Exceptions).
use Rattle.std.specs.Prelude.{Some}
use Prim.Native.Nat.{ℕ, ◌*◌, ◌/◌, ◌%◌, ◌<◌}
use mathlib.Core.Path.{◌≡◌, refl, sym, ◌∙◌}
use mathlib.Core.Bool.{true, false, cond, ◌&&◌, not, and-false}
use native.Mathlib.Omega.{arith}
use borrow.Author.Tests.{eqb-true, eqb-false, leb-true, leb-false, ltb-true, not-true}
use lib.Dec.{eqb, leb, ltb}
use lib.Seq.{set-get_or}
use Rattle.word.proofs.Choices.{by-test, both, by_value, by_bit, by-range, below_one, within, outside, choice-same}
use Rattle.node.specs.declared.Node.{Node}
use Rattle.codec.specs.declared.Codec.{Codec}
use Rattle.codec.specs.declared.Outcome.{Outcome}
use Rattle.node.specs.Command.{bit, address_of, indirect, node_of, short_verb_of, wide_payload_of, long_verb_of, payload_of}
use Rattle.node.specs.Parameters.{parameter_of}
use Rattle.node.specs.Nodes.{byte, set_amplifier_of, amplifier_of, set_of, entry_of, get_of, node_verb_of}
use Rattle.codec.specs.Codecs.{node_at, stored, outcome, fresh_of, verb_of}
use Rattle.codec_hda.specs.HdaParameters.{declared, input_amplifier, output_amplifier, processing, digital}
use Rattle.codec_hda.specs.HdaVerbs.{is_widget, capable, is_converter, is_pin, selects, powers, responds, enables, connections_of, hda_set_amplifier_of, hda_amplifier_of, unreserved, power_of, hda_set_of, hda_get_of, Hda, hda, keep_default, hda_reset_of, Ruling, says, hda_node_of, hda_verb_of}
use Rattle.codec_hda.specs.Exceptions.{None, VerbAbsent, AmplifierAbsent, PowerState, PowerActual, PinReserved, Subsystem, ResetDefaults, unless, set_amplifier_exception, amplifier_exception, same_default, same_defaults, long_exception, node_exception, exception_of}
use Rattle.codec_hda.proofs.Exceptional.{never, passed, has}

-- ---- parameters
pub parameters : (node p : ℕ) → parameter_of node p ≡ declared node p
unfolding parameter_of declared
parameters node p = refl

-- ---- what the nodes declare
-- the function group and every widget have power states
powered : (node : ℕ) → 0 < node → node < 6 → powers node ≡ true
unfolding declared
powered = by-range (λ node. powers node ≡ true) 1 5 (refl, (refl, (refl, (refl, (refl, tt)))))

connections : (node p : ℕ) → 0 < node → node < 6 → connections_of node p ≡ entry_of node p
unfolding declared entry_of
connections node p =
    by-range (λ node. connections_of node p ≡ entry_of node p) 1 5 (simp choice-same, (simp choice-same, (rw below_one, (rw below_one, (simp choice-same, tt))))) node

abbrev Lacks : ℕ → ℕ → Type 0
Lacks capability node = capable capability node ≡ false

-- no node has processing or a digital converter, so HdaVerbs need not define their verbs (7.3.3.4, 7.3.3.9)
pub undeclared : (node : ℕ) → Lacks processing node × Lacks digital node
unfolding declared
undeclared node =
    by-test (is_widget node) (λ t.
    within (λ k. Lacks processing k × Lacks digital k) 2 4 node t ((refl, refl), ((refl, refl), ((refl, refl), ((refl, refl), tt))))) λ f.
    rw f (refl, refl)

-- ---- amplifiers
neither-side : (n : Node) (node w v : ℕ) → not (bit 0x2000 w) && not (bit 0x1000 w) ≡ true → hda_set_amplifier_of n node w v ≡ set_amplifier_of n w v
unfolding hda_set_amplifier_of set_amplifier_of
neither-side n node w v t =
    let k = both (not (bit 0x2000 w)) _ t in
    rw (not-true (bit 0x2000 w) k.0, not-true (bit 0x1000 w) k.1) (simp (and-false, choice-same))

set-amplifier : (n : Node) (node w v : ℕ) → set_amplifier_exception node w ≡ None → hda_set_amplifier_of n node w v ≡ set_amplifier_of n w v
unfolding hda_set_amplifier_of set_amplifier_of
set-amplifier n node w v =
    by-test (not (bit 0x2000 w) && not (bit 0x1000 w)) (λ t _. neither-side n node w v t) λ f. rw f (
    by-test (bit 0x8000 w) (λ o. by-test (bit 0x4000 w)
    (λ i. rw (o, i) (λ h. let k = both (capable output_amplifier node) _ (passed _ None AmplifierAbsent refl h) in rw (k.0, k.1)))
    (λ i. rw (o, i) (λ h. rw (both (capable output_amplifier node) _ (passed _ None AmplifierAbsent refl h)).0))) λ o.
    by-test (bit 0x4000 w) (λ i. rw (o, i) (λ h. rw (passed (capable input_amplifier node) None AmplifierAbsent refl h))) λ i.
    rw (o, i) (never _ refl))

amplifier : (n : Node) (node w : ℕ) → amplifier_exception node w ≡ None → hda_amplifier_of n node w ≡ amplifier_of n w
unfolding hda_amplifier_of amplifier_of
amplifier n node w h =
    by_bit (w / 0x8000) (λ o.
    let k : capable output_amplifier node ≡ true = passed _ None AmplifierAbsent refl (rw o at h) in
    by_bit (w / 0x2000) (λ l. rw (o, l, k)) (λ l. rw (o, l, k))) λ o.
    let k : capable input_amplifier node ≡ true = passed _ None AmplifierAbsent refl (rw o at h) in
    by_bit (w / 0x2000) (λ l. rw (o, l, k)) (λ l. rw (o, l, k))

-- ---- power states and pin control
state-kept : (v : ℕ) → unless (ltb (v % 16) 4) PowerState ≡ None → v % 16 ≡ v % 4
state-kept v h = let k = ltb-true (v % 16) 4 (passed _ None PowerState refl h) in omega arith

own-state : (group n : Node) → unless (ltb (byte n 5) 16 && leb (byte group 5) (byte n 5)) PowerActual ≡ None → power_of group n ≡ byte n 5 * 0x11
own-state group n h =
    let k = both (ltb (byte n 5) 16) (leb (byte group 5) (byte n 5)) (passed _ None PowerActual refl h) in
    omega (arith, ltb-true (byte n 5) 16 k.0, leb-true (byte group 5) (byte n 5) k.1)

pin-control : (node v : ℕ) → cond (is_pin node) (unless (eqb (v / 8 % 4) 0) PinReserved) VerbAbsent ≡ None → (is_pin node ≡ true) × (unreserved v ≡ v)
pin-control node v h =
    let pin = passed (is_pin node) _ VerbAbsent refl h in
    (pin, omega (arith, eqb-true (v / 8 % 4) 0 (passed _ None PinReserved refl (rw pin at h))))

-- ---- the verbs of twelve bits
-- to set the function group's subsystem identity is an exception
subsystem-set : (group n : Node) (node verb v : ℕ) → eqb node 1 && (leb 0x720 verb && ltb verb 0x724) ≡ true → long_exception group n node verb v ≡ Subsystem
unfolding long_exception
subsystem-set group n node verb v t =
    let k = both (eqb node 1) _ t in
    rw (eqb-true node 1 k.0) (within (λ verb. long_exception group n 1 verb v ≡ Subsystem) 0x720 4 verb k.1 (refl, (refl, (refl, (refl, tt)))))

module _ (group n : Node) (node v : ℕ) (lo : 0 < node) (hi : node < 6) where
  defaults : (verb : ℕ) → leb 0x71c verb && ltb verb 0x720 ≡ true → long_exception group n node verb v ≡ None → hda_set_of n node verb v ≡ set_of n verb v
  unfolding long_exception hda_set_of set_of
  defaults verb t =
      within (λ verb. long_exception group n node verb v ≡ None → hda_set_of n node verb v ≡ set_of n verb v) 0x71c 4 verb t
      (has (is_pin node) _ _, (has (is_pin node) _ _, (has (is_pin node) _ _, (has (is_pin node) _ _, tt))))

  sets : (verb : ℕ) → long_exception group n node verb v ≡ None → hda_set_of n node verb v ≡ set_of n verb v
  unfolding long_exception hda_set_of set_of
  sets verb =
      by-test (leb 0x71c verb && ltb verb 0x720) (defaults verb) λ t.
      by_value verb 0x701 (λ e. rw e (has (selects node) _ _)) λ f. rw f (
      by_value verb 0x705 (λ e. rw e (λ h. rw (powered node lo hi, state-kept v h))) λ f. rw f (
      by_value verb 0x706 (λ e. rw e (has (is_converter node) _ _)) λ f. rw f (
      by_value verb 0x707 (λ e. rw e (λ h. let k = pin-control node v h in rw (k.0, k.1))) λ f. rw f (
      by_value verb 0x708 (λ e. rw e (has (responds node) _ _)) λ f. rw f (
      by_value verb 0x70c (λ e. rw e (has (enables node) _ _)) λ f. rw f
      (λ _. simp (outside (leb 0x71c verb) (ltb verb 0x720) t)))))))

  gets : (verb : ℕ) → long_exception group n node verb v ≡ None → hda_get_of group n node 0x1af4_0022 verb v ≡ get_of n node verb v
  unfolding long_exception hda_get_of get_of
  gets verb =
      by_value verb 0xf01 (λ e. rw e (has (selects node) _ _)) λ f. rw f (
      by_value verb 0xf02 (λ e. rw e (λ _. connections node v lo hi)) λ f. rw f (
      by_value verb 0xf05 (λ e. rw e (λ h. rw (powered node lo hi) (own-state group n h))) λ f. rw f (
      by_value verb 0xf06 (λ e. rw e (has (is_converter node) _ _)) λ f. rw f (
      by_value verb 0xf07 (λ e. rw e (λ h. let k = pin-control node (byte n 7) h in rw (k.0, k.1))) λ f. rw f (
      by_value verb 0xf08 (λ e. rw e (has (responds node) _ _)) λ f. rw f (
      by_value verb 0xf09 (λ e. rw e (never _ refl)) λ f. rw f (
      by_value verb 0xf0c (λ e. rw e (has (enables node) _ _)) λ f. rw f (
      by_value verb 0xf1c (λ e. rw e (has (is_pin node) _ _)) λ f. rw f (
      by_value verb 0xf20 (λ e. rw e (λ h. rw (passed (eqb node 1) None Subsystem refl h))) λ f. rw f
      (λ _. refl))))))))))

-- ---- function reset
default-kept : (old n : Node) → same_default old n ≡ true → keep_default old n ≡ n
default-kept old n h =
    let a = both (eqb (byte old 12) (byte n 12)) _ h in
    let b = both (eqb (byte old 13) (byte n 13)) _ a.1 in
    let d = both (eqb (byte old 14) (byte n 14)) _ b.1 in
    rw (eqb-true (byte old 12) _ a.0, eqb-true (byte old 13) _ b.0, eqb-true (byte old 14) _ d.0, eqb-true (byte old 15) _ d.1) (simp set-get_or)

resets : (c : Codec) → same_defaults c ≡ true → hda_reset_of c ≡ fresh_of
unfolding hda_reset_of fresh_of
resets c h =
    let k = both (same_default (node_at c 3) (node_at fresh_of 3)) _ h in
    rw (default-kept (node_at c 3) (node_at fresh_of 3) k.0, default-kept (node_at c 5) (node_at fresh_of 5) k.1)

-- ---- commands
-- the device's state in HDA's terms: the subsystem identity is the one that it replies
abbrev pub state_of : Codec → Hda
state_of c = hda c 0x1af4_0022

-- the device's outcome as a ruling
abbrev pub ruling_of : Outcome → Ruling
ruling_of o = says (state_of o.codec) o.reply

reset-agrees : (c : Codec) (node x : ℕ) → eqb node 1 && eqb (long_verb_of x) 0x7ff ≡ true → node_exception c node x ≡ None
    → hda_node_of (state_of c) node x ≡ ruling_of (outcome fresh_of (Some 0))
unfolding hda_node_of node_exception
reset-agrees c node x t =
    let k = eqb-true (long_verb_of x) 0x7ff (both (eqb node 1) _ t).1 in
    let short : short_verb_of x ≡ 7 = omega arith in
    rw (short, t) (λ h. rw (resets c (passed _ None ResetDefaults refl h)))

-- A get stores the record unchanged: nothing, even past the end of the list.
node-agrees : (c : Codec) (node x : ℕ) → 0 < node → node < 6 → eqb node 1 && eqb (long_verb_of x) 0x7ff ≡ false → node_exception c node x ≡ None
    → hda_node_of (state_of c) node x ≡ ruling_of (stored c node (node_verb_of (node_at c node) node x))
unfolding hda_node_of node_verb_of node_exception
node-agrees c node x lo hi r =
    let n = node_at c node in
    let group = node_at c 1 in
    rw r (
    by_value (short_verb_of x) 0x2 (λ e. rw e (λ h. rw (passed (is_converter node) None VerbAbsent refl h))) λ f. rw f (
    by_value (short_verb_of x) 0x3 (λ e. rw e (λ h. rw (set-amplifier n node (wide_payload_of x) (payload_of x) h))) λ f. rw f (
    by_value (short_verb_of x) 0xa (λ e. rw e (λ h. rw (passed (is_converter node) None VerbAbsent refl h) (simp set-get_or))) λ f. rw f (
    by_value (short_verb_of x) 0xb (λ e. rw e (λ h. rw (amplifier n node (wide_payload_of x) h) (simp set-get_or))) λ f. rw f (
    by-test (eqb node 1 && (leb 0x720 (long_verb_of x) && ltb (long_verb_of x) 0x724))
    (λ t h. never Subsystem refl (sym (subsystem-set group n node (long_verb_of x) (payload_of x) t) ∙ h))
    (λ f h. rw (f, sets group n node (payload_of x) lo hi (long_verb_of x) h, gets group n node (payload_of x) lo hi (long_verb_of x) h)))))))

-- Where no exception is named, what HDA says is what the device does: the state after the command, and the reply.
pub agree : (c : Codec) (x : ℕ) → exception_of c x ≡ None → hda_verb_of (state_of c) x ≡ ruling_of (verb_of c x)
unfolding hda_verb_of verb_of exception_of
agree c x =
    by-test (not (eqb (address_of x) 0)) (λ t. rw t (λ _. refl)) λ f. rw f (
    by-test (indirect x) (λ t. rw t (never _ refl)) λ f. rw f (
    by-test (leb 6 (node_of x)) (λ t. rw t (λ _. refl)) λ hi. rw hi (
    by-test (eqb (long_verb_of x) 0xf00) (λ t. rw t (λ _. rw parameters)) λ f. rw f (
    by-test (eqb (node_of x) 0) (λ t. rw t (λ _. refl)) λ lo. rw lo (
    by-test (eqb (node_of x) 1 && eqb (long_verb_of x) 0x7ff) (λ t. rw t (reset-agrees c (node_of x) x t)) λ r. rw r (
    let d = eqb-false (node_of x) 0 lo in
    node-agrees c (node_of x) x (omega arith) (leb-false 6 (node_of x) hi) r))))))
