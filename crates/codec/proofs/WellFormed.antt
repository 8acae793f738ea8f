-- A codec at reset is well formed, and every command leaves a well-formed codec so: six records of 24 bytes. Assumes nothing.
use Prim.Native.Nat.{ℕ, zero, suc, ◌+◌, ◌-◌, ◌/◌, ◌%◌, ◌<◌}
use mathlib.Core.Path.{◌≡◌, refl, ◌∙◌}
use mathlib.Core.Bool.{Bool, true, cond, not, ◌&&◌, ◌||◌}
use mathlib.Core.List.{List, [], ◌∷◌}
use native.Mathlib.Omega.{arith}
use native.Mathlib.Nat.{not-suc-le-zero}
use lib.Dec.{eqb, leb, ltb}
use lib.ListN.{length, get_or, set, replicate, length-set}
use Rattle.word.proofs.Choices.{chosen}
use Rattle.word.proofs.Lists.{bytes-set, below, bytes_below}
use Rattle.node.specs.declared.Node.{Node}
use Rattle.node.specs.declared.Answer.{Answer}
use Rattle.codec.specs.declared.Codec.{Codec}
use Rattle.codec.specs.declared.Outcome.{Outcome}
use Rattle.node.specs.Command.{bit, address_of, indirect, node_of, short_verb_of, wide_payload_of, long_verb_of, payload_of}
use Rattle.node.specs.Nodes.{put, put_if, put_sides, set_amplifier_of, set_of, node_verb_of, fresh_node_of}
use Rattle.codec.specs.Codecs.{absent, node_at, fresh_of, verb_of}
use Rattle.codec.specs.WellFormed.{WellFormedNode, WellFormed}

either : (t : Bool) {n m : Node} → WellFormedNode n → WellFormedNode m → WellFormedNode (cond t n m)
either = chosen WellFormedNode

-- ---- a record
module _ (n : Node) (w : WellFormedNode n) where
  put-kept : (i v : ℕ) → v < 256 → WellFormedNode (put n i v)
  put-kept i v b = record { size = length-set n.bytes i v ∙ w.size; range = bytes-set n.bytes i v b w.range }

  put-if-kept : (t : Bool) (i v : ℕ) → v < 256 → WellFormedNode (put_if t n i v)
  put-if-kept t i v b = either t (put-kept i v b) w

put-sides-kept : (n : Node) → WellFormedNode n → (i x v : ℕ) → v < 256 → WellFormedNode (put_sides n i x v)
put-sides-kept n w i x v b = put-if-kept _ (put-if-kept n w (bit 0x2000 x) i v b) (bit 0x1000 x) (i + 1) v b

module _ (n : Node) (w : WellFormedNode n) where
  set-amplifier-kept : (x v : ℕ) → v < 256 → WellFormedNode (set_amplifier_of n x v)
  unfolding set_amplifier_of
  set-amplifier-kept x v b =
      let output = put-sides-kept n w 2 x v b in
      either (bit 0x8000 x) (either (bit 0x4000 x) (put-sides-kept _ output 0 x v b) output) (put-sides-kept n w 0 x v b)

  set-kept : (verb v : ℕ) → v < 256 → WellFormedNode (set_of n verb v)
  unfolding set_of
  set-kept verb v b =
      either (eqb verb 0x701) (put-kept n w 4 v b)
      (either (eqb verb 0x705) (put-kept n w 5 (v % 4) (omega arith))
      (either (eqb verb 0x706) (put-kept n w 6 v b)
      (either (eqb verb 0x707) (put-kept n w 7 v b)
      (either (eqb verb 0x708) (put-kept n w 8 v b)
      (either (eqb verb 0x70c) (put-kept n w 9 (v % 8) (omega arith))
      (either (leb 0x71c verb) (put-if-kept n w (ltb verb 0x720) (verb - 0x710) v b)
      w))))))

  node-verb-kept : (node x : ℕ) → WellFormedNode (node_verb_of n node x).node
  unfolding node_verb_of
  node-verb-kept node x =
      let P : Answer → Type 0 = λ a. WellFormedNode a.node in
      let low : payload_of x < 256 = omega arith in
      let high : wide_payload_of x / 256 < 256 = omega arith in
      chosen P (eqb (short_verb_of x) 0x2) (put-kept _ (put-kept n w 10 (wide_payload_of x % 256) (omega arith)) 11 (wide_payload_of x / 256) high)
      (chosen P (eqb (short_verb_of x) 0x3) (set-amplifier-kept (wide_payload_of x) (payload_of x) low)
      (chosen P (eqb (short_verb_of x) 0xa) w
      (chosen P (eqb (short_verb_of x) 0xb) w
      (set-kept (long_verb_of x) (payload_of x) low))))

-- ---- the codec
abbrev pub Each : List Node → Type 0
Each l = (i : ℕ) → i < length l → WellFormedNode (get_or l i absent)

-- `n` in the place of a record; past the end nothing is stored
each_set : (l : List Node) (i : ℕ) (n : Node) → Each l → (i < length l → WellFormedNode n) → (j : ℕ) → j < length l → WellFormedNode (get_or (set l i n) j absent)
each_set [] i n e w j b = e j b
each_set (m ∷ l) zero n e w zero b = w b
each_set (m ∷ l) zero n e w (suc j) b = e (suc j) b
each_set (m ∷ l) (suc i) n e w zero b = e 0 b
each_set (m ∷ l) (suc i) n e w (suc j) b = each_set l i n (λ k g. e (suc k) (omega arith)) (λ g. w (omega arith)) j (omega arith)

stored-kept : (c : Codec) (i : ℕ) (n : Node) → WellFormed c → (i < 6 → WellFormedNode n) → WellFormed (record { nodes = set c.nodes i n })
stored-kept c i n w f =
    let six = w.count in
    record {
      count = length-set c.nodes i n ∙ six;
      each = λ j b. each_set c.nodes i n (λ k g. w.each k (omega arith)) (λ g. f (omega arith)) j (omega arith);
    }

-- ---- the codec at reset, by computation
closed : (n : Node) → length n.bytes ≡ 24 → below n.bytes ≡ true → WellFormedNode n
closed n size small = record { size = size; range = bytes_below n.bytes small }

abbrev Every : List Node → Type 0
Every [] = Unit
Every (n ∷ l) = WellFormedNode n × Every l

every-each : (l : List Node) → Every l → Each l
every-each [] e i b = absurd (not-suc-le-zero b)
every-each (n ∷ l) e zero b = e.0
every-each (n ∷ l) e (suc i) b = every-each l e.1 i (omega arith)

pub fresh-well-formed : WellFormed fresh_of
unfolding fresh_of fresh_node_of
fresh-well-formed =
    let root = closed (record { bytes = replicate 24 0 }) refl refl in
    let plain = closed (fresh_node_of 0 0 0 0) refl refl in
    let output = closed (fresh_node_of 0x40 0x10 0x40 0) refl refl in
    let input = closed (fresh_node_of 0x20 0x20 0x50 0x80) refl refl in
    record { count = refl; each = every-each fresh_of.nodes (root, (plain, (plain, (output, (plain, (input, tt)))))) }

pub verb-well-formed : (c : Codec) (x : ℕ) → WellFormed c → WellFormed (verb_of c x).codec
unfolding verb_of
verb-well-formed c x w =
    let P : Outcome → Type 0 = λ o. WellFormed o.codec in
    chosen P (not (eqb (address_of x) 0) || indirect x) w
    (chosen P (leb 6 (node_of x)) w
    (chosen P (eqb (long_verb_of x) 0xf00) w
    (chosen P (eqb (node_of x) 0) w
    (chosen P (eqb (node_of x) 1 && eqb (long_verb_of x) 0x7ff) fresh-well-formed
    (stored-kept c (node_of x) _ w (λ b. node-verb-kept (node_at c (node_of x)) (w.each (node_of x) b) (node_of x) x))))))
