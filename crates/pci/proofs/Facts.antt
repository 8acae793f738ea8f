-- What writes and updates keep: lengths, bytes, the identity and the level; and when a message is sent. Assumes nothing.
use Prim.Native.Nat.{ℕ, suc, ◌+◌, ◌^◌, ◌≤◌, ◌<◌}
use mathlib.Core.Path.{◌≡◌, refl, ap, ◌∙◌}
use mathlib.Core.Bool.{Bool, true, false, cond, not, ◌&&◌, and-not_self}
use mathlib.Core.List.{List, [], ◌∷◌}
use mathlib.Core.Logic.{inl, inr}
use native.Mathlib.Omega.{arith}
use lib.ListN.{length, take, set, length-set}
use lib.Seq.{take-set-le, get_or-set_other}
use lib.Bits.{bit_and, bit_or, and_le_r, or_lt}
use Rattle.word.specs.Value.{bytes_of, Bytes}
use Rattle.word.specs.Place.{word_at, store_at}
use Rattle.word.specs.Each.{each_of, always}
use Rattle.word.proofs.Choices.{cond_map}
use Rattle.word.proofs.Lists.{bytes-set, bytes_below}
use Rattle.word.proofs.Each.{each_same}
use Rattle.word.proofs.Place.{length-store, bytes-store, word-elsewhere, byte-elsewhere}
use Rattle.stream.specs.Box.{streams}
use Rattle.registers.specs.Places.{wakeen, statests, intctl, intsts, corbctl, corbsts, rirbctl, rirbsts, ctl, sts, byte_at, with_bits, keep_bits}
use Rattle.std.specs.Prelude.{Option, Some, None}
use Rattle.pci.specs.declared.Message.{Message}
use Rattle.configuration.specs.Configuration.{identity, fresh_of, write_byte_of, write_of}
use Rattle.pci.specs.Interrupts.{controller_of, stream_of, sources_of, status_of, pending_of, messages, level_of, sent_of, message_of, update_of}
use Rattle.configuration.proofs.Writes.{byte-by}
use Rattle.pci.proofs.Scan.{found}

-- A new device's configuration.

pub length-fresh : length fresh_of ≡ 256
unfolding fresh_of store_at
length-fresh = refl

pub fresh-identity : take 4 fresh_of ≡ bytes_of 4 identity
unfolding fresh_of store_at
fresh-identity = refl

pub bytes-fresh : Bytes fresh_of
unfolding fresh_of store_at
bytes-fresh = bytes_below fresh_of refl

-- A write.

pub length-write : (config : List ℕ) (a : ℕ) (bs : List ℕ) → length (write_of config a bs) ≡ length config
unfolding write_of
length-write config a [] = refl
length-write config a (b ∷ bs) =
    length-write (write_byte_of config a b) (a + 1) bs ∙ byte-by (λ l. length l ≡ length config) config a b refl (λ v low high k. length-set config a v)

pub identity-kept : (config : List ℕ) (a : ℕ) (bs : List ℕ) → take 4 (write_of config a bs) ≡ take 4 config
unfolding write_of
identity-kept config a [] = refl
identity-kept config a (b ∷ bs) =
    identity-kept (write_byte_of config a b) (a + 1) bs ∙ byte-by (λ l. take 4 l ≡ take 4 config) config a b refl (λ v low high k. take-set-le 4 config a v low)

pub bytes-write : (config : List ℕ) (a : ℕ) (bs : List ℕ) → Bytes config → Bytes bs → Bytes (write_of config a bs)
unfolding write_of
bytes-write config a [] h k = h
bytes-write config a (b ∷ bs) h k =
    bytes-write (write_byte_of config a b) (a + 1) bs (byte-by Bytes config a b h (λ v low high f. bytes-set config a v (f (k 0)) h)) (λ i. k (suc i))

-- An update's configuration: byte 6 alone changes.

module _ (config : List ℕ) where
  shown : (t : Bool) → (v : ℕ) × (Bytes config → v < 256) × (cond t (with_bits 0x06 8 config) (keep_bits 0x06 0xf7 config) ≡ set config 6 v)
  shown true = (bit_or (byte_at config 6) 8, λ h. or_lt 8 (byte_at config 6) 8 (h 6) (omega arith), refl)
  shown false = (bit_and (byte_at config 6) 0xf7, λ h. omega (arith, and_le_r (byte_at config 6) 0xf7), refl)

  module _ (regs : List ℕ) (asserted : Bool) where
    update-config : (v : ℕ) × (Bytes config → v < 256) × ((update_of config regs asserted).config ≡ set config 6 v)
    unfolding update_of
    update-config = shown (pending_of regs && not (messages config))

    pub length-update-config : length (update_of config regs asserted).config ≡ length config
    length-update-config = ap length update-config.2 ∙ length-set config 6 update-config.0

    pub bytes-update-config : Bytes config → Bytes (update_of config regs asserted).config
    bytes-update-config h = rw update-config.2 (bytes-set config 6 update-config.0 (update-config.1 h) h)

    pub update-identity-kept : take 4 (update_of config regs asserted).config ≡ take 4 config
    update-identity-kept = ap (take 4) update-config.2 ∙ take-set-le 4 config 6 update-config.0 (omega arith)

    update-byte : (i : ℕ) → (i ≡ 6 → ⊥) → byte_at (update_of config regs asserted).config i ≡ byte_at config i
    update-byte i h = ap (λ (l : List ℕ). byte_at l i) update-config.2 ∙ get_or-set_other config 6 i update-config.0 0 h

    pub messages-kept : messages (update_of config regs asserted).config ≡ messages config
    messages-kept = rw (update-byte 0x62 (λ h. omega arith))

-- Messages.

pub at_most_one : (m : Option Message) → length (sent_of m) ≤ 1
at_most_one None = omega arith
at_most_one (Some m) = omega arith

-- an update sends the configured message, where an interrupt is pending that goes as a message and was not asserted; else nothing
pub sent : (config regs : List ℕ) (asserted : Bool)
    → sent_of (update_of config regs asserted).signal.msi ≡ cond (pending_of regs && messages config && not asserted) (sent_of (message_of config)) []
unfolding update_of
sent config regs asserted = cond_map sent_of (pending_of regs && messages config && not asserted) (message_of config) None

asserted-by : (config regs : List ℕ) (asserted : Bool) → (update_of config regs asserted).signal.asserted ≡ (pending_of regs && messages config)
unfolding update_of
asserted-by config regs asserted = refl

-- An update's registers: global status alone changes, and what is pending does not depend on it.

module _ (regs : List ℕ) (sized : length regs ≡ 256) where
  module _ (v : ℕ) where
    abbrev stored : List ℕ
    stored = store_at 4 intsts v regs

    byte-kept : (i : ℕ) → intsts + 4 ≤ i → byte_at stored i ≡ byte_at regs i
    byte-kept i h = byte-elsewhere 4 intsts v regs (omega arith) i (inr h)

    word_kept : (n i : ℕ) → i + n ≤ intsts → word_at n i stored ≡ word_at n i regs
    word_kept n i h = word-elsewhere 4 intsts v regs (omega arith) n i (inl h)

    controller-kept : controller_of stored ≡ controller_of regs
    controller-kept =
        rw (
          byte-kept corbsts (omega arith),
          byte-kept corbctl (omega arith),
          byte-kept rirbsts (omega arith),
          byte-kept rirbctl (omega arith),
          word_kept 2 statests (omega arith),
          word_kept 2 wakeen (omega arith),
        )

    stream-kept : (i : ℕ) → stream_of stored i ≡ stream_of regs i
    stream-kept i = rw (byte-kept (sts i) (omega arith), byte-kept (ctl i) (omega arith))

    sources-kept : sources_of stored ≡ sources_of regs
    unfolding sources_of
    sources-kept =
        each_same (found stored) (found regs) (λ i n. ap (λ (t : Bool). cond t (n + 2 ^ i) n) (stream-kept i)) streams 0 (cond (controller_of stored) (2 ^ 30) 0)
        ∙ ap (λ (t : Bool). each_of always (found regs) streams 0 (cond t (2 ^ 30) 0)) controller-kept

    stored-pending : pending_of stored ≡ pending_of regs
    unfolding pending_of
    stored-pending = rw (sources-kept, word_kept 4 intctl (omega arith))

  module _ (config : List ℕ) (asserted : Bool) where
    pub length-update-regs : length (update_of config regs asserted).regs ≡ length regs
    unfolding update_of
    length-update-regs = length-store 4 intsts (status_of regs) regs (omega arith)

    pub bytes-update-regs : Bytes regs → Bytes (update_of config regs asserted).regs
    unfolding update_of
    bytes-update-regs h = bytes-store 4 intsts (status_of regs) regs (omega arith) h

    pub pending-kept : pending_of (update_of config regs asserted).regs ≡ pending_of regs
    unfolding update_of
    pending-kept = stored-pending (status_of regs)

    -- an update does not change what the level is computed from
    pub level-kept : level_of (update_of config regs asserted).config (update_of config regs asserted).regs ≡ level_of config regs
    unfolding level_of
    level-kept = rw (pending-kept, messages-kept config regs asserted, update-byte config regs asserted 5 (λ h. omega arith))

    -- an update right after another sends nothing
    pub once : let u = update_of config regs asserted in sent_of (update_of u.config u.regs u.signal.asserted).signal.msi ≡ []
    once =
        let u = update_of config regs asserted in
        sent u.config u.regs u.signal.asserted
        ∙ rw (pending-kept, messages-kept config regs asserted, asserted-by config regs asserted, and-not_self (pending_of regs && messages config))
