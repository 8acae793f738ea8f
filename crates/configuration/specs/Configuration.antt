-- The PCI configuration space (the Rust's `Hda::new`, `config_read` and `config_write`).
use Rattle.std.specs.Prelude.{ℕ, ◌+◌, ◌*◌, Bool, cond, ◌||◌, List, [], ◌∷◌, set, replicate, eqb, ltb}
use Rattle.std.specs.Int.Bits.{bit_and, bit_or}
use Rattle.word.specs.Place.{word_at, store_at}
use Rattle.registers.specs.Reads.{within}

-- the ICH9's vendor and device, at 0 and again as the subsystem (document 01, Numbers returned, 9: the PCI identity)
abbrev pub identity : ℕ
identity = 0x293e_8086

-- A new device: its identity, a capability list, class code and revision, the list at 0x60, interrupt pin A, and there MSI with a 64-bit address and one vector.
unfoldable pub fresh_of : List ℕ
fresh_of =
    set (set (set (set (store_at 4 0x2c identity (store_at 4 0x08 0x0403_0003 (set (store_at 4 0x00 identity (replicate 256 0)) 0x06 0x10))) 0x34 0x60) 0x3d 1) 0x60 5)
    0x62 0x80

-- one of 64 registers; the base address of 16,384 bytes shows its low bits as 0; others read 0 (document 01: bad offsets read 0)
unfoldable pub read_of : List ℕ → ℕ → ℕ
read_of config register =
    cond (ltb register 64) (cond (eqb register 4) (bit_and (word_at 4 16 config) 0xffff_c000) (word_at 4 (4 * register) config)) 0

-- bytes that a write replaces: base address, interrupt line, MSI address and data
abbrev pub replaced : ℕ → Bool
replaced a = within 0x10 0x14 a || eqb a 0x3c || within 0x64 0x6e a

-- command bits memory space and bus master, and interrupt disable; MSI enable; others drop the byte
unfoldable pub write_byte_of : List ℕ → ℕ → ℕ → List ℕ
write_byte_of config a b =
    cond (replaced a) (set config a b)
    (cond (eqb a 0x04) (set config a (bit_and b 6))
    (cond (eqb a 0x05) (set config a (bit_and b 4)) (cond (eqb a 0x62) (set config a (bit_or 0x80 (bit_and b 1))) config)))

-- the bytes in order from `a` on
unfoldable pub write_of : List ℕ → ℕ → List ℕ → List ℕ
write_of config a [] = config
write_of config a (b ∷ bs) = write_of (write_byte_of config a b) (a + 1) bs
