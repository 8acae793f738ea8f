-- What each parameter of each node replies: the table of the Rust's `Codec::parameter`, but that parameter 0x0a declares 88,200 too (T-01).
use Rattle.std.specs.Prelude.{ℕ, cond, List, [], ◌∷◌, eqb}

-- a row of a table: a parameter's number and what it replies
pub record Row : Type 0 where
  pub key : ℕ
  pub value : ℕ

abbrev pub row : ℕ → ℕ → Row
row k v = record { key = k; value = v }

-- the value of the first row for `p`, and 0 where there is none
abbrev pub look : List Row → ℕ → ℕ
look [] p = 0
look (r ∷ rs) p = cond (eqb p r.key) r.value (look rs p)

-- supported PCM sizes and rates (T-01): 16-bit samples at 44,100, 48,000, 88,200 and 96,000 frames a second
abbrev pub supported_pcm : ℕ
supported_pcm = 0x0002_01e0

abbrev pub rows_of : ℕ → List Row
rows_of node =
    cond (eqb node 0) (row 0x00 0x1af4_0022 ∷ row 0x02 0x0010_0101 ∷ row 0x04 0x0001_0001 ∷ [])
    (cond (eqb node 1)
    (row 0x04 0x0002_0004 ∷ row 0x05 1 ∷ row 0x08 0x0808 ∷ row 0x0a supported_pcm ∷ row 0x0b 1 ∷ row 0x0d 0x8003_4a4a ∷ row 0x0f 0xf ∷ row 0x12 0x8003_4a4a ∷ [])
    (cond (eqb node 2) (row 0x09 0x041d ∷ row 0x0a supported_pcm ∷ row 0x0b 1 ∷ row 0x0f 0xf ∷ row 0x12 0x8003_4a4a ∷ [])
    (cond (eqb node 3) (row 0x09 0x0040_0501 ∷ row 0x0c 0x10 ∷ row 0x0e 1 ∷ row 0x0f 0xf ∷ [])
    (cond (eqb node 4) (row 0x09 0x0010_051b ∷ row 0x0a supported_pcm ∷ row 0x0b 1 ∷ row 0x0d 0x8003_4a4a ∷ row 0x0e 1 ∷ row 0x0f 0xf ∷ [])
    (cond (eqb node 5) (row 0x09 0x0040_0401 ∷ row 0x0c 0x20 ∷ row 0x0f 0xf ∷ [])
    [])))))

unfoldable pub parameter_of : ℕ → ℕ → ℕ
parameter_of node p = look (rows_of node) p
