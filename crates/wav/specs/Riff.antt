-- RIFF and its form WAVE as they are described ("Multimedia Programming Interface and Data Specifications 1.0", IBM and Microsoft, 1991): chunks in chunks, with no place and no size written down. Nothing here is of the device:
-- proofs/Theorems says that the files of specs/Files.antt are such files.
use Rattle.std.specs.Prelude.{ℕ, ◌*◌, ◌/◌, ◌%◌, List, [], ◌∷◌, ◌++◌, length, replicate}
use Rattle.word.specs.Value.{bytes_of}

-- four letters, the size of the body in 32 bits, the body, and a zero byte behind a body of odd size, which the size does not count
abbrev pub chunk : List ℕ → List ℕ → List ℕ
chunk letters body = letters ++ (bytes_of 4 (length body) ++ (body ++ replicate (length body % 2) 0))

-- PCM (wFormatTag 1): nChannels, nSamplesPerSec, nAvgBytesPerSec, nBlockAlign, wBitsPerSample
abbrev pub pcm_format : ℕ → ℕ → ℕ → List ℕ
pcm_format channels rate bits =
    bytes_of 2 1
    ++ (bytes_of 2 channels
    ++ (bytes_of 4 rate
    ++ (bytes_of 4 (rate * (channels * (bits / 8))) ++ (bytes_of 2 (channels * (bits / 8)) ++ bytes_of 2 bits))))

-- the letters `RIFF`, `WAVE`, `fmt ` and `data`
abbrev pub riff_letters : List ℕ
riff_letters = 0x52 ∷ 0x49 ∷ 0x46 ∷ 0x46 ∷ []

abbrev pub wave_letters : List ℕ
wave_letters = 0x57 ∷ 0x41 ∷ 0x56 ∷ 0x45 ∷ []

abbrev pub format_letters : List ℕ
format_letters = 0x66 ∷ 0x6d ∷ 0x74 ∷ 0x20 ∷ []

abbrev pub data_letters : List ℕ
data_letters = 0x64 ∷ 0x61 ∷ 0x74 ∷ 0x61 ∷ []

-- the form WAVE with a format chunk, and other chunks behind it
abbrev pub form_of : List ℕ → List ℕ → List ℕ
form_of format chunks = wave_letters ++ (chunk format_letters format ++ chunks)

-- a RIFF chunk around the form WAVE, whose samples stand in one data chunk
abbrev pub wave_of : ℕ → ℕ → ℕ → List ℕ → List ℕ
wave_of channels rate bits samples = chunk riff_letters (form_of (pcm_format channels rate bits) (chunk data_letters samples))
