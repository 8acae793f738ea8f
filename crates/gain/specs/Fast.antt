-- What the private functions of src/lib.rt promise one another. Nothing public cites these definitions: `amplified_of`, `one_pass_of` and
-- `scaled` of specs/Gain.antt are what the callers get.
use Rattle.std.specs.Prelude.{ℕ, ◌+◌, ◌-◌, ◌*◌, ◌/◌, ◌%◌, ◌≤◌, ◌<◌, min, ◌≡◌, Bool, true, false, cond, ◌&&◌, List, leb, ltb, pos, length, get_or, set, Float}
use Rattle.std.specs.Float.{nan, inf, fin}
use Rattle.std.specs.Float.Ieee.{up, down, lt}
use Rattle.gain.specs.declared.Gain.{Gain}
use Rattle.gain.specs.declared.Gain.TheVariants.{Silence, Unity, Factor}
use Rattle.gain.specs.Gain.{scaled16, sample_at, amplified_byte}

-- ---- one sample
-- From 0 to 32768: what `round_half_up` takes.
abbrev pub roundable : Float → Bool
roundable nan = false
roundable (inf s) = false
roundable (fin true m e) = false
roundable (fin false m e) = leb (m * up e) (32768 * down e)

-- Cut at 32768, which is past the upper end of a sample and just at the magnitude of the lower one.
unfoldable pub limited : Float → Float
limited p = cond (lt p (fin false 1 (pos 15))) p (fin false 1 (pos 15))

-- The magnitude of 16 bits read as a signed number; and a magnitude up to 32768, clamped, with the sign of w.
abbrev pub magnitude16 : ℕ → ℕ
magnitude16 w = cond (ltb w 32768) w (65535 - w + 1)

abbrev pub with_sign16 : ℕ → ℕ → ℕ
with_sign16 w r = cond (ltb w 32768) (min r 32767) ((65536 - r) % 65536)

-- ---- a gain
abbrev pub is_silence : Gain → Bool
is_silence Silence = true
is_silence Unity = false
is_silence (Factor f) = false

abbrev pub is_unity : Gain → Bool
is_unity Silence = false
is_unity Unity = true
is_unity (Factor f) = false

-- Above 0 and below 65536: the factors that `scale_word` is used with.
abbrev pub blockwise : Float → Bool
blockwise f = lt (fin false 0 (pos 0)) f && lt f (fin false 1 (pos 16))

-- ---- a buffer, place by place
-- The first n bytes of ys are amplified ones of xs; are 0. From n on ys is xs.
abbrev pub AmplifiedTo : ℕ → Gain → Gain → List ℕ → List ℕ → Type 0
AmplifiedTo n left right xs ys = (m : ℕ) → m < n → get_or ys m 0 ≡ amplified_byte left right xs m

abbrev pub ZerosTo : ℕ → List ℕ → Type 0
ZerosTo n ys = (m : ℕ) → m < n → get_or ys m 0 ≡ 0

abbrev pub SameFrom : ℕ → List ℕ → List ℕ → Type 0
SameFrom n xs ys = (m : ℕ) → n ≤ m → get_or ys m 0 ≡ get_or xs m 0

-- n samples of a side, from the byte `at` on, taken out; words scaled; and both.
abbrev pub Gathered : ℕ → List ℕ → ℕ → List ℕ → Type 0
Gathered n xs at ws = (k : ℕ) → k < n → get_or ws k 0 ≡ sample_at xs (at + 4 * k)

-- Each of vs, taken to a word of ws.
abbrev pub EachScaled : (ℕ → ℕ → Type 0) → List ℕ → List ℕ → Type 0
EachScaled Scales vs ws = (k : ℕ) → k < length vs → Scales (get_or vs k 0) (get_or ws k 0)

abbrev pub ScaledWords : ℕ → Gain → List ℕ → List ℕ → Type 0
ScaledWords n g vs ws = (k : ℕ) → k < n → get_or ws k 0 ≡ scaled16 g (get_or vs k 0)

abbrev pub ScaledSide : ℕ → Gain → List ℕ → ℕ → List ℕ → Type 0
ScaledSide n g xs at ws = (k : ℕ) → k < n → get_or ws k 0 ≡ scaled16 g (sample_at xs (at + 4 * k))

-- n frames, each of a left and a right word, put from the byte `at` on; the bytes before and behind them stay.
abbrev pub FrameAt : List ℕ → ℕ → ℕ → ℕ → Type 0
FrameAt ys at l r = (get_or ys at 0 ≡ l % 256) × (get_or ys (at + 1) 0 ≡ l / 256) × (get_or ys (at + 2) 0 ≡ r % 256) × (get_or ys (at + 3) 0 ≡ r / 256)

abbrev pub Scattered : ℕ → List ℕ → List ℕ → ℕ → List ℕ → List ℕ → Type 0
Scattered n ls rs at xs ys =
    ((k : ℕ) → k < n → FrameAt ys (at + 4 * k) (get_or ls k 0) (get_or rs k 0)) × ((m : ℕ) → m < at → get_or ys m 0 ≡ get_or xs m 0) × SameFrom (at + 4 * n) xs ys

-- The sample at a place scaled, where two bytes stand there.
abbrev pub sample_scaled : Gain → ℕ → List ℕ → List ℕ
sample_scaled g at xs =
    let w = scaled16 g (sample_at xs at) in
    cond (ltb (at + 1) (length xs)) (set (set xs at (w % 256)) (at + 1) (w / 256)) xs
