-- The kinds of recorded calls, by their numbers in the file.
use Rattle.std.specs.Prelude.{◌≡◌, ◌≢◌, ℕ}
use Rattle.rehearse.specs.declared.call.Kind.{Kind}
use Rattle.rehearse.specs.declared.call.Kind.TheVariants.{Fresh, Noise, Poke, Look, Advance, Write, BarWrite, ConfigWrite, PinPresence, Pause, Restore, RestoreEmptied, Read, BarRead, ConfigRead, Save, Feed, Pull, PlaybackFails, CaptureFails, Downstream, Unknown}

-- no kind has the number
abbrev pub Unnumbered : ℕ → Type 0
Unnumbered n =
    (n ≢ 0) × (n ≢ 1) × (n ≢ 2) × (n ≢ 3)
    × (n ≢ 10) × (n ≢ 11) × (n ≢ 12) × (n ≢ 13)
    × (n ≢ 14) × (n ≢ 15) × (n ≢ 16) × (n ≢ 17)
    × (n ≢ 20) × (n ≢ 21) × (n ≢ 22) × (n ≢ 23)
    × (n ≢ 30) × (n ≢ 31) × (n ≢ 32) × (n ≢ 33) × (n ≢ 34)

abbrev pub Numbered : Kind → ℕ → Type 0
Numbered Fresh n = n ≡ 0
Numbered Noise n = n ≡ 1
Numbered Poke n = n ≡ 2
Numbered Look n = n ≡ 3
Numbered Advance n = n ≡ 10
Numbered Write n = n ≡ 11
Numbered BarWrite n = n ≡ 12
Numbered ConfigWrite n = n ≡ 13
Numbered PinPresence n = n ≡ 14
Numbered Pause n = n ≡ 15
Numbered Restore n = n ≡ 16
Numbered RestoreEmptied n = n ≡ 17
Numbered Read n = n ≡ 20
Numbered BarRead n = n ≡ 21
Numbered ConfigRead n = n ≡ 22
Numbered Save n = n ≡ 23
Numbered Feed n = n ≡ 30
Numbered Pull n = n ≡ 31
Numbered PlaybackFails n = n ≡ 32
Numbered CaptureFails n = n ≡ 33
Numbered Downstream n = n ≡ 34
Numbered Unknown n = Unnumbered n
