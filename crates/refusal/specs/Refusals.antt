-- The numbers of refusals (document 01, "Numbers returned"; 13 is that of a take as a file, 14 of short space for a result, 20 of a crowded list, 21 of times in the wrong order).
use Rattle.std.specs.Prelude.{ℕ, ⊤, Result, Ok, Err}
use Rattle.refusal.specs.declared.Refusal.{Refusal}
use Rattle.refusal.specs.declared.Refusal.TheVariants.{HostClosed, ShortState, WrongMark, Microphone, Format, ListLength, ListOrder, Stream, State, LentSpace, OddFrames, Latency, Wav, ShortSpace, Crowded, Reversed}

abbrev pub number_of : Refusal → ℕ
number_of HostClosed = 1
number_of ShortState = 2
number_of WrongMark = 3
number_of Microphone = 4
number_of Format = 5
number_of ListLength = 6
number_of ListOrder = 7
number_of Stream = 8
number_of State = 9
number_of LentSpace = 10
number_of OddFrames = 11
number_of Latency = 12
number_of Wav = 13
number_of ShortSpace = 14
number_of Crowded = 20
number_of Reversed = 21

-- the number of a call that has no other answer: 0 where it was carried out
abbrev pub outcome_of : Result ⊤ Refusal → ℕ
outcome_of (Ok _) = 0
outcome_of (Err refusal) = number_of refusal
