-- What the program prints of a file, in ASCII.
use Rattle.std.specs.Prelude.{ℕ, cond, List, ◌++◌, take, replicate, codes, decimal}
use Rattle.port_device.specs.Calls.{lent}
use Rattle.rehearse.specs.declared.play.Tally.{Tally}
use Rattle.rehearse.specs.Verdict.{play_of}

unfoldable pub zeros : ℕ → List ℕ
zeros n = replicate n 0

-- the calls of a file on spaces of zeros: records, lists, queues, guest memory, and room for what a call reads
unfoldable pub rehearsed_of : List ℕ → Tally
rehearsed_of bytes = (play_of bytes (lent (zeros 749) (zeros 16) (zeros 69632) (zeros 4096) (zeros 262144)) (zeros 70380)).tally

-- the counts, and whether all were as recorded
unfoldable pub summary_of : Tally → List ℕ
summary_of t =
    (decimal t.calls ++ (codes " calls, " ++ (decimal t.amended ++ (codes " of them by the amended Rust, in " ++ (decimal t.sequences ++ codes " sequences")))))
    ++ cond t.same (codes ": all as recorded\n") (codes ": the last call differs\n")

-- all that is printed: what does not fit into the room is not read
unfoldable pub output_of : List ℕ → List ℕ
output_of bytes = summary_of (rehearsed_of (take 1310720 bytes))
