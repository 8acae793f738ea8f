-- Laws of the known bytes of a reader: what is read in more than one step, and what is printed of what was read. Assumes nothing.
use Rattle.std.proofs.Common.{◌≡◌, ℕ, ◌+◌, ◌-◌, ◌<◌, ◌≤◌, List, ◌++◌, length, take, drop, None, Some, Ok, Err, OnOk, IfSome, sym, ap, ◌∙◌, append_assoc, append-nil, arith, length-append, length-take-le, le-ltb, lt-ltb, codes}
use Rattle.std.specs.Bool.{⊤}
use Rattle.std.proofs.Math.Seq.{take-append-add}
use Rattle.std.proofs.lemmas.List.{take-append-le}
use Rattle.std.specs.declared.option.Option.{Option}
use Rattle.std.specs.declared.result.Result.{Result}
use Rattle.std.specs.Io.KnownBytes.{Appends, Consumes, IsAtEnd}
use Rattle.replay.specs.declared.verdict.Tally.{Tally}
use Rattle.replay.specs.Lines.{tally_of}
use Rattle.replay.specs.Printed.{reported_of, summary_of, output_of}
use Rattle.replay.proofs.Written.{appends-then}

consumes-more : (a b c : Option (List ℕ)) (x y : List ℕ) → Consumes a b x → Consumes b c y → Consumes a c (x ++ y)
consumes-more None b c x y h k = tt
consumes-more (Some xs) None c x y h k = absurd h
consumes-more (Some xs) (Some ys) None x y h k = absurd k
consumes-more (Some xs) (Some ys) (Some zs) x y h k = rw (h, k) (sym (append_assoc x y zs))

-- what stands at the room's start after one read more
read-front : (room part : List ℕ) (done count : ℕ) → done ≤ length room → count ≤ length part →
    take (done + count) (take done room ++ (part ++ drop (length room - done) (drop done room))) ≡ take done room ++ take count part
read-front room part done count h k =
    let front : List ℕ = take done room in
    let rest : List ℕ = drop (length room - done) (drop done room) in
    ap (λ (n : ℕ). take (n + count) (front ++ (part ++ rest))) (sym (length-take-le done room h))
    ∙ take-append-add front (part ++ rest) count
    ∙ ap (λ (l : List ℕ). front ++ l) (take-append-le count part rest k)

pub read-more : (a b c : Option (List ℕ)) (room part : List ℕ) (done count : ℕ) → done ≤ length room → count ≤ length part →
    Consumes a b (take done room) → Consumes b c (take count part) →
    Consumes a c (take (done + count) (take done room ++ (part ++ drop (length room - done) (drop done room))))
read-more a b c room part done count h k e f = rw (read-front room part done count h k) (consumes-more a b c _ _ e f)

-- what is printed of the bytes that were read: of a file that ended, and of one that filled the room
output-short : (bytes : List ℕ) → length bytes < 1048576 → output_of bytes ≡ reported_of bytes ++ summary_of (tally_of bytes)
unfolding output_of
output-short bytes h = rw (lt-ltb (length bytes) 1048576 h)

output-long : (bytes : List ℕ) → 1048576 ≤ length bytes → output_of bytes ≡ codes "answers is too long: there is room for 1048575 bytes\n"
unfolding output_of
output-long bytes h = rw (le-ltb (length bytes) 1048576 h)

module _ {X E : Type 0} (r : Result X E) (a c : Option (List ℕ)) (room : List ℕ) (count : ℕ) (within : count ≤ length room) where
  nothing-known : (r : Result X E) → OnOk r ⊤
  nothing-known (Ok x) = tt
  nothing-known (Err e) = tt

  pub run-short : (before after b : Option (List ℕ)) → Consumes before after (take count room) → IsAtEnd after → count < 1048576 →
      Appends a b (reported_of (take count room)) → (t : Tally) → t ≡ tally_of (take count room) → OnOk r (Appends b c (summary_of t)) →
      OnOk r (IfSome before (λ bytes. Appends a c (output_of bytes)))
  run-short None after b h e w p t et q = nothing-known r
  run-short (Some xs) None b h e w p t et q = absurd h
  run-short (Some xs) (Some ys) b h e w p t et q =
      let whole : xs ≡ take count room = h ∙ ap (λ (l : List ℕ). take count room ++ l) e ∙ append-nil (take count room) in
      rw (whole, output-short (take count room) (omega (arith, length-take-le count room within)), ← et) (appends-then r a b c _ _ p q)

  pub run-long : (before after : Option (List ℕ)) → Consumes before after (take count room) → count ≡ 1048576 →
      OnOk r (Appends a c (codes "answers is too long: there is room for 1048575 bytes\n")) → OnOk r (IfSome before (λ bytes. Appends a c (output_of bytes)))
  run-long None after h w q = nothing-known r
  run-long (Some xs) None h w q = absurd h
  run-long (Some xs) (Some ys) h w q =
      let size : 1048576 ≤ length xs = omega (arith, ap length h, length-append (take count room) ys, length-take-le count room within) in
      rw (output-long xs size) q
