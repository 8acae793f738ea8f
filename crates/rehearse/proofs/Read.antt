-- Laws of the known bytes of a reader and a writer: what is read in more than one step, and what is printed of what was read. Assumes nothing.
use Rattle.std.proofs.Common.{◌≡◌, ℕ, ◌+◌, ◌-◌, ◌<◌, ◌≤◌, Bool, true, false, ltb, List, [], ◌++◌, length, take, drop, None, Some, Ok, Err, OnOk, IfSome, sym, refl, ap, ◌∙◌, append_assoc, append-nil, arith, length-take-le, take_at, take_all, ltb-true, ltb-false}
use Rattle.std.proofs.Math.Seq.{take-append-add}
use Rattle.std.proofs.lemmas.List.{take-append-le}
use Rattle.std.specs.declared.option.Option.{Option}
use Rattle.std.specs.declared.result.Result.{Result}
use Rattle.std.specs.Io.KnownBytes.{Appends, Consumes, IsAtEnd}
use Rattle.rehearse.specs.declared.play.Tally.{Tally}
use Rattle.rehearse.specs.Printed.{rehearsed_of, summary_of}

consumes-more : (a b c : Option (List ℕ)) (x y : List ℕ) → Consumes a b x → Consumes b c y → Consumes a c (x ++ y)
consumes-more None b c x y h k = tt
consumes-more (Some xs) None c x y h k = absurd h
consumes-more (Some xs) (Some ys) None x y h k = absurd k
consumes-more (Some xs) (Some ys) (Some zs) x y h k = rw (h, k) (sym (append_assoc x y zs))

-- what stands at the room's start after one read more
read-front : (room part : List ℕ) (done count : ℕ) → done ≤ length room → count ≤ length part →
    take (done + count) (take done room ++ (part ++ drop (length room - done) (drop done room))) ≡ take done room ++ take count part
read-front room part done count h k =
    let front : List ℕ = take done room in
    let rest : List ℕ = drop (length room - done) (drop done room) in
    ap (λ (n : ℕ). take (n + count) (front ++ (part ++ rest))) (sym (length-take-le done room h))
    ∙ take-append-add front (part ++ rest) count
    ∙ ap (λ (l : List ℕ). front ++ l) (take-append-le count part rest k)

pub read-more : (a b c : Option (List ℕ)) (room part : List ℕ) (done count : ℕ) → done ≤ length room → count ≤ length part →
    Consumes a b (take done room) → Consumes b c (take count part) →
    Consumes a c (take (done + count) (take done room ++ (part ++ drop (length room - done) (drop done room))))
read-more a b c room part done count h k e f = rw (read-front room part done count h k) (consumes-more a b c _ _ e f)

-- what was read is as much of the file as fits into the room
module _ (n : ℕ) (room : List ℕ) (whole : length room ≡ n) (count : ℕ) (within : count ≤ length room) where
  read-part : (xs ys : List ℕ) → xs ≡ take count room ++ ys → (count < length room → ys ≡ []) → (t : Bool) → ltb count (length room) ≡ t → take n xs ≡ take count room
  read-part xs ys h e true f =
      let all : xs ≡ take count room = h ∙ ap (λ (l : List ℕ). take count room ++ l) (e (ltb-true count (length room) f)) ∙ append-nil (take count room) in
      rw all (take_all n (take count room) (omega (arith, length-take-le count room within)))
  read-part xs ys h e false f =
      rw h (take_at (take count room) ys n (omega (arith, length-take-le count room within, ltb-false count (length room) f)))

  pub run-done : {X E : Type 0} (r : Result X E) (before after a c : Option (List ℕ)) → Consumes before after (take count room) → (count < length room → IsAtEnd after) →
      (t : Tally) → t ≡ rehearsed_of (take count room) → OnOk r (Appends a c (summary_of t)) →
      OnOk r (IfSome before (λ bytes. Appends a c (summary_of (rehearsed_of (take n bytes)))))
  run-done (Ok v) None after a c h e t et q = tt
  run-done (Err v) None after a c h e t et q = tt
  run-done r (Some xs) None a c h e t et q = absurd h
  run-done r (Some xs) (Some ys) a c h e t et q =
      rw (read-part xs ys h e (ltb count (length room)) refl, ← et) q
