-- Rising lists: what the book retires by a test of each position is what the device retires from the front. Assumes nothing.
use Prim.Native.Nat.{ℕ, ◌+◌, ◌*◌, ◌≤◌, ◌<◌}
use mathlib.Core.Path.{◌≡◌, refl, sym, ap}
use mathlib.Core.Bool.{Bool, true, false, cond, ◌&&◌, and-eq-true_iff}
use mathlib.Core.List.{List, [], ◌∷◌, ◌++◌}
use native.Mathlib.Omega.{arith}
use native.Mathlib.Numerals.{one-add}
use borrow.Author.Tests.{ltb-true, leb-true, leb-false, lt-leb}
use lib.Dec.{ltb, leb}
use lib.ListN.{length, drop}
use Rattle.word.proofs.Choices.{left, right}
use Rattle.positions.specs.Positions.{rises_of, up_to_of, spaced_from, spaced_of}
use Rattle.book.specs.Book.{limit, up_to, above}
use Rattle.book.specs.Claim.{Rises, FourFrom, FourApart}

pub rises-all : (lo : ℕ) (ps : List ℕ) (hi : ℕ) → lo ≤ hi → rises_of lo ps hi ≡ true → Rises lo ps hi
unfolding rises_of
rises-all lo [] hi h e = h
rises-all lo (p ∷ ps) hi h e =
    let a = (and-eq-true_iff (ltb lo p) (leb p hi && rises_of p ps hi)).0 e in
    let b = (and-eq-true_iff (leb p hi) (rises_of p ps hi)).0 a.1 in
    (ltb-true lo p a.0, rises-all p ps hi (leb-true p hi b.0) b.1)

pub rises-same : {lo lo' hi hi' : ℕ} {ps ps' : List ℕ} → lo ≡ lo' → ps ≡ ps' → hi ≡ hi' → Rises lo ps hi → Rises lo' ps' hi'
rises-same a b c r = rw (sym a, sym b, sym c) r

-- from further down, its bounds, and one list behind another
rises-from : (lo mid : ℕ) (ps : List ℕ) (hi : ℕ) → lo ≤ mid → Rises mid ps hi → Rises lo ps hi
rises-from lo mid [] hi h r = omega (arith, h, r)
rises-from lo mid (p ∷ ps) hi h r = (omega (arith, h, r.0), r.1)

pub rises-room : (lo : ℕ) (ps : List ℕ) (hi : ℕ) → Rises lo ps hi → lo ≤ hi
rises-room lo [] hi r = r
rises-room lo (p ∷ ps) hi r = omega (arith, r.0, rises-room p ps hi r.1)

pub rises-append : (lo : ℕ) (ps : List ℕ) (mid : ℕ) (qs : List ℕ) (hi : ℕ) → Rises lo ps mid → Rises mid qs hi → Rises lo (ps ++ qs) hi
rises-append lo [] mid qs hi r t = rises-from lo mid qs hi r t
rises-append lo (p ∷ ps) mid qs hi r t = (r.0, rises-append p ps mid qs hi r.1 t)

-- where all are above c
none-up : (c lo : ℕ) (ps : List ℕ) (hi : ℕ) → c ≤ lo → Rises lo ps hi → up_to c ps ≡ []
none-up c lo [] hi h r = refl
none-up c lo (p ∷ ps) hi h r = rw (lt-leb p c (omega (arith, r.0)), none-up c p ps hi (omega (arith, r.0)) r.1)

up_step : (b : Bool) (c lo p : ℕ) (ps : List ℕ) → lo ≤ c → lo < p → (b ≡ true → Rises p (up_to c ps) c) → (b ≡ false → up_to c ps ≡ [])
    → Rises lo (cond b (p ∷ up_to c ps) (up_to c ps)) c
up_step true c lo p ps h k f g = (k, f refl)
up_step false c lo p ps h k f g = rw (g refl) h

-- those up to c
pub up-rises : (c lo : ℕ) (ps : List ℕ) (hi : ℕ) → lo ≤ c → Rises lo ps hi → Rises lo (up_to c ps) c
up-rises c lo [] hi h r = h
up-rises c lo (p ∷ ps) hi h r =
    up_step (leb p c) c lo p ps h r.0 (λ e. up-rises c p ps hi (leb-true p c e) r.1) (λ e. none-up c p ps hi (omega (arith, leb-false p c e)) r.1)

all_above : (c lo : ℕ) (ps : List ℕ) (hi : ℕ) → c ≤ lo → Rises lo ps hi → above c ps ≡ ps
all_above c lo [] hi h r = refl
all_above c lo (p ∷ ps) hi h r = rw (lt-leb p c (omega (arith, r.0)), all_above c p ps hi (omega (arith, r.0)) r.1)

above_step : (b : Bool) (c p : ℕ) (ps : List ℕ) → (b ≡ true → above c ps ≡ drop (up_to_of c ps) ps) → (b ≡ false → above c ps ≡ ps)
    → cond b (above c ps) (p ∷ above c ps) ≡ drop (cond b (1 + up_to_of c ps) 0) (p ∷ ps)
above_step true c p ps f g = rw one-add (f refl)
above_step false c p ps f g = ap (λ (l : List ℕ). p ∷ l) (g refl)

pub above-drop : (c lo : ℕ) (ps : List ℕ) (hi : ℕ) → Rises lo ps hi → above c ps ≡ drop (up_to_of c ps) ps
unfolding up_to_of
above-drop c lo [] hi r = refl
above-drop c lo (p ∷ ps) hi r =
    above_step (leb p c) c p ps (λ _. above-drop c p ps hi r.1) (λ e. all_above c p ps hi (omega (arith, leb-false p c e)) r.1)

halves-step : (b : Bool) (c p : ℕ) (ps : List ℕ) → (b ≡ true → up_to c ps ++ above c ps ≡ ps) → (b ≡ false → (up_to c ps ≡ []) × (above c ps ≡ ps))
    → cond b (p ∷ up_to c ps) (up_to c ps) ++ cond b (above c ps) (p ∷ above c ps) ≡ p ∷ ps
halves-step true c p ps f g = ap (λ (l : List ℕ). p ∷ l) (f refl)
halves-step false c p ps f g = rw ((g refl).0, (g refl).1)

-- none is lost between those retired and those left
pub halves : (c lo : ℕ) (ps : List ℕ) (hi : ℕ) → Rises lo ps hi → up_to c ps ++ above c ps ≡ ps
halves c lo [] hi r = refl
halves c lo (p ∷ ps) hi r =
    halves-step (leb p c) c p ps (λ _. halves c p ps hi r.1)
    (λ e. (none-up c p ps hi (omega (arith, leb-false p c e)) r.1, all_above c p ps hi (omega (arith, leb-false p c e)) r.1))

-- few positions 4 apart fit between two counts that are at most 16,384 bytes apart
spaced-room : (p offset hi : ℕ) (ps : List ℕ) → spaced_from p offset hi ps ≡ true → p + 4 * length ps ≤ hi
unfolding spaced_from
spaced-room p offset hi [] f = omega (arith, leb-true (p + offset) hi f)
spaced-room p offset hi (q ∷ ps) f = omega (arith, leb-true (p + 4) q (left (leb (p + 4) q) _ f), spaced-room q offset hi ps (right (leb (p + 4) q) _ f))

pub few-pending : (lo offset hi : ℕ) (ps : List ℕ) → spaced_of offset hi ps ≡ true → Rises lo ps hi → hi ≤ lo + 16384 → length ps < limit
few-pending lo offset hi [] f r near = omega arith
few-pending lo offset hi (p ∷ ps) f r near = omega (arith, r.0, spaced-room p offset hi ps f)

-- positions 4 apart
four-from : (p offset hi : ℕ) (ps : List ℕ) → spaced_from p offset hi ps ≡ true → FourFrom p ps
unfolding spaced_from
four-from p offset hi [] f = tt
four-from p offset hi (q ∷ ps) f = (leb-true (p + 4) q (left (leb (p + 4) q) _ f), four-from q offset hi ps (right (leb (p + 4) q) _ f))

pub four-apart : (offset hi : ℕ) (ps : List ℕ) → spaced_of offset hi ps ≡ true → FourApart ps
four-apart offset hi [] f = tt
four-apart offset hi (p ∷ ps) f = four-from p offset hi ps f
