-- Laws of exceptions.
use mathlib.Core.Path.{◌≡◌, refl, sym, ap, ◌∙◌}
use mathlib.Core.Bool.{false, false≢true}
use Rattle.word.proofs.Choices.{by-test}
use Rattle.rings_hda.specs.Exceptions as rings
use Rattle.rings_hda.proofs.Agreement.{is-none}
use Rattle.link_hda.specs.Exceptions.{Exception, None, is_none, in_ring}

-- an exception is not none
pub never : {A : Type 0} (e : Exception) → is_none e ≡ false → e ≡ None → A
never e r h = absurd (false≢true (sym r ∙ ap is_none h))

-- where the ring's is none here, it is none there
pub ring-none : (e : rings.Exception) → in_ring e ≡ None → e ≡ rings.None
ring-none e = by-test (rings.is_none e) (λ t h. is-none e t) (λ t. rw t (never _ refl))

-- .. and where it is one here, it is one there
pub ring-some : (e : rings.Exception) → is_none (in_ring e) ≡ false → rings.is_none e ≡ false
ring-some e = by-test (rings.is_none e) (λ t. rw t (λ h. absurd (false≢true (sym h)))) (λ t h. t)
