-- Laws of exceptions.
use mathlib.Core.Path.{◌≡◌, refl, sym, ap, ◌∙◌}
use mathlib.Core.Bool.{Bool, true, false, cond, false≢true}
use Rattle.codec_hda.specs.Exceptions.{Exception, None, VerbAbsent, is_none, unless}

-- an exception is not none
pub never : {A : Type 0} (e : Exception) → is_none e ≡ false → e ≡ None → A
never e r h = absurd (false≢true (sym r ∙ ap is_none h))

-- so where `e` would be one and there is none, the test has held
pub passed : (t : Bool) (a e : Exception) → is_none e ≡ false → cond t a e ≡ None → t ≡ true
passed true a e r h = refl
passed false a e r h = never e r h

-- .. a node has the verb, and of a choice by that test the first
pub has : (t : Bool) {A : Type 0} (x y : A) → unless t VerbAbsent ≡ None → cond t x y ≡ x
has t x y h = rw (passed t None VerbAbsent refl h)
