-- Fields read one after another, for covered callers: what follows a field that was read, and one inside which the state ends. `e` is the
-- contract of the call, `t ≡ field_of s at n`, and `h` what the match on its answer tells. An answer of a chain is one line from the first
-- field to the last, `read _ _ e₁ h₁ (read _ _ e₂ h₂ (ended _ _ e₃ h₃))`, or with `refl` inside where all were read. Assumes nothing.
use Rattle.std.specs.Prelude.{Option, None, Some}
use Prim.Native.Nat.{ℕ}
use mathlib.Core.Path.{◌≡◌, sym, ap, ◌∙◌}
use Rattle.reader.specs.Fields.{on_got, then_of}
use Rattle.reader.specs.declared.Took.{Took}

module _ {ℓ} {A : Type ℓ} (short : A) (rest : ℕ → ℕ → A) {t u : Took} (e : t ≡ u) where
  follow : (g : Option ℕ) → t.got ≡ g → then_of u short rest ≡ on_got g short (λ v. rest v t.next)
  unfolding then_of
  follow g h = sym (ap (λ (x : Took). then_of x short rest) e) ∙ ap (λ (x : Option ℕ). on_got x short (λ v. rest v t.next)) h

  pub read : {v : ℕ} → t.got ≡ Some v → {x : A} → x ≡ rest v t.next → x ≡ then_of u short rest
  read {v} h d = d ∙ sym (follow (Some v) h)

  pub ended : t.got ≡ None → short ≡ then_of u short rest
  ended h = sym (follow None h)
