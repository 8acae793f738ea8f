-- What is returned can be taken apart again: a caller has the number, the level, the message's bit and the value from it. Assumes nothing.
use Prim.Native.Nat.{ℕ, ◌/◌, ◌%◌, ◌^◌, ◌<◌}
use mathlib.Core.Path.{◌≡◌, ◌∙◌}
use mathlib.Core.Bool.{Bool, true, false}
use native.Mathlib.Omega.{arith}
use Rattle.reply.specs.Replies.{bit_of, reply_of, fill_reply_of}

module _ (number value : ℕ) where
  pub low-returned : (level sent : Bool) → reply_of number level sent value % 256 ≡ number % 256
  low-returned true true = omega arith
  low-returned true false = omega arith
  low-returned false true = omega arith
  low-returned false false = omega arith

  pub number-returned : number < 256 → (level sent : Bool) → reply_of number level sent value % 256 ≡ number
  number-returned small level sent = let same : number % 256 ≡ number = omega arith in low-returned level sent ∙ same

  pub level-returned : (level sent : Bool) → reply_of number level sent value / 2 ^ 8 % 2 ≡ bit_of level 1
  level-returned true true = omega arith
  level-returned true false = omega arith
  level-returned false true = omega arith
  level-returned false false = omega arith

  pub message-returned : (level sent : Bool) → reply_of number level sent value / 2 ^ 9 % 2 ≡ bit_of sent 1
  message-returned true true = omega arith
  message-returned true false = omega arith
  message-returned false true = omega arith
  message-returned false false = omega arith

  pub value-returned : (level sent : Bool) → reply_of number level sent value / 2 ^ 32 ≡ value
  value-returned true true = omega arith
  value-returned true false = omega arith
  value-returned false true = omega arith
  value-returned false false = omega arith

-- the same of a call that fills lent space, up to 64 GiB of it and at rates below 2 ^ 20
module _ (number count rate : ℕ) (named : number < 256) (counted : count < 2 ^ 36) (rated : rate < 2 ^ 20) where
  pub fill-number-returned : fill_reply_of number count rate % 256 ≡ number
  fill-number-returned = omega arith

  pub count-returned : fill_reply_of number count rate / 2 ^ 8 % 2 ^ 36 ≡ count
  count-returned = omega arith

  pub rate-returned : fill_reply_of number count rate / 2 ^ 44 ≡ rate
  rate-returned = omega arith
