-- Room on a channel: what a test of it tells, and that taking a message leaves no less.
use Rattle.std.proofs.Common.{◌≡◌, ℕ, zero, suc, ◌+◌, ◌<◌, ◌≤◌, Bool, true, false, not, ◌&&◌, ◌||◌, ltb, leb, List, [], ◌∷◌, length, arith}
use Rattle.std.proofs.lemmas.Bool.Decides.{nat_tests}
use Rattle.wires.specs.Waiting.{without}

pub without_shorter : {X : Type 0} (xs : List X) (i : ℕ) → length (without xs i) ≤ length xs
without_shorter [] i = omega arith
without_shorter (x ∷ xs) zero = omega arith
without_shorter (x ∷ xs) (suc i) = let h = without_shorter xs i in omega arith

-- a command has room for k answers and, if it sends one on, for a command
pub room_for : (a k n left : ℕ) (sends room : Bool) → not room ≡ (ltb 128 (a + k) || (sends && leb 128 n)) → room ≡ true → left ≤ n
    → (a + k ≤ 128) × (sends ≡ true → left < 128)
room_for a k n left sends false e f h = absurd (grind (arith, nat_tests))
room_for a k n left true true e f h = (grind (arith, nat_tests), λ _. grind (arith, nat_tests))
room_for a k n left false true e f h = (grind (arith, nat_tests), λ s. absurd (grind (arith, nat_tests)))
