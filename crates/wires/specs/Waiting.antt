-- The messages that wait on a channel, oldest first: adding one, and taking one out.
use Rattle.std.specs.Prelude.{ℕ, zero, suc, Bool, cond, List, [], ◌∷◌, ◌++◌, length, Ok, Err, Result, nat_lt}

-- fewer than 128 wait
abbrev pub has_room : {X : Type 0} → List X → Bool
has_room xs = nat_lt (length xs) 128

-- what adding answers: it is refused with 14 where there is no room, and only there
abbrev pub judged_add : {X : Type 0} → List X → Result Unit ℕ
judged_add xs = cond (has_room xs) (Ok tt) (Err 14)

-- what waits after adding a message: it comes last, and where there is no room all is as before
abbrev pub added : {X : Type 0} → List X → X → List X
added xs message = cond (has_room xs) (xs ++ message ∷ []) xs

-- what waits after the message at an index was taken; the rest keep their order
abbrev pub without : {X : Type 0} → List X → ℕ → List X
without [] i = []
without (x ∷ xs) zero = xs
without (x ∷ xs) (suc i) = x ∷ without xs i
