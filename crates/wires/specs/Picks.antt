-- Which of the waiting messages a pick shows, in each kind of channel: an index, the oldest being 0.
use Rattle.std.specs.Prelude.{ℕ, zero, suc, ◌%◌, Bool, cond, ◌&&◌, List, [], ◌∷◌, length, Some, None, Option}
use Rattle.std.specs.List.{slice_get}
use Rattle.bedrock.specs.declared.party.Party.{Party}
use Rattle.bedrock.specs.Parties.{same_party}

-- a number modulo n, and 0 where n is 0
abbrev pub modulo : ℕ → ℕ → ℕ
modulo p zero = 0
modulo p (suc n) = p % suc n

-- unordered: the pick modulo the count that waits
abbrev pub unordered_pick : {X : Type 0} → List X → ℕ → ℕ
unordered_pick xs p = modulo p (length xs)

-- single file: the oldest
abbrev pub single_file_pick : {X : Type 0} → List X → ℕ → ℕ
single_file_pick xs p = 0

-- the index of the first that passes a test, and the length where none does
abbrev pub first_by : {X : Type 0} → (X → Bool) → List X → ℕ
first_by test [] = 0
first_by test (x ∷ xs) = cond (test x) 0 (suc (first_by test xs))

-- two messages have the same sender and the same receiver
abbrev pub same_pair : {X : Type 0} → (X → Party) → (X → Party) → X → X → Bool
same_pair from to a b = same_party (from a) (from b) && same_party (to a) (to b)

-- the oldest with the same sender and receiver as the message that was found, if one was
abbrev pub oldest_of_pair : {X : Type 0} → (X → Party) → (X → Party) → List X → Option X → ℕ
oldest_of_pair from to xs None = 0
oldest_of_pair from to xs (Some message) = first_by (same_pair from to message) xs

-- paired: the oldest with the same sender and receiver as the one that the unordered kind shows
abbrev pub paired_pick : {X : Type 0} → (X → Party) → (X → Party) → List X → ℕ → ℕ
paired_pick from to xs p = oldest_of_pair from to xs (slice_get xs (unordered_pick xs p))
